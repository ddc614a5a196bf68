-- `lend` lends the block under a lifetime of its own.
use Rattle.seize_store.proofs.Kit.{◌≡◌, ℕ, [], ◌∷◌, refl, ap, proved, leaves, Val, vptr, SProp, emp, Lft, Share, Fml, ftrue, fsep, flft, ‵, raw, ◌⊛◌, some, later, ◌$◌, ◌∵◌, !, qed, by, move, keep, drop, split, split3, join, group, fsplit, fjoin, pick, use0, use1, use2, rewrite, await, no_more, and_then, returns, enter, alloc_all, pass_all, free_all, look_at, get, sets, agg, fact, fact_i, tables, yes, no, RattleType, owns, types_at, plain, RefOf, shr_vals, shr_Tells, unhide, nothing, heard, Stays, stay_dropped, walk_of, Goes-dropped}
use mir.Syntax.{a_type, dcons, dnil, named}
use mir.MapTy.{inst_fn}
use base.Fml.{fhide}
use base.Stored.{Gv}
use contract.BorrowLft.{◌⊑◌}
use denote.Builtin.{RawPtr, unit}
use denote.Memory.{hidden_shr}
use denote.Param.{param, bounded, layout}
use denote.Param.Laws.{param_laws}
use denote.RawPtr.{Ptr, ptr_val}
use denote.Struct.Lending.{lent_out}
use denote.Struct.Tuple.{Tuple}
use Rattle.core.specs.contracts.marker.PhantomData as marker
use Rattle.std_alloc.proofs.Pairs.{pair_val, pair_Typed, pair_of}
use Rattle.seize_content.specs.Contents.{in_hand, place_shares, pool_owns, ticket_owns}
use Rattle.seize_content.specs.Goods.{Goods}
use Rattle.seize_content.specs.Stages.{lent}
use Rattle.seize_content.specs.contracts.loan.Pool as pool
use Rattle.seize_content.specs.contracts.ticket.Ticket as ticket
use Rattle.seize_content.proofs.Fields.{token, Marked, marked_made}
use Rattle.seize_content.proofs.Turns.{lends}
use Rattle.seize_table.specs.Pairs.{right_of}
use Rattle.seize_store.specs.Block.{hull_owns}
use Rattle.seize_store.specs.Lending.{block_at}
use Rattle.seize_store.specs.contracts.lender.Lender as lender
use Rattle.seize_store.proofs.Fields.{single, Hull}
use Rattle.seize_store.proofs.Lenders.{Lender, block_lendable, hull_tells, hull_vals, pointer_good}
use Rattle.seize_store.specs.contracts.lender.Lender.lend.{ended, clauses}
use Rattle.seize_store.specs.contracts.lender.Lender.lend.Key.{name as #self}
use Rattle.seize_store.proofs.lender.Lender.lend.Statement.{statement}
use Rattle.seize_store.proofs.lender.Lender.lend.Code as code

pub lend_spec : {M : Type 1} → statement M
lend_spec 𝓤 𝓛 𝓜 𝓡 wired Y W Z LY LW LZ gp dp met =
    let H = 𝓛.H in let 𝓣 = tables 𝓤 H 𝓜 𝓡 𝓡.env in let X : RattleType = param 0 Y in let U : RattleType = param 1 W in let R : RattleType = param 2 Z in let En = ended Y W Z gp dp in let inst = bounded (a_type ∷ a_type ∷ a_type ∷ []) (Y, (W, (Z, tt))) (dcons dp dnil) in let fn = inst_fn inst code.function in
    let Row : RattleType = Lender X U R gp in let C : RattleType = Hull X U R gp in let T : RattleType = ticket.the_row in let P : RattleType = pool.the_row in let Two : RattleType = Tuple (T ∷ P ∷ []) in let c = clauses Y W Z gp dp 𝓛 𝓜.mem 𝓡.returns in
    let self = RefOf (0 ∷ []) tt (plain (λ _. Row)) (λ _. tt) in let hs : Stays En.signature.params En.kept = (stay_dropped self yes, (stay_dropped (plain (λ _. C)) no, tt)) in
    proved 𝓛 En hs c 𝓜 𝓡 (Goes-dropped 𝓛 4 self yes (λ κs x f. refl), (Goes-dropped 𝓛 4 (plain (λ _. C)) no (λ κs x f. refl), tt)) (#self inst) fn (code.unfolded 𝓤 H 𝓜 𝓡 wired (Y, (W, (Z, tt))) dp)
    (λ κs. (shr_vals, (hull_vals X U R gp, tt))) (λ κs. (shr_Tells (named 0) κs.0 Row, (hull_tells X U R gp, tt))) (λ κs qs bounds a gh are.
    let rb : ℕ = a.0.ref_ptr.0 in let ro : ℕ = a.0.ref_ptr.1 in let κ : Lft = κs.0 in let q : Share = qs.0 in let d : Row.Denot = a.0.now in let h : C.Denot = a.1.0 in let p : Ptr = d.at in let k : ℕ = d.tag in let n : ℕ = right_of k in let x : Z.Denot = h.value in let g : Gv = R.coded.code x in
    let l : Lft = κs.1.1.1.0 in let e : Share = qs.1.1.1.0 in let G : Goods = block_at X U R gp.label p k in let others : Fml = fsep (flft κs.1.0 qs.1.0) (fsep (flft κs.1.1.0 qs.1.1.0) (fsep (flft l e) ftrue)) in let v : Val = single (ptr_val h.at) in
    let y : (walk_of 𝓛 En hs c).Ghost = ((κs, qs, bounds, a, (vptr rb ro ∷ [], (v ∷ [], tt))), gh) in let Post : Val → SProp 𝓤 = (walk_of 𝓛 En hs c).post y in let Asked : Type 0 = (h.at, h.tag) ≡ (p, k) in let Inside : Type 0 = l ⊑ Z.lives in
    qed 𝓛 (((‵ (flft κ q) ⊛ ‵ others) ⊛ ‵ (owns (types_at En.signature.params κs) a y.0.4)) ∷ raw (fact 𝓤 _) ∷ raw (fact 𝓤 _) ∷ raw (fact 𝓤 Inside) ∷ raw (fact 𝓤 Asked) ∷ []) ∵ move ! (3 ∷ 4 ∷ []) $ heard ! Inside (λ within. heard ! Asked (λ asked. keep ! (0 ∷ []) $
    split ! $ split ! $ move ! (2 ∷ []) $ fsplit ! $ fsplit ! $ keep ! (1 ∷ 2 ∷ 3 ∷ 4 ∷ []) $ move ! (1 ∷ []) $ fsplit ! $ fsplit ! $ drop ! $ use1 𝓛 (‵ (hull_owns X U R gp.label h.at h.tag x)) (base.Logic.id⊢ 𝓤 _) $
    rewrite ! 0 (λ (s : Ptr). ‵ (hull_owns X U R gp.label s h.tag x)) (ap (λ (t : Ptr × ℕ). t.0) asked) refl $ rewrite ! 0 (λ (j : ℕ). ‵ (hull_owns X U R gp.label p j x)) (ap (λ (t : Ptr × ℕ). t.1) asked) refl $
    use1 𝓛 (‵ (in_hand G n x)) (base.Logic.id⊢ 𝓤 _) $
    -- [what is in hand; nothing; the lender; the token; others]
    keep ! (0 ∷ 2 ∷ 3 ∷ 4 ∷ []) $ move ! (3 ∷ []) $ fsplit ! $ move ! (1 ∷ []) $ fsplit ! $ move ! (1 ∷ []) $ fsplit ! $
    -- [the type's token; nothing; another's; another's; what is in hand; the lender; the token]
    enter ! 𝓣.C 𝓣.Λ fn (vptr rb ro ∷ v ∷ []) Post $ alloc_all ! (λ l'. pass_all ! refl ((tt, tt), (pointer_good h.at, tt)) $
    move ! (5 ∷ []) $ use1 𝓛 (‵ (hidden_shr (Marked RawPtr) κ (record {}, tt) rb ro) ⊛ ‵ (fhide (place_shares G n κ))) (lent_out 𝓛 (lender.struct X U R gp) (lender.the_codes Y.Denot W.Denot Z.Denot X.coded U.coded R.coded (marker.the_row RawPtr).coded) (lender.the_heap X U R gp) (lender.the_lent X U R gp) κ d rb ro) $ split ! $ drop ! $ unhide ! $
    -- [its place; the type's token; nothing; another's; another's; what is in hand; the token]
    move ! (0 ∷ 6 ∷ 5 ∷ 1 ∷ []) $ group ! 4 $ use1 𝓛 (later (some (λ (a' : ℕ). ‵ (ticket_owns n (lent a' g)) ⊛ ‵ (pool_owns n a' g) ⊛ ‵ (flft l e)) ⊛ ‵ (flft κ q))) (lends 𝓛 𝓜 𝓡 G n κ q (block_lendable X U R gp.label p k (param_laws 2 Z LZ)) l within x e) $ await ! tt $ split ! $ pick ! (λ life. split3 ! $
    -- [the ticket; the pool; the type's token; the token; nothing; another's; another's]
    sets ! (agg ! (no_more !)) refl (tt, tt) $ sets ! (agg ! (and_then ! (get ! refl) (no_more !))) refl (tt, (tt, tt)) $
    sets ! (agg ! (no_more !)) refl (tt, tt) $ sets ! (agg ! (and_then ! (get ! refl) (no_more !))) refl (tt, (tt, tt)) $ let both : Val = pair_val token token in
    sets ! (agg ! (and_then ! (get ! refl) (and_then ! (get ! refl) (no_more !)))) refl (pair_Typed (layout T) (layout P) token token (tt, (tt, tt)) (tt, (tt, tt))) $
    use0 𝓛 (‵ ((Marked unit).own_val (record {}, tt) (token ∷ []))) (marked_made unit 𝓛) $ fjoin ! $ move ! (1 ∷ []) $ use0 𝓛 (‵ ((Marked unit).own_val (record {}, tt) (token ∷ []))) (marked_made unit 𝓛) $ fjoin ! $
    let r : T.Denot = record { marker = record {}; name = n; says = lent life g } in let s : P.Denot = record { marker = record {}; name = n; life = life; value = g } in
    move ! (1 ∷ 0 ∷ []) $ use2 𝓛 (‵ (Two.own_val (r, s) (both ∷ []))) (pair_of 𝓛 T P r s token token) $
    -- [the result; the type's token; the token; nothing; another's; another's]
    move ! (1 ∷ 3 ∷ []) $ fjoin ! $ move ! (3 ∷ 0 ∷ []) $ fjoin ! $ move ! (3 ∷ 0 ∷ []) $ fjoin ! $ move ! (2 ∷ 0 ∷ []) $ join ! $
    let Told : Type 0 = ((n ≡ n) × (lent life g ≡ lent life g)) × ((n ≡ n) × (g ≡ g)) in use0 𝓛 (raw (fact 𝓤 Told)) (fact_i 𝓤 Told (emp 𝓤) ((refl, refl), (refl, refl))) $ nothing ! $ nothing ! $ fjoin ! $ nothing ! $ fjoin ! $
    returns ! (look_at ! 0 refl) $ free_all ! refl $ keep ! (2 ∷ 0 ∷ 3 ∷ 1 ∷ []) $ by ! (leaves 𝓛 En hs c y both (r, s) (tt, (tt, tt)) (tt, (tt, tt))))))))
