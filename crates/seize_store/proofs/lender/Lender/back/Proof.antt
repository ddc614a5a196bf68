-- `back` ends the loan's lifetime, and the block comes back. Where its chunk lies follows from where the row begins.
use Rattle.seize_store.proofs.Kit.{◌≡◌, ℕ, List, [], ◌∷◌, refl, sym, ap, ◌∙◌, proved, leaves, Val, vptr, SProp, emp, never, id⊢, Lft, Share, Fml, ftrue, fsep, flft, ‵, raw, ◌⊛◌, some, given, later, at_ret, ◌$◌, ◌∵◌, !, qed, by, move, keep, drop, split, split3, join, group, fsplit, fjoin, fpick, pick, learn, use0, use1, rewrite, await, stop, fld, load, of_opd, no_more, and_then, first, blocks, exec, returns, enter, alloc_all, pass_all, free_all, look_at, get, through, sets, env, agg, sub, whole, fact, fact_i, tables, yes, RattleType, owns, types_at, plain, RefOf, shr_vals, shr_Tells, block_ptr, unhide, nothing, heard, Stays, stay_dropped, walk_of, Goes-dropped}
use Rattle.std.proofs.Common.{◌*◌, ◌^◌, ◌<◌, ◌≤◌, arith, length, mul-le-mul_right, subst, w64}
use mir.Syntax.{a_type, dcons, dnil, named}
use mir.MapTy.{inst_fn}
use mir.Val.{vint}
use base.Fml.{fhide}
use base.Stored.{Gv}
use types.Run.{bin, size_word}
use types.ByLocal.{is, sets_last}
use types.Part.{look_in}
use denote.Builtin.{RawPtr, usize}
use denote.Laws.{Is, shows}
use denote.Memory.{cell_at, hidden_shr}
use denote.Param.{param, bounded}
use denote.Plain.{uint_vals, uint_Tells}
use denote.RawPtr.{Ptr, ptr_val, in_a_block}
use denote.Steps.{peeks, looks, shuts}
use denote.Struct.Lending.{lent_out}
use Rattle.core.proofs.alloc.Shapes.{after}
use Rattle.core.specs.contracts.marker.PhantomData as marker
use Rattle.seize_content.specs.Contents.{in_hand, place_shares, pool_owns, ticket_owns}
use Rattle.seize_content.specs.Goods.{Goods}
use Rattle.seize_content.specs.Stages.{Stage, lent}
use Rattle.seize_content.specs.contracts.loan.Pool as pool
use Rattle.seize_content.specs.contracts.ticket.Ticket as ticket
use Rattle.seize_content.proofs.Fields.{token, Marked}
use Rattle.seize_content.proofs.Tokens.{no_bytes, pool_tells, ticket_tells}
use Rattle.seize_content.proofs.Turns.{comes}
use Rattle.seize_table.specs.Pairs.{right_of}
use Rattle.seize_store.specs.Block.{lain_owns}
use Rattle.seize_store.specs.Body.{stride}
use Rattle.seize_store.specs.Lending.{block_at}
use Rattle.seize_store.specs.Row.{IsRow, at_entry, fact as row_fact}
use Rattle.seize_store.specs.contracts.chunk.Base as base_row
use Rattle.seize_store.specs.contracts.lender.Lender as lender
use Rattle.seize_store.proofs.Fields.{single, single_good, Hull, hull_in}
use Rattle.seize_store.proofs.Lenders.{Lender}
use Rattle.seize_store.proofs.Pieces.{Base, BaseData, base_told, base_opened, begins_at, uncapped}
use Rattle.seize_store.specs.contracts.lender.Lender.back.{ended, clauses}
use Rattle.seize_store.specs.contracts.lender.Lender.back.Key.{name as #self}
use Rattle.seize_store.proofs.lender.Lender.back.Statement.{statement}
use Rattle.seize_store.proofs.lender.Lender.back.Code as code

pub back_spec : {M : Type 1} → statement M
back_spec 𝓤 𝓛 𝓜 𝓡 wired Y W Z LY LW LZ gp dp met =
    let H = 𝓛.H in let 𝓣 = tables 𝓤 H 𝓜 𝓡 𝓡.env in let X : RattleType = param 0 Y in let U : RattleType = param 1 W in let R : RattleType = param 2 Z in let En = ended Y W Z gp dp in let inst = bounded (a_type ∷ a_type ∷ a_type ∷ []) (Y, (W, (Z, tt))) (dcons dp dnil) in let fn = inst_fn inst code.function in
    let Row : RattleType = Lender X U R gp in let B : RattleType = Base X U R in let E : RattleType = BaseData X U R in let T : RattleType = ticket.the_row in let P : RattleType = pool.the_row in let c = clauses Y W Z gp dp 𝓛 𝓜.mem 𝓡.returns in let s : ℕ = stride X U R in
    let self = RefOf (0 ∷ []) tt (plain (λ _. Row)) (λ _. tt) in let where' = RefOf (1 ∷ []) tt (plain (λ _. B)) (λ _. tt) in
    let hs : Stays En.signature.params En.kept = (stay_dropped self yes, (stay_dropped where' yes, (stay_dropped (plain (λ _. usize)) yes, (stay_dropped (plain (λ _. T)) yes, (stay_dropped (plain (λ _. P)) yes, tt))))) in
    proved 𝓛 En hs c 𝓜 𝓡 (Goes-dropped 𝓛 5 self yes (λ κs x f. refl), (Goes-dropped 𝓛 5 where' yes (λ κs x f. refl), (Goes-dropped 𝓛 5 (plain (λ _. usize)) yes (λ κs x f. refl), (Goes-dropped 𝓛 5 (plain (λ _. T)) yes (λ κs x f. refl), (Goes-dropped 𝓛 5 (plain (λ _. P)) yes (λ κs x f. refl), tt))))) (#self inst) fn (code.unfolded 𝓤 H 𝓜 𝓡 wired (Y, (W, (Z, tt))) dp)
    (λ κs. (shr_vals, (shr_vals, (uint_vals w64, (no_bytes, (no_bytes, tt)))))) (λ κs. (shr_Tells (named 0) κs.0 Row, (shr_Tells (named 1) κs.1.0 B, (uint_Tells w64, (ticket_tells, (pool_tells, tt)))))) (λ κs qs bounds a gh are.
    let rb : ℕ = a.0.ref_ptr.0 in let ro : ℕ = a.0.ref_ptr.1 in let wb : ℕ = a.1.0.ref_ptr.0 in let wo : ℕ = a.1.0.ref_ptr.1 in let κ : Lft = κs.0 in let μ : Lft = κs.1.0 in let q : Share = qs.0 in let d : Row.Denot = a.0.now in let gb : B.Denot = a.1.0.now in let n : ℕ = a.1.1.0 in let t : T.Denot = a.1.1.1.0 in let u : P.Denot = a.1.1.1.1.0 in
    let p : Ptr = d.at in let k : ℕ = d.tag in let j : ℕ = right_of k in let life : ℕ = u.life in let g : Gv = u.value in let G : Goods = block_at X U R gp.label p k in let others : Fml = fsep (flft κs.1.1.0 qs.1.1.0) (fsep (flft κs.1.1.1.0 qs.1.1.1.0) (fsep (flft κs.1.1.1.1.0 qs.1.1.1.1.0) ftrue)) in
    let base : Ptr = gb.at in let Asked : Type 0 = (n < length gb.places) × (p ≡ at_entry gb.places n) × (t.name ≡ j) × ((t.name ≡ u.name) × (t.says ≡ lent life g)) in let Row' : Type 0 = IsRow X U R base gb.places in
    let y : (walk_of 𝓛 En hs c).Ghost = ((κs, qs, bounds, a, (vptr rb ro ∷ [], (vptr wb wo ∷ [], (vint w64 n ∷ [], (token ∷ [], (token ∷ [], tt)))))), gh) in let Post : Val → SProp 𝓤 = (walk_of 𝓛 En hs c).post y in let us : List Val = vptr rb ro ∷ vptr wb wo ∷ vint w64 n ∷ token ∷ token ∷ [] in
    qed 𝓛 (((‵ (flft κ q) ⊛ ‵ (flft μ qs.1.0) ⊛ ‵ others) ⊛ ‵ (owns (types_at En.signature.params κs) a y.0.4)) ∷ raw (fact 𝓤 _) ∷ raw (fact 𝓤 _) ∷ raw (fact 𝓤 _) ∷ raw (fact 𝓤 Asked) ∷ []) ∵ move ! (4 ∷ []) $ heard ! Asked (λ asked. keep ! (0 ∷ []) $
    split ! $ split3 ! $ move ! (3 ∷ []) $ fsplit ! $ fsplit ! $ keep ! (1 ∷ 2 ∷ 3 ∷ 4 ∷ 5 ∷ []) $ move ! (1 ∷ []) $ fsplit ! $ fsplit ! $ keep ! (1 ∷ 2 ∷ 3 ∷ 4 ∷ 5 ∷ 6 ∷ []) $ move ! (1 ∷ []) $ fsplit ! $ drop ! $ fsplit ! $ fsplit ! $ drop ! $ move ! (1 ∷ []) $ fsplit ! $ fsplit ! $
    -- [the pool's marker; what it owns; nothing; what the ticket owns; the base; the lender; the token; the base's token; others]
    keep ! (1 ∷ 3 ∷ 4 ∷ 5 ∷ 6 ∷ 7 ∷ 8 ∷ []) $
    enter ! 𝓣.C 𝓣.Λ fn us Post $ alloc_all ! (λ l. pass_all ! refl ((tt, tt), ((tt, tt), ((tt, record { fits = are.1.1.0.1 }), ((tt, (tt, tt)), ((tt, (tt, tt)), tt))))) $ let Ev = env fn.locals l in
    rewrite ! 0 (λ (m : ℕ). ‵ (pool_owns m life g)) (sym asked.3.0 ∙ asked.2) refl $ move ! (1 ∷ []) $ rewrite ! 0 (λ (m : ℕ). ‵ (ticket_owns m t.says)) asked.2 refl $ rewrite ! 0 (λ (w : Stage). ‵ (ticket_owns j w)) asked.3.1 refl $ move ! (3 ∷ []) $
    use1 𝓛 (‵ (hidden_shr (Marked RawPtr) κ (record {}, tt) rb ro) ⊛ ‵ (fhide (place_shares G j κ))) (lent_out 𝓛 (lender.struct X U R gp) (lender.the_codes Y.Denot W.Denot Z.Denot X.coded U.coded R.coded (marker.the_row RawPtr).coded) (lender.the_heap X U R gp) (lender.the_lent X U R gp) κ d rb ro) $ split ! $ drop ! $ unhide ! $
    -- [its place; what the ticket owns; what the pool owns; the base; the token; the base's token; others]
    move ! (0 ∷ 4 ∷ 1 ∷ 2 ∷ []) $ group ! 4 $ use1 𝓛 (later (some (λ (x : Z.Denot). given (R.coded.code x ≡ g) (‵ (in_hand G j x))) ⊛ ‵ (flft κ q))) (comes 𝓛 𝓜 𝓡 G j κ q life g) $ await ! tt $ split ! $ pick ! (λ x. learn ! (λ same.
    fsplit ! $ use1 𝓛 (‵ (lain_owns X U R gp.label p k x)) (id⊢ 𝓤 _) $ in_a_block ! p (λ r. lain_owns X U R gp.label r k x) (id⊢ 𝓤 (never 𝓤)) (λ b o e. fpick ! (λ z.
    -- [the value and the rest; the ticket; the token; the base; the base's token; others]
    move ! (3 ∷ []) $ use1 𝓛 (‵ (hidden_shr E μ (base, tt) wb wo) ⊛ ‵ (fhide (row_fact Row'))) (lent_out 𝓛 (base_row.struct X U R) (base_row.the_codes Y.Denot W.Denot Z.Denot X.coded U.coded R.coded) (base_row.the_heap X U R) (base_row.the_lent X U R) μ gb wb wo) $
    split ! $ move ! (1 ∷ []) $ unhide ! $ fpick ! (λ is_row. drop ! $
    -- [the fields of the base; the value and the rest; the ticket; the token; the base's token; others]
    let from = begins_at X U R base (length gb.places) n b o asked.0 (subst (λ (ps : List Ptr). at_entry ps n ≡ block_ptr b o) is_row.0 (sym asked.1 ∙ e)) in let start : ℕ = from.0 in
    let most : n * s ≤ length gb.places * s = mul-le-mul_right s (let z = asked.0 in let r : n ≤ length gb.places = omega arith in r) in let small : n * s < 2 ^ 64 = (let z = is_row.1 in omega arith) in
    move ! (0 ∷ 4 ∷ []) $ looks ! tt E (base_opened X U R 𝓛) (base, tt) wb wo (λ r vs. move ! (1 ∷ []) $ peeks ! E (Is E) (shows 𝓛 E) (base, tt) vs (λ so.
    let ev : vs ≡ single (vptr b start) ∷ [] = base_told X U R base vs so ∙ ap (λ (w : Ptr). single (ptr_val w) ∷ []) from.1 in
    rewrite ! 1 (λ (ws : List Val). ‵ (cell_at r E.mir ws wb wo)) ev refl $
    sets ! (of_opd ! (load ! (through ! refl (fld ! refl (stop !))) (look_in ! 1 (sub ! 0 refl (whole !))))) refl (tt, tt) $
    rewrite ! 1 (λ (ws : List Val). ‵ (cell_at r E.mir ws wb wo)) (sym ev) refl $ move ! (1 ∷ 0 ∷ 2 ∷ []) $ shuts ! tt E r (base, tt) vs wb wo $
    first ! $ blocks ! $ sets ! (is ! (bin ! (get ! refl) (size_word !) (record { fits = subst (λ (m : ℕ). m < 2 ^ 64) (sym (uncapped n s small)) small })) (ap (vint w64) (uncapped n s small))) refl (tt, record { fits = small }) $
    sets_last ! (is ! (bin ! (get ! refl) (get ! refl) tt) (ap (vptr b) from.2)) refl (tt, tt) $ exec ! 𝓣.C 𝓣.Λ Ev (after 2 fn.body) (at_ret Ev Post) $
    -- [the base's token; its fields; the value and the rest; the ticket; the token; others]
    sets ! (of_opd ! (get ! refl)) refl (tt, tt) $ sets ! (agg ! (and_then ! (get ! refl) (no_more !))) refl (single_good b o) $ move ! (2 ∷ 3 ∷ []) $ hull_in X U R gp ! b o k x z $
    move ! (1 ∷ 4 ∷ []) $ join ! $ move ! (3 ∷ 0 ∷ []) $ join ! $ let h : (Hull X U R gp).Denot = record { at = block_ptr b o; tag = k; value = x } in
    let Told : Type 0 = ((block_ptr b o, k) ≡ (p, k)) × (R.coded.code x ≡ g) in use0 𝓛 (raw (fact 𝓤 Told)) (fact_i 𝓤 Told (emp 𝓤) (ap (λ (w : Ptr). (w, k)) (sym e), same)) $ nothing ! $ nothing ! $ fjoin ! $ nothing ! $ fjoin ! $ nothing ! $ fjoin ! $ nothing ! $ fjoin ! $ nothing ! $ fjoin ! $
    returns ! (look_at ! 0 refl) $ free_all ! refl $ keep ! (2 ∷ 0 ∷ 3 ∷ 1 ∷ []) $ by ! (leaves 𝓛 En hs c y (single (vptr b o)) h (tt, (tt, (tt, (tt, (tt, tt))))) (tt, (tt, (tt, (tt, (tt, tt))))))))))))))))
