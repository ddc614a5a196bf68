-- `of` begins a content for the blocks of a chunk.
use Rattle.seize_store.proofs.Kit.{◌≡◌, ℕ, [], ◌∷◌, refl, proved, leaves, Val, vptr, SProp, emp, Lft, Fml, ftrue, fsep, flft, ‵, raw, ◌⊛◌, ◌$◌, ◌∵◌, !, qed, by, move, keep, split, join, fsplit, fjoin, use0, use2, no_more, and_then, returns, enter, alloc_all, pass_all, free_all, look_at, get, sets, fact, fact_i, tables, yes, RattleType, owns, types_at, plain, RefOf, shr_vals, shr_Tells, nothing, heard, rewrite, Stays, stay_dropped, walk_of, Goes-dropped, agg}
use mir.Syntax.{a_type, dcons, dnil}
use mir.Syntax.{named as life}
use mir.MapTy.{inst_fn}
use denote.Builtin.{RawPtr}
use denote.Param.{param, bounded}
use Rattle.seize_content.specs.Contents.{named, place}
use Rattle.seize_content.specs.Goods.{Goods}
use Rattle.seize_content.specs.Stages.{held}
use Rattle.seize_content.specs.contracts.ticket.Start as start
use Rattle.seize_content.proofs.Fields.{token, Marked, marked_made}
use Rattle.seize_content.proofs.Loans.{lays}
use Rattle.seize_content.proofs.Tokens.{no_bytes, start_tells}
use Rattle.seize_table.specs.Pairs.{right_of}
use Rattle.seize_store.specs.Lending.{block_at}
use Rattle.seize_store.specs.contracts.chunk.Chunk as chunk
use Rattle.seize_store.proofs.Lenders.{Lender}
use Rattle.seize_store.specs.contracts.lender.Lender.of.{ended, clauses}
use Rattle.seize_store.specs.contracts.lender.Lender.of.Key.{name as #self}
use Rattle.seize_store.proofs.lender.Lender.of.Statement.{statement}
use Rattle.seize_store.proofs.lender.Lender.of.Code as code

pub of_spec : {M : Type 1} → statement M
of_spec 𝓤 𝓛 𝓜 𝓡 wired Y W Z LY LW LZ gp dp met =
    let H = 𝓛.H in let 𝓣 = tables 𝓤 H 𝓜 𝓡 𝓡.env in let X : RattleType = param 0 Y in let U : RattleType = param 1 W in let R : RattleType = param 2 Z in let En = ended Y W Z gp dp in let inst = bounded (a_type ∷ a_type ∷ a_type ∷ []) (Y, (W, (Z, tt))) (dcons dp dnil) in let fn = inst_fn inst code.function in
    let Row : RattleType = chunk.the_row X U R gp in let S : RattleType = start.the_row in let C : RattleType = Lender X U R gp in let c = clauses Y W Z gp dp 𝓛 𝓜.mem 𝓡.returns in
    let self = RefOf (0 ∷ []) tt (plain (λ _. Row)) (λ _. tt) in let hs : Stays En.signature.params En.kept = (stay_dropped self yes, (stay_dropped (plain (λ _. S)) yes, tt)) in
    proved 𝓛 En hs c 𝓜 𝓡 (Goes-dropped 𝓛 4 self yes (λ κs x f. refl), (Goes-dropped 𝓛 4 (plain (λ _. S)) yes (λ κs x f. refl), tt)) (#self inst) fn (code.unfolded 𝓤 H 𝓜 𝓡 wired (Y, (W, (Z, tt))) dp)
    (λ κs. (shr_vals, (no_bytes, tt))) (λ κs. (shr_Tells (life 0) κs.0 Row, (start_tells, tt))) (λ κs qs bounds a gh are.
    let rb : ℕ = a.0.ref_ptr.0 in let ro : ℕ = a.0.ref_ptr.1 in let κ : Lft = κs.0 in let d : Row.Denot = a.0.now in let k : ℕ = d.tag in let γ : ℕ = a.1.0.name in let Asked : Type 0 = γ ≡ right_of k in let G : Goods = block_at X U R gp.label d.at d.tag in
    let others : Fml = fsep (flft κs.1.0 qs.1.0) (fsep (flft κs.1.1.0 qs.1.1.0) (fsep (flft κs.1.1.1.0 qs.1.1.1.0) ftrue)) in
    let y : (walk_of 𝓛 En hs c).Ghost = ((κs, qs, bounds, a, (vptr rb ro ∷ [], (token ∷ [], tt))), gh) in let Post : Val → SProp 𝓤 = (walk_of 𝓛 En hs c).post y in
    qed 𝓛 (((‵ (flft κ qs.0) ⊛ ‵ others) ⊛ ‵ (owns (types_at En.signature.params κs) a y.0.4)) ∷ raw (fact 𝓤 _) ∷ raw (fact 𝓤 _) ∷ raw (fact 𝓤 _) ∷ raw (fact 𝓤 Asked) ∷ []) ∵ move ! (4 ∷ []) $ heard ! Asked (λ asked. keep ! (0 ∷ []) $
    split ! $ split ! $ move ! (2 ∷ []) $ fsplit ! $ keep ! (1 ∷ 2 ∷ 3 ∷ []) $ fsplit ! $ fsplit ! $ keep ! (1 ∷ 3 ∷ 4 ∷ []) $
    -- [what it begins with; the token; others]
    enter ! 𝓣.C 𝓣.Λ fn (vptr rb ro ∷ token ∷ []) Post $ alloc_all ! (λ l. pass_all ! refl ((tt, tt), ((tt, (tt, tt)), tt)) $
    rewrite ! 0 (λ (n : ℕ). ‵ (named n held)) asked refl $ nothing ! $ move ! (1 ∷ 0 ∷ []) $ use2 𝓛 (‵ (place G (right_of k))) (lays 𝓛 G (right_of k) held) $
    sets ! (agg ! (no_more !)) refl (tt, tt) $ sets ! (agg ! (and_then ! (get ! refl) (no_more !))) refl (tt, (tt, tt)) $
    use0 𝓛 (‵ ((Marked RawPtr).own_val (record {}, tt) (token ∷ []))) (marked_made RawPtr 𝓛) $ fjoin ! $ let r : C.Denot = record { marker = record {}; at = d.at; tag = k } in
    move ! (1 ∷ 2 ∷ []) $ join ! $ let Told : Type 0 = (d.at, k) ≡ (d.at, k) in use0 𝓛 (raw (fact 𝓤 Told)) (fact_i 𝓤 Told (emp 𝓤) refl) $ nothing ! $ nothing ! $ fjoin ! $ nothing ! $ fjoin ! $
    returns ! (look_at ! 0 refl) $ free_all ! refl $ keep ! (2 ∷ 0 ∷ 3 ∷ 1 ∷ []) $ by ! (leaves 𝓛 En hs c y token r (tt, (tt, tt)) (tt, (tt, tt))))))
