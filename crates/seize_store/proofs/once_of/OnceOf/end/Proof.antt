-- `end` gives the box to a function for any family, at the cell's own.
use Rattle.seize_store.proofs.Kit.{ℕ, List, [], ◌∷◌, ◌++◌, refl, sym, subst, proved_at, leaves, fm, Val, vunit, SProp, ent, emp, id⊢, Lft, Share, ftrue, flft, ‵, raw, ◌⊛◌, some, later, ◌$◌, ◌∵◌, !, qed, by, move, keep, drop, split, split3, join, fsplit, fjoin, pick, use0, use1, await, feq_i, suffices, stop, fld, of_opd, no_more, and_then, returns, enter, alloc_all, pass_all, free_all, look_at, get, get_in, sub, whole, unit, only, feq_l, fpick, ap, unit_lit, sets, lands_as, fact, fact_i, tables, no, RattleType, owns, types_at, plain, nothing, heard, Stays, stay_dropped, walk_of, Goes-dropped}
use mir.Syntax.{a_type, dcons, dnil}
use mir.MapTy.{inst_fn}
use base.Fraction.{full_share}
use prog.Wp.{WpFn}
use contract.BorrowLft.{◌⊑◌, ⊑_static}
use denote.Param.{param, bounded}
use denote.Param.Laws.{param_laws}
use denote.Laws.{Typed}
use denote.Triple.Call.{calls_at}
use denote.Triple.Clauses.{Lasts, lasts}
use denote.Triple.Spec.{triple_of}
use Rattle.std.proofs.raw_atomic.Calls.{marker, marker_laws, dict}
use Rattle.seize_store.specs.contracts.kin.ended as callee
use Rattle.seize_store.proofs.kin.ended.Met.{met}
use Rattle.seize_store.proofs.Once.{row_laws, single, sole_out}
use Rattle.seize_store.specs.Kept.{once_row}
use Rattle.seize_store.specs.contracts.once_of.OnceOf as cell
use Rattle.seize_store.specs.contracts.once_of.OnceOf.end.{ended, clauses}
use Rattle.seize_store.specs.contracts.once_of.OnceOf.end.Key.{name as #self}
use Rattle.seize_store.proofs.once_of.OnceOf.end.Statement.{statement}
use Rattle.seize_store.proofs.once_of.OnceOf.end.Code as code

pub end_spec : {M : Type 1} → statement M
end_spec 𝓤 𝓛 𝓜 𝓡 wired T L g d dx kin glue =
    let H = 𝓛.H in let 𝓣 = tables 𝓤 H 𝓜 𝓡 𝓡.env in let R : RattleType = param 0 T in let LR = param_laws 0 T L in let En = ended T g d dx in let c = clauses T g d dx 𝓛 𝓜.mem 𝓡.returns in
    let inst = bounded (a_type ∷ []) (T, tt) (dcons d (dcons dx dnil)) in let fn = inst_fn inst code.function in let Own : RattleType = cell.the_row R g in
    let hs : Stays En.signature.params En.kept = (stay_dropped (plain (λ _. Own)) no, tt) in
    proved_at 𝓛 En hs c 𝓜 𝓡 (Goes-dropped 𝓛 1 (plain (λ _. Own)) no (λ κs x f. refl), tt) (#self inst) fn (code.unfolded 𝓤 H 𝓜 𝓡 wired (T, tt) d dx) (λ z are.
    let κs = z.0.0 in let qs = z.0.1 in let μ : Lft = κs.0 in let r : Share = qs.0 in let own = z.0.3.0 in let f : ℕ = own.0 in let P : RattleType = once_row R g f in let LP = row_laws R LR g f in
    let Post : Val → SProp 𝓤 = (walk_of 𝓛 En hs c).post z in let Run : List Val → SProp 𝓤 = λ ws. WpFn 𝓤 H 𝓣.C 𝓣.Λ fn ws Post in let Inside : Type 0 = μ ⊑ T.lives in let Free : Type 0 = [] ⊑ [] in
    let G = callee.spec T marker g d (record { number = f }) dict dx 𝓛 𝓜.mem 𝓡.returns in let k = triple_of 𝓛 (callee.signature T marker g d (record { number = f }) dict dx) G in
    qed 𝓛 (((‵ (flft μ r) ⊛ ‵ ftrue) ⊛ ‵ (owns (types_at En.signature.params κs) z.0.3 z.0.4)) ∷ raw (fact 𝓤 Inside) ∷ ‵ ftrue ∷ []) ∵
    move ! (1 ∷ []) $ heard ! Inside (λ inside. keep ! (0 ∷ []) $ split ! $ split ! $ move ! (2 ∷ []) $ fsplit ! $ fsplit ! $ fpick ! (λ laid. drop ! $ keep ! (0 ∷ 2 ∷ []) $
    sole_out P own.1 ! refl (LP.lawful 𝓛) z.0.4.0 (λ v good ws. let w : Val = single v in let y : k.Ghost = (((μ, ([], tt)), (r, (full_share, tt)), tt, (own.1, tt), (v ∷ [], tt)), tt) in
    -- [the box; the token]
    suffices ! (Run (w ∷ [])) (subst (λ (us : List Val). ent 𝓤 (Run (w ∷ [])) (Run us)) (sym (λ i. ws i ++ [])) (id⊢ 𝓤 (Run (w ∷ [])))) $
    enter ! 𝓣.C 𝓣.Λ fn (w ∷ []) Post $ alloc_all ! (λ l. pass_all ! refl ((subst (Typed Own.mir) ws laid).0, tt) $
    sets ! (of_opd ! (get_in ! (fld ! refl (stop !)) (sub ! 0 refl (whole !)))) refl good $ sets ! (of_opd ! (get ! refl)) refl good $
    nothing ! $ move ! (1 ∷ 0 ∷ []) $ fjoin ! $ nothing ! $ use0 𝓛 (‵ (flft [] full_share)) (𝓛.lfts.lft-nil full_share) $ join ! $ move ! (2 ∷ 0 ∷ []) $ join ! $ join ! $
    nothing ! $ use0 𝓛 (raw (fact 𝓤 Free)) (fact_i 𝓤 Free (emp 𝓤) (⊑_static [])) $ join ! $ use0 𝓛 (raw (fact 𝓤 Inside)) (fact_i 𝓤 Inside (emp 𝓤) inside) $ join ! $ move ! (1 ∷ 0 ∷ []) $ join ! $
    use1 𝓛 (raw (k.pre y)) (id⊢ 𝓤 _) $
    calls_at ! (fm 𝓛 𝓜 𝓡) k (met 𝓤 𝓛 𝓜 𝓡 (code.calls-seize_store::kin::ended 𝓡.env wired) T marker L marker_laws g d (record { number = f }) dict dx kin (record {}) glue) y (and_then ! (get ! refl) (no_more !)) (λ u.
    use1 𝓛 (later (some (λ (e : Unit {0}). ((‵ (flft μ r) ⊛ ‵ (flft [] full_share) ⊛ ‵ ftrue) ⊛ ‵ (unit.own_val e (u ∷ []))) ⊛
    some (λ (ls : Lasts (callee.ended T marker g d (record { number = f }) dict dx) y.0.0 y.0.3). ‵ (lasts (callee.ended T marker g d (record { number = f }) dict dx) y.0.0 y.0.3 ls) ⊛ ‵ ftrue)))) (id⊢ 𝓤 _) $
    await ! tt $ pick ! (λ e. split ! $ split ! $ split3 ! $ move ! (1 ∷ []) $ drop ! $ join ! $ move ! (1 ∷ []) $ feq_l ! (λ is_unit. move ! (1 ∷ []) $ pick ! (λ ls. split ! $
    lands_as ! (ap only is_unit) refl (tt, tt) $ sets ! (of_opd ! (unit_lit !)) refl (tt, tt) $ feq_i ! (List Val) (vunit ∷ []) (vunit ∷ []) refl $
    returns ! (look_at ! 0 refl) $ free_all ! refl $ keep ! (3 ∷ 1 ∷ 0 ∷ 2 ∷ []) $ by ! (leaves 𝓛 En hs c z vunit tt ls (tt, tt)))))))))))
