-- `new` takes the box from a function for any family, at that one.
use Rattle.seize_store.proofs.Kit.{◌≡◌, ℕ, List, [], ◌∷◌, ◌++◌, refl, sym, subst, proved_at, leaves, fm, Val, vptr, SProp, ent, emp, id⊢, Lft, Share, ftrue, flft, ‵, raw, ◌⊛◌, some, later, ◌$◌, ◌∵◌, !, qed, by, move, keep, drop, split, split3, join, fsplit, fjoin, pick, use0, use1, await, rewrite, suffices, of_opd, no_more, and_then, returns, enter, alloc_all, pass_all, free_all, look_at, get, agg, fpack, sets, lands_as, fact, fact_i, tables, yes, RattleType, owns, types_at, plain, RefOf, nothing, heard, Stays, stay_dropped, walk_of, Goes-dropped}
use mir.Syntax.{a_type, dcons, dnil}
use mir.MapTy.{inst_fn}
use base.Fraction.{full_share}
use prog.Wp.{WpFn}
use contract.BorrowLft.{◌⊑◌, ⊑_static}
use denote.Param.{param, layout, bounded}
use denote.Param.Laws.{param_laws}
use denote.Laws.{Is, Typed, shows}
use denote.Steps.{peeks}
use Rattle.std.specs.contracts.alloc.Global as heap
use Rattle.std.proofs.alloc.Global.TheLaws as heap_laws
use Rattle.seize_store.specs.contracts.family.Family as family
use denote.Triple.Call.{calls_at}
use denote.Triple.Clauses.{Lasts, lasts}
use denote.Triple.Spec.{triple_of}
use mir.Val.{has_ty}
use Rattle.core.proofs.cell.Inside.{Good, one}
use Rattle.std_alloc.proofs.ResultValues.{and_tt}
use Rattle.std.proofs.raw_atomic.Calls.{marker, marker_laws, dict}
use Rattle.seize_store.specs.contracts.kin.empty_cell as callee
use Rattle.seize_store.proofs.kin.empty_cell.Met.{met}
use Rattle.seize_store.proofs.Once.{row_laws, single, sole_in}
use Rattle.seize_store.specs.Kept.{once_row}
use Rattle.seize_store.specs.contracts.once_of.OnceOf as cell
use Rattle.seize_store.specs.contracts.once_of.OnceOf.new.{ended, clauses}
use Rattle.seize_store.specs.contracts.once_of.OnceOf.new.Key.{name as #self}
use Rattle.seize_store.proofs.once_of.OnceOf.new.Statement.{statement}
use Rattle.seize_store.proofs.once_of.OnceOf.new.Code as code

pub new_spec : {M : Type 1} → statement M
new_spec 𝓤 𝓛 𝓜 𝓡 wired T L g d kin =
    let H = 𝓛.H in let 𝓣 = tables 𝓤 H 𝓜 𝓡 𝓡.env in let R : RattleType = param 0 T in let LR = param_laws 0 T L in let En = ended T g d in let c = clauses T g d 𝓛 𝓜.mem 𝓡.returns in
    let inst = bounded (a_type ∷ []) (T, tt) (dcons d dnil) in let fn = inst_fn inst code.function in let Own : RattleType = cell.the_row R g in let Z : RattleType = heap.the_row in
    let ref = RefOf (0 ∷ []) tt (plain (λ _. family.the_row)) (λ _. tt) in let hs : Stays En.signature.params En.kept = (stay_dropped (plain (λ _. Z)) yes, (stay_dropped ref yes, tt)) in
    proved_at 𝓛 En hs c 𝓜 𝓡 (Goes-dropped 𝓛 2 (plain (λ _. Z)) yes (λ κs x f. refl), (Goes-dropped 𝓛 2 ref yes (λ κs x f. refl), tt)) (#self inst) fn (code.unfolded 𝓤 H 𝓜 𝓡 wired (T, tt) d) (λ z are.
    let κs = z.0.0 in let qs = z.0.1 in let κ : Lft = κs.0 in let q : Share = qs.0 in let μ : Lft = κs.1.0 in let r : Share = qs.1.0 in let al = z.0.3.0 in let b : ℕ = z.0.3.1.0.ref_ptr.0 in let o : ℕ = z.0.3.1.0.ref_ptr.1 in
    let f : ℕ = z.0.3.1.0.now.number in let P : RattleType = once_row R g f in let LP = row_laws R LR g f in let h = one (layout Z) z.0.4.0 ((heap_laws.the_row_laws.lawful 𝓛).typed al z.0.4.0 are.0) in let Vs : List Val = h.0 ∷ vptr b o ∷ [] in
    let Post : Val → SProp 𝓤 = (walk_of 𝓛 En hs c).post z in let Run : List Val → SProp 𝓤 = λ ws. WpFn 𝓤 H 𝓣.C 𝓣.Λ fn ws Post in let Inside : Type 0 = μ ⊑ T.lives in let Free : Type 0 = [] ⊑ [] in
    let G = callee.spec T marker g d (record { number = f }) dict 𝓛 𝓜.mem 𝓡.returns in let k = triple_of 𝓛 (callee.signature T marker g d (record { number = f }) dict) G in
    let y : k.Ghost = (((μ, ([], tt)), (r, (full_share, tt)), tt, (al, tt), (h.0 ∷ [], tt)), tt) in let Told : Type 0 = f ≡ f in
    qed 𝓛 (((‵ (flft κ q) ⊛ ‵ (flft μ r) ⊛ ‵ ftrue) ⊛ ‵ (owns (types_at En.signature.params κs) z.0.3 z.0.4)) ∷ raw (fact 𝓤 Inside) ∷ ‵ ftrue ∷ []) ∵
    move ! (1 ∷ []) $ heard ! Inside (λ inside. keep ! (0 ∷ []) $ split ! $ split3 ! $ move ! (3 ∷ []) $ fsplit ! $ keep ! (0 ∷ 2 ∷ 3 ∷ []) $ rewrite ! 0 (λ (us : List Val). ‵ (Z.own_val al us)) h.1 refl $
    -- [the handle; the token of the family; the other token]
    suffices ! (Run Vs) (subst (λ (us : List Val). ent 𝓤 (Run Vs) (Run us)) (sym (λ i. h.1 i ++ (are.1.0.0 i ++ []))) (id⊢ 𝓤 (Run Vs))) $
    enter ! 𝓣.C 𝓣.Λ fn Vs Post $ alloc_all ! (λ l. pass_all ! refl (h.2, ((tt, tt), tt)) $
    nothing ! $ move ! (1 ∷ 0 ∷ []) $ fjoin ! $ nothing ! $ use0 𝓛 (‵ (flft [] full_share)) (𝓛.lfts.lft-nil full_share) $ join ! $ move ! (3 ∷ 0 ∷ []) $ join ! $ join ! $
    nothing ! $ use0 𝓛 (raw (fact 𝓤 Free)) (fact_i 𝓤 Free (emp 𝓤) (⊑_static [])) $ join ! $ use0 𝓛 (raw (fact 𝓤 Inside)) (fact_i 𝓤 Inside (emp 𝓤) inside) $ join ! $ move ! (1 ∷ 0 ∷ []) $ join ! $
    use1 𝓛 (raw (k.pre y)) (id⊢ 𝓤 _) $
    calls_at ! (fm 𝓛 𝓜 𝓡) k (met 𝓤 𝓛 𝓜 𝓡 (code.calls-seize_store::kin::empty_cell 𝓡.env wired) T marker L marker_laws g d (record { number = f }) dict kin (record {})) y (and_then ! (get ! refl) (no_more !)) (λ u.
    use1 𝓛 (later (some (λ (e : P.Denot). ((‵ (flft μ r) ⊛ ‵ (flft [] full_share) ⊛ ‵ ftrue) ⊛ ‵ (P.own_val e (u ∷ []))) ⊛
    some (λ (ls : Lasts (callee.ended T marker g d (record { number = f }) dict) y.0.0 y.0.3). ‵ (lasts (callee.ended T marker g d (record { number = f }) dict) y.0.0 y.0.3 ls) ⊛ ‵ ftrue)))) (id⊢ 𝓤 _) $
    await ! tt $ pick ! (λ e. split ! $ split ! $ split3 ! $ move ! (1 ∷ []) $ drop ! $ join ! $ move ! (3 ∷ 0 ∷ []) $ join ! $ move ! (2 ∷ []) $ pick ! (λ ls. split ! $ drop ! $ drop ! $ move ! (1 ∷ []) $
    -- [the box; the tokens]
    peeks ! P (Is P) (shows 𝓛 P) e (u ∷ []) (λ is. let good = ((LP.lawful 𝓛).typed e (u ∷ []) is).0 in let w : Val = single u in let whole' : Good (layout Own) w = (and_tt (has_ty (layout P) u) good.0, (good.1, tt)) in
    lands_as ! refl refl good $ sets ! (of_opd ! (get ! refl)) refl good $ sets ! (agg ! (and_then ! (get ! refl) (no_more !))) refl whole' $ sole_in P e ! u $
    nothing ! $ fpack ! (Typed Own.mir (w ∷ [])) (λ _. ftrue) (whole', tt) $ fjoin ! $
    use0 𝓛 (raw (fact 𝓤 Told)) (fact_i 𝓤 Told (emp 𝓤) refl) $ nothing ! $ nothing ! $ fjoin ! $ nothing ! $ fjoin ! $
    returns ! (look_at ! 0 refl) $ free_all ! refl $ keep ! (3 ∷ 0 ∷ 2 ∷ 1 ∷ []) $ by ! (leaves 𝓛 En hs c z w (f, e) (tt, (tt, tt)) (tt, (tt, tt))))))))))
