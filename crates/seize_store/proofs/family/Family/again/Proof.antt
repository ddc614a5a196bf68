-- A family has nothing to show, so it can be had twice.
use Rattle.seize_store.proofs.Kit.{◌≡◌, ℕ, [], ◌∷◌, refl, named, proved, leaves, Val, vptr, SProp, emp, Lft, ftrue, flft, ‵, raw, ◌⊛◌, ◌$◌, ◌∵◌, !, qed, by, keep, split, fjoin, use0, no_more, and_then, returns, enter, alloc_all, pass_all, free_all, look_at, get, sets, agg, fact, fact_i, tables, yes, owns, types_at, plain, RefOf, shr_vals, shr_Tells, nothing, Stays, stay_dropped, walk_of, Goes-dropped}
use Rattle.seize_store.specs.contracts.family.Family as family
use Rattle.seize_store.proofs.Tokens.{token}
use Rattle.seize_store.proofs.Families.{Data as Blank, family_made}
use Rattle.seize_store.specs.contracts.family.Family.again.{ended, clauses}
use Rattle.seize_store.specs.contracts.family.Family.again.Key.{name as #self}
use Rattle.seize_store.proofs.family.Family.again.Statement.{statement}
use Rattle.seize_store.proofs.family.Family.again.Code as code

pub again_spec : {M : Type 1} → statement M
again_spec 𝓤 𝓛 𝓜 𝓡 wired =
    let H = 𝓛.H in let 𝓣 = tables 𝓤 H 𝓜 𝓡 𝓡.env in let En = ended in let c = clauses 𝓛 𝓜.mem 𝓡.returns in let fn = code.function in
    let self = RefOf (0 ∷ []) tt (plain (λ _. family.the_row)) (λ _. tt) in let hs : Stays En.signature.params En.kept = (stay_dropped self yes, tt) in
    proved 𝓛 En hs c 𝓜 𝓡 (Goes-dropped 𝓛 1 self yes (λ κs x f. refl), tt) #self fn (code.unfolded 𝓤 H 𝓜 𝓡 wired) (λ κs. (shr_vals, tt)) (λ κs. (shr_Tells (named 0) κs.0 family.the_row, tt)) (λ κs qs bounds a gh are.
    let rb : ℕ = a.0.ref_ptr.0 in let ro : ℕ = a.0.ref_ptr.1 in let κ : Lft = κs.0 in let m = a.0.now in
    let y : (walk_of 𝓛 En hs c).Ghost = ((κs, qs, bounds, a, (vptr rb ro ∷ [], tt)), gh) in let Post : Val → SProp 𝓤 = (walk_of 𝓛 En hs c).post y in let toks = ‵ (flft κ qs.0) ⊛ ‵ ftrue in
    qed 𝓛 ((toks ⊛ ‵ (owns (types_at En.signature.params κs) a y.0.4)) ∷ raw ((c κs a).requires gh) ∷ []) ∵ keep ! (0 ∷ []) $ split ! $ keep ! (0 ∷ []) $
    -- [the tokens]
    enter ! 𝓣.C 𝓣.Λ fn (vptr rb ro ∷ []) Post $ alloc_all ! (λ l. pass_all ! refl ((tt, tt), tt) $ nothing ! $ sets ! (agg ! (no_more !)) refl (tt, tt) $ sets ! (agg ! (and_then ! (get ! refl) (no_more !))) refl (tt, (tt, tt)) $
    use0 𝓛 (‵ Blank) (family_made 𝓛) $ fjoin ! $ use0 𝓛 (raw (fact 𝓤 (m ≡ m))) (fact_i 𝓤 (m ≡ m) (emp 𝓤) refl) $ nothing ! $ nothing ! $ fjoin ! $
    returns ! (look_at ! 0 refl) $ free_all ! refl $ keep ! (3 ∷ 0 ∷ 2 ∷ 1 ∷ []) $ by ! (leaves 𝓛 En hs c y token m (tt, tt) (tt, tt))))
