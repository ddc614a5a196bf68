-- A family has nothing to show.
use Rattle.seize_store.proofs.Kit.{[], ◌∷◌, ◌≡◌, ℕ, refl, proved, leaves, Val, vint, w64, u64, uint_vals, uint_Tells, SProp, emp, ftrue, fact, fact_i, ‵, raw, ◌⊛◌, ◌$◌, ◌∵◌, !, qed, by, keep, split, fjoin, use0, no_more, and_then, returns, enter, alloc_all, pass_all, free_all, look_at, get, nothing, sets, agg, tables, yes, owns, types_at, plain, Stays, stay_dropped, Goes-dropped, walk_of}
use Rattle.seize_store.proofs.Tokens.{token}
use Rattle.seize_store.proofs.Families.{Data as Blank, family_made}
use Rattle.seize_store.specs.contracts.family.Family.new.{ended, clauses}
use Rattle.seize_store.specs.contracts.family.Family.new.Key.{name as #self}
use Rattle.seize_store.proofs.family.Family.new.Statement.{statement}
use Rattle.seize_store.proofs.family.Family.new.Code as code

pub new_spec : {M : Type 1} → statement M
new_spec 𝓤 𝓛 𝓜 𝓡 wired =
    let H = 𝓛.H in let 𝓣 = tables 𝓤 H 𝓜 𝓡 𝓡.env in let En = ended in let c = clauses 𝓛 𝓜.mem 𝓡.returns in let fn = code.function in
    let hs : Stays En.signature.params En.kept = (stay_dropped (plain (λ _. u64)) yes, tt) in
    proved 𝓛 En hs c 𝓜 𝓡 (Goes-dropped 𝓛 0 (plain (λ _. u64)) yes (λ κs x f. refl), tt) #self fn (code.unfolded 𝓤 H 𝓜 𝓡 wired) (λ κs. (uint_vals w64, tt)) (λ κs. (uint_Tells w64, tt)) (λ κs qs bounds a gh are.
    let number : ℕ = a.0 in let y : (walk_of 𝓛 En hs c).Ghost = ((κs, qs, bounds, a, (vint w64 number ∷ [], tt)), gh) in let Post : Val → SProp 𝓤 = (walk_of 𝓛 En hs c).post y in
    qed 𝓛 ((‵ ftrue ⊛ ‵ (owns (types_at En.signature.params κs) a y.0.4)) ∷ raw ((c κs a).requires gh) ∷ []) ∵ split ! $ keep ! (0 ∷ []) $
    enter ! 𝓣.C 𝓣.Λ fn (vint w64 number ∷ []) Post $ alloc_all ! (λ l. pass_all ! refl ((tt, record { fits = are.0.1 }), tt) $ nothing ! $
    sets ! (agg ! (no_more !)) refl (tt, tt) $ sets ! (agg ! (and_then ! (get ! refl) (no_more !))) refl (tt, (tt, tt)) $ use0 𝓛 (‵ Blank) (family_made 𝓛) $ fjoin ! $
    use0 𝓛 (raw (fact 𝓤 (number ≡ number))) (fact_i 𝓤 (number ≡ number) (emp 𝓤) refl) $ nothing ! $ nothing ! $ fjoin ! $
    returns ! (look_at ! 0 refl) $ free_all ! refl $ keep ! (3 ∷ 0 ∷ 2 ∷ 1 ∷ []) $ by ! (leaves 𝓛 En hs c y token (record { marker = record {}; number = number }) (tt, tt) (tt, tt))))
