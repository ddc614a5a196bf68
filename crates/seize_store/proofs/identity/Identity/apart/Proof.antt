-- Two identities that stand at once have two names, since no name has a second holder.
use Rattle.seize_store.proofs.Kit.{◌≡◌, ℕ, List, [], ◌∷◌, ◌++◌, refl, sym, subst, proved_at, leaves, Val, vptr, vunit, SProp, ent, emp, id⊢, Lft, Share, Fml, ftrue, flft, sem, ‵, raw, ◌⊛◌, given, later, ◌$◌, ◌∵◌, !, qed, by, move, keep, split, split3, join, fsplit, fjoin, learn, use0, use1, use2, await, suffices, feq_i, of_opd, unit_lit, returns, enter, alloc_all, pass_all, free_all, look_at, sets, fact, fact_i, tables, owns, types_at, plain, nothing, Stays, stay_ref, walk_of, Goes-ref}
use prog.Wp.{WpFn}
use base.Logic.{all, all_e, apply∗}
use types.Na.{out}
use Rattle.seize_store.proofs.Identities.{Identity, names_apart, identity_opens}
use Rattle.seize_store.proofs.Identities as identities
use Rattle.seize_store.specs.contracts.identity.Identity.apart.{ended, clauses}
use Rattle.seize_store.specs.contracts.identity.Identity.apart.Key.{name as #self}
use Rattle.seize_store.proofs.identity.Identity.apart.Statement.{statement}
use Rattle.seize_store.proofs.identity.Identity.apart.Code as code

pub apart_spec : {M : Type 1} → statement M
apart_spec 𝓤 𝓛 𝓜 𝓡 wired =
    let H = 𝓛.H in let 𝓣 = tables 𝓤 H 𝓜 𝓡 𝓡.env in let En = ended in let c = clauses 𝓛 𝓜.mem 𝓡.returns in let fn = code.function in
    let hs : Stays En.signature.params En.kept = (stay_ref (0 ∷ []) tt (plain (λ _. Identity)), (stay_ref (1 ∷ []) tt (plain (λ _. Identity)), tt)) in
    proved_at 𝓛 En hs c 𝓜 𝓡 (Goes-ref 𝓛 2 0 tt (plain (λ _. Identity)), (Goes-ref 𝓛 2 1 tt (plain (λ _. Identity)), tt)) #self fn (code.unfolded 𝓤 H 𝓜 𝓡 wired) (λ z are.
    let κs = z.0.0 in let qs = z.0.1 in let Post : Val → SProp 𝓤 = (walk_of 𝓛 En hs c).post z in let Run : List Val → SProp 𝓤 = λ ws. WpFn 𝓤 H 𝓣.C 𝓣.Λ fn ws Post in
    let κ : Lft = κs.0 in let q : Share = qs.0 in let m = z.0.3.0 in let b : ℕ = m.ref_ptr.0 in let o : ℕ = m.ref_ptr.1 in let ν : ℕ = m.ghost_name in let n = m.now in
    let κ' : Lft = κs.1.0 in let q' : Share = qs.1.0 in let m' = z.0.3.1.0 in let b' : ℕ = m'.ref_ptr.0 in let o' : ℕ = m'.ref_ptr.1 in let ν' : ℕ = m'.ghost_name in let n' = m'.now in
    let Shuts = identities.Shuts 𝓛 κ q b o ν in let Shuts' = identities.Shuts 𝓛 κ' q' b' o' ν' in let P : Fml = out n.name in let P' : Fml = out n'.name in let So : Type 0 = n.name ≡ n'.name → ⊥ in let Told : Type 0 = (n ≡ n) × (n' ≡ n') × So in
    let Vs : List Val = vptr b o ∷ vptr b' o' ∷ [] in let toks = ‵ (flft κ q) ⊛ ‵ (flft κ' q') ⊛ ‵ ftrue in
    qed 𝓛 ((toks ⊛ ‵ (owns (types_at En.signature.params κs) z.0.3 z.0.4)) ∷ raw ((c κs z.0.3).requires z.1) ∷ []) ∵ split ! $ split3 ! $ move ! (3 ∷ []) $ fsplit ! $ move ! (1 ∷ []) $ fsplit ! $ fsplit ! $ move ! (3 ∷ []) $ fsplit ! $
    keep ! (1 ∷ 5 ∷ 3 ∷ 6 ∷ 7 ∷ []) $
    -- [the first; its token; the second; its token; no more tokens]
    suffices ! (Run Vs) (subst (λ (us : List Val). ent 𝓤 (Run Vs) (Run us)) (sym (λ i. are.0.0 i ++ (are.1.0.0 i ++ []))) (id⊢ 𝓤 (Run Vs))) $
    enter ! 𝓣.C 𝓣.Λ fn Vs Post $ alloc_all ! (λ l. pass_all ! refl ((tt, tt), ((tt, tt), tt)) $
    use2 𝓛 (later (‵ P ⊛ raw (all 𝓤 Shuts))) (identity_opens 𝓛 κ q b o ν n) $ await ! tt $ split ! $ move ! (2 ∷ 3 ∷ []) $ use2 𝓛 (later (‵ P' ⊛ raw (all 𝓤 Shuts'))) (identity_opens 𝓛 κ' q' b' o' ν' n') $ await ! tt $ split ! $
    move ! (2 ∷ 0 ∷ []) $ use2 𝓛 (later (given So (‵ P ⊛ ‵ P'))) (names_apart 𝓛 n.name n'.name) $ await ! tt $ learn ! (λ so. split ! $
    -- [the first's name; the second's; the second's way back; the first's; no more tokens]
    move ! (3 ∷ []) $ use1 𝓛 (raw (Shuts n)) (all_e 𝓤 Shuts n) $ move ! (1 ∷ 0 ∷ []) $ use2 𝓛 (later (‵ (identities.lent 𝓛 κ q b o ν n) ⊛ ‵ (flft κ q))) (apply∗ 𝓤 (sem 𝓛 P) _) $ await ! tt $ split ! $
    feq_i ! (List Val) z.0.4.0 (vptr b o ∷ []) are.0.0 $ fjoin ! $ move ! (3 ∷ []) $ use1 𝓛 (raw (Shuts' n')) (all_e 𝓤 Shuts' n') $ move ! (3 ∷ 0 ∷ []) $
    use2 𝓛 (later (‵ (identities.lent 𝓛 κ' q' b' o' ν' n') ⊛ ‵ (flft κ' q'))) (apply∗ 𝓤 (sem 𝓛 P') _) $ await ! tt $ split ! $ feq_i ! (List Val) z.0.4.1.0 (vptr b' o' ∷ []) are.1.0.0 $ fjoin ! $
    -- [the second; its token; the first; its token; no more tokens]
    nothing ! $ move ! (1 ∷ 0 ∷ []) $ fjoin ! $ move ! (2 ∷ 0 ∷ []) $ fjoin ! $ move ! (1 ∷ 3 ∷ []) $ join ! $ move ! (2 ∷ 0 ∷ []) $ join ! $
    sets ! (of_opd ! (unit_lit !)) refl (tt, tt) $ feq_i ! (List Val) (vunit ∷ []) (vunit ∷ []) refl $ use0 𝓛 (raw (fact 𝓤 Told)) (fact_i 𝓤 Told (emp 𝓤) (refl, refl, so)) $
    returns ! (look_at ! 0 refl) $ free_all ! refl $ keep ! (2 ∷ 3 ∷ 1 ∷ 0 ∷ []) $ by ! (leaves 𝓛 En hs c z vunit tt (n, (n', tt)) (tt, (tt, tt))))))
