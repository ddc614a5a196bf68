-- Permits: a list of codes begins, a code comes into it, and what is known of it for good. Assumes `Logic`.
use Rattle.std.proofs.Common.{◌≡◌, ℕ, zero, suc, ◌≤◌, Bool, true, false, ◌||◌, ◌==◌, List, [], ◌∷◌, ◌++◌, ⊎_elim, refl, sym, subst}
use seplogic.Ra.Ura.{Ura}
use base.Fraction.{full_share}
use base.Growing.{latest}
use base.Logic.{SProp, ent, sep, ex, guard, upd, emp, via, upd_i}
use base.Stored.{Gv, coded_ℕ}
use base.Fml.{Fml, ftrue, fnamed, finv}
use mathlib.Core.List.{IsPrefix, append-nil}
use types.Logic.{Logic, sem}
use types.Owned.{basic, named_past}
use types.Growing.{at_least_dup, latest_bounds, latest_grows, latest_new, latest_shows}
use types.Kit.{‵, raw, ◌⊛◌, some, given, later, ◌$◌, ◌∵◌, !, qed, by, move, keep, drop, split, fsplit, fjoin, fpick, fpack, pick, learn, frame, assume, show, check, suffices, settle, done, use0, use1, use2, updating, await, now}
use denote.Steps.{nothing}
use Rattle.seize_machine.specs.Machine.State.{has}
use Rattle.seize_book.specs.Ledger.{logs, reached}
use Rattle.seize_book.specs.Loans.{loan_number}
use Rattle.seize_book.proofs.Sound.{has_last, pushed}
use Rattle.seize_book.specs.Permits.{AllAre, AreOf, IsCodeOf, all_permitted, permits_kept, permits_kept_at, knows_at, knows_permits, permit, permit_at, permit_if}

-- what is in a list is in a longer one
in_longer : (k : ℕ) (ks rest : List ℕ) → has k ks ≡ true → has k (ks ++ rest) ≡ true
in_longer k [] rest h = absurd (cc)
in_longer k (x ∷ ks) rest h = go (x == k) (in_longer k ks rest) h
  where
    go : (b : Bool) → (has k ks ≡ true → has k (ks ++ rest) ≡ true) → (b || has k ks) ≡ true → (b || has k (ks ++ rest)) ≡ true
    go true longer is = refl
    go false longer is = longer is

module _ (holds : Gv → Type 0) where
  -- one more of which it holds
  are_more : (ks : List ℕ) (g : Gv) → AreOf holds ks → holds g → AreOf holds (ks ++ loan_number g ∷ [])
  are_more ks g are is k h = ⊎_elim (λ (e : k ≡ loan_number g). (g, sym e, is)) (are k) (pushed (loan_number g) ks k h)

module _ {M : Type 1} {𝓤 : Ura M} (𝓛 : Logic 𝓤) where
  open 𝓛 use {H}

  abbrev Pr : Type 2
  Pr = SProp 𝓤

  abbrev ◌⊢◌ : Pr → Pr → Type 1
  P ⊢ Q = ent 𝓤 P Q

  abbrev ◌∗◌ : Pr → Pr → Pr
  P ∗ Q = sep 𝓤 P Q

  abbrev ⟦◌⟧ : Fml → Pr
  ⟦ P ⟧ = sem 𝓛 P

  infix 26 ◌⊢◌
  infixr 35 ◌∗◌
  abbrev had : ℕ → List ℕ → Fml
  had γ ks = reached coded_ℕ γ ks

  permit_twice : (γ k : ℕ) → ⟦ permit γ k ⟧ ⊢ ⟦ permit γ k ⟧ ∗ ⟦ permit γ k ⟧
  permit_twice γ k = qed 𝓛 (‵ (permit γ k) ∷ []) ∵ fpick ! (λ ks. fsplit ! $ move ! (1 ∷ []) $ fpick ! (λ is. drop ! $
      use1 𝓛 (‵ (had γ ks) ⊛ ‵ (had γ ks)) (at_least_dup (logs coded_ℕ) 𝓛 γ ks) $ split ! $
      nothing ! $ fpack ! (has k ks ≡ true) (λ _. ftrue) is $ move ! (1 ∷ 0 ∷ []) $ fjoin ! $ fpack ! (List ℕ) (permit_at γ k) ks $
      nothing ! $ fpack ! (has k ks ≡ true) (λ _. ftrue) is $ move ! (2 ∷ 0 ∷ []) $ fjoin ! $ fpack ! (List ℕ) (permit_at γ k) ks $ done !))

  pub permit_if_twice : (γ l : ℕ) → ⟦ permit_if γ l ⟧ ⊢ ⟦ permit_if γ l ⟧ ∗ ⟦ permit_if γ l ⟧
  permit_if_twice γ zero = qed 𝓛 (‵ ftrue ∷ []) ∵ nothing ! $ done !
  permit_if_twice γ (suc l) = permit_twice γ (suc l)

  module _ (holds : Gv → Type 0) where
    -- a new list, with no code
    pub begins : emp 𝓤 ⊢ H.⇛ (ex 𝓤 (λ (γ : ℕ). ⟦ knows_permits holds γ ⟧))
    begins = qed 𝓛 [] ∵ updating ! $ use0 𝓛 (later (some (λ (γ : ℕ). ‵ (latest (logs coded_ℕ) full_share γ [])))) (via 𝓤 _ (latest_new (logs coded_ℕ) 𝓛 []) (basic 𝓛 _)) $ await ! tt $ pick ! (λ γ.
        nothing ! $ fpack ! (AreOf holds []) (λ _. ftrue) (λ k h. absurd (cc)) $ move ! (1 ∷ 0 ∷ []) $ fjoin ! $ fpack ! (List ℕ) (permits_kept_at holds γ) [] $
        use1 𝓛 (later (some (λ (j : ℕ). given (0 ≤ j) (‵ (fnamed j (permits_kept holds γ)))))) (named_past 𝓛 0 (permits_kept holds γ)) $ await ! tt $ pick ! (λ j. learn ! (λ _.
        fpack ! ℕ (knows_at holds γ) j $ now ! $ show ! (λ (γ : ℕ). ⟦ knows_permits holds γ ⟧) γ $ done !)))

    pub list_twice : (γ : ℕ) → ⟦ knows_permits holds γ ⟧ ⊢ ⟦ knows_permits holds γ ⟧ ∗ ⟦ knows_permits holds γ ⟧
    list_twice γ = qed 𝓛 (‵ (knows_permits holds γ) ∷ []) ∵ fpick ! (λ j. use1 𝓛 (‵ (fnamed j (permits_kept holds γ)) ⊛ ‵ (fnamed j (permits_kept holds γ))) (𝓛.invs.named_dup j (permits_kept holds γ)) $ split ! $
        fpack ! ℕ (knows_at holds γ) j $ move ! (1 ∷ []) $ fpack ! ℕ (knows_at holds γ) j $ done !)

    opens : (γ : ℕ) → ⟦ knows_permits holds γ ⟧ ⊢ ⟦ finv (permits_kept holds γ) ⟧
    opens γ = qed 𝓛 (‵ (knows_permits holds γ) ∷ []) ∵ fpick ! (λ j. use1 𝓛 (‵ (finv (permits_kept holds γ))) (𝓛.invs.named_inv j (permits_kept holds γ)) $ done !)

    -- a code comes into the list
    pub gives : (γ : ℕ) (g : Gv) → holds g → ⟦ knows_permits holds γ ⟧ ⊢ H.⇛ ⟦ permit γ (loan_number g) ⟧
    gives γ g is = let J : Fml = permits_kept holds γ in let Z : Pr = ⟦ permit γ (loan_number g) ⟧ in qed 𝓛 (‵ (knows_permits holds γ) ∷ []) ∵ use1 𝓛 (‵ (finv J)) (opens γ) $
        suffices ! _ (𝓛.invs.inv_acc J Z) $ frame ! $ assume ! (‵ J) $ fpick ! (λ ks. fsplit ! $ move ! (1 ∷ []) $ fpick ! (λ are. drop ! $ let ks' : List ℕ = ks ++ loan_number g ∷ [] in
        use1 𝓛 (raw (upd 𝓤 ⟦ latest (logs coded_ℕ) full_share γ ks' ⟧)) (latest_grows (logs coded_ℕ) 𝓛 γ ks ks' (loan_number g ∷ [], refl)) $ settle 𝓛 (⟦ J ⟧ ∗ Z) (‵ (latest (logs coded_ℕ) full_share γ ks')) $
        use1 𝓛 (‵ (latest (logs coded_ℕ) full_share γ ks') ⊛ ‵ (had γ ks')) (latest_shows (logs coded_ℕ) 𝓛 full_share γ ks' ks' ([], append-nil ks')) $ split ! $ suffices ! _ (upd_i 𝓤 (⟦ J ⟧ ∗ Z)) $
        -- [the list; that it was reached]
        nothing ! $ fpack ! (AreOf holds ks') (λ _. ftrue) (are_more holds ks g are is) $ move ! (1 ∷ 0 ∷ []) $ fjoin ! $ fpack ! (List ℕ) (permits_kept_at holds γ) ks' $
        nothing ! $ fpack ! (has (loan_number g) ks' ≡ true) (λ _. ftrue) (has_last (loan_number g) ks) $ move ! (2 ∷ 0 ∷ []) $ fjoin ! $ fpack ! (List ℕ) (permit_at γ (loan_number g)) ks' $ move ! (1 ∷ 0 ∷ []) $ done !))

    -- what a permit says of its code
    pub checks : (γ k : ℕ) → ⟦ knows_permits holds γ ⟧ ∗ ⟦ permit γ k ⟧ ⊢ H.⇛ (guard 𝓤 (IsCodeOf holds k) ⟦ ftrue ⟧)
    checks γ k = let J : Fml = permits_kept holds γ in let Z : Pr = guard 𝓤 (IsCodeOf holds k) ⟦ ftrue ⟧ in qed 𝓛 (‵ (knows_permits holds γ) ∷ ‵ (permit γ k) ∷ []) ∵ use1 𝓛 (‵ (finv J)) (opens γ) $
        suffices ! _ (𝓛.invs.inv_acc J Z) $ frame ! $ assume ! (‵ J) $ fpick ! (λ ks. fsplit ! $ move ! (1 ∷ []) $ fpick ! (λ are. drop ! $
        -- [the list; the permit]
        move ! (1 ∷ []) $ fpick ! (λ past. fsplit ! $ move ! (1 ∷ []) $ fpick ! (λ is. drop ! $ move ! (1 ∷ 0 ∷ []) $
        use2 𝓛 (given (IsPrefix past ks) (‵ (latest (logs coded_ℕ) full_share γ ks) ⊛ ‵ (had γ past))) (latest_bounds (logs coded_ℕ) 𝓛 full_share γ ks past) $ learn ! (λ grows. split ! $ suffices ! _ (upd_i 𝓤 (⟦ J ⟧ ∗ Z)) $
        nothing ! $ fpack ! (AreOf holds ks) (λ _. ftrue) are $ move ! (1 ∷ 0 ∷ []) $ fjoin ! $ fpack ! (List ℕ) (permits_kept_at holds γ) ks $ frame ! $
        check ! (are k (subst (λ (xs : List ℕ). has k xs ≡ true) grows.1 (in_longer k past grows.0 is))) $ drop ! $ nothing ! $ done !)))))

    -- and of all its codes
    pub checks_all : (γ : ℕ) (ls : List ℕ) → ⟦ knows_permits holds γ ⟧ ∗ ⟦ all_permitted γ ls ⟧ ⊢ H.⇛ (guard 𝓤 (AllAre holds ls) ⟦ ftrue ⟧)
    checks_all γ [] = qed 𝓛 (‵ (knows_permits holds γ) ∷ ‵ ftrue ∷ []) ∵ updating ! $ drop ! $ now ! $ check ! tt $ done !
    checks_all γ (zero ∷ ls) = qed 𝓛 (‵ (knows_permits holds γ) ∷ ‵ (all_permitted γ (zero ∷ ls)) ∷ []) ∵ move ! (1 ∷ []) $ fsplit ! $ move ! (2 ∷ 1 ∷ []) $ keep ! (0 ∷ 1 ∷ []) $ by ! (checks_all γ ls)
    checks_all γ (suc l ∷ ls) = qed 𝓛 (‵ (knows_permits holds γ) ∷ ‵ (all_permitted γ (suc l ∷ ls)) ∷ []) ∵ updating ! $ use1 𝓛 (‵ (knows_permits holds γ) ⊛ ‵ (knows_permits holds γ)) (list_twice γ) $ split ! $
        -- [the list, twice; the permits]
        move ! (2 ∷ []) $ fsplit ! $ move ! (2 ∷ 0 ∷ []) $ use2 𝓛 (later (given (IsCodeOf holds (suc l)) (‵ ftrue))) (checks γ (suc l)) $ await ! tt $ learn ! (λ one. drop ! $
        move ! (1 ∷ 0 ∷ []) $ use2 𝓛 (later (given (AllAre holds ls) (‵ ftrue))) (checks_all γ ls) $ await ! tt $ learn ! (λ all. now ! $ check ! (one, all) $ done !))
