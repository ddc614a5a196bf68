-- Tickets that are counted: whoever has all but those that are out knows how many these are. Assumes `Logic`.
use Rattle.std.proofs.Common.{◌≡◌, ℕ, suc, ◌+◌, ◌-◌, ◌<◌, ◌≤◌, true, false, nat_eq, List, [], ◌∷◌, length, refl, sym, subst, ⊎_elim, arith}
use Rattle.std.specs.List.{AllByRecursion, IsDistinct, list_any}
use Rattle.std.proofs.lemmas.Bool.{eqb-true, ne_eqb, or_cases}
use Rattle.std.proofs.lemmas.Map.Keys.{IsDistinct-cons}
use Rattle.std.proofs.lemmas.Map.Steps.{length-le_from_distinct_below}
use native.Mathlib.Decide.{ℕ_discrete, dec_le}
use seplogic.Ra.Ura.{Ura}
use base.Logic.{SProp, ent, sep, guard, never, never_e, upd, upd_i, ex, emp, via}
use base.Fml.{Fml, ftrue}
use types.Keyed.{entries_new, entries_take, ticket, ticket_issued, ticket_once, tickets_from, token}
use types.Logic.{Logic, sem}
use types.Kit.{‵, raw, ◌⊛◌, some, given, ◌$◌, ◌∵◌, !, qed, by, move, drop, split, fsplit, fsplit3, fjoin, fjoin3, fpick, fpack, pick, learn, show, check, suffices, settle, done, use0, use1, use2}
use denote.Steps.{nothing}
use Rattle.seize_book.specs.Tokens.{all_but, left_of_all, one_out, tickets}

abbrev Others : ℕ → List ℕ → Type 0
Others k ks = AllByRecursion (λ j. nat_eq k j ≡ false) ks

abbrev IsBelow : ℕ → List ℕ → Type 0
IsBelow n ks = (q : ℕ) → list_any (nat_eq q) ks ≡ true → q < n

below_more : (n k : ℕ) (ks : List ℕ) → k < n → IsBelow n ks → IsBelow n (k ∷ ks)
below_more n k ks less below q any = ⊎_elim (λ is. subst (λ (x : ℕ). x < n) (sym (eqb-true q k is)) less) (below q) (or_cases (nat_eq q k) (list_any (nat_eq q) ks) any)

module _ {M : Type 1} {𝓤 : Ura M} (𝓛 : Logic 𝓤) (κ : ℕ) where
  abbrev Pr : Type 2
  Pr = SProp 𝓤

  abbrev ◌⊢◌ : Pr → Pr → Type 1
  P ⊢ Q = ent 𝓤 P Q

  abbrev ◌∗◌ : Pr → Pr → Pr
  P ∗ Q = sep 𝓤 P Q

  abbrev ⟦◌⟧ : Fml → Pr
  ⟦ P ⟧ = sem 𝓛 P

  infix 26 ◌⊢◌
  infixr 35 ◌∗◌
  abbrev one : ℕ → Fml
  one k = ticket κ k

  abbrev all : List ℕ → Fml
  all ks = tickets κ ks

  abbrev rest : ℕ → Fml
  rest n = tickets_from κ n

  other : (k j : ℕ) → ⟦ one k ⟧ ∗ ⟦ one j ⟧ ⊢ guard 𝓤 (nat_eq k j ≡ false) (⟦ one k ⟧ ∗ ⟦ one j ⟧)
  other k j = go (ℕ_discrete k j)
    where
      go : Dec (k ≡ j) → ⟦ one k ⟧ ∗ ⟦ one j ⟧ ⊢ guard 𝓤 (nat_eq k j ≡ false) (⟦ one k ⟧ ∗ ⟦ one j ⟧)
      go (yes e) = subst (λ (x : ℕ). ⟦ one k ⟧ ∗ ⟦ one x ⟧ ⊢ guard 𝓤 (nat_eq k x ≡ false) (⟦ one k ⟧ ∗ ⟦ one x ⟧)) e
          (via 𝓤 (never 𝓤) (ticket_once 𝓛 κ k) (never_e 𝓤 (guard 𝓤 (nat_eq k k ≡ false) (⟦ one k ⟧ ∗ ⟦ one k ⟧))))
      go (no n) = qed 𝓛 (‵ (one k) ∷ ‵ (one j) ∷ []) ∵ check ! (ne_eqb k j n) $ done !

  others : (k : ℕ) (ks : List ℕ) → ⟦ one k ⟧ ∗ ⟦ all ks ⟧ ⊢ guard 𝓤 (Others k ks) (⟦ one k ⟧ ∗ ⟦ all ks ⟧)
  others k [] = qed 𝓛 (‵ (one k) ∷ ‵ (all []) ∷ []) ∵ check ! tt $ done !
  others k (j ∷ ks) = qed 𝓛 (‵ (one k) ∷ ‵ (all (j ∷ ks)) ∷ []) ∵ move ! (1 ∷ []) $ fsplit ! $
      -- [the next; those after it; this one]
      move ! (2 ∷ 0 ∷ []) $ use2 𝓛 (given (nat_eq k j ≡ false) (‵ (one k) ⊛ ‵ (one j))) (other k j) $ learn ! (λ a. split ! $
      move ! (0 ∷ 2 ∷ []) $ use2 𝓛 (given (Others k ks) (‵ (one k) ⊛ ‵ (all ks))) (others k ks) $ learn ! (λ more. check ! (a, more) $ split ! $
      -- [this one; those after the next; the next]
      move ! (2 ∷ 1 ∷ []) $ fjoin ! $ move ! (1 ∷ 0 ∷ []) $ done !))

  -- no two are one, and all were given
  apart : (n : ℕ) (ks : List ℕ) → ⟦ all ks ⟧ ∗ ⟦ rest n ⟧ ⊢ guard 𝓤 (IsDistinct nat_eq ks × IsBelow n ks) (⟦ all ks ⟧ ∗ ⟦ rest n ⟧)
  unfolding IsDistinct
  apart n [] = qed 𝓛 (‵ (all []) ∷ ‵ (rest n) ∷ []) ∵ check ! (tt, λ q any. absurd (let e : false ≡ true = any in cc)) $ done !
  apart n (k ∷ ks) = qed 𝓛 (‵ (all (k ∷ ks)) ∷ ‵ (rest n) ∷ []) ∵ fsplit ! $ move ! (1 ∷ 2 ∷ []) $
      use2 𝓛 (given (IsDistinct nat_eq ks × IsBelow n ks) (‵ (all ks) ⊛ ‵ (rest n))) (apart n ks) $ learn ! (λ so. split ! $
      -- [those after it; those not given; this one]
      move ! (2 ∷ 0 ∷ []) $ use2 𝓛 (given (Others k ks) (‵ (one k) ⊛ ‵ (all ks))) (others k ks) $ learn ! (λ differ. split ! $
      move ! (0 ∷ 2 ∷ []) $ use2 𝓛 (given (k < n) (‵ (one k) ⊛ ‵ (rest n))) (ticket_issued 𝓛 κ n k) $ learn ! (λ less. split ! $
      -- [this one; those not given; those after it]
      check ! (IsDistinct-cons nat_eq k ks differ so.0, below_more n k ks less so.1) $ move ! (0 ∷ 2 ∷ []) $ fjoin ! $ done !)))

  -- so they are no more than were given
  few : (n : ℕ) (ks : List ℕ) → ⟦ all ks ⟧ ∗ ⟦ rest n ⟧ ⊢ guard 𝓤 (length ks ≤ n) (⟦ all ks ⟧ ∗ ⟦ rest n ⟧)
  few n ks = qed 𝓛 (‵ (all ks) ∷ ‵ (rest n) ∷ []) ∵ use2 𝓛 (given (IsDistinct nat_eq ks × IsBelow n ks) (‵ (all ks) ⊛ ‵ (rest n))) (apart n ks) $
      learn ! (λ so. check ! (length-le_from_distinct_below ks n so.0 so.1) $ done !)

  abbrev Left : ℕ → ℕ → List ℕ → Type 0
  Left out n ks = length ks + out ≡ n

  packs : (out n : ℕ) (ks : List ℕ) → Left out n ks → ⟦ all ks ⟧ ∗ ⟦ rest n ⟧ ⊢ ⟦ all_but κ out ⟧
  packs out n ks so = qed 𝓛 (‵ (all ks) ∷ ‵ (rest n) ∷ []) ∵ nothing ! $ fpack ! (Left out n ks) (λ _. ftrue) so $ move ! (1 ∷ 2 ∷ 0 ∷ []) $ fjoin3 ! $
      fpack ! (ℕ × List ℕ) (left_of_all κ out) (n, ks) $ done !

  abbrev Taken : ℕ → ℕ × List ℕ → Pr
  Taken out t = guard 𝓤 (Left out t.0 t.1) (⟦ all t.1 ⟧ ∗ ⟦ rest t.0 ⟧)

  takes : (out : ℕ) → ⟦ all_but κ out ⟧ ⊢ ex 𝓤 (Taken out)
  takes out = qed 𝓛 (‵ (all_but κ out) ∷ []) ∵ fpick ! (λ t. fsplit3 ! $ move ! (2 ∷ []) $ fpick ! (λ so. drop ! $ show ! (Taken out) t $ check ! so $ done !))

  -- one more is out
  pub goes_out : (out : ℕ) → ⟦ all_but κ out ⟧ ⊢ ⟦ all_but κ (suc out) ⟧ ∗ ⟦ one_out κ ⟧
  goes_out out = qed 𝓛 (‵ (all_but κ out) ∷ []) ∵ use1 𝓛 (some (λ (t : ℕ × List ℕ). given (Left out t.0 t.1) (‵ (all t.1) ⊛ ‵ (rest t.0)))) (takes out) $ pick ! (λ t. learn ! (λ so. split ! $
      move ! (1 ∷ []) $ use1 𝓛 (‵ (one t.0) ⊛ ‵ (rest (suc t.0))) (entries_take token 𝓛 κ t.0 (λ _. tt)) $ split ! $ fpack ! ℕ (ticket κ) t.0 $
      -- [the one; those not given; those that are back]
      move ! (2 ∷ 1 ∷ []) $ use2 𝓛 (‵ (all_but κ (suc out))) (packs (suc out) (suc t.0) t.1 (omega (arith, so))) $ done !))

  -- one comes back
  pub comes_back : (out : ℕ) → ⟦ all_but κ out ⟧ ∗ ⟦ one_out κ ⟧ ⊢ guard 𝓤 (1 ≤ out) ⟦ all_but κ (out - 1) ⟧
  comes_back out = qed 𝓛 (‵ (all_but κ out) ∷ ‵ (one_out κ) ∷ []) ∵ use1 𝓛 (some (λ (t : ℕ × List ℕ). given (Left out t.0 t.1) (‵ (all t.1) ⊛ ‵ (rest t.0)))) (takes out) $ pick ! (λ t. learn ! (λ so. split ! $
      move ! (2 ∷ []) $ fpick ! (λ k. move ! (0 ∷ 1 ∷ []) $ fjoin ! $
      use2 𝓛 (given (length (k ∷ t.1) ≤ t.0) (‵ (all (k ∷ t.1)) ⊛ ‵ (rest t.0))) (few t.0 (k ∷ t.1)) $ learn ! (λ less. check ! (omega (arith, so, less)) $ split ! $
      use2 𝓛 (‵ (all_but κ (out - 1))) (packs (out - 1) t.0 (k ∷ t.1) (omega (arith, so, less))) $ done !))))

  -- where none is out there is none to come back
  pub none_back : (Z : Pr) → ⟦ all_but κ 0 ⟧ ∗ ⟦ one_out κ ⟧ ⊢ Z
  none_back Z = qed 𝓛 (‵ (all_but κ 0) ∷ ‵ (one_out κ) ∷ []) ∵ use2 𝓛 (given (1 ≤ 0) (‵ (all_but κ 0))) (comes_back 0) $ learn ! (λ less. absurd (omega (arith, less)))

  -- nobody else has those that were not given
  once : (Z : Pr) (n m : ℕ) → n ≤ m → ⟦ rest n ⟧ ∗ ⟦ rest m ⟧ ⊢ Z
  once Z n m less = qed 𝓛 (‵ (rest n) ∷ ‵ (rest m) ∷ []) ∵ move ! (1 ∷ []) $ use1 𝓛 (‵ (one m) ⊛ ‵ (rest (suc m))) (entries_take token 𝓛 κ m (λ _. tt)) $ split ! $
      move ! (0 ∷ 2 ∷ []) $ use2 𝓛 (given (m < n) (‵ (one m) ⊛ ‵ (rest n))) (ticket_issued 𝓛 κ n m) $ learn ! (λ more. absurd (omega (arith, more, less)))

  pub all_once : (Z : Pr) (a b : ℕ) → ⟦ all_but κ a ⟧ ∗ ⟦ all_but κ b ⟧ ⊢ Z
  all_once Z a b = qed 𝓛 (‵ (all_but κ a) ∷ ‵ (all_but κ b) ∷ []) ∵ use1 𝓛 (some (λ (t : ℕ × List ℕ). given (Left a t.0 t.1) (‵ (all t.1) ⊛ ‵ (rest t.0)))) (takes a) $ pick ! (λ t. learn ! (λ so. split ! $
      move ! (2 ∷ []) $ use1 𝓛 (some (λ (u : ℕ × List ℕ). given (Left b u.0 u.1) (‵ (all u.1) ⊛ ‵ (rest u.0)))) (takes b) $ pick ! (λ u. learn ! (λ so'. split ! $
      -- [the one's back; not given; the other's back; not given]
      drop ! $ move ! (2 ∷ 0 ∷ []) $ by ! (go t u (dec_le t.0 u.0))))))
    where
      go : (t u : ℕ × List ℕ) → Dec (t.0 ≤ u.0) → ⟦ rest t.0 ⟧ ∗ (⟦ rest u.0 ⟧ ∗ ⟦ all t.1 ⟧) ⊢ Z
      go t u (yes less) = qed 𝓛 (‵ (rest t.0) ∷ ‵ (rest u.0) ∷ ‵ (all t.1) ∷ []) ∵ use2 𝓛 (given ⊥ (‵ ftrue)) (once (guard 𝓤 ⊥ ⟦ ftrue ⟧) t.0 u.0 less) $ learn ! (λ x. absurd x)
      go t u (no more) = qed 𝓛 (‵ (rest t.0) ∷ ‵ (rest u.0) ∷ ‵ (all t.1) ∷ []) ∵ move ! (1 ∷ 0 ∷ []) $ use2 𝓛 (given ⊥ (‵ ftrue)) (once (guard 𝓤 ⊥ ⟦ ftrue ⟧) u.0 t.0 (omega arith)) $ learn ! (λ x. absurd x)

module _ {M : Type 1} {𝓤 : Ura M} (𝓛 : Logic 𝓤) where
  -- at first none is out
  pub all_back : ent 𝓤 (emp 𝓤) (upd 𝓤 (ex 𝓤 (λ (κ : ℕ). sem 𝓛 (all_but κ 0))))
  all_back = let Z : SProp 𝓤 = ex 𝓤 (λ (κ : ℕ). sem 𝓛 (all_but κ 0)) in
      qed 𝓛 [] ∵ use0 𝓛 (raw (upd 𝓤 (ex 𝓤 (λ (κ : ℕ). sem 𝓛 (tickets_from κ 0))))) (entries_new token 𝓛 0 (λ _. tt)) $ settle 𝓛 Z (some (λ (κ : ℕ). ‵ (tickets_from κ 0))) $
      pick ! (λ κ. suffices ! _ (upd_i 𝓤 Z) $ nothing ! $ move ! (0 ∷ 1 ∷ []) $ use2 𝓛 (‵ (all_but κ 0)) (packs 𝓛 κ 0 0 [] refl) $ show ! (λ (κ : ℕ). sem 𝓛 (all_but κ 0)) κ $ done !)
