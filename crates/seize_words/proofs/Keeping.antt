-- A rule of links that holds of each code of the list of pairs holds of each pair for which there is a permit.
use Rattle.std.proofs.Common.{◌≡◌, ℕ, zero, suc, Bool, true, false, ◌||◌, ◌==◌, List, [], ◌∷◌, refl, sym, ◌∙◌, ap, subst}
use base.Stored.{Gv, gnum, gcons}
use Rattle.seize_machine.specs.Machine.State.{has}
use Rattle.seize_machine.proofs.Facts.{eq_true}
use Rattle.seize_book.specs.Loans.{code_number}
use Rattle.seize_book.specs.Pairs.{AllKeep, AreCovered, Admits, IsPairOf, Pair, pair_code}
use Rattle.seize_book.specs.Permits.{AllAre, IsCodeOf}
use Rattle.seize_words.proofs.Contents.{same_code}

-- what a code says
abbrev first_of : Gv → Gv
first_of (gcons a b) = a
first_of g = g

abbrev rest_of : Gv → Gv
rest_of (gcons a b) = b
rest_of g = g

abbrev number_of : Gv → ℕ
number_of (gnum n) = n
number_of g = 0

abbrev less_one : ℕ → ℕ
less_one zero = zero
less_one (suc n) = n

module _ (holds : Gv → Type 0) where
  one_of_all : (k : ℕ) (ks : List ℕ) → AllAre holds ks → has (suc k) ks ≡ true → IsCodeOf holds (suc k)
  one_of_all k [] all h = absurd (cc)
  one_of_all k (zero ∷ ks) all h = go (zero == suc k) refl h (one_of_all k ks all)
    where
      go : (b : Bool) → (zero == suc k) ≡ b → (b || has (suc k) ks) ≡ true → (has (suc k) ks ≡ true → IsCodeOf holds (suc k)) → IsCodeOf holds (suc k)
      go true e is rest = absurd (let x : zero ≡ suc k = eq_true zero (suc k) e in cc)
      go false e is rest = rest is
  one_of_all k (suc x ∷ ks) all h = go (suc x == suc k) refl h (one_of_all k ks all.1)
    where
      go : (b : Bool) → (suc x == suc k) ≡ b → (b || has (suc k) ks) ≡ true → (has (suc k) ks ≡ true → IsCodeOf holds (suc k)) → IsCodeOf holds (suc k)
      go true e is rest = subst (IsCodeOf holds) (eq_true (suc x) (suc k) e) all.0
      go false e is rest = rest is

module _ (keeps : ℕ → ℕ → ℕ → Type 0) where
  pub all_keep : (ks : List ℕ) (ts : List Pair) → AllAre (IsPairOf keeps) ks → AreCovered ks ts → AllKeep keeps ts
  all_keep ks [] all are = tt
  all_keep ks (t ∷ ts) all are =
      let w : ℕ = are.0.0 in let code = one_of_all (IsPairOf keeps) (code_number (pair_code t.link w t.next)) ks all are.0.2 in let so = code.2 in
      let same : pair_code so.0 so.1 so.2 ≡ pair_code t.link w t.next = so.3 ∙ same_code code.0 (pair_code t.link w t.next) (ap less_one code.1) in
      let link : so.0 ≡ t.link = ap (λ (g : Gv). number_of (first_of g)) same in
      let says : so.1 ≡ w = ap (λ (g : Gv). number_of (first_of (rest_of g))) same in
      let next : so.2 ≡ t.next = ap (λ (g : Gv). number_of (rest_of (rest_of g))) same in
      (subst (λ (z : ℕ × ℕ). keeps z.0 t.was z.1) (λ j. (link j, next j)) (so.4 t.was (subst (λ (z : ℕ). Admits z t.was) (sym says) are.0.1)), all_keep ks ts all are.1)
