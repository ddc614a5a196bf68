-- Permits: which codes may be lent with the values of a book. The codes stand in a list by their numbers, which only grows. What holds of
-- each of them is said where the list is made; a permit doesn't know it, so a book whose values lie in links can keep one with each.
--     permit γ k             a code with the number k is in the list γ, for good
--     permit_if γ l          so it is with l, where that is the number of a loan: 0 is that of none
--     all_permitted γ ls     so it is with all of these
--     IsCodeOf holds k       k is the number of a code of which this holds;  AllAre holds ls    so is each that is not 0
--     permits_kept holds γ   the list, of numbers of such codes;  knows_permits    that there is this list, for good
use Rattle.std.specs.Prelude.{◌≡◌, ℕ, zero, suc, true, List, [], ◌∷◌}
use base.Fraction.{full_share}
use base.Growing.{latest}
use base.Stored.{Gv, coded_ℕ}
use base.Fml.{Fml, ftrue, fsep, fex, fnamed}
use Rattle.seize_machine.specs.Machine.State.{has}
use Rattle.seize_book.specs.Ledger.{fact, logs, reached}
use Rattle.seize_book.specs.Loans.{loan_number}

abbrev pub permit_at : ℕ → ℕ → List ℕ → Fml
permit_at γ k ks = fsep (reached coded_ℕ γ ks) (fact (has k ks ≡ true))

abbrev pub permit : ℕ → ℕ → Fml
permit γ k = fex (List ℕ) (permit_at γ k)

abbrev pub permit_if : ℕ → ℕ → Fml
permit_if γ zero = ftrue
permit_if γ (suc k) = permit γ (suc k)

abbrev pub all_permitted : ℕ → List ℕ → Fml
all_permitted γ [] = ftrue
all_permitted γ (l ∷ ls) = fsep (permit_if γ l) (all_permitted γ ls)

module _ (holds : Gv → Type 0) where
  abbrev pub IsCodeOf : ℕ → Type 0
  IsCodeOf k = (g : Gv) × (loan_number g ≡ k) × holds g

  abbrev pub AreOf : List ℕ → Type 0
  AreOf ks = (k : ℕ) → has k ks ≡ true → IsCodeOf k

  abbrev pub AllAre : List ℕ → Type 0
  AllAre [] = Unit {0}
  AllAre (zero ∷ ls) = AllAre ls
  AllAre (suc k ∷ ls) = IsCodeOf (suc k) × AllAre ls

  abbrev pub permits_kept_at : ℕ → List ℕ → Fml
  permits_kept_at γ ks = fsep (latest (logs coded_ℕ) full_share γ ks) (fact (AreOf ks))

  abbrev pub permits_kept : ℕ → Fml
  permits_kept γ = fex (List ℕ) (permits_kept_at γ)

  abbrev pub knows_at : ℕ → ℕ → Fml
  knows_at γ j = fnamed j (permits_kept γ)

  abbrev pub knows_permits : ℕ → Fml
  knows_permits γ = fex ℕ (knows_at γ)
