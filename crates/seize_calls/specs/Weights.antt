-- What reclaimers put weighs less than the value that they were given, so that a queue comes to its end. A relation says how much a value
-- weighs: `weighs l m`, where the number l stands for what is lent with the value.
--     Weigh weighs ls ms     these numbers stand for what weighs so much, one by one;  AreWeighed weighs ls    for what weighs something
--     IsLight weighs one     this value, which was had, weighs something, and those that were put with it weigh no more, together, with
--                            one more for each;  AreLight weighs had    so it is with each that was had
use Rattle.std.specs.Prelude.{ℕ, suc, ◌≤◌, List, [], ◌∷◌, map}
use Rattle.std.specs.List.{sum_by}
use base.Stored.{Gv}
use Rattle.seize_book.specs.Loans.{loan_number, loan_of}
use Rattle.seize_calls.specs.Handing.{Had}

abbrev pub Weigh : (ℕ → ℕ → Type 0) → List ℕ → List ℕ → Type 0
Weigh weighs [] [] = Unit {0}
Weigh weighs (l ∷ ls) (m ∷ ms) = weighs l m × Weigh weighs ls ms
Weigh weighs _ _ = ⊥

abbrev pub AreWeighed : (ℕ → ℕ → Type 0) → List ℕ → Type 0
AreWeighed weighs ls = (ms : List ℕ) × Weigh weighs ls ms

abbrev pub IsLight : (ℕ → ℕ → Type 0) → ℕ × Gv × List ℕ × List ℕ → Type 0
IsLight weighs one = (m : ℕ) × (ms : List ℕ) × weighs (loan_number one.1) m × Weigh weighs (map loan_of one.2) ms × (sum_by suc ms ≤ m)

abbrev pub AreLight : (ℕ → ℕ → Type 0) → Had → Type 0
AreLight weighs [] = Unit {0}
AreLight weighs (one ∷ had) = IsLight weighs one × AreLight weighs had
