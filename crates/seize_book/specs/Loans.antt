-- Contents that are lent while their values stand in links. The name of a value says which content it stands for, beside its block: which
-- one it is, and the code of what is lent there. The loan goes with the key of the value's block, wherever that goes.
--     code_number g          a number for each code, of which no other has it
--     beside_of v            what the name says beside the block: its place, what it carries, and its cell
--     place_of v             the name of the content that its block has, and loan_of v    the number of the code that is lent there, and
--                            one more; or 0, where nothing is lent with the value
--     cell_of v              the name of the cell in which the holder of its block's key makes notes
--     Carries v c g          a content c is lent with the value, of code g;  CarriesNone v    nothing is;  CarriesOne v    something is
--     AllCarryOne vs         something is lent with each of these values
--     reader n v d           the escrow of d is lent for the time of an activation in which v was found in a link
--     loan n v               the ticket of the content that is lent with v, and the pool of the loan; each reader found v
use Rattle.std.specs.Prelude.{◌≡◌, ℕ, zero, suc, ◌/◌, ◌^◌, true, List, [], ◌∷◌}
use base.Stored.{Gv, gnil, gnum, gcons}
use base.Fml.{Lft, Fml, ftrue, fsep, fex}
use Rattle.seize_content.specs.Contents.{ticket_owns}
use Rattle.seize_content.specs.Readers.{lent_pool}
use Rattle.seize_content.specs.Stages.{lent}
use Rattle.seize_machine.specs.Machine.State.{State, has}
use Rattle.seize_table.specs.Pairs.{left_of, pair, right_of}
use Rattle.seize_book.specs.Entry.{Entry, entry_coded}
use Rattle.seize_book.specs.Laws.{Reader}
use Rattle.seize_book.specs.Ledger.{fact, reached}

abbrev pub code_number : Gv → ℕ
code_number gnil = pair 0 0
code_number (gnum n) = pair 1 n
code_number (gcons a b) = pair 2 (pair (code_number a) (code_number b))

abbrev pub beside_of : ℕ → ℕ
beside_of v = right_of (v / 2 ^ 64)

abbrev pub place_of : ℕ → ℕ
place_of v = left_of (beside_of v)

abbrev pub loan_of : ℕ → ℕ
loan_of v = left_of (right_of (beside_of v))

abbrev pub cell_of : ℕ → ℕ
cell_of v = left_of (right_of (right_of (beside_of v)))

abbrev pub loan_number : Gv → ℕ
loan_number g = suc (code_number g)

abbrev pub Carries : ℕ → ℕ → Gv → Type 0
Carries v c g = (place_of v ≡ c) × (loan_of v ≡ loan_number g)

abbrev pub CarriesNone : ℕ → Type 0
CarriesNone v = loan_of v ≡ 0

abbrev pub CarriesOne : ℕ → Type 0
CarriesOne v = ¬ (CarriesNone v)

abbrev pub AllCarryOne : List ℕ → Type 0
AllCarryOne vs = (v : ℕ) → has v vs ≡ true → CarriesOne v

-- The list was `t.0`, and in it the activation with lifetime t.1 found v.
abbrev pub IsReader : State → ℕ → Lft → List Entry × ℕ → Type 0
IsReader st v β t = (β ≡ t.1 ∷ []) × Reader st t.0 v t.1

abbrev pub reader_by : State → ℕ → ℕ → Lft → List Entry × ℕ → Fml
reader_by st η v β t = fsep (fact (IsReader st v β t)) (reached entry_coded η t.0)

abbrev pub reader : State → ℕ → ℕ → Lft → Fml
reader st η v β = fex (List Entry × ℕ) (reader_by st η v β)

abbrev pub readers : State → ℕ → ℕ → List (Lft × ℕ) → Fml
readers st η v [] = ftrue
readers st η v (d ∷ ds) = fsep (reader st η v d.0) (readers st η v ds)

-- what is lent: the content, the loan's lifetime, the code, and who reads it
pub record Loan : Type 0 where
  pub content : ℕ
  pub life : ℕ
  pub code : Gv
  pub readers : List (Lft × ℕ)

abbrev pub lent_as : State → ℕ → ℕ → Loan → Fml
lent_as st η v l =
    fsep (fact (Carries v l.content l.code))
    (fsep (ticket_owns l.content (lent l.life l.code)) (fsep (lent_pool l.content l.life l.code l.readers) (readers st η v l.readers)))

abbrev pub loan_if : ℕ → State → ℕ → ℕ → Fml
loan_if zero st η v = ftrue
loan_if (suc k) st η v = fex Loan (lent_as st η v)

-- of a book whose list begins at st and has the name η
abbrev pub loan : State → ℕ → ℕ → Fml
loan st η v = loan_if (loan_of v) st η v
