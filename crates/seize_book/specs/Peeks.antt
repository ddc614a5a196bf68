-- What a `&` to keys shows: of each key of a block where its value's number leads, and what is lent with its value. The holder of such a
-- key has what is left of the loan, a share of its lifetime's token, so the loan lasts for as long as the key is borrowed.
--     sight_if k κ v      a sight of what is lent with v, for κ or longer; k is the number of the loan's code, and nothing is lent at 0
--     keys_show n held κ  what a `&` to these keys of book n shows
use Rattle.std.specs.Prelude.{ℕ, zero, suc, Bool, true, false, ◌==◌, List, [], ◌∷◌}
use base.Fml.{Lft, Fml, ftrue, fsep, fex}
use base.Stored.{Gv}
use Rattle.seize_content.specs.Contents.{sight_owns}
use Rattle.seize_book.specs.Book.{blocks}
use Rattle.seize_book.specs.Entry.{Entry}
use Rattle.seize_book.specs.Ledger.{HeldKey, fact}
use Rattle.seize_book.specs.Loans.{Carries, loan_of}
use Rattle.seize_book.specs.Tokens.{Name, leads}

abbrev pub sight_of : Lft → ℕ → ℕ × (ℕ × Gv) → Fml
sight_of κ v t = fsep (fact (Carries v t.0 t.1.1)) (sight_owns κ t.0 t.1.0 t.1.1)

abbrev pub sight_if : ℕ → Lft → ℕ → Fml
sight_if zero κ v = ftrue
sight_if (suc k) κ v = fex (ℕ × (ℕ × Gv)) (sight_of κ v)

abbrev pub show_if : Bool → Name → ℕ → Lft → Fml
show_if true n v κ = fsep (leads n v) (sight_if (loan_of v) κ v)
show_if false n v κ = ftrue

abbrev pub keys_show : Name → List (HeldKey Entry) → Lft → Fml
keys_show n [] κ = ftrue
keys_show n (h ∷ held) κ = fsep (show_if (h.kind == blocks) n h.label κ) (keys_show n held κ)
