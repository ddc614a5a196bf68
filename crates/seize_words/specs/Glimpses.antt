-- What a reader of a link finds: a sight of what is lent with the value there. Before its step it makes an escrow, which is lent for the
-- time of its activation; in the step it takes its share of the loan, and the loan has the right to the escrow then.
--     value_shown trades o   what is seen of what the link holds then: nothing where the step traded, since the holder has the key
--     empty γ                the escrow is empty
--     taken_share γ o        the share that was taken, for the escrow γ, of what is lent with the value o; or the escrow is still empty
--     glimpse κ o            a sight of it, which lasts as long as κ
--     IsLentWith o           there is a value, and a content is lent with it
--     SightFor o s           the sight is of that content
use Rattle.std.specs.Prelude.{ℕ, zero, suc, Bool, true, false, Option, Some, None}
use base.Fml.{Lft, Share, Fml, ftrue, fsep, fex}
use base.Stored.{Gv}
use Rattle.seize_content.specs.Readers.{reader_share, ready}
use Rattle.seize_content.specs.declared.loan.Sight.{Sight}
use Rattle.seize_book.specs.Ledger.{fact}
use Rattle.seize_book.specs.Loans.{Carries, CarriesOne, loan_of}
pub use Rattle.seize_book.specs.Peeks.{sight_if, sight_of}

abbrev pub value_shown : Bool → Option ℕ → Option ℕ
value_shown true o = None
value_shown false o = o

-- of which content, under which lifetime, of which code, and which share of that lifetime's token
pub record Piece : Type 0 where
  pub content : ℕ
  pub life : ℕ
  pub code : Gv
  pub share : Share

abbrev pub taken_of : ℕ → ℕ → Piece → Fml
taken_of γ v t = fsep (fact (Carries v t.content t.code)) (reader_share t.content t.life t.code γ t.share)

abbrev pub taken_if : ℕ → ℕ → ℕ → Fml
taken_if zero γ v = ready γ
taken_if (suc k) γ v = fex Piece (taken_of γ v)

abbrev pub taken_share : ℕ → Option ℕ → Fml
taken_share γ None = ready γ
taken_share γ (Some v) = taken_if (loan_of v) γ v

abbrev pub glimpse : Lft → Option ℕ → Fml
glimpse κ None = ftrue
glimpse κ (Some v) = sight_if (loan_of v) κ v

abbrev pub IsLentWith : Option ℕ → Type 0
IsLentWith None = ⊥
IsLentWith (Some v) = CarriesOne v

abbrev pub SightFor : Option ℕ → Sight → Type 0
SightFor None s = ⊥
SightFor (Some v) s = Carries v s.name s.value
