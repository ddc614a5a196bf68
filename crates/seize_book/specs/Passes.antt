-- The words in which the contracts of passes speak.
--     IsSamePass pass pass'     it is the same pass of the same book, with the same batch size
--     mine_of pass           what was made with it, with the answers
--     events_by pass         the events among these
--     MadeNone pass pass'    nothing was made with it
--     Meets pass other pass' other'    both have seen the longer of what they had, nothing was made with either, and they are two: what was
--                            made with one was not made with the other
--     Longer a b c           c is the longer of two lists of which one is a beginning of the other
use Rattle.std.specs.Prelude.{◌≡◌, true, List, [], ◌∷◌, ◌⊎◌}
use mathlib.Core.List.{IsPrefix}
use Rattle.seize_machine.specs.Machine.State.{are_distinct, linked_values}
use Rattle.seize_machine.specs.declared.machine.event.Answer.{Answer}
use Rattle.seize_book.specs.Entry.{Entry, Made, Used, Deed}
use Rattle.seize_book.specs.Book.{IsLegalList, after, mine}
use Rattle.seize_book.specs.Homes.{IsSound}
use Rattle.seize_book.specs.Loans.{AllCarryOne}
use Rattle.seize_book.specs.Tokens.{IsSole, start}
use Rattle.seize_book.specs.declared.book.pass.Pass.{Pass}

abbrev pub IsSamePass : Pass → Pass → Type 0
IsSamePass pass pass' = (pass'.name ≡ pass.name) × (pass'.id ≡ pass.id) × (pass'.size ≡ pass.size)

abbrev pub mine_of : Pass → List (Entry × Answer)
mine_of pass = mine (start pass.name) pass.id pass.seen

-- the events among entries, with their answers
abbrev pub events_in : List (Entry × Answer) → List (Deed × Answer)
events_in [] = []
events_in ((Made d, answer) ∷ made) = (d, answer) ∷ events_in made
events_in ((Used u, answer) ∷ made) = events_in made

abbrev pub events_by : Pass → List (Deed × Answer)
events_by pass = events_in (mine_of pass)

abbrev pub MadeNone : Pass → Pass → Type 0
MadeNone pass pass' = mine_of pass' ≡ mine_of pass

-- It has seen a legal list that goes on from what it had seen, all there is where it is alone, and nothing was made with it. With each
-- value that was named something is lent. The links of the book's opening are distinct, so that the laws hold of this list.
pub record LooksOn (pass pass' : Pass) : Type 0 where
  pub same : IsSamePass pass pass'
  pub none_made : MadeNone pass pass'
  pub grows : IsPrefix pass.seen pass'.seen
  pub alone : IsSole pass.id → pass'.seen ≡ pass.seen
  pub legal : IsLegalList (start pass.name) pass'.seen
  pub sound : IsSound (after (start pass.name) pass'.seen)
  pub lent : AllCarryOne (after (start pass.name) pass'.seen).named
  pub distinct : are_distinct (linked_values pass.name.links) ≡ true

abbrev pub Longer : List Entry → List Entry → List Entry → Type 0
Longer a b c = (IsPrefix a b × (c ≡ b)) ⊎ (IsPrefix b a × (c ≡ a))

abbrev pub Meets : Pass → Pass → Pass → Pass → Type 0
Meets pass other pass' other' =
    IsSamePass pass pass' × IsSamePass other other' × MadeNone pass pass' × MadeNone other other'
    × (other'.seen ≡ pass'.seen) × Longer pass.seen other.seen pass'.seen × ¬ (pass.id ≡ other.id)
