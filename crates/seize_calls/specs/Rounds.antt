-- A round through the keys of a batch, from the first one on.
--     done_in round, rest_in round, all_in round     the keys of the values where it has been, of those to come, and of all
--     book_at round            their book
--     IsRoundOf round values   it has been nowhere, and these values are to come
--     HasNextValue round pass     there is a next value, which was named, as the pass has seen
--     IsNextOf header round    there is one, and this is the header of its block
--     MovesPast round note round'   it went past the next value, of whose block this is noted
--     Remarks round m round'   it went past the next value, and notes this slot of its block in the place of what was noted of slots
use Rattle.std.specs.Prelude.{◌≡◌, ℕ, true, List, [], ◌∷◌, ◌++◌}
use Rattle.seize_machine.specs.Machine.State.{has}
use Rattle.seize_book.specs.Entry.{Entry}
use Rattle.seize_book.specs.Homesteads.{state_seen}
use Rattle.seize_book.specs.Ledger.{HeldKey}
use Rattle.seize_book.specs.Loans.{cell_of}
use Rattle.seize_book.specs.Private.{labels_of}
use Rattle.seize_book.specs.Tokens.{Name}
use Rattle.seize_words.specs.Chunks.{header_cell}
use Rattle.seize_words.specs.Noted.{note_code}
use Rattle.seize_book.specs.declared.book.pass.Pass.{Pass}
use Rattle.seize_words.specs.declared.chunk.Header.{Header}
use Rattle.seize_words.specs.declared.note.Note.{Note}
use Rattle.seize_calls.specs.declared.round.Round.{Round}

abbrev pub done_in : Round → List (HeldKey Entry)
done_in round = round.done.keys.held

abbrev pub rest_in : Round → List (HeldKey Entry)
rest_in round = round.rest.keys.held

abbrev pub all_in : Round → List (HeldKey Entry)
all_in round = done_in round ++ rest_in round

abbrev pub book_at : Round → Name
book_at round = round.done.keys.name

abbrev pub IsRoundOf : Round → List ℕ → Type 0
IsRoundOf round values = (done_in round ≡ []) × (labels_of (rest_in round) ≡ values)

abbrev pub HasNextValue : Round → Pass → Type 0
HasNextValue round pass = (v : ℕ) × (vs : List ℕ) × (labels_of (rest_in round) ≡ v ∷ vs) × (has v (state_seen pass).named ≡ true)

abbrev pub IsNextOf : Header → Round → Type 0
IsNextOf header round = (v : ℕ) × (vs : List ℕ) × (labels_of (rest_in round) ≡ v ∷ vs) × (header_cell header ≡ cell_of v)

pub record MovesPast (round : Round) (note : Note) (round' : Round) : Type 0 where
  pub book : book_at round' ≡ book_at round
  pub first : HeldKey Entry
  pub noted : first.note ≡ note_code note
  pub was : rest_in round ≡ first ∷ rest_in round'
  pub now : done_in round' ≡ done_in round ++ first ∷ []

abbrev pub with_slot : ℕ → Note → HeldKey Entry → HeldKey Entry
with_slot m note h =
    let noted = note_code (record { next = note.next; slot = m; kept = note.kept }) in
    record { kind = h.kind; key = h.key; own = h.own; label = h.label; note = noted }

pub record Remarks (round : Round) (m : ℕ) (round' : Round) : Type 0 where
  pub book : book_at round' ≡ book_at round
  pub first : HeldKey Entry
  pub note : Note
  pub noted : first.note ≡ note_code note
  pub was : rest_in round ≡ first ∷ rest_in round'
  pub now : done_in round' ≡ done_in round ++ with_slot m note first ∷ []
