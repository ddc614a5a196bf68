-- Where the blocks of values are found that were named, by what a token of the store shows of a row.
--     AreAt n known st     each value of the book n that was ever named, and whose number is one of the row's, lies in the block with the
--                          label there: that label is of the book, and of the value's home and cell, and the content there is its place
--     HasNumber k st       a value was named whose number this is
--     state_seen pass      the machine after all that the pass has seen
use Rattle.std.specs.Prelude.{◌≡◌, ℕ, true}
use Rattle.seize_machine.specs.Machine.State.{State, has}
use Rattle.seize_store.specs.RowTokens.{IsInRow, content_in, entry_of, label_in}
use Rattle.seize_store.specs.declared.row_token.RowToken.{RowToken}
use Rattle.seize_book.specs.Blocks.{block_number}
use Rattle.seize_book.specs.Book.{after}
use Rattle.seize_book.specs.Homes.{home_of}
use Rattle.seize_book.specs.Loans.{cell_of, place_of}
use Rattle.seize_book.specs.Tokens.{Name, chunk_label, start}
use Rattle.seize_book.specs.declared.book.pass.Pass.{Pass}

abbrev pub AreAt : Name → RowToken → State → Type 0
AreAt n known st =
    (v : ℕ) → has v st.named ≡ true → IsInRow (block_number v) known.row
    → (label_in known.chunks (entry_of (block_number v)) ≡ chunk_label n (home_of v) (cell_of v))
    × (content_in known.chunks (entry_of (block_number v)) ≡ place_of v)

abbrev pub HasNumber : ℕ → State → Type 0
HasNumber number st = (v : ℕ) × (has v st.named ≡ true) × (block_number v ≡ number)

abbrev pub state_seen : Pass → State
state_seen pass = after (start pass.name) pass.seen
