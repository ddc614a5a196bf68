-- What the words in a chunk's header are of.
--     HasCount book count              the count is of the book
--     HasField which book count field  the field is of the book too, and is this one of the block whose count that is
--     HasKey book key                  the key of a block is of the book
use Rattle.std.specs.Prelude.{◌≡◌, ℕ}
use Rattle.seize_book.specs.Bare.{bare_book}
use Rattle.seize_words.specs.Counts.{home}
use Rattle.seize_words.specs.Headers.{field_number}
use Rattle.seize_words.specs.declared.batch.Count.{Count}
use Rattle.seize_book.specs.declared.book.bare_key.BareKey.{BareKey}
use Rattle.seize_book.specs.declared.book.seen.Seen.{Seen}
use Rattle.seize_words.specs.declared.header.Field.{Field}

abbrev pub HasCount : Seen → Count → Type 0
HasCount book count = count.word.name ≡ book.name

abbrev pub HasField : (ℕ → ℕ) → Seen → Count → Field → Type 0
HasField which book count field = (field.word.name ≡ book.name) × (field_number field ≡ which (home count))

abbrev pub HasKey : Seen → BareKey → Type 0
HasKey book key = bare_book key ≡ book.name
