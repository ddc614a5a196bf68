-- The words in which the contracts of bare keys speak: keys of blocks before it is said by which number words hold the block.
--     state_in rights                what the rights know of the machine
--     IsWay rights number known      there is one key, and the number leads to its block in the store of their book
--     Places rights number known keys    the keys are these, but for the label: that is a value of the block, with this number and with the
--                                    place of the content that the block has in the store; it was never named, and nothing is lent with it
--     bare_book key, bare_home key   the book of a bare key, and the home that its values have;  bare_key_label key   the label of that
--     Becomes key value number       it is the key of a value of this block now, with this number, as IsNextIn says; and it knows no more
--     IsBareKeyOf value key          it is the key of the value's block
--     IsNewChunk cell g rights keys  the key of a block of which no value was ever named, with this cell, in which g is noted; and those
--                                    of its count and of its fields
--     IsChunkOf book cell keys       they are the keys of a new block of the book with this cell
use Rattle.std.specs.Prelude.{◌≡◌, ℕ, pos, true, false, List, [], ◌∷◌}
use base.Stored.{Gv, gnil}
use Rattle.seize_machine.specs.Machine.State.{State, has}
use Rattle.seize_store.specs.RowTokens.{IsInRow, content_in, entry_of, label_in}
use Rattle.seize_store.specs.declared.row_token.RowToken.{RowToken}
use Rattle.seize_book.specs.Blocks.{block_number}
use Rattle.seize_book.specs.Book.{after, blocks, counts, fields}
use Rattle.seize_book.specs.Books.{IsCountAt, IsFieldAt, IsNextIn}
use Rattle.seize_book.specs.Chains.{field_value, first_field, next_field}
use Rattle.seize_book.specs.Deposits.{deposit}
use Rattle.seize_book.specs.Entry.{Entry}
use Rattle.seize_book.specs.Homes.{count_in, home_of}
use Rattle.seize_book.specs.Ledger.{HeldKey}
use Rattle.seize_book.specs.Loans.{CarriesNone, cell_of, place_of}
use Rattle.seize_book.specs.Others.{book_of, state_of, value_of, with_label}
use Rattle.seize_book.specs.Private.{is_one, key_of, label_of, own_of}
use Rattle.seize_book.specs.Tokens.{Name, chunk_label, start}
use Rattle.seize_book.specs.declared.book.bare_key.BareKey.{BareKey}
use Rattle.seize_book.specs.declared.book.chunk_keys.ChunkKeys.{ChunkKeys}
use Rattle.seize_book.specs.declared.book.keys.Keys.{Keys}
use Rattle.seize_book.specs.declared.book.rights.Rights.{Rights}
use Rattle.seize_book.specs.declared.book.seen.Seen.{Seen}
use Rattle.seize_book.specs.declared.book.value_key.ValueKey.{ValueKey}

abbrev pub state_in : Rights → State
state_in rights = after (start rights.name) (own_of rights.held)

pub record IsWay (rights : Rights) (number : ℕ) (known : RowToken) : Type 0 where
  pub one : is_one blocks rights.held ≡ true
  pub store : rights.name.store ≡ known.store
  pub placed : IsInRow number known.row
  pub home : label_in known.chunks (entry_of number)
      ≡ chunk_label rights.name (key_of rights.held) (cell_of (label_of rights.held))

pub record Places (rights : Rights) (number : ℕ) (known : RowToken) (keys : Keys) : Type 0 where
  pub value : ℕ
  pub book : keys.name ≡ rights.name
  pub held : keys.held ≡ with_label value rights.held
  pub home : home_of value ≡ key_of rights.held
  pub numbered : block_number value ≡ number
  pub unnamed : has value (state_in rights).named ≡ false
  pub place : place_of value ≡ content_in known.chunks (entry_of number)
  pub cell : cell_of value ≡ cell_of (label_of rights.held)
  pub free : CarriesNone value

abbrev pub bare_book : BareKey → Name
bare_book key = key.rights.name

abbrev pub bare_home : BareKey → ℕ
bare_home key = key_of key.rights.held

abbrev pub bare_cell : BareKey → ℕ
bare_cell key = cell_of (label_of key.rights.held)

abbrev pub bare_key_label : BareKey → ℕ
bare_key_label key = chunk_label (bare_book key) (bare_home key) (bare_cell key)

pub record Becomes (key : BareKey) (value : ValueKey) (number : ℕ) : Type 0 where
  pub book : book_of value ≡ bare_book key
  pub home : home_of (value_of value) ≡ bare_home key
  pub state : state_of value.keys ≡ state_in key.rights
  pub next : IsNextIn value number
  pub cell : cell_of (value_of value) ≡ bare_cell key
  pub free : CarriesNone (value_of value)

abbrev pub IsBareKeyOf : ValueKey → BareKey → Type 0
IsBareKeyOf value key =
    (bare_book key ≡ book_of value) × (bare_home key ≡ home_of (value_of value)) × (bare_cell key ≡ cell_of (value_of value))

-- the key of the values of the block with home k, labelled with this one; and those of its count and of its fields
abbrev pub of_values : ℕ → ℕ → Gv → List Entry → List (HeldKey Entry)
of_values value k g own = record { kind = blocks; key = k; own = own; label = value; note = g } ∷ []

abbrev pub of_header : ℕ → List Entry → List (HeldKey Entry)
of_header k own =
    record { kind = counts; key = k; own = own; label = 0; note = gnil }
    ∷ record { kind = fields; key = next_field k; own = own; label = 0; note = gnil }
    ∷ record { kind = fields; key = first_field k; own = own; label = 0; note = gnil } ∷ []

pub record IsNewChunk (cell : ℕ) (g : Gv) (rights : Rights) (keys : Keys) : Type 0 where
  pub value : ℕ
  pub own : List Entry
  pub right : rights.held ≡ of_values value (home_of value) g own
  pub its_cell : cell_of value ≡ cell
  pub header : keys.held ≡ of_header (home_of value) own
  pub book : rights.name ≡ keys.name
  pub none_named : (v : ℕ) → home_of v ≡ home_of value → has v (after (start keys.name) own).named ≡ false
  pub no_count
      : (count_in (after (start keys.name) own) (home_of value) ≡ pos 0) × (deposit (after (start keys.name) own) (home_of value) ≡ [])
  pub none_told : (field_value own (next_field (home_of value)) ≡ 0) × (field_value own (first_field (home_of value)) ≡ 0)

-- no value of its home was ever named
abbrev pub IsUntouched : BareKey → Type 0
IsUntouched key = (v : ℕ) → home_of v ≡ bare_home key → has v (state_in key.rights).named ≡ false

pub record IsChunkOf (book : Seen) (cell : ℕ) (keys : ChunkKeys) : Type 0 where
  pub value : (bare_book keys.value ≡ book.name) × (bare_cell keys.value ≡ cell) × IsUntouched keys.value
  pub count : (keys.count.keys.name ≡ book.name) × IsCountAt keys.count (bare_home keys.value)
  pub next : (keys.next.keys.name ≡ book.name) × IsFieldAt next_field keys.next (bare_home keys.value)
  pub first : (keys.first.keys.name ≡ book.name) × IsFieldAt first_field keys.first (bare_home keys.value)
