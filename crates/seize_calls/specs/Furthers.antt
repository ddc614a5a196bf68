-- Further values, as chains of keys.
--     further_in further           the keys of the values, in order
--     JoinsValues keys other keys'     the others come after its own, with what is kept of them
--     IsFirstOut keys value number kept keys'     the value's key was the first, and the others are left; this is its block's number, and
--                                  this was kept of it
use Rattle.std.specs.Prelude.{◌≡◌, ℕ, ◌∷◌, ◌++◌}
use Rattle.seize_book.specs.Blocks.{block_number}
use Rattle.seize_book.specs.Others.{book_of, value_of}
use Rattle.seize_book.specs.Values.{book_in, values_of}
use Rattle.seize_book.specs.declared.book.value_key.ValueKey.{ValueKey}
use Rattle.seize_book.specs.declared.book.value_keys.ValueKeys.{ValueKeys}
use Rattle.seize_book.specs.Kept.{kepts_of}
use Rattle.seize_calls.specs.declared.further.Further.{Further}

abbrev pub further_in : Further → ValueKeys
further_in further = further.values

pub record JoinsValues (keys other keys' : ValueKeys) : Type 0 where
  pub book : book_in keys' ≡ book_in keys
  pub all : values_of keys' ≡ values_of keys ++ values_of other
  pub kept : kepts_of keys' ≡ kepts_of keys ++ kepts_of other

pub record IsFirstOut (keys : ValueKeys) (value : ValueKey) (number kept : ℕ) (keys' : ValueKeys) : Type 0 where
  pub book : (book_of value ≡ book_in keys) × (book_in keys' ≡ book_in keys)
  pub first : values_of keys ≡ value_of value ∷ values_of keys'
  pub its_block : block_number (value_of value) ≡ number
  pub its_word : kepts_of keys ≡ kept ∷ kepts_of keys'
