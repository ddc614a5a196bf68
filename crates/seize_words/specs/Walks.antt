-- The words in which the contracts of walks speak that go from block to block.
--     word_for key bs          the word that leads to these batches of the slot, as its key knows
--     IsAtBatch key word       the slot's call is about to count down the next batch of its walk, and this word leads to what is left of it
--     Knows key pass           the pass has seen what the key knows, and it was legal
--     CountsDown at pass key' values' pass' rest zero     the pass looked at the list, and then the batch was counted down: see Counts,
--                              GivesUp and TakesKeys. The word `rest` leads to the rest of the walk
use Rattle.std.specs.Prelude.{◌≡◌, ℕ, Bool, true, List, [], ◌∷◌, Some}
use mathlib.Core.List.{IsPrefix}
use Rattle.seize_machine.specs.Machine.State.{Rest, are_distinct, linked_values}
use Rattle.seize_machine.specs.Machine.Event.{SubCount}
use Rattle.seize_book.specs.Blocks.{block_for, list_word}
use Rattle.seize_book.specs.Book.{IsLegalList}
use Rattle.seize_words.specs.Counts.{Counts, GivesUp, TakesKeys}
use Rattle.seize_book.specs.Passes.{LooksOn}
use Rattle.seize_book.specs.Slots.{own_list, slot_number, slot_of, start_of}
use Rattle.seize_book.specs.Tokens.{start}
use Rattle.seize_book.specs.declared.book.pass.Pass.{Pass}
use Rattle.seize_book.specs.declared.book.slot_key.SlotKey.{SlotKey}
use Rattle.seize_book.specs.declared.book.value_keys.ValueKeys.{ValueKeys}

abbrev pub word_for : SlotKey → List ℕ → ℕ
word_for key bs = list_word (λ b. block_for (start_of key) (own_list key) b (slot_number key)) bs

pub record IsAtBatch (key : SlotKey) (word : ℕ) : Type 0 where
  pub batch : ℕ
  pub walk : List ℕ
  pub queue : List ℕ
  pub walking : (slot_of key).call ≡ Some (record { place = Rest [] (batch ∷ walk); queue = queue })
  pub leads : word ≡ word_for key (batch ∷ walk)

pub record Knows (key : SlotKey) (pass : Pass) : Type 0 where
  pub seen : IsPrefix (own_list key) pass.seen
  pub legal : IsLegalList (start pass.name) pass.seen
  pub distinct : are_distinct (linked_values pass.name.links) ≡ true

pub record CountsDown {key : SlotKey} {word : ℕ} (at : IsAtBatch key word) (pass : Pass) (key' : SlotKey) (values' : ValueKeys)
    (pass' : Pass) (rest : ℕ) (zero : Bool) : Type 0 where
  pub mid : Pass
  pub looks : LooksOn pass mid
  pub counts : Counts key mid key' pass' (SubCount (slot_number key)) zero
  pub gives : GivesUp key key' at.batch at.walk at.queue zero
  pub takes : TakesKeys key at.batch pass' values' zero
  pub leads : rest ≡ word_for key' at.walk
