-- What the parts of a slot have to do with one another, and with the words and the pass of a call.
--     what_saw book            what a pass knows that has seen what the book has
--     BelongTogether number holder seen     the holder's key is that of the slot of this number, which is there, as was seen; it has the
--                              keys of its batch; and its spots are of the store where the blocks lie
--     IsPassOf words pass     it is a pass of the words' book, with their batch size
--     IsKeyFor words key pass     and so is the key, and the pass has seen what it knows
--     IsHolderFor words holder pass     so it is with the holder's key; its spots are of the words' store, and of the values of its batch
--                              the list says what is kept
--     IsUnderWay words holder queue pass     and so it is with the values of the call's queue
use Rattle.std.specs.Prelude.{◌≡◌, ℕ, ◌<◌}
use Rattle.seize_store.specs.Named.{AreOfStore}
use Rattle.seize_book.specs.Kept.{AreTold}
use Rattle.seize_book.specs.Slots.{IsKeyOfBook, slot_number, slot_of}
use Rattle.seize_book.specs.Values.{AreOfBook, values_of}
use Rattle.seize_book.specs.declared.book.pass.Pass.{Pass}
use Rattle.seize_book.specs.declared.book.seen.Seen.{Seen}
use Rattle.seize_book.specs.declared.book.slot_key.SlotKey.{SlotKey}
use Rattle.seize_words.specs.Chunks.{AreSpotsIn}
use Rattle.seize_words.specs.Joined.{words_book}
use Rattle.seize_words.specs.Totals.{slots_seen}
use Rattle.seize_words.specs.Walks.{Knows}
use Rattle.seize_words.specs.declared.words.Words.{Words}
use Rattle.seize_calls.specs.Batches.{keys_in}
use Rattle.seize_calls.specs.Furthers.{further_in}
use Rattle.seize_calls.specs.Settling.{HasBatch}
use Rattle.seize_calls.specs.declared.further.Further.{Further}
use Rattle.seize_calls.specs.declared.holder.Holder.{Holder}

abbrev pub what_saw : Seen → Pass
what_saw book = record { marker = record {}; name = book.name; size = 0; id = 0; seen = book.seen }

pub record BelongTogether {T : Type 0} (number : ℕ) (holder : Holder T) (seen : Seen) : Type 0 where
  pub book : holder.key.keys.name ≡ seen.name
  pub numbered : slot_number holder.key ≡ number
  pub there : number < slots_seen (what_saw seen)
  pub batch_is : AreOfBook (keys_in holder.batch) (what_saw seen) × (values_of (keys_in holder.batch) ≡ (slot_of holder.key).batch)
  pub spots_in : AreOfStore holder.spots seen.name.store

abbrev pub IsPassOf : {T : Type 0} → Words T → Pass → Type 0
IsPassOf words pass = (words_book words ≡ pass.name) × (words.size ≡ pass.size)

pub record IsKeyFor {T : Type 0} (words : Words T) (key : SlotKey) (pass : Pass) : Type 0 where
  pub of : IsPassOf words pass
  pub its : IsKeyOfBook key pass
  pub knows : Knows key pass

pub record IsHolderFor {T : Type 0} (words : Words T) (holder : Holder T) (pass : Pass) : Type 0 where
  pub keyed : IsKeyFor words holder.key pass
  pub batch : HasBatch holder.key pass (keys_in holder.batch)
  pub spots : AreSpotsIn words.blocks holder.spots

pub record IsUnderWay {T : Type 0} (words : Words T) (holder : Holder T) (queue : Further) (pass : Pass) : Type 0 where
  pub holds : IsHolderFor words holder pass
  pub queue_is : AreOfBook (further_in queue) pass × AreTold (further_in queue) pass
