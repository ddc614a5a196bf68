-- A retirement with nothing to attempt, put together of its three events: it begins, its value is put, and it returns.
use Rattle.std.proofs.Common.{◌≡◌, ℕ, suc, ◌+◌, ◌<◌, max, false, List, [], ◌∷◌, length, refl, ap, arith}
use Rattle.std.proofs.lemmas.List.{length_push}
use Rattle.seize_machine.specs.Machine.State.{Append}
use Rattle.seize_machine.specs.Machine.Event.{Put, Return}
use Rattle.seize_machine.specs.declared.machine.event.Job.TheVariants.{Retire}
use Rattle.seize_book.specs.Adding.{private}
use Rattle.seize_book.specs.Kept.{IsTold}
use Rattle.seize_book.specs.Private.{IsOver, labels_of}
use Rattle.seize_book.specs.Slots.{AddsEvent, slot_number, slot_of}
use Rattle.seize_book.specs.Values.{values_of}
use Rattle.seize_book.specs.declared.book.pass.Pass.{Pass}
use Rattle.seize_book.specs.declared.book.slot_key.SlotKey.{SlotKey}
use Rattle.seize_words.proofs.Facts.{knows_noted}
use Rattle.seize_words.specs.declared.words.Words.{Words}
use Rattle.seize_calls.specs.Batches.{IsPushed, keys_in}
use Rattle.seize_calls.specs.Calls.{Ends, RetiresOne}
use Rattle.seize_calls.specs.Furthers.{further_in}
use Rattle.seize_calls.specs.Laying.{Lays}
use Rattle.seize_calls.specs.Settling.{CallState, Drains, DrainsOne, HasQueue, MayPut, PutsValue}
use Rattle.seize_calls.specs.Together.{IsHolderFor, IsUnderWay}
use Rattle.seize_calls.specs.declared.batch.Batch.{Batch}
use Rattle.seize_calls.specs.declared.further.Further.{Further}
use Rattle.seize_calls.specs.declared.holder.Holder.{Holder}
use Rattle.seize_calls.proofs.Alone.{onward_none}
use Rattle.seize_calls.proofs.Events.{call_returned, keeps_returned}
use Rattle.seize_calls.proofs.Holders.{holds_on, under_way}
use Rattle.seize_calls.proofs.Laid.{lays_deed, lays_twice}
use Rattle.seize_calls.proofs.Onwards.{below_full, is_put, only_stays, put_from, put_keys}
use Rattle.seize_calls.proofs.Whole.{Begun, has_retired, is_over, retire_puts, returned}

module _ {T : Type 0} (words : Words T) (s : Holder T) (pass : Pass) (queue : Further) (key1 : SlotKey) (pass1 : Pass) (v kept : ℕ) (b : Begun words (Retire v) (kept ∷ []) (Append v) s pass queue key1 pass1) where
  -- The value was put, and the batch is short still.
  pub record Added (key2 : SlotKey) (pass2 : Pass) (batch' : Batch) : Type 0 where
    pub puts : PutsValue key1 pass1 v key2 pass2
    pub pushed : IsPushed (keys_in s.batch) v kept (keys_in batch')
    pub few : length (slot_of key2).batch < max 1 pass1.size
    pub rests : HasQueue key2 (further_in queue)
    pub under : IsUnderWay words (record { key = key2; batch = batch'; spots = s.spots }) queue pass2
    pub laid : Lays pass s.spots pass2 s.spots

  pub added : IsTold pass1.seen v kept → length (values_of (keys_in s.batch)) + 1 < words.size → (key2 : SlotKey) (pass2 : Pass) → AddsEvent key1 pass1 key2 pass2 (Put (slot_number key1))
      → (batch' : Batch) → IsPushed (keys_in s.batch) v kept (keys_in batch') → Added key2 pass2 batch'
  added told short key2 pass2 notes batch' pushed = record {
    puts = puts;
    pushed = pushed;
    few = few;
    rests = (put_from key1 key2 pass1 pass2 v (further_in queue) may notes pass1.size refl).1 few;
    under = under_way words _ _ queue queue pass1 pass2 b.under puts.on (knows_noted key1 key2 pass1 pass2 (private pass1 (Put (slot_number key1))) notes)
        (put_keys first full v kept puts pushed refl (b.under.holds.batch, b.under.queue_is.0, b.under.queue_is.1) told) b.under.holds.spots;
    laid = lays_twice pass pass1 pass2 s.spots s.spots s.spots b.laid (lays_deed key1 key2 pass1 pass2 (private pass1 (Put (slot_number key1))) s.spots notes (λ answer. refl));
  }
    where
      may : MayPut key1 v (further_in queue)
      may = retire_puts words s pass queue key1 pass1 [] v kept b

      puts : PutsValue key1 pass1 v key2 pass2
      puts = is_put key1 key2 pass1 pass2 v (further_in queue) may notes

      first : CallState
      first = record { key = key1; pass = pass1; batch = keys_in s.batch; queue = further_in queue; had = [] }

      full : CallState
      full = record { key = key2; pass = pass2; batch = keys_in batch'; queue = further_in queue; had = [] }

      few : length (slot_of key2).batch < max 1 pass1.size
      few = let now = ap (λ (vs : List ℕ). length vs) puts.batch in let grew = length_push (slot_of key1).batch v in let was = ap (λ (vs : List ℕ). length vs) b.under.holds.batch.1 in let size = b.under.holds.keyed.of.1 in
          below_full pass1.size _ (omega (arith, now, grew, was, size, short))

  module _ (key2 : SlotKey) (pass2 : Pass) (batch' : Batch) (put : Added key2 pass2 batch') where
    pub over : IsOver (slot_of key2)
    over = is_over key2 (further_in queue) put.rests (ap labels_of b.empty)

    -- and the call returns
    module _ (key3 : SlotKey) (pass3 : Pass) (notes : AddsEvent key2 pass2 key3 pass3 (Return (slot_number key2))) where
      pub holds : IsHolderFor words (record { key = key3; batch = batch'; spots = s.spots }) pass3
      holds = holds_on words (record { key = key2; batch = batch'; spots = s.spots }) pass2 put.under.holds key3 s.spots pass3 (keeps_returned key2 key3 pass2 pass3 notes)
          (knows_noted key2 key3 pass2 pass3 (private pass2 (Return (slot_number key2))) notes) put.under.holds.spots

      pub laid_short : Lays pass s.spots pass3 s.spots
      laid_short = lays_twice pass pass2 pass3 s.spots s.spots s.spots put.laid (lays_deed key2 key3 pass2 pass3 (private pass2 (Return (slot_number key2))) s.spots notes (λ answer. refl))

      abbrev full : CallState
      full = record { key = key2; pass = pass2; batch = keys_in batch'; queue = further_in queue; had = [] }

      round : DrainsOne (record { key = key1; pass = pass1; batch = keys_in s.batch; queue = further_in queue; had = [] }) v kept full false
      round = record { full = full; puts = put.puts; pushed = put.pushed; same = (refl, refl); settles = only_stays (max 1 pass1.size) full put.few put.rests }

      ends : Ends full key3 pass3 (keys_in batch') []
      ends = let none = ap labels_of b.empty in
          record {
            drained = full;
            drains = record { on = onward_none key2 pass2; drains = Drains.over; rests = put.rests; none = none };
            returns = returned full key3 pass3 notes none;
            call = call_returned key2 key3 pass2 pass3 notes;
            sees = notes.1.2;
          }

      pub retired_short : RetiresOne s.key pass v kept (keys_in s.batch) [] key3 pass3 (keys_in batch') [] false
      retired_short = has_retired words s pass queue key1 pass1 [] v kept b full false round key3 pass3 (keys_in batch') [] ends holds.batch
