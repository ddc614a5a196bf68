-- A whole attempt: the marks, and then the insertions, and their number added to the count.
--     Attempts at pass values key' pass' values' ends     the call has given up, as after marking (EndsMarks), and the keys of the batch's
--                        values stay, with all that is noted but the slots; or the batch was retired: see Retires
--     Retires at pass values key' pass' values' zero      all that was made with the pass is that the slot read the heads, detached the
--                        batch, took a turn at each slot whose head was active (`all_insert_events`), and added the insertions won; the
--                        count is 0 then or isn't. Where it is 0 the batch's values are given up to the call, with their keys. Nothing
--                        else of the slot has changed but its batch, which is empty (Onward). Where the slot is active the count is not 0
use Rattle.std.specs.Prelude.{◌≡◌, ℤ, Bool, true, false, if◌then◌else◌, List, [], ◌∷◌, ◌++◌, length, Some}
use Rattle.seize_machine.specs.Machine.Event.{AddCount, Detach}
use Rattle.seize_machine.specs.Machine.Next.{is_zero}
use Rattle.seize_machine.specs.Machine.State.{Rest}
use Rattle.seize_machine.specs.declared.machine.event.Answer.TheVariants.{Count, Done}
use Rattle.seize_book.specs.Adding.{private}
use Rattle.seize_words.specs.Counts.{LeavesKeys}
use Rattle.seize_book.specs.Passes.{events_by}
use Rattle.seize_book.specs.Slots.{active_of, slot_number, slot_of}
use Rattle.seize_book.specs.declared.book.pass.Pass.{Pass}
use Rattle.seize_book.specs.declared.book.slot_key.SlotKey.{SlotKey}
use Rattle.seize_book.specs.declared.book.value_keys.ValueKeys.{ValueKeys}
use Rattle.seize_calls.specs.Alone.{Onward}
use Rattle.seize_calls.specs.Batches.{AreRemarked}
use Rattle.seize_calls.specs.Inserts.{InsertTries, all_insert_events}
use Rattle.seize_calls.specs.Marks.{BeginsToMark, EndsMarks, actives, readings}
use Rattle.seize_calls.specs.declared.attempt.AttemptOutcome.{AttemptOutcome}
use Rattle.seize_calls.specs.declared.attempt.AttemptOutcome.TheVariants.{GivenUp, Stays, Waits}
use Rattle.seize_calls.specs.declared.marking.MarkOutcome.TheVariants.{TooMany}

pub record Retires {key : SlotKey} (at : BeginsToMark key) (pass : Pass) (values : ValueKeys) (key' : SlotKey) (pass' : Pass)
    (values' : ValueKeys) (zero : Bool) : Type 0 where
  pub finds : List Bool
  pub turns : List InsertTries
  pub each : length turns ≡ length (actives 0 finds)
  pub count : ℤ
  pub is_count : zero ≡ is_zero count
  pub under_guard : active_of key ≡ true → zero ≡ false
  pub on : Onward key pass key' pass'
  pub made : let s = slot_number key in
      events_by pass' ≡ (((events_by pass ++ readings pass s 0 finds) ++ (private pass (Detach s), Done) ∷ [])
      ++ all_insert_events pass s (actives 0 finds) turns) ++ (private pass (AddCount s), Count count) ∷ []
  pub batch : (slot_of key').batch ≡ []
  pub stands : (slot_of key').call ≡ Some (record { place = Rest (if zero then (slot_of key).batch else []) []; queue = at.queue })
  pub marked : ValueKeys
  pub remarked : AreRemarked values marked
  pub keys : LeavesKeys marked pass' values' zero

abbrev pub Attempts : {key : SlotKey} → BeginsToMark key → Pass → ValueKeys → SlotKey → Pass → ValueKeys → AttemptOutcome → Type 0
Attempts at pass values key' pass' values' Stays = EndsMarks at pass key' pass' [] TooMany × AreRemarked values values'
Attempts at pass values key' pass' values' Waits = Retires at pass values key' pass' values' false
Attempts at pass values key' pass' values' GivenUp = Retires at pass values key' pass' values' true
