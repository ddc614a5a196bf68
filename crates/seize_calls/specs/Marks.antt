-- How a call marks that has put the value with which its batch is full, or that begins to flush.
--     BeginsToMark key       the slot's call is to read the first head
--     readings pass s n finds     slot s read heads, with the pass: from this number on, in order, as many as there are answers, which say
--                            whether the head was active
--     actives n finds        the numbers of those that were active, in order
--     EndsMarks at pass key' pass' marks' ends     all that was made with the pass is that the slot read the heads of some slots that there
--                            are, from the first on; the batch stays as it was (Onward). The slots marked are those whose heads were
--                            active, and the batch may be detached: these slots are noted of the first blocks, one each, in order. Or
--                            the call has given up, and has only its queue to go on with; one more was active than there are values
use Rattle.std.specs.Prelude.{◌≡◌, ℕ, suc, ◌≤◌, Bool, true, false, List, [], ◌∷◌, ◌++◌, length, take, Some}
use Rattle.seize_machine.specs.Machine.Event.{ReadHead}
use Rattle.seize_machine.specs.Machine.State.{Mark, Rest}
use Rattle.seize_machine.specs.declared.machine.event.Answer.{Answer}
use Rattle.seize_machine.specs.declared.machine.event.Answer.TheVariants.{Head}
use Rattle.seize_book.specs.Adding.{private}
use Rattle.seize_book.specs.Batches.{CanDetach}
use Rattle.seize_book.specs.Entry.{Deed}
use Rattle.seize_book.specs.Passes.{events_by}
use Rattle.seize_book.specs.Slots.{slot_number, slot_of}
use Rattle.seize_words.specs.Totals.{slots_seen}
use Rattle.seize_book.specs.declared.book.pass.Pass.{Pass}
use Rattle.seize_book.specs.declared.book.slot_key.SlotKey.{SlotKey}
use Rattle.seize_calls.specs.Alone.{Onward}
use Rattle.seize_calls.specs.Batches.{SlotMark, marked_slots}
use Rattle.seize_calls.specs.declared.marking.MarkOutcome.{MarkOutcome}
use Rattle.seize_calls.specs.declared.marking.MarkOutcome.TheVariants.{Ready, TooMany}

pub record BeginsToMark (key : SlotKey) : Type 0 where
  pub note : ℕ
  pub queue : List ℕ
  pub marking : (slot_of key).call ≡ Some (record { place = Mark 0 note []; queue = queue })

abbrev pub reading : Pass → ℕ → ℕ → Bool → Deed × Answer
reading pass s n found = (private pass (ReadHead s n), Head found)

abbrev pub readings : Pass → ℕ → ℕ → List Bool → List (Deed × Answer)
readings pass s n [] = []
readings pass s n (found ∷ finds) = reading pass s n found ∷ readings pass s (suc n) finds

abbrev pub actives : ℕ → List Bool → List ℕ
actives n [] = []
actives n (true ∷ finds) = n ∷ actives (suc n) finds
actives n (false ∷ finds) = actives (suc n) finds

-- where the call stands that has read so many heads
abbrev pub StandsAfter : {key : SlotKey} → BeginsToMark key → List Bool → SlotKey → List SlotMark → MarkOutcome → Type 0
StandsAfter at finds key' marks' (Ready marked) =
    CanDetach key' × ((slot_of key').call ≡ Some (record { place = Mark (length finds) at.note (actives 0 finds); queue = at.queue }))
    × (marked ≤ length marks') × (marked_slots (take marked marks') ≡ actives 0 finds)
StandsAfter {key} at finds key' marks' TooMany =
    ((slot_of key').call ≡ Some (record { place = Rest [] []; queue = at.queue }))
    × (length (actives 0 finds) ≡ suc (length (slot_of key).batch))

pub record EndsMarks {key : SlotKey} (at : BeginsToMark key) (pass : Pass) (key' : SlotKey) (pass' : Pass) (marks' : List SlotMark)
    (ends : MarkOutcome) : Type 0 where
  pub finds : List Bool
  pub within : length finds ≤ slots_seen pass'
  pub on : Onward key pass key' pass'
  pub made : events_by pass' ≡ events_by pass ++ readings pass (slot_number key) 0 finds
  pub batch : (slot_of key').batch ≡ (slot_of key).batch
  pub stands : StandsAfter at finds key' marks' ends
