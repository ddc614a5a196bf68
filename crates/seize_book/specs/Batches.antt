-- The words in which contracts speak of retired batches.
--     CanDetach key                 the slot's call has read as many heads as there were slots when it began to
--     Detaches key pass'            the newest batch of all that the pass has seen has the values that the slot's batch had, and its count
--                                   is 0; it is to be inserted at the slots that the call marked
use Rattle.std.specs.Prelude.{◌≡◌, ℕ, ◌+◌, true, pos, length, slice_index_or}
use Rattle.seize_machine.specs.Machine.State.{batch_at}
use Rattle.seize_machine.specs.Machine.Next.{can_detach}
use Rattle.seize_book.specs.Blocks.{no_plan, plan_of, plans}
use Rattle.seize_book.specs.Book.{after}
use Rattle.seize_book.specs.Slots.{slot_of, start_of}
use Rattle.seize_book.specs.declared.book.pass.Pass.{Pass}
use Rattle.seize_book.specs.declared.book.slot_key.SlotKey.{SlotKey}

abbrev pub CanDetach : SlotKey → Type 0
CanDetach key = can_detach (slot_of key) ≡ true

abbrev pub Detaches : SlotKey → Pass → Type 0
Detaches key pass' =
    (b : ℕ) × (b + 1 ≡ length (after (start_of key) pass'.seen).batches)
    × (batch_at (after (start_of key) pass'.seen) b ≡ record { values = (slot_of key).batch; count = pos 0 })
    × (slice_index_or (plans (start_of key) pass'.seen) b no_plan ≡ plan_of (slot_of key))
