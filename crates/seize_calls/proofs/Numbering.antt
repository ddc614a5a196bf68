-- A number goes back or is taken again, or a gathering begins: what this leaves of the slot.
use Rattle.std.proofs.Common.{◌≡◌, false, [], ap, ◌∙◌}
use Rattle.seize_machine.specs.Machine.Event.{Event}
use Rattle.seize_machine.specs.Machine.Frames.{changes_head_of}
use Rattle.seize_machine.specs.Machine.State.{is_active}
use Rattle.seize_machine.proofs.Facts.{head_frame}
use Rattle.seize_book.specs.Slots.{AddsEvent, active_of, slot_number}
use Rattle.seize_book.specs.declared.book.pass.Pass.{Pass}
use Rattle.seize_book.specs.declared.book.slot_key.SlotKey.{SlotKey}
use Rattle.seize_calls.proofs.Keeps.{outcome, state_before, step_noted}

-- an event that leaves the slot's head leaves it active or inactive
pub same_active : (key key' : SlotKey) (pass pass' : Pass) (event : Event) → changes_head_of (slot_number key) event ≡ false → AddsEvent key pass key' pass' event → active_of key' ≡ active_of key
same_active key key' pass pass' event still notes =
    notes.2.1.is_now_active
    ∙ ap is_active (head_frame (slot_number key) pass.size (state_before key key' pass pass' event [] notes) event (outcome key key' pass pass' event [] notes) (step_noted key key' pass pass' event [] notes) still)
    ∙ notes.2.1.was_active
