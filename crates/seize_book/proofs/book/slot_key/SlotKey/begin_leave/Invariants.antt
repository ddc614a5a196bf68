use Rattle.std.specs.Prelude.{[]}
use Rattle.seize_machine.specs.Machine.Event.{Begin}
use Rattle.seize_machine.specs.declared.machine.event.Job.TheVariants.{Leave}
use Rattle.seize_book.specs.Slots.{slot_number}
use Rattle.seize_book.proofs.book.slot_key.SlotKey.begin_leave.Given as goal

abbrev pub ghosts-add : goal.ghosts-add
ghosts-add a = record { event = Begin (slot_number a.self.now) Leave; kepts = [] }
