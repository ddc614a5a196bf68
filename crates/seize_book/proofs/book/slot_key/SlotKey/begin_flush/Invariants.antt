use Rattle.std.specs.Prelude.{[]}
use Rattle.seize_machine.specs.Machine.Event.{Begin}
use Rattle.seize_machine.specs.declared.machine.event.Job.TheVariants.{Flush}
use Rattle.seize_book.specs.Slots.{slot_number}
use Rattle.seize_book.proofs.book.slot_key.SlotKey.begin_flush.Given as goal

abbrev pub ghosts-add : goal.ghosts-add
ghosts-add a = record { event = Begin (slot_number a.self.now) Flush; kepts = [] }
