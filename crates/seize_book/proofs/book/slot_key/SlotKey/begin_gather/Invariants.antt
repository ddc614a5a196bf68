use Rattle.std.specs.Prelude.{[]}
use Rattle.seize_machine.specs.Machine.Event.{Begin}
use Rattle.seize_machine.specs.declared.machine.event.Job.TheVariants.{Gather}
use Rattle.seize_book.specs.Slots.{slot_number}
use Rattle.seize_book.proofs.book.slot_key.SlotKey.begin_gather.Given as goal

abbrev pub ghosts-add_with : goal.ghosts-add_with
ghosts-add_with a = record { event = Begin (slot_number a.self.now) Gather; kepts = [] }
