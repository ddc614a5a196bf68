use Rattle.std.specs.Prelude.{[]}
use Rattle.seize_machine.specs.Machine.Event.{Take}
use Rattle.seize_book.specs.Slots.{slot_number}
use Rattle.seize_book.proofs.book.slot_key.SlotKey.take_again.Given as goal

abbrev pub ghosts-add_with : goal.ghosts-add_with
ghosts-add_with a = record { event = Take (slot_number a.self.now); kepts = [] }
