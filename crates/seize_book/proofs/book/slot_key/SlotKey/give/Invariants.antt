use Rattle.std.specs.Prelude.{[]}
use Rattle.seize_machine.specs.Machine.Event.{Give}
use Rattle.seize_book.specs.Slots.{slot_number}
use Rattle.seize_book.proofs.book.slot_key.SlotKey.give.Given as goal

abbrev pub ghosts-add_with : goal.ghosts-add_with
ghosts-add_with a = record { event = Give (slot_number a.self.now); kepts = [] }
