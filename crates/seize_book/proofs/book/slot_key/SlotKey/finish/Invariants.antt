use Rattle.std.specs.Prelude.{[]}
use Rattle.seize_machine.specs.Machine.Event.{Return}
use Rattle.seize_book.specs.Slots.{slot_number}
use Rattle.seize_book.proofs.book.slot_key.SlotKey.finish.Given as goal

abbrev pub ghosts-add : goal.ghosts-add
ghosts-add a = record { event = Return (slot_number a.self.now); kepts = [] }
