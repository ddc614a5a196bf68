use Rattle.std.specs.Prelude.{[]}
use Rattle.seize_machine.specs.Machine.Event.{Detach}
use Rattle.seize_book.specs.Private.{key_of}
use Rattle.seize_book.proofs.book.slot_key.SlotKey.detach.Given as goal

abbrev pub ghosts-add : goal.ghosts-add
ghosts-add a = record { event = Detach (key_of a.self.now.keys.held); kepts = [] }
