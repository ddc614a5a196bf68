use Rattle.seize_book.specs.Kept.{kepts_in}
use Rattle.seize_machine.specs.Machine.Event.{Hand}
use Rattle.seize_book.specs.Slots.{slot_number}
use Rattle.seize_book.specs.Private.{labels_of}
use Rattle.seize_book.proofs.book.slot_key.SlotKey.hand_with.Given as goal

abbrev pub ghosts-add_with : goal.ghosts-add_with
ghosts-add_with a = record { event = Hand (slot_number a.self.now) (labels_of a.other.now.held); kepts = kepts_in a.other.now.held }
