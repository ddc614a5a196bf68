use Rattle.std.specs.Prelude.{false, []}
use Rattle.seize_machine.specs.Machine.Event.{Insert}
use Rattle.seize_words.specs.Heads.{found_end}
use Rattle.seize_book.specs.Private.{key_of}
use Rattle.seize_words.specs.Atomic.{entries}
use Rattle.seize_words.proofs.reservation.Head.insert.Given as goal

abbrev pub ghosts-exchange : goal.ghosts-exchange
ghosts-exchange a = record { entry = entries a.pass.now 0 (λ v log. Insert (key_of a.keys.now.held) a.self.now.number (found_end a.seen v)); trades = λ v. false; births = [] }
