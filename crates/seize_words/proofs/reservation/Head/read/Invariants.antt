use Rattle.std.specs.Prelude.{false, []}
use Rattle.seize_machine.specs.Machine.Event.{ReadHead}
use Rattle.seize_book.specs.Private.{key_of}
use Rattle.seize_words.specs.Atomic.{entries}
use Rattle.seize_words.proofs.reservation.Head.read.Given as goal

abbrev pub ghosts-load : goal.ghosts-load
ghosts-load a = record { entry = entries a.pass.now 0 (λ v log. ReadHead (key_of a.keys.now.held) a.self.now.number); trades = λ v. false; births = [] }
