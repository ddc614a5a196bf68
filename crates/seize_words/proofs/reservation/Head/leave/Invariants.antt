use Rattle.std.specs.Prelude.{false, []}
use Rattle.seize_machine.specs.Machine.Event.{SwapOut}
use Rattle.seize_book.specs.Private.{key_of}
use Rattle.seize_words.specs.Atomic.{entries}
use Rattle.seize_words.proofs.reservation.Head.leave.Given as goal

abbrev pub ghosts-swap : goal.ghosts-swap
ghosts-swap a = record { entry = entries a.pass.now 0 (λ v log. SwapOut (key_of a.keys.now.held)); trades = λ v. false; births = [] }
