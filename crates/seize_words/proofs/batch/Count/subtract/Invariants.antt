use Rattle.std.specs.Prelude.{◌==◌, []}
use Rattle.seize_machine.specs.Machine.Event.{SubCount}
use Rattle.seize_book.specs.Private.{key_of}
use Rattle.seize_words.specs.Atomic.{entries, minus}
use Rattle.seize_words.proofs.batch.Count.subtract.Given as goal

abbrev pub ghosts-subtract : goal.ghosts-subtract
ghosts-subtract a = record { entry = entries a.pass.now 0 (λ v log. SubCount (key_of a.keys.now.held)); trades = λ v. minus a.less v == 0; births = [] }
