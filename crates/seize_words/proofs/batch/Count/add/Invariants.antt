use Rattle.std.specs.Prelude.{not, ◌==◌, []}
use Rattle.seize_machine.specs.Machine.Event.{AddCount}
use Rattle.seize_book.specs.Private.{key_of}
use Rattle.seize_words.specs.Atomic.{entries, plus}
use Rattle.seize_words.proofs.batch.Count.add.Given as goal

abbrev pub ghosts-add : goal.ghosts-add
ghosts-add a = record { entry = entries a.pass.now 0 (λ v log. AddCount (key_of a.keys.now.held)); trades = λ v. not (plus a.added v == 0); births = [] }
