use Rattle.std.specs.Prelude.{suc, false, length}
use Rattle.seize_machine.specs.Machine.Event.{Take}
use Rattle.seize_words.specs.Atomic.{entries}
use Rattle.seize_book.specs.Book.{of_slot}
use Rattle.seize_book.specs.Others.{state_of}
use Rattle.seize_words.proofs.total.Total.add.Given as goal

abbrev pub ghosts-add : goal.ghosts-add
ghosts-add a = record {
  entry = entries a.pass.now 0 (λ v log. Take (length (state_of a.keys.now).slots));
  trades = λ v. false;
  births = of_slot (suc (length (state_of a.keys.now).slots));
}
