use Rattle.std.specs.Prelude.{false, []}
use Rattle.seize_machine.specs.Machine.Event.{ReadLink}
use Rattle.seize_words.specs.Atomic.{entries}
use Rattle.seize_words.proofs.link.Link.see.Given as goal

abbrev pub ghosts-see_in : goal.ghosts-see_in
ghosts-see_in a = record { entry = entries a.pass.now 0 (λ v log. ReadLink a.activation.now.slot a.self.now.number); trades = λ v. false; births = [] }
