use Rattle.std.specs.Prelude.{true, []}
use Rattle.seize_machine.specs.Machine.Event.{ExchangeLink}
use Rattle.seize_machine.specs.declared.machine.event.Exchange.TheVariants.{Swap}
use Rattle.seize_words.specs.Links.{value_in}
use Rattle.seize_words.specs.Atomic.{entries}
use Rattle.seize_words.proofs.link.Link.swap.Given as goal

abbrev pub ghosts-swap_in : goal.ghosts-swap_in
ghosts-swap_in a = record { entry = entries a.pass.now 0 (λ v log. ExchangeLink a.activation.now.slot a.self.now.number (Swap (value_in a.keys.now.held))); trades = λ v. true; births = [] }
