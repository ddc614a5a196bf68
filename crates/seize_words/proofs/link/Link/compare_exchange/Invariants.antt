use Rattle.std.specs.Prelude.{◌==◌, []}
use Rattle.seize_machine.specs.Machine.Event.{ExchangeLink}
use Rattle.seize_machine.specs.declared.machine.event.Exchange.TheVariants.{Compare}
use Rattle.seize_words.specs.Links.{value_in}
use Rattle.seize_words.specs.Atomic.{entries}
use Rattle.seize_words.proofs.link.Link.compare_exchange.Given as goal

abbrev pub ghosts-exchange_in : goal.ghosts-exchange_in
ghosts-exchange_in g a = record {
  entry = entries a.pass.now 0 (λ v log. ExchangeLink a.activation.now.slot a.self.now.number (Compare g.E.Expects.current (value_in a.keys.now.held)));
  trades = λ v. v == a.seen;
  births = [];
}
