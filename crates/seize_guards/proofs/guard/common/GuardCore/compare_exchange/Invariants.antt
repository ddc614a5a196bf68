-- What the caller takes the link to hold is what its value says.
use Rattle.seize_guards.specs.Exchanges.{current_name}
use Rattle.seize_guards.proofs.guard.common.GuardCore.compare_exchange.Given as goal

abbrev pub ghosts-exchange : goal.ghosts-exchange
ghosts-exchange a c = record { current = current_name c.current }
