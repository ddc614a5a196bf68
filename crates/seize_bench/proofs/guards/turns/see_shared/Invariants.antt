use Rattle.seize.specs.Collectors.{IsPassOf}
use Rattle.seize.specs.Guards.{owned_collector}
use Rattle.seize_bench.proofs.guards.turns.see_shared.Given as goal

abbrev pub invariant-loop : goal.invariant-loop
invariant-loop l = IsPassOf (owned_collector l.guard) l.pass
