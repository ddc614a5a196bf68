use Rattle.seize.specs.Collectors.{IsPassOf}
use Rattle.seize.specs.Guards.{owned_collector}
use Rattle.seize_bench.proofs.guards.turns.put_shared.Given as goal

abbrev pub invariant-loop-turn : goal.invariant-loop-turn
invariant-loop-turn g l = IsPassOf (owned_collector l.guard) l.pass
