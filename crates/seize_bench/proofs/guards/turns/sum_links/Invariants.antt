use Rattle.seize.specs.Collectors.{IsPassOf}
use Rattle.seize.specs.Guards.{core_collector}
use Rattle.seize_bench.proofs.guards.turns.sum_links.Given as goal

abbrev pub invariant-loop-link : goal.invariant-loop-link
invariant-loop-link l = IsPassOf (core_collector l.core) l.pass
