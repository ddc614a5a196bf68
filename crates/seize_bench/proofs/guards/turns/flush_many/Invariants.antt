use Rattle.seize.specs.Collectors.{IsPassOf}
use Rattle.seize.specs.Registrations.{registered_in}
use Rattle.seize_bench.proofs.guards.turns.flush_many.Given as goal

abbrev pub invariant-loop : goal.invariant-loop
invariant-loop g l = IsPassOf (registered_in l.registration) l.pass
