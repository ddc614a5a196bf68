use Rattle.seize.specs.Collectors.{IsPassOf}
use Rattle.seize.specs.Registrations.{registered_in}
use Rattle.seize_bench.proofs.guards.turns.retire_new.Given as goal

abbrev pub invariant-loop-value : goal.invariant-loop-value
invariant-loop-value g l = IsPassOf (registered_in l.registration) l.pass
