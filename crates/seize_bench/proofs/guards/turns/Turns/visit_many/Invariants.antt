use Rattle.seize.specs.Collectors.{IsPassOf}
use Rattle.seize.specs.Registrations.{registered_in}
use Rattle.seize_bench.proofs.guards.turns.Turns.visit_many.Given as goal

abbrev pub invariant-loop-turn : goal.invariant-loop-turn
invariant-loop-turn g l = IsPassOf (registered_in l.registration) l.pass
