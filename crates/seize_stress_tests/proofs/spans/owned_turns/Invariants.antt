use Rattle.seize.specs.Collectors.{IsPassOf}
use Rattle.seize.specs.Guards.{owned_collector}
use Rattle.seize_stress_tests.proofs.spans.owned_turns.Given as goal

abbrev pub invariant-loop-n : goal.invariant-loop-n
invariant-loop-n g l = IsPassOf (owned_collector l.guard) l.pass
