use Rattle.seize.specs.Collectors.{IsPassOf}
use Rattle.seize.specs.Registrations.{registered_in}
use Rattle.seize_stress_tests.proofs.spans.local_turns.Given as goal

abbrev pub invariant-loop-n : goal.invariant-loop-n
invariant-loop-n g l = IsPassOf (registered_in l.registration) l.pass
