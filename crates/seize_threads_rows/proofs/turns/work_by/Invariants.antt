use Rattle.seize.specs.Collectors.{IsPassOf}
use Rattle.seize.specs.Registrations.{registered_in}
use Rattle.seize_threads_rows.proofs.turns.work_by.Given as goal

abbrev pub invariant-loop-n : goal.invariant-loop-n
invariant-loop-n g l = IsPassOf (registered_in l.registration) l.pass
