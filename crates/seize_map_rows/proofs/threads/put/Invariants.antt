use Rattle.seize.specs.Collectors.{IsPassOf}
use Rattle.seize.specs.Guards.{guard_collector}
use Rattle.seize_map_rows.proofs.threads.put.Given as goal

abbrev pub invariant-loop-n : goal.invariant-loop-n
invariant-loop-n g l = IsPassOf (guard_collector l.guard) l.pass
