use Rattle.seize.specs.Collectors.{IsPassOf}
use Rattle.seize.specs.Guards.{guard_collector}
use Rattle.seize_rows.proofs.worked.flush_each.Given as goal

abbrev pub invariant-loop-before : goal.invariant-loop-before
invariant-loop-before g l = IsPassOf (guard_collector l.guard) l.pass
