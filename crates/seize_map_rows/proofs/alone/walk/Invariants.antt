use Rattle.seize.specs.Collectors.{IsPassOf}
use Rattle.seize.specs.Guards.{owned_collector}
use Rattle.seize_map_rows.proofs.alone.walk.Given as goal

abbrev pub invariant-loop-i : goal.invariant-loop-i
invariant-loop-i l = IsPassOf (owned_collector l.guard) l.pass
