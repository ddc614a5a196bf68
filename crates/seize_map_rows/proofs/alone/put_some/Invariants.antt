use Rattle.seize.specs.Collectors.{IsPassOf}
use Rattle.seize.specs.Guards.{owned_collector}
use Rattle.seize_map_rows.proofs.alone.put_some.Given as goal

abbrev pub invariant-loop-key : goal.invariant-loop-key
invariant-loop-key g l = IsPassOf (owned_collector l.guard) l.pass
