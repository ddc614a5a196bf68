use Rattle.std.proofs.Common.{All}
use Rattle.seize_script.specs.Ranges.{IsGroupFor}
use Rattle.seize_script.proofs.program.run_script.Given as goal

abbrev pub invariant-loop-group : goal.invariant-loop-group
invariant-loop-group g l = All (IsGroupFor l.alone) l.group-iterator.rest.items
