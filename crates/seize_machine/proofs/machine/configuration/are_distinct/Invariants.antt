use Rattle.std.proofs.Common.{◌≡◌, drop}
use Rattle.seize_machine.specs.Machine.State.{are_distinct}
use Rattle.seize_machine.proofs.machine.configuration.are_distinct.Given as goal

abbrev pub invariant-loop-i : goal.invariant-loop-i
invariant-loop-i l = are_distinct l.values ≡ are_distinct (drop l.i l.values)
