use Rattle.seize.specs.Collectors.{IsPassOf}
use Rattle.seize.specs.Guards.{guard_collector}
use Rattle.seize_rows.proofs.meeting.look.Given as goal

abbrev pub invariant-loop : goal.invariant-loop
invariant-loop l = IsPassOf (guard_collector l.guard) l.pass
