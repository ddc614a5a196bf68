use Rattle.std.proofs.Common.{map, take}
use Rattle.seize_machine.specs.Machine.Code.{event_of, HasRun}
use Rattle.seize_machine.proofs.machine.Machine.run.Given as goal

abbrev pub invariant-loop-event : goal.invariant-loop-event
invariant-loop-event l = HasRun (map event_of (take l.event-index l.events)) l.initial.self l.self l.initial.answers.items l.answers.items
