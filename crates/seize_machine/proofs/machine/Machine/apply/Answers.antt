use Rattle.seize_machine.specs.Machine.Code.{event_of}
use Rattle.seize_machine.proofs.Invariants.Reached.{reached_counts, reached_result}
use Rattle.seize_machine.proofs.machine.Machine.apply.Goals as goal

pub step-requires : goal.step-requires
step-requires c = reached_counts _ c.self.invariant

pub invariant_of-self : goal.invariant_of-self
invariant_of-self c = reached_result (record { size = c.self.inside.size; event = event_of c.args.event.now }) _ _ c.step.result c.step.ensures.step c.step.ensures.err c.self.invariant
