use Rattle.std.proofs.Common.{◌∙◌, ◌∷◌, ◌++◌, [], ap, arith}
use Rattle.seize_machine.proofs.Words.{runs_on, run_ends}
use Rattle.seize_machine.proofs.machine.Machine.run.Goals as goal

pub loop-event-preserved : goal.loop-event-preserved
loop-event-preserved c =
    runs_on c.args.events.now c.loop-event.event-index c.event-item.result c.args.self.now c.loop-event.self c.apply.new.self
    c.args.answers.now.items c.loop-event.answers.items c.push_reserved.new.self.items c.in_ok-answer.answer
    c.loop-event.invariant c.loop-event-test.true c.event-item.is
    c.in_ok-answer.ensures.done
    (c.push_reserved.ensures.items ∙ ap (λ items. items ++ c.in_ok-answer.answer ∷ []) c.in_ok-reserve.ensures.items)

pub returns-clause-legal : goal.returns-clause-legal
returns-clause-legal c = run_ends c.args.events.now c.loop-event.event-index _ _ _ _ c.loop-event.invariant (omega arith)
