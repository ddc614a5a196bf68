use Rattle.std.proofs.Common.{refl, sym, ◌∙◌}
use Rattle.seize_calls.specs.Aparts.{without_puts}
use Rattle.seize_parts.proofs.Aparts.{more_drain}
use Rattle.seize_parts.proofs.Attempted.{attempt_goes}
use Rattle.seize_parts.proofs.Bare.{swept_active, swept_idle, swept_led, swept_spent, swept_still}
use Rattle.seize_parts.proofs.numbers.keeping.attempt.Goals as goal

pub returns-clause-led : goal.returns-clause-led
returns-clause-led g c =
    let flush = c.flush_into in let leave = c.leave_into in let flushes = flush.ensures.flushes in let leaves = leave.ensures.leaves in (
      swept_led c.args.words.now c.args.slot.now c.enter.new.self flush.new.slot leave.new.slot c.look.new.self c.args.pass.now c.head-head.new.pass c.enter.new.pass flush.new.pass leave.new.pass c.look.new.pass c.requires.pass.1 c.requires.pass.0
          c.head-head.ensures.pass c.enter.new.activation c.enter.ensures.enters (without_puts flushes.1) flush.ensures.of.0.0 flushes.0 flushes.2 leaves.0 leave.ensures.of.0.0 leaves.1 c.look.ensures.looks,
      swept_active c.args.words.now c.args.slot.now c.enter.new.self flush.new.slot leave.new.slot c.look.new.self c.args.pass.now c.head-head.new.pass c.enter.new.pass flush.new.pass leave.new.pass c.look.new.pass c.requires.pass.1 c.requires.pass.0
          c.head-head.ensures.pass c.enter.new.activation c.enter.ensures.enters (without_puts flushes.1) flush.ensures.of.0.0 flushes.0 flushes.2 leaves.0 leave.ensures.of.0.0 leaves.1 c.look.ensures.looks leave.ensures.of.1.0,
      swept_idle c.args.words.now c.args.slot.now c.enter.new.self flush.new.slot leave.new.slot c.look.new.self c.args.pass.now c.head-head.new.pass c.enter.new.pass flush.new.pass leave.new.pass c.look.new.pass c.requires.pass.1 c.requires.pass.0
          c.head-head.ensures.pass c.enter.new.activation c.enter.ensures.enters (without_puts flushes.1) flush.ensures.of.0.0 flushes.0 flushes.2 leaves.0 leave.ensures.of.0.0 leaves.1 c.look.ensures.looks c.look.ensures.of.0.1,
    )

pub returns-clause-spent : goal.returns-clause-spent
returns-clause-spent g c off =
    let flush = c.flush_into in let leave = c.leave_into in let flushes = flush.ensures.flushes in let leaves = leave.ensures.leaves in
    swept_spent c.args.words.now c.args.slot.now c.enter.new.self flush.new.slot leave.new.slot c.look.new.self c.args.pass.now c.head-head.new.pass c.enter.new.pass flush.new.pass leave.new.pass c.look.new.pass c.requires.pass.1 c.requires.pass.0
    c.head-head.ensures.pass c.enter.new.activation c.enter.ensures.enters (without_puts flushes.1) flush.ensures.of.0.0 flushes.0 flushes.2 leaves.0 leave.ensures.of.0.0 leaves.1 c.look.ensures.looks
    c.enter.ensures.activation.0.active off

pub returns-clause-aside : goal.returns-clause-aside
returns-clause-aside g c =
    let flush = c.flush_into in let leave = c.leave_into in let flushed = flush.ensures.flushes.3 in let left = leave.ensures.leaves.2 in let code = g.row.T.coded.code in let puts = g.R.Puts.puts in (
      leave.ensures.same ∙ flush.ensures.same,
      more_drain code puts _ leave.ensures.leaves.0 flush.new.aside.queue leave.new.aside.queue left.put left.waits
          (more_drain code puts _ flush.ensures.flushes.1 c.args.aside.now.queue flush.new.aside.queue flushed.put flushed.waits c.requires.queue),
    )

pub returns-clause-goes : goal.returns-clause-goes
returns-clause-goes g c =
    let W = g.W.Watch in let flush = c.flush_into.ensures.flushes in let leave = c.leave_into.ensures.leaves in
    attempt_goes g.row.T.coded g.R.Puts.puts W.told c.args.words.now _ c.args.slot.now c.enter.new.self c.flush_into.new.slot c.leave_into.new.slot c.args.pass.now c.head-head.new.pass c.enter.new.pass c.flush_into.new.pass c.leave_into.new.pass c.look.new.pass
    c.enter.new.activation flush.0 flush.1 leave.0 refl c.requires.pass.0 c.requires.pass.1 c.head-head.ensures.pass c.enter.ensures.enters c.flush_into.ensures.of.0.0 flush.2 c.leave_into.ensures.of.0.0 leave.1
    (swept_still c.args.words.now c.args.slot.now c.enter.new.self c.flush_into.new.slot c.leave_into.new.slot c.look.new.self c.args.pass.now c.head-head.new.pass c.enter.new.pass c.flush_into.new.pass c.leave_into.new.pass c.look.new.pass c.requires.pass.1 c.requires.pass.0
    c.head-head.ensures.pass c.enter.new.activation c.enter.ensures.enters (without_puts flush.1) c.flush_into.ensures.of.0.0 flush.0 flush.2 leave.0 c.leave_into.ensures.of.0.0 leave.1 c.look.ensures.looks)
    flush.3.put leave.2.put (W.seen c.args.aside.now.watch.now) (W.seen c.flush_into.new.aside.watch.now) (W.seen c.leave_into.new.aside.watch.now) c.args.aside.now.queue c.flush_into.new.aside.queue c.leave_into.new.aside.queue _ (sym c.requires.pass.0.0) flush.3.tells flush.3.waits leave.2.tells leave.2.waits
