use Rattle.std.proofs.Common.{lit<, refl, sym, ◌∙◌}
use Rattle.seize_machine.specs.Machine.Event.{SwapOut}
use Rattle.seize_book.specs.Slots.{slot_number, slot_of}
use Rattle.seize_words.specs.Reservations.{beginning}
use Rattle.seize_calls.specs.Batches.{keys_in}
use Rattle.seize_calls.specs.Calls.{Leaves, job_of, life_when}
use Rattle.seize_calls.proofs.Laid.{lays_ready}
use Rattle.seize_calls.proofs.Slots.{after_call, calls_with, holds_ready, idle_after, inside_after, last_of, of_list, ready_learned, together, used_in}
use Rattle.seize_calls.proofs.Sole.{may_same}
use Rattle.seize_calls.proofs.slot.Slot.leave_by.Goals as goal

pub leave_by-requires : goal.leave_by-requires
leave_by-requires g c =
    let s = c.args.self.now in let pass = c.args.pass.now in let p = c.learn.new.self in let of = c.requires.of in let head = c.requires.head in let holds = holds_ready c.args.words.now s pass p of.0.0 of.1 c.learn.ensures in (
      lit< tt,
      (
        (holds, (of.0.1, c.requires.inside.0.active)),
        (
          (head.0 ∙ of.0.0.book ∙ holds.keyed.of.0, head.1 ∙ sym s.together.numbered),
          (last_of s c.args.activation.now c.requires.inside, (c.requires.serves, may_same (g.M.Manner.may c.args.manner.now) pass p c.learn.ensures.0 of.2)),
        ),
      ),
    )

pub invariant_of-self : goal.invariant_of-self
invariant_of-self g c =
    let s = c.args.self.now in let p = c.learn.new.self in let of = c.requires.of in let one = c.leave_by in let seen = c.learn-2.ensures in
    record { together = together s p (ready_learned s.seen c.args.pass.now p (of.0.0.book ∙ of.1.0) c.learn.ensures) one.new.self one.new.pass (after_call c.args.words.now s p one.new.self one.new.pass of.0.0 one.ensures.leaves.rests one.ensures.holder.0) c.learn-2.new.self seen.0 seen.1 }

pub returns-clause-of : goal.returns-clause-of
returns-clause-of g c =
    let s = c.args.self.now in let p = c.learn.new.self in let of = c.requires.of in let one = c.leave_by in let seen = c.learn-2.ensures in
    let ready = ready_learned s.seen c.args.pass.now p (of.0.0.book ∙ of.1.0) c.learn.ensures in
    ((of_list s p ready one.new.self one.new.pass (after_call c.args.words.now s p one.new.self one.new.pass of.0.0 one.ensures.leaves.rests one.ensures.holder.0) _ refl seen.0 seen.1 _ of.0.0, idle_after one.ensures.leaves.rests (used_in (slot_of s.holder.key) of.0.1)), one.ensures.holder.1)

pub returns-clause-left : goal.returns-clause-left
returns-clause-left g c = λ left. (c.leave_by.ensures.leaves.active ∙ left, c.leave_by.ensures.slot)

pub returns-clause-inside : goal.returns-clause-inside
returns-clause-inside g c = λ stays. let one = c.leave_by in inside_after _ one.new.activation one.new.pass (one.ensures.leaves.active ∙ stays) (one.ensures.last stays) c.learn-2.ensures.1

pub returns-clause-goes : goal.returns-clause-goes
returns-clause-goes g c =
    let s = c.args.self.now in let p = c.learn.new.self in let of = c.requires.of in let one = c.leave_by in let stays = c.args.way.stays in let had = g.R.Reclaim.had in
    calls_with s _ c.args.pass.now p of.0.0 of.1.0 c.learn.ensures _ _ one.new.pass refl c.learn-2.ensures
    (λ q r. Leaves (job_of stays) stays (beginning q (life_when stays one.new.activation.life) (SwapOut (slot_number s.holder.key))) s.holder.key q (keys_in s.holder.batch) (had c.args.reclaimer.now) one.new.self.key r (keys_in one.new.self.batch) (had one.new.reclaimer)) one.ensures.leaves

pub returns-clause-laid : goal.returns-clause-laid
returns-clause-laid g c =
    let one = c.leave_by in lays_ready c.args.pass.now c.learn.new.self one.new.pass c.learn-2.new.pass c.args.self.now.holder.spots one.new.self.spots c.learn.ensures.1 one.ensures.laid c.learn-2.ensures.2
