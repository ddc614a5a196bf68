use Rattle.std.proofs.Common.{lit<, refl, ◌∙◌}
use Rattle.seize_calls.specs.Batches.{keys_in}
use Rattle.seize_calls.specs.Calls.{Resumes}
use Rattle.seize_calls.proofs.Slots.{after_call, calls_with, holds_ready, ready_learned, together}
use Rattle.seize_calls.proofs.Sole.{may_same}
use Rattle.seize_calls.proofs.slot.Slot.resume.Goals as goal

pub resume-requires : goal.resume-requires
resume-requires g c =
    let s = c.args.self.now in let pass = c.args.pass.now in let p = c.learn.new.self in let of = c.requires.of in
    (lit< tt, ((holds_ready c.args.words.now s pass p of.0.0 of.1 c.learn.ensures, of.0.1.1), (c.requires.serves, may_same (g.M.Manner.may c.args.manner.now) pass p c.learn.ensures.0 of.2)))

pub invariant_of-self : goal.invariant_of-self
invariant_of-self g c =
    let s = c.args.self.now in let p = c.learn.new.self in let of = c.requires.of in let one = c.resume in let seen = c.learn-2.ensures in
    record { together = together s p (ready_learned s.seen c.args.pass.now p (of.0.0.book ∙ of.1.0) c.learn.ensures) one.new.self one.new.pass (after_call c.args.words.now s p one.new.self one.new.pass of.0.0 one.ensures.resumes.rests one.ensures.holder.0) c.learn-2.new.self seen.0 seen.1 }

pub returns-clause-resumes : goal.returns-clause-resumes
returns-clause-resumes g c =
    let s = c.args.self.now in let p = c.learn.new.self in let of = c.requires.of in let one = c.resume in
    calls_with s _ c.args.pass.now p of.0.0 of.1.0 c.learn.ensures _ _ one.new.pass refl c.learn-2.ensures
    (λ q r. Resumes s.holder.key q (keys_in s.holder.batch) (g.R.Reclaim.had c.args.reclaimer.now) one.new.self.key r (keys_in one.new.self.batch) (g.R.Reclaim.had one.new.reclaimer)) one.ensures.resumes
