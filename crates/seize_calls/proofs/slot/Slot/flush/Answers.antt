use Rattle.std.proofs.Common.{lit<, refl, ◌∙◌}
use Rattle.seize_book.specs.Slots.{slot_of}
use Rattle.seize_calls.specs.Batches.{keys_in}
use Rattle.seize_calls.specs.Calls.{Flushes}
use Rattle.seize_calls.proofs.Laid.{lays_ready}
use Rattle.seize_calls.proofs.Slots.{after_call, calls_with, holds_ready, idle_after, keeps_in, of_list, ready_learned, together, used_in}
use Rattle.seize_calls.proofs.Sole.{may_same}
use Rattle.seize_calls.proofs.slot.Slot.flush.Goals as goal

pub flush-retired-requires : goal.flush-retired-requires
flush-retired-requires g c =
    let s = c.args.self.now in let pass = c.args.pass.now in let p = c.learn.new.self in let of = c.requires.of in
    (lit< tt, ((holds_ready c.args.words.now s pass p of.0.0 of.1 c.learn.ensures, (of.0.1, c.requires.inside)), (c.requires.serves, may_same (g.M.Manner.may c.args.manner.now) pass p c.learn.ensures.0 of.2)))

pub invariant_of-self : goal.invariant_of-self
invariant_of-self g c =
    let s = c.args.self.now in let p = c.learn.new.self in let of = c.requires.of in let one = c.flush-retired in let seen = c.learn-2.ensures in
    record { together = together s p (ready_learned s.seen c.args.pass.now p (of.0.0.book ∙ of.1.0) c.learn.ensures) one.new.self one.new.pass (after_call c.args.words.now s p one.new.self one.new.pass of.0.0 one.ensures.flushes.rests one.ensures.holder.0) c.learn-2.new.self seen.0 seen.1 }

pub returns-clause-of : goal.returns-clause-of
returns-clause-of g c =
    let s = c.args.self.now in let p = c.learn.new.self in let of = c.requires.of in let one = c.flush-retired in let seen = c.learn-2.ensures in let did = one.ensures.flushes in
    let ready = ready_learned s.seen c.args.pass.now p (of.0.0.book ∙ of.1.0) c.learn.ensures in let after = after_call c.args.words.now s p one.new.self one.new.pass of.0.0 one.ensures.flushes.rests one.ensures.holder.0 in
    ((of_list s p ready one.new.self one.new.pass after _ refl seen.0 seen.1 _ of.0.0, idle_after did.rests (used_in (slot_of s.holder.key) of.0.1)), keeps_in s p ready one.new.self one.new.pass after _ refl seen.0 seen.1 refl did.active did.life)

pub returns-clause-flushes : goal.returns-clause-flushes
returns-clause-flushes g c =
    let s = c.args.self.now in let p = c.learn.new.self in let of = c.requires.of in let one = c.flush-retired in
    calls_with s _ c.args.pass.now p of.0.0 of.1.0 c.learn.ensures _ _ one.new.pass refl c.learn-2.ensures (λ q r. Flushes s.holder.key q (keys_in s.holder.batch) (g.R.Reclaim.had c.args.reclaimer.now) one.new.self.key r (keys_in one.new.self.batch) (g.R.Reclaim.had one.new.reclaimer) one.result) one.ensures.flushes

pub returns-clause-laid : goal.returns-clause-laid
returns-clause-laid g c =
    let one = c.flush-retired in lays_ready c.args.pass.now c.learn.new.self one.new.pass c.learn-2.new.pass c.args.self.now.holder.spots one.new.self.spots c.learn.ensures.1 one.ensures.laid c.learn-2.ensures.2
