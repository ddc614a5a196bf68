use Rattle.std.proofs.Common.{[], false, lit<, refl, sym, ◌∙◌}
use Rattle.std.proofs.lemmas.Bool.{ltb-true}
use Rattle.seize_book.specs.Others.{value_of}
use Rattle.seize_book.specs.Slots.{slot_of}
use Rattle.seize_calls.specs.Batches.{keys_in}
use Rattle.seize_calls.specs.Calls.{RetiresOne}
use Rattle.seize_calls.proofs.Laid.{lays_ready, lays_same}
use Rattle.seize_calls.proofs.Slots.{after_call, calls_with, holds_ready, idle_after, keeps_in, of_list, ready_learned, together, used_in}
use Rattle.seize_calls.proofs.slot.Slot.retire_short.Goals as goal

pub retire_short-requires : goal.retire_short-requires
retire_short-requires g c =
    let s = c.args.self.now in let pass = c.args.pass.now in let p = c.learn.new.self in let of = c.requires.of in
    (lit< tt, ((holds_ready c.args.words.now s pass p of.0.0 of.1 c.learn.ensures, of.0.1), ((c.requires.value.0 ∙ of.1.0 ∙ sym c.learn.ensures.0.0, c.requires.value.1), ltb-true _ _ (sym c.stays_short.ensures ∙ c.if-not-stays_short.false))))

pub invariant_of-self : goal.invariant_of-self
invariant_of-self g c =
    let s = c.args.self.now in let p = c.learn.new.self in let of = c.requires.of in let one = c.retire_short in let seen = c.learn-2.ensures in
    record { together = together s p (ready_learned s.seen c.args.pass.now p (of.0.0.book ∙ of.1.0) c.learn.ensures) one.new.self one.new.pass (after_call c.args.words.now s p one.new.self one.new.pass of.0.0 one.ensures.retires.rests one.ensures.holder) c.learn-2.new.self seen.0 seen.1 }

pub returns-clause-of : goal.returns-clause-of
returns-clause-of g c =
    let s = c.args.self.now in let p = c.learn.new.self in let of = c.requires.of in let one = c.retire_short in let seen = c.learn-2.ensures in let did = one.ensures.retires in
    let ready = ready_learned s.seen c.args.pass.now p (of.0.0.book ∙ of.1.0) c.learn.ensures in let after = after_call c.args.words.now s p one.new.self one.new.pass of.0.0 one.ensures.retires.rests one.ensures.holder in
    ((of_list s p ready one.new.self one.new.pass after _ refl seen.0 seen.1 _ of.0.0, idle_after did.rests (used_in (slot_of s.holder.key) of.0.1)), keeps_in s p ready one.new.self one.new.pass after _ refl seen.0 seen.1 refl did.active did.life)

pub returns-clause-retires : goal.returns-clause-retires
returns-clause-retires g c =
    let s = c.args.self.now in let p = c.learn.new.self in let of = c.requires.of in let one = c.retire_short in
    calls_with s _ c.args.pass.now p of.0.0 of.1.0 c.learn.ensures _ _ one.new.pass refl c.learn-2.ensures (λ q r. RetiresOne s.holder.key q (value_of c.args.value.value) c.args.kept (keys_in s.holder.batch) [] one.new.self.key r (keys_in one.new.self.batch) [] false) one.ensures.retires

pub returns-clause-laid : goal.returns-clause-laid
returns-clause-laid g c =
    let one = c.retire_short in lays_ready c.args.pass.now c.learn.new.self one.new.pass c.learn-2.new.pass c.args.self.now.holder.spots one.new.self.spots c.learn.ensures.1 one.ensures.laid c.learn-2.ensures.2

pub returns-then-not-stays_short-clause-laid : goal.returns-then-not-stays_short-clause-laid
returns-then-not-stays_short-clause-laid g c = lays_same c.args.pass.now c.args.pass.now c.args.self.now.holder.spots refl
