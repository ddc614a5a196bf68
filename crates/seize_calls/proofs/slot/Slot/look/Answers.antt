use Rattle.std.proofs.Common.{refl, ap, ◌∙◌}
use Rattle.seize_machine.specs.Machine.State.{is_idle}
use Rattle.seize_book.specs.Slots.{LooksWithSlotKey}
use Rattle.seize_calls.proofs.Current.{looked_active, looked_life, looked_slot}
use Rattle.seize_calls.proofs.Slots.{calls_with, keeps_in, of_list, ready_learned, still_look, together}
use Rattle.seize_calls.proofs.slot.Slot.look.Goals as goal

pub invariant_of-self : goal.invariant_of-self
invariant_of-self g c =
    let s = c.args.self.now in let p = c.learn.new.self in let of = c.requires.of in let one = c.look in let seen = c.learn-2.ensures in let ready = ready_learned s.seen c.args.pass.now p (of.0.0.book ∙ of.1.0) c.learn.ensures in
    let same = looked_slot s.holder.key p one.new.self one.new.pass one.ensures.looked in
    let after = still_look s p ready one.new.self one.new.pass of.0.0.told same one.ensures.looked in
    record { together = together s p ready _ one.new.pass after c.learn-2.new.self seen.0 seen.1 }

pub returns-clause-of : goal.returns-clause-of
returns-clause-of g c =
    let s = c.args.self.now in let p = c.learn.new.self in let of = c.requires.of in let one = c.look in let seen = c.learn-2.ensures in let ready = ready_learned s.seen c.args.pass.now p (of.0.0.book ∙ of.1.0) c.learn.ensures in
    let looks = one.ensures.looked in let same = looked_slot s.holder.key p one.new.self one.new.pass looks in
    let after = still_look s p ready one.new.self one.new.pass of.0.0.told same looks in (
      (of_list s p ready _ one.new.pass after _ refl seen.0 seen.1 _ of.0.0, ap is_idle same ∙ of.0.1),
      keeps_in s p ready _ one.new.pass after _ refl seen.0 seen.1 refl (looked_active s.holder.key p one.new.self one.new.pass looks) (looked_life s.holder.key p one.new.self one.new.pass looks),
    )

pub returns-clause-looks : goal.returns-clause-looks
returns-clause-looks g c =
    let s = c.args.self.now in let p = c.learn.new.self in let of = c.requires.of in let one = c.look in
    (calls_with s _ c.args.pass.now p of.0.0 of.1.0 c.learn.ensures _ _ one.new.pass refl c.learn-2.ensures (λ q r. LooksWithSlotKey s.holder.key q one.new.self r) one.ensures.looked, refl)
