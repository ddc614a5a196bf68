use Rattle.std.proofs.Common.{ℕ, refl, sym, ap, subst, ◌∙◌}
use Rattle.seize_machine.specs.Machine.Event.{Enter}
use Rattle.seize_machine.specs.Machine.State.{is_idle}
use Rattle.seize_book.specs.Slots.{AddsDeed}
use Rattle.seize_words.specs.Reservations.{beginning}
use Rattle.seize_calls.proofs.Slots.{begins_in, calls_with, holder, of_list, ready_learned, stays_entered, still_event, together}
use Rattle.seize_calls.proofs.slot.Slot.enter.Goals as goal

pub enter-requires : goal.enter-requires
enter-requires g c =
    let s = c.args.self.now in let pass = c.args.pass.now in let p = c.learn.new.self in let learns = c.learn.ensures in let of = c.requires.of in let head = c.requires.head in
    let its = holder s p (ready_learned s.seen pass p (of.0.0.book ∙ of.1.0) learns) in
    record {
      book = (its.0, head.0 ∙ of.0.0.book ∙ of.1.0 ∙ sym learns.0.0, head.1 ∙ sym s.together.numbered);
      outside = (of.0.1, c.requires.outside.0);
      slot = c.requires.outside.1;
    }

pub invariant_of-self : goal.invariant_of-self
invariant_of-self g c =
    let s = c.args.self.now in let pass = c.args.pass.now in let p = c.learn.new.self in let of = c.requires.of in let one = c.enter in let seen = c.learn-2.ensures in
    let ready = ready_learned s.seen pass p (of.0.0.book ∙ of.1.0) c.learn.ensures in let stays = stays_entered s p one.new.key one.new.pass one.new.activation one.ensures.noted of.0.1 c.requires.outside.0 in
    let after = still_event s p ready one.new.key one.new.pass of.0.0.told stays _ one.ensures.noted in
    record { together = together s p ready _ one.new.pass after c.learn-2.new.self seen.0 seen.1 }

pub returns-clause-of : goal.returns-clause-of
returns-clause-of g c =
    let s = c.args.self.now in let pass = c.args.pass.now in let p = c.learn.new.self in let of = c.requires.of in let one = c.enter in let seen = c.learn-2.ensures in
    let ready = ready_learned s.seen pass p (of.0.0.book ∙ of.1.0) c.learn.ensures in let stays = stays_entered s p one.new.key one.new.pass one.new.activation one.ensures.noted of.0.1 c.requires.outside.0 in
    let after = still_event s p ready one.new.key one.new.pass of.0.0.told stays _ one.ensures.noted in (
      of_list s p ready _ one.new.pass after _ refl seen.0 seen.1 _ of.0.0,
      ap is_idle stays ∙ of.0.1,
    )

pub returns-clause-activation : goal.returns-clause-activation
returns-clause-activation g c =
    let one = c.enter in let seen = c.learn-2.ensures in begins_in _ one.new.activation one.ensures.activation (one.ensures.noted.1.2 ∙ sym seen.1)

pub returns-clause-enters : goal.returns-clause-enters
returns-clause-enters g c =
    let s = c.args.self.now in let pass = c.args.pass.now in let p = c.learn.new.self in let of = c.requires.of in let one = c.enter in
    calls_with s _ pass p of.0.0 of.1.0 c.learn.ensures _ _ one.new.pass refl c.learn-2.ensures (λ q r. AddsDeed s.holder.key q one.new.key r (beginning q one.new.activation.life (Enter s.number))) (subst (λ (k : ℕ). AddsDeed s.holder.key p one.new.key one.new.pass (beginning p one.new.activation.life (Enter k))) s.together.numbered one.ensures.noted)
