use Rattle.std.proofs.Common.{ℕ, ◌++◌, refl, sym, ap, subst, ◌∙◌, false}
use Rattle.std.specs.Prelude.{slice_set}
use base.Growing.{prefix_trans}
use Rattle.seize_machine.specs.Machine.Event.{Give}
use Rattle.seize_machine.specs.Machine.State.{Slot}
use Rattle.seize_book.specs.Others.{FollowsNumbers, use_flags}
use Rattle.seize_book.specs.Slots.{AddsEvent}
use Rattle.seize_book.specs.declared.book.pass.Pass.{Pass}
use Rattle.seize_words.proofs.Facts.{all_told_later, seen_grows}
use Rattle.seize_words.specs.Joined.{words_book}
use Rattle.seize_calls.specs.Batches.{keys_in}
use Rattle.seize_calls.proofs.Rested.{joins_told, rest_is, rest_told}
use Rattle.seize_calls.proofs.Slots.{after_event, calls_with, no_batch, ready_learned, together}
use Rattle.seize_calls.proofs.slot.Slot.give.Goals as goal

pub invariant_of-self : goal.invariant_of-self
invariant_of-self g c =
    let s = c.args.self.now in let pass = c.args.pass.now in let p = c.learn.new.self in let of = c.requires.of in let one = c.give in let seen = c.learn-2.ensures in let notes = one.ensures.noted.0 in let batch = c.append.new.other in
    let ready = ready_learned s.seen pass p (of.0.0.book ∙ of.1.0) c.learn.ensures in
    let has = no_batch one.new.self one.new.pass (keys_in batch) (c.append.ensures.emptied.0 ∙ s.together.batch_is.0 ∙ ready.named ∙ sym notes.0.0, c.append.ensures.emptied.1) (ap (λ (z : Slot). z.batch) one.ensures.noted.1) in
    record { together = together s p ready _ one.new.pass (after_event s p ready one.new.self one.new.pass batch has _ notes) c.learn-2.new.self seen.0 seen.1 }

pub returns-clause-gives : goal.returns-clause-gives
returns-clause-gives g c =
    let s = c.args.self.now in let p = c.learn.new.self in let of = c.requires.of in let one = c.give in
    calls_with s _ c.args.pass.now p of.0.0 of.1.0 c.learn.ensures _ _ one.new.pass refl c.learn-2.ensures (λ q r. AddsEvent s.holder.key q one.new.self r (Give s.number))
    (subst (λ (k : ℕ). AddsEvent s.holder.key p one.new.self one.new.pass (Give k)) s.together.numbered one.ensures.noted.0)

pub returns-clause-numbers : goal.returns-clause-numbers
returns-clause-numbers g c =
    let s = c.args.self.now in let p = c.learn.new.self in let of = c.requires.of in let one = c.give in let seen = c.learn-2.ensures in let notes = one.ensures.noted.0 in let n = words_book c.args.words.now in
    let ready = ready_learned s.seen c.args.pass.now p (of.0.0.book ∙ of.1.0) c.learn.ensures in let rest = c.args.rest.now in let is = c.requires.numbers.1 in let joins = c.append.ensures.joins in
    let before = rest_told n c.args.numbers.now one.new.numbers one.new.pass one.ensures.numbers.0 one.ensures.numbers.1 rest is in
    let own = all_told_later s.seen.seen one.new.pass.seen (keys_in s.holder.batch).keys.held (prefix_trans s.seen.seen p.seen one.new.pass.seen ready.grows (seen_grows p.name p.id p.seen one.new.pass.seen _ notes.2.0)) of.0.0.told in (
      (
        subst (λ (q : Pass). FollowsNumbers c.args.numbers.now q one.new.numbers) (sym seen.2) one.ensures.numbers.0,
        one.ensures.used ∙ ap (λ (k : ℕ). slice_set (use_flags c.args.numbers.now) k false) s.together.numbered,
      ),
      rest_is n c.args.numbers.now one.new.numbers one.new.pass one.ensures.numbers.0 c.append.new.self (joins.book ∙ is.book) (joins.all ∙ (λ j. is.values j ++ s.together.batch_is.1 j) ∙ sym one.ensures.rest)
          (joins_told one.new.pass (keys_in rest) (keys_in s.holder.batch) (keys_in c.append.new.self) joins before own),
    )
