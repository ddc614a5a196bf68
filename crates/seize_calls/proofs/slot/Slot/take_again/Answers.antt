use Rattle.std.proofs.Common.{ℕ, max, nat_le, length, ◌++◌, refl, sym, ap, subst, ◌∙◌}
use base.Growing.{prefix_trans}
use Rattle.seize_machine.specs.Machine.Event.{Take}
use Rattle.seize_machine.specs.Machine.State.{Slot}
use Rattle.seize_book.specs.Others.{rest_of, use_flags}
use Rattle.seize_book.specs.Slots.{AddsEvent}
use Rattle.seize_words.proofs.Facts.{all_told_later, seen_grows}
use Rattle.seize_words.specs.Joined.{words_book}
use Rattle.seize_calls.specs.Batches.{keys_in}
use Rattle.seize_calls.specs.Settling.{HasBatch}
use Rattle.seize_calls.proofs.Numbering.{same_active}
use Rattle.seize_calls.proofs.Rested.{joins_told, rest_told, taken_as}
use Rattle.seize_calls.proofs.Slots.{after_event, calls_with, of_list, ready_learned}
use Rattle.seize_calls.proofs.slot.Slot.take_again.Goals as goal

pub returns-clause-of : goal.returns-clause-of
returns-clause-of g c =
    let s = c.args.self.now in let p = c.learn.new.self in let of = c.requires.of in let one = c.take_again in let seen = c.learn-2.ensures in let notes = one.ensures.noted in let n = words_book c.args.words.now in
    let ready = ready_learned s.seen c.args.pass.now p (of.0.0.book ∙ of.1.0) c.learn.ensures in let rest = c.args.rest.now in let is = c.requires.numbers.1 in let joins = c.append.ensures.joins in
    let left = rest_told n c.args.numbers.now one.new.numbers one.new.pass one.ensures.numbers.0 one.ensures.numbers.1 rest is in
    let own = all_told_later s.seen.seen one.new.pass.seen (keys_in s.holder.batch).keys.held (prefix_trans s.seen.seen p.seen one.new.pass.seen ready.grows (seen_grows p.name p.id p.seen one.new.pass.seen _ notes.2.0)) of.0.0.told in
    let has : HasBatch one.new.self one.new.pass (keys_in c.append.new.self) = (
      joins.book ∙ s.together.batch_is.0 ∙ ready.named ∙ sym notes.0.0,
      joins.all ∙ (λ j. (s.together.batch_is.1 ∙ ap (λ (z : Slot). z.batch) of.0.1) j ++ is.values j) ∙ sym (ap (λ (z : Slot). z.batch) one.ensures.slot),
      joins_told one.new.pass (keys_in s.holder.batch) (keys_in rest) (keys_in c.append.new.self) joins own left,
    ) in
    let after = after_event s p ready one.new.self one.new.pass c.append.new.self has _ notes in
    let full = c.is_full-full.ensures ∙ (λ j. nat_le (max 1 ((of.1.1 ∙ sym c.learn.ensures.0.2) j)) (length (is.values j))) in (
      taken_as c.args.words.now _ c.is_full-full.result p.size (length (use_flags c.args.numbers.now)) (rest_of c.args.numbers.now) (of_list s p ready _ one.new.pass after _ refl seen.0 seen.1 _ of.0.0) one.ensures.slot full,
      same_active s.holder.key one.new.self p one.new.pass _ refl notes ∙ of.0.2,
    )

pub returns-clause-takes : goal.returns-clause-takes
returns-clause-takes g c =
    let s = c.args.self.now in let p = c.learn.new.self in let of = c.requires.of in let one = c.take_again in
    calls_with s _ c.args.pass.now p of.0.0 of.1.0 c.learn.ensures _ _ one.new.pass refl c.learn-2.ensures (λ q r. AddsEvent s.holder.key q one.new.self r (Take s.number))
    (subst (λ (k : ℕ). AddsEvent s.holder.key p one.new.self one.new.pass (Take k)) s.together.numbered one.ensures.noted)
