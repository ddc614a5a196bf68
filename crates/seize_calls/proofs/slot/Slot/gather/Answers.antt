use Rattle.std.proofs.Common.{ℕ, length, ◌++◌, refl, sym, ap, subst, ◌∙◌}
use base.Growing.{prefix_trans}
use Rattle.seize_machine.specs.Machine.Event.{Begin}
use Rattle.seize_machine.specs.Machine.State.{Slot}
use Rattle.seize_machine.specs.declared.machine.event.Job.TheVariants.{Gather}
use Rattle.seize_book.specs.Others.{rest_of, use_flags}
use Rattle.seize_book.specs.Private.{labels_of}
use Rattle.seize_book.specs.Slots.{AddsEvent, slot_of}
use Rattle.seize_words.proofs.Facts.{all_told_later, seen_grows}
use Rattle.seize_words.specs.Joined.{words_book}
use Rattle.seize_calls.specs.Batches.{keys_in}
use Rattle.seize_calls.specs.Settling.{HasBatch}
use Rattle.seize_calls.proofs.Numbering.{same_active}
use Rattle.seize_calls.proofs.Rested.{gathered_as, joins_told, none_told, rest_told}
use Rattle.seize_calls.proofs.Slots.{after_event, calls_with, of_list, ready_learned}
use Rattle.seize_calls.proofs.slot.Slot.gather.Goals as goal

pub returns-clause-of : goal.returns-clause-of
returns-clause-of g c =
    let s = c.args.self.now in let p = c.learn.new.self in let of = c.requires.of in let one = c.begin_gather in let seen = c.learn-2.ensures in let notes = one.ensures.noted in let n = words_book c.args.words.now in
    let ready = ready_learned s.seen c.args.pass.now p (of.0.0.book ∙ of.1.0) c.learn.ensures in let rest = c.args.rest.now in let is = c.requires.numbers.1 in let first = c.append in let last = c.append-2 in
    let left = rest_told n c.args.numbers.now one.new.numbers one.new.pass one.ensures.numbers.0 one.ensures.numbers.1 rest is in
    let own = all_told_later s.seen.seen one.new.pass.seen (keys_in s.holder.batch).keys.held (prefix_trans s.seen.seen p.seen one.new.pass.seen ready.grows (seen_grows p.name p.id p.seen one.new.pass.seen _ notes.2.0)) of.0.0.told in
    let both = joins_told one.new.pass (keys_in rest) (keys_in s.holder.batch) (keys_in first.new.self) first.ensures.joins left own in
    let has : HasBatch one.new.self one.new.pass (keys_in last.new.self) = (
      last.ensures.joins.book ∙ first.ensures.emptied.0 ∙ s.together.batch_is.0 ∙ ready.named ∙ sym notes.0.0,
      last.ensures.joins.all ∙ (λ j. ap labels_of first.ensures.emptied.1 j ++ (first.ensures.joins.all ∙ (λ k. is.values k ++ s.together.batch_is.1 k)) j) ∙ sym (ap (λ (z : Slot). z.batch) one.ensures.slot),
      joins_told one.new.pass (keys_in first.new.other) (keys_in first.new.self) (keys_in last.new.self) last.ensures.joins (none_told one.new.pass (keys_in first.new.other) first.ensures.emptied.1) both,
    ) in
    let after = after_event s p ready one.new.self one.new.pass last.new.self has _ notes in (
      gathered_as c.args.words.now _ (length (use_flags c.args.numbers.now)) (rest_of c.args.numbers.now ++ (slot_of s.holder.key).batch) (of_list s p ready _ one.new.pass after _ refl seen.0 seen.1 _ of.0.0) one.ensures.slot,
      same_active s.holder.key one.new.self p one.new.pass _ refl notes ∙ of.2,
    )

pub returns-clause-gathers : goal.returns-clause-gathers
returns-clause-gathers g c =
    let s = c.args.self.now in let p = c.learn.new.self in let of = c.requires.of in let one = c.begin_gather in
    calls_with s _ c.args.pass.now p of.0.0 of.1.0 c.learn.ensures _ _ one.new.pass refl c.learn-2.ensures (λ q r. AddsEvent s.holder.key q one.new.self r (Begin s.number Gather))
    (subst (λ (k : ℕ). AddsEvent s.holder.key p one.new.self one.new.pass (Begin k Gather)) s.together.numbered one.ensures.noted)
