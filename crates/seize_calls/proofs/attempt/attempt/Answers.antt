use Rattle.std.proofs.Common.{◌≡◌, ℕ, List, lit<, sym, ap, subst, ◌∙◌, true, false}
use Rattle.seize_machine.specs.Machine.Event.{AddCount, Detach}
use Rattle.seize_book.specs.Adding.{private}
use Rattle.seize_book.specs.Ledger.{with_list}
use Rattle.seize_book.specs.Private.{labels_of}
use Rattle.seize_book.specs.Slots.{slot_number}
use Rattle.seize_words.proofs.Facts.{knows_noted}
use Rattle.seize_calls.specs.Batches.{keys_in, slot_marks_in, without_slots}
use Rattle.seize_calls.specs.Numbered.{ends_at, is_count_of, starts_at}
use Rattle.seize_calls.proofs.Attempts.{Detached, adds, book_three, has_front, inserts, on_one, on_three, retires, stays_so, told_three, values_are}
use Rattle.seize_calls.proofs.Batches.{remarked_labels, renewed_labels}
use Rattle.seize_calls.proofs.Holders.{key_on}
use Rattle.seize_calls.proofs.Sole.{may_same}
use Rattle.seize_calls.proofs.attempt.attempt.Goals as goal

pub returns-in-TooMany-clause-ends : goal.returns-in-TooMany-clause-ends
returns-in-TooMany-clause-ends g c = λ at. (stays_so at c.args.pass.now c.mark.new.key c.mark.new.pass (slot_marks_in c.mark.new.batch) (c.in-TooMany.ensures.marks at), c.in-TooMany.ensures.batch)

pub detach-requires-clause-book : goal.detach-requires-clause-book
detach-requires-clause-book g c = let on = (c.in-Ready.ensures.marks c.requires.begins).on in on.its.0 ∙ c.requires.key.0.its ∙ sym on.same.0

pub detach-requires-clause-next : goal.detach-requires-clause-next
detach-requires-clause-next g c = (c.in-Ready.ensures.marks c.requires.begins).stands.0

pub insert_each-won-requires : goal.insert_each-won-requires
insert_each-won-requires g c =
    let at = c.requires.begins in let ready = c.in-Ready in let mark = c.mark.new in let one = c.detach.new in let key = c.args.key.now in let pass = c.args.pass.now in let on = (ready.ensures.marks at).on in
    let d : Detached at pass mark.key mark.pass mark.batch ready.marked one.self one.pass = record { ends = ready.ensures.marks at; book = on.its.0 ∙ c.requires.key.0.its ∙ sym on.same.0; knows = ready.ensures.knows; are = remarked_labels mark.batch.values.keys.held c.args.batch.now.values.keys.held ready.ensures.batch.1 ∙ c.requires.batch.1; notes = c.detach.ensures.noted; detaches = c.detach.ensures.batch } in
    let so = on_one d in (
      lit< tt,
      (
        (
          key_on c.args.words.now key one.self pass one.pass c.requires.key.0 so (knows_noted mark.key one.self mark.pass one.pass (private mark.pass (Detach (slot_number mark.key))) c.detach.ensures.noted),
          may_same (g.M.Manner.may c.args.manner.now) pass one.pass so.same c.requires.key.1,
        ),
        ((ready.ensures.batch.0 ∙ c.requires.batch.0 ∙ sym so.same.0, (ready.ensures.marks at).stands.2), inserts d),
      ),
    )

pub header-header-requires : goal.header-header-requires
header-header-requires g c =
    let at = c.requires.begins in let ready = c.in-Ready in let mark = c.mark.new in let one = c.detach.new in let key = c.args.key.now in let pass = c.args.pass.now in let on = (ready.ensures.marks at).on in
    let d : Detached at pass mark.key mark.pass mark.batch ready.marked one.self one.pass = record { ends = ready.ensures.marks at; book = on.its.0 ∙ c.requires.key.0.its ∙ sym on.same.0; knows = ready.ensures.knows; are = remarked_labels mark.batch.values.keys.held c.args.batch.now.values.keys.held ready.ensures.batch.1 ∙ c.requires.batch.1; notes = c.detach.ensures.noted; detaches = c.detach.ensures.batch } in
    let two = c.insert_each-won in let all = two.ensures.all (inserts d) in (lit< tt, (c.requires.key.0.of.0 ∙ sym (on_one d).same.0 ∙ sym all.keeps.on.same.0, has_front d all two.ensures.knows))

pub add-requires-clause-book : goal.add-requires-clause-book
add-requires-clause-book g c =
    let at = c.requires.begins in let ready = c.in-Ready in let mark = c.mark.new in let one = c.detach.new in let key = c.args.key.now in let pass = c.args.pass.now in let on = (ready.ensures.marks at).on in
    let d : Detached at pass mark.key mark.pass mark.batch ready.marked one.self one.pass = record { ends = ready.ensures.marks at; book = on.its.0 ∙ c.requires.key.0.its ∙ sym on.same.0; knows = ready.ensures.knows; are = remarked_labels mark.batch.values.keys.held c.args.batch.now.values.keys.held ready.ensures.batch.1 ∙ c.requires.batch.1; notes = c.detach.ensures.noted; detaches = c.detach.ensures.batch } in
    let two = c.insert_each-won in let all = two.ensures.all (inserts d) in let three = c.header-header in
    let on3 = on_three d all two.ensures.knows three.new.pass three.result.now three.ensures.looks three.ensures.header in (
      book_three d all two.ensures.knows three.new.pass three.result.now three.ensures.looks three.ensures.header,
      three.result.now.counted ∙ three.ensures.header.0,
      two.ensures.batch.0 ∙ ready.ensures.batch.0 ∙ c.requires.batch.0 ∙ sym on3.same.0,
    )

pub add-requires-clause-adds : goal.add-requires-clause-adds
add-requires-clause-adds g c =
    let at = c.requires.begins in let ready = c.in-Ready in let mark = c.mark.new in let one = c.detach.new in let key = c.args.key.now in let pass = c.args.pass.now in let on = (ready.ensures.marks at).on in
    let d : Detached at pass mark.key mark.pass mark.batch ready.marked one.self one.pass = record { ends = ready.ensures.marks at; book = on.its.0 ∙ c.requires.key.0.its ∙ sym on.same.0; knows = ready.ensures.knows; are = remarked_labels mark.batch.values.keys.held c.args.batch.now.values.keys.held ready.ensures.batch.1 ∙ c.requires.batch.1; notes = c.detach.ensures.noted; detaches = c.detach.ensures.batch } in
    let two = c.insert_each-won in let all = two.ensures.all (inserts d) in let three = c.header-header in
    (adds d all two.ensures.knows three.new.pass three.result.now three.ensures.looks three.ensures.header, ap labels_of two.ensures.batch.1 ∙ d.are ∙ sym (values_are d all two.ensures.knows three.new.pass three.result.now three.ensures.looks three.ensures.header), two.new.batch.closed)

pub add-requires-clause-told : goal.add-requires-clause-told
add-requires-clause-told g c =
    let at = c.requires.begins in let ready = c.in-Ready in let mark = c.mark.new in let one = c.detach.new in let key = c.args.key.now in let pass = c.args.pass.now in let on = (ready.ensures.marks at).on in
    let d : Detached at pass mark.key mark.pass mark.batch ready.marked one.self one.pass = record { ends = ready.ensures.marks at; book = on.its.0 ∙ c.requires.key.0.its ∙ sym on.same.0; knows = ready.ensures.knows; are = remarked_labels mark.batch.values.keys.held c.args.batch.now.values.keys.held ready.ensures.batch.1 ∙ c.requires.batch.1; notes = c.detach.ensures.noted; detaches = c.detach.ensures.batch } in
    let two = c.insert_each-won in let all = two.ensures.all (inserts d) in let three = c.header-header in
    told_three d all two.ensures.knows three.new.pass three.result.now three.ensures.looks three.ensures.header (keys_in c.args.batch.now) two.new.batch.values (two.ensures.batch.0 ∙ ready.ensures.batch.0, ap without_slots two.ensures.batch.1 ∙ ready.ensures.batch.1) c.requires.batch.2

-- the same values
pub invariant_of-batch : goal.invariant_of-batch
invariant_of-batch g c =
    let batch = c.insert_each-won.new.batch in
    let left : with_list batch.values.keys.held c.add.new.pass.seen ≡ c.add.new.values.keys.held = sym c.if-add.ensures.keys.1 in
    let same = sym (renewed_labels batch.values.keys.held c.add.new.pass.seen) ∙ ap labels_of left in
    record {
      many = subst (λ (vs : List ℕ). is_count_of batch.len vs ≡ true) same batch.many;
      front = subst (λ (vs : List ℕ). starts_at batch.first vs ≡ true) same batch.front;
      back = subst (λ (vs : List ℕ). ends_at batch.last vs ≡ true) same batch.back;
      fits = batch.fits;
      closed = c.if-add.ensures.keys.3;
    }

pub returns-then-add-clause-knows : goal.returns-then-add-clause-knows
returns-then-add-clause-knows g c =
    let key = c.insert_each-won.new.key in
    knows_noted key c.add.new.key c.header-header.new.pass c.add.new.pass (private c.header-header.new.pass (AddCount (slot_number key))) c.add.ensures.counts.0

pub returns-then-add-clause-ends : goal.returns-then-add-clause-ends
returns-then-add-clause-ends g c = λ at.
    let ready = c.in-Ready in let mark = c.mark.new in let one = c.detach.new in let key = c.args.key.now in let pass = c.args.pass.now in let on = (ready.ensures.marks at).on in
    let d : Detached at pass mark.key mark.pass mark.batch ready.marked one.self one.pass = record { ends = ready.ensures.marks at; book = on.its.0 ∙ c.requires.key.0.its ∙ sym on.same.0; knows = ready.ensures.knows; are = remarked_labels mark.batch.values.keys.held c.args.batch.now.values.keys.held ready.ensures.batch.1 ∙ c.requires.batch.1; notes = c.detach.ensures.noted; detaches = c.detach.ensures.batch } in
    let two = c.insert_each-won in let all = two.ensures.all (inserts d) in let three = c.header-header in
    retires d all two.ensures.knows three.new.pass three.result.now three.ensures.looks three.ensures.header (keys_in c.args.batch.now) two.new.batch.values (two.ensures.batch.0 ∙ ready.ensures.batch.0, ap without_slots two.ensures.batch.1 ∙ ready.ensures.batch.1) c.add.new.values c.add.new.key c.add.new.pass true c.if-add.ensures.counts
    (c.if-add.ensures.gives (adds d all two.ensures.knows three.new.pass three.result.now three.ensures.looks three.ensures.header)) c.if-add.ensures.keys c.if-add.ensures.under_guard

pub returns-else-add-clause-knows : goal.returns-else-add-clause-knows
returns-else-add-clause-knows g c =
    let key = c.insert_each-won.new.key in
    knows_noted key c.add.new.key c.header-header.new.pass c.add.new.pass (private c.header-header.new.pass (AddCount (slot_number key))) c.add.ensures.counts.0

pub returns-else-add-clause-ends : goal.returns-else-add-clause-ends
returns-else-add-clause-ends g c = λ at.
    let ready = c.in-Ready in let mark = c.mark.new in let one = c.detach.new in let key = c.args.key.now in let pass = c.args.pass.now in let on = (ready.ensures.marks at).on in
    let d : Detached at pass mark.key mark.pass mark.batch ready.marked one.self one.pass = record { ends = ready.ensures.marks at; book = on.its.0 ∙ c.requires.key.0.its ∙ sym on.same.0; knows = ready.ensures.knows; are = remarked_labels mark.batch.values.keys.held c.args.batch.now.values.keys.held ready.ensures.batch.1 ∙ c.requires.batch.1; notes = c.detach.ensures.noted; detaches = c.detach.ensures.batch } in
    let two = c.insert_each-won in let all = two.ensures.all (inserts d) in let three = c.header-header in
    retires d all two.ensures.knows three.new.pass three.result.now three.ensures.looks three.ensures.header (keys_in c.args.batch.now) two.new.batch.values (two.ensures.batch.0 ∙ ready.ensures.batch.0, ap without_slots two.ensures.batch.1 ∙ ready.ensures.batch.1) c.add.new.values c.add.new.key c.add.new.pass false c.if-add.ensures.counts
    (c.if-add.ensures.gives (adds d all two.ensures.knows three.new.pass three.result.now three.ensures.looks three.ensures.header)) c.if-add.ensures.keys c.if-add.ensures.under_guard
