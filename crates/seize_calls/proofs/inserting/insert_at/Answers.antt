use Rattle.std.proofs.Common.{rules, ◌≡◌, ℕ, ◌+◌, ◌<◌, ◌^◌, List, lit<, sym, ap, subst, ◌∙◌, get_or, arith}
use Rattle.seize_book.specs.Blocks.{block_number}
use Rattle.seize_book.specs.Entry.{Entry}
use Rattle.seize_book.specs.Ledger.{HeldKey}
use Rattle.seize_book.specs.Private.{labels_of}
use Rattle.seize_words.specs.Reservations.{slot}
use Rattle.seize_words.specs.Totals.{slots_seen}
use Rattle.seize_words.proofs.Facts.{named_seen, knows_still, looks_twice, more_seen}
use Rattle.seize_calls.specs.Batches.{slot_in}
use Rattle.seize_calls.specs.Inserts.{InsertsAtSlot, IsAtSlot}
use Rattle.seize_calls.proofs.Rounds.{number_of_first}
use Rattle.seize_calls.proofs.Turns.{inserted_before, its_home}
use Rattle.seize_calls.proofs.inserting.insert_at.Goals as goal

pub header-header-requires : goal.header-header-requires
header-header-requires g c =
    let next = c.requires.next in let round = c.args.round.now in let looks = c.seek-known.ensures.looks in
    let number = number_of_first round.number round.rest.keys.held next.first.label (labels_of next.others) (ap labels_of next.is_first) round.next in (
      lit< tt,
      (c.requires.key.0.of.0 ∙ sym looks.same.0, (next.first.label, named_seen c.args.pass.now c.seek-known.new.self next.first.label looks next.named, sym number ∙ sym c.number-block.ensures)),
    )

pub next-note-requires : goal.next-note-requires
next-note-requires g c =
    let next = c.requires.next in let round = c.args.round.now in let one = c.seek-known in let two = c.header-header in let v = next.first.label in
    let number = number_of_first round.number round.rest.keys.held v (labels_of next.others) (ap labels_of next.is_first) round.next in
    record {
      header = (
        v,
        labels_of next.others,
        ap labels_of next.is_first,
        sym (two.ensures.header.2 v (named_seen one.new.self two.new.pass v two.ensures.looks (named_seen c.args.pass.now one.new.self v one.ensures.looks next.named)) (sym number ∙ sym c.number-block.ensures)),
      );
    }

pub head-head-requires-clause-seen : goal.head-head-requires-clause-seen
head-head-requires-clause-seen g c =
    let next = c.requires.next in let note = c.next-note in let first : HeldKey Entry = next.first in
    let one = more_seen c.args.pass.now c.seek-known.new.self c.seek-known.ensures.looks in let two = more_seen c.seek-known.new.self c.header-header.new.pass c.header-header.ensures.looks in
    let same : slot_in first.note ≡ note.result.slot = ap (λ (hs : List (HeldKey Entry)). slot_in (get_or hs 0 first).note) (sym next.is_first ∙ note.ensures.was) ∙ ap slot_in note.ensures.noted in
    let seen = next.seen in omega (arith, one, two, same, seen)

pub insert-requires-clause-book : goal.insert-requires-clause-book
insert-requires-clause-book g c =
    let two = c.header-header.ensures in let named = sym c.head-head.ensures.looks.same.0 in let before = sym c.seek-known.ensures.looks.same.0 ∙ sym two.looks.same.0 in
    (c.requires.key.0.its ∙ (before ∙ named), c.head-head.ensures.head.0, two.header.0 ∙ named)

pub insert-requires-clause-knows : goal.insert-requires-clause-knows
insert-requires-clause-knows g c =
    let key = c.args.key.now in
    knows_still key c.header-header.new.pass c.head-head.new.pass
    (knows_still key c.seek-known.new.self c.header-header.new.pass (knows_still key c.args.pass.now c.seek-known.new.self c.requires.key.0.knows c.seek-known.ensures.looks) c.header-header.ensures.looks)
    c.head-head.ensures.looks

pub insert-requires-clause-here : goal.insert-requires-clause-here
insert-requires-clause-here g c =
    let next = c.requires.next in
    let key = c.args.key.now in let one = c.seek-known in let two = c.header-header in let three = c.head-head in let round = c.args.round.now in let first : HeldKey Entry = next.first in let note = c.next-note in let is = c.requires.key.0 in
    let same : slot_in first.note ≡ note.result.slot = ap (λ (hs : List (HeldKey Entry)). slot_in (get_or hs 0 first).note) (sym next.is_first ∙ note.ensures.was) ∙ ap slot_in note.ensures.noted in
    let its_slot : slot three.result.now ≡ slot_in first.note = three.ensures.head.1 ∙ sym same in
    let its_block : c.number-block.result ≡ block_number first.label = c.number-block.ensures ∙ number_of_first round.number round.rest.keys.held first.label (labels_of next.others) (ap labels_of next.is_first) round.next in
    let at = subst (λ (t : ℕ × ℕ). IsAtSlot key t.0 t.1 c.args.front) (λ i. (sym its_slot i, sym its_block i)) next.at in let fits : c.number-block.result + 2 < 2 ^ 64 = search rules in
    let more1 = more_seen c.args.pass.now one.new.self one.ensures.looks in let more2 = more_seen one.new.self two.new.pass two.ensures.looks in let more3 = more_seen two.new.pass three.new.pass three.ensures.looks in
    record {
      at = at;
      home = its_home key two.new.pass (slot three.result.now) c.number-block.result c.args.front two.result.now at (is.its ∙ sym one.ensures.looks.same.0 ∙ sym two.ensures.looks.same.0)
          (knows_still key one.new.self two.new.pass (knows_still key c.args.pass.now one.new.self is.knows one.ensures.looks) two.ensures.looks) two.ensures.header;
      fits = fits;
      seen = let seen = next.seen in omega (arith, more1, more2, more3, its_slot, seen);
    }

pub returns-clause-inserted : goal.returns-clause-inserted
returns-clause-inserted g c = λ next.
    let key = c.args.key.now in let one = c.seek-known in let two = c.header-header in let three = c.head-head in let round = c.args.round.now in let first : HeldKey Entry = next.first in let note = c.next-note in let is = c.requires.key.0 in
    let same : slot_in first.note ≡ note.result.slot = ap (λ (hs : List (HeldKey Entry)). slot_in (get_or hs 0 first).note) (sym next.is_first ∙ note.ensures.was) ∙ ap slot_in note.ensures.noted in
    let its_slot : slot three.result.now ≡ slot_in first.note = three.ensures.head.1 ∙ sym same in
    let its_block : c.number-block.result ≡ block_number first.label = c.number-block.ensures ∙ number_of_first round.number round.rest.keys.held first.label (labels_of next.others) (ap labels_of next.is_first) round.next in
    let by = c.insert in let seen = next.seen in let fits : c.number-block.result + 2 < 2 ^ 64 = search rules in
    let more1 = more_seen c.args.pass.now one.new.self one.ensures.looks in let more2 = more_seen one.new.self two.new.pass two.ensures.looks in let more3 = more_seen two.new.pass three.new.pass three.ensures.looks in
    let there : slot three.result.now < slots_seen three.new.pass = omega (arith, more1, more2, more3, its_slot, seen) in
    let knows2 = knows_still key one.new.self two.new.pass (knows_still key c.args.pass.now one.new.self is.knows one.ensures.looks) two.ensures.looks in
    inserted_before next.at c.args.pass.now three.new.pass by.new.key by.new.pass by.result
    (looks_twice c.args.pass.now two.new.pass three.new.pass (looks_twice c.args.pass.now one.new.self two.new.pass one.ensures.looks two.ensures.looks) three.ensures.looks)
    (subst (λ (t : ℕ × ℕ). (a : IsAtSlot key t.0 t.1 c.args.front) → InsertsAtSlot a three.new.pass by.new.key by.new.pass by.result) (λ i. (its_slot i, its_block i))
    (λ a. by.ensures.inserted (record { at = a; home = its_home key two.new.pass (slot three.result.now) c.number-block.result c.args.front two.result.now a (is.its ∙ sym one.ensures.looks.same.0 ∙ sym two.ensures.looks.same.0) knows2 two.ensures.header; fits = fits; seen = there })) next.at)
