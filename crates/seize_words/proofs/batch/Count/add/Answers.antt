use Rattle.std.proofs.Common.{List, subst, ◌==◌, not, [], sym, refl, ◌∙◌, ap}
use Rattle.seize_book.proofs.Bounds.{size_itself}
use Rattle.seize_book.proofs.Facts.{equal}
use Rattle.seize_machine.specs.Machine.Event.{AddCount}
use Rattle.seize_words.specs.Atomic.{plus}
use Rattle.seize_book.specs.Book.{after}
use Rattle.seize_words.specs.Counts.{home, values_in}
use Rattle.seize_book.specs.Others.{IsLastIn}
use Rattle.seize_book.specs.Private.{key_of, own_of, are_of_blocks, labels_of}
use Rattle.seize_book.specs.Tokens.{Name, start}
use Rattle.seize_book.specs.declared.book.slot_key.SlotKey.{SlotKey}
use Rattle.seize_words.proofs.Counting.{may_add_count}
use Rattle.seize_book.specs.Entry.{Entry}
use Rattle.seize_book.specs.Ledger.{HeldKey}
use Rattle.seize_book.specs.Linked.{are_joined, are_linked}
use Rattle.seize_words.proofs.Counted.{above_zero, closed_still, still_linked, added, adding_in, all_last, counts_so, gives_so, in_pass, joined_may, joined_step, labels_stay, left_with, of_those, still_blocks}
use Rattle.seize_words.proofs.batch.Count.add.Goals as goal

pub add-old-requires : goal.add-old-requires
add-old-requires c =
    let count = c.args.self.now in let key = c.args.key.now in let pass = c.args.pass.now in let held = key.keys.held in let values = c.args.values.now in let book = c.requires.book in let s = key_of held in
    let adds = adding_in key.keys.name pass.name s (own_of held) (home count) c.args.won book.0 c.requires.adds.0 in
    let these = in_pass key.keys.name pass.name (own_of held) adds.batch book.0 in
    let may = may_add_count pass.name (home count) pass.id pass.size c.args.won pass.seen held values.keys.held key.one adds (c.requires.adds.1 ∙ these, values.each, ap (λ (n : Name). are_linked values.keys.held) (sym c.requires.book.2) ∙ values.linked, ap (λ (n : Name). are_joined values.keys.held []) (sym c.requires.book.2) ∙ c.requires.adds.2)
    (c.requires.told) in (
      book.1,
      c.join.ensures.0 ∙ book.0,
      joined_may count.word key values.keys.held c.join.new.self.held pass (plus c.args.won) (λ s. AddCount s) (λ v. not (plus c.args.won v == 0)) book.1 count.count c.join.ensures.2 may,
      λ v log. size_itself pass.size,
    )

pub invariant_of-values : goal.invariant_of-values
invariant_of-values c =
    let count = c.args.self.now in let key = c.args.key.now in let pass = c.args.pass.now in let pass' = c.add-old.new.pass in let keys' = c.add-old.new.keys in let v = c.add-old.result in let values = c.args.values.now in let won = c.args.won in
    let step = joined_step count.word key values.keys.held c.join.new.self.held keys'.held pass pass' (plus won) v (λ s. AddCount s) (λ v. not (plus won v == 0)) c.requires.book.1 count.count c.join.ensures.2 c.add-old.ensures.2 in
    let adds = adding_in key.keys.name pass.name (key_of key.keys.held) (own_of key.keys.held) (home count) won c.requires.book.0 c.requires.adds.0 in
    let left = c.part.ensures.3 ∙ left_with (home count) won key values.keys.held keys'.held pass pass' v step adds in
    let name = c.part.ensures.1 ∙ c.add-old.ensures.1 ∙ c.join.ensures.0 ∙ c.requires.book.0 ∙ sym c.requires.book.2 in
    record {
      each = ap are_of_blocks left ∙ still_blocks (plus won v == 0) values.keys.held pass'.seen values.each;
      linked =
          ap (λ (t : Name × List (HeldKey Entry)). are_linked t.1) (λ j. (name j, left j))
          ∙ still_linked (plus won v == 0) values.keys.held pass'.seen values.linked;
    }

pub returns-clause-counts : goal.returns-clause-counts
returns-clause-counts c =
    let count = c.args.self.now in let key = c.args.key.now in let pass = c.args.pass.now in let pass' = c.add-old.new.pass in let keys' = c.add-old.new.keys in let v = c.add-old.result in let values = c.args.values.now in let won = c.args.won in let k = home count in
    let step = joined_step count.word key values.keys.held c.join.new.self.held keys'.held pass pass' (plus won) v (λ s. AddCount s) (λ v. not (plus won v == 0)) c.requires.book.1 count.count c.join.ensures.2 c.add-old.ensures.2 in
    let adds = adding_in key.keys.name pass.name (key_of key.keys.held) (own_of key.keys.held) k won c.requires.book.0 c.requires.adds.0 in
    counts_so k key _ values.keys.held keys'.held pass pass' (plus won) v (AddCount (key_of key.keys.held)) (λ v. not (plus won v == 0)) adds.batch [] adds.queue step c.add-old.ensures.0
    (c.part.ensures.0 ∙ c.add-old.ensures.1 ∙ c.join.ensures.0) c.part.ensures.2 c.requires.book.0 (added k won key values.keys.held keys'.held pass pass' v (λ v. not (plus won v == 0)) step adds) (equal (key_of key.keys.held) (key_of key.keys.held) refl) _ refl

pub returns-clause-gives : goal.returns-clause-gives
returns-clause-gives c adds_ =
    let count = c.args.self.now in let key = c.args.key.now in let pass = c.args.pass.now in let pass' = c.add-old.new.pass in let keys' = c.add-old.new.keys in let v = c.add-old.result in let values = c.args.values.now in let won = c.args.won in let k = home count in
    let step = joined_step count.word key values.keys.held c.join.new.self.held keys'.held pass pass' (plus won) v (λ s. AddCount s) (λ v. not (plus won v == 0)) c.requires.book.1 count.count c.join.ensures.2 c.add-old.ensures.2 in
    let adds = adding_in key.keys.name pass.name (key_of key.keys.held) (own_of key.keys.held) k won c.requires.book.0 adds_ in
    gives_so k key (record { keys = c.part.new.self; one = c.key-1.given.0 }) values.keys.held keys'.held pass pass' (plus won) v (AddCount (key_of key.keys.held)) (λ v. not (plus won v == 0)) adds.batch [] adds.queue step c.add-old.ensures.0
    (c.part.ensures.0 ∙ c.add-old.ensures.1 ∙ c.join.ensures.0) c.part.ensures.2 c.requires.book.0 (added k won key values.keys.held keys'.held pass pass' v (λ v. not (plus won v == 0)) step adds) (equal (key_of key.keys.held) (key_of key.keys.held) refl) _ refl

pub returns-clause-under_guard : goal.returns-clause-under_guard
returns-clause-under_guard c active =
    let count = c.args.self.now in let key = c.args.key.now in let pass = c.args.pass.now in let pass' = c.add-old.new.pass in let keys' = c.add-old.new.keys in let v = c.add-old.result in let values = c.args.values.now in let won = c.args.won in
    let step = joined_step count.word key values.keys.held c.join.new.self.held keys'.held pass pass' (plus won) v (λ s. AddCount s) (λ v. not (plus won v == 0)) c.requires.book.1 count.count c.join.ensures.2 c.add-old.ensures.2 in
    let adds = adding_in key.keys.name pass.name (key_of key.keys.held) (own_of key.keys.held) (home count) won c.requires.book.0 c.requires.adds.0 in
    above_zero (home count) won key values.keys.held keys'.held pass pass' v (λ v. not (plus won v == 0)) step adds c.requires.book.0 active

pub returns-clause-keys : goal.returns-clause-keys
returns-clause-keys c =
    let count = c.args.self.now in let key = c.args.key.now in let pass = c.args.pass.now in let pass' = c.add-old.new.pass in let keys' = c.add-old.new.keys in let v = c.add-old.result in let values = c.args.values.now in let won = c.args.won in let k = home count in
    let step = joined_step count.word key values.keys.held c.join.new.self.held keys'.held pass pass' (plus won) v (λ s. AddCount s) (λ v. not (plus won v == 0)) c.requires.book.1 count.count c.join.ensures.2 c.add-old.ensures.2 in
    let adds = adding_in key.keys.name pass.name (key_of key.keys.held) (own_of key.keys.held) k won c.requires.book.0 c.requires.adds.0 in
    let key' : SlotKey = record { keys = c.part.new.self; one = c.key-1.given.0 } in let left = c.part.ensures.3 ∙ left_with k won key values.keys.held keys'.held pass pass' v step adds in
    let labels = ap labels_of left ∙ labels_stay (plus won v == 0) values.keys.held (values_in key adds.batch) pass'.seen c.requires.adds.1 in (
      c.part.ensures.1 ∙ c.add-old.ensures.1 ∙ c.join.ensures.0 ∙ c.requires.book.0 ∙ sym c.add-old.ensures.0.0,
      left,
      of_those (λ u. IsLastIn u (after (start pass'.name) pass'.seen)) (values_in key adds.batch) (plus won v == 0) _ labels (λ u among. subst (λ (n : Name). IsLastIn u (after (start n) pass'.seen)) (sym c.add-old.ensures.0.0)
          (all_last k key key' values.keys.held keys'.held pass pass' (plus won) v (AddCount (key_of key.keys.held)) (λ v. not (plus won v == 0)) adds.batch [] adds.queue step c.add-old.ensures.0
          (c.part.ensures.0 ∙ c.add-old.ensures.1 ∙ c.join.ensures.0) c.part.ensures.2 c.requires.book.0 (added k won key values.keys.held keys'.held pass pass' v (λ v. not (plus won v == 0)) step adds) u among)),
      ap (λ (t : Name × List (HeldKey Entry)). are_joined t.1 []) (λ j. ((c.part.ensures.1 ∙ c.add-old.ensures.1 ∙ c.join.ensures.0 ∙ c.requires.book.0 ∙ sym c.requires.book.2) j, left j))
          ∙ closed_still (plus won v == 0) values.keys.held pass'.seen c.requires.adds.2,
    )
