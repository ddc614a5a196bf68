use Rattle.std.proofs.Common.{ℕ, ◌==◌, Bool, if◌then◌else◌, List, [], refl, sym, ◌∙◌, ap, subst, append-nil}
use Rattle.seize_book.proofs.Bounds.{size_itself}
use Rattle.seize_book.proofs.Facts.{equal}
use Rattle.seize_machine.specs.Machine.Event.{SubCount}
use Rattle.seize_words.specs.Atomic.{minus}
use Rattle.seize_book.specs.Book.{after}
use Rattle.seize_words.specs.Counts.{home, values_in}
use Rattle.seize_book.specs.Others.{IsLastIn}
use Rattle.seize_book.specs.Private.{key_of, own_of, are_of_blocks, labels_of}
use Rattle.seize_book.specs.Tokens.{Name, start}
use Rattle.seize_book.specs.declared.book.slot_key.SlotKey.{SlotKey}
use Rattle.seize_words.proofs.Counting.{may_subtract_count}
use Rattle.seize_book.specs.Entry.{Entry}
use Rattle.seize_book.specs.Ledger.{HeldKey}
use Rattle.seize_book.specs.Kept.{AreToldIn}
use Rattle.seize_book.specs.Linked.{are_joined, are_linked}
use Rattle.seize_words.proofs.Counted.{all_told, all_closed, all_linked, all_blocks, all_last, counts_so, gives_so, joined_may, joined_step, labels_are, of_those, others_are, renewed_twice, subtracted, values_known, walking_in, was_one}
use Rattle.seize_words.proofs.batch.Count.subtract.Goals as goal

pub subtract-old-requires : goal.subtract-old-requires
subtract-old-requires c =
    let count = c.args.self.now in let key = c.args.key.now in let pass = c.args.pass.now in let held = key.keys.held in let book = c.requires.book in
    let walks = walking_in key.keys.name pass.name (key_of held) (own_of held) (home count) book.0 c.requires.walks in (
      book.1,
      book.0,
      joined_may count.word key [] held pass (minus 1) (λ s. SubCount s) (λ v. minus 1 v == 0) book.1 count.count (sym (append-nil held))
          (may_subtract_count pass.name (home count) pass.id pass.size pass.seen held key.one walks),
      λ v log. size_itself pass.size,
    )

pub invariant_of-values : goal.invariant_of-values
invariant_of-values c =
    let count = c.args.self.now in let key = c.args.key.now in let pass = c.args.pass.now in let pass' = c.subtract-old.new.pass in let keys' = c.subtract-old.new.keys in let v = c.subtract-old.result in let held = key.keys.held in
    let step = joined_step count.word key [] held keys'.held pass pass' (minus 1) v (λ s. SubCount s) (λ v. minus 1 v == 0) c.requires.book.1 count.count (sym (append-nil held)) c.subtract-old.ensures.2 in
    let walks = walking_in key.keys.name pass.name (key_of held) (own_of held) (home count) c.requires.book.0 c.requires.walks in
    record {
      each = ap are_of_blocks c.part.ensures.3 ∙ all_blocks (home count) key keys'.held pass pass' v step walks c.requires.book.0;
      linked =
          ap (λ (t : Name × List (HeldKey Entry)). are_linked t.1) (λ j. ((c.part.ensures.1 ∙ c.subtract-old.ensures.1 ∙ c.requires.book.0) j, c.part.ensures.3 j))
          ∙ all_linked (home count) key keys'.held pass pass' v step walks c.requires.book.0;
    }

pub returns-clause-counts : goal.returns-clause-counts
returns-clause-counts c =
    let count = c.args.self.now in let key = c.args.key.now in let pass = c.args.pass.now in let pass' = c.subtract-old.new.pass in let keys' = c.subtract-old.new.keys in let v = c.subtract-old.result in let held = key.keys.held in let k = home count in
    let step = joined_step count.word key [] held keys'.held pass pass' (minus 1) v (λ s. SubCount s) (λ v. minus 1 v == 0) c.requires.book.1 count.count (sym (append-nil held)) c.subtract-old.ensures.2 in
    let walks = walking_in key.keys.name pass.name (key_of held) (own_of held) k c.requires.book.0 c.requires.walks in
    counts_so k key _ [] keys'.held pass pass' (minus 1) v (SubCount (key_of held)) (λ v. minus 1 v == 0) walks.batch walks.walk walks.queue step c.subtract-old.ensures.0
    (c.part.ensures.0 ∙ c.subtract-old.ensures.1) c.part.ensures.2 c.requires.book.0 (subtracted k key [] keys'.held pass pass' v (λ v. minus 1 v == 0) step walks) (equal (key_of held) (key_of held) refl) _ (was_one v c.subtract-old.type_inv)

pub returns-clause-gives : goal.returns-clause-gives
returns-clause-gives c walks_ =
    let count = c.args.self.now in let key = c.args.key.now in let pass = c.args.pass.now in let pass' = c.subtract-old.new.pass in let keys' = c.subtract-old.new.keys in let v = c.subtract-old.result in let held = key.keys.held in let k = home count in
    let step = joined_step count.word key [] held keys'.held pass pass' (minus 1) v (λ s. SubCount s) (λ v. minus 1 v == 0) c.requires.book.1 count.count (sym (append-nil held)) c.subtract-old.ensures.2 in
    let walks = walking_in key.keys.name pass.name (key_of held) (own_of held) k c.requires.book.0 walks_ in
    gives_so k key (record { keys = c.part.new.self; one = c.key-1.given.0 }) [] keys'.held pass pass' (minus 1) v (SubCount (key_of held)) (λ v. minus 1 v == 0) walks.batch walks.walk walks.queue step c.subtract-old.ensures.0
    (c.part.ensures.0 ∙ c.subtract-old.ensures.1) c.part.ensures.2 c.requires.book.0 (subtracted k key [] keys'.held pass pass' v (λ v. minus 1 v == 0) step walks) (equal (key_of held) (key_of held) refl) _ (was_one v c.subtract-old.type_inv)

-- in the pass's book, and with whether the count came to 0 as the call tells it
pub returns-clause-keys : goal.returns-clause-keys
returns-clause-keys c walks_ =
    let count = c.args.self.now in let key = c.args.key.now in let pass = c.args.pass.now in let pass' = c.subtract-old.new.pass in let keys' = c.subtract-old.new.keys in let v = c.subtract-old.result in let held = key.keys.held in let k = home count in
    let step = joined_step count.word key [] held keys'.held pass pass' (minus 1) v (λ s. SubCount s) (λ v. minus 1 v == 0) c.requires.book.1 count.count (sym (append-nil held)) c.subtract-old.ensures.2 in
    let walks = walking_in key.keys.name pass.name (key_of held) (own_of held) k c.requires.book.0 walks_ in
    let counting = subtracted k key [] keys'.held pass pass' v (λ v. minus 1 v == 0) step walks in let name = c.part.ensures.0 ∙ c.subtract-old.ensures.1 in
    let key' : SlotKey = record { keys = c.part.new.self; one = c.key-1.given.0 } in
    let known = values_known k key key' [] keys'.held pass pass' (minus 1) v (SubCount (key_of held)) (λ v. minus 1 v == 0) walks.batch walks.walk walks.queue step c.subtract-old.ensures.0 name c.part.ensures.2 c.requires.book.0 counting in
    let zero = was_one v c.subtract-old.type_inv in
    let labels = ap labels_of c.part.ensures.3 ∙ labels_are k key keys'.held pass pass' v step walks c.requires.book.0 in
    let all = labels ∙ ap (λ (t : Bool × List ℕ). if t.0 then t.1 else []) (λ i. (sym zero i, known i)) in (
      c.part.ensures.1 ∙ c.subtract-old.ensures.1 ∙ c.requires.book.0 ∙ sym c.subtract-old.ensures.0.0,
      renewed_twice (minus 1 v == 0) step.since.1 c.part.new.other.held pass'.seen (c.part.ensures.3 ∙ others_are k key keys'.held pass pass' v step walks c.requires.book.0),
      all,
      of_those (λ u. IsLastIn u (after (start pass'.name) pass'.seen)) (values_in key walks.batch) (v == 1) _ all (λ u among. subst (λ (n : Name). IsLastIn u (after (start n) pass'.seen)) (sym c.subtract-old.ensures.0.0)
          (all_last k key key' [] keys'.held pass pass' (minus 1) v (SubCount (key_of held)) (λ v. minus 1 v == 0) walks.batch walks.walk walks.queue step c.subtract-old.ensures.0 name c.part.ensures.2 c.requires.book.0 counting u among)),
      ap (λ (t : Name × List (HeldKey Entry)). are_joined t.1 []) (λ j. ((c.part.ensures.1 ∙ c.subtract-old.ensures.1 ∙ c.requires.book.0) j, c.part.ensures.3 j))
          ∙ all_closed k key keys'.held pass pass' v step walks c.requires.book.0,
      subst (λ (t : Name × List (HeldKey Entry)). AreToldIn pass'.seen t.1) (λ j. (sym (c.part.ensures.1 ∙ c.subtract-old.ensures.1 ∙ c.requires.book.0) j, sym c.part.ensures.3 j))
          (all_told k key keys'.held pass pass' v step walks c.requires.book.0),
    )
