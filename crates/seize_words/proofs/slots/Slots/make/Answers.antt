use Rattle.std.proofs.Common.{◌≡◌, ℕ, List, [], ◌∷◌, ◌++◌, length, sym, ap, subst, ◌∙◌, arith}
use Rattle.seize_machine.specs.Machine.Event.{Take}
use Rattle.seize_book.specs.Adding.{private}
use Rattle.seize_book.specs.Book.{after, by_slot, numbers}
use Rattle.seize_book.specs.Entry.{Entry, Made}
use Rattle.seize_book.specs.Private.{own_of}
use Rattle.seize_book.specs.Slots.{acts_of}
use Rattle.seize_book.specs.Tokens.{AddsEntry, Name, start}
use Rattle.seize_book.specs.declared.book.slot_key.SlotKey.{SlotKey}
use Rattle.seize_book.proofs.Facts.{after_one}
use Rattle.seize_words.proofs.slots.Slots.make.Goals as goal

-- the key of the slot that comes next knows the same where it says that the head lies in the table
pub returns-clause-made : goal.returns-clause-made
returns-clause-made c =
    let number = c.args.numbers.now in let like = c.place.ensures.0 in let m = c.add-keys.ensures.made in let pass = c.args.pass.now in let pass' = c.add-keys.new.pass in
    let made =
    subst (λ (x : Name × (ℕ × List Entry)). (noted : AddsEntry pass.name pass.id pass.seen pass'.seen (Made (private pass (Take x.1.0))))
    × (acts_of c.add-keys.new.key ≡ by_slot (start x.0) x.1.0 x.1.1 ++ (Made (private pass (Take x.1.0)), noted.answer) ∷ []))
    (λ j. (like.0 j, (like.1 j, like.2 j))) (m.noted, m.acts) in
    record {
      made = record {
        same = m.same;
        noted = made.0;
        acts = made.1;
        seen_by = (m.seen_by.0 ∙ like.0, m.seen_by.1 ∙ like.1, m.seen_by.2);
        follows = m.follows;
        idle = m.idle;
        inactive = m.inactive;
        next = m.next;
        rest = m.rest;
      };
      number = search;
      seen =
          sym (ap (λ (t : Name × List Entry). length (after (start t.0) t.1).slots)
          (λ j. ((m.follows.0 ∙ c.requires.book.1 ∙ sym m.same.0) j, (ap own_of m.follows.1 ∙ (after_one numbers number.keys.held pass'.seen number.one).1) j)));
      comes = (
        (let its = c.new-2.ensures.0 in let more = m.next.0 in let next = c.requires.next.1 in omega (arith, its, more, next)),
        ap (λ (k : SlotKey). k.keys.name) c.new-2.ensures.1 ∙ c.add-keys.ensures.next.book.0 ∙ m.same.0 ∙ sym c.requires.book.1 ∙ sym m.follows.0,
      );
    }
