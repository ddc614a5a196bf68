use Rattle.std.proofs.Common.{◌≡◌, ℕ, ◌-◌, true, List, [], sym, ap, subst, ◌∙◌}
use base.Stored.{Gv}
use Rattle.seize_book.specs.Entry.{Entry}
use Rattle.seize_book.specs.Ledger.{HeldKey}
use Rattle.seize_book.specs.Linked.{are_joined, next_in}
use Rattle.seize_book.specs.Loans.{cell_of}
use Rattle.seize_book.specs.Private.{label_of, labels_of, note_of}
use Rattle.seize_calls.specs.Numbered.{starts_at}
use Rattle.seize_calls.proofs.Rounds.{first_label, leads_past, leads_to, next_starts, number_of_first}
use Rattle.seize_words.proofs.Facts.{noted_one, others_closed, named_seen}
use Rattle.seize_calls.proofs.round.Round.mark.Goals as goal

-- the header is that of the first value's block
pub note-note-requires : goal.note-note-requires
note-note-requires g c =
    let round = c.args.self.now in let next = c.requires.next in let looked = c.header-header in let v = next.0 in
    let number = sym (number_of_first round.number round.rest.keys.held v next.1 next.2 round.next) in
    record {
      cell =
          sym (looked.ensures.header.2 v (named_seen c.args.pass.now looked.new.pass v looked.ensures.looks next.3) number)
          ∙ ap cell_of (sym (first_label round.rest.keys.held c.next-value.result.keys.held c.next-value.new.self.keys.held v next.1 c.next-value.result.one next.2 c.next-value.ensures.3));
    }

pub set_note-requires : goal.set_note-requires
set_note-requires g c =
    let round = c.args.self.now in let next = c.requires.next in let looked = c.header-header in let v = next.0 in
    let number = sym (number_of_first round.number round.rest.keys.held v next.1 next.2 round.next) in
    record {
      cell =
          sym (looked.ensures.header.2 v (named_seen c.args.pass.now looked.new.pass v looked.ensures.looks next.3) number)
          ∙ ap cell_of (sym (first_label round.rest.keys.held c.next-value.result.keys.held c.next-value.new.self.keys.held v next.1 c.next-value.result.one next.2 c.next-value.ensures.3))
          ∙ ap (λ (held : List (HeldKey Entry)). cell_of (label_of held)) (sym c.note-note.ensures.same.1);
    }

pub push-requires-clause-leads : goal.push-requires-clause-leads
push-requires-clause-leads g c =
    let round = c.args.self.now in let value = c.next-value.result in let seen = c.note-note.new.self in
    leads_to round.done.keys.held round.rest.keys.held value.keys.held c.set_note.new.self.keys.held c.next-value.new.self.keys.held value.one c.set_note.new.self.one
    (ap label_of c.set_note.ensures.1 ∙ (noted_one seen.keys.held _ seen.one).1 ∙ ap label_of c.note-note.ensures.same.1) c.next-value.ensures.3 round.leads

pub invariant_of-self : goal.invariant_of-self
invariant_of-self g c =
    let round = c.args.self.now in let value = c.next-value.result in let seen = c.note-note.new.self in let rest = c.next-value.new.self in let done = c.push.new.self in let blocks = c.args.blocks.now in
    let noted = ap note_of c.set_note.ensures.1 ∙ (noted_one seen.keys.held _ seen.one).2 in
    record {
      one_book = c.next-value.ensures.0 ∙ round.one_book ∙ sym c.push.ensures.0;
      next = subst (λ (n : ℕ). starts_at n (labels_of rest.keys.held) ≡ true) (sym c.saturating_sub-self.ensures)
          (subst (λ (g : Gv). starts_at (next_in g - 1) (labels_of rest.keys.held) ≡ true) (sym c.note-note.ensures.note)
          (next_starts round.rest.keys.held value.keys.held rest.keys.held
          value.one c.next-value.ensures.3 round.rest.linked round.closed));
      leads = subst (λ (held : List (HeldKey Entry)). are_joined held rest.keys.held ≡ true) (sym c.push.ensures.2)
          (leads_past round.done.keys.held round.rest.keys.held value.keys.held c.set_note.new.self.keys.held rest.keys.held value.one c.set_note.new.self.one
          (ap next_in noted ∙ ap next_in c.note-note.ensures.note) c.next-value.ensures.3 round.rest.linked round.closed);
      closed = (others_closed value.keys.held rest.keys.held value.one
          (subst (λ (held : List (HeldKey Entry)). are_joined held [] ≡ true) c.next-value.ensures.3 round.closed));
    }
