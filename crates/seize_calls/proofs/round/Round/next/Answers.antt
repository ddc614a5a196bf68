use Rattle.std.proofs.Common.{◌≡◌, ℕ, ◌-◌, true, List, [], sym, ap, subst, ◌∙◌}
use base.Stored.{Gv}
use Rattle.seize_book.specs.Entry.{Entry}
use Rattle.seize_book.specs.Ledger.{HeldKey}
use Rattle.seize_book.specs.Linked.{are_joined, next_in}
use Rattle.seize_book.specs.Private.{is_one, label_of, note_of}
use Rattle.seize_calls.proofs.Rounds.{leads_past, leads_to, next_starts}
use Rattle.seize_words.proofs.Facts.{others_closed}
use Rattle.seize_calls.proofs.round.Round.next.Goals as goal

pub push-requires-clause-leads : goal.push-requires-clause-leads
push-requires-clause-leads c =
    let round = c.args.self.now in let value = c.next-value.result in let seen = c.note-note.new.self in
    leads_to round.done.keys.held round.rest.keys.held value.keys.held seen.keys.held c.next-value.new.self.keys.held value.one seen.one (ap label_of c.note-note.ensures.same.1) c.next-value.ensures.3 round.leads

pub invariant_of-self : goal.invariant_of-self
invariant_of-self c =
    let round = c.args.self.now in let value = c.next-value.result in let seen = c.note-note.new.self in let rest = c.next-value.new.self in let done = c.push.new.self in
    record {
      one_book = c.next-value.ensures.0 ∙ round.one_book ∙ sym c.push.ensures.0;
      next = subst (λ (n : ℕ). Rattle.seize_calls.specs.Numbered.starts_at n (Rattle.seize_book.specs.Private.labels_of rest.keys.held) ≡ true) (sym c.saturating_sub-self.ensures)
          (subst (λ (g : Gv). Rattle.seize_calls.specs.Numbered.starts_at (next_in g - 1) (Rattle.seize_book.specs.Private.labels_of rest.keys.held) ≡ true) (sym c.note-note.ensures.note)
          (next_starts round.rest.keys.held value.keys.held rest.keys.held value.one c.next-value.ensures.3 round.rest.linked round.closed));
      leads = subst (λ (held : List (HeldKey Entry)). are_joined held rest.keys.held ≡ true) (sym c.push.ensures.2)
          (leads_past round.done.keys.held round.rest.keys.held value.keys.held seen.keys.held rest.keys.held value.one seen.one (ap (λ (held : List (HeldKey Entry)). next_in (note_of held)) c.note-note.ensures.same.1) c.next-value.ensures.3 round.rest.linked round.closed);
      closed = (others_closed value.keys.held rest.keys.held value.one
          (subst (λ (held : List (HeldKey Entry)). are_joined held [] ≡ true) c.next-value.ensures.3 round.closed));
    }
