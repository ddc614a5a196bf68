use Rattle.std.proofs.Common.{◌≡◌, ℕ, true, List, [], sym, ap, subst, ◌∙◌}
use Rattle.seize_book.proofs.Facts.{still_closed}
use Rattle.seize_book.specs.Entry.{Entry}
use Rattle.seize_book.specs.Ledger.{HeldKey}
use Rattle.seize_book.specs.Linked.{are_joined}
use Rattle.seize_calls.specs.Numbered.{ends_at, word_of_first}
use Rattle.seize_calls.proofs.further.Further.hand.Goals as goal

pub invariant_of-self : goal.invariant_of-self
invariant_of-self c =
    let old = c.args.self.now in let keys = c.hand_with.ensures.keys in
    record {
      its_front = old.its_front ∙ ap word_of_first (sym keys.1);
      back = subst (λ (vs : List ℕ). ends_at old.last vs ≡ true) (sym keys.1) old.back;
      closed = subst (λ (held : List (HeldKey Entry)). are_joined held [] ≡ true) (sym keys.2) (still_closed old.values.keys.held c.hand_with.new.pass.seen ∙ old.closed);
    }
