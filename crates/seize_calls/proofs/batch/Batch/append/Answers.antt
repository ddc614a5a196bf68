use Rattle.std.proofs.Common.{◌≡◌, ℕ, ◌+◌, ◌<◌, ◌^◌, true, false, List, [], ◌++◌, sym, ap, subst, ◌∙◌}
use Rattle.seize_book.specs.Entry.{Entry}
use Rattle.seize_book.specs.Ledger.{HeldKey}
use Rattle.seize_book.specs.Linked.{are_joined}
use Rattle.seize_book.specs.Private.{labels_of}
use Rattle.seize_calls.specs.Numbered.{are_none, ends_at, is_count_of, starts_at}
use Rattle.seize_calls.proofs.Batches.{counted_append, none_counted, some_counted, some_is, starts_append, starts_number}
use Rattle.seize_calls.proofs.Chains.{append_closed, ends_append, joined_some}
use Rattle.seize_calls.proofs.batch.Batch.append.Goals.{then-empty, else-empty}
use Rattle.seize_calls.proofs.batch.Batch.append.Goals as goal

pub append-requires-clause-leads : goal.append-requires-clause-leads
append-requires-clause-leads g c =
    let other = c.args.other.now in
    joined_some c.lead_on.new.values.keys.held other.values.keys.held other.first c.lead_on.ensures.leads.3 (some_is other.len (labels_of other.values.keys.held) other.many c.if-other-eq0.false)
    (λ h rest is. starts_number other.first h.label (labels_of rest) (subst (λ (held : List (HeldKey Entry)). starts_at other.first (labels_of held) ≡ true) is other.front))

pub invariant_of-self : goal.invariant_of-self
invariant_of-self g c =
    let old = c.args.self.now in let other = c.args.other.now in let vs = labels_of old.values.keys.held in let ws = labels_of other.values.keys.held in
    let some : are_none ws ≡ false = some_is other.len ws other.many c.if-other-eq0.false in
    let all : labels_of c.append.new.self.keys.held ≡ vs ++ ws = c.append.ensures.1 ∙ ap (λ (us : List ℕ). us ++ ws) c.lead_on.ensures.leads.1 in
    let front : (starts_at c.if-empty.self (vs ++ ws) ≡ true) × (c.if-empty.self + 1 < 2 ^ 64) =
    elim c.if-empty.branch [
      | then-empty w ↦ subst (λ (n : ℕ). (starts_at n (vs ++ ws) ≡ true) × (n + 1 < 2 ^ 64)) (sym w.self-is)
          (subst (λ (us : List ℕ). starts_at other.first (us ++ ws) ≡ true) (sym (none_counted old.len vs old.many w.if-empty.true)) other.front, other.fits)
      | else-empty w ↦ subst (λ (n : ℕ). (starts_at n (vs ++ ws) ≡ true) × (n + 1 < 2 ^ 64)) (sym w.self-is)
          (starts_append old.first vs ws old.front (some_counted old.len vs old.many w.if-empty.false), old.fits)
    ] in
    record {
      many = subst (λ (us : List ℕ). is_count_of c.saturating_add-self.result us ≡ true) (sym all) (counted_append old.len other.len c.saturating_add-self.result vs ws old.many other.many c.saturating_add-self.ensures);
      front = subst (λ (us : List ℕ). starts_at c.if-empty.self us ≡ true) (sym all) front.0;
      back = subst (λ (us : List ℕ). ends_at other.last us ≡ true) (sym all) (ends_append other.last vs ws some other.back);
      closed = subst (λ (held : List (HeldKey Entry)). are_joined held [] ≡ true) (sym c.append.ensures.2) (append_closed c.lead_on.new.values.keys.held other.values.keys.held some other.closed);
      fits = front.1;
    }
