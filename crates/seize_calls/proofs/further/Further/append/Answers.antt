use Rattle.std.proofs.Common.{◌≡◌, ℕ, suc, ◌-◌, true, false, List, [], ◌++◌, refl, sym, ap, subst, ◌∙◌, append-nil, arith}
use Rattle.seize_book.specs.Blocks.{block_number}
use Rattle.seize_book.specs.Entry.{Entry}
use Rattle.seize_book.specs.Ledger.{HeldKey}
use Rattle.seize_book.specs.Linked.{are_joined}
use Rattle.seize_book.specs.Private.{labels_of}
use Rattle.seize_book.specs.Tokens.{Name}
use Rattle.seize_book.specs.Values.{AllNew}
use Rattle.seize_calls.specs.Numbered.{are_none, ends_at, word_of_first}
use Rattle.seize_calls.proofs.Batches.{kepts}
use Rattle.seize_calls.proofs.Chains.{append_closed, joined_some, new_append, no_keys, none_all, some_word, word_append, ends_append, word_is}
use Rattle.seize_calls.proofs.further.Further.append.Goals.{then-empty, else-empty}
use Rattle.seize_calls.proofs.further.Further.append.Goals as goal

pub returns-then-other-eq0-clause-joins : goal.returns-then-other-eq0-clause-joins
returns-then-other-eq0-clause-joins g c =
    let own = c.args.self.now.values in let other = c.args.other.now in let none = no_keys other.values.keys.held (none_all (labels_of other.values.keys.held) (word_is other.front (labels_of other.values.keys.held) other.its_front c.if-other-eq0.true)) in
    record {
      book = refl;
      all = sym (ap (λ (held : List (HeldKey Entry)). labels_of own.keys.held ++ labels_of held) none ∙ append-nil (labels_of own.keys.held));
      kept = sym (ap (λ (held : List (HeldKey Entry)). kepts own.keys.held ++ kepts held) none ∙ append-nil (kepts own.keys.held));
    }

pub append-requires-clause-leads : goal.append-requires-clause-leads
append-requires-clause-leads g c =
    let led = c.lead_on.new.values in let other = c.args.other.now in
    joined_some led.keys.held other.values.keys.held (other.front - 1) c.lead_on.ensures.leads.3 (some_word other.front (labels_of other.values.keys.held) other.its_front c.if-other-eq0.false)
    (λ h rest is. number other.front (block_number h.label) (other.its_front ∙ ap (λ (held : List (HeldKey Entry)). word_of_first (labels_of held)) is))
  where
    number : (a b : ℕ) → a ≡ suc b → b ≡ a - 1
    number a b is = omega (arith, is)

pub invariant_of-self : goal.invariant_of-self
invariant_of-self g c =
    let old = c.args.self.now in let other = c.args.other.now in let vs = labels_of old.values.keys.held in let ws = labels_of other.values.keys.held in
    let some : are_none ws ≡ false = some_word other.front ws other.its_front c.if-other-eq0.false in
    let all : labels_of c.append.new.self.keys.held ≡ vs ++ ws = c.append.ensures.1 ∙ ap (λ (us : List ℕ). us ++ ws) c.lead_on.ensures.leads.1 in
    let front : c.if-empty.self ≡ word_of_first (vs ++ ws) =
    elim c.if-empty.branch [
      | then-empty w ↦ w.self-is ∙ (other.its_front ∙ ap (λ (us : List ℕ). word_of_first (us ++ ws)) (sym (none_all vs (word_is old.front vs old.its_front w.if-empty.true))))
      | else-empty w ↦ w.self-is ∙ (old.its_front ∙ sym (word_append vs ws (some_word old.front vs old.its_front w.if-empty.false)))
    ] in
    record {
      its_front = front ∙ ap word_of_first (sym all);
      back = subst (λ (us : List ℕ). ends_at other.last us ≡ true) (sym all) (ends_append other.last vs ws some other.back);
      closed = subst (λ (held : List (HeldKey Entry)). are_joined held [] ≡ true) (sym c.append.ensures.2)
          (append_closed c.lead_on.new.values.keys.held other.values.keys.held some (other.closed));
    }

pub returns-then-other-eq0-clause-emptied : goal.returns-then-other-eq0-clause-emptied
returns-then-other-eq0-clause-emptied g c =
    let other = c.args.other.now in (refl, none_all (labels_of other.values.keys.held) (word_is other.front (labels_of other.values.keys.held) other.its_front c.if-other-eq0.true))

pub returns-then-other-eq0-clause-new : goal.returns-then-other-eq0-clause-new
returns-then-other-eq0-clause-new g c = λ one two. (one, two)

pub returns-clause-new : goal.returns-clause-new
returns-clause-new g c = λ one two.
    let led = c.lead_on.new.values in let other = c.args.other.now.values in (
      subst (λ (t : Name × List (HeldKey Entry)). AllNew t.0 t.1) (λ j. (sym c.append.ensures.0 j, sym c.append.ensures.2 j))
          (new_append led.keys.name led.keys.held other.keys.held (c.lead_on.ensures.new one)
          (subst (λ (n : Name). AllNew n other.keys.held) (c.requires.book.1 ∙ sym c.requires.book.0 ∙ sym c.lead_on.ensures.leads.0) two)),
      subst (λ (held : List (HeldKey Entry)). AllNew c.append.new.other.keys.name held) (sym c.append.ensures.4) tt,
    )

pub returns-clause-emptied : goal.returns-clause-emptied
returns-clause-emptied g c = (c.append.ensures.3, ap labels_of c.append.ensures.4)
