use Rattle.std.proofs.Common.{◌≡◌, ℕ, suc, ◌+◌, true, List, [], ◌∷◌, ◌++◌, sym, ap, subst, ◌∙◌, arith}
use Rattle.seize_book.specs.Blocks.{block_number}
use Rattle.seize_book.specs.Others.{value_of}
use Rattle.seize_book.specs.Private.{labels_of}
use Rattle.seize_calls.specs.Numbered.{ends_at, word_of_first}
use Rattle.seize_calls.proofs.Batches.{last_ends}
use Rattle.seize_calls.proofs.Chains.{is_new, none_all, some_word, word_append, word_is}
use Rattle.seize_calls.proofs.further.Further.put.Goals.{then-empty, else-empty}
use Rattle.seize_calls.proofs.further.Further.put.Goals as goal

pub invariant_of-self : goal.invariant_of-self
invariant_of-self g c =
    let old = c.args.self.now in let vs = labels_of old.values.keys.held in let v = value_of c.args.value in let number = c.requires.value.0.2 in
    let all : labels_of c.join.new.values.keys.held ≡ vs ++ v ∷ [] = c.join.ensures.pushes.1 in
    let one_more : (a b : ℕ) → b ≡ a → a + 1 ≡ suc b = λ a b same. omega (arith, same) in
    let front : c.if-empty.self ≡ word_of_first (vs ++ v ∷ []) =
    elim c.if-empty.branch [
      | then-empty w ↦ w.self-is ∙ (one_more c.args.number (block_number v) number ∙ ap (λ (ws : List ℕ). word_of_first (ws ++ v ∷ [])) (sym (none_all vs (word_is old.front vs old.its_front w.if-empty.true))))
      | else-empty w ↦ w.self-is ∙ (old.its_front ∙ sym (word_append vs (v ∷ []) (some_word old.front vs old.its_front w.if-empty.false)))
    ] in
    record {
      its_front = front ∙ ap word_of_first (sym all);
      back = subst (λ (ws : List ℕ). ends_at c.args.number ws ≡ true) (sym all) (last_ends c.args.number vs v number);
      closed = c.join.ensures.closed;
    }

pub returns-clause-new : goal.returns-clause-new
returns-clause-new g c = c.join.ensures.new c.requires.new (is_new c.args.value c.args.number c.requires.value.0 c.requires.value.1)
