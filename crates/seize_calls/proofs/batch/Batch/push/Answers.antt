use Rattle.std.proofs.Common.{◌≡◌, ℕ, ◌+◌, ◌<◌, ◌^◌, arith, true, List, [], ◌∷◌, ◌++◌, sym, subst}
use Rattle.seize_book.specs.Others.{value_of}
use Rattle.seize_book.specs.Private.{labels_of}
use Rattle.seize_calls.specs.Numbered.{ends_at, is_count_of, starts_at}
use Rattle.seize_calls.proofs.Batches.{counted_push, last_ends, none_counted, some_counted, starts_append}
use Rattle.seize_calls.proofs.batch.Batch.push.Goals.{then-empty, else-empty}
use Rattle.seize_calls.proofs.batch.Batch.push.Goals as goal

pub invariant_of-self : goal.invariant_of-self
invariant_of-self g c =
    let batch = c.args.self.now in let vs = labels_of batch.values.keys.held in let v = value_of c.args.newcomer.value in let number = c.args.newcomer.its in
    let all : labels_of c.join.new.values.keys.held ≡ vs ++ v ∷ [] = c.join.ensures.pushes.1 in
    let fits : c.args.newcomer.number + 2 < 2 ^ 64 = c.join.ensures.fits in
    let front : (starts_at c.if-empty.self (vs ++ v ∷ []) ≡ true) × (c.if-empty.self + 1 < 2 ^ 64) =
    elim c.if-empty.branch [
      | then-empty w ↦ subst (λ (n : ℕ). (starts_at n (vs ++ v ∷ []) ≡ true) × (n + 1 < 2 ^ 64)) (sym w.self-is)
          (subst (λ (ws : List ℕ). starts_at c.args.newcomer.number (ws ++ v ∷ []) ≡ true) (sym (none_counted batch.len vs batch.many w.if-empty.true)) (last_ends c.args.newcomer.number [] v number), omega (arith, fits))
      | else-empty w ↦ subst (λ (n : ℕ). (starts_at n (vs ++ v ∷ []) ≡ true) × (n + 1 < 2 ^ 64)) (sym w.self-is)
          (starts_append batch.first vs (v ∷ []) batch.front (some_counted batch.len vs batch.many w.if-empty.false), batch.fits)
    ] in
    record {
      many = subst (λ (ws : List ℕ). is_count_of c.saturating_add-self.result ws ≡ true) (sym all) (counted_push batch.len c.saturating_add-self.result vs v batch.many c.saturating_add-self.ensures);
      front = subst (λ (ws : List ℕ). starts_at c.if-empty.self ws ≡ true) (sym all) front.0;
      back = subst (λ (ws : List ℕ). ends_at c.args.newcomer.number ws ≡ true) (sym all) (last_ends c.args.newcomer.number vs v number);
      closed = c.join.ensures.closed;
      fits = front.1;
    }
