use Rattle.std.proofs.Common.{◌≡◌, ℕ, ◌+◌, ◌-◌, ◌*◌, ◌/◌, ◌%◌, ◌^◌, ◌<◌, ◌≤◌, ap, ◌∙◌, sym, subst, arith, lit<, slice_index_or}
use Rattle.std.proofs.lemmas.Nat.{pow-add}
use Rattle.seize_store.specs.RowTokens.{IsInRow}
use Rattle.seize_bench.proofs.lookups.some_found.Goals as goal

-- the 32 chunks from an entry on that is a multiple of 32 are of one row
beside : (row first n : ℕ) → IsInRow first row → first / 64 % 32 ≡ 0 → first ≤ n → n % 64 ≡ first % 64 → n - first < 2048 → IsInRow n row
beside row first n x whole low same high =
    let e : 2 ^ (row + 5) ≡ 2 ^ row * 32 = pow-add 2 row 5 in
    let l : first % 64 ≡ row = x.lies in
    let w : first / 64 < 2 ^ (row + 5) = x.within in
    record { lies = same ∙ l; within = omega arith }

pub at-requires : goal.at-requires
at-requires c = let s = c.loop-number in let first = c.args.first in (
  lit< tt,
  (
    ap (λ x. x.known.store) s.invariant ∙ c.requires.0,
    beside s.seen.known.row first (slice_index_or c.args.numbers.now s.number-index 0)
        (subst (λ x. IsInRow first x.known.row) (sym s.invariant) c.requires.1) c.requires.2 c.if-first-number.true c.if-number-first.true
        c.if-number-first-2.true,
  ),
)
