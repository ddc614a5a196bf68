use Rattle.std.proofs.Common.{ℕ, ◌+◌, ◌^◌, ◌≤◌, arith, lit<, pow_mono}
use Rattle.seize_store.specs.RowTokens.{IsInRow}
use Rattle.seize_store_rows.proofs.store.last_of_the_first_row.Goals as goal

-- number 1984, at entry 31, is in the row of number 0
beside : (row : ℕ) → IsInRow 0 row → IsInRow 1984 row
beside row x =
    let first : 5 ≤ row + 5 = omega arith in
    let low : 32 ≤ 2 ^ (row + 5) = pow_mono first in
    record { lies = x.lies; within = omega (arith, low) }

pub at-requires : goal.at-requires
at-requires c = let seen = c.in_ok-seen in (lit< tt, (seen.ensures.0, beside seen.seen.known.row seen.ensures.1))
