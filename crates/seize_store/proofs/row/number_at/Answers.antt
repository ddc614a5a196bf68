use Rattle.std.proofs.Common.{ℕ, ◌+◌, ◌^◌, ◌<◌, ◌≤◌, arith, pow_mono}
use Rattle.seize_store.proofs.row.number_at.Goals as goal

-- no entry of a row is too high for the number
low : (row : ℕ) → row < 53 → 2 ^ (row + 5) ≤ 2 ^ 57
low row few = let most : row + 5 ≤ 57 = omega (arith, few) in pow_mono most

-- src/row.rt:95:5
pub overflow_mul-result : goal.overflow_mul-result
overflow_mul-result c = let p = low c.args.row c.requires.0 in let within = c.requires.1 in omega (arith, p, within)

-- src/row.rt:95:5
pub overflow_add-result : goal.overflow_add-result
overflow_add-result c = let p = low c.args.row c.requires.0 in let few = c.requires.0 in let within = c.requires.1 in omega (arith, p, few, within)
