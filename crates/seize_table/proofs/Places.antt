-- Each number has one place, and each place one number.
use Rattle.std.proofs.Common.{◌≡◌, ◌∙◌, ℕ, suc, ◌+◌, ◌-◌, ◌*◌, ◌^◌, ◌<◌, ◌≤◌, ap, arith, pow_mono, pow-suc, lt_of_not-le}
use Rattle.seize_table.specs.Place.{IsPlace, OnePlace, OneNumber}
use Rattle.seize_table.specs.Table.{entry_number}

module _ (n top : ℕ) (low : 2 ^ top ≤ n) (high : n < 2 * 2 ^ top) where
  pub top_above : 32 ≤ n → 5 ≤ top
  top_above h = lt_of_not-le (λ (le : top ≤ 4). let p : 2 ^ top ≤ 16 = pow_mono le in omega arith)

  pub top_below : n < 18446744073709551616 → top < 64
  top_below h = lt_of_not-le (λ (le : 64 ≤ top). let p : 18446744073709551616 ≤ 2 ^ top = pow_mono le in omega arith)

-- the place that the highest digit gives
pub place_is : (id top : ℕ) → 2 ^ top ≤ id + 32 → id + 32 < 2 * 2 ^ top → 5 ≤ top → IsPlace id (top - 5) (id + 32 - 2 ^ (top - 5 + 5))
place_is id top low high above =
    let e : top - 5 + 5 ≡ top = omega arith in
    let p : 2 ^ (top - 5 + 5) ≡ 2 ^ top = ap (λ (k : ℕ). 2 ^ k) e in
    record { place = omega arith; within = omega arith }

not_below : (id b e c f : ℕ) → IsPlace id b e → IsPlace id c f → ¬ (b < c)
not_below id b e c f x y lt =
    let p : 2 ^ suc (b + 5) ≤ 2 ^ (c + 5) = pow_mono (omega arith) in
    let q : 2 ^ suc (b + 5) ≡ 2 ^ (b + 5) * 2 = pow-suc 2 (b + 5) in
    let x₁ = x.place in let x₂ = x.within in let y₁ = y.place in
    omega arith

pub one_bucket : (id b e c f : ℕ) → IsPlace id b e → IsPlace id c f → b ≡ c
one_bucket id b e c f x y = let p = not_below id b e c f x y in let q = not_below id c f b e y x in omega arith

pub one_place : OnePlace
one_place id b e c f x y =
    let same = one_bucket id b e c f x y in
    let p : 2 ^ (b + 5) ≡ 2 ^ (c + 5) = ap (λ (k : ℕ). 2 ^ (k + 5)) same in
    let x₁ = x.place in let y₁ = y.place in
    (same, omega arith)

-- the first 59 buckets end at the greatest number
pub one_number : OneNumber 59 18446744073709551583
one_number b e within inside =
    let first : 5 ≤ b + 5 = omega arith in
    let last : b + 5 ≤ 63 = omega arith in
    let low : 32 ≤ 2 ^ (b + 5) = pow_mono first in
    let high : 2 ^ (b + 5) ≤ 9223372036854775808 = pow_mono last in
    (2 ^ (b + 5) + e - 32, omega arith, record { place = omega arith; within = inside }, λ other x. let x₁ = x.place in omega arith)

-- the numbers of a bucket's entries end where those of the next bucket begin
pub number_at-le : (b e : ℕ) → e ≤ 2 ^ (b + 5) → entry_number b e ≤ entry_number (b + 1) 0
number_at-le b e within =
    let p : b + 1 + 5 ≡ suc (b + 5) = omega arith in
    let q : 2 ^ (b + 1 + 5) ≡ 2 ^ suc (b + 5) = ap (λ (k : ℕ). 2 ^ k) p in
    let r : 2 ^ suc (b + 5) ≡ 2 ^ (b + 5) * 2 = pow-suc 2 (b + 5) in
    omega arith

pub number_at-end : (b e : ℕ) → 59 ≤ b → b ≤ 59 → (59 ≤ b → e ≡ 0) → entry_number b e ≡ 18446744073709551584
number_at-end b e low high none =
    let at : b ≡ 59 = omega arith in
    let first : e ≡ 0 = none low in
    ap (λ (k : ℕ). 2 ^ (k + 5) + e - 32) at ∙ ap (λ (k : ℕ). 18446744073709551616 + k - 32) first
