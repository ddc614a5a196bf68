-- Every pair of numbers has a number: the pairs are numbered along the diagonals.
use Rattle.std.proofs.Common.{◌≡◌, ℕ, zero, suc, ◌+◌, ◌≤◌, refl, ◌∙◌, ap, arith}

-- the pair after this one
abbrev pub onward : ℕ → ℕ → ℕ × ℕ
onward zero b = (suc b, 0)
onward (suc a) b = (a, suc b)

abbrev pub pair_of : ℕ → ℕ × ℕ
pair_of zero = (0, 0)
pair_of (suc n) = onward (pair_of n).0 (pair_of n).1

-- along a diagonal by k pairs
along : (k a b c n : ℕ) → (pair_of n).0 ≡ c → (pair_of n).1 ≡ b → c ≡ a + k → (m : ℕ) × ((pair_of m).0 ≡ a) × ((pair_of m).1 ≡ b + k)
along zero a b c n e f g = (n, omega arith, omega arith)
along (suc k) a b c n e f g =
    let next : onward (pair_of n).0 (pair_of n).1 ≡ (a + k, suc b) = step (pair_of n).0 (pair_of n).1 (omega arith) f in
    let rest : (m : ℕ) × ((pair_of m).0 ≡ a) × ((pair_of m).1 ≡ suc b + k) = along k a (suc b) (a + k) (suc n) (ap (λ (p : ℕ × ℕ). p.0) next) (ap (λ (p : ℕ × ℕ). p.1) next) refl in
    (rest.0, rest.1, omega arith)
  where
    step : (x y : ℕ) → x ≡ suc (a + k) → y ≡ b → onward x y ≡ (a + k, suc b)
    step zero y e f = absurd (omega arith)
    step (suc x) y e f = let d : x ≡ a + k = omega arith in ap (λ (z : ℕ). (z, suc y)) d ∙ ap (λ (z : ℕ). (a + k, suc z)) f

-- the first pair of a diagonal
first_pair : (s : ℕ) → (n : ℕ) × ((pair_of n).0 ≡ s) × ((pair_of n).1 ≡ 0)
first_pair zero = (0, refl, refl)
first_pair (suc s) =
    let first : (n : ℕ) × ((pair_of n).0 ≡ s) × ((pair_of n).1 ≡ 0) = first_pair s in
    let last : (m : ℕ) × ((pair_of m).0 ≡ 0) × ((pair_of m).1 ≡ 0 + s) = along s 0 0 s first.0 first.1 first.2 (omega arith) in
    let next : onward (pair_of last.0).0 (pair_of last.0).1 ≡ (suc s, 0) = step (pair_of last.0).0 (pair_of last.0).1 last.1 (omega arith) in
    (suc last.0, ap (λ (p : ℕ × ℕ). p.0) next, ap (λ (p : ℕ × ℕ). p.1) next)
  where
    step : (x y : ℕ) → x ≡ 0 → y ≡ s → onward x y ≡ (suc s, 0)
    step zero y e f = ap (λ (z : ℕ). (suc z, 0)) f
    step (suc x) y e f = absurd (omega arith)

-- a diagonal begins at its own number or later
pub sum_below : (n : ℕ) → (pair_of n).0 + (pair_of n).1 ≤ n
sum_below zero = omega arith
sum_below (suc n) = step (pair_of n).0 (pair_of n).1 (sum_below n)
  where
    step : (x y : ℕ) → x + y ≤ n → (onward x y).0 + (onward x y).1 ≤ suc n
    step zero y h = omega arith
    step (suc x) y h = omega arith

-- each pair has a number, which is not below its first part
pub number_of : (a b : ℕ) → (n : ℕ) × (pair_of n ≡ (a, b)) × (a ≤ n)
number_of a b =
    let first : (n : ℕ) × ((pair_of n).0 ≡ a + b) × ((pair_of n).1 ≡ 0) = first_pair (a + b) in
    let m : (m : ℕ) × ((pair_of m).0 ≡ a) × ((pair_of m).1 ≡ 0 + b) = along b a 0 (a + b) first.0 first.1 first.2 refl in
    let second : (pair_of m.0).1 ≡ b = omega arith in
    let below : (pair_of m.0).0 + (pair_of m.0).1 ≤ m.0 = sum_below m.0 in
    (m.0, both (pair_of m.0) m.1 second, omega arith)
  where
    both : (p : ℕ × ℕ) → p.0 ≡ a → p.1 ≡ b → p ≡ (a, b)
    both p e f = ap (λ (x : ℕ). (x, p.1)) e ∙ ap (λ (y : ℕ). (a, y)) f
