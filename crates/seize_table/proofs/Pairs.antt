-- Each pair has a number of its own.
use Rattle.std.proofs.Common.{◌≡◌, ℕ, zero, suc, ◌+◌, ◌-◌, ◌≤◌, Bool, ◌==◌, if◌then◌else◌, refl, ap, ◌∙◌, arith}
use Rattle.seize_table.specs.Pairs.{next_turn, turn, turns_before, pair, left_of, right_of}

same : (x : ℕ) → (x == x) ≡ Bool.true
same x = grind arith

other : (x y : ℕ) → suc x ≤ y → (x == y) ≡ Bool.false
other x y below = grind arith

turn_at : (round a : ℕ) → a ≤ round → turn (turns_before round + a) ≡ (a, round)
turn_at zero zero le = refl
turn_at (suc round) zero le = let n : ℕ = turns_before round + round in
    let here : turns_before round + suc round + 0 ≡ suc n = omega arith in
    ap turn here ∙ (ap next_turn (turn_at round round (omega arith)) ∙ ap (λ (b : Bool). if b then (0, suc round) else (suc round, round)) (same round))
turn_at round (suc a) le = let n : ℕ = turns_before round + a in
    let here : turns_before round + suc a ≡ suc n = omega arith in
    ap turn here ∙ (ap next_turn (turn_at round a (omega (arith, le))) ∙ ap (λ (b : Bool). if b then (0, suc round) else (suc a, round)) (other a round le))

at_pair : (a b : ℕ) → turn (pair a b) ≡ (a, a + b)
at_pair a b = turn_at (a + b) a (omega arith)

pub left_pair : (a b : ℕ) → left_of (pair a b) ≡ a
left_pair a b = ap (λ (t : ℕ × ℕ). t.0) (at_pair a b)

pub right_pair : (a b : ℕ) → right_of (pair a b) ≡ b
right_pair a b = let less : (a + b) - a ≡ b = omega arith in ap (λ (t : ℕ × ℕ). t.1 - t.0) (at_pair a b) ∙ less

-- pairs with one left number come past any bound
pub past : (a b : ℕ) → b ≤ pair a b
past a b = enough (a + b) a b (omega arith) where
  rounds : (round : ℕ) → round ≤ turns_before round
  rounds zero = omega arith
  rounds (suc round) = let before = rounds round in omega (arith, before)

  enough : (round a b : ℕ) → b ≤ round → b ≤ turns_before round + a
  enough round a b le = let all = rounds round in omega (arith, all, le)
