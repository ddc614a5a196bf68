-- Pairs of numbers, each as one number. A label is one number, so it can say of what it is one, and which one of that.
--     pair a b               a and b as one number; no other two have it
--     left_of n, right_of n  the two that n is the pair of: each number is that of one pair
--     of_family f label      the label is that of something of the family f: a pair of which f is the left one
use Rattle.std.specs.Prelude.{◌≡◌, ℕ, zero, suc, ◌+◌, ◌-◌, ◌==◌, if◌then◌else◌}

-- 0; then 0 and 1; then 0, 1 and 2; and so on: each number comes again and again. The second number of a turn says which round it is in,
-- which ends there.
abbrev pub next_turn : ℕ × ℕ → ℕ × ℕ
next_turn t = if t.0 == t.1 then (0, suc t.1) else (suc t.0, t.1)

abbrev pub turn : ℕ → ℕ × ℕ
turn zero = (0, 0)
turn (suc n) = next_turn (turn n)

-- how many turns there are before a round
abbrev pub turns_before : ℕ → ℕ
turns_before zero = 0
turns_before (suc round) = turns_before round + suc round

abbrev pub pair : ℕ → ℕ → ℕ
pair a b = turns_before (a + b) + a

abbrev pub left_of : ℕ → ℕ
left_of n = (turn n).0

abbrev pub right_of : ℕ → ℕ
right_of n = (turn n).1 - (turn n).0

abbrev pub of_family : ℕ → ℕ → Type 0
of_family family label = left_of label ≡ family
