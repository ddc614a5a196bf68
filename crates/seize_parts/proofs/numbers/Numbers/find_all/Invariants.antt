use Rattle.std.proofs.Common.{◌≡◌, ◌≤◌, ◌<◌, ℕ, true, length}
use Rattle.seize_parts.specs.Numbers.{AreNumbers}
use Rattle.seize_parts.specs.Resting.{AreLeft, LiesSomewhere}
use Rattle.seize_parts.proofs.numbers.Numbers.find_all.Given as goal

abbrev pub invariant-loop-n : goal.invariant-loop-n
invariant-loop-n g l =
    AreNumbers l.self × (l.self.book ≡ l.fn.self.book) × (l.self.slots ≡ l.fn.self.slots) × (l.pass ≡ l.fn.pass) × AreLeft l.fn.pass l.places.items
    × (length l.fn.self.slots.items ≤ length l.places.items) × (l.all ≡ true → (s : ℕ) → s < l.n → LiesSomewhere l.fn.self.slots.items l.places.items s)
