use Rattle.std.proofs.Common.{◌≡◌, ℕ, None, get_or, length}
use Rattle.seize_parts.proofs.alone.place.room.Given as goal

abbrev pub invariant-loop : goal.invariant-loop
invariant-loop g l = (length l.places.items ≡ l.counter) × ((s : ℕ) → get_or l.places.items s None ≡ get_or l.initial.places.items s None)
