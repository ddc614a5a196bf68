use Rattle.std.proofs.Common.{◌≡◌, ◌≤◌, ◌+◌}
use Rattle.seize_cells_rows.proofs.counters.count.Given as goal

abbrev pub invariant-loop-left : goal.invariant-loop-left
invariant-loop-left g l = (l.notes.counted ≤ l.notes.works) × (l.notes.works + l.left ≡ l.fn.notes.works + l.fn.times)

abbrev pub decreases-loop-left : goal.decreases-loop-left
decreases-loop-left g l = l.left
