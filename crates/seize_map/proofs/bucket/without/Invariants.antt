use Rattle.std.proofs.Common.{◌≡◌, ◌++◌, length}
use Rattle.seize_map.specs.Buckets.{entries_of, other_entries}
use Rattle.seize_map.proofs.bucket.without.Given as goal

abbrev pub invariant-loop-first : goal.invariant-loop-first
invariant-loop-first g l = entries_of l.left.items ++ other_entries (g.K.PartialEq.eq l.key) (entries_of l.rest) ≡ other_entries (g.K.PartialEq.eq l.key) (entries_of l.fn.entries)

abbrev pub decreases-loop-first : goal.decreases-loop-first
decreases-loop-first g l = length l.rest
