use Rattle.std.proofs.Common.{◌≡◌, length}
use Rattle.seize_map.specs.Buckets.{entries_of, entry_under}
use Rattle.seize_map.proofs.bucket.find.Given as goal

abbrev pub invariant-loop-first : goal.invariant-loop-first
invariant-loop-first g l = entry_under (g.K.PartialEq.eq l.key) (entries_of l.rest) ≡ entry_under (g.K.PartialEq.eq l.key) (entries_of l.fn.entries)

abbrev pub decreases-loop-first : goal.decreases-loop-first
decreases-loop-first g l = length l.rest
