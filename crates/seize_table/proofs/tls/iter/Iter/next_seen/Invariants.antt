use Rattle.std.proofs.Common.{◌≡◌, ◌≤◌, ◌-◌}
use Rattle.seize_table.specs.Table.{entry_number}
use Rattle.seize_table.proofs.tls.iter.Iter.next_seen.Given as goal

abbrev pub invariant-loop-self : goal.invariant-loop-self
invariant-loop-self g l = (l.self.table ≡ l.fn.self.table) × (entry_number l.fn.self.bucket l.fn.self.entry ≤ entry_number l.self.bucket l.self.entry)

abbrev pub decreases-loop-self : goal.decreases-loop-self
decreases-loop-self g l = 59 - l.self.bucket
