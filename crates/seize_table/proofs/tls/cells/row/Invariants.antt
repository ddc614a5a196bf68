use Rattle.std.proofs.Common.{◌≡◌, ◌≤◌, vec_len}
use Rattle.std.specs.Prelude.{vec_capacity}
use Rattle.seize_table.proofs.tls.cells.row.Given as goal

abbrev pub invariant-loop : goal.invariant-loop
invariant-loop g l = (vec_len l.entries ≡ l.counter) × (l.capacity ≤ vec_capacity l.entries)
