use Rattle.std.proofs.Common.{◌≡◌}
use Rattle.seize_bench.proofs.lookups.some_found.Given as goal

abbrev pub invariant-loop-number : goal.invariant-loop-number
invariant-loop-number l = l.seen ≡ l.initial.seen
