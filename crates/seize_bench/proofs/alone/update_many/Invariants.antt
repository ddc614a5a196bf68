use Rattle.std.proofs.Common.{◌≡◌}
use Rattle.seize_bench.proofs.alone.update_many.Given as goal

abbrev pub invariant-loop : goal.invariant-loop
invariant-loop l = l.alone.links ≡ l.fn.alone.links

abbrev pub invariant-loop-value : goal.invariant-loop-value
invariant-loop-value l = l.alone.links ≡ l.fn.alone.links
