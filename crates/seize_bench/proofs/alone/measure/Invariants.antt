use Rattle.std.proofs.Common.{◌≡◌}
use Rattle.seize_bench.proofs.alone.measure.Given as goal

abbrev pub invariant-loop : goal.invariant-loop
invariant-loop g l = l.alone.links ≡ 1
