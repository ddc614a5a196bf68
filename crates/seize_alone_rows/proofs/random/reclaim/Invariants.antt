use Rattle.seize.specs.Alones.{IsSame}
use Rattle.seize_alone_rows.proofs.random.reclaim.Given as goal

abbrev pub invariant-loop-link : goal.invariant-loop-link
invariant-loop-link l = IsSame l.fn.alone l.alone
