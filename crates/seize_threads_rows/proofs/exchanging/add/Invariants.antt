use Rattle.std.specs.Prelude.{IfSome}
use Rattle.seize.specs.Collectors.{IsBlockOf, IsPassOf}
use Rattle.seize.specs.Guards.{guard_collector}
use Rattle.seize_threads_rows.proofs.exchanging.add.Given as goal

abbrev pub invariant-loop : goal.invariant-loop
invariant-loop g l =
    IsPassOf (guard_collector l.guard) l.pass × IfSome l.left (λ owned. IsBlockOf (guard_collector l.guard) owned)
