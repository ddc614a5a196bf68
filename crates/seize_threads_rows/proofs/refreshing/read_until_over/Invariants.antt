use Rattle.std.specs.Prelude.{◌≡◌}
use Rattle.seize.specs.Collectors.{IsPassOf, its_links}
use Rattle.seize.specs.Guards.{guard_collector}
use Rattle.seize_threads_rows.proofs.refreshing.read_until_over.Given as goal

abbrev pub invariant-loop : goal.invariant-loop
invariant-loop g l =
    IsPassOf (guard_collector l.guard) l.pass × (its_links (guard_collector l.guard) ≡ 3)
    × (guard_collector l.guard ≡ guard_collector l.initial.guard)
