use Rattle.seize.specs.Collectors.{IsPassOf, its_words}
use Rattle.seize.specs.Guards.{owned_collector}
use Rattle.std.specs.Prelude.{◌≡◌}
use Rattle.seize_ends_rows.proofs.kinds.retire_five.Given as goal

abbrev pub invariant-loop : goal.invariant-loop
invariant-loop g l = (owned_collector l.guard ≡ its_words l.collector) × IsPassOf (its_words l.collector) l.pass
