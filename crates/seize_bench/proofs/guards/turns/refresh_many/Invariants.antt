use Rattle.std.proofs.Common.{◌≡◌}
use Rattle.seize.specs.Collectors.{IsPassOf}
use Rattle.seize.specs.Guards.{guard_collector}
use Rattle.seize.specs.Registrations.{registered_in}
use Rattle.seize_bench.proofs.guards.turns.refresh_many.Given as goal

abbrev pub invariant-loop : goal.invariant-loop
invariant-loop g l = (guard_collector l.guard ≡ registered_in l.registration) × IsPassOf (registered_in l.registration) l.pass
