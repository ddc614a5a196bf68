use Rattle.std.proofs.Common.{IfSome}
use base.Stored.{gnum}
use Rattle.seize.specs.Links.{IsSharedOf}
use Rattle.seize.specs.Collectors.{IsBlockOf, IsPassOf}
use Rattle.seize.specs.Guards.{core_collector}
use Rattle.seize_uses.proofs.replacing.add_under.Given as goal

abbrev pub invariant-loop : goal.invariant-loop
invariant-loop l = IsPassOf (core_collector l.core) l.pass × IsBlockOf (core_collector l.core) l.block × IfSome l.found (IsSharedOf gnum (core_collector l.core))
