use Rattle.std.proofs.Common.{sym, subst}
use Rattle.seize_book.specs.Passes.{LooksOn}
use Rattle.seize_parts.proofs.Made.{none_looked}
use Rattle.seize_guards.proofs.Protected.{protects}
use Rattle.seize_guards.proofs.guard.common.GuardCore.protected.Goals as goal

pub returns-clause-none : goal.returns-clause-none
returns-clause-none g c =
    let looks = subst (LooksOn c.args.pass.now) (sym c.lasts.ensures.0) c.slots.ensures.0 in none_looked c.args.pass.now c.lasts.new.pass looks

pub returns-clause-protects : goal.returns-clause-protects
returns-clause-protects g c =
    let looks = subst (LooksOn c.args.pass.now) (sym c.lasts.ensures.0) c.slots.ensures.0 in protects c.args.self.now.unit c.args.pass.now c.lasts.new.pass looks c.lasts.ensures.1
