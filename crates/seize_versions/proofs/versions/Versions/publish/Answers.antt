use Rattle.std.proofs.Common.{rules}
use Rattle.seize.specs.Collectors.{its_store}
use Rattle.seize_atomic.specs.Cells.{cells_kind}
use Rattle.seize_atomic.proofs.Facts.{alters_less}
use Rattle.seize_versions.specs.Numbers.{MakesNext}
use Rattle.seize_versions.specs.Versions.{versions_cell}
use Rattle.seize_versions.specs.contracts.version.Version.{the_row}
use Rattle.seize_versions.proofs.Next.{may_hold, settles}
use Rattle.seize_versions.proofs.versions.Versions.publish.Goals as goal

-- the next version may go in
pub alter-requires-clause-may_hold : goal.alter-requires-clause-may_hold
alter-requires-clause-may_hold g c x y n answers =
    may_hold (goal.F-post g c.args.f) g.G.Reclaimer.Puts.keeps g.G.Reclaimer.Puts.owners (its_store (g.G.Guard.its_collector c.args.guard.now)) (versions_cell c.args.self.now) c.requires.rule x y n
    (answers.0, answers.1, search rules)

pub returns-clause-publishes : goal.returns-clause-publishes
returns-clause-publishes g c =
    let versions = c.args.self.now in let code = (the_row g.row.T).coded.code in let s = g.G.Guard.its_slot c.args.guard.now in
    settles versions code (goal.F-post g c.args.f) s c.args.tries c.args.pass.now c.alter.new.pass c.alter.result
    (alters_less _ (MakesNext (goal.F-post g c.args.f)) (λ x r said. search rules) code s (versions_cell versions) (cells_kind versions.cells) c.args.tries c.args.pass.now c.alter.new.pass c.alter.result c.alter.ensures.alters)
    c.settled.result c.settled.ensures

pub returns-clause-alters : goal.returns-clause-alters
returns-clause-alters g c =
    let versions = c.args.self.now in let code = (the_row g.row.T).coded.code in let s = g.G.Guard.its_slot c.args.guard.now in (
      c.alter.result,
      alters_less _ (MakesNext (goal.F-post g c.args.f)) (λ x r said. search rules) code s (versions_cell versions) (cells_kind versions.cells) c.args.tries c.args.pass.now c.alter.new.pass c.alter.result c.alter.ensures.alters,
      c.settled.ensures,
    )
