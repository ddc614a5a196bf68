use Rattle.std.proofs.Common.{rules}
use Rattle.seize_atomic.specs.Alters.{plain}
use Rattle.seize_atomic.specs.Cells.{cells_kind}
use Rattle.seize_atomic.proofs.Altering.{alters_less}
use Rattle.seize_atomic.proofs.cells.Cells.update.Goals as goal

pub alter-requires-clause-may_hold : goal.alter-requires-clause-may_hold
alter-requires-clause-may_hold g c = λ x y a answers. c.requires.may_hold x y a (answers.0, answers.1, search rules)

pub returns-clause-alters : goal.returns-clause-alters
returns-clause-alters g c =
    alters_less _ (plain (goal.F-post g c.args.f)) (λ x r said. search rules) g.row.T.coded.code (g.G.Guard.its_slot c.args.guard.now) c.args.i (cells_kind c.args.self.now) c.args.tries c.args.pass.now c.alter.new.pass c.alter.result c.alter.ensures.alters
