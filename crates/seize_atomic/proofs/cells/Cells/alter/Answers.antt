use Rattle.std.proofs.Common.{rules, ◌-◌, arith}
use Rattle.seize_atomic.specs.Cells.{cells_kind}
use Rattle.seize_atomic.proofs.Altering.{none_left, one_lost, one_refused, one_without, one_won}
use Rattle.seize_atomic.proofs.cells.Cells.alter.Goals as goal

pub loop-left-preserved : goal.loop-left-preserved
loop-left-preserved g c = (
  one_lost (goal.F-post g c.args.f) g.row.T.coded.code (g.G.Guard.its_collector c.args.guard.now) (g.G.Guard.its_slot c.args.guard.now) c.args.i (cells_kind c.args.self.now) c.args.tries c.args.pass.now
      c.loop-left.left (c.loop-left.left - 1) (omega (arith, c.loop-left-test.true)) c.loop-left.found c.loop-left.pass c.attempt.new.pass c.loop-left.invariant.0 c.attempt.result c.attempt.ensures c.in-Err-Lost.other (search rules),
  search rules,
)

pub returns-in-Ok-clause-alters : goal.returns-in-Ok-clause-alters
returns-in-Ok-clause-alters g c =
    one_won (goal.F-post g c.args.f) g.row.T.coded.code (g.G.Guard.its_collector c.args.guard.now) (g.G.Guard.its_slot c.args.guard.now) c.args.i (cells_kind c.args.self.now) c.args.tries c.args.pass.now
    c.loop-left.left (c.loop-left.left - 1) (omega (arith, c.loop-left-test.true)) c.loop-left.found c.loop-left.pass c.attempt.new.pass c.loop-left.invariant.0 c.attempt.result c.attempt.ensures c.in-Ok.out c.in-Ok.answer c.retire.new.pass (search rules) c.retire.ensures.retires

pub returns-in-Err-NoMemory-clause-alters : goal.returns-in-Err-NoMemory-clause-alters
returns-in-Err-NoMemory-clause-alters g c =
    one_without (goal.F-post g c.args.f) g.row.T.coded.code (g.G.Guard.its_collector c.args.guard.now) (g.G.Guard.its_slot c.args.guard.now) c.args.i (cells_kind c.args.self.now) c.args.tries c.args.pass.now
    c.loop-left.left (c.loop-left.left - 1) (omega (arith, c.loop-left-test.true)) c.loop-left.found c.loop-left.pass c.attempt.new.pass c.loop-left.invariant.0 c.attempt.result c.attempt.ensures (search rules)

pub returns-in-Err-Refused-clause-alters : goal.returns-in-Err-Refused-clause-alters
returns-in-Err-Refused-clause-alters g c =
    one_refused (goal.F-post g c.args.f) g.row.T.coded.code (g.G.Guard.its_collector c.args.guard.now) (g.G.Guard.its_slot c.args.guard.now) c.args.i (cells_kind c.args.self.now) c.args.tries c.args.pass.now
    c.loop-left.left (c.loop-left.left - 1) (omega (arith, c.loop-left-test.true)) c.loop-left.found c.loop-left.pass c.attempt.new.pass c.loop-left.invariant.0 c.attempt.result c.attempt.ensures c.in-Err-Refused.why (search rules)

pub returns-clause-alters : goal.returns-clause-alters
returns-clause-alters g c =
    none_left (goal.F-post g c.args.f) g.row.T.coded.code (g.G.Guard.its_collector c.args.guard.now) (g.G.Guard.its_slot c.args.guard.now) c.args.i (cells_kind c.args.self.now) c.args.tries c.args.pass.now
    c.loop-left.left c.loop-left.found c.loop-left.pass (search rules) c.loop-left.invariant.0
