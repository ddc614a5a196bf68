use Rattle.seize.specs.Collectors.{IsPassOf}
use Rattle.seize_atomic.specs.Cells.{cells_kind}
use Rattle.seize_atomic.proofs.Altering.{IsAltering}
use Rattle.seize_atomic.proofs.cells.Cells.alter.Given as goal

abbrev pub invariant-loop-left : goal.invariant-loop-left
invariant-loop-left g l =
    IsAltering (goal.F-post g l.f) g.row.T.coded.code (g.G.Guard.its_collector l.guard) (g.G.Guard.its_slot l.guard) l.i (cells_kind l.self) l.fn.tries l.fn.pass l.left l.found l.pass
    × IsPassOf (g.G.Guard.its_collector l.guard) l.pass

abbrev pub decreases-loop-left : goal.decreases-loop-left
decreases-loop-left g l = l.left
