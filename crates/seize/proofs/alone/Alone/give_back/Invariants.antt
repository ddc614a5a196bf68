use Rattle.seize.specs.Alones.{IsLinkedSame, ListGrows}
use Rattle.seize.proofs.Giving.{Goes, left_of}
use Rattle.seize.proofs.alone.Alone.give_back.Given as goal

abbrev pub invariant-loop-given : goal.invariant-loop-given
invariant-loop-given g l = record {
  goes : Goes l.given g.R.Puts.puts g.R.Puts.weight g.W.Watch.told l.fn.self.state l.self.state l.fn.s (g.W.Watch.seen l.fn.watch) (g.W.Watch.seen l.watch);
  same : IsLinkedSame l.fn.self l.self;
  grows : ListGrows l.fn.self l.self;
}

abbrev pub decreases-loop-given : goal.decreases-loop-given
decreases-loop-given g l = left_of l.given g.R.Puts.weight l.self.state l.fn.s
