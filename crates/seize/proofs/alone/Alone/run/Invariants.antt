use Rattle.std.proofs.Common.{◌≤◌, ◌+◌, vec_len, vec_capacity, deque_len}
use Rattle.seize.specs.Alones.{IsSame, ListGrows}
use Rattle.seize.specs.Running.{AreFrom}
use Rattle.seize.proofs.Running.{Made}
use Rattle.seize.proofs.alone.Alone.run.Given as goal

abbrev pub invariant-loop-call : goal.invariant-loop-call
invariant-loop-call g l = record {
  made : Made g.R.Puts.puts g.R.Puts.weight g.W.Watch.told g.R.Puts.owners l.fn.self.book.store l.fn.self.links
      l.fn.calls.items l.calls.items l.fn.replies.items l.replies.items l.fn.self.state l.self.state
      (g.W.Watch.seen l.fn.watch) (g.W.Watch.seen l.watch);
  same : IsSame l.fn.self l.self;
  grows : ListGrows l.fn.self l.self;
  own : AreFrom g.R.Puts.owners l.fn.self.book.store l.fn.replies.items → AreFrom g.R.Puts.owners l.fn.self.book.store l.replies.items;
  room : vec_len l.replies + deque_len l.calls ≤ vec_capacity l.replies;
}

abbrev pub decreases-loop-call : goal.decreases-loop-call
decreases-loop-call g l = deque_len l.calls
