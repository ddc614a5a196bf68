use Rattle.std.proofs.Common.{◌≡◌, ℕ, List, sum_by}
use Rattle.seize_model.specs.Waiting.Further.{gone_from}
use Rattle.seize_calls.specs.Furthers.{further_in}
use Rattle.seize_calls.specs.Handing.{IsServed}
use Rattle.seize_words.specs.Joined.{words_book}
use Rattle.seize_parts.specs.Aparts.{AreWaiting}
use Rattle.seize_parts.specs.Told.{told_of}
use Rattle.seize_parts.proofs.alone.draining.drain.Given as goal

abbrev pub invariant-loop-blocks : goal.invariant-loop-blocks
invariant-loop-blocks g l =
    (l.pass ≡ l.initial.pass) × IsServed (further_in l.queue) (words_book l.fn.words) × AreWaiting g.row.T.coded.code l.queue l._waiting.values
    × ((vs : List (g.row.T.Denot × ℕ)) → AreWaiting g.row.T.coded.code l.initial.queue vs
    → told_of g.W.Watch.told (g.W.Watch.seen l.watch) (gone_from g.R.Puts.puts g.R.Puts.weight l._waiting.values) ≡ told_of g.W.Watch.told (g.W.Watch.seen l.initial.watch) (gone_from g.R.Puts.puts g.R.Puts.weight vs))

abbrev pub decreases-loop-blocks : goal.decreases-loop-blocks
decreases-loop-blocks g l = sum_by (λ (v : g.row.T.Denot × ℕ). g.R.Puts.weight v.0) l._waiting.values
