use Rattle.std.proofs.Common.{[], ◌+◌, ◌++◌}
use Rattle.seize_words.specs.Joined.{words_book}
use Rattle.seize_book.specs.Values.{values_of}
use Rattle.seize_calls.specs.Alone.{Onward}
use Rattle.seize_calls.proofs.Weights.{AreWithin, all_of, puts_of, still_to_go}
use Rattle.seize_calls.specs.Furthers.{further_in}
use Rattle.seize_calls.specs.Together.{IsUnderWay}
use Rattle.seize_calls.specs.Laying.{Lays}
use Rattle.seize_calls.specs.Settling.{Drains, HasQueue, call_state}
use Rattle.seize_calls.proofs.draining.AloneDrainer.drain_all.Given as goal

abbrev pub ghosts-of : goal.ghosts-of
ghosts-of g a = record { is_one = AreWithin g.R.Lightens.weighs (values_of a._batch.now.values ++ values_of (further_in a._queue.now)) [] }

abbrev pub invariant-loop-queue : goal.invariant-loop-queue
invariant-loop-queue g l =
    Drains (call_state l.initial.holder l.initial.pass l.initial.queue (g.R.Reclaim.had l.initial.reclaimer)) (call_state l.holder l.pass l.queue (g.R.Reclaim.had l.reclaimer))
    × Onward l.initial.holder.key l.initial.pass l.holder.key l.pass × HasQueue l.holder.key (further_in l.queue) × IsUnderWay l.fn.words l.holder l.queue l.pass
    × g.R.Reclaim.serves l.reclaimer (words_book l.fn.words) × Lays l.initial.pass l.initial.holder.spots l.pass l.holder.spots
    × AreWithin g.R.Lightens.weighs (all_of l.holder.key (further_in l.queue)) (g.R.Reclaim.had l.reclaimer) (l._limit.number + puts_of (g.R.Reclaim.had l.initial.reclaimer))

abbrev pub decreases-loop-queue : goal.decreases-loop-queue
decreases-loop-queue g l = still_to_go (l._limit.number + puts_of (g.R.Reclaim.had l.initial.reclaimer)) (g.R.Reclaim.had l.reclaimer) (values_of (further_in l.queue))
