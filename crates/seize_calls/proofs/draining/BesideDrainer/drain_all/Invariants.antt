use Rattle.seize_words.specs.Joined.{words_book}
use Rattle.seize_calls.specs.Alone.{Onward}
use Rattle.seize_calls.specs.Furthers.{further_in}
use Rattle.seize_calls.specs.Together.{IsUnderWay}
use Rattle.seize_calls.specs.Laying.{Lays}
use Rattle.seize_calls.specs.Settling.{Drains, HasQueue, call_state}
use Rattle.seize_calls.proofs.draining.BesideDrainer.drain_all.Given as goal

abbrev pub invariant-loop : goal.invariant-loop
invariant-loop g l =
    Drains (call_state l.initial.holder l.initial.pass l.initial.queue (g.R.Reclaim.had l.initial.reclaimer)) (call_state l.holder l.pass l.queue (g.R.Reclaim.had l.reclaimer))
    × Onward l.initial.holder.key l.initial.pass l.holder.key l.pass × HasQueue l.holder.key (further_in l.queue) × IsUnderWay l.fn.words l.holder l.queue l.pass
    × g.R.Reclaim.serves l.reclaimer (words_book l.fn.words) × Lays l.initial.pass l.initial.holder.spots l.pass l.holder.spots
