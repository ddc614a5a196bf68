use Rattle.std.specs.Prelude.{◌≡◌, length}
use Rattle.seize_book.specs.Values.{values_of}
use Rattle.seize_words.specs.Joined.{words_book}
use Rattle.seize_calls.specs.Furthers.{further_in}
use Rattle.seize_calls.specs.Together.{IsUnderWay}
use Rattle.seize_calls.specs.Laying.{Lays}
use Rattle.seize_calls.specs.Walking.{IsGiven}
use Rattle.seize_calls.proofs.Handings.{IsHanding}
use Rattle.seize_calls.proofs.holder.Holder.hand_all.Given as goal

abbrev pub invariant-loop-front : goal.invariant-loop-front
invariant-loop-front g l =
    ((given : IsGiven l.initial.self.key l.initial.pass l.initial.values l.fn.front)
    → IsHanding given (further_in l.initial.queue) (g.R.Reclaim.had l.initial.reclaimer) l.self.key l.pass l.values (further_in l.queue) l.number (g.R.Reclaim.had l.reclaimer))
    × IsUnderWay l.fn.words l.self l.queue l.pass × g.R.Reclaim.serves l.reclaimer (words_book l.fn.words) × Lays l.initial.pass l.initial.self.spots l.pass l.self.spots × (l.self.batch ≡ l.initial.self.batch)

abbrev pub decreases-loop-front : goal.decreases-loop-front
decreases-loop-front g l = length (values_of l.values)
