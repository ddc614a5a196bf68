use Rattle.std.specs.Prelude.{◌≡◌, length}
use Rattle.seize_machine.specs.Machine.Laws.{walk_of}
use Rattle.seize_book.specs.Slots.{slot_of}
use Rattle.seize_book.specs.Values.{IsEmpty}
use Rattle.seize_words.specs.Joined.{words_book}
use Rattle.seize_calls.specs.Furthers.{further_in}
use Rattle.seize_calls.specs.Together.{IsUnderWay}
use Rattle.seize_calls.specs.Laying.{Lays}
use Rattle.seize_calls.specs.Walking.{IsAtWalk}
use Rattle.seize_calls.proofs.Strolls.{IsStrolling}
use Rattle.seize_calls.proofs.holder.Holder.walk_waiting.Given as goal

abbrev pub invariant-loop-values : goal.invariant-loop-values
invariant-loop-values g l =
    ((at : IsAtWalk l.initial.self.key l.fn.word)
    → IsStrolling at l.initial.pass (further_in l.initial.queue) (g.R.Reclaim.had l.initial.reclaimer) l.self.key l.pass l.leads (further_in l.queue) (g.R.Reclaim.had l.reclaimer))
    × IsUnderWay l.fn.words l.self l.queue l.pass × g.R.Reclaim.serves l.reclaimer (words_book l.fn.words) × Lays l.initial.pass l.initial.self.spots l.pass l.self.spots × (l.self.batch ≡ l.initial.self.batch) × IsEmpty l.values l.pass

abbrev pub decreases-loop-values : goal.decreases-loop-values
decreases-loop-values g l = length (walk_of (slot_of l.self.key).call)
