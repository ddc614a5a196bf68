use Rattle.std.specs.Prelude.{◌≡◌}
use Rattle.seize_words.specs.Reserved.{comes_to, heads_book, heads_end}
use Rattle.seize_calls.specs.Marks.{BeginsToMark}
use Rattle.seize_calls.specs.Rounds.{rest_in}
use Rattle.seize_calls.proofs.Marks.{IsReading}
use Rattle.seize_calls.proofs.marking.read_each.Given as goal

abbrev pub invariant-loop-head : goal.invariant-loop-head
invariant-loop-head g l =
    ((at : BeginsToMark l.initial.key) → IsReading at (heads_end l.fn.heads) l.initial.pass (rest_in l.initial.round) (comes_to l.head-iterator) l.marked l.key l.pass l.round)
    × (heads_end l.head-iterator ≡ heads_end l.fn.heads) × (heads_book l.head-iterator ≡ heads_book l.fn.heads)
    × (l.number ≡ comes_to l.head-iterator)
