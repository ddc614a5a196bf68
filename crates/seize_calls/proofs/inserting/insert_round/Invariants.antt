use Rattle.std.specs.Prelude.{◌≡◌, take, drop}
use Rattle.seize_book.specs.Private.{labels_of}
use Rattle.seize_book.specs.Slots.{IsKeyOfBook}
use Rattle.seize_words.specs.Walks.{Knows}
use Rattle.seize_calls.specs.Batches.{slot_marks_of}
use Rattle.seize_calls.specs.Inserts.{IsInserting}
use Rattle.seize_calls.specs.Rounds.{book_at, done_in, rest_in}
use Rattle.seize_calls.proofs.Inserts.{HasTurned}
use Rattle.seize_calls.proofs.inserting.insert_round.Given as goal

abbrev pub invariant-loop : goal.invariant-loop
invariant-loop g l =
    ((at : IsInserting l.initial.key l.initial.pass (take l.fn.marked (slot_marks_of (rest_in l.initial.round))) l.fn.front (labels_of (rest_in l.initial.round))) → HasTurned at l.counter l.won l.key l.pass)
    × IsKeyOfBook l.key l.pass × Knows l.key l.pass × (book_at l.round ≡ l.pass.name)
    × (done_in l.round ≡ take l.counter (rest_in l.initial.round)) × (rest_in l.round ≡ drop l.counter (rest_in l.initial.round))
