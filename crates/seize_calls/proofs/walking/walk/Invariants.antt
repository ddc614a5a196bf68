use Rattle.std.specs.Prelude.{length}
use Rattle.seize_machine.specs.Machine.Laws.{walk_of}
use Rattle.seize_book.specs.Slots.{IsKeyOfBook, slot_of}
use Rattle.seize_words.specs.Walks.{Knows}
use Rattle.seize_calls.specs.Walking.{IsAtWalk}
use Rattle.seize_calls.proofs.Walks.{IsWalking}
use Rattle.seize_calls.proofs.walking.walk.Given as goal

abbrev pub invariant-loop-leads : goal.invariant-loop-leads
invariant-loop-leads g l =
    ((at : IsAtWalk l.initial.key l.fn.word) → IsWalking at l.initial.pass l.key l.pass l.values l.leads) × IsKeyOfBook l.key l.pass × Knows l.key l.pass

abbrev pub decreases-loop-leads : goal.decreases-loop-leads
decreases-loop-leads g l = length (walk_of (slot_of l.key).call)
