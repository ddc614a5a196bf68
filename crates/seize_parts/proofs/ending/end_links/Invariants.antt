use Rattle.seize_book.specs.Passes.{IsSamePass}
use Rattle.seize_calls.specs.Slots.{HasActivation, IsSlotOf}
use Rattle.seize_parts.proofs.ending.end_links.Given as goal

abbrev pub invariant-loop-link : goal.invariant-loop-link
invariant-loop-link g l = IsSlotOf l.words l.slot × HasActivation l.slot l.activation × IsSamePass l.fn.pass l.pass
