use Rattle.seize_calls.specs.Inserts.{IsAtHead}
use Rattle.seize_calls.proofs.Turns.{IsTurning}
use Rattle.seize_calls.proofs.manner.BesideManner.insert.Given as goal

abbrev pub invariant-loop : goal.invariant-loop
invariant-loop g l = (here : IsAtHead l.initial.key l.initial.pass l.fn.head l.fn.header l.fn.block l.fn.front) → IsTurning here.at l.initial.pass l.key l.pass
