use Rattle.seize_parts.specs.Numbers.{NoneBelow}
use Rattle.seize_parts.proofs.numbers.Numbers.first.Given as goal

abbrev pub invariant-loop-n : goal.invariant-loop-n
invariant-loop-n g l = NoneBelow l.n l.fn.self.slots.items
