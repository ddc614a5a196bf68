use Rattle.seize.specs.Collectors.{IsPassOf, its_words}
use Rattle.seize_forgotten_rows.proofs.forgotten.retire.Given as goal

abbrev pub invariant-loop-digit : goal.invariant-loop-digit
invariant-loop-digit g l = IsPassOf (its_words l.collector) l.pass
