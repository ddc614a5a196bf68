use Rattle.seize.specs.Collectors.{IsPassOf, its_words}
use Rattle.seize_forgotten_rows.proofs.forgotten.forget_in_turn.Given as goal

abbrev pub invariant-loop : goal.invariant-loop
invariant-loop g l = IsPassOf (its_words l.collector) l.pass
