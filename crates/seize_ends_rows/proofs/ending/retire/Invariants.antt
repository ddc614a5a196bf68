use Rattle.seize.specs.Collectors.{IsPassOf, its_words}
use Rattle.seize_ends_rows.proofs.ending.retire.Given as goal

abbrev pub invariant-loop : goal.invariant-loop
invariant-loop g l = IsPassOf (its_words l.collector) l.pass
