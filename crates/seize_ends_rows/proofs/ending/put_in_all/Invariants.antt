use Rattle.seize.specs.Collectors.{IsPassOf, its_words}
use Rattle.seize_ends_rows.proofs.ending.put_in_all.Given as goal

abbrev pub invariant-loop-link : goal.invariant-loop-link
invariant-loop-link g l = IsPassOf (its_words l.collector) l.pass
