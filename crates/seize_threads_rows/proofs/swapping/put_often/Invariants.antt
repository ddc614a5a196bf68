use Rattle.seize.specs.Collectors.{IsPassOf, its_words}
use Rattle.seize_threads_rows.proofs.swapping.put_often.Given as goal

abbrev pub invariant-loop-value : goal.invariant-loop-value
invariant-loop-value g l = IsPassOf (its_words l.collector) l.pass
