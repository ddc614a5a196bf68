use Rattle.seize.specs.Collectors.{IsPassOf, its_words}
use Rattle.seize_threads_rows.proofs.own_guards.work.Given as goal

abbrev pub invariant-loop-n : goal.invariant-loop-n
invariant-loop-n g l = IsPassOf (its_words l.collector) l.pass
