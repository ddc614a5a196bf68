use Rattle.seize.specs.Collectors.{BelongsTo, its_words}
use Rattle.seize_uses.specs.Nests.{nest_owners}
use Rattle.seize_uses_rows.proofs.further.chain.Given as goal

abbrev pub invariant-loop-number : goal.invariant-loop-number
invariant-loop-number l = BelongsTo nest_owners (its_words l.fn.collector) l.block
