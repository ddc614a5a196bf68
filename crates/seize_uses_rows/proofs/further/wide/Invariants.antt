use Rattle.std.proofs.Common.{All}
use Rattle.seize.specs.Blocks.{Belongs}
use Rattle.seize.specs.Collectors.{its_store, its_words}
use Rattle.seize_uses.specs.Nests.{nest_owners}
use Rattle.seize_uses_rows.proofs.further.wide.Given as goal

abbrev pub invariant-loop-number : goal.invariant-loop-number
invariant-loop-number l = All (Belongs nest_owners (its_store (its_words l.fn.collector))) l.inside.items
