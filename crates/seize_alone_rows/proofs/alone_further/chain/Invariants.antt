use Rattle.std.proofs.Common.{◌≡◌}
use Rattle.seize.specs.Blocks.{Belongs}
use Rattle.seize_uses.specs.Nests.{nest_owners}
use Rattle.seize_alone_rows.proofs.alone_further.chain.Given as goal

abbrev pub invariant-loop-number : goal.invariant-loop-number
invariant-loop-number l = (l.alone ≡ l.fn.alone) × Belongs nest_owners l.fn.alone.book.store l.block
