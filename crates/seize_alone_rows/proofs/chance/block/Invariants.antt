use Rattle.std.proofs.Common.{◌≡◌}
use Rattle.seize.specs.Blocks.{Belongs}
use Rattle.seize_uses.specs.Nests.{nest_owners}
use Rattle.seize_alone_rows.proofs.chance.block.Given as goal

abbrev pub invariant-loop : goal.invariant-loop
invariant-loop l = (l.alone ≡ l.fn.alone) × Belongs nest_owners l.fn.alone.book.store l.block
