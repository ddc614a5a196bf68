use Rattle.std.proofs.Common.{All}
use Rattle.seize.specs.Alones.{IsSame}
use Rattle.seize.specs.Blocks.{Belongs}
use Rattle.seize_uses.specs.Nests.{nest_owners}
use Rattle.seize_alone_rows.proofs.alone_memory.retire_all.Given as goal

abbrev pub invariant-loop-block : goal.invariant-loop-block
invariant-loop-block g l = IsSame l.fn.alone l.alone × All (Belongs nest_owners l.fn.alone.book.store) l.block-iterator.rest.items
