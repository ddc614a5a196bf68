use Rattle.std.proofs.Common.{◌≡◌, All}
use Rattle.seize.specs.Blocks.{Belongs}
use Rattle.seize_uses.specs.Nests.{nest_owners}
use Rattle.seize_alone_rows.proofs.alone_further.leaves.Given as goal

abbrev pub invariant-loop-n : goal.invariant-loop-n
invariant-loop-n l = (l.alone ≡ l.fn.alone) × All (Belongs nest_owners l.fn.alone.book.store) l.inside.items
