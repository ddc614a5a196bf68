use Rattle.std.proofs.Common.{◌≡◌, List, ◌++◌, All, map}
use Rattle.seize_parts.specs.Blocks.{Belongs, content}
use Rattle.seize_parts.specs.Furthers.{Joins, further_store}
use Rattle.seize_parts.proofs.reclaim.further.Further.put_all.Given as goal

abbrev pub invariant-loop-owned : goal.invariant-loop-owned
invariant-loop-owned g l =
    ((done : List g.row.T.Denot) × Joins g.row.T.coded.code l.initial.self l.self done
    × (map content l.fn.blocks.items ≡ done ++ map content l.owned-iterator.rest.items))
    × All (Belongs g.R.Puts.owners (further_store l.initial.self)) l.owned-iterator.rest.items
