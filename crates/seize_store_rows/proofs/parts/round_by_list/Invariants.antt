use Rattle.seize_store.specs.Named.{AreOfStore, store_name}
use Rattle.seize_store_rows.proofs.parts.round_by_list.Given as goal

-- the list is the store's
abbrev pub invariant-loop-value : goal.invariant-loop-value
invariant-loop-value l = AreOfStore l.spots (store_name l.fn.store)
