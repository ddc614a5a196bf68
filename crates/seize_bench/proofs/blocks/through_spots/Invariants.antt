use Rattle.seize_store.specs.Named.{AreOfStore, store_name}
use Rattle.seize_bench.proofs.blocks.through_spots.Given as goal

abbrev pub invariant-loop-value : goal.invariant-loop-value
invariant-loop-value l = AreOfStore l.spots (store_name l.store)
