-- What a block ends as, once a `&mut` to its value has ended.
--     block_with b x, owned_with o x     the blocks b and o with the value x, and all else as it was
--     lends_room f b r, lends_owned_value f o r     b and o end with the last value behind the reference r, where owners' parts are
--                                      labelled by f
use Rattle.std.specs.Prelude.{ℕ}
use Rattle.std.specs.Borrow.{Fml, RattleType, MutBor, Lends}
use Rattle.seize_store.specs.declared.block.Block.{Block}
use Rattle.seize_store.specs.declared.owned.Owned.{Owned}
use Rattle.seize_store.specs.contracts.block.Block as block_row
use Rattle.seize_store.specs.contracts.owned.Owned as owned_row

abbrev pub block_with : {H P T : Type 0} → Block H P T → T → Block H P T
block_with block value = record block { value = value }

abbrev pub lends_room : (X U R : RattleType) → (U.Denot → ℕ) → MutBor (Block X.Denot U.Denot R.Denot) → MutBor R.Denot → Fml
lends_room X U R f block r = Lends (block_row.the_row X U R (record { label = f })) R block r (block_with block.now)

abbrev pub owned_with : {H P T : Type 0} → Owned H P T → T → Owned H P T
owned_with owned value = record owned { block = block_with owned.block value }

abbrev pub lends_owned_value : (X U R : RattleType) → (U.Denot → ℕ) → MutBor (Owned X.Denot U.Denot R.Denot) → MutBor R.Denot → Fml
lends_owned_value X U R f owned r = Lends (owned_row.the_row X U R (record { label = f })) R owned r (owned_with owned.now)
