-- What a block ends as, once a `&mut` to its value has ended, and what lies in a place then.
--     with_content o x      the block o with the value x, and all else as it was
--     lends_content o r     o ends with the last value behind the reference r
--     lends_place o r       what lies in the place o ends as the last value behind r
use Rattle.std.specs.Borrow.{Fml, RattleType, MutBor, Lends}
use Rattle.std.specs.Prelude.{Option}
use Rattle.core.specs.Option.Follows.{option_follows_value}
use Rattle.seize_store.specs.Lends.{owned_with}
use Rattle.seize_parts.specs.declared.alone.place.Place.{Place}
use Rattle.seize_parts.specs.declared.block.owned.Owned.{Owned}
use Rattle.seize_parts.specs.contracts.alone.place.Place as place_row
use Rattle.seize_parts.specs.contracts.block.owned.Owned as owned_row

abbrev pub with_content : {T : Type 0} → Owned T → T → Owned T
with_content owned value = record owned { block = owned_with owned.block value }

abbrev pub lends_content : (R : RattleType) → MutBor (Owned R.Denot) → MutBor R.Denot → Fml
lends_content R owned r = Lends (owned_row.the_row R) R owned r (with_content owned.now)

abbrev pub lends_place : (R : RattleType) → MutBor (Option (Place R.Denot)) → MutBor (Place R.Denot) → Fml
lends_place R = option_follows_value (place_row.the_row R)
