-- How a collector that threads shared is found where one caller has it.
--     AreLeft pass places      what lies in these places was left there, as the pass has seen
--     LiesSomewhere slots places s   slot s lies here, or something lies in its place
--     ComesToRest pass pass' found    it is the same pass, with the same list, which is legal. So many slots were made, and what lies in
--                              the places that were found was left there. Where all is found each slot is used as its place says; where it
--                              is not, a number is in use
use Rattle.std.specs.Prelude.{◌≡◌, ◌⊎◌, ℕ, true, false, List, Option, None, Some, get_or, is_some, length}
use Rattle.seize_machine.specs.Machine.State.{slot_at}
use Rattle.seize_book.specs.Homesteads.{state_seen}
use Rattle.seize_book.specs.Passes.{IsSamePass}
use Rattle.seize_book.specs.Porters.{GoesOnTo}
use Rattle.seize_book.specs.declared.book.pass.Pass.{Pass}
use Rattle.seize_alone.specs.Begins.{IsUsedAs}
use Rattle.seize_parts.specs.Placing.{IsLeftAt, use_in}
use Rattle.seize_parts.specs.declared.alone.place.Place.{Place}
use Rattle.seize_parts.specs.declared.numbers.resting.Found.{Found}

abbrev pub AreLeft : {T : Type 0} → Pass → List (Option (Place T)) → Type 0
AreLeft {T} pass places =
    (s : ℕ) (place : Place T) → get_or places s None ≡ Some place → IsLeftAt pass.name (state_seen pass) s place

abbrev pub LiesSomewhere : {X Y : Type 0} → List (Option X) → List (Option Y) → ℕ → Type 0
LiesSomewhere slots places s = (is_some (get_or slots s None) ≡ true) ⊎ (is_some (get_or places s None) ≡ true)

pub record ComesToRest {T : Type 0} (pass pass' : Pass) (found : Found T) : Type 0 where
  pub same : IsSamePass pass pass'
  pub goes_on : GoesOnTo pass.name pass.seen pass'.seen
  pub made : found.made ≡ length (state_seen pass').slots
  pub left : AreLeft pass' found.places.items
  pub still : pass'.seen ≡ pass.seen
  pub used : found.all ≡ true → (s : ℕ) → IsUsedAs (state_seen pass') s (use_in (get_or found.places.items s None))
  pub kept : found.all ≡ false → ¬ ((s : ℕ) → (slot_at (state_seen pass') s).used ≡ false)
