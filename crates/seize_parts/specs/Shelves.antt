-- What lies where a forgotten holder of a slot left it.
--     IsLaidFor f r            it is a reservation of a slot of the list of this family
--     IsForgottenOf f units    these are units of an activation of a slot of that list, which had begun as was seen
--     IsAllLeft n r forgotten    this is all that was left of slot n: with its reservation the units of as many guards as it has
--     IsShelfFor words shelf   it is a shelf for slots of these words
--     AreOfFamily f shelves    these are shelves of this family
use Rattle.std.specs.Prelude.{◌≡◌, ℕ, List, Option, None, Some, get_or}
use Rattle.seize_words.specs.Activations.{with_units}
use Rattle.seize_words.specs.Joined.{words_book}
use Rattle.seize_words.specs.declared.words.Words.{Words}
use Rattle.seize_calls.specs.Slots.{seen_book, its_number}
use Rattle.seize_parts.specs.Reservations.{IsReservation, IsUnit}
use Rattle.seize_parts.specs.declared.shelf.forgotten.Forgotten.{Forgotten}
use Rattle.seize_parts.specs.declared.reservation.Reservation.{Reservation}

abbrev pub IsLaidFor : {T : Type 0} → ℕ → Reservation T → Type 0
IsLaidFor f r = IsReservation r × ((seen_book r.slot).family ≡ f)

abbrev pub IsForgottenOf : ℕ → Forgotten → Type 0
IsForgottenOf f units = (units.seen.name.family ≡ f) × IsUnit units.seen.name units.number (with_units units.units 1) units.seen

abbrev pub IsAllLeft : {T : Type 0} → ℕ → Reservation T → Option Forgotten → Type 0
IsAllLeft n r None = (its_number r.slot ≡ n) × (r.guards ≡ 0)
IsAllLeft n r (Some units) = (its_number r.slot ≡ n) × (units.number ≡ n) × (units.count ≡ r.guards)

abbrev pub IsShelfFor : {T : Type 0} → Words T → ℕ → Type 0
IsShelfFor words shelf = shelf ≡ (words_book words).family

abbrev pub AreOfFamily : ℕ → List ℕ → Type 0
AreOfFamily f shelves = (i : ℕ) → get_or shelves i f ≡ f
