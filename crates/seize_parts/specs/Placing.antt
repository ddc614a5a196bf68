-- What lies in the places of slots while a collector is in one caller's hands, as its state says.
--     Lies              whether the slot is owned, how many guards it has, the label of its reservation, the number and the list of the
--                       unit of its activation, and its shelf
--     held_in place     the unit of the activation of the slot in this place, where one lies there
--     what_lies_in place     what lies in this place
--     what_lies_with place guards unit     what lies there with so many guards and this unit
--     lying_in n slot s     what lies in the place of slot s of the list n, which is in use, where the state says this of it
--     lies_for n slot s     so it is, or nothing lies there where the slot is free
--     ArePlaces n st places     so it is with each of these places, and each reservation that lies there is one
--     AreSound places   each reservation that lies in these is one
--     use_in o          how the slot is used in whose place this lies: it is free where nothing does
--     IsLeftAt n now s place     what lies there was left of slot s of the list n: it is used so, as the machine says
--     MayLay n place    what lies there is of a slot of the list n, and so is its shelf; the guards' unit is there where it has guards
use Rattle.std.specs.Prelude.{◌≡◌, ◌==◌, ◌≤◌, ℕ, Bool, true, List, Option, None, Some, get_or, if◌then◌else◌, option_map}
use Rattle.seize_machine.specs.Machine.State as machine
use Rattle.seize_model.specs.declared.kind.Kind.{Kind}
use Rattle.seize_model.specs.declared.kind.Kind.TheVariants.{Free}
use Rattle.seize_model.specs.Waiting.Calls.{is_free, is_owned}
use Rattle.seize_model.specs.Waiting.State.{ModelSlot, ModelState, has_guard, model_slot}
use Rattle.seize_book.specs.Tokens.{Name}
use Rattle.seize_alone.specs.Begins.{IsUsedAs}
use Rattle.seize_parts.specs.Kinds.{kind_if_owned}
use Rattle.seize_parts.specs.Reservations.{IsReservation, its_label, place_label}
use Rattle.seize_parts.specs.declared.alone.place.Place.{Place}
use Rattle.seize_parts.specs.declared.alone.place.Unit.{Unit as Held}

abbrev pub Lies : Type 0
Lies = Bool × (ℕ × (ℕ × (Option (ℕ × Name) × ℕ)))

abbrev pub unit_in : Held → ℕ × Name
unit_in held = (held.number, held.seen.name)

abbrev pub held_in : {T : Type 0} → Option (Place T) → Option Held
held_in (Some place) = place.unit
held_in None = None

abbrev pub what_lies_in : {T : Type 0} → Place T → Lies
what_lies_in place = (place.owned, (place.guards, (its_label place.reservation, (option_map unit_in place.unit, place.shelf))))

abbrev pub what_lies_with : {T : Type 0} → Place T → ℕ → Option (ℕ × Name) → Lies
what_lies_with place guards unit = (place.owned, (guards, (its_label place.reservation, (unit, place.shelf))))

abbrev pub lying_in : {T : Type 0} → Name → ModelSlot T ℕ → ℕ → Lies
lying_in n slot s = (is_owned slot.kind, (slot.guards, (place_label n s 1, ((if has_guard slot then Some (s, n) else None), n.family))))

abbrev pub lies_for : {T : Type 0} → Name → ModelSlot T ℕ → ℕ → Option Lies
lies_for n slot s = if is_free slot.kind then None else Some (lying_in n slot s)

abbrev pub AreSound : {T : Type 0} → List (Option (Place T)) → Type 0
AreSound {T} places = (s : ℕ) (place : Place T) → get_or places s None ≡ Some place → IsReservation place.reservation

pub record ArePlaces {T : Type 0} (n : Name) (st : ModelState T ℕ) (places : List (Option (Place T))) : Type 0 where
  pub lie : (s : ℕ) → option_map what_lies_in (get_or places s None) ≡ lies_for n (model_slot st s) s
  pub sound : AreSound places

abbrev pub use_in : {T : Type 0} → Option (Place T) → Kind × ℕ
use_in None = (Free, 0)
use_in (Some place) = (kind_if_owned place.owned, place.guards)

pub record IsLeftAt {T : Type 0} (n : Name) (now : machine.State) (s : ℕ) (place : Place T) : Type 0 where
  pub used : IsUsedAs now s (use_in (Some place))
  pub sound : IsReservation place.reservation
  pub reservation : its_label place.reservation ≡ place_label n s 1
  pub unit : option_map unit_in place.unit ≡ (if place.guards == 0 then None else Some (s, n))
  pub shelf : place.shelf ≡ n.family

pub record MayLay {T : Type 0} (n : Name) (place : Place T) : Type 0 where
  pub slot : ℕ
  pub sound : IsReservation place.reservation
  pub reservation : its_label place.reservation ≡ place_label n slot 1
  pub unit : option_map unit_in place.unit ≡ (if place.guards == 0 then None else Some (slot, n))
  pub shelf : place.shelf ≡ n.family
  pub fits : place.owned ≡ true → place.guards ≤ 1
