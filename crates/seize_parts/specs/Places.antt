-- Passes that are alone, and what lies in the places of slots while a collector is in one caller's hands.
--     IsUnmoved pass pass'     it is the same pass, and where it is alone it has seen just what it had seen
--     IsOnly words r pass    a reservation for one guard of a slot of these words, and a pass of theirs that is alone
--     CallsSlot code puts told r pass r' pass' seen seen' Does     the slot of this reservation did that, once the pass was ready, which
--                            changed nothing. With what the reclaimer had it put as `puts` says, and the watch was told of that
--     MayCall words place pass     in the place lies a reservation for one guard of a slot of these words; and the pass, which is theirs
--                            too, is alone
--     HasUnit words place    the unit of the slot's activation lies there
--     LiesThen place lies    this lies in the place then, with a reservation that is one
use Rattle.std.specs.Prelude.{◌≡◌, ℕ, List, Some}
use base.Stored.{Gv}
use mathlib.Core.List.{IsPrefix}
use Rattle.seize_book.specs.Book.{IsLegalList}
use Rattle.seize_book.specs.Passes.{IsSamePass}
use Rattle.seize_book.specs.Tokens.{IsSole, start}
use Rattle.seize_book.specs.declared.book.pass.Pass.{Pass}
use Rattle.seize_words.specs.Joined.{words_book}
use Rattle.seize_words.specs.declared.words.Words.{Words}
use Rattle.seize_calls.specs.Handing.{Had}
use Rattle.seize_calls.specs.Slots.{IsPassOf, its_number}
use Rattle.seize_calls.specs.declared.slot.Slot.{Slot}
use Rattle.seize_alone.specs.Gone.{PutAs}
use Rattle.seize_parts.specs.Placing.{Lies, what_lies_in}
use Rattle.seize_parts.specs.Reservations.{IsReservation, IsReservationOf, IsUnit}
use Rattle.seize_parts.specs.Told.{HasTold}
use Rattle.seize_parts.specs.declared.alone.place.Place.{Place}
use Rattle.seize_parts.specs.declared.alone.place.Unit.{Unit as Held}
use Rattle.seize_parts.specs.declared.reservation.Reservation.{Reservation}

pub record IsUnmoved (pass pass' : Pass) : Type 0 where
  pub same : IsSamePass pass pass'
  pub alone : IsSole pass.id → pass'.seen ≡ pass.seen

abbrev pub IsOnly : {T : Type 0} → Words T → Reservation T → Pass → Type 0
IsOnly words r pass = IsReservationOf words r × (r.most ≡ 1) × IsPassOf words pass × IsSole pass.id

pub record CallsSlot {T Seen : Type 0} (code : T → Gv) (puts : ℕ → T → List T) (told : Seen → T → Seen) (r : Reservation T) (pass : Pass)
    (r' : Reservation T) (pass' : Pass) (seen seen' : Seen) (Does : Slot T → Pass → Slot T → Pass → Had → Type 0) : Type 0 where
  pub same : IsSamePass pass pass'
  pub grows : IsPrefix pass.seen pass'.seen
  pub slot : Slot T
  pub ready : Pass
  pub its : its_number slot ≡ its_number r.slot
  pub still : IsUnmoved pass ready
  pub had : Had
  pub does : Does slot ready r'.slot pass' had
  pub legal : IsLegalList (start pass'.name) pass'.seen
  pub put : PutAs code puts had
  pub tells : HasTold code told seen seen' had

abbrev pub MayCall : {T : Type 0} → Words T → Place T → Pass → Type 0
MayCall words place pass = IsReservation place.reservation × IsOnly words place.reservation pass

abbrev pub HasUnit : {T : Type 0} → Words T → Place T → Type 0
HasUnit words place =
    (unit : Held) × (place.unit ≡ Some unit) × IsUnit (words_book words) (its_number place.reservation.slot) unit.unit unit.seen

abbrev pub LiesThen : {T : Type 0} → Place T → Lies → Type 0
LiesThen place lies = (what_lies_in place ≡ lies) × IsReservation place.reservation
