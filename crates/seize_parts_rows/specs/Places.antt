-- What is known of a place between its calls.
--     LendsFor words porter     the porter lends passes of these words
--     IsPlace place     its reservation is one of a slot of its words, its head is the slot's, and its porter lends passes of these words
use Rattle.std.specs.Prelude.{◌≡◌, ℕ, false}
use Rattle.seize_book.specs.declared.book.porter.Porter.{Porter}
use Rattle.seize_calls.specs.Slots.{its_number}
use Rattle.seize_words.specs.Joined.{words_book}
use Rattle.seize_words.specs.declared.words.Words.{Words}
use Rattle.seize_parts.specs.Reservations.{IsHeadFor, IsReservation, IsReservationOf}
use Rattle.seize_parts_rows.specs.declared.place.Place.{Place}

abbrev pub LendsFor : Words ℕ → Porter → Type 0
LendsFor words porter = (porter.name ≡ words_book words) × (words.size ≡ porter.size) × (porter.home ≡ false)

pub record IsPlace (place : Place) : Type 0 where
  pub sound : IsReservation place.reservation
  pub its : IsReservationOf place.words.now place.reservation
  pub headed : IsHeadFor (words_book place.words.now) (its_number place.reservation.slot) place.head.now
  pub lends : LendsFor place.words.now place.porter.now
