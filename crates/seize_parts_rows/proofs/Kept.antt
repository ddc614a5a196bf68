-- A place stays one where a work keeps its label.
use Rattle.std.proofs.Common.{◌≡◌, ℕ, ap, ◌∙◌}
use Rattle.seize_table.specs.Pairs.{pair}
use Rattle.seize_calls.specs.Slots.{seen_book, its_number}
use Rattle.seize_words.specs.Joined.{words_book}
use Rattle.seize_parts.specs.Reservations.{IsReservation, its_label}
use Rattle.seize_parts.specs.declared.reservation.Reservation.{Reservation}
use Rattle.seize_parts.proofs.Places.{head_for, in_place}
use Rattle.seize_parts_rows.specs.Places.{IsPlace}
use Rattle.seize_parts_rows.specs.declared.place.Place.{Place}

module _ (place : Place) (r : Reservation ℕ) (is : IsPlace place) (same : its_label r ≡ its_label place.reservation) where
  -- its slot is of the same list, with the same number
  same_slot : ((seen_book r.slot).family ≡ (words_book place.words.now).family) × (its_number r.slot ≡ its_number place.reservation.slot) × (r.most ≡ place.reservation.most)
  same_slot =
      let old = place.reservation in
      in_place (words_book place.words.now) (its_number old.slot) old.most r (same ∙ ap (λ (f : ℕ). pair (pair f (its_number old.slot)) old.most) is.its)

  pub same_number : its_number r.slot ≡ its_number place.reservation.slot
  same_number = same_slot.1

  pub kept : IsReservation r → IsPlace (record place { reservation = r })
  kept sound = record { sound = sound; its = same_slot.0; headed = head_for (words_book place.words.now) (its_number place.reservation.slot) (its_number r.slot) place.head.now is.headed same_number; lends = is.lends }
