-- A retirement with nothing to attempt, as a work in a slot's place: it was made, or its value came back.
use Rattle.std.proofs.Common.{◌≡◌, ℕ, false, [], Ok, Err, IfErr, IfOk, ap, sym, subst}
use Rattle.core.specs.declared.result.Result.{Result}
use Rattle.seize_machine.specs.declared.machine.event.Job.TheVariants.{Retire}
use Rattle.seize_book.specs.declared.book.pass.Pass.{Pass}
use Rattle.seize_words.specs.declared.words.Words.{Words}
use Rattle.seize_calls.specs.Slots.{IsPassOf, IsSlotOf, KeepsActivation, SlotRetires, its_number, its_value}
use Rattle.seize_calls.specs.declared.slot.Loose.{Loose}
use Rattle.seize_calls.specs.declared.slot.Slot.{Slot}
use Rattle.seize_parts.specs.Makes.{Defers, IsOfKind}
use Rattle.seize_parts.specs.Reservations.{IsAt, IsReservation, its_label, place_label}
use Rattle.seize_parts.specs.declared.reservation.Reservation.{Reservation}
use Rattle.seize_parts.proofs.OfKind.{kind_told}
use Rattle.seize_parts.proofs.Placed.{at_kept, label_same, may_still, placed}
use Rattle.seize_parts.proofs.Steps.{no_puts}
use Rattle.seize_parts.proofs.Wholly.{slot_retires}

module _ {T : Type 0} (words : Words T) (r : Reservation T) (pass : Pass) (loose : Loose) (kind : ℕ) (slot' : Slot T) (pass' : Pass) where
  -- so the place is as it should be, and this was made
  abbrev Did : Result (Unit {0}) Loose → Type 0
  Did e = IfOk e (λ _. Defers (its_number r.slot) (Retire (its_value loose)) pass pass' × IsOfKind (its_value loose) kind pass') × IfErr e (λ back. (back ≡ loose) × (pass' ≡ pass))

  abbrev Stands : Type 0
  Stands = (place_label slot'.seen.name (its_number slot') r.most ≡ its_label r) × IsReservation (record { slot = slot'; rest = r.rest; guards = r.guards; most = r.most })

  pub retired_or_back : IsReservation r → IsPassOf words pass → IsSlotOf words slot' → KeepsActivation r.slot slot' → (e : Result (Unit {0}) Loose) → IfOk e (λ _. SlotRetires r.slot pass loose kind [] slot' pass' [] false)
      → IfErr e (λ back. (back ≡ loose) × (slot' ≡ r.slot) × (pass' ≡ pass)) → Stands × Did e
  retired_or_back is for of stays (Ok u) retires same = (
    (
      label_same r.slot slot' r.most retires.same,
      placed words slot' r.rest r.guards r.most of (at_kept r.slot slot' r.rest r.guards (may_still r.slot slot' r.rest retires.does.rests.its retires.does.active) (stays r.rest) is.at) is.units is.fits,
    ),
    (((slot_retires (λ _ _ _. ⊥) pass' (no_puts pass'.seen) words r.slot pass slot' of.0 for [] [] tt loose kind false retires).0, kind_told _ _ _ _ _ _ _ _ _ _ _ retires.does), tt),
  )
  retired_or_back is for of stays (Err back) retires same = (
    (
      ap (λ (s : Slot T). place_label s.seen.name (its_number s) r.most) same.1,
      placed words slot' r.rest r.guards r.most of (subst (λ (s : Slot T). IsAt s r.rest r.guards) (sym same.1) is.at) is.units is.fits,
    ),
    (tt, (same.0, same.2)),
  )
