-- What lies in the place of a slot between the calls of its guards.
--     place_label n s m      the label of what lies in the place of slot s of the list n, which may have m guards
--     its_label r            that of a reservation
--     IsAt slot rest guards  without a guard the slot is inactive, and the rest is an activation of it that may begin; else the slot is in
--                            the activation of which this is the rest
--     IsReservation r        its slot is one of its list, in use, and so; the activation's units are with the guards and with the rest
--     IsReservationOf words r     its slot is of the list of these words, by the list's family
--     KeepsPlace r r'           it is a reservation under the same label
--     IsHeadFor n s head     it is the head of slot s of the list n
--     IsUnitIn n s unit seen     it is one unit of an activation of slot s of the list n, which was active with what it began with
--     IsUnit n s unit seen   and that was seen
use Rattle.std.specs.Prelude.{◌≡◌, ℕ, suc, zero, ◌+◌, ◌≤◌, true}
use mathlib.Core.List.{IsPrefix}
use Rattle.seize_table.specs.Pairs.{pair}
use Rattle.seize_machine.specs.Machine.State.{head_at, is_active}
use Rattle.seize_book.specs.Book.{after}
use Rattle.seize_book.specs.Laws.{life}
use Rattle.seize_book.specs.Tokens.{Name, start}
use Rattle.seize_book.specs.declared.book.seen.Seen.{Seen}
use Rattle.seize_words.specs.Joined.{words_book}
use Rattle.seize_words.specs.Named.{head_book}
use Rattle.seize_words.specs.Reservations.{slot as head_slot}
use Rattle.seize_words.specs.Units.{all_units}
use Rattle.seize_words.specs.declared.activation.Activation.{Activation}
use Rattle.seize_words.specs.declared.reservation.Head.{Head}
use Rattle.seize_words.specs.declared.words.Words.{Words}
use Rattle.seize_calls.specs.Slots.{InActivation, IsInUse, IsOfList, MayEnterWith, seen_book, its_number}
use Rattle.seize_calls.specs.declared.slot.Slot.{Slot}
use Rattle.seize_parts.specs.declared.reservation.Reservation.{Reservation}

abbrev pub place_label : Name → ℕ → ℕ → ℕ
place_label n s m = pair (pair n.family s) m

abbrev pub its_label : {T : Type 0} → Reservation T → ℕ
its_label r = place_label (seen_book r.slot) (its_number r.slot) r.most

abbrev pub IsAt : {T : Type 0} → Slot T → Activation → ℕ → Type 0
IsAt slot rest zero = MayEnterWith slot rest
IsAt slot rest (suc n) = InActivation slot rest

pub record IsReservation {T : Type 0} (r : Reservation T) : Type 0 where
  pub its : IsOfList (seen_book r.slot) r.slot
  pub in_use : IsInUse r.slot
  pub at : IsAt r.slot r.rest r.guards
  pub units : r.rest.units + r.guards ≡ all_units
  pub fits : r.guards ≤ r.most

abbrev pub IsReservationOf : {T : Type 0} → Words T → Reservation T → Type 0
IsReservationOf words r = (seen_book r.slot).family ≡ (words_book words).family

abbrev pub KeepsPlace : {T : Type 0} → Reservation T → Reservation T → Type 0
KeepsPlace r r' = (its_label r' ≡ its_label r) × IsReservation r'

abbrev pub IsHeadFor : Name → ℕ → Head → Type 0
IsHeadFor n s head = (head_book head ≡ n) × (head_slot head ≡ s)

pub record IsUnitIn (n : Name) (s : ℕ) (unit : Activation) (seen : Seen) : Type 0 where
  pub book : seen.name ≡ n
  pub slot : unit.slot ≡ s
  pub one : unit.units ≡ 1
  pub same : unit.name ≡ seen.name
  pub active : is_active (head_at (after (start unit.name) unit.since) unit.slot) ≡ true
  pub its : life unit.slot unit.since ≡ unit.life

abbrev pub IsUnit : Name → ℕ → Activation → Seen → Type 0
IsUnit n s unit seen = IsUnitIn n s unit seen × IsPrefix unit.since seen.seen
