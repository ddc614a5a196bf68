-- Which reservation lies in the place of a registration or of a guard, and what its works tell of it.
use Rattle.std.proofs.Common.{◌≡◌, ◌⊎◌, ◌<◌, ◌≤◌, ℕ, inl, inr, arith, sym, ◌∙◌}
use Rattle.seize_book.specs.Tokens.{Name}
use Rattle.seize_calls.specs.Slots.{seen_book as slot_list, its_number}
use Rattle.seize_words.specs.declared.reservation.Head.{Head}
use Rattle.seize_calls.specs.Slots.{IsItsHead}
use Rattle.seize_calls.specs.declared.slot.Slot.{Slot}
use Rattle.seize_parts.specs.Reservations.{IsHeadFor, its_label, place_label}
use Rattle.seize_parts.specs.declared.reservation.Reservation.{Reservation}
use Rattle.seize_parts.proofs.Placed.{label_family, label_most, label_number}

-- it is of the list and of the slot that its label says, for so many guards
pub in_place : {T : Type 0} (n : Name) (s m : ℕ) (r : Reservation T) → its_label r ≡ place_label n s m → ((slot_list r.slot).family ≡ n.family) × (its_number r.slot ≡ s) × (r.most ≡ m)
in_place n s m r at =
    (label_family (slot_list r.slot) n (its_number r.slot) s r.most m at, label_number (slot_list r.slot) n (its_number r.slot) s r.most m at, label_most (slot_list r.slot) n (its_number r.slot) s r.most m at)

-- The head of a place is that of the slot that lies there.
pub head_for : (n : Name) (s t : ℕ) (head : Head) → IsHeadFor n s head → t ≡ s → IsHeadFor n t head
head_for n s t head is same = (is.0, is.1 ∙ sym same)

pub own_head : {T : Type 0} (slot : Slot T) (n : Name) (s : ℕ) (head : Head) → IsHeadFor n s head → slot.seen.name ≡ n → its_number slot ≡ s → IsItsHead slot head
own_head slot n s head is book number = (is.0 ∙ sym book, is.1 ∙ sym number)

-- Of two outcomes one is told, whichever guard it was;
pub one_of_two : {A B X Y : Type 0} → (A × X) ⊎ (B × Y) → X ⊎ Y
one_of_two (inl t) = inl t.1
one_of_two (inr t) = inr t.1

-- and where there is one guard at most, the first.
pub first_of_two : {X Y : Type 0} (guards most : ℕ) → guards ≤ most → most ≡ 1 → ((guards ≡ 1) × X) ⊎ ((1 < guards) × Y) → X
first_of_two guards most fits one (inl t) = t.1
first_of_two guards most fits one (inr t) = absurd (omega (arith, fits, one, t.0))
