-- What was left of a slot on its shelf, in its place.
use Rattle.std.proofs.Common.{◌≡◌, ℕ, ◌<◌, ◌≤◌, ◌==◌, Bool, true, false, not, if◌then◌else◌, Option, None, Some, refl, sym, ap, subst, ◌∙◌, arith}
use Rattle.seize_machine.proofs.Facts.{and_true}
use Rattle.seize_machine.specs.Machine.State as machine
use Rattle.seize_model.specs.Waiting.Calls.{is_free, is_owned}
use Rattle.seize_book.specs.Homesteads.{state_seen}
use Rattle.seize_book.specs.Slots.{active_of, slot_of}
use Rattle.seize_book.specs.Tokens.{Name}
use Rattle.seize_book.specs.declared.book.pass.Pass.{Pass}
use Rattle.seize_words.specs.Joined.{words_book}
use Rattle.seize_words.specs.declared.words.Words.{Words}
use Rattle.seize_calls.specs.Slots.{IsPassOf, IsSlotOf, SlotLooks, its_number}
use Rattle.seize_calls.specs.declared.slot.Slot.{Slot}
use Rattle.seize_calls.proofs.Current.{shown}
use Rattle.seize_alone.specs.Begins.{IsUsedAs}
use Rattle.seize_parts.specs.Kinds.{kind_if_owned}
use Rattle.seize_book.specs.declared.book.seen.Seen.{Seen}
use Rattle.seize_words.specs.Activations.{with_units}
use Rattle.seize_words.specs.declared.activation.Activation.{Activation}
use mathlib.Core.List.{IsPrefix}
use Rattle.seize_calls.specs.Slots.{seen_book}
use Rattle.seize_parts.specs.Placing.{unit_in}
use Rattle.seize_parts.specs.Reservations.{IsReservation, IsUnit, IsUnitIn, place_label}
use Rattle.seize_parts.specs.Shelves.{IsLaidFor}
use Rattle.seize_parts.specs.declared.alone.place.Unit.{Unit as Held}
use Rattle.seize_parts.specs.declared.reservation.Reservation.{Reservation}
use Rattle.seize_parts.proofs.Swept.{idle_call}

-- How the slot is used, as its key and the pass know.

one_at_most : (most guards : ℕ) → (most == 1) ≡ true → guards ≤ most → guards ≤ 1
one_at_most most guards one fits = grind arith

in_use : (b : Bool) → true ≡ not (is_free (kind_if_owned b))
in_use true = refl
in_use false = refl

never_free : (b : Bool) (n : ℕ) → is_free (kind_if_owned b) ≡ true → n ≡ 0
never_free true n is = absurd (cc)
never_free false n is = absurd (cc)

owned_is : (b : Bool) → is_owned (kind_if_owned b) ≡ true → b ≡ true
owned_is true is = refl
owned_is false is = absurd (cc)

module _ {T : Type 0} (words : Words T) (slot slot' : Slot T) (p p' : Pass) (for : IsPassOf words p) (of : IsSlotOf words slot) (of' : IsSlotOf words slot') (looks : SlotLooks slot p slot' p') where
  pub used_left : (most guards : ℕ) → guards ≤ most → active_of slot'.holder.key ≡ not (guards == 0) → IsUsedAs (state_seen p') (its_number slot) (kind_if_owned (most == 1), guards)
  used_left most guards fits active = let so = shown slot slot' p p' looks (of.0.book ∙ for.0) in record {
    used = ap (λ (r : machine.Slot). r.used) so.0 ∙ (and_true (slot_of slot'.holder.key).used _ of'.1).0 ∙ in_use (most == 1);
    idle = ap (λ (r : machine.Slot). r.call) so.0 ∙ idle_call (slot_of slot'.holder.key) of'.1;
    active = so.1 ∙ active;
    free = never_free (most == 1) guards;
    owned = λ is. one_at_most most guards (owned_is (most == 1) is) fits;
  }

  pub label_left : place_label slot'.seen.name (its_number slot') 1 ≡ place_label (words_book words) (its_number slot) 1
  label_left = (λ j. place_label (of'.0.book j) (looks.0.same.0 j) 1)

-- With guards there is a unit.

pub some_not : (guards : ℕ) → 0 < guards → not (guards == 0) ≡ true
some_not guards some = grind arith

abbrev held : ℕ → Name → Option (ℕ × Name)
held s n = Some (s, n)

pub some_held : (s : ℕ) (n : Name) (guards number : ℕ) (name : Name) → 0 < guards → number ≡ s → name ≡ n → held number name ≡ (if guards == 0 then None else held s n)
some_held s n guards number name some numbered named = (λ j. held (numbered j) (named j)) ∙ ap (λ (b : Bool). if b then None else held s n) (sym (not_none guards some))
  where
    not_none : (k : ℕ) → 0 < k → (k == 0) ≡ false
    not_none k some = grind arith

-- A unit is one with others beside it.

pub unit_beside : (n : Name) (s t : ℕ) (u v : Activation) (k : ℕ) (seen : Seen) → v ≡ with_units u k → IsUnit n s u seen → t ≡ s → IsUnit seen.name t (with_units v 1) seen
unit_beside n s t u v k seen same is number =
    subst (λ (w : Activation). IsUnit seen.name t (with_units w 1) seen) (sym same)
    (record { book = refl; slot = is.0.slot ∙ sym number; one = refl; same = is.0.same; active = is.0.active; its = is.0.its }, is.1)

-- What lies in a place may go back on its shelf.

pub held_some : (held : Held) (s : ℕ) (n : Name) (b : Bool) → Some (unit_in held) ≡ (if b then None else Some (s, n)) → (b ≡ false) × (held.number ≡ s) × (held.seen.name ≡ n)
held_some held s n true is = absurd (cc)
held_some held s n false is = let same : unit_in held ≡ (s, n) = some_pair is in (refl, ap (λ (t : ℕ × Name). t.0) same, ap (λ (t : ℕ × Name). t.1) same)
  where
    some_pair : {a b : ℕ × Name} → Some a ≡ Some b → a ≡ b
    some_pair e = cc

pub held_none : (s : ℕ) (n : Name) (guards : ℕ) → (guards == 0) ≡ false → 0 < guards
held_none s n guards some = grind arith

pub unit_held : (held : Held) (n : Name) (s : ℕ) → held.number ≡ s → held.seen.name ≡ n → IsUnitIn held.seen.name held.number held.unit held.seen → IsPrefix held.unit.since held.seen.seen → IsUnit n s held.unit held.seen
unit_held held n s number name its known = subst (λ (t : Name × ℕ). IsUnit t.0 t.1 held.unit held.seen) (λ j. (name j, number j)) (its, known)

pub laid_with : {T : Type 0} (f most : ℕ) (r : Reservation T) → IsReservation r → (seen_book r.slot).family ≡ f → r.guards ≤ most → IsLaidFor f (record r { most = most })
laid_with f most r is family fits = (record { its = is.its; in_use = is.in_use; at = is.at; units = is.units; fits = fits }, family)
