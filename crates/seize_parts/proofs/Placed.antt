-- What lies in the place of a slot, by its label: it is of that slot, and a call leaves it so.
use Rattle.std.proofs.Common.{◌≡◌, ℕ, suc, zero, ◌+◌, ◌-◌, ◌<◌, ◌≤◌, arith, refl, sym, ap, subst, ◌∙◌}
use Rattle.std.proofs.lemmas.Bool.{false≢true}
use mathlib.Core.List.{IsPrefix}
use Rattle.seize_table.specs.Pairs.{left_of, pair, right_of}
use Rattle.seize_table.proofs.Pairs.{left_pair, right_pair}
use Rattle.seize_book.specs.Books.{Learns}
use Rattle.seize_book.specs.Passes.{IsSamePass}
use Rattle.seize_book.specs.Slots.{active_of, slot_number}
use Rattle.seize_book.specs.Tokens.{Name}
use Rattle.seize_book.specs.declared.book.pass.Pass.{Pass}
use Rattle.seize_book.specs.declared.book.seen.Seen.{Seen}
use Rattle.seize_words.specs.Activations.{JoinsUnits, with_units}
use Rattle.seize_words.specs.Joined.{words_book}
use Rattle.seize_words.specs.Named.{slot_book}
use Rattle.seize_words.specs.Units.{all_units}
use Rattle.seize_words.specs.declared.activation.Activation.{Activation}
use Rattle.seize_words.specs.declared.words.Words.{Words}
use Rattle.seize_calls.specs.Calls.{HasBegun}
use Rattle.seize_calls.specs.Slots.{InActivation, IsActive, IsPassOf, IsSlotOf, MayEnterWith, Prepares, SlotLooks, its_number}
use Rattle.seize_calls.specs.Together.{what_saw}
use Rattle.seize_calls.specs.declared.slot.Slot.{Slot}
use Rattle.seize_calls.proofs.Slots.{begun_later, longer_right}
use Rattle.seize_parts.specs.Makes.{IsActiveIn, MakesNone}
use Rattle.seize_parts.specs.Reservations.{IsAt, IsReservation, IsUnit, place_label}
use Rattle.seize_parts.specs.declared.reservation.Reservation.{Reservation}
use Rattle.seize_parts.proofs.Current.{looks_active, slot_looks}
use Rattle.seize_parts.proofs.Made.{none_prepared, none_then}

-- Labels: two that are the same are of slots of one number, of lists of one family, and for as many guards.

module _ (n m : Name) (s t a b : ℕ) (same : place_label n s a ≡ place_label m t b) where
  one_place : pair n.family s ≡ pair m.family t
  one_place = sym (left_pair (pair n.family s) a) ∙ ap left_of same ∙ left_pair (pair m.family t) b

  pub label_family : n.family ≡ m.family
  label_family = sym (left_pair n.family s) ∙ ap left_of one_place ∙ left_pair m.family t

  pub label_number : s ≡ t
  label_number = sym (right_pair n.family s) ∙ ap right_of one_place ∙ right_pair m.family t

  pub label_most : a ≡ b
  label_most = sym (right_pair (pair n.family s) a) ∙ ap right_of same ∙ right_pair (pair m.family t) b

pub label_same : {T : Type 0} (slot slot' : Slot T) (most : ℕ) → (slot'.number ≡ slot.number) × (slot'.seen.name ≡ slot.seen.name) → place_label slot'.seen.name (its_number slot') most ≡ place_label slot.seen.name (its_number slot) most
label_same slot slot' most same = ap (λ (t : ℕ × Name). place_label t.1 t.0 most) (λ j. (same.0 j, same.1 j))

-- The slot that lies there.

-- it is one of the words of its list
pub placed_slot : {T : Type 0} (words : Words T) (r : Reservation T) → IsReservation r → r.slot.seen.name ≡ words_book words → IsSlotOf words r.slot
placed_slot words r is same = (record { book = same; knows = is.its.knows; told = is.its.told }, is.in_use)

-- and such a slot may lie there
pub placed : {T : Type 0} (words : Words T) (slot : Slot T) (rest : Activation) (guards most : ℕ) → IsSlotOf words slot → IsAt slot rest guards → rest.units + guards ≡ all_units → guards ≤ most
    → IsReservation (record { slot = slot; rest = rest; guards = guards; most = most })
placed words slot rest guards most of at units fits = record { its = record { book = refl; knows = of.0.knows; told = of.0.told }; in_use = of.1; at = at; units = units; fits = fits }

-- without a guard it may enter
pub at_none : {T : Type 0} (slot : Slot T) (rest : Activation) (guards : ℕ) → guards ≡ 0 → IsAt slot rest guards → MayEnterWith slot rest
at_none slot rest guards none at = subst (IsAt slot rest) none at

pub none_at : {T : Type 0} (slot : Slot T) (rest : Activation) (guards : ℕ) → guards ≡ 0 → MayEnterWith slot rest → IsAt slot rest guards
none_at slot rest guards none may = subst (IsAt slot rest) (sym none) may

-- with one it is in its activation
pub at_some : {T : Type 0} (slot : Slot T) (rest : Activation) (guards : ℕ) → 0 < guards → IsAt slot rest guards → InActivation slot rest
at_some slot rest zero some at = absurd (omega (arith, some))
at_some slot rest (suc n) some at = at

pub some_at : {T : Type 0} (slot : Slot T) (rest : Activation) (guards : ℕ) → 0 < guards → InActivation slot rest → IsAt slot rest guards
some_at slot rest zero some within = absurd (omega (arith, some))
some_at slot rest (suc n) some within = within

-- and a slot that is active has one
pub active_some : {T : Type 0} (slot : Slot T) (rest : Activation) (guards : ℕ) → IsActive slot → IsAt slot rest guards → 0 < guards
active_some slot rest zero active at = absurd (false≢true (sym at.0 ∙ active))
active_some slot rest (suc n) active at = omega arith

-- what a call keeps of its slot is kept there
pub at_kept : {T : Type 0} (slot slot' : Slot T) (rest : Activation) (guards : ℕ) → (MayEnterWith slot rest → MayEnterWith slot' rest) → (InActivation slot rest → InActivation slot' rest) → IsAt slot rest guards → IsAt slot' rest guards
at_kept slot slot' rest zero may within at = may at
at_kept slot slot' rest (suc n) may within at = within at

-- a slot that is inactive still may enter with the same activation
pub may_still : {T : Type 0} (slot slot' : Slot T) (rest : Activation) → (slot_book slot'.holder.key ≡ slot_book slot.holder.key) × (slot_number slot'.holder.key ≡ slot_number slot.holder.key) → active_of slot'.holder.key ≡ active_of slot.holder.key
    → MayEnterWith slot rest → MayEnterWith slot' rest
may_still slot slot' rest its active may = (active ∙ may.0, (may.1.0 ∙ sym its.0, may.1.1 ∙ sym its.1, may.1.2))

-- Passes.

-- a pass for the words is one for them later
pub still_for : {T : Type 0} (words : Words T) (pass pass' : Pass) → IsPassOf words pass → IsSamePass pass pass' → IsPassOf words pass'
still_for words pass pass' for same = (for.0 ∙ sym same.0, for.1 ∙ sym same.2)

-- and a look with the slot, after the pass has learned what the slot had seen, shows that the slot is active still
pub still_active : {T : Type 0} (words : Words T) (slot : Slot T) (pass ready : Pass) (slot' : Slot T) (pass' : Pass) → IsSlotOf words slot → IsPassOf words pass → Prepares slot pass ready
    → SlotLooks slot ready slot' pass' → IsActive slot → MakesNone pass pass' × IsActiveIn pass' (its_number slot)
still_active words slot pass ready slot' pass' of for prepares looks active = (
  none_then (none_prepared slot pass ready prepares) (slot_looks slot ready slot' pass' looks),
  looks_active slot ready slot' pass' words of.0 (still_for words pass ready for prepares.same) looks active,
)

-- Units of an activation, as a guard has one.

-- how many units there are says nothing of the activation
pub units_within : {T : Type 0} (slot : Slot T) (a a' : Activation) (n : ℕ) → a' ≡ with_units a n → InActivation slot a → InActivation slot a'
units_within slot a a' n same within = subst (InActivation slot) (sym same) (record {
  active = within.active;
  its = within.its;
  begun = record { book = within.begun.book; active = within.begun.active; its = within.begun.its; known = within.begun.known };
})

-- when a guard's unit is with the rest again, all units are there but those of the other guards
pub units_joined : (rest unit rest' : Activation) (guards : ℕ) → JoinsUnits rest unit rest' → unit.units ≡ 1 → rest.units + guards ≡ all_units → 0 < guards → rest'.units + (guards - 1) ≡ all_units
units_joined rest unit rest' guards joins one all some = let joined : rest'.units ≡ rest.units + unit.units = ap (λ (a : Activation). a.units) joins in omega (arith, joined, one, all, some)

-- one unit is split off of the activation of a slot
pub unit_in : {T : Type 0} (n : Name) (s : ℕ) (slot : Slot T) (rest unit : Activation) (seen : Seen) → slot.seen.name ≡ n → its_number slot ≡ s → InActivation slot rest → unit ≡ with_units rest 1
    → seen.name ≡ slot.seen.name → seen.seen ≡ slot.seen.seen → IsUnit n s unit seen
unit_in n s slot rest unit seen book number within is name saw = subst (λ (u : Activation). IsUnit n s u seen) (sym is) (
  record {
    book = name ∙ book;
    slot = within.its.1 ∙ slot.together.numbered ∙ number;
    one = refl;
    same = within.begun.book ∙ sym name;
    active = within.begun.active;
    its = within.begun.its;
  },
  subst (IsPrefix rest.since) (sym saw) within.begun.known,
)

-- and it may be named in another way
pub unit_as : (n : Name) (s t : ℕ) (a b : Activation) (seen : Seen) → t ≡ s → b ≡ a → IsUnit n s a seen → IsUnit n t b seen
unit_as n s t a b seen number same unit = subst (λ (k : ℕ × Activation). IsUnit n k.0 k.1 seen) (λ j. (sym number j, sym same j)) unit

-- what was seen says that it has begun, and so does a pass that learned it
pub begun_learned : (n : Name) (s : ℕ) (unit : Activation) (seen : Seen) (pass pass' : Pass) → IsUnit n s unit seen → Learns pass seen pass' → seen.name ≡ pass.name → HasBegun unit pass'
begun_learned n s unit seen pass pass' is learns same =
    begun_later unit (what_saw seen) pass' (learns.0.0 ∙ sym same) (longer_right pass.seen seen.seen pass'.seen learns.2)
    (record { book = is.0.same; active = is.0.active; its = is.0.its; known = is.1 })
