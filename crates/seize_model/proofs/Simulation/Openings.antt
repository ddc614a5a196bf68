-- A machine just opened shows a state with free slots alone, such as that of a collector just made.
use Rattle.std.proofs.Common.{◌≡◌, ℕ, zero, suc, ◌-◌, ◌^◌, ◌≤◌, pos, List, [], ◌∷◌, length, map, get_or, replicate, Option, None, refl, sym, ◌∙◌, ap, subst, arith}
use Rattle.std.specs.List.{count_by}
use Rattle.std.proofs.lemmas.List.{length-replicate}
use Rattle.seize_machine.specs.Machine.State as machine
use Rattle.seize_machine.specs.Machine.State.{Head, Inactive, opening}
use Rattle.seize_model.specs.Waiting.State.{ModelSlot, ModelState, new, unmade_slot, waits_for}
use Rattle.seize_model.specs.Agreement.Shows.{held_value, head_of, ShowsSlot, ShowsState, ShowsReclaimers}

-- so many free slots, no retired batch, and what these numbers in the links stand for
abbrev pub free_slots : {T R : Type 0} → (ℕ → T) → ℕ → ℕ → List (Option ℕ) → ModelState T R
free_slots of size slots links = record { size = size; slots = replicate slots unmade_slot; retired = []; links = map (held_value of) links; rest = [] }

default_at : {X : Type 0} (n i : ℕ) (d : X) → get_or (replicate n d) i d ≡ d
default_at zero i d = refl
default_at (suc n) zero d = refl
default_at (suc n) (suc i) d = default_at n i d

none_waits : (T R : Type 0) (b n : ℕ) → count_by (waits_for {T = T} {R = R} b) (replicate n unmade_slot) ≡ 0
none_waits T R b zero = refl
none_waits T R b (suc n) = none_waits T R b n

all_inactive : (T R : Type 0) (n : ℕ) → replicate n Inactive ≡ map (head_of {T = T} {R = R}) (replicate n unmade_slot)
all_inactive T R zero = refl
all_inactive T R (suc n) = ap (λ (l : List Head). Inactive ∷ l) (all_inactive T R n)

no_slot_shown : {T R : Type 0} (of : ℕ → T) → ShowsSlot T R of unmade_slot machine.no_slot
no_slot_shown of = record {
  used = refl;
  idle = refl;
  batch = refl;
  free = λ e. refl;
  owned = λ e. omega arith;
  inactive = λ e. refl;
  once = refl;
}

pub opened_shown : (T R : Type 0) (of : ℕ → T) (size slots : ℕ) (links : List (Option ℕ)) → slots ≤ 2 ^ 64 - 32
    → ShowsState T R of (free_slots of size slots links) (opening slots links)
opened_shown T R of size slots links few = record {
  numbers = subst (λ (k : ℕ). k ≤ 2 ^ 64 - 32) (sym as_many) few;
  slots = length-replicate slots machine.no_slot ∙ sym as_many;
  slot = λ s.
      subst (λ x. ShowsSlot T R of (get_or (replicate slots unmade_slot) s unmade_slot) x) (sym (default_at slots s machine.no_slot))
      (subst (λ x. ShowsSlot T R of x machine.no_slot) (sym (default_at slots s unmade_slot)) (no_slot_shown of));
  heads = all_inactive T R slots;
  retired = refl;
  values = λ b. refl;
  counts = λ b. ap (λ (k : ℕ). pos k) (sym (none_waits T R b slots));
  links = refl;
  rest = refl;
}
  where
    as_many : length (replicate slots (unmade_slot {T = T} {R = R})) ≡ slots
    as_many = length-replicate slots unmade_slot

pub opened_shown_with : {T R : Type 0} (of : ℕ → T) (by : ℕ → R) (size slots : ℕ) (links : List (Option ℕ))
    → ShowsReclaimers T R of by (free_slots of size slots links) (opening slots links)
opened_shown_with {T} {R} of by size slots links = record {
  batches = λ s.
      ap (λ (x : machine.Slot). map (λ n. (of n, by n)) x.batch) (default_at slots s machine.no_slot)
      ∙ sym (ap (λ (x : ModelSlot T R). x.batch) (default_at slots s unmade_slot));
  retired = λ b. refl;
  rest = refl;
}

empty_links : {T : Type 0} (of : ℕ → T) (links : ℕ) → map (held_value of) (replicate links None) ≡ replicate links None
empty_links of zero = refl
empty_links of (suc links) = ap (λ (l : List (Option _)). None ∷ l) (empty_links of links)

pub new_shown : {T R : Type 0} (of : ℕ → T) (size links : ℕ) → ShowsState T R of (new size links) (opening 0 (replicate links None))
new_shown {T} {R} of size links =
    subst (λ l. ShowsState T R of (record { size = size; slots = []; retired = []; links = l; rest = [] }) (opening 0 (replicate links None)))
    (empty_links of links) (opened_shown T R of size 0 (replicate links None) (omega arith))
