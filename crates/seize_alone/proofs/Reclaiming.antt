-- Steps of single slots, slot after slot, are a reclaim of all.
--     from f k xs, flat_from g k xs     f of each element from the k-th on;  what g makes of these
--     off_slot slot, emptied kind     a slot that parted, without a guard;  one that has no values either
--     turn_parts, parted_all       a slot's first step is a parting, and what the slots are after all of them
--     batch_goes, batches_go       a slot's batch goes, and all batches go
--     rest_goes                    what was left goes
--     numbers_go                   the numbers go back, last first
--     parted_clean                 partings leave no values in a retired batch that waits for no slot
--     in_turn_is                   all steps, by the slots after the partings
use Rattle.std.proofs.Common.{◌≡◌, ◌≢◌, ℕ, zero, suc, ◌+◌, ◌-◌, ◌<◌, ◌≤◌, ◌==◌, ◌||◌, Bool, true, false, not, cond, if◌then◌else◌, nat_lt, List, [], ◌∷◌, ◌++◌, length, map, get_or, set, replicate, reverse, refl, sym, ◌∙◌, ap, subst, ◌⊎◌, inl, inr, arith}
use Rattle.std.specs.List.{count_by, flat_map, list_any, range_with_len}
use mathlib.Core.List.{reverse-cons}
use Rattle.std.proofs.lemmas.List.{append-nil, append_assoc, get_or-set_other, get_or-set_same, length-map, length-set, set-get_or, set-set}
use Rattle.std.proofs.lemmas.List.Concat.{flat_map-cons}
use Rattle.std.proofs.lemmas.Grind.{common_steps}
use Rattle.seize_model.specs.declared.kind.Kind.{Kind}
use Rattle.seize_model.specs.declared.kind.Kind.TheVariants.{Free, Owned, Registered}
use Rattle.seize_model.specs.Waiting.State.{ModelSlot, ModelState, has_guard, is_kept, unmade_slot, retired_at, set_slot, model_slot, waits_for}
use Rattle.seize_model.specs.Waiting.Attempt.{StateAndGone, active_slots, attempt, attempt_if_full, is_full, part, release, release_all, wait_if_active, with_batch_retired, with_gone}
use Rattle.seize_model.specs.Waiting.Calls.{is_free, least_unused, one_guard_less, part_all, set_guards, with_number_free, with_number_in_use}
use Rattle.seize_model.specs.Waiting.Further.{further, gone_from}
use Rattle.seize_machine.specs.Machine.State.{has}
use Rattle.seize_machine.proofs.Facts.{is_true}
use Rattle.seize_machine.proofs.Invariants.Kept.{at_set}
use Rattle.seize_model.proofs.Cases.{or_same}
use Rattle.seize_model.proofs.Counts.{any_counts, count_same}
use Rattle.seize_model.proofs.WaitingSets.GoneBatches.{IsClean}
use Rattle.seize_model.proofs.WaitingSets.Beside.{releases_beside}
use Rattle.seize_alone.specs.Holding.{with_gone_below, with_order_from}
use Rattle.seize_alone.specs.Reclaiming.{IsOrderly, ReclaimsInTurn, batch_in_turn, batches_in_turn, in_turn, kept_in_turn, number_in_turn, numbers_in_turn, part_in_turn, parts_in_turn, rest_in_turn}
use Rattle.seize_alone.proofs.Mapped.{any_map, get_map, set_map}

-- Element after element.

from : {X : Type 0} → (X → X) → ℕ → List X → List X
from f zero xs = map f xs
from f (suc k) [] = []
from f (suc k) (x ∷ xs) = x ∷ from f k xs

from_next : {X : Type 0} (f : X → X) (k : ℕ) (xs : List X) (d : X) → k < length xs → from f (suc k) (set xs k (f (get_or xs k d))) ≡ from f k xs
unfolding from
from_next f zero [] d h = absurd (omega (arith, h))
from_next f zero (x ∷ xs) d h = refl
from_next f (suc k) [] d h = absurd (omega (arith, h))
from_next f (suc k) (x ∷ xs) d h = ap (λ rest. x ∷ rest) (from_next f k xs d (omega (arith, h)))

from_before : {X : Type 0} (f : X → X) (k : ℕ) (xs : List X) (d : X) → k < length xs → set (from f (suc k) xs) k (f (get_or (from f (suc k) xs) k d)) ≡ from f k xs
unfolding from
from_before f zero [] d h = absurd (omega (arith, h))
from_before f zero (x ∷ xs) d h = refl
from_before f (suc k) [] d h = absurd (omega (arith, h))
from_before f (suc k) (x ∷ xs) d h = ap (λ rest. x ∷ rest) (from_before f k xs d (omega (arith, h)))

from_at : {X : Type 0} (f : X → X) (k : ℕ) (xs : List X) (d : X) → get_or (from f (suc k) xs) k d ≡ get_or xs k d
unfolding from
from_at f zero [] d = refl
from_at f zero (x ∷ xs) d = refl
from_at f (suc k) [] d = refl
from_at f (suc k) (x ∷ xs) d = from_at f k xs d

from_end : {X : Type 0} (f : X → X) (k : ℕ) (xs : List X) → length xs ≤ k → from f k xs ≡ xs
unfolding from
from_end f zero [] h = refl
from_end f zero (x ∷ xs) h = absurd (omega (arith, h))
from_end f (suc k) [] h = refl
from_end f (suc k) (x ∷ xs) h = ap (λ rest. x ∷ rest) (from_end f k xs (omega (arith, h)))

abbrev pub slot_order : {T R : Type 0} → ModelSlot T R → List ℕ
slot_order slot = slot.order

-- The first steps: parting.

pub is_free_kind : (k : Kind) → is_free k ≡ true → k ≡ Free
is_free_kind Free e = refl
is_free_kind Registered e = absurd (cc)
is_free_kind Owned e = absurd (cc)

module _ {T R : Type 0} where
  abbrev pub off_slot : ModelSlot T R → ModelSlot T R
  off_slot slot = record slot { guards = 0; order = [] }

  kept_by : (b : ℕ) (xs ys : List (ModelSlot T R)) → map (λ (slot : ModelSlot T R). slot.order) xs ≡ map (λ (slot : ModelSlot T R). slot.order) ys → list_any (waits_for b) xs ≡ list_any (waits_for b) ys
  kept_by b xs ys same =
      sym (any_map (list_any (λ x. x == b)) (λ (slot : ModelSlot T R). slot.order) xs) ∙ ap (list_any (list_any (λ x. x == b))) same
      ∙ any_map (list_any (λ x. x == b)) (λ (slot : ModelSlot T R). slot.order) ys

  -- a release with other slots, for which the same batches wait
  release_with : (st : ModelState T R) (slots : List (ModelSlot T R)) (b : ℕ) → map (λ (slot : ModelSlot T R). slot.order) slots ≡ map (λ (slot : ModelSlot T R). slot.order) st.slots
      → ◌≡◌ {A = StateAndGone T R} (release (record st { slots = slots }) b) (record (release st b).0 { slots = slots }, (release st b).1)
  release_with st slots b same =
      ap (λ (k : Bool). if k then (record st { slots = slots }, []) else (record st { slots = slots; retired = set st.retired b [] }, retired_at st b)) (kept_by b slots st.slots same) ∙ by_case (is_kept st b)
    where
      by_case : (k : Bool) → ◌≡◌ {A = StateAndGone T R} (if k then (record st { slots = slots }, []) else (record st { slots = slots; retired = set st.retired b [] }, retired_at st b))
          (let o : StateAndGone T R = if k then (st, []) else (record st { retired = set st.retired b [] }, retired_at st b) in (record o.0 { slots = slots }, o.1))
      by_case true = refl
      by_case false = refl

  release_slots : (st : ModelState T R) (bs : List ℕ) → (release_all st bs).0.slots ≡ st.slots
  release_slots st bs = releases_beside (λ (k : ModelState T R). k.slots) (λ k retired. refl) st bs

  released_with : (bs : List ℕ) (st : ModelState T R) (slots : List (ModelSlot T R)) → map (λ (slot : ModelSlot T R). slot.order) slots ≡ map (λ (slot : ModelSlot T R). slot.order) st.slots
      → ◌≡◌ {A = StateAndGone T R} (release_all (record st { slots = slots }) bs) (record (release_all st bs).0 { slots = slots }, (release_all st bs).1)
  released_with [] st slots same = refl
  released_with (b ∷ bs) st slots same =
      ap (λ (o : StateAndGone T R). with_gone o.1 (release_all o.0 bs)) (release_with st slots b same)
      ∙ ap (with_gone (release st b).1) (released_with bs (release st b).0 slots (same ∙ ap (map (λ (slot : ModelSlot T R). slot.order)) (sym (release_slots st (b ∷ [])))))

  -- what is written over what was written
  set_again : (st : ModelState T R) (s : ℕ) (slot next : ModelSlot T R) → set_slot (set_slot st s slot) s next ≡ set_slot st s next
  set_again st s slot next = ap (λ (l : List (ModelSlot T R)). record st { slots = l }) (set-set st.slots s slot next)

  -- the last guard of an active slot
  last_parts : (st : ModelState T R) (s : ℕ) (slot : ModelSlot T R) → s < length st.slots → model_slot st s ≡ slot → slot.guards ≡ 1
      → one_guard_less st s ≡ release_all (set_slot st s (record slot { guards = 0; order = [] })) slot.order
  last_parts st s slot h is one =
      ap (λ (n : ℕ). if n == 1 then part (set_guards st s 0) s else (set_guards st s (n - 1), [])) (ap (λ (x : ModelSlot T R). x.guards) is ∙ one)
      ∙ ap (λ (x : ModelSlot T R). part (set_slot st s (record x { guards = 0 })) s) is
      ∙ ap (λ (x : ModelSlot T R). release_all (set_slot (set_slot st s (record slot { guards = 0 })) s (record x { order = [] })) x.order) (get_or-set_same st.slots s (record slot { guards = 0 }) unmade_slot h)
      ∙ ap (λ (k : ModelState T R). release_all k slot.order) (set_again st s (record slot { guards = 0 }) (record slot { guards = 0; order = [] }))

  abbrev pub Parted : ModelState T R → ℕ → StateAndGone T R
  Parted st s = (set_guards (part st s).0 s 0, (part st s).1)

  parted_slots : (st : ModelState T R) (s : ℕ) → s < length st.slots → set_guards (part st s).0 s 0 ≡ record (part st s).0 { slots = set st.slots s (off_slot (model_slot st s)) }
  parted_slots st s h =
      ap (λ (l : List (ModelSlot T R)). set_guards (record (part st s).0 { slots = l }) s 0) (release_slots (set_slot st s (record (model_slot st s) { order = [] })) (model_slot st s).order)
      ∙ ap (λ (x : ModelSlot T R). record (part st s).0 { slots = set (set st.slots s (record (model_slot st s) { order = [] })) s (record x { guards = 0 }) }) (get_or-set_same st.slots s (record (model_slot st s) { order = [] }) unmade_slot h)
      ∙ ap (λ (l : List (ModelSlot T R)). record (part st s).0 { slots = l }) (set-set st.slots s (record (model_slot st s) { order = [] }) (off_slot (model_slot st s)))

  -- nothing waits for the slot
  parts_nothing : (st : ModelState T R) (s : ℕ) → (model_slot st s).order ≡ [] → part st s ≡ (st, [])
  parts_nothing st s none =
      ap (λ (o : List ℕ). release_all (set_slot st s (record (model_slot st s) { order = [] })) o) none
      ∙ ap (λ (o : List ℕ). (set_slot st s (record (model_slot st s) { order = o }), [])) (sym none)
      ∙ ap (λ (l : List (ModelSlot T R)). (record st { slots = l }, [])) (set-get_or st.slots s unmade_slot)

  none_more : (st : ModelState T R) (s : ℕ) → (model_slot st s).guards ≡ 0 → set_guards st s 0 ≡ st
  none_more st s guards =
      (λ i. set_slot st s (record (model_slot st s) { guards = sym guards i }))
      ∙ ap (λ (l : List (ModelSlot T R)). record st { slots = l }) (set-get_or st.slots s unmade_slot)

  active_parts : (st : ModelState T R) (s : ℕ) → s < length st.slots → one_guard_less (set_guards st s 1) s ≡ Parted st s
  active_parts st s h = less ∙ (λ i. (sym (parted_slots st s h) i, (part st s).1))
    where
      orders : map (λ (x : ModelSlot T R). x.order) (set st.slots s (record (model_slot st s) { guards = 0; order = [] })) ≡ map (λ (x : ModelSlot T R). x.order) (set st.slots s (record (model_slot st s) { order = [] }))
      orders = set_map (λ (x : ModelSlot T R). x.order) st.slots s (record (model_slot st s) { guards = 0; order = [] }) ∙ sym (set_map (λ (x : ModelSlot T R). x.order) st.slots s (record (model_slot st s) { order = [] }))

      less : one_guard_less (set_guards st s 1) s ≡ (record (part st s).0 { slots = set st.slots s (record (model_slot st s) { guards = 0; order = [] }) }, (part st s).1)
      less =
          last_parts (set_guards st s 1) s (record (model_slot st s) { guards = 1 }) (rw (length-set st.slots s (record (model_slot st s) { guards = 1 })) h) (get_or-set_same st.slots s (record (model_slot st s) { guards = 1 }) unmade_slot h) refl
          ∙ ap (λ (k : ModelState T R). release_all k (model_slot st s).order) (set_again st s (record (model_slot st s) { guards = 1 }) (record (model_slot st s) { guards = 0; order = [] }))
          ∙ released_with (model_slot st s).order (set_slot st s (record (model_slot st s) { order = [] })) (set st.slots s (record (model_slot st s) { guards = 0; order = [] })) orders

  -- A slot's own step is a parting.

  abbrev pub IsSound : ModelSlot T R → Type 0
  IsSound slot = (is_free slot.kind ≡ true → slot ≡ unmade_slot) × (has_guard slot ≡ false → slot.order ≡ [])

  abbrev AreSound : List (ModelSlot T R) → Type 0
  AreSound xs = (s : ℕ) → IsSound (get_or xs s unmade_slot)

  pub turn_parts : (st : ModelState T R) (s : ℕ) → s < length st.slots → IsSound (model_slot st s) → part_in_turn st s ≡ Parted st s
  turn_parts st s h sound = go (is_free (model_slot st s).kind) refl (has_guard (model_slot st s)) refl
    where
      nothing : (model_slot st s).guards ≡ 0 → (model_slot st s).order ≡ [] → (st, []) ≡ Parted st s
      nothing off none = sym (ap (λ (o : StateAndGone T R). (set_guards o.0 s 0, o.1)) (parts_nothing st s none) ∙ ap (λ (k : ModelState T R). (k, [])) (none_more st s off))

      no_guards : (k : ℕ) → not (k == 0) ≡ false → k ≡ 0
      no_guards k e = grind arith

      go : (f : Bool) → is_free (model_slot st s).kind ≡ f → (a : Bool) → has_guard (model_slot st s) ≡ a
          → ◌≡◌ {A = StateAndGone T R} (if f then (st, []) else (if a then one_guard_less (set_guards st s 1) s else (st, []))) (Parted st s)
      go true f a e = nothing (ap (λ (x : ModelSlot T R). x.guards) (sound.0 f)) (ap (λ (x : ModelSlot T R). x.order) (sound.0 f))
      go false f true e = active_parts st s h
      go false f false e = nothing (no_guards (model_slot st s).guards e) (sound.1 e)

  pub next_slots : (st : ModelState T R) (s : ℕ) → s < length st.slots → (set_guards (part st s).0 s 0).slots ≡ set st.slots s (off_slot (model_slot st s))
  next_slots st s h = ap (λ (k : ModelState T R). k.slots) (parted_slots st s h)

  sound_next : (st : ModelState T R) (s : ℕ) → s < length st.slots → AreSound st.slots → AreSound (set_guards (part st s).0 s 0).slots
  sound_next st s h sound =
      subst (λ (l : List (ModelSlot T R)). AreSound l) (sym (next_slots st s h))
      (λ j. at_set (λ (x : ModelSlot T R). IsSound x) st.slots s j (off_slot (model_slot st s)) unmade_slot (λ same within. (λ e. ap (λ (x : ModelSlot T R). off_slot x) ((sound s).0 e), λ e. refl)) (sound j))

  parts_are : (n k : ℕ) (st : ModelState T R) → k + n ≡ length st.slots → AreSound st.slots → parts_in_turn st (range_with_len k n) ≡ part_all st (range_with_len k n)
  parts_are zero k st h sound = refl
  parts_are (suc n) k st h sound =
      let within : k < length st.slots = omega (arith, h) in
      let long : k + 1 + n ≡ length (set_guards (part st k).0 k 0).slots =
      omega (arith, h, ap (λ (l : List (ModelSlot T R)). length l) (next_slots st k within), length-set st.slots k (off_slot (model_slot st k))) in
      ap (λ (o : StateAndGone T R). with_gone o.1 (parts_in_turn o.0 (range_with_len (k + 1) n))) (turn_parts st k within (sound k))
      ∙ ap (λ (o : StateAndGone T R). with_gone (part st k).1 o) (parts_are n (k + 1) (set_guards (part st k).0 k 0) long (sound_next st k within sound))

  parted_are : (n k : ℕ) (st : ModelState T R) → k + n ≡ length st.slots → (part_all st (range_with_len k n)).0.slots ≡ from (λ (slot : ModelSlot T R). off_slot slot) k st.slots
  parted_are zero k st h = sym (from_end (λ (slot : ModelSlot T R). off_slot slot) k st.slots (omega (arith, h)))
  parted_are (suc n) k st h =
      let within : k < length st.slots = omega (arith, h) in
      let long : k + 1 + n ≡ length (set_guards (part st k).0 k 0).slots =
      omega (arith, h, ap (λ (l : List (ModelSlot T R)). length l) (next_slots st k within), length-set st.slots k (off_slot (model_slot st k))) in
      let one : k + 1 ≡ suc k = omega arith in
      parted_are n (k + 1) (set_guards (part st k).0 k 0) long
      ∙ (λ i. from (λ (slot : ModelSlot T R). off_slot slot) (one i) (next_slots st k within i))
      ∙ from_next (λ (slot : ModelSlot T R). off_slot slot) k st.slots unmade_slot within

-- The second steps: the batches.

any_set : {X : Type 0} (p : X → Bool) (xs : List X) (s : ℕ) (y : X) → s < length xs → p y ≡ true → list_any p (set xs s y) ≡ true
any_set p [] s y h is = absurd (omega (arith, h))
any_set p (x ∷ xs) zero y h is = ap (λ (b : Bool). b || list_any p xs) is
any_set p (x ∷ xs) (suc s) y h is = ap (λ (b : Bool). p x || b) (any_set p xs s y (omega (arith, h)) is) ∙ or_true (p x)
  where
    or_true : (b : Bool) → (b || true) ≡ true
    or_true true = refl
    or_true false = refl

any_none : {X : Type 0} (p : X → Bool) (xs : List X) (d : X) → ((i : ℕ) → p (get_or xs i d) ≡ false) → list_any p xs ≡ false
any_none p [] d none = refl
any_none p (x ∷ xs) d none = (λ i. none zero i || list_any p xs) ∙ any_none p xs d (λ i. none (suc i))

count_none : {X : Type 0} (p : X → Bool) (xs : List X) (d : X) → ((i : ℕ) → p (get_or xs i d) ≡ false) → count_by p xs ≡ 0
count_none p [] d none = refl
count_none p (x ∷ xs) d none =
    let first : p x ≡ false = none zero in
    let rest : count_by p xs ≡ 0 = count_none p xs d (λ i. none (suc i)) in
    grind (arith, common_steps)

count_one : {X : Type 0} (p : X → Bool) (xs : List X) (d : X) (s : ℕ) (y : X) → s < length xs → ((i : ℕ) → p (get_or xs i d) ≡ false) → p y ≡ true → count_by p (set xs s y) ≡ 1
count_one p [] d s y h none is = absurd (omega (arith, h))
count_one p (x ∷ xs) d zero y h none is = let rest : count_by p xs ≡ 0 = count_none p xs d (λ i. none (suc i)) in grind (arith, common_steps)
count_one p (x ∷ xs) d (suc s) y h none is =
    let first : p x ≡ false = none zero in
    let rest : count_by p (set xs s y) ≡ 1 = count_one p xs d s y (omega (arith, h)) (λ i. none (suc i)) is in
    grind (arith, common_steps)

get_seam : {X : Type 0} (xs : List X) (y d : X) → get_or (xs ++ y ∷ []) (length xs) d ≡ y
get_seam [] y d = refl
get_seam (x ∷ xs) y d = get_seam xs y d

set_seam : {X : Type 0} (xs : List X) (y z : X) → set (xs ++ y ∷ []) (length xs) z ≡ xs ++ z ∷ []
set_seam [] y z = refl
set_seam (x ∷ xs) y z = ap (λ rest. x ∷ rest) (set_seam xs y z)

-- what the elements from the k-th on come to
flat_from : {X Y : Type 0} (g : X → List Y) → ℕ → List X → List Y
flat_from g zero xs = flat_map g xs
flat_from g (suc k) [] = []
flat_from g (suc k) (x ∷ xs) = flat_from g k xs

flat_next : {X Y : Type 0} (g : X → List Y) (k : ℕ) (xs : List X) (y d : X) → k < length xs → g (get_or xs k d) ++ flat_from g (suc k) (set xs k y) ≡ flat_from g k xs
unfolding flat_from
flat_next g k [] y d h = absurd (omega (arith, h))
flat_next g zero (x ∷ xs) y d h = sym (flat_map-cons g x xs)
flat_next g (suc k) (x ∷ xs) y d h = flat_next g k xs y d (omega (arith, h))

flat_end : {X Y : Type 0} (g : X → List Y) (k : ℕ) (xs : List X) → length xs ≤ k → flat_from g k xs ≡ []
unfolding flat_from
flat_end g zero [] h = refl
flat_end g zero (x ∷ xs) h = absurd (omega (arith, h))
flat_end g (suc k) [] h = refl
flat_end g (suc k) (x ∷ xs) h = flat_end g k xs (omega (arith, h))

few : (n : ℕ) → ((suc n == 0) || nat_lt (suc n) 1) ≡ false
few n = grind arith

module _ {T R : Type 0} where
  -- no slot is active, no batch waits for one, and a free one is as one that was never made
  abbrev pub AreQuiet : List (ModelSlot T R) → Type 0
  AreQuiet xs = (s : ℕ) → (has_guard (get_or xs s unmade_slot) ≡ false) × (slot_order (get_or xs s unmade_slot) ≡ []) × (is_free (get_or xs s unmade_slot).kind ≡ true → get_or xs s unmade_slot ≡ unmade_slot)

  abbrev pub emptied : Kind → ModelSlot T R
  emptied kind = record { kind = kind; guards = 0; batch = []; order = [] }

  abbrev holding : Kind → List (T × R) → ModelSlot T R
  holding kind batch = record { kind = kind; guards = 1; batch = batch; order = [] }

  -- what is left of a retired batch
  abbrev pub left_of : List (T × R) → List (List (T × R))
  left_of [] = []
  left_of (v ∷ vs) = [] ∷ []

  emptied_free : (kind : Kind) → is_free kind ≡ true → emptied kind ≡ unmade_slot
  emptied_free kind free = ap (λ (k : Kind). emptied k) (is_free_kind kind free)

  quiet_to : (xs : List (ModelSlot T R)) (s : ℕ) (y : ModelSlot T R) → (has_guard y ≡ false) × (slot_order y ≡ []) × (is_free y.kind ≡ true → y ≡ unmade_slot) → AreQuiet xs → AreQuiet (set xs s y)
  quiet_to xs s y own quiet j =
      at_set (λ (x : ModelSlot T R). (has_guard x ≡ false) × (slot_order x ≡ []) × (is_free x.kind ≡ true → x ≡ unmade_slot)) xs s j y unmade_slot (λ same within. own) (quiet j)

  quiet_set : (xs : List (ModelSlot T R)) (s : ℕ) (kind : Kind) → AreQuiet xs → AreQuiet (set xs s (emptied kind))
  quiet_set xs s kind quiet = quiet_to xs s (emptied kind) (refl, refl, emptied_free kind) quiet

  waits_nothing : (b : ℕ) (xs : List (ModelSlot T R)) → AreQuiet xs → map (wait_if_active b) xs ≡ xs
  waits_nothing b [] quiet = refl
  waits_nothing b (x ∷ xs) quiet =
      λ i. (if (quiet zero).0 i then record x { order = b ∷ x.order } else x) ∷ waits_nothing b xs (λ s. quiet (suc s)) i

  kept_for_none : (b : ℕ) (xs : List (ModelSlot T R)) → AreQuiet xs → list_any (waits_for b) xs ≡ false
  kept_for_none b xs quiet = any_none (waits_for b) xs unmade_slot (λ s. ap (λ (o : List ℕ). list_any (λ x. x == b) o) (quiet s).1)

  module _ (st : ModelState T R) (s : ℕ) (h : s < length st.slots) (quiet : AreQuiet st.slots) where
    abbrev kind : Kind
    kind = (model_slot st s).kind

    abbrev begun : List (T × R) → ModelState T R
    begun vs = set_slot st s (holding kind vs)

    enters : set_guards st s 1 ≡ begun (model_slot st s).batch
    enters = ap (λ (o : List ℕ). set_slot st s (record (model_slot st s) { guards = 1; order = o })) (quiet s).1

    abbrev pub ended : List (T × R) → StateAndGone T R
    ended vs = (record st { slots = set st.slots s (emptied kind); retired = st.retired ++ left_of vs }, vs)

    abbrev tries : List (T × R) → StateAndGone T R
    tries vs = attempt (begun vs) s

    abbrev detached : List (T × R) → ModelState T R
    detached vs = record st { slots = map (wait_if_active (length st.retired)) (set (set st.slots s (holding kind vs)) s (holding kind [])); retired = st.retired ++ vs ∷ [] }

    abbrev waited : List (T × R) → ModelState T R
    waited vs = record st { slots = set st.slots s (record { kind = kind; guards = 1; batch = []; order = length st.retired ∷ [] }); retired = st.retired ++ vs ∷ [] }

    own : (vs : List (T × R)) → model_slot (begun vs) s ≡ holding kind vs
    own vs = get_or-set_same st.slots s (holding kind vs) unmade_slot h

    tries_own : (vs : List (T × R)) → tries vs ≡ (if (length vs == 0) || nat_lt (length vs) (active_slots (begun vs)) then (begun vs, []) else release (detached vs) (length st.retired))
    tries_own vs =
        ap (λ (x : ModelSlot T R). if (length x.batch == 0) || nat_lt (length x.batch) (active_slots (begun vs)) then (begun vs, []) else
        release (record st { slots = map (wait_if_active (length st.retired)) (set (set st.slots s (holding kind vs)) s (record x { batch = [] })); retired = st.retired ++ x.batch ∷ [] }) (length st.retired)) (own vs)

    tries_some : (v : T × R) (vs : List (T × R)) → tries (v ∷ vs) ≡ (waited (v ∷ vs), [])
    tries_some v vs =
        let one : active_slots (begun (v ∷ vs)) ≡ 1 = count_one has_guard st.slots unmade_slot s (holding kind (v ∷ vs)) h (λ i. (quiet i).0) refl in
        let go : Bool → StateAndGone T R = λ b. if b then (begun (v ∷ vs), []) else release (detached (v ∷ vs)) (length st.retired) in
        let slots : (detached (v ∷ vs)).slots ≡ (waited (v ∷ vs)).slots =
        ap (map (wait_if_active (length st.retired))) (set-set st.slots s (holding kind (v ∷ vs)) (holding kind []))
        ∙ set_map (wait_if_active (length st.retired)) st.slots s (holding kind [])
        ∙ ap (λ (l : List (ModelSlot T R)). set l s (record { kind = kind; guards = 1; batch = []; order = length st.retired ∷ [] })) (waits_nothing (length st.retired) st.slots quiet) in
        let same : (length st.retired == length st.retired) ≡ true = grind arith in
        let kept : is_kept (waited (v ∷ vs)) (length st.retired) ≡ true =
        any_set (waits_for (length st.retired)) st.slots s (record { kind = kind; guards = 1; batch = []; order = length st.retired ∷ [] }) h (ap (λ (b : Bool). b || false) same) in
        tries_own (v ∷ vs) ∙ ap (λ (n : ℕ). go ((length (v ∷ vs) == 0) || nat_lt (length (v ∷ vs)) n)) one ∙ ap go (few (length vs))
        ∙ ap (λ (l : List (ModelSlot T R)). release (record st { slots = l; retired = st.retired ++ (v ∷ vs) ∷ [] }) (length st.retired)) slots
        ∙ ap (λ (b : Bool). if b then (waited (v ∷ vs), []) else (record (waited (v ∷ vs)) { retired = set (st.retired ++ (v ∷ vs) ∷ []) (length st.retired) [] }, retired_at (waited (v ∷ vs)) (length st.retired))) kept

    abbrev leaves : StateAndGone T R → StateAndGone T R
    leaves o = with_gone o.1 (one_guard_less o.0 s)

    leaves_begun : leaves (begun [], []) ≡ ended []
    leaves_begun =
        last_parts (begun []) s (holding kind []) (rw (length-set st.slots s (holding kind [])) h) (own []) refl
        ∙ ap (λ (k : ModelState T R). (k, [])) (set_again st s (holding kind []) (emptied kind))
        ∙ ap (λ (l : List (List (T × R))). (record st { slots = set st.slots s (emptied kind); retired = l }, [])) (sym (append-nil st.retired))

    leaves_waited : (v : T × R) (vs : List (T × R)) → leaves (waited (v ∷ vs), []) ≡ ended (v ∷ vs)
    leaves_waited v vs =
        let slot : ModelSlot T R = record { kind = kind; guards = 1; batch = []; order = length st.retired ∷ [] } in
        let empty : ModelState T R = record st { slots = set st.slots s (emptied kind); retired = st.retired ++ (v ∷ vs) ∷ [] } in
        let after : Bool → StateAndGone T R = λ b. if b then (empty, []) else (record empty { retired = set empty.retired (length st.retired) [] }, retired_at empty (length st.retired)) in
        last_parts (waited (v ∷ vs)) s slot (rw (length-set st.slots s slot) h) (get_or-set_same st.slots s slot unmade_slot h) refl
        ∙ ap (λ (l : List (ModelSlot T R)). release_all (record st { slots = l; retired = st.retired ++ (v ∷ vs) ∷ [] }) (length st.retired ∷ [])) (set-set st.slots s slot (emptied kind))
        ∙ ap (λ (b : Bool). with_gone (after b).1 (release_all (after b).0 []))
        (kept_for_none (length st.retired) (set st.slots s (emptied kind)) (quiet_set st.slots s kind quiet))
        ∙ (λ i. (record empty { retired = set_seam st.retired (v ∷ vs) [] i }, get_seam st.retired (v ∷ vs) [] i ++ []))
        ∙ ap (λ (gone : List (T × R)). (record empty { retired = st.retired ++ [] ∷ [] }, gone)) (append-nil (v ∷ vs))

    in_turn_from : (vs : List (T × R)) → leaves (tries vs) ≡ ended vs
    in_turn_from [] = ap leaves (tries_own []) ∙ leaves_begun
    in_turn_from (v ∷ vs) = ap leaves (tries_some v vs) ∙ leaves_waited v vs

    -- a free slot has no batch
    free_ends : is_free (model_slot st s).kind ≡ true → (st, []) ≡ ended (model_slot st s).batch
    free_ends free =
        let is : model_slot st s ≡ unmade_slot = (quiet s).2 free in
        let slots : set st.slots s (emptied (model_slot st s).kind) ≡ st.slots =
        ap (λ (x : ModelSlot T R). set st.slots s (emptied x.kind)) is ∙ ap (λ (x : ModelSlot T R). set st.slots s x) (sym is) ∙ set-get_or st.slots s unmade_slot in
        let retired : st.retired ++ left_of (model_slot st s).batch ≡ st.retired = ap (λ (x : ModelSlot T R). st.retired ++ left_of x.batch) is ∙ append-nil st.retired in
        λ i. (record st { slots = sym slots i; retired = sym retired i }, sym (ap (λ (x : ModelSlot T R). x.batch) is) i)

    pub batch_goes : batch_in_turn st s ≡ ended (model_slot st s).batch
    batch_goes = go (is_free (model_slot st s).kind) refl
      where
        go : (f : Bool) → is_free (model_slot st s).kind ≡ f → ◌≡◌ {A = StateAndGone T R} (if f then (st, []) else leaves (attempt (set_guards st s 1) s)) (ended (model_slot st s).batch)
        go true free = free_ends free
        go false used = ap (λ (k : ModelState T R). leaves (attempt k s)) enters ∙ in_turn_from (model_slot st s).batch

  batches_go : (n k : ℕ) (st : ModelState T R) → k + n ≡ length st.slots → AreQuiet st.slots
      → batches_in_turn st (range_with_len k n)
      ≡ (record st { slots = from (λ (slot : ModelSlot T R). emptied slot.kind) k st.slots; retired = st.retired ++ flat_from (λ (slot : ModelSlot T R). left_of slot.batch) k st.slots }, flat_from (λ (slot : ModelSlot T R). slot.batch) k st.slots)
  batches_go zero k st h quiet =
      let past : length st.slots ≤ k = omega (arith, h) in
      λ i. (
        record st {
          slots = sym (from_end (λ (slot : ModelSlot T R). emptied slot.kind) k st.slots past) i;
          retired = (sym (append-nil st.retired) ∙ ap (λ (l : List (List (T × R))). st.retired ++ l) (sym (flat_end (λ (slot : ModelSlot T R). left_of slot.batch) k st.slots past))) i;
        },
        sym (flat_end (λ (slot : ModelSlot T R). slot.batch) k st.slots past) i,
      )
  batches_go (suc n) k st h quiet =
      let within : k < length st.slots = omega (arith, h) in
      let later : ModelState T R = record st { slots = set st.slots k (emptied (model_slot st k).kind); retired = st.retired ++ left_of (model_slot st k).batch } in
      let batch : List (T × R) = (model_slot st k).batch in
      let long : k + 1 + n ≡ length (set st.slots k (emptied (model_slot st k).kind)) = omega (arith, h, length-set st.slots k (emptied (model_slot st k).kind)) in
      let one : k + 1 ≡ suc k = omega arith in
      ap (λ (o : StateAndGone T R). with_gone o.1 (batches_in_turn o.0 (range_with_len (k + 1) n))) (batch_goes st k within quiet)
      ∙ ap (with_gone batch) (batches_go n (k + 1) later long (quiet_set st.slots k (model_slot st k).kind quiet))
      ∙ ap (λ (m : ℕ). (record st { slots = from (λ (slot : ModelSlot T R). emptied slot.kind) m later.slots; retired = later.retired ++ flat_from (λ (slot : ModelSlot T R). left_of slot.batch) m later.slots }, batch ++ flat_from (λ (slot : ModelSlot T R). slot.batch) m later.slots)) one
      ∙ (λ i. (
        record st {
          slots = from_next (λ (slot : ModelSlot T R). emptied slot.kind) k st.slots unmade_slot within i;
          retired = (append_assoc st.retired (left_of batch) (flat_from (λ (slot : ModelSlot T R). left_of slot.batch) (suc k) later.slots)
              ∙ ap (λ (l : List (List (T × R))). st.retired ++ l) (flat_next (λ (slot : ModelSlot T R). left_of slot.batch) k st.slots (emptied (model_slot st k).kind) unmade_slot within)) i;
        },
        flat_next (λ (slot : ModelSlot T R). slot.batch) k st.slots (emptied (model_slot st k).kind) unmade_slot within i,
      ))

  -- The third step: what was left.

  -- where no slot is active, what is attempted is gone at once
  quiet_attempt : (st : ModelState T R) (s : ℕ) (slot : ModelSlot T R) (v : T × R) (vs : List (T × R)) → s < length st.slots → AreQuiet st.slots → model_slot st s ≡ slot → slot.batch ≡ v ∷ vs
      → attempt st s ≡ (record (set_slot st s (record slot { batch = [] })) { retired = st.retired ++ [] ∷ [] }, v ∷ vs)
  quiet_attempt st s slot v vs h quiet own batch =
      let none : active_slots st ≡ 0 = count_none has_guard st.slots unmade_slot (λ i. (quiet i).0) in
      let go : Bool → StateAndGone T R = λ b. if b then (st, []) else release (with_batch_retired st s) (length st.retired) in
      let waiting : ModelState T R = record (set_slot st s (record slot { batch = [] })) { retired = st.retired ++ slot.batch ∷ [] } in
      let is_quiet : AreQuiet (set st.slots s (record slot { batch = [] })) =
      quiet_to st.slots s (record slot { batch = [] })
      (subst (λ (x : ModelSlot T R). (has_guard x ≡ false) × (slot_order x ≡ []) × (is_free x.kind ≡ true → record x { batch = [] } ≡ unmade_slot)) own
      ((quiet s).0, (quiet s).1, λ free. ap (λ (x : ModelSlot T R). record x { batch = [] }) ((quiet s).2 free))) quiet in
      let away : Bool → StateAndGone T R = λ b. if b then (waiting, []) else (record waiting { retired = set waiting.retired (length st.retired) [] }, retired_at waiting (length st.retired)) in
      ap go
      (ap (λ (x : ModelSlot T R). (length x.batch == 0) || nat_lt (length x.batch) (active_slots st)) own ∙ ap (λ (l : List (T × R)). (length l == 0) || nat_lt (length l) (active_slots st)) batch
      ∙ ap (λ (n : ℕ). (suc (length vs) == 0) || nat_lt (suc (length vs)) n) none ∙ goes (length vs))
      ∙ ap (λ (x : ModelSlot T R). release (record st { slots = map (wait_if_active (length st.retired)) (set st.slots s (record x { batch = [] })); retired = st.retired ++ x.batch ∷ [] }) (length st.retired)) own
      ∙ ap (λ (l : List (ModelSlot T R)). release (record waiting { slots = l }) (length st.retired)) (waits_nothing (length st.retired) (set st.slots s (record slot { batch = [] })) is_quiet)
      ∙ ap away (kept_for_none (length st.retired) (set st.slots s (record slot { batch = [] })) is_quiet)
      ∙ (λ i. (record waiting { retired = set_seam st.retired slot.batch [] i }, (get_seam st.retired slot.batch [] ∙ batch) i))
    where
      goes : (n : ℕ) → ((suc n == 0) || nat_lt (suc n) 0) ≡ false
      goes n = grind arith

  module _ (st : ModelState T R) (quiet : AreQuiet st.slots) (room : st.rest ≢ [] → least_unused st.slots < length st.slots) where
    abbrev pub rested_slots : List (T × R) → List (ModelSlot T R)
    rested_slots [] = st.slots
    rested_slots (v ∷ vs) = set st.slots (least_unused st.slots) (emptied Registered)

    abbrev pub rested : List (T × R) → StateAndGone T R
    rested vs = (record st { slots = rested_slots vs; retired = st.retired ++ left_of vs; rest = [] }, vs)

    abbrev taker : List (T × R) → ModelSlot T R
    taker vs = record { kind = Registered; guards = 0; batch = vs; order = [] }

    abbrev took : List (T × R) → ModelState T R
    took vs = record st { slots = set st.slots (least_unused st.slots) (taker vs); rest = [] }

    took_quiet : (vs : List (T × R)) → AreQuiet (set st.slots (least_unused st.slots) (taker vs))
    took_quiet vs = quiet_to st.slots (least_unused st.slots) (taker vs) (refl, refl, λ free. absurd (cc)) quiet

    module _ (v : T × R) (vs : List (T × R)) (within : least_unused st.slots < length st.slots) where
      abbrev n : ℕ
      n = least_unused st.slots

      inside : (slot : ModelSlot T R) → least_unused st.slots < length (set st.slots (least_unused st.slots) slot)
      inside slot = rw (length-set st.slots (least_unused st.slots) slot) within

      its : (slot : ModelSlot T R) → get_or (set st.slots (least_unused st.slots) slot) (least_unused st.slots) unmade_slot ≡ slot
      its slot = get_or-set_same st.slots (least_unused st.slots) slot unmade_slot within

      -- with this in its batch, it does as the others
      then_goes : (k : ModelState T R) (slot : ModelSlot T R) → k.slots ≡ set st.slots (least_unused st.slots) slot → slot.kind ≡ Registered → AreQuiet k.slots
          → batch_in_turn k (least_unused st.slots) ≡ (record k { slots = set st.slots (least_unused st.slots) (emptied Registered); retired = k.retired ++ left_of slot.batch }, slot.batch)
      then_goes k slot slots kind at_rest =
          let there : least_unused st.slots < length k.slots = subst (λ (l : List (ModelSlot T R)). least_unused st.slots < length l) (sym slots) (inside slot) in
          let own : model_slot k (least_unused st.slots) ≡ slot = ap (λ (l : List (ModelSlot T R)). get_or l (least_unused st.slots) unmade_slot) slots ∙ its slot in
          batch_goes k (least_unused st.slots) there at_rest
          ∙ ap (λ (x : ModelSlot T R). (record k { slots = set k.slots (least_unused st.slots) (emptied x.kind); retired = k.retired ++ left_of x.batch }, x.batch)) own
          ∙ (λ i. (record k { slots = (ap (λ (l : List (ModelSlot T R)). set l (least_unused st.slots) (emptied slot.kind)) slots ∙ set-set st.slots (least_unused st.slots) slot (emptied slot.kind) ∙ ap (λ (q : Kind). set st.slots (least_unused st.slots) (emptied q)) kind) i; retired = k.retired ++ left_of slot.batch }, slot.batch))

      full_goes : attempt (took (v ∷ vs)) (least_unused st.slots) ≡ (record st { slots = set st.slots (least_unused st.slots) (emptied Registered); retired = st.retired ++ [] ∷ []; rest = [] }, v ∷ vs)
      full_goes =
          quiet_attempt (took (v ∷ vs)) (least_unused st.slots) (taker (v ∷ vs)) v vs (inside (taker (v ∷ vs))) (took_quiet (v ∷ vs)) (its (taker (v ∷ vs))) refl
          ∙ ap (λ (l : List (ModelSlot T R)). (record st { slots = l; retired = st.retired ++ [] ∷ []; rest = [] }, v ∷ vs)) (set-set st.slots (least_unused st.slots) (taker (v ∷ vs)) (emptied Registered))

      abbrev goes_from : StateAndGone T R → StateAndGone T R
      goes_from o = with_gone o.1 (batch_in_turn o.0 (least_unused st.slots))

      taker_goes : goes_from (attempt_if_full (took (v ∷ vs)) (least_unused st.slots)) ≡ rested (v ∷ vs)
      taker_goes = go (is_full st.size (model_slot (took (v ∷ vs)) (least_unused st.slots)).batch)
        where
          go : (full : Bool) → goes_from (if full then attempt (took (v ∷ vs)) (least_unused st.slots) else (took (v ∷ vs), [])) ≡ rested (v ∷ vs)
          go true =
              ap goes_from full_goes
              ∙ ap (with_gone (v ∷ vs)) (then_goes (record st { slots = set st.slots (least_unused st.slots) (emptied Registered); retired = st.retired ++ [] ∷ []; rest = [] }) (emptied Registered) refl refl (quiet_set st.slots (least_unused st.slots) Registered quiet))
              ∙ (λ i. (record st { slots = set st.slots (least_unused st.slots) (emptied Registered); retired = append-nil (st.retired ++ [] ∷ []) i; rest = [] }, append-nil (v ∷ vs) i))
          go false = then_goes (took (v ∷ vs)) (taker (v ∷ vs)) refl refl (took_quiet (v ∷ vs))

    pub rest_goes : rest_in_turn st ≡ rested st.rest
    rest_goes = go st.rest refl
      where
        step : Bool → StateAndGone T R
        step none = if none then (st, []) else (let o : StateAndGone T R = attempt_if_full (with_number_in_use st (least_unused st.slots) Registered) (least_unused st.slots) in with_gone o.1 (batch_in_turn o.0 (least_unused st.slots)))

        some : (n : ℕ) → (suc n == 0) ≡ false
        some n = grind arith

        go : (vs : List (T × R)) → st.rest ≡ vs → rest_in_turn st ≡ rested vs
        go [] none =
            ap (λ (l : List (T × R)). step (length l == 0)) none
            ∙ (λ i. (record st { retired = sym (append-nil st.retired) i; rest = none i }, []))
        go (v ∷ vs) is =
            let within : least_unused st.slots < length st.slots = room (λ none. let c : v ∷ vs ≡ [] = sym is ∙ none in absurd (cc)) in
            let there : (least_unused st.slots == length st.slots) ≡ false = grind (arith, within) in
            let makes : Bool → List (T × R) → ModelState T R = λ new l. record st { slots = (if new then st.slots ++ taker l ∷ [] else set st.slots (least_unused st.slots) (taker l)); rest = [] } in
            ap step (ap (λ (l : List (T × R)). length l == 0) is ∙ some (length vs))
            ∙ (λ i. goes_from v vs within (attempt_if_full (makes (there i) (is i)) (least_unused st.slots)))
            ∙ taker_goes v vs within

  -- The last steps: the numbers.

  -- nothing but its kind is left of each slot
  abbrev pub AreEmpty : List (ModelSlot T R) → Type 0
  AreEmpty xs = (s : ℕ) → get_or xs s unmade_slot ≡ emptied (get_or xs s unmade_slot).kind

  number_goes : (st : ModelState T R) (s : ℕ) → model_slot st s ≡ emptied (model_slot st s).kind → number_in_turn st s ≡ set_slot st s unmade_slot
  number_goes st s is = go (is_free (model_slot st s).kind) refl
    where
      go : (f : Bool) → is_free (model_slot st s).kind ≡ f → ◌≡◌ {A = ModelState T R} (if f then st else with_number_free st s) (set_slot st s unmade_slot)
      go true free =
          sym (ap (λ (x : ModelSlot T R). set_slot st s x) (sym (is ∙ emptied_free (model_slot st s).kind free))
          ∙ ap (λ (l : List (ModelSlot T R)). record st { slots = l }) (set-get_or st.slots s unmade_slot))
      go false used = ap (λ (l : List (T × R)). record (set_slot st s unmade_slot) { rest = l }) (ap (λ (x : ModelSlot T R). st.rest ++ x.batch) is ∙ append-nil st.rest)

  numbers_append : (st : ModelState T R) (ss ts : List ℕ) → numbers_in_turn st (ss ++ ts) ≡ numbers_in_turn (numbers_in_turn st ss) ts
  numbers_append st [] ts = refl
  numbers_append st (s ∷ ss) ts = numbers_append (number_in_turn st s) ss ts

  numbers_go : (n k : ℕ) (st : ModelState T R) → k + n ≡ length st.slots → AreEmpty st.slots → numbers_in_turn st (reverse (range_with_len k n)) ≡ record st { slots = from (λ (slot : ModelSlot T R). unmade_slot) k st.slots }
  numbers_go zero k st h empty = ap (λ (l : List (ModelSlot T R)). record st { slots = l }) (sym (from_end (λ (slot : ModelSlot T R). unmade_slot) k st.slots (omega (arith, h))))
  numbers_go (suc n) k st h empty =
      let within : k < length st.slots = omega (arith, h) in
      let one : k + 1 ≡ suc k = omega arith in
      let free : ModelSlot T R → ModelSlot T R = λ slot. unmade_slot in
      let now : ModelState T R = record st { slots = from free (suc k) st.slots } in
      let at : get_or (from free (suc k) st.slots) k unmade_slot ≡ model_slot st k = from_at free k st.slots unmade_slot in
      ap (numbers_in_turn st) (reverse-cons k (range_with_len (k + 1) n)) ∙ numbers_append st (reverse (range_with_len (k + 1) n)) (k ∷ [])
      ∙ ap (λ (now : ModelState T R). number_in_turn now k) (numbers_go n (k + 1) st (omega (arith, h)) empty)
      ∙ ap (λ (m : ℕ). number_in_turn (record st { slots = from free m st.slots }) k) one
      ∙ number_goes now k (at ∙ empty k ∙ ap (λ (x : ModelSlot T R). emptied x.kind) (sym at))
      ∙ ap (λ (l : List (ModelSlot T R)). record st { slots = l }) (from_before free k st.slots unmade_slot within)

-- Retired batches: those that wait for no slot are gone.

emptied_at : {X : Type 0} (xs : List (List X)) (b : ℕ) → get_or (set xs b []) b [] ≡ []
emptied_at [] b = refl
emptied_at (x ∷ xs) zero = refl
emptied_at (x ∷ xs) (suc b) = emptied_at xs b

has_rest : (b c : ℕ) (cs : List ℕ) → b ≢ c → has b (c ∷ cs) ≡ true → has b cs ≡ true
has_rest b c cs other t = let no : (c == b) ≡ false = grind arith in sym (ap (λ (u : Bool). u || has b cs) no) ∙ t

module _ {T R : Type 0} where
  abbrev IsKeptOrGone : ModelState T R → List ℕ → Type 0
  IsKeptOrGone st bs = (b : ℕ) → is_kept st b ≡ false → (has b bs ≡ true) ⊎ (retired_at st b ≡ [])

  release_rest : (st : ModelState T R) (c : ℕ) (cs : List ℕ) → IsKeptOrGone st (c ∷ cs) → IsKeptOrGone (release st c).0 cs
  release_rest st c cs h = go (is_kept st c) refl
    where
      go : (k : Bool) → is_kept st c ≡ k → (let o : StateAndGone T R = if k then (st, []) else (record st { retired = set st.retired c [] }, retired_at st c) in IsKeptOrGone o.0 cs)
      go true kept b e = elim (or_same b c) [
        | inl same ↦ absurd (let k : true ≡ false = sym kept ∙ ap (is_kept st) (sym same) ∙ e in cc)
        | inr other ↦ elim (h b e) [ inl t ↦ inl (has_rest b c cs other t) | inr none ↦ inr none ]
      ]
      go false kept b e = elim (or_same b c) [
        | inl same ↦ inr (ap (λ (k : ℕ). get_or (set st.retired c []) k []) same ∙ emptied_at st.retired c)
        | inr other ↦ elim (h b e) [ inl t ↦ inl (has_rest b c cs other t) | inr none ↦ inr (get_or-set_other st.retired c b [] [] other ∙ none) ]
      ]

  releases_clean : (bs : List ℕ) (st : ModelState T R) → IsKeptOrGone st bs → IsClean (release_all st bs).0
  releases_clean [] st h b e = elim (h b e) [ inl t ↦ absurd (cc) | inr none ↦ none ]
  releases_clean (c ∷ cs) st h b e = releases_clean cs (release st c).0 (release_rest st c cs h) b e

  waits_other : (st : ModelState T R) (s b : ℕ) → (has b (model_slot st s).order ≡ false) → is_kept (set_slot st s (record (model_slot st s) { order = [] })) b ≡ is_kept st b
  waits_other st s b none =
      any_counts (waits_for b) (set st.slots s (record (model_slot st s) { order = [] }))
      ∙ ap (λ (n : ℕ). not (n == 0)) (count_same (waits_for b) st.slots s (record (model_slot st s) { order = [] }) unmade_slot (sym none)) ∙ sym (any_counts (waits_for b) st.slots)

  part_clean : (st : ModelState T R) (s : ℕ) → IsClean st → IsClean (part st s).0
  part_clean st s clean =
      releases_clean (model_slot st s).order (set_slot st s (record (model_slot st s) { order = [] })) (λ b e. go b e (is_true (has b (model_slot st s).order)))
    where
      go : (b : ℕ) → is_kept (set_slot st s (record (model_slot st s) { order = [] })) b ≡ false → (has b (model_slot st s).order ≡ true) ⊎ (has b (model_slot st s).order ≡ false)
          → (has b (model_slot st s).order ≡ true) ⊎ (retired_at st b ≡ [])
      go b e (inl t) = inl t
      go b e (inr f) = inr (clean b (sym (waits_other st s b f) ∙ e))

  next_clean : (st : ModelState T R) (s : ℕ) → s < length st.slots → IsClean st → IsClean (set_guards (part st s).0 s 0)
  next_clean st s h clean b e =
      let parted : ModelState T R = (part st s).0 in
      let orders : map (λ (x : ModelSlot T R). x.order) (set_guards (part st s).0 s 0).slots ≡ map (λ (x : ModelSlot T R). x.order) (part st s).0.slots =
      ap (map (λ (x : ModelSlot T R). x.order)) (next_slots st s h) ∙ set_map (λ (x : ModelSlot T R). x.order) st.slots s (off_slot (model_slot st s))
      ∙ sym (set_map (λ (x : ModelSlot T R). x.order) st.slots s (record (model_slot st s) { order = [] }))
      ∙ ap (map (λ (x : ModelSlot T R). x.order)) (sym (release_slots (set_slot st s (record (model_slot st s) { order = [] })) (model_slot st s).order)) in
      part_clean st s clean b (sym (kept_by b (set_guards (part st s).0 s 0).slots (part st s).0.slots orders) ∙ e)

  parted_clean : (n k : ℕ) (st : ModelState T R) → k + n ≡ length st.slots → IsClean st → IsClean (part_all st (range_with_len k n)).0
  parted_clean zero k st h clean = clean
  parted_clean (suc n) k st h clean =
      let within : k < length st.slots = omega (arith, h) in
      let long : k + 1 + n ≡ length (set_guards (part st k).0 k 0).slots =
      omega (arith, h, ap (λ (l : List (ModelSlot T R)). length l) (next_slots st k within), length-set st.slots k (off_slot (model_slot st k))) in
      parted_clean n (k + 1) (set_guards (part st k).0 k 0) long (next_clean st k within clean)

-- All of it.

abbrev AllGone : {X : Type 0} → List (List X) → Type 0
AllGone xs = (b : ℕ) → get_or xs b [] ≡ []

append_gone : {X : Type 0} (xs ys : List (List X)) → AllGone xs → AllGone ys → AllGone (xs ++ ys)
append_gone [] ys xg yg b = yg b
append_gone (x ∷ xs) ys xg yg zero = xg zero
append_gone (x ∷ xs) ys xg yg (suc b) = append_gone xs ys (λ c. xg (suc c)) yg b

gone_many : {X : Type 0} (xs : List (List X)) → AllGone xs → xs ≡ replicate (length xs) [] ++ []
gone_many [] gone = refl
gone_many (x ∷ xs) gone = λ i. gone zero i ∷ gone_many xs (λ b. gone (suc b)) i

module _ {T R : Type 0} where
  left_gone : (vs : List (T × R)) → AllGone (left_of vs)
  left_gone [] b = refl
  left_gone (v ∷ vs) zero = refl
  left_gone (v ∷ vs) (suc b) = refl

  lefts_gone : (xs : List (ModelSlot T R)) → AllGone (flat_map (λ (slot : ModelSlot T R). left_of slot.batch) xs)
  lefts_gone [] b = refl
  lefts_gone (x ∷ xs) b =
      ap (λ (l : List (List (T × R))). get_or l b []) (flat_map-cons (λ (slot : ModelSlot T R). left_of slot.batch) x xs)
      ∙ append_gone (left_of x.batch) (flat_map (λ (slot : ModelSlot T R). left_of slot.batch) xs) (left_gone x.batch) (lefts_gone xs) b

  all_quiet : (xs : List (ModelSlot T R)) → AreSound xs → AreQuiet (map (λ (slot : ModelSlot T R). off_slot slot) xs)
  all_quiet [] sound s = (refl, refl, λ e. refl)
  all_quiet (x ∷ xs) sound zero = (refl, refl, λ e. ap (λ (slot : ModelSlot T R). off_slot slot) ((sound zero).0 e))
  all_quiet (x ∷ xs) sound (suc s) = all_quiet xs (λ i. sound (suc i)) s

  least_map : (f : ModelSlot T R → ModelSlot T R) → ((x : ModelSlot T R) → (f x).kind ≡ x.kind) → (xs : List (ModelSlot T R)) → least_unused (map f xs) ≡ least_unused xs
  least_map f keeps [] = refl
  least_map f keeps (x ∷ xs) = λ i. cond (not (is_free (keeps x i))) (1 + least_map f keeps xs i) 0

  all_unmade : (xs ys : List (ModelSlot T R)) → length xs ≡ length ys → ◌≡◌ {A = List (ModelSlot T R)} (map (λ slot. unmade_slot) xs) (map (λ slot. unmade_slot) ys)
  all_unmade [] [] h = refl
  all_unmade [] (y ∷ ys) h = absurd (omega (arith, h))
  all_unmade (x ∷ xs) [] h = absurd (omega (arith, h))
  all_unmade (x ∷ xs) (y ∷ ys) h = ap (λ (l : List (ModelSlot T R)). unmade_slot ∷ l) (all_unmade xs ys (omega (arith, h)))

  same_orders : (n : ℕ) (xs : List (ModelSlot T R)) → ◌≡◌ {A = List (ModelSlot T R)} (map (λ slot. unmade_slot) xs) (map (with_order_from n) (map (λ slot. unmade_slot) xs))
  same_orders n [] = refl
  same_orders n (x ∷ xs) = ap (λ (l : List (ModelSlot T R)). unmade_slot ∷ l) (same_orders n xs)

  rest_beside : (st : ModelState T R) (ss : List ℕ) → (part_all st ss).0.rest ≡ st.rest
  rest_beside st [] = refl
  rest_beside st (s ∷ ss) = rest_beside (set_guards (part st s).0 s 0) ss ∙ releases_beside (λ (k : ModelState T R). k.rest) (λ k retired. refl) (set_slot st s (record (model_slot st s) { order = [] })) (model_slot st s).order

  -- what the slots are after all partings
  pub parted_all : (st : ModelState T R) → (part_all st (range_with_len 0 (length st.slots))).0.slots ≡ map (λ (slot : ModelSlot T R). off_slot slot) st.slots
  unfolding from
  parted_all st = parted_are (length st.slots) 0 st (omega arith)

  module _ (st : ModelState T R) (o : IsOrderly st) where
    abbrev parted : StateAndGone T R
    parted = part_all st (range_with_len 0 (length st.slots))

    abbrev all : List ℕ
    all = range_with_len 0 (length (part_all st (range_with_len 0 (length st.slots))).0.slots)

    abbrev lefts : List (List (T × R))
    lefts = (part_all st (range_with_len 0 (length st.slots))).0.retired ++ flat_map (λ (slot : ModelSlot T R). left_of slot.batch) (part_all st (range_with_len 0 (length st.slots))).0.slots

    abbrev away_slots : List (ModelSlot T R)
    away_slots = map (λ (slot : ModelSlot T R). emptied slot.kind) (part_all st (range_with_len 0 (length st.slots))).0.slots

    -- what is left after the batches, and after what was left
    abbrev away : StateAndGone T R
    away = (record parted.0 { slots = away_slots; retired = lefts }, flat_map (λ (slot : ModelSlot T R). slot.batch) parted.0.slots)

    abbrev all_lefts : List (List (T × R))
    all_lefts = lefts ++ left_of parted.0.rest

    abbrev reclaimed : StateAndGone T R
    reclaimed = (record parted.0 { slots = map (λ slot. unmade_slot) parted.0.slots; retired = all_lefts; rest = [] }, parted.1 ++ flat_map (λ (slot : ModelSlot T R). slot.batch) parted.0.slots ++ parted.0.rest)

    whole : 0 + length st.slots ≡ length st.slots
    whole = omega arith

    sound : AreSound st.slots
    sound s = (o.free s, o.inactive s)

    pub parted_quiet : AreQuiet (part_all st (range_with_len 0 (length st.slots))).0.slots
    parted_quiet = subst (λ (l : List (ModelSlot T R)). AreQuiet l) (sym (parted_all st)) (all_quiet st.slots sound)

    batches_away : batches_in_turn parted.0 all ≡ away
    unfolding from flat_from
    batches_away = batches_go (length parted.0.slots) 0 parted.0 (omega arith) parted_quiet

    -- the slots then

    away_at : (s : ℕ) → model_slot away.0 s ≡ emptied (model_slot parted.0 s).kind
    away_at s = get_map (λ (slot : ModelSlot T R). emptied slot.kind) parted.0.slots s unmade_slot unmade_slot refl

    away_empty : AreEmpty away_slots
    away_empty s = away_at s ∙ ap (λ (x : ModelSlot T R). emptied x.kind) (sym (away_at s))

    away_quiet : AreQuiet away_slots
    away_quiet s =
        subst (λ (x : ModelSlot T R). (has_guard x ≡ false) × (slot_order x ≡ []) × (is_free x.kind ≡ true → x ≡ unmade_slot)) (sym (away_at s))
        (refl, refl, emptied_free (model_slot parted.0 s).kind)

    away_room : parted.0.rest ≢ [] → least_unused away_slots < length away_slots
    away_room some =
        let least : least_unused away_slots ≡ least_unused st.slots =
        least_map (λ (slot : ModelSlot T R). emptied slot.kind) (λ x. refl) parted.0.slots ∙ ap (λ (l : List (ModelSlot T R)). least_unused l) (parted_all st) ∙ least_map (λ (slot : ModelSlot T R). off_slot slot) (λ x. refl) st.slots in
        let many : length away_slots ≡ length st.slots =
        length-map parted.0.slots (λ (slot : ModelSlot T R). emptied slot.kind) ∙ ap (λ (l : List (ModelSlot T R)). length l) (parted_all st) ∙ length-map st.slots (λ (slot : ModelSlot T R). off_slot slot) in
        let room : least_unused st.slots < length st.slots = o.rest (λ none. some (rest_beside st (range_with_len 0 (length st.slots)) ∙ none)) in
        subst (λ (t : ℕ × ℕ). t.0 < t.1) (λ i. (sym least i, sym many i)) room

    abbrev emptied_all : StateAndGone T R
    emptied_all = rested away.0 away_quiet away_room parted.0.rest

    rest_away : rest_in_turn away.0 ≡ emptied_all
    rest_away = rest_goes away.0 away_quiet away_room

    all_empty : (vs : List (T × R)) → AreEmpty (rested_slots away.0 away_quiet away_room vs)
    all_empty [] s = away_empty s
    all_empty (v ∷ vs) s = at_set (λ (x : ModelSlot T R). x ≡ emptied x.kind) away.0.slots (least_unused away.0.slots) s (emptied Registered) unmade_slot (λ same within. refl) (away_empty s)

    all_many : (vs : List (T × R)) → length (rested_slots away.0 away_quiet away_room vs) ≡ length parted.0.slots
    all_many [] = length-map parted.0.slots (λ (slot : ModelSlot T R). emptied slot.kind)
    all_many (v ∷ vs) = length-set away.0.slots (least_unused away.0.slots) (emptied Registered) ∙ length-map parted.0.slots (λ (slot : ModelSlot T R). emptied slot.kind)

    numbers_back : numbers_in_turn emptied_all.0 (reverse all) ≡ reclaimed.0
    unfolding from
    numbers_back =
        numbers_go (length parted.0.slots) 0 emptied_all.0 (omega (arith, all_many parted.0.rest)) (all_empty parted.0.rest)
        ∙ ap (λ (l : List (ModelSlot T R)). record parted.0 { slots = l; retired = all_lefts; rest = [] }) (all_unmade (rested_slots away.0 away_quiet away_room parted.0.rest) parted.0.slots (all_many parted.0.rest))

    pub in_turn_is : in_turn st ≡ reclaimed
    in_turn_is =
        let kept : StateAndGone T R → StateAndGone T R → StateAndGone T R = λ b r. (numbers_in_turn r.0 (reverse all), b.1 ++ r.1) in
        ap (λ (p : StateAndGone T R). with_gone p.1 (kept_in_turn p.0)) (parts_are (length st.slots) 0 st whole sound)
        ∙ ap (λ (b : StateAndGone T R). with_gone parted.1 (kept b (rest_in_turn b.0))) batches_away
        ∙ ap (λ (r : StateAndGone T R). with_gone parted.1 (kept away r)) rest_away
        ∙ (λ i. (numbers_back i, sym (append_assoc parted.1 (flat_map (λ (slot : ModelSlot T R). slot.batch) parted.0.slots) parted.0.rest) i))

    lefts_are_gone : AllGone all_lefts
    lefts_are_gone =
        append_gone lefts (left_of parted.0.rest)
        (append_gone parted.0.retired (flat_map (λ (slot : ModelSlot T R). left_of slot.batch) parted.0.slots)
        (λ b. parted_clean (length st.slots) 0 st whole o.gone b (kept_for_none b parted.0.slots parted_quiet)) (lefts_gone parted.0.slots))
        (left_gone parted.0.rest)

    abbrev modelled : ModelState T R
    modelled = record parted.0 { slots = map (λ slot. unmade_slot) parted.0.slots; retired = []; rest = [] }

    below : reclaimed.0 ≡ with_gone_below (length all_lefts) modelled
    below = λ i. record parted.0 { slots = same_orders (length all_lefts) parted.0.slots i; retired = gone_many all_lefts lefts_are_gone i; rest = [] }

pub reclaims_in_turn : {T : Type 0} (puts : ℕ → T → List T) (weight : T → ℕ) → ReclaimsInTurn puts weight
reclaims_in_turn {T} puts weight st o =
    let is : in_turn st ≡ reclaimed st o = in_turn_is st o in (
      ap (λ (x : StateAndGone T ℕ). x.1 ++ gone_from puts weight (further puts x.1)) is,
      ap (λ (x : StateAndGone T ℕ). record x.0 { retired = [] }) is,
      ap (λ (x : StateAndGone T ℕ). x.0) is ∙ below st o
          ∙ ap (λ (x : StateAndGone T ℕ). with_gone_below (length x.0.retired) (modelled st o)) (sym is),
    )
