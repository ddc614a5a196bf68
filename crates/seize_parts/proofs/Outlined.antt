-- What each part of a reclaim of all leaves of the slots: which are in use, and how many guards each has.
--     less_size .. parts_size       the size stays
--     part_free, part_used, batch_free, batch_used, number_free, number_used     a slot that is not in use does nothing;  and what one does
--                                   that is
--     part_at, part_other           a slot that parted has no guard;  the others are as they were
--     batch_outline, batches_outline     slots without guards that attempt their batches are as they were
--     use_batch, use_at, use_other, use_long     a number that was made is in use again, and what was left is its batch
--     number_at, number_other, numbers_long     it goes back
use Rattle.std.proofs.Common.{◌≡◌, ℕ, ◌==◌, ◌-◌, ◌<◌, ◌≤◌, Bool, true, false, not, if◌then◌else◌, List, [], ◌∷◌, ◌++◌, length, get_or, set, refl, sym, ap, subst, ◌∙◌, arith}
use Rattle.std.proofs.Math.Seq.{map-set_same}
use Rattle.std.proofs.lemmas.List.{get_or-set_other, get_or-set_same, get_or_push, length-set, map-set}
use Rattle.std.proofs.lemmas.List.Sums.{prefix_len-le-length}
use Rattle.seize_model.specs.declared.kind.Kind.{Kind}
use Rattle.seize_model.specs.Waiting.Attempt.{StateAndGone, attempt, attempt_if_full, with_gone}
use Rattle.seize_model.specs.Waiting.Calls.{is_free, least_unused, one_guard_less, set_guards, with_number_free, with_number_in_use}
use Rattle.seize_model.specs.Waiting.State.{ModelSlot, ModelState, has_guard, model_slot, unmade_slot}
use Rattle.seize_model.proofs.Cases.{either}
use Rattle.seize_machine.proofs.Facts.{eq_true}
use Rattle.seize_book.proofs.Facts.{equal, unequal}
use Rattle.seize_alone.specs.Reclaiming.{batch_in_turn, batches_in_turn, last_guard_left, number_in_turn, part_in_turn, parts_in_turn}
use Rattle.seize_alone.proofs.Outlines.{attempt_frame, guards_in, kind_in, less_frame, outline, outline_of, slot_in, slots_in}
use Rattle.seize_alone.proofs.Ready.{nothing, nothing_further}
use Rattle.seize_alone.proofs.Sizes.{attempt_size, parts_size as further_size}
use Rattle.seize_parts.proofs.Lying.{slot_there}
use Rattle.seize_parts.proofs.InUse.{set_twice}

-- with one guard it is active
pub one_guard : (k : ℕ) → k ≡ 1 → not (k == 0) ≡ true
one_guard k is = ap (λ (m : ℕ). not (m == 0)) is

no_guards : (k : ℕ) → not (k == 0) ≡ false → k ≡ 0
no_guards k none = grind arith

-- a slot in use that was given one
pub guarded_slot : {T R : Type 0} (st : ModelState T R) (n : ℕ) → n < length st.slots → model_slot (set_guards st n 1) n ≡ record (model_slot st n) { guards = 1 }
guarded_slot st n there = get_or-set_same st.slots n (record (model_slot st n) { guards = 1 }) unmade_slot there

module _ {T : Type 0} where
  -- Which of them do something.

  pub part_free : (st : ModelState T ℕ) (s : ℕ) → is_free (model_slot st s).kind ≡ true → part_in_turn st s ≡ (st, [])
  part_free st s free = ap (λ (b : Bool). if b then (st, []) else last_guard_left st s) free

  pub part_used : (st : ModelState T ℕ) (s : ℕ) → is_free (model_slot st s).kind ≡ false → part_in_turn st s ≡ last_guard_left st s
  part_used st s used = ap (λ (b : Bool). if b then (st, []) else last_guard_left st s) used

  abbrev pub attempted : ModelState T ℕ → ℕ → StateAndGone T ℕ
  attempted st s = attempt (set_guards st s 1) s

  pub batch_free : (st : ModelState T ℕ) (s : ℕ) → is_free (model_slot st s).kind ≡ true → batch_in_turn st s ≡ (st, [])
  batch_free st s free = ap (λ (b : Bool). if b then (st, []) else with_gone (attempted st s).1 (one_guard_less (attempted st s).0 s)) free

  pub batch_used : (st : ModelState T ℕ) (s : ℕ) → is_free (model_slot st s).kind ≡ false → batch_in_turn st s ≡ with_gone (attempted st s).1 (one_guard_less (attempted st s).0 s)
  batch_used st s used = ap (λ (b : Bool). if b then (st, []) else with_gone (attempted st s).1 (one_guard_less (attempted st s).0 s)) used

  pub number_free : (st : ModelState T ℕ) (s : ℕ) → is_free (model_slot st s).kind ≡ true → number_in_turn st s ≡ st
  number_free st s free = ap (λ (b : Bool). if b then st else with_number_free st s) free

  pub number_used : (st : ModelState T ℕ) (s : ℕ) → is_free (model_slot st s).kind ≡ false → number_in_turn st s ≡ with_number_free st s
  number_used st s used = ap (λ (b : Bool). if b then st else with_number_free st s) used

  -- Sizes.

  pub less_size : (st : ModelState T ℕ) (s : ℕ) → (one_guard_less st s).0.size ≡ st.size
  less_size st s = ap (λ (o : StateAndGone T ℕ). o.0.size) (sym (nothing_further (λ (x : T). 1) s (one_guard_less st s))) ∙ further_size nothing (λ (x : T). 1) st s

  pub batch_size : (st : ModelState T ℕ) (s : ℕ) → (batch_in_turn st s).0.size ≡ st.size
  batch_size st s =
      either (λ (o : StateAndGone T ℕ). o.0.size ≡ st.size) (is_free (model_slot st s).kind) _ _ refl (less_size (attempted st s).0 s ∙ attempt_size (set_guards st s 1) s)

  pub batches_size : (st : ModelState T ℕ) (ss : List ℕ) → (batches_in_turn st ss).0.size ≡ st.size
  batches_size st [] = refl
  batches_size st (s ∷ ss) = batches_size (batch_in_turn st s).0 ss ∙ batch_size st s

  left_size : (st : ModelState T ℕ) (s : ℕ) → (last_guard_left st s).0.size ≡ st.size
  left_size st s = either (λ (o : StateAndGone T ℕ). o.0.size ≡ st.size) (has_guard (model_slot st s)) _ _ (less_size (set_guards st s 1) s) refl

  part_size : (st : ModelState T ℕ) (s : ℕ) → (part_in_turn st s).0.size ≡ st.size
  part_size st s = either (λ (o : StateAndGone T ℕ). o.0.size ≡ st.size) (is_free (model_slot st s).kind) _ _ refl (left_size st s)

  pub parts_size : (st : ModelState T ℕ) (ss : List ℕ) → (parts_in_turn st ss).0.size ≡ st.size
  parts_size st [] = refl
  parts_size st (s ∷ ss) = parts_size (part_in_turn st s).0 ss ∙ part_size st s

  -- Outlines.

  guards_outline : (st : ModelState T ℕ) (s n : ℕ) → outline (set_guards st s n) ≡ set (outline st) s ((model_slot st s).kind, n)
  guards_outline st s n = map-set outline_of st.slots s (record (model_slot st s) { guards = n })

  -- the slot has no guard then
  less_outline : (st now : ModelState T ℕ) (s : ℕ) → is_free (model_slot st s).kind ≡ false → outline now ≡ outline (set_guards st s 1) → outline (one_guard_less now s).0 ≡ outline (set_guards st s 0)
  less_outline st now s used is =
      let one = guarded_slot st s (slot_there st s used) in
      let guards : (model_slot now s).guards ≡ 1 = guards_in now (set_guards st s 1) is s ∙ ap (λ (x : ModelSlot T ℕ). x.guards) one in
      let kind : (model_slot now s).kind ≡ (model_slot st s).kind = kind_in now (set_guards st s 1) is s ∙ ap (λ (x : ModelSlot T ℕ). x.kind) one in
      let none : (model_slot now s).guards - 1 ≡ 0 = omega (arith, guards) in
      ap (λ (f : _). f.0) (less_frame now s) ∙ guards_outline now s ((model_slot now s).guards - 1)
      ∙ (λ j. set ((is ∙ guards_outline st s 1) j) s (kind j, none j)) ∙ set_twice (outline st) s ((model_slot st s).kind, 1) ((model_slot st s).kind, 0) ∙ sym (guards_outline st s 0)

  -- where it had none, that is what it was
  none_outline : (st : ModelState T ℕ) (s : ℕ) → has_guard (model_slot st s) ≡ false → outline (set_guards st s 0) ≡ outline st
  none_outline st s off = map-set_same outline_of st.slots s (record (model_slot st s) { guards = 0 }) unmade_slot (ap (λ (n : ℕ). ((model_slot st s).kind, n)) (sym (no_guards (model_slot st s).guards off)))

  part_outline : (st : ModelState T ℕ) (s : ℕ) → is_free (model_slot st s).kind ≡ false → outline (part_in_turn st s).0 ≡ outline (set_guards st s 0)
  part_outline st s used = ap (λ (o : StateAndGone T ℕ). outline o.0) (part_used st s used) ∙ go (has_guard (model_slot st s)) refl
    where
      go : (on : Bool) → has_guard (model_slot st s) ≡ on → outline (if on then one_guard_less (set_guards st s 1) s else (st, [])).0 ≡ outline (set_guards st s 0)
      go true on = less_outline st (set_guards st s 1) s used refl
      go false off = sym (none_outline st s off)

  -- a slot in use that parted has no guard, and is in use still
  pub part_at : (st : ModelState T ℕ) (s : ℕ) → is_free (model_slot st s).kind ≡ false → (is_free (model_slot (part_in_turn st s).0 s).kind ≡ false) × (has_guard (model_slot (part_in_turn st s).0 s) ≡ false)
  part_at st s used =
      let now = (part_in_turn st s).0 in let is = part_outline st s used in
      let slot = get_or-set_same st.slots s (record (model_slot st s) { guards = 0 }) unmade_slot (slot_there st s used) in (
        ap is_free (kind_in now (set_guards st s 0) is s ∙ ap (λ (x : ModelSlot T ℕ). x.kind) slot) ∙ used,
        ap (λ (n : ℕ). not (n == 0)) (guards_in now (set_guards st s 0) is s ∙ ap (λ (x : ModelSlot T ℕ). x.guards) slot),
      )

  -- the other slots are as they were
  pub part_other : (st : ModelState T ℕ) (s t : ℕ) → ¬ (t ≡ s) → outline_of (model_slot (part_in_turn st s).0 t) ≡ outline_of (model_slot st t)
  part_other st s t differs = go (is_free (model_slot st s).kind) refl
    where
      go : (free : Bool) → is_free (model_slot st s).kind ≡ free → outline_of (model_slot (part_in_turn st s).0 t) ≡ outline_of (model_slot st t)
      go true free = ap (λ (o : StateAndGone T ℕ). outline_of (model_slot o.0 t)) (part_free st s free)
      go false used =
          slot_in (part_in_turn st s).0 (set_guards st s 0) (part_outline st s used) t
          ∙ ap (λ (x : ModelSlot T ℕ). outline_of x) (get_or-set_other st.slots s t (record (model_slot st s) { guards = 0 }) unmade_slot differs)

  part_long : (st : ModelState T ℕ) (s : ℕ) → length (part_in_turn st s).0.slots ≡ length st.slots
  part_long st s = go (is_free (model_slot st s).kind) refl
    where
      go : (free : Bool) → is_free (model_slot st s).kind ≡ free → length (part_in_turn st s).0.slots ≡ length st.slots
      go true free = ap (λ (o : StateAndGone T ℕ). length o.0.slots) (part_free st s free)
      go false used = slots_in (part_in_turn st s).0 (set_guards st s 0) (part_outline st s used) ∙ length-set st.slots s (record (model_slot st s) { guards = 0 })

  pub parts_long : (st : ModelState T ℕ) (ss : List ℕ) → length (parts_in_turn st ss).0.slots ≡ length st.slots
  parts_long st [] = refl
  parts_long st (s ∷ ss) = parts_long (part_in_turn st s).0 ss ∙ part_long st s

  -- a slot without guards is as it was
  pub batch_outline : (st : ModelState T ℕ) (s : ℕ) → (is_free (model_slot st s).kind ≡ false → has_guard (model_slot st s) ≡ false) → outline (batch_in_turn st s).0 ≡ outline st
  batch_outline st s off = go (is_free (model_slot st s).kind) refl
    where
      go : (free : Bool) → is_free (model_slot st s).kind ≡ free → outline (batch_in_turn st s).0 ≡ outline st
      go true free = ap (λ (o : StateAndGone T ℕ). outline o.0) (batch_free st s free)
      go false used =
          ap (λ (o : StateAndGone T ℕ). outline o.0) (batch_used st s used)
          ∙ less_outline st (attempted st s).0 s used (ap (λ (f : _). f.0) (attempt_frame (set_guards st s 1) s)) ∙ none_outline st s (off used)

  abbrev pub NoGuards : ModelState T ℕ → Type 0
  NoGuards st = (s : ℕ) → is_free (model_slot st s).kind ≡ false → has_guard (model_slot st s) ≡ false

  pub none_in : (a b : ModelState T ℕ) → outline a ≡ outline b → NoGuards b → NoGuards a
  none_in a b same none s used = ap (λ (n : ℕ). not (n == 0)) (guards_in a b same s) ∙ none s (ap is_free (sym (kind_in a b same s)) ∙ used)

  pub batches_outline : (st : ModelState T ℕ) (ss : List ℕ) → NoGuards st → outline (batches_in_turn st ss).0 ≡ outline st
  batches_outline st [] none = refl
  batches_outline st (s ∷ ss) none = let one = batch_outline st s (none s) in batches_outline (batch_in_turn st s).0 ss (none_in (batch_in_turn st s).0 st one none) ∙ one

  -- A number is taken again.

  abbrev taken_by : ModelState T ℕ → Kind → ModelSlot T ℕ
  taken_by st kind = record { kind = kind; guards = 0; batch = st.rest; order = [] }

  least_few : (slots : List (ModelSlot T ℕ)) → least_unused slots ≤ length slots
  least_few slots = prefix_len-le-length (λ (x : ModelSlot T ℕ). not (is_free x.kind)) slots

  -- what was left is its batch
  pub use_batch : (st : ModelState T ℕ) (n : ℕ) (kind : Kind) → n ≡ least_unused st.slots → (model_slot (with_number_in_use st n kind) n).batch ≡ st.rest
  use_batch st n kind least = go (n == length st.slots) refl
    where
      few : n ≤ length st.slots
      few = subst (λ (k : ℕ). k ≤ length st.slots) (sym least) (least_few st.slots)

      go : (b : Bool) → (n == length st.slots) ≡ b → (get_or (if b then st.slots ++ taken_by st kind ∷ [] else set st.slots n (taken_by st kind)) n unmade_slot).batch ≡ st.rest
      go true is = ap (λ (x : ModelSlot T ℕ). x.batch) (get_or_push st.slots (taken_by st kind) unmade_slot n (sym (eq_true n (length st.slots) is)))
      go false is =
          ap (λ (x : ModelSlot T ℕ). x.batch)
          (get_or-set_same st.slots n (taken_by st kind) unmade_slot (let less = few in let differs : n ≡ length st.slots → ⊥ = λ e. absurd (let no : false ≡ true = sym is ∙ equal n (length st.slots) e in cc) in omega (arith, less, differs)))

  use_slots : (st : ModelState T ℕ) (n : ℕ) (kind : Kind) → n < length st.slots → (with_number_in_use st n kind).slots ≡ set st.slots n (taken_by st kind)
  use_slots st n kind below = ap (λ (b : Bool). if b then st.slots ++ taken_by st kind ∷ [] else set st.slots n (taken_by st kind)) (unequal n (length st.slots) (λ e. absurd (omega (arith, below, e))))

  module _ (st : ModelState T ℕ) (n : ℕ) (kind : Kind) (below : n < length st.slots) where
    abbrev now : ModelState T ℕ
    now = with_number_in_use st n kind

    use_same : model_slot now n ≡ taken_by st kind
    use_same = ap (λ (l : List (ModelSlot T ℕ)). get_or l n unmade_slot) (use_slots st n kind below) ∙ get_or-set_same st.slots n (taken_by st kind) unmade_slot below

    pub use_at : ((model_slot now n).kind ≡ kind) × (has_guard (model_slot now n) ≡ false)
    use_at = (ap (λ (x : ModelSlot T ℕ). x.kind) use_same, ap (λ (x : ModelSlot T ℕ). has_guard x) use_same)

    pub use_other : (t : ℕ) → ¬ (t ≡ n) → model_slot now t ≡ model_slot st t
    use_other t differs = ap (λ (l : List (ModelSlot T ℕ)). get_or l t unmade_slot) (use_slots st n kind below) ∙ get_or-set_other st.slots n t (taken_by st kind) unmade_slot differs

    pub use_long : length now.slots ≡ length st.slots
    use_long = ap (λ (l : List (ModelSlot T ℕ)). length l) (use_slots st n kind below) ∙ length-set st.slots n (taken_by st kind)

  pub full_outline : (st : ModelState T ℕ) (n : ℕ) → outline (attempt_if_full st n).0 ≡ outline st
  full_outline st n = either (λ (o : StateAndGone T ℕ). outline o.0 ≡ outline st) _ _ _ (ap (λ (f : _). f.0) (attempt_frame st n)) refl

  pub full_size : (st : ModelState T ℕ) (n : ℕ) → (attempt_if_full st n).0.size ≡ st.size
  full_size st n = either (λ (o : StateAndGone T ℕ). o.0.size ≡ st.size) _ _ _ (attempt_size st n) refl

  -- A number goes back.

  pub number_at : (st : ModelState T ℕ) (s : ℕ) → is_free (model_slot (number_in_turn st s) s).kind ≡ true
  number_at st s = go (is_free (model_slot st s).kind) refl
    where
      go : (free : Bool) → is_free (model_slot st s).kind ≡ free → is_free (model_slot (number_in_turn st s) s).kind ≡ true
      go true free = ap (λ (x : ModelState T ℕ). is_free (model_slot x s).kind) (number_free st s free) ∙ free
      go false used =
          ap (λ (x : ModelState T ℕ). is_free (model_slot x s).kind) (number_used st s used)
          ∙ ap (λ (x : ModelSlot T ℕ). is_free x.kind) (get_or-set_same st.slots s unmade_slot unmade_slot (slot_there st s used))

  pub number_other : (st : ModelState T ℕ) (s t : ℕ) → ¬ (t ≡ s) → model_slot (number_in_turn st s) t ≡ model_slot st t
  number_other st s t differs =
      either (λ (x : ModelState T ℕ). model_slot x t ≡ model_slot st t) (is_free (model_slot st s).kind) _ _ refl (get_or-set_other st.slots s t unmade_slot unmade_slot differs)
