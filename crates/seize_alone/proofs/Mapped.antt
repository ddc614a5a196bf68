-- The steps of the model are the same where each value and each kind is written as `Some` of it.
use Rattle.std.proofs.Common.{◌≡◌, ℕ, zero, suc, ◌+◌, ◌-◌, ◌*◌, ◌==◌, ◌||◌, Bool, true, false, not, cond, if◌then◌else◌, nat_lt, nat_le, max, List, [], ◌∷◌, ◌++◌, length, map, get_or, set, Option, Some, None, option_map, refl, sym, ap, ◌∙◌}
use Rattle.std.specs.List.{fold, list_any}
use Rattle.std.proofs.lemmas.List.{length-map, map-append}
use Rattle.seize_model.specs.declared.kind.Kind.{Kind}
use Rattle.seize_model.specs.Waiting.State.{ModelSlot, ModelState, has_guard, is_kept, unmade_slot, retired_at, set_slot, model_slot, waits_for}
use Rattle.seize_model.specs.Waiting.Attempt.{StateAndGone, active_slots, attempt, attempt_if_full, gives_up, is_full, part, put, release, release_all, wait_if_active, with_batch_retired, with_batch_value, with_gone}
use Rattle.seize_model.specs.Waiting.Calls.{is_free, least_unused, model_link, others_in_use, rest_and_batch, set_guards, with_number_free, with_number_in_use, with_rest_gathered}
use Rattle.seize_model.specs.Waiting.Further.{afterwards, further, put_by, settle, still_to_come, with_further}
use Rattle.seize_alone.specs.Holding.{some_slot, some_state, some_value}

pub get_map : {X Y : Type 0} (h : X → Y) (xs : List X) (i : ℕ) (d : X) (e : Y) → h d ≡ e → get_or (map h xs) i e ≡ h (get_or xs i d)
get_map h [] i d e is = sym is
get_map h (x ∷ xs) zero d e is = refl
get_map h (x ∷ xs) (suc i) d e is = get_map h xs i d e is

pub set_map : {X Y : Type 0} (h : X → Y) (xs : List X) (i : ℕ) (x : X) → map h (set xs i x) ≡ set (map h xs) i (h x)
set_map h [] i x = refl
set_map h (y ∷ ys) zero x = refl
set_map h (y ∷ ys) (suc i) x = ap (λ rest. h y ∷ rest) (set_map h ys i x)

pub any_map : {X Y : Type 0} (p : Y → Bool) (h : X → Y) (xs : List X) → list_any p (map h xs) ≡ list_any (λ x. p (h x)) xs
any_map p h [] = refl
any_map p h (x ∷ xs) = ap (λ b. p (h x) || b) (any_map p h xs)

pub map_map : {X Y Z W : Type 0} (h : Y → Z) (k : X → Y) (h' : W → Z) (k' : X → W) → ((x : X) → h (k x) ≡ h' (k' x)) → (xs : List X) → map h (map k xs) ≡ map h' (map k' xs)
map_map h k h' k' same [] = refl
map_map h k h' k' same (x ∷ xs) = λ i. same x i ∷ map_map h k h' k' same xs i

pub fold_map : {X Y B : Type 0} (s : B → Y → B) (h : X → Y) (a : B) (xs : List X) → fold s a (map h xs) ≡ fold (λ b x. s b (h x)) a xs
fold_map s h a [] = refl
fold_map s h a (x ∷ xs) = fold_map s h (s a (h x)) xs

module _ {T R : Type 0} where
  abbrev pub all_some : List (T × R) → List (Option T × Option R)
  all_some vs = map some_value vs

  abbrev pub some_out : StateAndGone T R → StateAndGone (Option T) (Option R)
  some_out o = (some_state o.0, all_some o.1)

  pub slot_same : (st : ModelState T R) (s : ℕ) → model_slot (some_state st) s ≡ some_slot (model_slot st s)
  slot_same st s = get_map some_slot st.slots s unmade_slot unmade_slot refl

  pub retired_same : (st : ModelState T R) (b : ℕ) → retired_at (some_state st) b ≡ all_some (retired_at st b)
  retired_same st b = get_map all_some st.retired b [] [] refl

  set_same : (st : ModelState T R) (s : ℕ) (slot : ModelSlot T R) → set_slot (some_state st) s (some_slot slot) ≡ some_state (set_slot st s slot)
  set_same st s slot = λ i. record (some_state st) { slots = sym (set_map some_slot st.slots s slot) i }

  kept_same : (st : ModelState T R) (b : ℕ) → is_kept (some_state st) b ≡ is_kept st b
  kept_same st b = any_map (waits_for b) some_slot st.slots

  pub release_same : (st : ModelState T R) (b : ℕ) → release (some_state st) b ≡ some_out (release st b)
  release_same st b = ap (λ (k : Bool). if k then (some_state st, []) else (record (some_state st) { retired = set (map all_some st.retired) b [] }, retired_at (some_state st) b)) (kept_same st b) ∙ by_case (is_kept st b)
    where
      by_case : (k : Bool) → (if k then (some_state st, []) else (record (some_state st) { retired = set (map all_some st.retired) b [] }, retired_at (some_state st) b)) ≡ some_out (if k then (st, []) else (record st { retired = set st.retired b [] }, retired_at st b))
      by_case true = refl
      by_case false = λ i. (record (some_state st) { retired = sym (set_map all_some st.retired b []) i }, retired_same st b i)

  active_same : (st : ModelState T R) → active_slots (some_state st) ≡ active_slots st
  active_same st = fold_map (λ (n : ℕ) (slot : ModelSlot (Option T) (Option R)). n + cond (has_guard slot) 1 0) some_slot 0 st.slots

  gives_up_same : (st : ModelState T R) (s : ℕ) → gives_up (some_state st) s ≡ gives_up st s
  gives_up_same st s =
      let long : length (model_slot (some_state st) s).batch ≡ length (model_slot st s).batch = ap (λ (slot : ModelSlot (Option T) (Option R)). length slot.batch) (slot_same st s) ∙ length-map (model_slot st s).batch some_value in
      λ i. (long i == 0) || nat_lt (long i) (active_same st i)

  wait_same : (b : ℕ) (slot : ModelSlot T R) → wait_if_active b (some_slot slot) ≡ some_slot (wait_if_active b slot)
  wait_same b slot = by_case (has_guard slot)
    where
      by_case : (k : Bool) → (if k then record (some_slot slot) { order = b ∷ slot.order } else some_slot slot) ≡ some_slot (if k then record slot { order = b ∷ slot.order } else slot)
      by_case true = refl
      by_case false = refl

  batch_retired_same : (st : ModelState T R) (s : ℕ) → with_batch_retired (some_state st) s ≡ some_state (with_batch_retired st s)
  batch_retired_same st s =
      let n : length (map all_some st.retired) ≡ length st.retired = length-map st.retired all_some in
      let emptied : set (map some_slot st.slots) s (record (model_slot (some_state st) s) { batch = [] }) ≡ map some_slot (set st.slots s (record (model_slot st s) { batch = [] })) =
      ap (λ (slot : ModelSlot (Option T) (Option R)). set (map some_slot st.slots) s (record slot { batch = [] })) (slot_same st s) ∙ sym (set_map some_slot st.slots s (record (model_slot st s) { batch = [] })) in
      λ i. record (some_state st) {
        slots = ((λ j. map (wait_if_active (n j)) (emptied j)) ∙ map_map (wait_if_active (length st.retired)) some_slot some_slot (wait_if_active (length st.retired)) (wait_same (length st.retired)) (set st.slots s (record (model_slot st s) { batch = [] }))) i;
        retired = (ap (λ (slot : ModelSlot (Option T) (Option R)). map all_some st.retired ++ slot.batch ∷ []) (slot_same st s) ∙ sym (map-append all_some st.retired ((model_slot st s).batch ∷ []))) i;
      }

  pub attempt_same : (st : ModelState T R) (s : ℕ) → attempt (some_state st) s ≡ some_out (attempt st s)
  attempt_same st s = ap (λ (k : Bool). if k then (some_state st, []) else release (with_batch_retired (some_state st) s) (length (map all_some st.retired))) (gives_up_same st s) ∙ by_case (gives_up st s)
    where
      by_case : (k : Bool) → (if k then (some_state st, []) else release (with_batch_retired (some_state st) s) (length (map all_some st.retired))) ≡ some_out (if k then (st, []) else release (with_batch_retired st s) (length st.retired))
      by_case true = refl
      by_case false = (λ i. release (batch_retired_same st s i) (length-map st.retired all_some i)) ∙ release_same (with_batch_retired st s) (length st.retired)

  value_same : (st : ModelState T R) (s : ℕ) (v : T × R) → with_batch_value (some_state st) s (some_value v) ≡ some_state (with_batch_value st s v)
  value_same st s v =
      ap (λ (slot : ModelSlot (Option T) (Option R)). set_slot (some_state st) s (record slot { batch = slot.batch ++ some_value v ∷ [] })) (slot_same st s)
      ∙ ap (λ (batch : List (Option T × Option R)). set_slot (some_state st) s (record (some_slot (model_slot st s)) { batch = batch })) (sym (map-append some_value (model_slot st s).batch (v ∷ [])))
      ∙ set_same st s (record (model_slot st s) { batch = (model_slot st s).batch ++ v ∷ [] })

  pub long_same : (size : ℕ) (vs : List (T × R)) → is_full size (all_some vs) ≡ is_full size vs
  long_same size vs = ap (λ (n : ℕ). nat_le (max 1 size) n) (length-map vs some_value)

  pub full_same : (st : ModelState T R) (s : ℕ) → attempt_if_full (some_state st) s ≡ some_out (attempt_if_full st s)
  full_same st s =
      ap (λ (k : Bool). if k then attempt (some_state st) s else (some_state st, []))
      (ap (λ (slot : ModelSlot (Option T) (Option R)). is_full st.size slot.batch) (slot_same st s) ∙ long_same st.size (model_slot st s).batch)
      ∙ by_case (is_full st.size (model_slot st s).batch)
    where
      by_case : (k : Bool) → (if k then attempt (some_state st) s else (some_state st, [])) ≡ some_out (if k then attempt st s else (st, []))
      by_case true = attempt_same st s
      by_case false = refl

  pub put_same : (st : ModelState T R) (s : ℕ) (v : T × R) → put (some_state st) s (some_value v) ≡ some_out (put st s v)
  put_same st s v = ap (λ (now : ModelState (Option T) (Option R)). attempt_if_full now s) (value_same st s v) ∙ full_same (with_batch_value st s v) s

  pub released_same : (st : ModelState T R) (bs : List ℕ) → release_all (some_state st) bs ≡ some_out (release_all st bs)
  released_same st [] = refl
  released_same st (b ∷ bs) =
      (λ i. with_gone (release_same st b i).1 (release_all (release_same st b i).0 bs)) ∙ ap (λ (o : StateAndGone (Option T) (Option R)). with_gone (all_some (release st b).1) o) (released_same (release st b).0 bs)
      ∙ (λ i. (some_state (release_all (release st b).0 bs).0, sym (map-append some_value (release st b).1 (release_all (release st b).0 bs).1) i))

  pub part_same : (st : ModelState T R) (s : ℕ) → part (some_state st) s ≡ some_out (part st s)
  part_same st s =
      (λ i. release_all (set_slot (some_state st) s (record (slot_same st s i) { order = [] })) (slot_same st s i).order)
      ∙ ap (λ (now : ModelState (Option T) (Option R)). release_all now (model_slot st s).order) (set_same st s (record (model_slot st s) { order = [] }))
      ∙ released_same (set_slot st s (record (model_slot st s) { order = [] })) (model_slot st s).order

  -- The further values.

  module _ (puts : R → T → List T) (puts' : Option R → Option T → List (Option T)) (same : (r : R) (v : T) → puts' (Some r) (Some v) ≡ map Some (puts r v)) where
    put_by_same : (v : T × R) → put_by puts' (some_value v) ≡ all_some (put_by puts v)
    put_by_same v = ap (λ (xs : List (Option T)). map (λ x. (x, Some v.1)) xs) (same v.1 v.0) ∙ map_map (λ (x : Option T). (x, Some v.1)) Some some_value (λ (x : T). (x, v.1)) (λ x. refl) (puts v.1 v.0)

    further_same : (gone : List (T × R)) → further puts' (all_some gone) ≡ all_some (further puts gone)
    further_same [] = refl
    further_same (v ∷ gone) = (λ i. put_by_same v i ++ further_same gone i) ∙ sym (map-append some_value (put_by puts v) (further puts gone))

    settle_same : (n : ℕ) (st : ModelState T R) (s : ℕ) (queue : List (T × R)) → settle puts' n (some_state st) s (all_some queue) ≡ some_out (settle puts n st s queue)
    settle_same zero st s queue = refl
    settle_same (suc n) st s [] = refl
    settle_same (suc n) st s (v ∷ queue) =
        let o = put st s v in
        (λ i. with_gone (put_same st s v i).1 (settle puts' n (put_same st s v i).0 s (all_some queue ++ further puts' (put_same st s v i).1)))
        ∙ ap (λ (q : List (Option T × Option R)). with_gone (all_some o.1) (settle puts' n (some_state o.0) s q)) (ap (λ (q : List (Option T × Option R)). all_some queue ++ q) (further_same o.1) ∙ sym (map-append some_value queue (further puts o.1)))
        ∙ ap (λ (p : StateAndGone (Option T) (Option R)). with_gone (all_some o.1) p) (settle_same n o.0 s (queue ++ further puts o.1))
        ∙ (λ i. (some_state (settle puts n o.0 s (queue ++ further puts o.1)).0, sym (map-append some_value o.1 (settle puts n o.0 s (queue ++ further puts o.1)).1) i))

    module _ (weight : T → ℕ) (weight' : Option T → ℕ) (weighs : (v : T) → weight' (Some v) ≡ weight v) where
      sum_same : (h : Option T × Option R → ℕ) (k : T × R → ℕ) → ((v : T × R) → h (some_value v) ≡ k v) → (vs : List (T × R)) (a : ℕ) → fold (λ n x. n + h x) a (all_some vs) ≡ fold (λ n x. n + k x) a vs
      sum_same h k is [] a = refl
      sum_same h k is (v ∷ vs) a = ap (λ (n : ℕ). fold (λ m x. m + h x) (a + n) (all_some vs)) (is v) ∙ sum_same h k is vs (a + k v)

      still_same : (batch queue : List (T × R)) → still_to_come weight' (all_some batch) (all_some queue) ≡ still_to_come weight batch queue
      still_same batch queue = λ i.
          sum_same (λ v. 2 * weight' v.0 - 1) (λ v. 2 * weight v.0 - 1) (λ v. ap (λ (n : ℕ). 2 * n - 1) (weighs v.0)) batch 0 i + sum_same (λ v. 2 * weight' v.0) (λ v. 2 * weight v.0) (λ v. ap (λ (n : ℕ). 2 * n) (weighs v.0)) queue 0 i

      pub afterwards_same : (st : ModelState T R) (s : ℕ) (queue : List (T × R)) → afterwards puts' weight' (some_state st) s (all_some queue) ≡ some_out (afterwards puts weight st s queue)
      afterwards_same st s queue =
          ap (λ (n : ℕ). settle puts' n (some_state st) s (all_some queue)) (ap (λ (slot : ModelSlot (Option T) (Option R)). still_to_come weight' slot.batch (all_some queue)) (slot_same st s) ∙ still_same (model_slot st s).batch queue)
          ∙ settle_same (still_to_come weight (model_slot st s).batch queue) st s queue

      pub with_further_same : (s : ℕ) (o : StateAndGone T R) → with_further puts' weight' s (some_out o) ≡ some_out (with_further puts weight s o)
      with_further_same s o =
          ap (λ (q : List (Option T × Option R)). with_gone (all_some o.1) (afterwards puts' weight' (some_state o.0) s q)) (further_same o.1)
          ∙ ap (λ (p : StateAndGone (Option T) (Option R)). with_gone (all_some o.1) p) (afterwards_same o.0 s (further puts o.1))
          ∙ (λ i. (some_state (afterwards puts weight o.0 s (further puts o.1)).0, sym (map-append some_value o.1 (afterwards puts weight o.0 s (further puts o.1)).1) i))

  -- Single steps.

  pub guards_same : (st : ModelState T R) (s n : ℕ) → set_guards (some_state st) s n ≡ some_state (set_guards st s n)
  guards_same st s n = ap (λ (slot : ModelSlot (Option T) (Option R)). set_slot (some_state st) s (record slot { guards = n })) (slot_same st s) ∙ set_same st s (record (model_slot st s) { guards = n })

  pub left_same : (st : ModelState T R) (s : ℕ) → rest_and_batch (some_state st) s ≡ all_some (rest_and_batch st s)
  left_same st s = ap (λ (slot : ModelSlot (Option T) (Option R)). all_some st.rest ++ slot.batch) (slot_same st s) ∙ sym (map-append some_value st.rest (model_slot st s).batch)

  pub others_same : (st : ModelState T R) (s : ℕ) → others_in_use (some_state st) s ≡ others_in_use st s
  others_same st s = ap (list_any (λ (slot : ModelSlot (Option T) (Option R)). not (is_free slot.kind))) (sym (set_map some_slot st.slots s unmade_slot)) ∙ any_map (λ (slot : ModelSlot (Option T) (Option R)). not (is_free slot.kind)) some_slot (set st.slots s unmade_slot)

  pub free_same : (st : ModelState T R) (s : ℕ) → with_number_free (some_state st) s ≡ some_state (with_number_free st s)
  free_same st s = λ i. record (some_state st) { slots = sym (set_map some_slot st.slots s unmade_slot) i; rest = left_same st s i }

  pub gathered_same : (st : ModelState T R) (s : ℕ) → with_rest_gathered (some_state st) s ≡ some_state (with_rest_gathered st s)
  gathered_same st s =
      (λ i. record (set_slot (some_state st) s (record (slot_same st s i) { batch = left_same st s i })) { rest = [] })
      ∙ ap (λ (now : ModelState (Option T) (Option R)). record now { rest = [] }) (set_same st s (record (model_slot st s) { batch = rest_and_batch st s }))

  pub link_same : (st : ModelState T R) (l : ℕ) → model_link (some_state st) l ≡ option_map Some (model_link st l)
  link_same st l = get_map (λ (o : Option T). option_map Some o) st.links l None None refl

  pub least_same : (slots : List (ModelSlot T R)) → least_unused (map some_slot slots) ≡ least_unused slots
  least_same [] = refl
  least_same (slot ∷ slots) = ap (λ (n : ℕ). cond (not (is_free slot.kind)) (1 + n) 0) (least_same slots)

  pub use_same : (st : ModelState T R) (n : ℕ) (kind : Kind) → with_number_in_use (some_state st) n kind ≡ some_state (with_number_in_use st n kind)
  use_same st n kind = ap (λ (long : ℕ). record (some_state st) { slots = if n == long then map some_slot st.slots ++ some_slot new ∷ [] else set (map some_slot st.slots) n (some_slot new); rest = [] }) (length-map st.slots some_slot) ∙ by_case (n == length st.slots)
    where
      new : ModelSlot T R
      new = record { kind = kind; guards = 0; batch = st.rest; order = [] }

      by_case : (k : Bool) → ◌≡◌ {A = ModelState (Option T) (Option R)} (record (some_state st) { slots = if k then map some_slot st.slots ++ some_slot new ∷ [] else set (map some_slot st.slots) n (some_slot new); rest = [] })
          (some_state (record st { slots = if k then st.slots ++ new ∷ [] else set st.slots n new; rest = [] }))
      by_case true = λ i. record (some_state st) { slots = sym (map-append some_slot st.slots (new ∷ [])) i; rest = [] }
      by_case false = λ i. record (some_state st) { slots = sym (set_map some_slot st.slots n new) i; rest = [] }

  pub swap_same : (st : ModelState T R) (l : ℕ) (new : Option T) → record (some_state st) { links = set (some_state st).links l (option_map Some new) } ≡ some_state (record st { links = set st.links l new })
  swap_same st l new = λ i. record (some_state st) { links = sym (set_map (λ (o : Option T). option_map Some o) st.links l new) i }
