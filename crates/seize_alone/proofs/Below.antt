-- Retired batches that are gone, below all others, change nothing but the numbers of later batches.
--     none_below       with none of them the state is the same
--     twice_below      with some and then others it is the state with all of these
--     below_out o      the outcome with them
--     used_below, active_below, off_below     what is so of a slot is so with them
--     step_below       each call of a list gives the same reply and the same values gone, and then the state with them
--     reclaim_below    a reclaim of all gives the same, and forgets them
use Rattle.std.proofs.Common.{◌≡◌, ℕ, zero, suc, ◌+◌, ◌-◌, ◌^◌, ◌==◌, ◌||◌, Bool, true, false, not, cond, if◌then◌else◌, nat_lt, List, [], ◌∷◌, ◌++◌, length, map, get_or, set, replicate, Option, Some, None, Result, refl, sym, ap, ◌∙◌, arith}
use Rattle.std.specs.Prelude.{Err, Ok, is_some}
use Rattle.std.specs.List.{flat_map, list_any, range_with_len, sum_by}
use Rattle.std.proofs.lemmas.List.{append_assoc, length-append, length-map, length-replicate, map-append}
use Rattle.std.proofs.lemmas.List.Concat.{flat_map-cons}
use Rattle.seize_table.specs.Place.{all_numbers}
use Rattle.seize_table.specs.declared.refusal.Refusal.{Refusal}
use Rattle.seize_table.specs.declared.refusal.Refusal.TheVariants.{NoNumbers, NotActive, NotInUse, TooManyGuards, WrongKind}
use Rattle.seize_model.specs.declared.kind.Kind.{Kind}
use Rattle.seize_model.specs.declared.kind.Kind.TheVariants.{Owned, Registered}
use Rattle.seize_model.specs.Waiting.State.{ModelSlot, ModelState, has_guard, is_kept, unmade_slot, retired_at, set_slot, model_slot, waits_for}
use Rattle.seize_model.specs.Waiting.Attempt.{StateAndGone, active_slots, attempt, attempt_if_full, gives_up, is_full, part, put, release, release_all, wait_if_active, with_batch_retired, with_batch_value, with_gone}
use Rattle.seize_model.specs.Waiting.Calls as calls
use Rattle.seize_model.specs.Waiting.Calls.{Response, first_refusal, gathering, gathers, give_back, given_back_if, is_free, is_owned, least_unused, no_guard, not_registered, one_guard_less, others_in_use, part_all, part_if_alone, reclaim_all, rest_and_batch, set_guards, taking, too_many, unless, unused, with_number_free, with_number_in_use, with_rest_gathered}
use Rattle.seize_model.specs.Waiting.Further.{further, gone_from, settle, still_to_come, with_further}
use Rattle.seize_model.specs.Waiting.Lists.{Call, Effect, Reply, Register, EnterOwned, Enter, Leave, End, Refresh, Flush, Retire, Protect, Swap, done_reply, end_reply, reply, retire_old, step}
use Rattle.seize_alone.specs.Holding.{with_gone_below, with_order_from}
use Rattle.seize_alone.specs.Reclaiming.{SameBelow}
use Rattle.seize_alone.proofs.Mapped.{any_map, fold_map, get_map, map_map, set_map}

pub get_below : {X : Type 0} (n m b : ℕ) (xs : List (List X)) → m ≡ n + b → get_or (replicate n [] ++ xs) m [] ≡ get_or xs b []
get_below zero m b xs is = ap (λ (k : ℕ). get_or xs k []) (let same : m ≡ b = omega (arith, is) in same)
get_below (suc n) zero b xs is = absurd (omega (arith, is))
get_below (suc n) (suc m) b xs is = get_below n m b xs (omega (arith, is))

set_below : {X : Type 0} (n m b : ℕ) (xs : List (List X)) (y : List X) → m ≡ n + b → set (replicate n [] ++ xs) m y ≡ replicate n [] ++ set xs b y
set_below zero m b xs y is = ap (λ (k : ℕ). set xs k y) (let same : m ≡ b = omega (arith, is) in same)
set_below (suc n) zero b xs y is = absurd (omega (arith, is))
set_below (suc n) (suc m) b xs y is = ap (λ (l : List (List _)). [] ∷ l) (set_below n m b xs y (omega (arith, is)))

same_above : (n x b : ℕ) → (n + x == n + b) ≡ (x == b)
same_above n x b = grind arith

any_above : (n b : ℕ) (order : List ℕ) → list_any (λ x. x == n + b) (map (λ c. n + c) order) ≡ list_any (λ x. x == b) order
any_above n b [] = refl
any_above n b (x ∷ order) = λ i. same_above n x b i || any_above n b order i

-- Of none, and of some and others.

order_same : (order : List ℕ) → map (λ b. 0 + b) order ≡ order
order_same [] = refl
order_same (b ∷ order) = let one : 0 + b ≡ b = omega arith in λ i. one i ∷ order_same order i

slots_same : {T R : Type 0} (slots : List (ModelSlot T R)) → map (with_order_from 0) slots ≡ slots
slots_same [] = refl
slots_same (slot ∷ slots) = λ i. record slot { order = order_same slot.order i } ∷ slots_same slots i

pub none_below : {T R : Type 0} (st : ModelState T R) → with_gone_below 0 st ≡ st
none_below st = λ i. record st { slots = slots_same st.slots i }

order_twice : (m n : ℕ) (order : List ℕ) → map (λ b. m + b) (map (λ b. n + b) order) ≡ map (λ b. (m + n) + b) order
order_twice m n [] = refl
order_twice m n (b ∷ order) = let one : m + (n + b) ≡ (m + n) + b = omega arith in λ i. one i ∷ order_twice m n order i

slots_twice : {T R : Type 0} (m n : ℕ) (slots : List (ModelSlot T R)) → map (with_order_from m) (map (with_order_from n) slots) ≡ map (with_order_from (m + n)) slots
slots_twice m n [] = refl
slots_twice m n (slot ∷ slots) = λ i. record slot { order = order_twice m n slot.order i } ∷ slots_twice m n slots i

retired_twice : {X : Type 0} (m n k : ℕ) (xs : List (List X)) → k ≡ m + n → replicate m [] ++ (replicate n [] ++ xs) ≡ replicate k [] ++ xs
retired_twice zero n k xs is = ap (λ (j : ℕ). replicate j [] ++ xs) (let same : n ≡ k = omega (arith, is) in same)
retired_twice (suc m) n zero xs is = absurd (omega (arith, is))
retired_twice (suc m) n (suc k) xs is = ap (λ (l : List (List _)). [] ∷ l) (retired_twice m n k xs (omega (arith, is)))

pub twice_below : {T R : Type 0} (m n : ℕ) (st : ModelState T R) → with_gone_below m (with_gone_below n st) ≡ with_gone_below (m + n) st
twice_below m n st = λ i. record st { slots = slots_twice m n st.slots i; retired = retired_twice m n (m + n) st.retired refl i }

module _ {T R : Type 0} (n : ℕ) where
  abbrev pub below_out : StateAndGone T R → StateAndGone T R
  below_out o = (with_gone_below n o.0, o.1)

  pub slot_below : (st : ModelState T R) (s : ℕ) → model_slot (with_gone_below n st) s ≡ with_order_from n (model_slot st s)
  slot_below st s = get_map (with_order_from n) st.slots s unmade_slot unmade_slot refl

  pub used_below : (st : ModelState T R) (s : ℕ) → is_free (model_slot st s).kind ≡ false → is_free (model_slot (with_gone_below n st) s).kind ≡ false
  used_below st s used = ap (λ (slot : ModelSlot T R). is_free slot.kind) (slot_below st s) ∙ used

  pub active_below : (st : ModelState T R) (s : ℕ) → has_guard (model_slot st s) ≡ true → has_guard (model_slot (with_gone_below n st) s) ≡ true
  active_below st s active = ap (λ (slot : ModelSlot T R). has_guard slot) (slot_below st s) ∙ active

  pub off_below : (st : ModelState T R) (s : ℕ) → has_guard (model_slot st s) ≡ false → has_guard (model_slot (with_gone_below n st) s) ≡ false
  off_below st s off = ap (λ (slot : ModelSlot T R). has_guard slot) (slot_below st s) ∙ off

  write_below : (st : ModelState T R) (s : ℕ) (slot : ModelSlot T R) → set_slot (with_gone_below n st) s (with_order_from n slot) ≡ with_gone_below n (set_slot st s slot)
  write_below st s slot = λ i. record (with_gone_below n st) { slots = sym (set_map (with_order_from n) st.slots s slot) i }

  pub kept_below : (st : ModelState T R) (b : ℕ) → is_kept (with_gone_below n st) (n + b) ≡ is_kept st b
  kept_below st b = all st.slots
    where
      all : (xs : List (ModelSlot T R)) → list_any (waits_for (n + b)) (map (with_order_from n) xs) ≡ list_any (waits_for b) xs
      all [] = refl
      all (x ∷ xs) = λ i. any_above n b x.order i || all xs i

  release_below : (st : ModelState T R) (b : ℕ) → release (with_gone_below n st) (n + b) ≡ below_out (release st b)
  release_below st b =
      ap (λ (k : Bool). if k then (with_gone_below n st, []) else (record (with_gone_below n st) { retired = set (replicate n [] ++ st.retired) (n + b) [] }, retired_at (with_gone_below n st) (n + b))) (kept_below st b) ∙ by_case (is_kept st b)
    where
      by_case : (k : Bool) → ◌≡◌ {A = StateAndGone T R} (if k then (with_gone_below n st, []) else (record (with_gone_below n st) { retired = set (replicate n [] ++ st.retired) (n + b) [] }, retired_at (with_gone_below n st) (n + b)))
          (below_out (if k then (st, []) else (record st { retired = set st.retired b [] }, retired_at st b)))
      by_case true = refl
      by_case false = λ i. (record (with_gone_below n st) { retired = set_below n (n + b) b st.retired [] refl i }, get_below n (n + b) b st.retired refl i)

  released_below : (st : ModelState T R) (bs : List ℕ) → release_all (with_gone_below n st) (map (λ c. n + c) bs) ≡ below_out (release_all st bs)
  released_below st [] = refl
  released_below st (b ∷ bs) =
      ap (λ (o : StateAndGone T R). with_gone o.1 (release_all o.0 (map (λ c. n + c) bs))) (release_below st b)
      ∙ ap (λ (o : StateAndGone T R). with_gone (release st b).1 o) (released_below (release st b).0 bs)

  pub part_below : (st : ModelState T R) (s : ℕ) → part (with_gone_below n st) s ≡ below_out (part st s)
  part_below st s =
      (λ i. release_all (set_slot (with_gone_below n st) s (record (slot_below st s i) { order = [] })) (slot_below st s i).order)
      ∙ ap (λ (k : ModelState T R). release_all k (map (λ c. n + c) (model_slot st s).order)) (write_below st s (record (model_slot st s) { order = [] }))
      ∙ released_below (set_slot st s (record (model_slot st s) { order = [] })) (model_slot st s).order

  -- Attempts.

  many_below : (st : ModelState T R) → length (replicate n [] ++ st.retired) ≡ n + length st.retired
  many_below st = length-append (replicate n []) st.retired ∙ ap (λ (k : ℕ). k + length st.retired) (length-replicate n [])

  gives_up_below : (st : ModelState T R) (s : ℕ) → gives_up (with_gone_below n st) s ≡ gives_up st s
  gives_up_below st s =
      let active : active_slots (with_gone_below n st) ≡ active_slots st = fold_map (λ (k : ℕ) (slot : ModelSlot T R). k + cond (has_guard slot) 1 0) (with_order_from n) 0 st.slots in
      λ i. (length (slot_below st s i).batch == 0) || nat_lt (length (slot_below st s i).batch) (active i)

  wait_below : (b : ℕ) (slot : ModelSlot T R) → wait_if_active (n + b) (with_order_from n slot) ≡ with_order_from n (wait_if_active b slot)
  wait_below b slot = by_case (has_guard slot)
    where
      by_case : (k : Bool) → (if k then record (with_order_from n slot) { order = (n + b) ∷ map (λ c. n + c) slot.order } else with_order_from n slot) ≡ with_order_from n (if k then record slot { order = b ∷ slot.order } else slot)
      by_case true = refl
      by_case false = refl

  detached_below : (st : ModelState T R) (s : ℕ) → with_batch_retired (with_gone_below n st) s ≡ with_gone_below n (with_batch_retired st s)
  detached_below st s =
      let emptied : set (map (with_order_from n) st.slots) s (record (model_slot (with_gone_below n st) s) { batch = [] }) ≡ map (with_order_from n) (set st.slots s (record (model_slot st s) { batch = [] })) =
      ap (λ (slot : ModelSlot T R). set (map (with_order_from n) st.slots) s (record slot { batch = [] })) (slot_below st s) ∙ sym (set_map (with_order_from n) st.slots s (record (model_slot st s) { batch = [] })) in
      λ i. record st {
        slots = ((λ j. map (wait_if_active (many_below st j)) (emptied j)) ∙ map_map (wait_if_active (n + length st.retired)) (with_order_from n) (with_order_from n) (wait_if_active (length st.retired)) (wait_below (length st.retired)) (set st.slots s (record (model_slot st s) { batch = [] }))) i;
        retired = (ap (λ (slot : ModelSlot T R). (replicate n [] ++ st.retired) ++ slot.batch ∷ []) (slot_below st s) ∙ append_assoc (replicate n []) st.retired ((model_slot st s).batch ∷ [])) i;
      }

  pub attempt_below : (st : ModelState T R) (s : ℕ) → attempt (with_gone_below n st) s ≡ below_out (attempt st s)
  attempt_below st s = ap (λ (k : Bool). if k then (with_gone_below n st, []) else release (with_batch_retired (with_gone_below n st) s) (length (replicate n [] ++ st.retired))) (gives_up_below st s) ∙ by_case (gives_up st s)
    where
      by_case : (k : Bool) → ◌≡◌ {A = StateAndGone T R} (if k then (with_gone_below n st, []) else release (with_batch_retired (with_gone_below n st) s) (length (replicate n [] ++ st.retired)))
          (below_out (if k then (st, []) else release (with_batch_retired st s) (length st.retired)))
      by_case true = refl
      by_case false = (λ i. release (detached_below st s i) (many_below st i)) ∙ release_below (with_batch_retired st s) (length st.retired)

  value_below : (st : ModelState T R) (s : ℕ) (v : T × R) → with_batch_value (with_gone_below n st) s v ≡ with_gone_below n (with_batch_value st s v)
  value_below st s v =
      ap (λ (slot : ModelSlot T R). set_slot (with_gone_below n st) s (record slot { batch = slot.batch ++ v ∷ [] })) (slot_below st s)
      ∙ write_below st s (record (model_slot st s) { batch = (model_slot st s).batch ++ v ∷ [] })

  full_below : (st : ModelState T R) (s : ℕ) → attempt_if_full (with_gone_below n st) s ≡ below_out (attempt_if_full st s)
  full_below st s =
      ap (λ (slot : ModelSlot T R). if is_full st.size slot.batch then attempt (with_gone_below n st) s else (with_gone_below n st, [])) (slot_below st s)
      ∙ by_case (is_full st.size (model_slot st s).batch)
    where
      by_case : (k : Bool) → ◌≡◌ {A = StateAndGone T R} (if k then attempt (with_gone_below n st) s else (with_gone_below n st, [])) (below_out (if k then attempt st s else (st, [])))
      by_case true = attempt_below st s
      by_case false = refl

  pub put_below : (st : ModelState T R) (s : ℕ) (v : T × R) → put (with_gone_below n st) s v ≡ below_out (put st s v)
  put_below st s v = ap (λ (k : ModelState T R). attempt_if_full k s) (value_below st s v) ∙ full_below (with_batch_value st s v) s

  -- Single steps.

  pub guards_below : (st : ModelState T R) (s k : ℕ) → set_guards (with_gone_below n st) s k ≡ with_gone_below n (set_guards st s k)
  guards_below st s k = ap (λ (slot : ModelSlot T R). set_slot (with_gone_below n st) s (record slot { guards = k })) (slot_below st s) ∙ write_below st s (record (model_slot st s) { guards = k })

  pub left_below : (st : ModelState T R) (s : ℕ) → rest_and_batch (with_gone_below n st) s ≡ rest_and_batch st s
  left_below st s = ap (λ (slot : ModelSlot T R). st.rest ++ slot.batch) (slot_below st s)

  pub others_below : (st : ModelState T R) (s : ℕ) → others_in_use (with_gone_below n st) s ≡ others_in_use st s
  others_below st s =
      ap (list_any (λ (slot : ModelSlot T R). not (is_free slot.kind))) (sym (set_map (with_order_from n) st.slots s unmade_slot))
      ∙ any_map (λ (slot : ModelSlot T R). not (is_free slot.kind)) (with_order_from n) (set st.slots s unmade_slot)

  pub free_below : (st : ModelState T R) (s : ℕ) → with_number_free (with_gone_below n st) s ≡ with_gone_below n (with_number_free st s)
  free_below st s = λ i. record (with_gone_below n st) { slots = sym (set_map (with_order_from n) st.slots s unmade_slot) i; rest = left_below st s i }

  pub gathered_below : (st : ModelState T R) (s : ℕ) → with_rest_gathered (with_gone_below n st) s ≡ with_gone_below n (with_rest_gathered st s)
  gathered_below st s =
      (λ i. record (set_slot (with_gone_below n st) s (record (slot_below st s i) { batch = left_below st s i })) { rest = [] })
      ∙ ap (λ (k : ModelState T R). record k { rest = [] }) (write_below st s (record (model_slot st s) { batch = rest_and_batch st s }))

  less_below : (st : ModelState T R) (s : ℕ) → one_guard_less (with_gone_below n st) s ≡ below_out (one_guard_less st s)
  less_below st s =
      ap (λ (slot : ModelSlot T R). if slot.guards == 1 then part (set_guards (with_gone_below n st) s 0) s else (set_guards (with_gone_below n st) s (slot.guards - 1), [])) (slot_below st s) ∙ by_case ((model_slot st s).guards == 1)
    where
      by_case : (k : Bool) → ◌≡◌ {A = StateAndGone T R} (if k then part (set_guards (with_gone_below n st) s 0) s else (set_guards (with_gone_below n st) s ((model_slot st s).guards - 1), []))
          (below_out (if k then part (set_guards st s 0) s else (set_guards st s ((model_slot st s).guards - 1), [])))
      by_case true = ap (λ (k : ModelState T R). part k s) (guards_below st s 0) ∙ part_below (set_guards st s 0) s
      by_case false = λ i. (guards_below st s ((model_slot st s).guards - 1) i, [])

  alone_below : (st : ModelState T R) (s : ℕ) → part_if_alone (with_gone_below n st) s ≡ below_out (part_if_alone st s)
  alone_below st s =
      ap (λ (slot : ModelSlot T R). if is_owned slot.kind || (slot.guards == 1) then part (with_gone_below n st) s else (with_gone_below n st, [])) (slot_below st s) ∙ by_case (is_owned (model_slot st s).kind || ((model_slot st s).guards == 1))
    where
      by_case : (k : Bool) → ◌≡◌ {A = StateAndGone T R} (if k then part (with_gone_below n st) s else (with_gone_below n st, [])) (below_out (if k then part st s else (st, [])))
      by_case true = part_below st s
      by_case false = refl

  pub use_below : (st : ModelState T R) (m : ℕ) (kind : Kind) → with_number_in_use (with_gone_below n st) m kind ≡ with_gone_below n (with_number_in_use st m kind)
  use_below st m kind =
      ap (λ (k : ℕ). record (with_gone_below n st) { slots = if m == k then map (with_order_from n) st.slots ++ made ∷ [] else set (map (with_order_from n) st.slots) m made; rest = [] }) (length-map st.slots (with_order_from n))
      ∙ by_case (m == length st.slots)
    where
      made : ModelSlot T R
      made = record { kind = kind; guards = 0; batch = st.rest; order = [] }

      by_case : (k : Bool) → ◌≡◌ {A = ModelState T R} (record (with_gone_below n st) { slots = if k then map (with_order_from n) st.slots ++ made ∷ [] else set (map (with_order_from n) st.slots) m made; rest = [] })
          (with_gone_below n (record st { slots = if k then st.slots ++ made ∷ [] else set st.slots m made; rest = [] }))
      by_case true = λ i. record (with_gone_below n st) { slots = sym (map-append (with_order_from n) st.slots (made ∷ [])) i; rest = [] }
      by_case false = λ i. record (with_gone_below n st) { slots = sym (set_map (with_order_from n) st.slots m made) i; rest = [] }

  pub least_below : (slots : List (ModelSlot T R)) → least_unused (map (with_order_from n) slots) ≡ least_unused slots
  least_below [] = refl
  least_below (slot ∷ slots) = ap (λ (k : ℕ). cond (not (is_free slot.kind)) (1 + k) 0) (least_below slots)

  -- The further values.

  module _ (puts : R → T → List T) where
    settle_below : (m : ℕ) (st : ModelState T R) (s : ℕ) (queue : List (T × R)) → settle puts m (with_gone_below n st) s queue ≡ below_out (settle puts m st s queue)
    settle_below zero st s queue = refl
    settle_below (suc m) st s [] = refl
    settle_below (suc m) st s (v ∷ queue) =
        ap (λ (o : StateAndGone T R). with_gone o.1 (settle puts m o.0 s (queue ++ further puts o.1))) (put_below st s v)
        ∙ ap (λ (o : StateAndGone T R). with_gone (put st s v).1 o) (settle_below m (put st s v).0 s (queue ++ further puts (put st s v).1))

    module _ (weight : T → ℕ) where
      pub further_below : (s : ℕ) (o : StateAndGone T R) → with_further puts weight s (below_out o) ≡ below_out (with_further puts weight s o)
      further_below s o =
          ap (λ (slot : ModelSlot T R). with_gone o.1 (settle puts (still_to_come weight slot.batch (further puts o.1)) (with_gone_below n o.0) s (further puts o.1))) (slot_below o.0 s)
          ∙ ap (λ (p : StateAndGone T R). with_gone o.1 p) (settle_below (still_to_come weight (model_slot o.0 s).batch (further puts o.1)) o.0 s (further puts o.1))

  -- Calls.

  abbrev below_answer : {A : Type 0} → Response A T R → Response A T R
  below_answer a = (a.0, below_out a.1)

  unless_below : {A : Type 0} (refusal : Option Refusal) (st : ModelState T R) (a : Response A T R) → unless refusal (with_gone_below n st) (below_answer a) ≡ below_answer (unless refusal st a)
  unless_below None st a = refl
  unless_below (Some r) st a = refl

  unused_below : (st : ModelState T R) (s : ℕ) → unused (with_gone_below n st) s ≡ unused st s
  unused_below st s = ap (λ (slot : ModelSlot T R). if is_free slot.kind then Some NotInUse else None) (slot_below st s)

  no_guard_below : (st : ModelState T R) (s : ℕ) → no_guard (with_gone_below n st) s ≡ no_guard st s
  no_guard_below st s = ap (λ (slot : ModelSlot T R). first_refusal (if is_free slot.kind then Some NotInUse else None) (if has_guard slot then None else Some NotActive)) (slot_below st s)

  registered_below : (st : ModelState T R) (s : ℕ) → not_registered (with_gone_below n st) s ≡ not_registered st s
  registered_below st s = ap (λ (slot : ModelSlot T R). first_refusal (if is_free slot.kind then Some NotInUse else None) (if is_owned slot.kind then Some WrongKind else None)) (slot_below st s)

  many_guards_below : (st : ModelState T R) (s : ℕ) → too_many (with_gone_below n st) s ≡ too_many st s
  many_guards_below st s = ap (λ (slot : ModelSlot T R). if slot.guards == 2 ^ 64 - 1 then Some TooManyGuards else None) (slot_below st s)

  enter_below : (st : ModelState T R) (s : ℕ) → calls.enter (with_gone_below n st) s ≡ below_answer (calls.enter st s)
  enter_below st s =
      (λ i. unless (first_refusal (registered_below st s i) (many_guards_below st s i)) (with_gone_below n st) (Ok tt, (set_guards (with_gone_below n st) s ((slot_below st s i).guards + 1), [])))
      ∙ ap (λ (k : ModelState T R). unless (first_refusal (not_registered st s) (too_many st s)) (with_gone_below n st) (Ok tt, (k, []))) (guards_below st s ((model_slot st s).guards + 1))
      ∙ unless_below (first_refusal (not_registered st s) (too_many st s)) st (Ok tt, (set_guards st s ((model_slot st s).guards + 1), []))

  protect_below : (st : ModelState T R) (s link : ℕ) → calls.protect (with_gone_below n st) s link ≡ below_answer (calls.protect st s link)
  protect_below st s link =
      ap (λ (r : Option Refusal). unless r (with_gone_below n st) (Ok (calls.model_link st link), (with_gone_below n st, []))) (no_guard_below st s)
      ∙ unless_below (no_guard st s) st (Ok (calls.model_link st link), (st, []))

  swap_below : (st : ModelState T R) (s link : ℕ) (new : Option T) → calls.swap (with_gone_below n st) s link new ≡ below_answer (calls.swap st s link new)
  swap_below st s link new =
      ap (λ (r : Option Refusal). unless r (with_gone_below n st) (Ok (calls.model_link st link), (record (with_gone_below n st) { links = set st.links link new }, []))) (no_guard_below st s)
      ∙ unless_below (no_guard st s) st (Ok (calls.model_link st link), (record st { links = set st.links link new }, []))

  module _ (puts : R → T → List T) (weight : T → ℕ) where
    -- Numbers.

    pub taking_below : (st : ModelState T R) (m : ℕ) (kind : Kind) → taking puts weight (with_gone_below n st) m kind ≡ below_out (taking puts weight st m kind)
    taking_below st m kind =
        ap (λ (k : ModelState T R). with_further puts weight m (attempt_if_full k m)) (use_below st m kind)
        ∙ ap (with_further puts weight m) (full_below (with_number_in_use st m kind) m)
        ∙ further_below puts weight m (attempt_if_full (with_number_in_use st m kind) m)

    abbrev took : ModelState T R → Kind → ℕ → Bool → ℕ → Response ℕ T R
    took st kind guards k m = if k then (Err NoNumbers, (st, [])) else (Ok m, (set_guards (taking puts weight st m kind).0 m guards, (taking puts weight st m kind).1))

    take_below : (st : ModelState T R) (kind : Kind) (guards : ℕ) → calls.take_number puts weight (with_gone_below n st) kind guards ≡ below_answer (calls.take_number puts weight st kind guards)
    take_below st kind guards =
        ap (λ (m : ℕ). took (with_gone_below n st) kind guards (m == all_numbers) m) (least_below st.slots) ∙ by_case (least_unused st.slots == all_numbers)
      where
        by_case : (k : Bool) → took (with_gone_below n st) kind guards k (least_unused st.slots) ≡ below_answer (took st kind guards k (least_unused st.slots))
        by_case true = refl
        by_case false =
            ap (λ (o : StateAndGone T R). (Ok (least_unused st.slots), (set_guards o.0 (least_unused st.slots) guards, o.1))) (taking_below st (least_unused st.slots) kind)
            ∙ ap (λ (k : ModelState T R). (Ok (least_unused st.slots), (k, (taking puts weight st (least_unused st.slots) kind).1))) (guards_below (taking puts weight st (least_unused st.slots) kind).0 (least_unused st.slots) guards)

    pub gathering_below : (st : ModelState T R) (s : ℕ) → gathering puts weight (with_gone_below n st) s ≡ below_out (gathering puts weight st s)
    gathering_below st s =
        ap (λ (k : ModelState T R). with_further puts weight s (attempt k s)) (gathered_below st s)
        ∙ ap (with_further puts weight s) (attempt_below (with_rest_gathered st s) s)
        ∙ further_below puts weight s (attempt (with_rest_gathered st s) s)

    gathers_below : (m : ℕ) (st : ModelState T R) (s : ℕ) → gathers puts weight m (with_gone_below n st) s ≡ below_out (gathers puts weight m st s)
    gathers_below zero st s = refl
    gathers_below (suc m) st s =
        (λ i. if others_below st s i || (length (left_below st s i) == 0) then (with_gone_below n st, []) else with_gone (gathering_below st s i).1 (gathers puts weight m (gathering_below st s i).0 s))
        ∙ ap (λ (o : StateAndGone T R). if others_in_use st s || (length (rest_and_batch st s) == 0) then (with_gone_below n st, []) else with_gone (gathering puts weight st s).1 o) (gathers_below m (gathering puts weight st s).0 s)
        ∙ by_case (others_in_use st s || (length (rest_and_batch st s) == 0))
      where
        by_case : (k : Bool) → ◌≡◌ {A = StateAndGone T R} (if k then (with_gone_below n st, []) else with_gone (gathering puts weight st s).1 (below_out (gathers puts weight m (gathering puts weight st s).0 s)))
            (below_out (if k then (st, []) else with_gone (gathering puts weight st s).1 (gathers puts weight m (gathering puts weight st s).0 s)))
        by_case true = refl
        by_case false = refl

    pub give_below : (st : ModelState T R) (s : ℕ) → give_back puts weight (with_gone_below n st) s ≡ below_out (give_back puts weight st s)
    give_below st s =
        let given : StateAndGone T R → StateAndGone T R = λ o. (with_number_free o.0 s, o.1) in
        let many : ℕ = sum_by (λ v. weight v.0) (rest_and_batch st s) in
        ap (λ (l : List (T × R)). given (gathers puts weight (sum_by (λ v. weight v.0) l) (with_gone_below n st) s)) (left_below st s)
        ∙ ap given (gathers_below many st s) ∙ ap (λ (k : ModelState T R). (k, (gathers puts weight many st s).1)) (free_below (gathers puts weight many st s).0 s)

    given_if_below : (owned : Bool) (s : ℕ) (o : StateAndGone T R) → given_back_if puts weight owned s (below_out o) ≡ below_out (given_back_if puts weight owned s o)
    given_if_below true s o = ap (with_gone o.1) (give_below o.0 s)
    given_if_below false s o = refl

    end_below : (st : ModelState T R) (s : ℕ) → calls.end_slot puts weight (with_gone_below n st) s ≡ below_answer (calls.end_slot puts weight st s)
    end_below st s =
        (λ i. unless (registered_below st s i) (with_gone_below n st) (if has_guard (slot_below st s i) then (Ok false, (with_gone_below n st, [])) else (Ok true, give_below st s i)))
        ∙ ap (unless (not_registered st s) (with_gone_below n st)) (by_case (has_guard (model_slot st s)))
        ∙ unless_below (not_registered st s) st (if has_guard (model_slot st s) then (Ok false, (st, [])) else (Ok true, give_back puts weight st s))
      where
        by_case : (k : Bool) → ◌≡◌ {A = Response Bool T R} (if k then (Ok false, (with_gone_below n st, [])) else (Ok true, below_out (give_back puts weight st s))) (below_answer (if k then (Ok false, (st, [])) else (Ok true, give_back puts weight st s)))
        by_case true = refl
        by_case false = refl

    -- a call by a slot, with what the values gone put
    done_below : (refusal : Option Refusal) (st : ModelState T R) (s : ℕ) (o o' : StateAndGone T R) → o ≡ below_out o' → unless {A = Unit {0}} refusal (with_gone_below n st) (Ok tt, with_further puts weight s o) ≡ below_answer (unless refusal st (Ok tt, with_further puts weight s o'))
    done_below refusal st s o o' is =
        ap (λ (p : StateAndGone T R). unless {A = Unit {0}} refusal (with_gone_below n st) (Ok tt, p)) (ap (with_further puts weight s) is ∙ further_below puts weight s o')
        ∙ unless_below refusal st (Ok tt, with_further puts weight s o')

    retire_below : (st : ModelState T R) (s : ℕ) (value : T) (reclaim : R) → calls.retire puts weight (with_gone_below n st) s value reclaim ≡ below_answer (calls.retire puts weight st s value reclaim)
    retire_below st s value reclaim =
        ap (λ (r : Option Refusal). unless {A = Unit {0}} r (with_gone_below n st) (Ok tt, with_further puts weight s (put (with_gone_below n st) s (value, reclaim)))) (unused_below st s)
        ∙ done_below (unused st s) st s (put (with_gone_below n st) s (value, reclaim)) (put st s (value, reclaim)) (put_below st s (value, reclaim))

    flush_below : (st : ModelState T R) (s : ℕ) → calls.flush puts weight (with_gone_below n st) s ≡ below_answer (calls.flush puts weight st s)
    flush_below st s =
        ap (λ (r : Option Refusal). unless {A = Unit {0}} r (with_gone_below n st) (Ok tt, with_further puts weight s (attempt (with_gone_below n st) s))) (no_guard_below st s)
        ∙ done_below (no_guard st s) st s (attempt (with_gone_below n st) s) (attempt st s) (attempt_below st s)

    refresh_below : (st : ModelState T R) (s : ℕ) → calls.refresh puts weight (with_gone_below n st) s ≡ below_answer (calls.refresh puts weight st s)
    refresh_below st s =
        ap (λ (r : Option Refusal). unless {A = Unit {0}} r (with_gone_below n st) (Ok tt, with_further puts weight s (part_if_alone (with_gone_below n st) s))) (no_guard_below st s)
        ∙ done_below (no_guard st s) st s (part_if_alone (with_gone_below n st) s) (part_if_alone st s) (alone_below st s)

    leave_below : (st : ModelState T R) (s : ℕ) → calls.leave puts weight (with_gone_below n st) s ≡ below_answer (calls.leave puts weight st s)
    leave_below st s =
        (λ i. unless (no_guard_below st s i) (with_gone_below n st) (Ok tt, given_back_if puts weight (is_owned (slot_below st s i).kind) s (with_further puts weight s (less_below st s i))))
        ∙ ap (λ (o : StateAndGone T R). unless (no_guard st s) (with_gone_below n st) (Ok tt, given_back_if puts weight (is_owned (model_slot st s).kind) s o)) (further_below puts weight s (one_guard_less st s))
        ∙ ap (λ (o : StateAndGone T R). unless (no_guard st s) (with_gone_below n st) (Ok tt, o)) (given_if_below (is_owned (model_slot st s).kind) s (with_further puts weight s (one_guard_less st s)))
        ∙ unless_below (no_guard st s) st (Ok tt, given_back_if puts weight (is_owned (model_slot st s).kind) s (with_further puts weight s (one_guard_less st s)))

    -- Each call.

    abbrev below_effect : Effect T R → Effect T R
    below_effect a = (a.0, below_out a.1)

    old_below : (s : ℕ) (new : Option T) (reclaim : R) (answer : Result (Option T) Refusal) (o : StateAndGone T R) → retire_old puts weight s new reclaim answer (below_out o) ≡ below_effect (retire_old puts weight s new reclaim answer o)
    old_below s new reclaim (Err r) o = refl
    old_below s new reclaim (Ok None) o = refl
    old_below s new reclaim (Ok (Some v)) o = ap (reply done_reply (Some v)) (retire_below o.0 s v reclaim)

    pub step_below : (st : ModelState T R) (call : Call T R) → step puts weight (with_gone_below n st) call ≡ below_effect (step puts weight st call)
    step_below st Register = ap (reply Reply.Number None) (take_below st Registered 0)
    step_below st EnterOwned = ap (reply Reply.Number None) (take_below st Owned 1)
    step_below st (Enter s) = ap (reply done_reply None) (enter_below st s)
    step_below st (Leave s) = ap (reply done_reply None) (leave_below st s)
    step_below st (End s) = ap (reply end_reply None) (end_below st s)
    step_below st (Refresh s) = ap (reply done_reply None) (refresh_below st s)
    step_below st (Flush s) = ap (reply done_reply None) (flush_below st s)
    step_below st (Retire s v r) = ap (reply done_reply (Some v)) (retire_below st s v r)
    step_below st (Protect s l) = ap (reply (λ found. Reply.Found (is_some found)) None) (protect_below st s l)
    step_below st (Swap s l new r) =
        ap (λ (a : Response (Option T) T R). retire_old puts weight s new r a.0 a.1) (swap_below st s l new)
        ∙ old_below s new r (calls.swap st s l new).0 (calls.swap st s l new).1

-- A reclaim of all.

module _ {T R : Type 0} (n : ℕ) where
  parts_below : (st : ModelState T R) (ss : List ℕ) → part_all (with_gone_below n st) ss ≡ below_out n (part_all st ss)
  parts_below st [] = refl
  parts_below st (s ∷ ss) =
      ap (λ (o : StateAndGone T R). with_gone o.1 (part_all (set_guards o.0 s 0) ss)) (part_below n st s)
      ∙ ap (λ (k : ModelState T R). with_gone (part st s).1 (part_all k ss)) (guards_below n (part st s).0 s 0)
      ∙ ap (λ (o : StateAndGone T R). with_gone (part st s).1 o) (parts_below (set_guards (part st s).0 s 0) ss)

  unmade_above : (xs : List (ModelSlot T R)) → ◌≡◌ {A = List (ModelSlot T R)} (map (λ slot. unmade_slot) (map (with_order_from n) xs)) (map (λ slot. unmade_slot) xs)
  unmade_above [] = refl
  unmade_above (x ∷ xs) = ap (λ (l : List (ModelSlot T R)). unmade_slot ∷ l) (unmade_above xs)

  batches_above : (xs : List (ModelSlot T R)) → flat_map (λ slot. slot.batch) (map (with_order_from n) xs) ≡ flat_map (λ slot. slot.batch) xs
  batches_above [] = refl
  batches_above (x ∷ xs) = flat_map-cons (λ slot. slot.batch) (with_order_from n x) (map (with_order_from n) xs) ∙ ap (λ (l : List (T × R)). x.batch ++ l) (batches_above xs) ∙ sym (flat_map-cons (λ slot. slot.batch) x xs)

  pub reclaim_below : (puts : R → T → List T) (weight : T → ℕ) (st : ModelState T R) → reclaim_all puts weight (with_gone_below n st) ≡ reclaim_all puts weight st
  reclaim_below puts weight st =
      let all : List ℕ = range_with_len 0 (length st.slots) in
      let parted : StateAndGone T R = part_all st all in
      let end : List (ModelSlot T R) → List (T × R) → StateAndGone T R = λ slots batches. let gone = parted.1 ++ batches ++ parted.0.rest in
      (record parted.0 { slots = slots; retired = []; rest = [] }, gone ++ gone_from puts weight (further puts gone)) in
      let whole : StateAndGone T R → StateAndGone T R = λ o. let gone = o.1 ++ flat_map (λ slot. slot.batch) o.0.slots ++ o.0.rest in
      (record o.0 { slots = map (λ slot. unmade_slot) o.0.slots; retired = []; rest = [] }, gone ++ gone_from puts weight (further puts gone)) in
      ap (λ (k : ℕ). whole (part_all (with_gone_below n st) (range_with_len 0 k))) (length-map st.slots (with_order_from n))
      ∙ ap whole (parts_below st all)
      ∙ (λ i. end (unmade_above parted.0.slots i) (batches_above parted.0.slots i))

pub same_below : {T : Type 0} (puts : ℕ → T → List T) (weight : T → ℕ) → SameBelow puts weight
same_below puts weight n st = (λ call. step_below n puts weight st call, reclaim_below n puts weight st)
