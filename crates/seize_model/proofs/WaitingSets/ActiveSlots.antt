-- What an active slot retires waits for the slot itself, so nothing is gone in its flushes and retirements.
use Rattle.std.proofs.Common.{◌≡◌, ℕ, ◌<◌, Bool, true, false, ◌||◌, ◌==◌, if◌then◌else◌, nat_le, max, List, [], ◌∷◌, ◌++◌, length, get_or, set, Option, Some, None, Ok, refl, sym, ◌∙◌, ap, inl, inr, arith}
use Rattle.std.specs.List.{list_any}
use Rattle.std.proofs.lemmas.List.{get_or-set_same, get_or_past}
use Rattle.std.proofs.Math.ListN.{get_or-map}
use Rattle.seize_table.specs.declared.refusal.Refusal.{Refusal}
use Rattle.seize_table.specs.declared.refusal.Refusal.TheVariants.{NotInUse, NotActive}
use Rattle.seize_model.specs.Waiting.State.{ModelSlot, ModelState, model_slot, unmade_slot, has_guard, is_kept, waits_for, retired_at}
use Rattle.seize_model.specs.Waiting.Attempt.{StateAndGone, attempt, gives_up, wait_if_active, with_batch_retired, put, with_batch_value}
use Rattle.seize_model.specs.Waiting.Further.{with_further}
use Rattle.seize_model.specs.Waiting.Calls.{unused, first_refusal, is_free, unless}
use Rattle.seize_model.specs.Waiting.Laws.{FlushLaw, RetireLaw}
use Rattle.seize_machine.proofs.Facts.{is_true}
use Rattle.seize_model.proofs.Cases.{either, in_or_past}
use Rattle.seize_model.proofs.Counts.{none_any}
use Rattle.seize_model.proofs.WaitingSets.Orders.{by_active}
use Rattle.seize_model.proofs.WaitingSets.FurtherValues.{afterwards-nil}

-- a slot with a guard was made
is_made : {T R : Type 0} (st : ModelState T R) (s : ℕ) → has_guard (model_slot st s) ≡ true → s < length st.slots
is_made {T} {R} st s active = elim (in_or_past s (length st.slots)) [
  | inl h ↦ h
  | inr h ↦ absurd (let c : false ≡ true = sym (ap (λ (x : ModelSlot T R). has_guard x) (get_or_past st.slots s unmade_slot h)) ∙ active in cc)
]

-- where an element passes, some does
some_passes : {X : Type 0} (p : X → Bool) (xs : List X) (i : ℕ) (d : X) → p d ≡ false → p (get_or xs i d) ≡ true → list_any p xs ≡ true
some_passes p xs i d n e = elim (is_true (list_any p xs)) [
  | inl t ↦ t
  | inr f ↦ absurd (let c : false ≡ true = sym (none_any p xs i d f n) ∙ e in cc)
]

-- the batch waits for the active slot that detached it
waits_for_own : {T R : Type 0} (st : ModelState T R) (s : ℕ) → has_guard (model_slot st s) ≡ true → is_kept (with_batch_retired st s) (length st.retired) ≡ true
waits_for_own {T} {R} st s active =
    some_passes (waits_for (length st.retired)) (with_batch_retired st s).slots s unmade_slot refl
    (ap (waits_for (length st.retired)) own ∙ by_active (λ x t. t ≡ true → waits_for (length st.retired) x ≡ true) (length st.retired) (record (model_slot st s) { batch = [] }) first_is (λ e h. absurd (let c : false ≡ true = h in cc)) active)
  where
    own : model_slot (with_batch_retired st s) s ≡ wait_if_active (length st.retired) (record (model_slot st s) { batch = [] })
    own = get_or-map (wait_if_active (length st.retired)) (set st.slots s (record (model_slot st s) { batch = [] })) s unmade_slot
        ∙ ap (wait_if_active (length st.retired)) (get_or-set_same st.slots s (record (model_slot st s) { batch = [] }) unmade_slot (is_made st s active))

    first_is : has_guard (model_slot st s) ≡ true → true ≡ true → waits_for (length st.retired) (record (model_slot st s) { batch = []; order = length st.retired ∷ (model_slot st s).order }) ≡ true
    first_is e h = let same : (length st.retired == length st.retired) ≡ true = grind arith in ap (λ (t : Bool). t || list_any (λ x. x == length st.retired) (model_slot st s).order) same

attempt_keeps : {T R : Type 0} (st : ModelState T R) (s : ℕ) → has_guard (model_slot st s) ≡ true → (attempt st s).1 ≡ []
attempt_keeps {T} {R} st s active =
    either (λ (o : StateAndGone T R). o.1 ≡ []) (gives_up st s) _ _ refl
    (ap {B = List (T × R)} (λ (t : Bool). let o : StateAndGone T R = if t then (with_batch_retired st s, []) else (record (with_batch_retired st s) { retired = set (with_batch_retired st s).retired (length st.retired) [] }, retired_at (with_batch_retired st s) (length st.retired)) in o.1) (waits_for_own st s active))

put_keeps : {T R : Type 0} (st : ModelState T R) (s : ℕ) (v : T × R) → has_guard (model_slot st s) ≡ true → (put st s v).1 ≡ []
put_keeps {T} {R} st s v active =
    either (λ (o : StateAndGone T R). o.1 ≡ []) (nat_le (max 1 st.size) (length (model_slot (with_batch_value st s v) s).batch)) _ _
    (attempt_keeps (with_batch_value st s v) s (ap (λ (x : ModelSlot T R). has_guard x) (get_or-set_same st.slots s (record (model_slot st s) { batch = (model_slot st s).batch ++ v ∷ [] }) unmade_slot (is_made st s active)) ∙ active))
    refl

-- nothing gone, nothing further
settled_keeps : {T R : Type 0} (puts : R → T → List T) (weight : T → ℕ) (s : ℕ) (o : StateAndGone T R) → o.1 ≡ [] → (with_further puts weight s o).1 ≡ []
settled_keeps {T} {R} puts weight s o none =
    ap (λ (l : List (T × R)). (with_further puts weight s (o.0, l)).1) none
    ∙ ap (λ (k : StateAndGone T R). k.1) (afterwards-nil puts weight o.0 s)

pub flush_keeps : {T R : Type 0} (puts : R → T → List T) (weight : T → ℕ) → FlushLaw {T = T} {R = R} puts weight
flush_keeps {T} {R} puts weight st s = go (is_free (model_slot st s).kind) (has_guard (model_slot st s)) refl
  where
    go : (free active : Bool) → has_guard (model_slot st s) ≡ active
        → (unless {A = Unit {0}} (first_refusal (if free then Some NotInUse else None) (if active then None else Some NotActive)) st (Ok tt, with_further puts weight s (attempt st s))).1.1 ≡ []
    go true active e = refl
    go false true e = settled_keeps puts weight s (attempt st s) (attempt_keeps st s e)
    go false false e = refl

pub retire_keeps : {T R : Type 0} (puts : R → T → List T) (weight : T → ℕ) → RetireLaw {T = T} {R = R} puts weight
retire_keeps {T} {R} puts weight st s value reclaim active = go (unused st s)
  where
    go : (refusal : Option Refusal) → (unless {A = Unit {0}} refusal st (Ok tt, with_further puts weight s (put st s (value, reclaim)))).1.1 ≡ []
    go None = settled_keeps puts weight s (put st s (value, reclaim)) (put_keeps st s (value, reclaim) active)
    go (Some r) = refl
