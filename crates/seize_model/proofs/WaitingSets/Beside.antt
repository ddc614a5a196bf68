-- What the steps of a call leave as it was: they change retired batches, and the batches and orders of slots.
use Rattle.std.proofs.Common.{◌≡◌, ℕ, zero, suc, Bool, List, [], ◌∷◌, ◌++◌, length, map, set, refl, ◌∙◌, ap}
use Rattle.std.specs.List.{count_by}
use Rattle.std.proofs.lemmas.List.{length-set, length-map}
use Rattle.std.proofs.Math.ListN.{get_or-map}
use Rattle.seize_model.specs.Waiting.State.{ModelSlot, ModelState, model_slot, set_slot, unmade_slot, has_guard, is_kept}
use Rattle.seize_model.specs.Waiting.Attempt.{StateAndGone, release, release_all, wait_if_active, with_batch_retired, gives_up, attempt, is_full, attempt_if_full, with_batch_value, put, part}
use Rattle.seize_model.specs.Waiting.Further.{further, settle, still_to_come, with_further}
use Rattle.seize_model.proofs.Cases.{either}
use Rattle.seize_model.proofs.Counts.{same_at, count_same, counts_cons}

-- f tells nothing of these
pub record Ignores {T R X : Type 0} (f : ModelState T R → X) : Type 0 where
  pub retired : (st : ModelState T R) (retired : List (List (T × R))) → f (record st { retired = retired }) ≡ f st
  pub slot : (st : ModelState T R) (s : ℕ) (batch : List (T × R)) (order : List ℕ) → f (set_slot st s (record (model_slot st s) { batch = batch; order = order })) ≡ f st
  pub waiting : (st : ModelState T R) (b : ℕ) → f (record st { slots = map (wait_if_active b) st.slots }) ≡ f st

-- a release changes nothing beside the retired batches
pub release_beside : {T R X : Type 0} (f : ModelState T R → X)
    → ((k : ModelState T R) (retired : List (List (T × R))) → f (record k { retired = retired }) ≡ f k)
    → (st : ModelState T R) (b : ℕ) → f (release st b).0 ≡ f st
release_beside {T} {R} f same st b = either (λ (o : StateAndGone T R). f o.0 ≡ f st) (is_kept st b) _ _ refl (same st (set st.retired b []))

pub releases_beside : {T R X : Type 0} (f : ModelState T R → X)
    → ((k : ModelState T R) (retired : List (List (T × R))) → f (record k { retired = retired }) ≡ f k)
    → (st : ModelState T R) (bs : List ℕ) → f (release_all st bs).0 ≡ f st
releases_beside f same st [] = refl
releases_beside f same st (b ∷ bs) = releases_beside f same (release st b).0 bs ∙ release_beside f same st b

pub part_beside : {T R X : Type 0} (f : ModelState T R → X) → Ignores f → (st : ModelState T R) (s : ℕ) → f (part st s).0 ≡ f st
part_beside f h st s = releases_beside f h.retired (set_slot st s (record (model_slot st s) { order = [] })) (model_slot st s).order ∙ h.slot st s (model_slot st s).batch []

pub attempt_beside : {T R X : Type 0} (f : ModelState T R → X) → Ignores f → (st : ModelState T R) (s : ℕ) → f (attempt st s).0 ≡ f st
attempt_beside {T} {R} f h st s =
    let emptied : ModelState T R = set_slot st s (record (model_slot st s) { batch = [] }) in
    either (λ (o : StateAndGone T R). f o.0 ≡ f st) (gives_up st s) _ _ refl
    (release_beside f h.retired (with_batch_retired st s) (length st.retired)
    ∙ h.retired (record emptied { slots = map (wait_if_active (length st.retired)) emptied.slots }) (st.retired ++ (model_slot st s).batch ∷ [])
    ∙ h.waiting emptied (length st.retired) ∙ h.slot st s [] (model_slot st s).order)

pub full_beside : {T R X : Type 0} (f : ModelState T R → X) → Ignores f → (st : ModelState T R) (s : ℕ) → f (attempt_if_full st s).0 ≡ f st
full_beside {T} {R} f h st s = either (λ (o : StateAndGone T R). f o.0 ≡ f st) (is_full st.size (model_slot st s).batch) _ _ (attempt_beside f h st s) refl

pub put_beside : {T R X : Type 0} (f : ModelState T R → X) → Ignores f → (st : ModelState T R) (s : ℕ) (v : T × R) → f (put st s v).0 ≡ f st
put_beside f h st s v = full_beside f h (with_batch_value st s v) s ∙ h.slot st s ((model_slot st s).batch ++ v ∷ []) (model_slot st s).order

settle_beside : {T R X : Type 0} (puts : R → T → List T) (f : ModelState T R → X) → Ignores f → (n : ℕ) (st : ModelState T R) (s : ℕ) (queue : List (T × R)) → f (settle puts n st s queue).0 ≡ f st
settle_beside puts f h zero st s queue = refl
settle_beside puts f h (suc n) st s [] = refl
settle_beside puts f h (suc n) st s (v ∷ queue) = settle_beside puts f h n (put st s v).0 s (queue ++ further puts (put st s v).1) ∙ put_beside f h st s v

pub settled_beside : {T R X : Type 0} (puts : R → T → List T) (weight : T → ℕ) (f : ModelState T R → X) → Ignores f → (s : ℕ) (o : StateAndGone T R) → f (with_further puts weight s o).0 ≡ f o.0
settled_beside puts weight f h s o = settle_beside puts f h (still_to_come weight (model_slot o.0 s).batch (further puts o.1)) o.0 s (further puts o.1)

-- Such f.

pub ignores_rest : {T R : Type 0} → Ignores (λ (st : ModelState T R). st.rest)
ignores_rest = record { retired = λ st retired. refl; slot = λ st s batch order. refl; waiting = λ st b. refl }

pub ignores_links : {T R : Type 0} → Ignores (λ (st : ModelState T R). st.links)
ignores_links = record { retired = λ st retired. refl; slot = λ st s batch order. refl; waiting = λ st b. refl }

pub ignores_many : {T R : Type 0} → Ignores (λ (st : ModelState T R). length st.slots)
ignores_many = record {
  retired = λ st retired. refl;
  slot = λ st s batch order. length-set st.slots s (record (model_slot st s) { batch = batch; order = order });
  waiting = λ st b. length-map st.slots (wait_if_active b);
}

-- what tells nothing of a slot's batch and order
abbrev pub Steady : {T R X : Type 0} → (ModelSlot T R → X) → Type 0
Steady {T} {R} g = (slot : ModelSlot T R) (batch : List (T × R)) (order : List ℕ) → g (record slot { batch = batch; order = order }) ≡ g slot

waits_beside : {T R X : Type 0} (g : ModelSlot T R → X) → Steady g → (b : ℕ) (slot : ModelSlot T R) → g (wait_if_active b slot) ≡ g slot
waits_beside {T} {R} g h b slot = either (λ (x : ModelSlot T R). g x ≡ g slot) (has_guard slot) (record slot { order = b ∷ slot.order }) slot (h slot slot.batch (b ∷ slot.order)) refl

pub ignores_of : {T R X : Type 0} (g : ModelSlot T R → X) → Steady g → (i : ℕ) → Ignores (λ (st : ModelState T R). g (model_slot st i))
ignores_of g h i = record {
  retired = λ st retired. refl;
  slot = λ st s batch order. same_at g st.slots s (record (model_slot st s) { batch = batch; order = order }) unmade_slot (h (model_slot st s) batch order) i;
  waiting = λ st b. ap g (get_or-map (wait_if_active b) st.slots i unmade_slot) ∙ waits_beside g h b (model_slot st i);
}

count_map : {X : Type 0} (p : X → Bool) (f : X → X) → ((x : X) → p (f x) ≡ p x) → (xs : List X) → count_by p (map f xs) ≡ count_by p xs
count_map p f h [] = refl
count_map p f h (x ∷ xs) = counts_cons p p (f x) x (map f xs) xs (h x) (count_map p f h xs)

pub ignores_count : {T R : Type 0} (p : ModelSlot T R → Bool) → Steady p → Ignores (λ (st : ModelState T R). count_by p st.slots)
ignores_count p h = record {
  retired = λ st retired. refl;
  slot = λ st s batch order. count_same p st.slots s (record (model_slot st s) { batch = batch; order = order }) unmade_slot (h (model_slot st s) batch order);
  waiting = λ st b. count_map p (wait_if_active b) (waits_beside p h b) st.slots;
}
