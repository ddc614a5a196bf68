-- What a detached batch changes in the orders of the slots.
use Rattle.std.proofs.Common.{◌≡◌, ◌≢◌, ℕ, Bool, true, false, ◌||◌, ◌==◌, if◌then◌else◌, List, [], ◌∷◌, map, refl, ap, arith}
use Rattle.std.specs.List.{count_by, list_any}
use Rattle.std.proofs.lemmas.Grind.{common_steps}
use Rattle.seize_model.specs.Waiting.State as waiting
use Rattle.seize_model.specs.Waiting.State.{waits_for}
use Rattle.seize_model.specs.Waiting.Attempt.{wait_if_active}
use Rattle.seize_model.proofs.Counts.{none_passes, counts_cons}

-- what holds of a slot with the batch in front where it is active, and without where it isn't
pub by_active : {T R : Type 0} (P : waiting.ModelSlot T R → Bool → Type 0) (b : ℕ) (slot : waiting.ModelSlot T R) → (waiting.has_guard slot ≡ true → P (record slot { order = b ∷ slot.order }) true) → (waiting.has_guard slot ≡ false → P slot false)
    → P (wait_if_active b slot) (waiting.has_guard slot)
by_active {T} {R} P b slot on off = go (waiting.has_guard slot) refl
  where
    go : (t : Bool) → waiting.has_guard slot ≡ t → P (if t then record slot { order = b ∷ slot.order } else slot) t
    go true e = on e
    go false e = off e

waits_new : {T R : Type 0} (b : ℕ) (slot : waiting.ModelSlot T R) → waits_for b slot ≡ false → waits_for b (wait_if_active b slot) ≡ waiting.has_guard slot
waits_new b slot none = by_active (λ x t. waits_for b x ≡ t) b slot (λ e. let own : (b == b) ≡ true = grind arith in ap (λ (t : Bool). t || list_any (λ x. x == b) slot.order) own) (λ e. none)

waits_other : {T R : Type 0} (b i : ℕ) (slot : waiting.ModelSlot T R) → i ≢ b → waits_for i (wait_if_active b slot) ≡ waits_for i slot
waits_other b i slot other = by_active (λ x t. waits_for i x ≡ waits_for i slot) b slot (λ e. let own : (b == i) ≡ false = grind arith in ap (λ (t : Bool). t || list_any (λ x. x == i) slot.order) own) (λ e. refl)

pub new_count : {T R : Type 0} (b : ℕ) (xs : List (waiting.ModelSlot T R)) → count_by (waits_for b) xs ≡ 0 → count_by (waits_for b) (map (wait_if_active b) xs) ≡ count_by waiting.has_guard xs
new_count b [] e = refl
new_count b (x ∷ xs) e =
    let none : waits_for b x ≡ false = none_passes (waits_for b) (x ∷ xs) 0 x e (none_first b x xs e) in
    let rest : count_by (waits_for b) xs ≡ 0 = none_rest b x xs e in
    let own : waits_for b (wait_if_active b x) ≡ waiting.has_guard x = waits_new b x none in
    let more : count_by (waits_for b) (map (wait_if_active b) xs) ≡ count_by waiting.has_guard xs = new_count b xs rest in
    counts_cons (waits_for b) waiting.has_guard (wait_if_active b x) x (map (wait_if_active b) xs) xs own more
  where
    none_first : {T R : Type 0} (b : ℕ) (x : waiting.ModelSlot T R) (xs : List (waiting.ModelSlot T R)) → count_by (waits_for b) (x ∷ xs) ≡ 0 → waits_for b x ≡ false
    none_first b x xs e = grind (arith, common_steps)

    none_rest : {T R : Type 0} (b : ℕ) (x : waiting.ModelSlot T R) (xs : List (waiting.ModelSlot T R)) → count_by (waits_for b) (x ∷ xs) ≡ 0 → count_by (waits_for b) xs ≡ 0
    none_rest b x xs e = grind (arith, common_steps)

pub old_count : {T R : Type 0} (b i : ℕ) (xs : List (waiting.ModelSlot T R)) → i ≢ b → count_by (waits_for i) (map (wait_if_active b) xs) ≡ count_by (waits_for i) xs
old_count b i [] other = refl
old_count b i (x ∷ xs) other = counts_cons (waits_for i) (waits_for i) (wait_if_active b x) x (map (wait_if_active b) xs) xs (waits_other b i x other) (old_count b i xs other)
