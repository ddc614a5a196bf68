-- What follows from the definitions of the calls.
use Rattle.std.specs.Prelude.{◌≡◌, ◌≢◌, ℕ, ◌<◌, ◌*◌, ◌⊎◌, true, false, max, List, [], ◌++◌, length}
use Rattle.std.specs.List.{sum_by}
use Rattle.seize_model.specs.Waiting.State.{ModelState, model_slot, retired_at, has_guard}
use Rattle.seize_model.specs.Waiting.Attempt.{with_gone}
use Rattle.seize_model.specs.Waiting.Further.{further, gone_from}
use Rattle.seize_model.specs.Waiting.Calls.{flush, retire, is_free, others_in_use, rest_and_batch, gathering, give_back, with_number_free}
use Rattle.seize_model.specs.Waiting.Reached.{Reached, largest_size}

-- **Flushes.** No value is gone in a flush.
abbrev pub FlushLaw : {T R : Type 0} → (R → T → List T) → (T → ℕ) → Type 0
FlushLaw {T} {R} puts weight = (st : ModelState T R) (s : ℕ) → (flush puts weight st s).1.1 ≡ []

-- **Retirements.** Nor in a retirement by a slot that is active.
abbrev pub RetireLaw : {T R : Type 0} → (R → T → List T) → (T → ℕ) → Type 0
RetireLaw {T} {R} puts weight =
    (st : ModelState T R) (s : ℕ) (value : T) (reclaim : R) → has_guard (model_slot st s) ≡ true
    → (retire puts weight st s value reclaim).1.1 ≡ []

-- the greater of a size, at least 1, and the number of slots ever made
abbrev pub batch_bound : {T R : Type 0} → ℕ → ModelState T R → ℕ
batch_bound size st = max (max 1 size) (length st.slots)

-- **Bound.** In a reached state each batch is below the bound of the largest size so far. And what slots that ended left is below that
-- bound times the number of slots ever made.
abbrev pub BoundLaw : {T R : Type 0} → (R → T → List T) → (T → ℕ) → Type 0
BoundLaw {T} {R} puts weight =
    (st : ModelState T R) (reached : Reached puts weight st) → (
    let bound = batch_bound (largest_size reached) st in
    ((s : ℕ) → length (model_slot st s).batch < bound)
    × ((st.rest ≡ []) ⊎ (length st.rest < bound * length st.slots))
    )

-- **Last end.** Where no other number is in use and s has no guard, all that was left is gone as the number of s is given back: what the
-- slots that ended left, then the batch of s, and then what those values put, in turn.
abbrev pub LastEndLaw : {T R : Type 0} → (R → T → List T) → (T → ℕ) → Type 0
LastEndLaw {T} {R} puts weight =
    (st : ModelState T R) (s : ℕ) → Reached puts weight st
    → is_free (model_slot st s).kind ≡ false → has_guard (model_slot st s) ≡ false → others_in_use st s ≡ false
    → (give_back puts weight st s).1 ≡ rest_and_batch st s ++ gone_from puts weight (further puts (rest_and_batch st s))

-- **Unused.** Where no number is in use, all that was retired is gone.
abbrev pub UnusedLaw : {T R : Type 0} → (R → T → List T) → (T → ℕ) → Type 0
UnusedLaw {T} {R} puts weight =
    (st : ModelState T R) → Reached puts weight st → ((s : ℕ) → is_free (model_slot st s).kind ≡ true)
    → (st.rest ≡ []) × ((s : ℕ) → (model_slot st s).batch ≡ []) × ((b : ℕ) → retired_at st b ≡ [])

-- the number of s goes back at once
abbrev pub EndsNow : {T R : Type 0} → ModelState T R → ℕ → Type 0
EndsNow st s = (others_in_use st s ≡ true) ⊎ (rest_and_batch st s ≡ [])

-- or s gathers first
abbrev pub GathersFirst : {T R : Type 0} → ModelState T R → ℕ → Type 0
GathersFirst st s = (others_in_use st s ≡ false) × (rest_and_batch st s ≢ [])

-- **Giving back.** Where the number of s goes back at once, nothing is gone. Where s gathers first, this is a gathering, and then what is
-- given back from the state after it, where what is left weighs less: so it is where s is in use without a guard, no free slot has one, and
-- no batch waits for a slot without one.
abbrev pub GivingLaw : {T R : Type 0} → (R → T → List T) → (T → ℕ) → Type 0
GivingLaw {T} {R} puts weight =
    (st : ModelState T R) (s : ℕ) → (EndsNow st s → give_back puts weight st s ≡ (with_number_free st s, []))
    × (is_free (model_slot st s).kind ≡ false → has_guard (model_slot st s) ≡ false
    → ((t : ℕ) → is_free (model_slot st t).kind ≡ true → has_guard (model_slot st t) ≡ false)
    → ((t : ℕ) → has_guard (model_slot st t) ≡ false → (model_slot st t).order ≡ []) → GathersFirst st s
    → let o = gathering puts weight st s in (give_back puts weight st s ≡ with_gone o.1 (give_back puts weight o.0 s))
    × (sum_by (λ v. weight v.0) (rest_and_batch o.0 s) < sum_by (λ v. weight v.0) (rest_and_batch st s)))
