-- What is known of a slot where a call is not refused.
use Rattle.std.proofs.Common.{◌≡◌, ℕ, ◌<◌, Bool, true, false, if◌then◌else◌, length, Option, Some, None, refl, sym, ◌∙◌, ap, inl, inr}
use Rattle.std.proofs.lemmas.List.{get_or_past}
use Rattle.seize_table.specs.declared.refusal.Refusal.{Refusal}
use Rattle.seize_table.specs.declared.refusal.Refusal.TheVariants.{NotInUse, NotActive, WrongKind}
use Rattle.seize_model.specs.Waiting.State.{ModelSlot, ModelState, model_slot, unmade_slot, has_guard}
use Rattle.seize_model.specs.Waiting.Calls.{is_free, is_owned, first_refusal, unused, not_registered, no_guard}
use Rattle.seize_model.proofs.Cases.{in_or_past}

-- it is in use, and it has no guard besides
abbrev pub IsUsed : {T R : Type 0} → ModelState T R → ℕ → Type 0
IsUsed st s = is_free (model_slot st s).kind ≡ false

abbrev pub IsIdle : {T R : Type 0} → ModelState T R → ℕ → Type 0
IsIdle st s = IsUsed st s × (has_guard (model_slot st s) ≡ false)

pub in_use : {T R : Type 0} (st : ModelState T R) (s : ℕ) → IsUsed st s → s < length st.slots
in_use {T} {R} st s used = elim (in_or_past s (length st.slots)) [
  | inl h ↦ h
  | inr h ↦ absurd (let c : true ≡ false = sym (ap (λ (x : ModelSlot T R). is_free x.kind) (get_or_past st.slots s unmade_slot h)) ∙ used in cc)
]

pub used_of : {T R : Type 0} (st : ModelState T R) (s : ℕ) → unused st s ≡ None → IsUsed st s
used_of st s e = go (is_free (model_slot st s).kind) e
  where
    go : (a : Bool) → (if a then Some NotInUse else None) ≡ None → a ≡ false
    go true e = absurd (cc)
    go false e = refl

pub none_of_two : (a b : Option Refusal) → first_refusal a b ≡ None → (a ≡ None) × (b ≡ None)
none_of_two None b e = (refl, e)
none_of_two (Some r) b e = absurd (cc)

pub guard_of : {T R : Type 0} (st : ModelState T R) (s : ℕ) → no_guard st s ≡ None → IsUsed st s × (has_guard (model_slot st s) ≡ true)
guard_of st s e =
    let both = none_of_two (unused st s) (if has_guard (model_slot st s) then None else Some NotActive) e in
    (used_of st s both.0, go (has_guard (model_slot st s)) both.1)
  where
    go : (a : Bool) → (if a then None else Some NotActive) ≡ None → a ≡ true
    go true e = refl
    go false e = absurd (cc)

pub registered_of : {T R : Type 0} (st : ModelState T R) (s : ℕ) → not_registered st s ≡ None → IsUsed st s × (is_owned (model_slot st s).kind ≡ false)
registered_of st s e =
    let both = none_of_two (unused st s) (if is_owned (model_slot st s).kind then Some WrongKind else None) e in
    (used_of st s both.0, go (is_owned (model_slot st s).kind) both.1)
  where
    go : (a : Bool) → (if a then Some WrongKind else None) ≡ None → a ≡ false
    go true e = absurd (cc)
    go false e = refl
