-- The slot of the least number that is not in use, as that is taken.
use Rattle.std.proofs.Common.{◌≡◌, ℕ, ◌<◌, ◌≤◌, Bool, true, false, ◌==◌, if◌then◌else◌, List, [], ◌∷◌, ◌++◌, length, get_or, set, refl, sym, ◌∙◌, ap, arith, length-append}
use Rattle.std.proofs.lemmas.List.{get_or-set_same, set-get_or}
use Rattle.std.proofs.lemmas.List.Sums.{prefix_len-le-length, passes_at_first}
use Rattle.std.proofs.Math.Seq.{get_or-append_seam, set-append_seam}
use Rattle.seize_machine.proofs.Facts.{eq_true}
use Rattle.seize_model.specs.declared.kind.Kind.{Kind}
use Rattle.seize_model.specs.Waiting.State.{ModelSlot, ModelState, model_slot, set_slot, unmade_slot}
use Rattle.seize_model.specs.Waiting.Calls.{least_unused, with_number_in_use, set_guards, is_free}
use Rattle.seize_model.specs.Waiting.Attempt.{attempt_if_full}
use Rattle.seize_model.proofs.Cases.{if_yes, if_no}
use Rattle.seize_model.proofs.WaitingSets.Beside.{full_beside, ignores_rest}

-- with room for the number, where t says whether it is a new one
abbrev pub with_room : {T R : Type 0} → Bool → ModelState T R → ModelState T R
with_room t st = if t then record st { slots = st.slots ++ unmade_slot ∷ [] } else st

-- its slot there
pub free_room : {T R : Type 0} (st : ModelState T R) (t : Bool) → (least_unused st.slots == length st.slots) ≡ t → (least_unused st.slots < length (with_room t st).slots) × (is_free (model_slot (with_room t st) (least_unused st.slots)).kind ≡ true)
free_room {T} {R} st true t_is =
    let e : least_unused st.slots ≡ length st.slots = eq_true _ _ t_is in
    (omega (arith, length-append st.slots (unmade_slot ∷ [])), ap (λ (k : ℕ). is_free (get_or (st.slots ++ unmade_slot ∷ []) k unmade_slot).kind) e ∙ ap (λ (x : ModelSlot T R). is_free x.kind) (get_or-append_seam st.slots unmade_slot [] unmade_slot))
free_room st false t_is =
    let below : least_unused st.slots ≤ length st.slots = prefix_len-le-length _ st.slots in
    let within : least_unused st.slots < length st.slots = grind arith in
    (within, passes_at_first (λ slot. is_free slot.kind) st.slots unmade_slot within)

-- and once it is taken
abbrev pub taken_slot : {T R : Type 0} → ModelState T R → Kind → ModelSlot T R
taken_slot st kind = record { kind = kind; guards = 0; batch = st.rest; order = [] }

pub taken_is : {T R : Type 0} (st : ModelState T R) (kind : Kind) (t : Bool) → (least_unused st.slots == length st.slots) ≡ t
    → record (set_slot (with_room t st) (least_unused st.slots) (taken_slot st kind)) { rest = [] } ≡ with_number_in_use st (least_unused st.slots) kind
taken_is {T} {R} st kind true t_is =
    let e : least_unused st.slots ≡ length st.slots = eq_true _ _ t_is in
    ap (λ (l : List (ModelSlot T R)). record st { slots = l; rest = [] })
    (ap (λ (k : ℕ). set (st.slots ++ unmade_slot ∷ []) k (taken_slot st kind)) e ∙ set-append_seam st.slots unmade_slot [] (taken_slot st kind) ∙ sym (if_yes _ _ _ t_is))
taken_is {T} {R} st kind false t_is = ap (λ (l : List (ModelSlot T R)). record st { slots = l; rest = [] }) (sym (if_no _ _ _ t_is))

pub slot_taken : {T R : Type 0} (st : ModelState T R) (kind : Kind) → model_slot (with_number_in_use st (least_unused st.slots) kind) (least_unused st.slots) ≡ record { kind = kind; guards = 0; batch = st.rest; order = [] }
slot_taken {T} {R} st kind =
    let t : Bool = least_unused st.slots == length st.slots in
    ap (λ (x : ModelState T R). model_slot x (least_unused st.slots)) (sym (taken_is st kind t refl)) ∙ get_or-set_same (with_room t st).slots (least_unused st.slots) (taken_slot st kind) unmade_slot (free_room st t refl).0

-- nothing is left then
pub taken_none : {T R : Type 0} (st : ModelState T R) (kind : Kind) → (attempt_if_full (with_number_in_use st (least_unused st.slots) kind) (least_unused st.slots)).0.rest ≡ []
taken_none {T} {R} st kind = full_beside (λ (k : ModelState T R). k.rest) ignores_rest (with_number_in_use st (least_unused st.slots) kind) (least_unused st.slots)

-- a slot without a guard gets none
pub none_more : {T R : Type 0} (st : ModelState T R) (s : ℕ) → (model_slot st s).guards ≡ 0 → set_guards st s 0 ≡ st
none_more {T} {R} st s none =
    ap (λ (k : ℕ). set_slot st s (record (model_slot st s) { guards = k })) (sym none) ∙ ap (λ (l : List (ModelSlot T R)). record st { slots = l }) (set-get_or st.slots s unmade_slot)
