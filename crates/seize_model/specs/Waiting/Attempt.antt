-- What an attempt, a retirement and a parting do. Each gives an outcome: the new state, and the values gone, in order.
use Rattle.std.specs.Prelude.{ℕ, Bool, ◌||◌, ◌==◌, if◌then◌else◌, nat_lt, nat_le, max, List, [], ◌∷◌, ◌++◌, length, map, slice_set}
use Rattle.std.specs.List.{count_by}
use Rattle.seize_model.specs.Waiting.State.{ModelSlot, ModelState, model_slot, retired_at, set_slot, has_guard, is_kept}

abbrev pub StateAndGone : (T R : Type 0) → Type 0
StateAndGone T R = ModelState T R × List (T × R)

-- the outcome where these values were gone before it
abbrev pub with_gone : {T R : Type 0} → List (T × R) → StateAndGone T R → StateAndGone T R
with_gone gone o = (o.0, gone ++ o.1)

-- **Gone.** Retired batch b is gone if its waiting set is empty.
abbrev pub release : {T R : Type 0} → ModelState T R → ℕ → StateAndGone T R
release st b =
    if is_kept st b
    then (st, [])
    else (record st { retired = slice_set st.retired b [] }, retired_at st b)

-- how many slots are active
abbrev pub active_slots : {T R : Type 0} → ModelState T R → ℕ
active_slots st = count_by has_guard st.slots

-- an attempt by s does nothing: its batch is empty, or more slots are active than it has values
abbrev pub gives_up : {T R : Type 0} → ModelState T R → ℕ → Bool
gives_up st s =
    let values = length (model_slot st s).batch in
    (values == 0) || nat_lt values (active_slots st)

-- batch b comes first in the order of an active slot
abbrev pub wait_if_active : {T R : Type 0} → ℕ → ModelSlot T R → ModelSlot T R
wait_if_active b slot = if has_guard slot then record slot { order = b ∷ slot.order } else slot

-- the batch of s becomes a retired batch, which waits for all active slots
abbrev pub with_batch_retired : {T R : Type 0} → ModelState T R → ℕ → ModelState T R
with_batch_retired st s =
    let emptied = set_slot st s (record (model_slot st s) { batch = [] }) in
    record st {
      slots = map (wait_if_active (length st.retired)) emptied.slots;
      retired = st.retired ++ (model_slot st s).batch ∷ [];
    }

-- **Attempt by s.** The batch of s is retired, unless the attempt does nothing, and is gone if no slot is active.
abbrev pub attempt : {T R : Type 0} → ModelState T R → ℕ → StateAndGone T R
attempt st s =
    if gives_up st s
    then (st, [])
    else release (with_batch_retired st s) (length st.retired)

-- value v is the last one in the batch of s
abbrev pub with_batch_value : {T R : Type 0} → ModelState T R → ℕ → T × R → ModelState T R
with_batch_value st s v = set_slot st s (record (model_slot st s) { batch = (model_slot st s).batch ++ v ∷ [] })

-- so many values are enough for an attempt of themselves. A size of 0 serves as 1
abbrev pub is_full : {X : Type 0} → ℕ → List X → Bool
is_full size values = nat_le (max 1 size) (length values)

-- an attempt by s, if its batch is full
abbrev pub attempt_if_full : {T R : Type 0} → ModelState T R → ℕ → StateAndGone T R
attempt_if_full st s = if is_full st.size (model_slot st s).batch then attempt st s else (st, [])

-- **Retire v by s.** The value joins the batch of s, and an attempt follows if the batch is full then.
abbrev pub put : {T R : Type 0} → ModelState T R → ℕ → T × R → StateAndGone T R
put st s v = attempt_if_full (with_batch_value st s v) s

-- those of these batches whose waiting set is empty are gone, first to last
abbrev pub release_all : {T R : Type 0} → ModelState T R → List ℕ → StateAndGone T R
release_all st [] = (st, [])
release_all st (b ∷ bs) =
    let o = release st b in
    with_gone o.1 (release_all o.0 bs)

-- **Part.** No batch waits for s any more, and those that waited for s alone are gone, in the order of s.
abbrev pub part : {T R : Type 0} → ModelState T R → ℕ → StateAndGone T R
part st s = release_all (set_slot st s (record (model_slot st s) { order = [] })) (model_slot st s).order
