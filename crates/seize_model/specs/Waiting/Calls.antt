-- The calls made one after another: each gives its answer and its outcome. A refused call changes nothing.
use Rattle.std.specs.Prelude.{ℕ, zero, suc, not, ◌+◌, ◌-◌, ◌^◌, Bool, true, false, ◌||◌, ◌==◌, if◌then◌else◌, List, [], ◌∷◌, ◌++◌, length, map, Option, Some, None, Result, Ok, Err, slice_set, slice_index_or}
use Rattle.std.specs.List.{position_or_len, flat_map, list_any, range_with_len, sum_by}
use Rattle.seize_model.specs.declared.kind.Kind.{Kind}
use Rattle.seize_model.specs.declared.kind.Kind.TheVariants.{Free, Registered, Owned}
use Rattle.seize_table.specs.Place.{all_numbers}
use Rattle.seize_table.specs.declared.refusal.Refusal.{Refusal}
use Rattle.seize_table.specs.declared.refusal.Refusal.TheVariants.{NoNumbers, TooManyGuards, NotInUse, NotActive, WrongKind}
use Rattle.seize_model.specs.Waiting.State.{ModelSlot, ModelState, unmade_slot, model_slot, set_slot, has_guard}
use Rattle.seize_model.specs.Waiting.Attempt.{StateAndGone, with_gone, attempt, attempt_if_full, put, part}
use Rattle.seize_model.specs.Waiting.Further.{further, with_further, gone_from}

-- what a call answers, and its outcome
abbrev pub Response : (A T R : Type 0) → Type 0
Response A T R = Result A Refusal × StateAndGone T R

-- the answer, unless the call is refused
abbrev pub unless : {A T R : Type 0} → Option Refusal → ModelState T R → Response A T R → Response A T R
unless None st a = a
unless (Some r) st a = (Err r, (st, []))

-- the first of two refusals, where there is one
abbrev pub first_refusal : Option Refusal → Option Refusal → Option Refusal
first_refusal None b = b
first_refusal (Some r) b = Some r

abbrev pub is_free : Kind → Bool
is_free Free = true
is_free Registered = false
is_free Owned = false

abbrev pub is_owned : Kind → Bool
is_owned Free = false
is_owned Registered = false
is_owned Owned = true

-- a call that needs a number in use
abbrev pub unused : {T R : Type 0} → ModelState T R → ℕ → Option Refusal
unused st s = if is_free (model_slot st s).kind then Some NotInUse else None

-- a call that needs a registered slot
abbrev pub not_registered : {T R : Type 0} → ModelState T R → ℕ → Option Refusal
not_registered st s = first_refusal (unused st s) (if is_owned (model_slot st s).kind then Some WrongKind else None)

-- a call that needs a guard of the slot
abbrev pub no_guard : {T R : Type 0} → ModelState T R → ℕ → Option Refusal
no_guard st s = first_refusal (unused st s) (if has_guard (model_slot st s) then None else Some NotActive)

-- a call that needs room for one guard more
abbrev pub too_many : {T R : Type 0} → ModelState T R → ℕ → Option Refusal
too_many st s = if (model_slot st s).guards == 2 ^ 64 - 1 then Some TooManyGuards else None

-- Taking a number.

-- the least number not in use
abbrev pub least_unused : {T R : Type 0} → List (ModelSlot T R) → ℕ
least_unused slots = position_or_len (λ slot. is_free slot.kind) slots

abbrev pub set_guards : {T R : Type 0} → ModelState T R → ℕ → ℕ → ModelState T R
set_guards st s n = set_slot st s (record (model_slot st s) { guards = n })

-- number n is in use, without a guard, and what the slots that ended left is its batch
abbrev pub with_number_in_use : {T R : Type 0} → ModelState T R → ℕ → Kind → ModelState T R
with_number_in_use {T} {R} st n kind =
    let slot : ModelSlot T R = record { kind = kind; guards = 0; batch = st.rest; order = [] } in
    record st { slots = (if n == length st.slots then st.slots ++ slot ∷ [] else slice_set st.slots n slot); rest = [] }

-- n is taken, and what is its slot's batch then is attempted, if that is full
abbrev pub taking : {T R : Type 0} → (R → T → List T) → (T → ℕ) → ModelState T R → ℕ → Kind → StateAndGone T R
taking puts weight st n kind = with_further puts weight n (attempt_if_full (with_number_in_use st n kind) n)

-- **Register** is this with `Registered` and no guard, and **enter owned** with `Owned` and one guard. There are 2^64 - 32 numbers.
abbrev pub take_number : {T R : Type 0} → (R → T → List T) → (T → ℕ) → ModelState T R → Kind → ℕ → Response ℕ T R
take_number puts weight st kind guards =
    let n = least_unused st.slots in
    let o = taking puts weight st n kind in
    if n == all_numbers
    then (Err NoNumbers, (st, []))
    else (Ok n, (set_guards o.0 n guards, o.1))

-- Guards.

-- **Enter.** The slot has one guard more.
abbrev pub enter : {T R : Type 0} → ModelState T R → ℕ → Response (Unit {0}) T R
enter st s =
    unless (first_refusal (not_registered st s) (too_many st s)) st
    (Ok tt, (set_guards st s ((model_slot st s).guards + 1), []))

-- Giving a number back.

-- another slot is in use
abbrev pub others_in_use : {T R : Type 0} → ModelState T R → ℕ → Bool
others_in_use st s = list_any (λ slot. not (is_free slot.kind)) (slice_set st.slots s unmade_slot)

-- what the slots that ended left, and then the batch of s
abbrev pub rest_and_batch : {T R : Type 0} → ModelState T R → ℕ → List (T × R)
rest_and_batch st s = st.rest ++ (model_slot st s).batch

-- all that was left is in the batch of s
abbrev pub with_rest_gathered : {T R : Type 0} → ModelState T R → ℕ → ModelState T R
with_rest_gathered st s = record (set_slot st s (record (model_slot st s) { batch = rest_and_batch st s })) { rest = [] }

-- s attempts all that was left
abbrev pub gathering : {T R : Type 0} → (R → T → List T) → (T → ℕ) → ModelState T R → ℕ → StateAndGone T R
gathering puts weight st s = with_further puts weight s (attempt (with_rest_gathered st s) s)

-- and so while no other slot is in use and something is left, for at most this many times
abbrev pub gathers : {T R : Type 0} → (R → T → List T) → (T → ℕ) → ℕ → ModelState T R → ℕ → StateAndGone T R
gathers puts weight zero st s = (st, [])
gathers puts weight (suc n) st s =
    if others_in_use st s || (length (rest_and_batch st s) == 0)
    then (st, [])
    else (let o = gathering puts weight st s in with_gone o.1 (gathers puts weight n o.0 s))

-- the number is not in use, and what the slot had in its batch is left
abbrev pub with_number_free : {T R : Type 0} → ModelState T R → ℕ → ModelState T R
with_number_free st s = record (set_slot st s unmade_slot) { rest = rest_and_batch st s }

-- **Give back.** The last slot in use attempts all that was left first.
abbrev pub give_back : {T R : Type 0} → (R → T → List T) → (T → ℕ) → ModelState T R → ℕ → StateAndGone T R
give_back puts weight st s =
    let o = gathers puts weight (sum_by (λ v. weight v.0) (rest_and_batch st s)) st s in
    (with_number_free o.0 s, o.1)

-- **End.** The number is given back, and the answer says whether it was: a forgotten guard keeps it.
abbrev pub end_slot : {T R : Type 0} → (R → T → List T) → (T → ℕ) → ModelState T R → ℕ → Response Bool T R
end_slot puts weight st s =
    unless (not_registered st s) st
    (if has_guard (model_slot st s) then (Ok false, (st, [])) else (Ok true, give_back puts weight st s))

-- the slot has one guard less, and parts if it was the last one
abbrev pub one_guard_less : {T R : Type 0} → ModelState T R → ℕ → StateAndGone T R
one_guard_less st s =
    if (model_slot st s).guards == 1
    then part (set_guards st s 0) s
    else (set_guards st s ((model_slot st s).guards - 1), [])

-- the number of an owned slot is given back at the end
abbrev pub given_back_if : {T R : Type 0} → (R → T → List T) → (T → ℕ) → Bool → ℕ → StateAndGone T R → StateAndGone T R
given_back_if puts weight owned s o = if owned then with_gone o.1 (give_back puts weight o.0 s) else o

-- **Leave.**
abbrev pub leave : {T R : Type 0} → (R → T → List T) → (T → ℕ) → ModelState T R → ℕ → Response (Unit {0}) T R
leave puts weight st s =
    unless (no_guard st s) st
    (Ok tt, given_back_if puts weight (is_owned (model_slot st s).kind) s (with_further puts weight s (one_guard_less st s)))

-- the slot parts if it is owned or has one guard, and stays active
abbrev pub part_if_alone : {T R : Type 0} → ModelState T R → ℕ → StateAndGone T R
part_if_alone st s =
    if is_owned (model_slot st s).kind || ((model_slot st s).guards == 1)
    then part st s
    else (st, [])

-- **Refresh.**
abbrev pub refresh : {T R : Type 0} → (R → T → List T) → (T → ℕ) → ModelState T R → ℕ → Response (Unit {0}) T R
refresh puts weight st s =
    unless (no_guard st s) st (Ok tt, with_further puts weight s (part_if_alone st s))

-- **Flush.** An attempt at any length.
abbrev pub flush : {T R : Type 0} → (R → T → List T) → (T → ℕ) → ModelState T R → ℕ → Response (Unit {0}) T R
flush puts weight st s =
    unless (no_guard st s) st (Ok tt, with_further puts weight s (attempt st s))

-- **Retire.**
abbrev pub retire : {T R : Type 0} → (R → T → List T) → (T → ℕ) → ModelState T R → ℕ → T → R → Response (Unit {0}) T R
retire puts weight st s value reclaim =
    unless (unused st s) st (Ok tt, with_further puts weight s (put st s (value, reclaim)))

-- Links.

abbrev pub model_link : {T R : Type 0} → ModelState T R → ℕ → Option T
model_link st link = slice_index_or st.links link None

-- **Protect.** What the link holds.
abbrev pub protect : {T R : Type 0} → ModelState T R → ℕ → ℕ → Response (Option T) T R
protect st s link = unless (no_guard st s) st (Ok (model_link st link), (st, []))

-- **Swap.** The link holds this, and the answer is what it held.
abbrev pub swap : {T R : Type 0} → ModelState T R → ℕ → ℕ → Option T → Response (Option T) T R
swap st s link new =
    unless (no_guard st s) st (Ok (model_link st link), (record st { links = slice_set st.links link new }, []))

-- Reclaim all.

-- each of these slots becomes inactive and parts
abbrev pub part_all : {T R : Type 0} → ModelState T R → List ℕ → StateAndGone T R
part_all st [] = (st, [])
part_all st (s ∷ ss) =
    let o = part st s in
    with_gone o.1 (part_all (set_guards o.0 s 0) ss)

-- **Reclaim all.** Every slot parts, in order of numbers; then each slot's batch is gone, in order of numbers, and then what was left;
-- then what all those values put, until nothing is queued. No number is in use then, and no retired batch is left. Links stay as they
-- are.
abbrev pub reclaim_all : {T R : Type 0} → (R → T → List T) → (T → ℕ) → ModelState T R → StateAndGone T R
reclaim_all puts weight st =
    let o = part_all st (range_with_len 0 (length st.slots)) in
    let gone = o.1 ++ flat_map (λ slot. slot.batch) o.0.slots ++ o.0.rest in
    (record o.0 { slots = map (λ slot. unmade_slot) o.0.slots; retired = []; rest = [] }, gone ++ gone_from puts weight (further puts gone))
