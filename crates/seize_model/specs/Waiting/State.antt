-- The state of a collector whose calls are made one after another. T is what a value holds, and R its reclaimer; a retired
-- value has both.
use Rattle.std.specs.Prelude.{ℕ, Bool, not, ◌==◌, List, [], Option, None, slice_index_or, slice_set, replicate}
use Rattle.std.specs.List.{list_any}
use Rattle.seize_model.specs.declared.kind.Kind.{Kind}
use Rattle.seize_model.specs.declared.kind.Kind.TheVariants.{Free}

pub record ModelSlot (T R : Type 0) : Type 0 where
  -- whether its number is in use, and by whom
  pub kind : Kind
  -- how many guards it has
  pub guards : ℕ
  -- the values that wait for an attempt, in order of retirement
  pub batch : List (T × R)
  -- the retired batches that wait for this slot, by number, in the order in which the slot parts from them
  pub order : List ℕ

pub record ModelState (T R : Type 0) : Type 0 where
  -- how many values an attempt needs
  pub size : ℕ
  -- each slot ever made, by number
  pub slots : List (ModelSlot T R)
  -- each retired batch, by number: its values, in order of retirement. One that is gone has none left
  pub retired : List (List (T × R))
  -- what each link holds
  pub links : List (Option T)
  -- what the slots that ended left in their batches, in order
  pub rest : List (T × R)

-- a collector just made: this size, this many empty links, and no slot
abbrev pub new : {T R : Type 0} → ℕ → ℕ → ModelState T R
new size links = record { size = size; slots = []; retired = []; links = replicate links None; rest = [] }

-- stands for a slot that was never made
abbrev pub unmade_slot : {T R : Type 0} → ModelSlot T R
unmade_slot = record { kind = Free; guards = 0; batch = []; order = [] }

abbrev pub model_slot : {T R : Type 0} → ModelState T R → ℕ → ModelSlot T R
model_slot st s = slice_index_or st.slots s unmade_slot

-- the values of retired batch b
abbrev pub retired_at : {T R : Type 0} → ModelState T R → ℕ → List (T × R)
retired_at st b = slice_index_or st.retired b []

-- with this slot under number s
abbrev pub set_slot : {T R : Type 0} → ModelState T R → ℕ → ModelSlot T R → ModelState T R
set_slot st s slot = record st { slots = slice_set st.slots s slot }

-- a slot is active where it has a guard
abbrev pub has_guard : {T R : Type 0} → ModelSlot T R → Bool
has_guard slot = not (slot.guards == 0)

-- retired batch b waits for the slot. The waiting set of b is the set of these slots
abbrev pub waits_for : {T R : Type 0} → ℕ → ModelSlot T R → Bool
waits_for b slot = list_any (λ x. x == b) slot.order

-- the waiting set of b is not empty
abbrev pub is_kept : {T R : Type 0} → ModelState T R → ℕ → Bool
is_kept st b = list_any (waits_for b) st.slots
