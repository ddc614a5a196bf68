-- How a state of the machine shows a state of waiting sets, where no call is under way.
use Rattle.std.specs.Prelude.{◌≡◌, ℕ, pos, ◌≤◌, true, false, not, if◌then◌else◌, List, [], length, map, Option, Some, None}
use Rattle.std.specs.List.{count_by}
use Rattle.seize_table.specs.Place.{all_numbers}
use Rattle.seize_machine.specs.Machine.State as machine
use Rattle.seize_machine.specs.Machine.State.{Inactive, Active}
use Rattle.seize_model.specs.Waiting.State as waiting
use Rattle.seize_model.specs.Waiting.Calls.{is_free, is_owned}

-- The machine knows values by numbers. These numbers stand for what these values hold, in order
abbrev pub ShowsValues : {T R : Type 0} → (ℕ → T) → List ℕ → List (T × R) → Type 0
ShowsValues of numbers values = map of numbers ≡ map (λ v. v.0) values

-- the same of values with their reclaimers
abbrev pub StandFor : {T R : Type 0} → (ℕ → T) → (ℕ → R) → List ℕ → List (T × R) → Type 0
StandFor {T} {R} of by numbers values = map {B = T × R} (λ n. (of n, by n)) numbers ≡ values

-- what a link holds by the number in it
abbrev pub held_value : {T : Type 0} → (ℕ → T) → Option ℕ → Option T
held_value of None = None
held_value of (Some n) = Some (of n)

-- a slot's head lists the batches that wait for the slot
abbrev pub head_of : {T R : Type 0} → waiting.ModelSlot T R → machine.Head
head_of slot = if waiting.has_guard slot then Active slot.order else Inactive

-- The two sides of one slot. A slot whose number is free has no guard, an owned one has one at most, and no batch waits for a slot
-- without a guard, nor twice for one slot.
pub record ShowsSlot (T R : Type 0) (of : ℕ → T) (slot : waiting.ModelSlot T R) (shown : machine.Slot) : Type 0 where
  pub used : shown.used ≡ not (is_free slot.kind)
  pub idle : shown.call ≡ None
  pub batch : ShowsValues of shown.batch slot.batch
  pub free : is_free slot.kind ≡ true → slot.guards ≡ 0
  pub owned : is_owned slot.kind ≡ true → slot.guards ≤ 1
  pub inactive : waiting.has_guard slot ≡ false → slot.order ≡ []
  pub once : machine.are_distinct slot.order ≡ true

-- The two sides of a state. The count of a retired batch is the size of its waiting set.
pub record ShowsState (T R : Type 0) (of : ℕ → T) (st : waiting.ModelState T R) (shown : machine.State) : Type 0 where
  pub numbers : length st.slots ≤ all_numbers
  pub slots : length shown.slots ≡ length st.slots
  pub slot : (s : ℕ) → ShowsSlot T R of (waiting.model_slot st s) (machine.slot_at shown s)
  pub heads : shown.heads ≡ map head_of st.slots
  pub retired : length shown.batches ≡ length st.retired
  pub values : (b : ℕ) → ShowsValues of (machine.batch_at shown b).values (waiting.retired_at st b)
  pub counts : (b : ℕ) → (machine.batch_at shown b).count ≡ pos (count_by (waiting.waits_for b) st.slots)
  pub links : map (held_value of) shown.links ≡ st.links
  pub rest : ShowsValues of shown.rest st.rest

-- Besides, where each number has a reclaimer too: the values that wait or are retired are to be reclaimed by those of their numbers.
pub record ShowsReclaimers (T R : Type 0) (of : ℕ → T) (by : ℕ → R) (st : waiting.ModelState T R) (shown : machine.State) : Type 0 where
  pub batches : (s : ℕ) → StandFor of by (machine.slot_at shown s).batch (waiting.model_slot st s).batch
  pub retired : (b : ℕ) → StandFor of by (machine.batch_at shown b).values (waiting.retired_at st b)
  pub rest : StandFor of by shown.rest st.rest
