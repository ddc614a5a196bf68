-- The state of the event machine. Slots, batches and links go by their numbers. A read past the last of them gives a
-- free slot with no call, a batch with no values, a link with nothing, an inactive head.
use Rattle.std.specs.Prelude.{ℕ, ℤ, pos, Bool, true, false, not, ◌&&◌, ◌==◌, List, [], ◌∷◌, replicate, Option, None, slice_index_or, is_some, option_to_list}
use Rattle.std.specs.List.{list_any, flat_map}

-- a slot's head: inactive, or active with the retired batches that wait for the slot, the newest insertion first
pub data Head : Type 0 where
  Inactive : Head
  Active : (waiting : List ℕ) → Head

-- where a call under way stands
pub data Place : Type 0 where
  -- about to append the value that the call retires
  Append : (value : ℕ) → Place
  -- reading the heads: the next number to read, how many slots there were at the last retirement or at the call's
  -- beginning (the note), and the slots marked so far
  Mark : (next note : ℕ) → (marked : List ℕ) → Place
  -- about to read the head of the marked slot in turn: the detached batch, the insertions won so far, the slot, and the
  -- slots marked after it
  Look : (batch won slot : ℕ) → (later : List ℕ) → Place
  -- about to insert the batch there, where the head was last read as this list
  Try : (batch won slot : ℕ) → (later saw : List ℕ) → Place
  -- about to add the insertions won to the batch's count
  Add : (batch won : ℕ) → Place
  -- about to swap the head out; a refresh stays active
  Out : (stays : Bool) → Place
  -- the given-up values go to their reclaimers first, then the walk goes on, then the queue, then the call returns
  Rest : (given walk : List ℕ) → Place

-- a call under way, with the further values that it has still to retire
pub record Progress : Type 0 where
  pub place : Place
  pub queue : List ℕ

pub record Slot : Type 0 where
  pub used : Bool
  pub batch : List ℕ
  pub call : Option Progress

-- a retired batch. Its values, in order of retirement, leave it when it is given up
pub record Batch : Type 0 where
  pub values : List ℕ
  pub count : ℤ

pub record State : Type 0 where
  pub slots : List Slot
  pub heads : List Head
  pub batches : List Batch
  pub links : List (Option ℕ)
  -- the rest: the values of batches of slots that ended, in the order in which these ended
  pub rest : List ℕ
  -- values taken out of a link that no call has begun to retire
  pub loose : List ℕ
  -- values reclaimed, in order
  pub gone : List ℕ
  -- every value that was ever named
  pub named : List ℕ

abbrev pub no_slot : Slot
no_slot = record { used = false; batch = []; call = None }

abbrev pub no_batch : Batch
no_batch = record { values = []; count = pos 0 }

abbrev pub slot_at : State → ℕ → Slot
slot_at st s = slice_index_or st.slots s no_slot

abbrev pub head_at : State → ℕ → Head
head_at st s = slice_index_or st.heads s Inactive

abbrev pub batch_at : State → ℕ → Batch
batch_at st b = slice_index_or st.batches b no_batch

abbrev pub link_at : State → ℕ → Option ℕ
link_at st l = slice_index_or st.links l None

abbrev pub is_active : Head → Bool
is_active Inactive = false
is_active (Active waiting) = true

abbrev pub waiting_at : Head → List ℕ
waiting_at Inactive = []
waiting_at (Active waiting) = waiting

-- a slot in use with no call under way
abbrev pub is_idle : Slot → Bool
is_idle slot = slot.used && not (is_some slot.call)

-- whether a value is in a list, and whether a list has no value twice
abbrev pub has : ℕ → List ℕ → Bool
has v values = list_any (λ x. x == v) values

abbrev pub are_distinct : List ℕ → Bool
are_distinct [] = true
are_distinct (v ∷ vs) = not (has v vs) && are_distinct vs

-- the values in the links
abbrev pub linked_values : List (Option ℕ) → List ℕ
linked_values links = flat_map option_to_list links

-- an opening state: slots made before, all free, inactive and with empty batches; links that are empty or hold distinct
-- values; nothing retired
abbrev pub opening : ℕ → List (Option ℕ) → State
opening slots links =
    record {
      slots = replicate slots no_slot;
      heads = replicate slots Inactive;
      batches = [];
      links = links;
      rest = [];
      loose = [];
      gone = [];
      named = linked_values links;
    }
