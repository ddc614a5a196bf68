-- What an event may change: everything else is as it was before. Whoever knows a part of the state knows it still after the
-- events that don't touch it.
use Rattle.std.specs.Prelude.{ℕ, ◌==◌, ◌||◌, Bool, true, false, if◌then◌else◌, List, map, length, Option, Some, None}
use Rattle.seize_machine.specs.Machine.State.{State, slot_at, link_at, has}
use Rattle.seize_machine.specs.Machine.Event.{Event, Take, Give, Enter, Begin, Detach, Insert, AddCount, SwapOut, SubCount, Hand, ReadLink, ExchangeLink, event_slot}
use Rattle.seize_machine.specs.Machine.Next.{of_call, walking_at, new_link}
use Rattle.seize_machine.specs.Machine.Laws.{added_batch}
use Rattle.seize_machine.specs.declared.machine.event.Job.TheVariants.{Retire, Gather}
use Rattle.seize_machine.specs.declared.machine.event.Try.TheVariants.{Won}

-- the record of slot k, and whether the slot is active
abbrev pub changes_slot : ℕ → Event → Bool
changes_slot k (ReadLink s l) = false
changes_slot k (ExchangeLink s l exchange) = false
changes_slot k event = event_slot event == k

-- which numbers are in use
abbrev pub used : State → List Bool
used st = map (λ slot. slot.used) st.slots

abbrev pub changes_used : Event → Bool
changes_used (Take s) = true
changes_used (Give s) = true
changes_used _ = false

-- which numbers are in use, and the rest
abbrev pub changes_numbers : Event → Bool
changes_numbers (Take s) = true
changes_numbers (Give s) = true
changes_numbers (Begin s Gather) = true
changes_numbers _ = false

-- the head of slot m
abbrev pub changes_head_of : ℕ → Event → Bool
changes_head_of m (Enter s) = s == m
changes_head_of m (SwapOut s) = s == m
changes_head_of m (Insert s n Won) = n == m
changes_head_of m _ = false

-- link l
abbrev pub changes_link : ℕ → Event → Bool
changes_link l (ExchangeLink s k exchange) = k == l
changes_link l _ = false

-- retired batch b, once it is there
abbrev pub is_number : ℕ → Option ℕ → Bool
is_number n None = false
is_number n (Some m) = m == n

abbrev pub changes_batch : State → ℕ → Event → Bool
changes_batch st b (AddCount s) = is_number b (added_batch (slot_at st s).call)
changes_batch st b (SubCount s) = is_number b (of_call walking_at (slot_at st s).call)
changes_batch st b _ = false

-- whether v was ever named, and whether it is between a link and its retirement
abbrev pub changes_value : State → ℕ → Event → Bool
changes_value st v (Begin s (Retire w)) = w == v
changes_value st v (Hand s puts) = has v puts
changes_value st v (ExchangeLink s l exchange) = is_number v (new_link exchange) || is_number v (link_at st l)
changes_value st v _ = false

-- how many slots and how many retired batches an event adds
abbrev pub slots_added : State → Event → ℕ
slots_added st (Take s) = if s == length st.slots then 1 else 0
slots_added st _ = 0

abbrev pub batches_added : Event → ℕ
batches_added (Detach s) = 1
batches_added _ = 0

-- a call begins to retire v
abbrev pub begins_retiring : ℕ → Event → Bool
begins_retiring v (Begin s (Retire w)) = w == v
begins_retiring v _ = false
