-- What it means that a slot keeps a value back: while it holds, the value is not given up. It holds from the middle of a list on,
-- and every event keeps it but the slot's own swap.
use Rattle.std.specs.Prelude.{◌≡◌, ℕ, ◌+◌, ◌<◌, ◌≤◌, Bool, true, ◌==◌, if◌then◌else◌, List, [], ◌∷◌, get_or, Option, Some, None}
use Rattle.std.specs.List.{sum_by}
use Rattle.seize_machine.specs.Machine.State.{no_slot, no_batch, State, Slot, Batch, Progress, Head, Inactive, Place, Mark, Look, Try, Rest, is_active, waiting_at}

abbrev pub one : Bool → ℕ
one b = if b then 1 else 0

-- how often v stands in a list
abbrev pub occ : ℕ → List ℕ → ℕ
occ v [] = 0
occ v (x ∷ xs) = one (x == v) + occ v xs

-- a number that each call has, summed up
abbrev pub of_calls : (Option Progress → ℕ) → List Slot → ℕ
of_calls f slots = sum_by (λ slot. f slot.call) slots

-- how often v is among the given-up values of a call
abbrev pub place_given : ℕ → Place → ℕ
place_given v (Rest given walk) = occ v given
place_given v _ = 0

abbrev pub given : ℕ → Option Progress → ℕ
given v None = 0
given v (Some call) = place_given v call.place

-- how often s is among the slots where the call has still to insert b
abbrev pub place_left : ℕ → ℕ → Place → ℕ
place_left b s (Look c won m later) = if c == b then one (m == s) + occ s later else 0
place_left b s (Try c won m later saw) = if c == b then one (m == s) + occ s later else 0
place_left b s _ = 0

abbrev pub inserts_left : ℕ → ℕ → Option Progress → ℕ
inserts_left b s None = 0
inserts_left b s (Some call) = place_left b s call.place

-- a call that reads the heads has still to read that of s, or has marked s
abbrev pub WillMark : ℕ → Place → Type 0
WillMark s (Mark next note marks) = (s < note) × (s < next → 1 ≤ occ s marks)
WillMark s _ = Unit {0}

abbrev pub Marks : ℕ → Option Progress → Type 0
Marks s None = Unit {0}
Marks s (Some call) = WillMark s call.place

-- **s keeps v back**: s is active; v is neither given up nor reclaimed; a call that reads the heads for a batch with v will mark s
-- or has; a retired batch with v is in the list of s, or its call has still to insert it there
pub record KeepsBack (s v : ℕ) (slots : List Slot) (heads : List Head) (batches : List Batch) (gone : List ℕ) : Type 0 where
  pub active : is_active (get_or heads s Inactive) ≡ true
  pub not_given : of_calls (given v) slots ≡ 0
  pub not_gone : occ v gone ≡ 0
  pub marks : (t : ℕ) → 1 ≤ occ v (get_or slots t no_slot).batch → Marks s (get_or slots t no_slot).call
  pub waits : (b : ℕ) → 1 ≤ occ v (get_or batches b no_batch).values
      → 1 ≤ of_calls (inserts_left b s) slots + occ b (waiting_at (get_or heads s Inactive))

abbrev pub KeptIn : ℕ → ℕ → State → Type 0
KeptIn s v st = KeepsBack s v st.slots st.heads st.batches st.gone
