-- How words show what the machine has: they hold numbers of blocks.
--     block_number v         the number of the block that a value lies in: its name says it
--     Plan, plans st log     each batch as it was detached, in order: the slots where it is to be inserted, and its values
--     block_for log b m      the block with which batch b is inserted at slot m: that of the value with the slot's place
--     front_of st log b      the first value of batch b, as it was detached: the count of the batch stands with its block
--     list_word, head_word, link_word     the words of a list of batches that wait for a slot, of a head and of a link
--     count_word, IsNear     the word of a count, and that the count is between minus and plus the number of numbers
use Rattle.std.specs.Prelude.{ℕ, suc, ◌+◌, ◌-◌, ◌%◌, ◌^◌, ◌==◌, ℤ, pos, negsuc, neg_ℤ, ◌≤ℤ◌, if◌then◌else◌, List, [], ◌∷◌, ◌++◌, Option, Some, None, slice_index_or, unwrap_or}
use Rattle.seize_table.specs.Place.{all_numbers}
use Rattle.seize_machine.specs.Machine.State.{State, Slot, Place, Mark, Head, Inactive, Active, slot_at, head_at}
use Rattle.seize_machine.specs.Machine.Event.{Event, Detach}
use Rattle.seize_machine.specs.Machine.Next.{next, of_call}
use Rattle.seize_machine.specs.Machine.History.{done_by, first_or_none}
use Rattle.seize_book.specs.After.{after}
use Rattle.seize_book.specs.Entry.{Entry, Made, Used, timed_deed}

-- Two values that were in one block one after the other have names that differ by a multiple of this.
abbrev pub block_number : ℕ → ℕ
block_number v = v % 2 ^ 64

pub record Plan : Type 0 where
  pub slots : List ℕ
  pub values : List ℕ

abbrev pub no_plan : Plan
no_plan = record { slots = []; values = [] }

abbrev pub marked_at : Place → List ℕ → Option (List ℕ)
marked_at (Mark n note marks) queue = Some marks
marked_at _ queue = None

abbrev pub plan_of : Slot → Plan
plan_of slot = record { slots = unwrap_or (of_call marked_at slot.call) []; values = slot.batch }

abbrev pub planned_by : State → Event → List Plan
planned_by st (Detach s) = plan_of (slot_at st s) ∷ []
planned_by st _ = []

abbrev pub plans : State → List Entry → List Plan
plans st [] = []
plans st (Made d ∷ log) = planned_by st d.event ++ plans (done_by next st (timed_deed d)).0 log
plans st (Used u ∷ log) = plans st log

-- the value with which a plan is carried out at slot m
abbrev pub plan_value : ℕ → List ℕ → List ℕ → ℕ
plan_value m (k ∷ slots) (v ∷ values) = if k == m then v else plan_value m slots values
plan_value m _ _ = 0

abbrev pub block_in : Plan → ℕ → ℕ
block_in plan m = block_number (plan_value m plan.slots plan.values)

abbrev pub block_for : State → List Entry → ℕ → ℕ → ℕ
block_for st log b m = block_in (slice_index_or (plans st log) b no_plan) m

abbrev pub front_of : State → List Entry → ℕ → Option ℕ
front_of st log b = first_or_none (slice_index_or (plans st log) b no_plan).values

-- A head's word is 0 where the slot is inactive, 1 where it is active and its list is empty, and else 2 and the number of the block with
-- which the first batch of the list was inserted.

abbrev pub list_word : (ℕ → ℕ) → List ℕ → ℕ
list_word block [] = 1
list_word block (b ∷ waiting) = block b + 2

abbrev pub word_of : (ℕ → ℕ) → Head → ℕ
word_of block Inactive = 0
word_of block (Active waiting) = list_word block waiting

abbrev pub head_word : State → List Entry → ℕ → ℕ
head_word st log m = word_of (λ b. block_for st log b m) (head_at (after st log) m)

-- A link's word is 0 where it holds nothing, and else 1 and the number of the value's block.
abbrev pub link_word : Option ℕ → ℕ
link_word None = 0
link_word (Some v) = block_number v + 1

-- A count's word is the count modulo 2^64.
abbrev pub count_word : ℤ → ℕ
count_word (pos n) = n % 2 ^ 64
count_word (negsuc n) = 2 ^ 64 - suc (n % 2 ^ 64)

-- It is 0 only where the count is, since each count lies here.
abbrev pub IsNear : ℤ → Type 0
IsNear count = (neg_ℤ (pos all_numbers) ≤ℤ count) × (count ≤ℤ pos all_numbers)
