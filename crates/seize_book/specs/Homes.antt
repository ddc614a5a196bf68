-- Homes: the blocks in which values lie, each by a number of its own, for good. Words hold other numbers for blocks (see `block_number`),
-- of which a store may give one to a second block.
--     home_of v                  the home of a value: its name says it, as one of endlessly many
--     is_home k o                there is a value, and its home is k
--     HasOne st                  of the values of one home that were ever named, at most one was not reclaimed
--     IsVacant st k              all values of the home that were ever named were reclaimed
--     changes_home st k event    the event may change whether a value of the home was named, or whether it is loose
--     count_in st k              the sum of the counts of the batches whose first value has its home there. A batch that was given up has
--                                no values; so there is one at most, of which this is the count, where the list is sound
--     changes_count st k event   the event counts that batch up or down
--     IsSound st                 at most one value of a home is not reclaimed, and there are no more slots than numbers
use Rattle.std.specs.Prelude.{◌≡◌, ℕ, ◌/◌, ◌^◌, ◌≤◌, ◌==◌, ℤ, pos, ◌+ℤ◌, Bool, true, false, ◌||◌, if◌then◌else◌, List, [], ◌∷◌, length, Option, Some, None}
use Rattle.std.specs.List.{list_any}
use Rattle.seize_table.specs.Pairs.{left_of}
use Rattle.seize_table.specs.Place.{all_numbers}
use Rattle.seize_machine.specs.Machine.State.{State, Batch, slot_at, link_at, batch_at, has}
use Rattle.seize_machine.specs.Machine.Event.{Event, Begin, AddCount, SubCount, Hand, ExchangeLink}
use Rattle.seize_machine.specs.Machine.Next.{of_call, walking_at, new_link}
use Rattle.seize_machine.specs.Machine.History.{first_or_none}
use Rattle.seize_machine.specs.Machine.Laws.{added_batch}
use Rattle.seize_machine.specs.declared.machine.event.Job.TheVariants.{Retire}

-- each home has values with each remainder by 2^64, past any bound (`another_with` in `proofs/Homes`)
abbrev pub home_of : ℕ → ℕ
home_of v = left_of (v / 2 ^ 64)

abbrev pub is_home : ℕ → Option ℕ → Bool
is_home k None = false
is_home k (Some v) = home_of v == k

abbrev pub HasOne : State → Type 0
HasOne st =
    (v w : ℕ) → home_of v ≡ home_of w → has v st.named ≡ true → has w st.named ≡ true → has v st.gone ≡ false → has w st.gone ≡ false
    → v ≡ w

abbrev pub IsVacant : State → ℕ → Type 0
IsVacant st k = (v : ℕ) → home_of v ≡ k → has v st.named ≡ true → has v st.gone ≡ true

abbrev pub changes_home : State → ℕ → Event → Bool
changes_home st k (Begin s (Retire v)) = home_of v == k
changes_home st k (Hand s puts) = list_any (λ v. home_of v == k) puts
changes_home st k (ExchangeLink s l exchange) = is_home k (new_link exchange) || is_home k (link_at st l)
changes_home st k _ = false

abbrev pub is_in : ℕ → Batch → Bool
is_in k batch = is_home k (first_or_none batch.values)

abbrev pub counts_in : ℕ → List Batch → ℤ
counts_in k [] = pos 0
counts_in k (batch ∷ batches) = (if is_in k batch then batch.count else pos 0) +ℤ counts_in k batches

abbrev pub count_in : State → ℕ → ℤ
count_in st k = counts_in k st.batches

abbrev pub is_batch_in : State → ℕ → Option ℕ → Bool
is_batch_in st k None = false
is_batch_in st k (Some b) = is_in k (batch_at st b)

abbrev pub changes_count : State → ℕ → Event → Bool
changes_count st k (AddCount s) = is_batch_in st k (added_batch (slot_at st s).call)
changes_count st k (SubCount s) = is_batch_in st k (of_call walking_at (slot_at st s).call)
changes_count st k _ = false

pub record IsSound (st : State) : Type 0 where
  pub one : HasOne st
  pub few : length st.slots ≤ all_numbers
