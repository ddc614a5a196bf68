-- The laws of the machine, each of an opening state and the moments of a legal list of events that began there. Each beginning
-- of a legal list is a legal list, so what a law says of the end of a list, it says before every event.
use Rattle.std.specs.Prelude.{◌≡◌, ℕ, ◌*◌, ◌<◌, ◌≤◌, ◌↔◌, ◌⊎◌, Bool, true, false, not, ◌&&◌, ◌||◌, ◌==◌, nat_le, max, List, [], ◌∷◌, ◌++◌, length, slice_get, Option, Some, None, is_some}
use Rattle.std.specs.List.{Contains, list_all, flat_map, count_by, take_while}
use Rattle.seize_machine.specs.Machine.State.{State, Progress, Head, Inactive, Active, Append, Look, Try, Add, Rest, slot_at, head_at, batch_at, is_active, waiting_at, linked_values, are_distinct, opening}
use Rattle.seize_machine.specs.Machine.Event.{Event, Take, Begin, Put, Insert, AddCount, Return, event_slot}
use Rattle.seize_machine.specs.Machine.Next.{Transition, next, is_empty, same_list}
use Rattle.seize_machine.specs.Machine.History.{Timed, Moment, history, answers_of, end_of, are_legal, Legal, handed, WasNamed, Retired, Reclaimed, Found, IsActiveAt, HasParted}
use Rattle.seize_machine.specs.declared.machine.event.Answer.{Answer}
use Rattle.seize_machine.specs.declared.machine.event.Try.TheVariants.{Lost}

-- **At most once.** Each value goes to its reclaimer at most once.
abbrev pub AtMostOnce : State → List Moment → Type 0
AtMostOnce st ms = (v c d : ℕ) → Reclaimed ms v c → Reclaimed ms v d → c ≡ d

-- **After.** A reclaimed value was retired before, once, and each slot that was active then has left or refreshed since.
abbrev pub After : State → List Moment → Type 0
After st ms =
    (v c : ℕ) → Reclaimed ms v c
    → (q : ℕ) × (q < c) × Retired ms v q × ((r : ℕ) → Retired ms v r → r ≡ q) × ((s : ℕ) → IsActiveAt ms s q → HasParted ms s q c)

-- **Quiet.** Where no call is under way and no slot is active, each retired value is reclaimed or stands in a slot's batch or in the
-- rest, which is below its bound at each size that the size of no retirement was above, and of no take where the rest had a value.
abbrev pub is_quiet : State → Bool
is_quiet st = list_all (λ slot. not (is_some slot.call)) st.slots && list_all (λ head. not (is_active head)) st.heads

-- the greater of the size, at least 1, and the number of slots ever made
abbrev pub bound : ℕ → State → ℕ
bound size st = max (max 1 size) (length st.slots)

-- the events that put values into a batch, which may then be full by their size: a take does so where the rest has a value
abbrev pub fills : State → Event → Bool
fills st (Put s) = true
fills st (Take s) = not (is_empty st.rest)
fills st _ = false

-- each of them had at most this size
abbrev pub FillsWithin : ℕ → List Moment → Type 0
FillsWithin size ms = list_all (λ m. not (fills m.before m.timed.event) || nat_le m.timed.size size) ms ≡ true

abbrev pub IsBatched : State → ℕ → List Moment → Type 0
IsBatched st v ms =
    (s : ℕ) × Contains (slot_at st s).batch v × ((size : ℕ) → FillsWithin size ms → length (slot_at st s).batch < bound size st)

abbrev pub IsRested : State → ℕ → List Moment → Type 0
IsRested st v ms = Contains st.rest v × ((size : ℕ) → FillsWithin size ms → length st.rest < bound size st * length st.slots)

abbrev pub Quiet : State → List Moment → Type 0
Quiet st ms =
    is_quiet (end_of st ms) ≡ true → (v q : ℕ) → Retired ms v q
    → ((c : ℕ) × Reclaimed ms v c) ⊎ IsBatched (end_of st ms) v ms ⊎ IsRested (end_of st ms) v ms

-- **Unused.** Where no call is under way and no slot is in use, each retired value is reclaimed.
abbrev pub is_unused : State → Bool
is_unused st = list_all (λ slot. not slot.used && not (is_some slot.call)) st.slots

abbrev pub Unused : State → List Moment → Type 0
Unused st ms = is_unused (end_of st ms) ≡ true → (v q : ℕ) → Retired ms v q → (c : ℕ) × Reclaimed ms v c

-- **Protection.** A value that slot s found in a link, and that was reclaimed, was retired in between, and s left or
-- refreshed in between.
abbrev pub Protection : State → List Moment → Type 0
Protection st ms =
    (s v e c : ℕ) → Found ms s v e → Reclaimed ms v c
    → ((q : ℕ) × (e < q) × (q < c) × Retired ms v q) × HasParted ms s e c

-- **Whereabouts.** Each value that was named is in exactly one place, and no other value is in any. Until it is retired, it is in a
-- link, out of a link, or with a call that is to retire it. From then on it is in a slot's batch, in the rest, in a retired batch, given
-- up to a call that is to hand it to its reclaimer, or reclaimed.
abbrev pub to_retire : Option Progress → List ℕ
to_retire None = []
to_retire (Some call) = elim call.place [ Append v ↦ v ∷ call.queue | _ ↦ call.queue ]

abbrev pub before_retirement : State → List ℕ
before_retirement st = linked_values st.links ++ st.loose ++ flat_map (λ slot. to_retire slot.call) st.slots

abbrev pub given_up : Option Progress → List ℕ
given_up None = []
given_up (Some call) = elim call.place [ Rest given walk ↦ given | _ ↦ [] ]

abbrev pub from_retirement : State → List ℕ
from_retirement st =
    flat_map (λ slot. slot.batch) st.slots ++ flat_map (λ batch. batch.values) st.batches
    ++ flat_map (λ slot. given_up slot.call) st.slots ++ st.gone ++ st.rest

abbrev pub places : State → List ℕ
places st = before_retirement st ++ from_retirement st

abbrev pub Whereabouts : State → List Moment → Type 0
Whereabouts st ms =
    (are_distinct (places (end_of st ms)) ≡ true)
    × ((v : ℕ) → Contains (places (end_of st ms)) v ↔ WasNamed st ms v)
    × ((v : ℕ) → Contains (from_retirement (end_of st ms)) v ↔ ((q : ℕ) × Retired ms v q))

-- **Gone.** The values reclaimed are those handed to their reclaimers, in order.
abbrev pub Gone : State → List Moment → Type 0
Gone st ms = (end_of st ms).gone ≡ st.gone ++ handed (answers_of ms)

-- **Holders.** A retired batch that is not given up stands in an active slot's list, in the walk of a call under way, or
-- with the call that detached it, whose add is still to come.
abbrev pub walk_of : Option Progress → List ℕ
walk_of None = []
walk_of (Some call) = elim call.place [ Rest given walk ↦ walk | _ ↦ [] ]

abbrev pub detached_by : Option Progress → Option ℕ
detached_by None = None
detached_by (Some call) = elim call.place [ Look b won m later ↦ Some b | Try b won m later saw ↦ Some b | Add b won ↦ Some b | _ ↦ None ]

-- slot s lists b, or its call is to walk b
abbrev pub Lists : State → ℕ → ℕ → Type 0
Lists st s b = Contains (waiting_at (head_at st s)) b

abbrev pub Walks : State → ℕ → ℕ → Type 0
Walks st s b = Contains (walk_of (slot_at st s).call) b

abbrev pub IsHeld : State → ℕ → Type 0
IsHeld st b = ((s : ℕ) × Lists st s b) ⊎ ((s : ℕ) × Walks st s b) ⊎ ((s : ℕ) × (detached_by (slot_at st s).call ≡ Some b))

abbrev pub Holders : State → List Moment → Type 0
Holders st ms = (b v : ℕ) → Contains (batch_at (end_of st ms) b).values v → IsHeld (end_of st ms) b

-- **No later holders.** Who lists a batch after its add listed it right after the add, and has neither left nor refreshed since; and
-- who walks it has listed or walked it after every event since. So a slot that becomes active after the add never keeps the batch
-- back, and one that refreshes does so only until its walk is done.
abbrev pub added_batch : Option Progress → Option ℕ
added_batch None = None
added_batch (Some call) = elim call.place [ Add b won ↦ Some b | _ ↦ None ]

-- the batch to whose count an event adds
abbrev pub added_by : State → Event → Option ℕ
added_by st (AddCount s) = added_batch (slot_at st s).call
added_by st _ = None

abbrev pub NoLaterHolders : State → List Moment → Type 0
NoLaterHolders st ms =
    (b a : ℕ) (add : Moment) → slice_get ms a ≡ Some add → added_by add.before add.timed.event ≡ Some b → (s : ℕ)
    → (Lists (end_of st ms) s b → Lists add.after s b × ¬ (HasParted ms s a (length ms)))
    × (Walks (end_of st ms) s b → (p : ℕ) (m : Moment) → a ≤ p → slice_get ms p ≡ Some m → Lists m.after s b ⊎ Walks m.after s b)

-- **Under a guard.** Where an active slot adds to a batch's count, nothing is given up to its call: the batch is in the slot's own list.
-- So an active slot hands none of the values that it retires before it leaves or refreshes.
abbrev pub UnderGuard : State → List Moment → Type 0
UnderGuard st ms =
    (a : ℕ) (add : Moment) → slice_get ms a ≡ Some add → (s : ℕ) → add.timed.event ≡ AddCount s → is_active (head_at add.before s) ≡ true
    → given_up (slot_at add.after s).call ≡ []

-- **Tries.** The insertions that a call lost at one head are at most the events of other slots that changed that head
-- during the call.
abbrev pub begins : ℕ → Event → Bool
begins s (Begin i job) = i == s
begins s (Take i) = i == s
begins s _ = false

abbrev pub returns : ℕ → Event → Bool
returns s (Return i) = i == s
returns s _ = false

-- of the moments after a call of slot s began, those before it returned
abbrev pub during : ℕ → List Moment → List Moment
during s ms = take_while (λ m. not (returns s m.timed.event)) ms

abbrev pub same_head : Head → Head → Bool
same_head Inactive Inactive = true
same_head (Active xs) (Active ys) = same_list xs ys
same_head _ _ = false

abbrev pub is_lost : ℕ → ℕ → Event → Bool
is_lost s n (Insert i m Lost) = (i == s) && (m == n)
is_lost s n _ = false

-- an event of another slot than s changed the head of n
abbrev pub changes_head : ℕ → ℕ → Moment → Bool
changes_head s n m = not (event_slot m.timed.event == s) && not (same_head (head_at m.before n) (head_at m.after n))

abbrev pub Tries : State → List Moment → Type 0
Tries st ms =
    (s n : ℕ) (earlier later : List Moment) (begin : Moment) → ms ≡ earlier ++ begin ∷ later → begins s begin.timed.event ≡ true
    → count_by (λ m. is_lost s n m.timed.event) (during s later) ≤ count_by (changes_head s n) (during s later)

-- What a law is said of: every legal list of events, with any sizes, from every opening state.
abbrev pub HoldsOfAll : (State → List Moment → Type 0) → Type 0
HoldsOfAll law =
    (slots : ℕ) (links : List (Option ℕ)) (events : List Timed) (answers : List Answer) (end : State)
    → are_distinct (linked_values links) ≡ true
    → Legal next (opening slots links) events answers end → law (opening slots links) (history next (opening slots links) events)

-- A list of events, legal under a transition function from the opening with no slot made and these links, breaks a law.
abbrev pub Breaks : Transition → List (Option ℕ) → List Timed → (State → List Moment → Type 0) → Type 0
Breaks transition links events law =
    let start = opening 0 links in
    (are_distinct (linked_values links) ≡ true) × (are_legal (history transition start events) ≡ true)
    × ¬ (law start (history transition start events))
