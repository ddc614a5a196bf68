-- Lists of events: what becomes of them, which are legal, and positions in them, counted from 0.
use Rattle.std.specs.Prelude.{◌≡◌, ℕ, ◌<◌, ◌⊎◌, Bool, true, false, ◌==◌, if◌then◌else◌, List, [], ◌∷◌, map, slice_get, Option, Some, None, option_to_list}
use Rattle.std.specs.List.{Contains, list_all, flat_map}
use Rattle.seize_machine.specs.Machine.State.{State, Progress, Place, Append, Rest, slot_at, head_at, is_active, linked_values, are_distinct, opening}
use Rattle.seize_machine.specs.Machine.Event.{Event, Begin, Put, SwapOut, Hand, ReadLink, ExchangeLink}
use Rattle.seize_machine.specs.Machine.Next.{Outcome, Transition, next, new_link, is_stored}
use Rattle.seize_machine.specs.declared.machine.event.Job.TheVariants.{Retire}
use Rattle.seize_machine.specs.declared.machine.event.Answer.{Answer}
use Rattle.seize_machine.specs.declared.machine.event.Answer.TheVariants.{Handed, Link, Illegal}

-- an event, with the size at it
pub record Timed : Type 0 where
  pub size : ℕ
  pub event : Event

-- events that all have one size
abbrev pub at_size : ℕ → List Event → List Timed
at_size size events = map (λ event. record { size = size; event = event }) events

-- one event of a list: the state before it, the event with its size, its answer and the state after it
pub record Moment : Type 0 where
  pub before : State
  pub timed : Timed
  pub answer : Answer
  pub after : State

-- an illegal event answers so and changes nothing
abbrev pub or_illegal : State → Outcome → State × Answer
or_illegal st None = (st, Illegal)
or_illegal st (Some done) = done

-- what an event does, legal or not
abbrev pub done_by : Transition → State → Timed → State × Answer
done_by transition st t = or_illegal st (transition t.size st t.event)

-- an event that did this, and what follows from the state after it
abbrev pub and_then : State → Timed → State × Answer → (State → List Moment) → List Moment
and_then st t done rest = record { before = st; timed = t; answer = done.1; after = done.0 } ∷ rest done.0

-- the moments of a list of events that begins in this state
abbrev pub history : Transition → State → List Timed → List Moment
history transition st [] = []
history transition st (t ∷ ts) = and_then st t (done_by transition st t) (λ later. history transition later ts)

abbrev pub answers_of : List Moment → List Answer
answers_of ms = map (λ m. m.answer) ms

-- the state after the moments that began at st
abbrev pub end_of : State → List Moment → State
end_of st [] = st
end_of st (m ∷ ms) = end_of m.after ms

abbrev pub is_legal : Answer → Bool
is_legal Illegal = false
is_legal _ = true

abbrev pub are_legal : List Moment → Bool
are_legal ms = list_all (λ m. is_legal m.answer) ms

-- **A legal list**: from this state on, these events, with their sizes, are legal, each after those before it; these are their
-- answers, and this is the state after them.
pub record Legal (transition : Transition) (st : State) (events : List Timed) (answers : List Answer) (end : State) : Type 0 where
  pub legal : are_legal (history transition st events) ≡ true
  pub answers_are : answers_of (history transition st events) ≡ answers
  pub end_is : end_of st (history transition st events) ≡ end

-- a legal list from an opening state leads to this state
pub record IsReached (st : State) : Type 0 where
  pub slots : ℕ
  pub links : List (Option ℕ)
  pub events : List Timed
  pub answers : List Answer
  pub distinct : are_distinct (linked_values links) ≡ true
  pub leads : Legal next (opening slots links) events answers st

-- the value that the slot's call appends to its batch, where it is about to
abbrev pub first_or_none : List ℕ → Option ℕ
first_or_none [] = None
first_or_none (v ∷ vs) = Some v

abbrev pub place_value : Place → List ℕ → Option ℕ
place_value (Append v) queue = Some v
place_value (Rest given walk) queue = first_or_none queue
place_value _ queue = None

abbrev pub call_value : Option Progress → Option ℕ
call_value None = None
call_value (Some call) = place_value call.place call.queue

-- the value that an event retires, hands to its reclaimer, or finds in a link for slot s
abbrev pub retired_value : State → Event → Option ℕ
retired_value st (Put s) = call_value (slot_at st s).call
retired_value st _ = None

abbrev pub handed_value : Answer → Option ℕ
handed_value (Handed v) = Some v
handed_value _ = None

abbrev pub linked_value : Answer → Option ℕ
linked_value (Link value) = value
linked_value _ = None

-- the values handed to their reclaimers, in order
abbrev pub handed : List Answer → List ℕ
handed answers = flat_map (λ answer. option_to_list (handed_value answer)) answers

abbrev pub is_link_event : ℕ → Event → Bool
is_link_event s (ReadLink i l) = i == s
is_link_event s (ExchangeLink i l exchange) = i == s
is_link_event s _ = false

abbrev pub is_swap_out : ℕ → Event → Bool
is_swap_out s (SwapOut i) = i == s
is_swap_out s _ = false

-- the values that an event with this answer names: the one that a call begins to retire, those that a reclaimer puts, the one that is
-- stored in a link
abbrev pub named_by : Event → Answer → List ℕ
named_by (Begin s (Retire v)) answer = v ∷ []
named_by (Hand s puts) answer = puts
named_by (ExchangeLink s l exchange) answer = if is_stored (linked_value answer) exchange then option_to_list (new_link exchange) else []
named_by event answer = []

-- v was in a link at the opening, or an event named it
abbrev pub WasNamed : State → List Moment → ℕ → Type 0
WasNamed st ms v =
    Contains (linked_values st.links) v
    ⊎ ((e : ℕ) × (m : Moment) × (slice_get ms e ≡ Some m) × Contains (named_by m.timed.event m.answer) v)

-- event q retires v: it appends v to a batch
abbrev pub Retired : List Moment → ℕ → ℕ → Type 0
Retired ms v q = (m : Moment) × (slice_get ms q ≡ Some m) × (retired_value m.before m.timed.event ≡ Some v)

-- event c hands v to its reclaimer
abbrev pub Reclaimed : List Moment → ℕ → ℕ → Type 0
Reclaimed ms v c = (m : Moment) × (slice_get ms c ≡ Some m) × (handed_value m.answer ≡ Some v)

-- event e, a link event by s, found v
abbrev pub Found : List Moment → ℕ → ℕ → ℕ → Type 0
Found ms s v e =
    (m : Moment) × (slice_get ms e ≡ Some m) × (is_link_event s m.timed.event ≡ true) × (linked_value m.answer ≡ Some v)

-- s is active before event q
abbrev pub IsActiveAt : List Moment → ℕ → ℕ → Type 0
IsActiveAt ms s q = (m : Moment) × (slice_get ms q ≡ Some m) × (is_active (head_at m.before s) ≡ true)

-- s leaves or refreshes after event q and before event c
abbrev pub HasParted : List Moment → ℕ → ℕ → ℕ → Type 0
HasParted ms s q c =
    (p : ℕ) × (q < p) × (p < c) × ((m : Moment) × (slice_get ms p ≡ Some m) × (is_swap_out s m.timed.event ≡ true))
