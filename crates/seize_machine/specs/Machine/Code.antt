-- What the code's values stand for, and what its parts do.
use Rattle.std.specs.Prelude.{◌≡◌, ℕ, ◌+◌, ◌^◌, ◌<◌, ◌≤◌, pos, neg_ℤ, ◌+ℤ◌, ◌≤ℤ◌, Bool, true, false, List, [], ◌∷◌, ◌++◌, length, Option, Some, None, option_map}
use Rattle.std.specs.List.{list_all}
use Rattle.std.specs.declared.collections.VecDeque.{VecDeque}
use Rattle.std.specs.declared.alloc.Global.{Global}
use Rattle.seize_machine.specs.Machine.State.{State, Slot, Progress, Head, Inactive, Active, Place, Append, Mark, Look, Try, Add, Out, Rest, is_active, waiting_at, batch_at, slot_at}
use Rattle.seize_machine.specs.Machine.Event.{Event, Take, Give, Enter, Begin, Put, ReadHead, Detach, Insert, AddCount, SwapOut, SubCount, Hand, Return, ReadLink, ExchangeLink}
use Rattle.seize_machine.specs.Machine.Next.{Outcome, next}
use Rattle.seize_machine.specs.Machine.History.{Timed, at_size, done_by, history, end_of, answers_of, is_legal, Legal}
use Rattle.seize_machine.specs.declared.machine.event.Answer.{Answer}
use Rattle.seize_machine.specs.declared.machine.event.Answer.TheVariants.{Illegal}
use Rattle.seize_machine.specs.declared.machine.event.Event.{Event as Written}
use Rattle.seize_machine.specs.declared.machine.event.Event.TheVariants.{Take as WTake, Give as WGive, Enter as WEnter, Begin as WBegin, Put as WPut, ReadHead as WReadHead, Detach as WDetach, Insert as WInsert, AddCount as WAddCount, SwapOut as WSwapOut, SubCount as WSubCount, Hand as WHand, Return as WReturn, ReadLink as WReadLink, ExchangeLink as WExchangeLink}
use Rattle.seize_machine.specs.declared.machine.slot.Place.{Place as Stood}
use Rattle.seize_machine.specs.declared.machine.slot.Place.TheVariants.{Append as SAppend, Mark as SMark, Look as SLook, Try as STry, Add as SAdd, Out as SOut, Rest as SRest}
use Rattle.seize_machine.specs.declared.machine.slot.Call.{Call as Called}

-- the event that the code writes
abbrev pub event_of : Written → Event
event_of (WTake s) = Take s
event_of (WGive s) = Give s
event_of (WEnter s) = Enter s
event_of (WBegin s job) = Begin s job
event_of (WPut s) = Put s
event_of (WReadHead s n) = ReadHead s n
event_of (WDetach s) = Detach s
event_of (WInsert s m ends) = Insert s m ends
event_of (WAddCount s) = AddCount s
event_of (WSwapOut s) = SwapOut s
event_of (WSubCount s) = SubCount s
event_of (WHand s puts) = Hand s puts.items
event_of (WReturn s) = Return s
event_of (WReadLink s l) = ReadLink s l
event_of (WExchangeLink s l exchange) = ExchangeLink s l exchange

abbrev pub place_view : Stood → Place
place_view (SAppend v) = Append v
place_view (SMark next note marked) = Mark next note marked.items
place_view (SLook b won m later) = Look b won m later.items
place_view (STry b won m later saw) = Try b won m later.items saw.items
place_view (SAdd b won) = Add b won
place_view (SOut stays) = Out stays
place_view (SRest given walk) = Rest given.items walk.items

abbrev pub call_view : Called → Progress
call_view c = record { place = place_view c.place; queue = c.queue.items }

abbrev pub slot_view : Bool → List ℕ → Option Called → Slot
slot_view used batch call = record { used = used; batch = batch; call = option_map call_view call }

abbrev pub head_view : Option (VecDeque ℕ Global) → Head
head_view None = Inactive
head_view (Some waiting) = Active waiting.items

-- what callers see of a machine: its size and its state
pub record Sized : Type 0 where
  pub size : ℕ
  pub state : State

-- what an event did, by its outcome and the state before and after it
abbrev pub HasOutcome : Outcome → State → State → Answer → Type 0
HasOutcome None old new answer = (new ≡ old) × (answer ≡ Illegal)
HasOutcome (Some done) old new answer = (new ≡ done.0) × (answer ≡ done.1)

-- what an event did to its slot alone: whether it was legal, and the slot after it
abbrev pub DoesSlot : Option Slot → Slot → Slot → Bool → Type 0
DoesSlot None old new legal = (new ≡ old) × (legal ≡ false)
DoesSlot (Some slot) old new legal = (new ≡ slot) × (legal ≡ true)

-- an insertion can be counted
abbrev pub CanWinAt : Place → Type 0
CanWinAt (Try b won m later saw) = won + 1 < 2 ^ 64
CanWinAt _ = Unit {0}

abbrev pub CanWin : Option Progress → Type 0
CanWin None = Unit {0}
CanWin (Some call) = CanWinAt call.place

-- what an insertion did to a head: none where it is inactive
abbrev pub IsInserted : Bool → ℕ → Head → Head → Type 0
IsInserted true batch old new = (is_active old ≡ true) × (new ≡ Active (batch ∷ waiting_at old))
IsInserted false batch old new = (old ≡ Inactive) × (new ≡ old)

-- What bounds the numbers that a call counts with, in a state that a legal list reaches.

-- the insertions won stay below the number of slots
abbrev pub WinsFit : State → Place → Type 0
WinsFit st (Try b won m later saw) = won + 1 ≤ length st.slots
WinsFit st _ = Unit {0}

-- a batch that is counted up or down is there, and its count stays near 0
abbrev pub AddFits : State → ℕ → ℕ → Type 0
AddFits st b won =
    let count = (batch_at st b).count +ℤ pos won in
    (b < length st.batches) × (won ≤ length st.slots) × (pos 0 ≤ℤ count) × (count ≤ℤ pos (length st.slots))

abbrev pub SubFits : State → ℕ → Type 0
SubFits st b = (b < length st.batches) × (neg_ℤ (pos (length st.slots)) ≤ℤ (batch_at st b).count)

abbrev pub CountFits : State → Place → Type 0
CountFits st (Add b won) = AddFits st b won
CountFits st (Rest [] (b ∷ walk)) = SubFits st b
CountFits st _ = Unit {0}

abbrev pub CallCountsFit : State → Option Progress → Type 0
CallCountsFit st None = Unit {0}
CallCountsFit st (Some call) = WinsFit st call.place × CountFits st call.place

pub record CountsFit (st : State) : Type 0 where
  pub fit : (s : ℕ) → CallCountsFit st (slot_at st s).call

-- the event, at the size of a machine
abbrev pub timed_event : Sized → Written → Timed
timed_event machine event = record { size = machine.size; event = event_of event }

-- what an event did to a machine and answered, legal or not
pub record HasDone (event : Written) (old new : Sized) (answer : Answer) : Type 0 where
  pub size : new.size ≡ old.size
  pub done : (new.state, answer) ≡ done_by next old.state (timed_event old event)
  -- where it is legal, it is a legal list of one event
  pub legal : is_legal answer ≡ true → Legal next old.state (timed_event old event ∷ []) (answer ∷ []) new.state

-- what events did to a machine, in order, and answered
pub record HasRun (events : List Event) (old new : Sized) (old_answers new_answers : List Answer) : Type 0 where
  pub size : new.size ≡ old.size
  pub state : new.state ≡ end_of old.state (history next old.state (at_size old.size events))
  pub answers : new_answers ≡ old_answers ++ answers_of (history next old.state (at_size old.size events))

-- and where none of them is illegal, they are a legal list
abbrev pub HasRunLegally : List Event → Sized → Sized → List Answer → List Answer → Type 0
HasRunLegally events old new old_answers new_answers =
    (answers : List Answer) → new_answers ≡ old_answers ++ answers → list_all is_legal answers ≡ true
    → Legal next old.state (at_size old.size events) answers new.state
