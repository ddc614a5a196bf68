-- The events of the machine. Each names the slot that makes it.
use Rattle.std.specs.Prelude.{ℕ, List}
use Rattle.seize_machine.specs.declared.machine.event.Job.{Job}
use Rattle.seize_machine.specs.declared.machine.event.Try.{Try as Insertion}
use Rattle.seize_machine.specs.declared.machine.event.Exchange.{Exchange}

pub data Event : Type 0 where
  -- the slot's number is taken, or given back
  Take : (slot : ℕ) → Event
  Give : (slot : ℕ) → Event
  -- the slot becomes active
  Enter : (slot : ℕ) → Event
  -- a call begins
  Begin : (slot : ℕ) → (job : Job) → Event
  -- a value is appended to the slot's batch: its retirement
  Put : (slot : ℕ) → Event
  -- the head of another slot, or of the slot itself, is read
  ReadHead : (slot other : ℕ) → Event
  -- the batch is taken from the slot
  Detach : (slot : ℕ) → Event
  -- the detached batch is inserted into the list of another slot, or the insertion is lost
  Insert : (slot other : ℕ) → (ends : Insertion) → Event
  -- the insertions won are added to the batch's count
  AddCount : (slot : ℕ) → Event
  -- the slot leaves or refreshes
  SwapOut : (slot : ℕ) → Event
  -- one batch of the list that came out is counted down
  SubCount : (slot : ℕ) → Event
  -- a given-up value goes to its reclaimer, which puts further values
  Hand : (slot : ℕ) → (puts : List ℕ) → Event
  -- the call is over
  Return : (slot : ℕ) → Event
  ReadLink : (slot link : ℕ) → Event
  ExchangeLink : (slot link : ℕ) → (exchange : Exchange) → Event

-- the slot that makes the event
abbrev pub event_slot : Event → ℕ
event_slot (Take s) = s
event_slot (Give s) = s
event_slot (Enter s) = s
event_slot (Begin s job) = s
event_slot (Put s) = s
event_slot (ReadHead s n) = s
event_slot (Detach s) = s
event_slot (Insert s m ends) = s
event_slot (AddCount s) = s
event_slot (SwapOut s) = s
event_slot (SubCount s) = s
event_slot (Hand s puts) = s
event_slot (Return s) = s
event_slot (ReadLink s l) = s
event_slot (ExchangeLink s l exchange) = s
