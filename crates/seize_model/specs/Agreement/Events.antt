-- The events that a call makes when it is made alone, and what they put.
use Rattle.std.specs.Prelude.{◌≡◌, ℕ, Bool, true, false, not, ◌||◌, ◌==◌, if◌then◌else◌, List, [], ◌∷◌, ◌++◌, Option, Some, None}
use Rattle.seize_machine.specs.Machine.State as machine
use Rattle.seize_machine.specs.Machine.Event.{Event, Take, Give, Enter as EnterHead, Begin, Hand, Return, ReadLink, ExchangeLink, event_slot}
use Rattle.seize_machine.specs.Machine.History.{is_link_event}
use Rattle.seize_machine.specs.declared.machine.event.Job.{Job}
use Rattle.seize_machine.specs.declared.machine.event.Job.TheVariants.{Retire as RetireJob, Flush as FlushJob, Leave as LeaveJob, Refresh as RefreshJob, Gather as GatherJob}
use Rattle.seize_machine.specs.declared.machine.event.Exchange.TheVariants.{Swap as SwapLink}
use Rattle.seize_machine.specs.declared.machine.event.Answer.{Answer}
use Rattle.seize_machine.specs.declared.machine.event.Answer.TheVariants.{Handed}
use Rattle.seize_model.specs.Waiting.State as waiting
use Rattle.seize_model.specs.Waiting.Attempt.{is_full}
use Rattle.seize_model.specs.Waiting.Calls.{is_owned}
use Rattle.seize_model.specs.Waiting.Further.{put_by}
use Rattle.seize_model.specs.Waiting.Lists.{Call, Register, EnterOwned, Enter, Leave, End, Refresh, Flush, Retire, Protect, Swap, Reply, Refused}
use Rattle.seize_model.specs.Agreement.Shows.{held_value, StandFor}

abbrev pub is_return : Event → Bool
is_return (Return s) = true
is_return _ = false

-- events of slot s, none of them of a link, up to a return, which is the last one
pub data IsToReturn (s : ℕ) : List Event → Type 0 where
  returns : IsToReturn s (Return s ∷ [])
  goes_on : (e : Event) (es : List Event) → event_slot e ≡ s → is_link_event s e ≡ false → is_return e ≡ false → IsToReturn s es
      → IsToReturn s (e ∷ es)

-- a job of slot s, from its beginning to its return
abbrev pub IsJob : ℕ → Job → List Event → Type 0
IsJob s job events = (es : List Event) × (events ≡ Begin s job ∷ es) × IsToReturn s es

-- such events where this is so, and else none
abbrev pub Where : Bool → (List Event → Type 0) → List Event → Type 0
Where true made events = made events
Where false made events = events ≡ []

-- a number is taken, and what was left is attempted, where it is enough
abbrev pub IsTaken : ℕ → Bool → List Event → Type 0
IsTaken s enough events = (es : List Event) × (events ≡ Take s ∷ es) × Where enough (IsToReturn s) es

-- a number is given back, after any number of gatherings
pub data IsEnded (s : ℕ) : List Event → Type 0 where
  gives : IsEnded s (Give s ∷ [])
  gathers : (es fs : List Event) → IsJob s GatherJob es → IsEnded s fs → IsEnded s (es ++ fs)

-- what leaving the slot makes: the number of an owned slot is given back
abbrev pub IsLeft : ℕ → Bool → List Event → Type 0
IsLeft s owned events = (es fs : List Event) × (events ≡ es ++ fs) × IsJob s LeaveJob es × Where owned (IsEnded s) fs

-- what follows on the exchange of a link: the number that it held is retired
abbrev pub IsRetiredFrom : ℕ → Option ℕ → List Event → Type 0
IsRetiredFrom s None events = events ≡ []
IsRetiredFrom s (Some n) events = IsJob s (RetireJob n) events

-- the events of a call that is not refused, from two states that show each other
abbrev pub AreEventsOf : {T R : Type 0} → waiting.ModelState T R → machine.State → Call T R → List Event → Type 0
AreEventsOf st shown Register events = (n : ℕ) × IsTaken n (is_full st.size st.rest) events
AreEventsOf st shown EnterOwned events =
    (n : ℕ) × (es : List Event) × (events ≡ es ++ EnterHead n ∷ []) × IsTaken n (is_full st.size st.rest) es
AreEventsOf st shown (Enter s) events = events ≡ (if waiting.has_guard (waiting.model_slot st s) then [] else EnterHead s ∷ [])
AreEventsOf st shown (Leave s) events =
    Where ((waiting.model_slot st s).guards == 1) (IsLeft s (is_owned (waiting.model_slot st s).kind)) events
AreEventsOf st shown (End s) events = Where (not (waiting.has_guard (waiting.model_slot st s))) (IsEnded s) events
AreEventsOf st shown (Refresh s) events =
    Where (is_owned (waiting.model_slot st s).kind || ((waiting.model_slot st s).guards == 1)) (IsJob s RefreshJob) events
AreEventsOf st shown (Flush s) events = IsJob s FlushJob events
AreEventsOf st shown (Retire s v r) events = (n : ℕ) × IsJob s (RetireJob n) events
AreEventsOf st shown (Protect s l) events = events ≡ ReadLink s l ∷ []
AreEventsOf st shown (Swap s l new r) events =
    (n : Option ℕ) × (es : List Event) × (events ≡ ExchangeLink s l (SwapLink n) ∷ es) × IsRetiredFrom s (machine.link_at shown l) es

-- the same of a call with this reply; one that is refused has no events
abbrev pub MakesFor : {T R : Type 0} → Reply T → waiting.ModelState T R → machine.State → Call T R → List Event → Type 0
MakesFor (Refused r back) st shown call events = events ≡ []
MakesFor _ st shown call events = AreEventsOf st shown call events

-- the number with which the call begins stands for the value that it names
abbrev pub NamesValue : {T R : Type 0} → (ℕ → T) → Call T R → Event → Type 0
NamesValue of (Retire s v r) (Begin i (RetireJob n)) = of n ≡ v
NamesValue of (Swap s l new r) (ExchangeLink i k (SwapLink n)) = held_value of n ≡ new
NamesValue of call e = Unit {0}

abbrev pub NamesOwn : {T R : Type 0} → (ℕ → T) → Call T R → List Event → Type 0
NamesOwn of call [] = Unit {0}
NamesOwn of call (e ∷ es) = NamesValue of call e

-- the number that the call retires has the reclaimer that the call names
abbrev pub IsRetiredWith : {R : Type 0} → (ℕ → R) → R → Event → Type 0
IsRetiredWith by r (Begin i (RetireJob n)) = by n ≡ r
IsRetiredWith by r e = Unit {0}

abbrev pub RetiresWith : {T R : Type 0} → (ℕ → R) → Call T R → List Event → Type 0
RetiresWith by (Retire s v r) (e ∷ es) = IsRetiredWith by r e
RetiresWith by (Swap s l new r) (swap ∷ e ∷ es) = IsRetiredWith by r e
RetiresWith by call events = Unit {0}

-- the numbers put stand for what the reclaimer of the value handed puts, to be reclaimed by it
abbrev pub IsPutBy : {T R : Type 0} → (R → T → List T) → (ℕ → T) → (ℕ → R) → Event → Answer → Type 0
IsPutBy puts of by (Hand s ns) (Handed v) = StandFor of by ns (put_by puts (of v, by v))
IsPutBy puts of by _ answer = Unit {0}

abbrev pub ArePutBy : {T R : Type 0} → (R → T → List T) → (ℕ → T) → (ℕ → R) → List Event → List Answer → Type 0
ArePutBy puts of by (e ∷ es) (answer ∷ answers) = IsPutBy puts of by e answer × ArePutBy puts of by es answers
ArePutBy puts of by _ answers = Unit {0}
