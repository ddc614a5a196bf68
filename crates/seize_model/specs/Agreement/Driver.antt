-- The events of a call that is made while no other is under way, as they are computed.
use Rattle.std.specs.Prelude.{ℕ, zero, suc, Bool, ◌==◌, ◌||◌, if◌then◌else◌, nat_lt, List, [], ◌∷◌, ◌++◌, Option, Some, None}
use Rattle.seize_machine.specs.Machine.State as machine
use Rattle.seize_machine.specs.Machine.State.{Place, Append, Mark, Look, Try, Add, Out, Rest}
use Rattle.seize_machine.specs.Machine.Event.{Event, Take, Give, Enter as EnterHead, Begin, Put, ReadHead, Detach, Insert, AddCount, SwapOut, SubCount, Hand, Return, ReadLink, ExchangeLink}
use Rattle.seize_machine.specs.Machine.Next.{next}
use Rattle.seize_machine.specs.declared.machine.event.Job.{Job}
use Rattle.seize_machine.specs.declared.machine.event.Job.TheVariants.{Retire as RetireJob, Flush as FlushJob, Leave as LeaveJob, Refresh as RefreshJob, Gather as GatherJob}
use Rattle.seize_machine.specs.declared.machine.event.Try.TheVariants.{Won}
use Rattle.seize_machine.specs.declared.machine.event.Exchange.TheVariants.{Swap as SwapLink}
use Rattle.seize_model.specs.Waiting.State as waiting
use Rattle.seize_model.specs.Waiting.Calls.{is_owned, least_unused}
use Rattle.seize_model.specs.Waiting.Lists.{Call, Register, EnterOwned, Enter, Leave, End, Refresh, Flush, Retire, Protect, Swap, Reply, Refused, step}
use Rattle.seize_model.specs.Agreement.Play.{play}
use Rattle.seize_machine.specs.Machine.History.{handed}

-- what the reclaimer of a value puts, where a value is its number
abbrev pub Puts : Type 0
Puts = ℕ → List ℕ

-- the event that the call of s makes next. A tried insertion is won, since no other call is under way
abbrev pub event_at : Puts → ℕ → Place → List ℕ → Event
event_at puts s (Append v) queue = Put s
event_at puts s (Mark n note marked) queue = if nat_lt n note then ReadHead s n else Detach s
event_at puts s (Look b won m later) queue = ReadHead s m
event_at puts s (Try b won m later saw) queue = Insert s m Won
event_at puts s (Add b won) queue = AddCount s
event_at puts s (Out stays) queue = SwapOut s
event_at puts s (Rest (v ∷ given) walk) queue = Hand s (puts v)
event_at puts s (Rest [] (b ∷ walk)) queue = SubCount s
event_at puts s (Rest [] []) (v ∷ queue) = Put s
event_at puts s (Rest [] []) [] = Return s

-- the events of the call under way of s, to its return, for at most this many events
abbrev pub rest_of_call : Puts → ℕ → ℕ → machine.State → ℕ → List Event
rest_of_call puts zero size st s = []
rest_of_call puts (suc n) size st s = elim (machine.slot_at st s).call [
  | None ↦ []
  | Some call ↦ let e = event_at puts s call.place call.queue in
      elim (next size st e) [ None ↦ e ∷ [] | Some d ↦ e ∷ rest_of_call puts n size d.0 s ]
]

-- a job, from its beginning on
abbrev pub job : Puts → ℕ → ℕ → machine.State → ℕ → Job → List Event
job puts n size st s j =
    elim (next size st (Begin s j)) [ None ↦ Begin s j ∷ [] | Some d ↦ Begin s j ∷ rest_of_call puts n size d.0 s ]

-- a number is taken, and what was left is attempted, if it is enough
abbrev pub take_events : Puts → ℕ → ℕ → machine.State → ℕ → List Event
take_events puts n size st s =
    elim (next size st (Take s)) [ None ↦ Take s ∷ [] | Some d ↦ Take s ∷ rest_of_call puts n size d.0 s ]

-- a number is given back, after at most this many gatherings
abbrev pub give_events : Puts → ℕ → ℕ → ℕ → machine.State → ℕ → List Event
give_events puts zero n size st s = Give s ∷ []
give_events puts (suc m) n size st s =
    elim (next size st (Give s)) [
      | Some d ↦ Give s ∷ []
      | None ↦ let es = job puts n size st s GatherJob in
          elim (play size st es) [ None ↦ es | Some r ↦ es ++ give_events puts m n size r.0 s ]
    ]

-- the slot is left, and the number of an owned one is given back
abbrev pub leave_events : Puts → ℕ → ℕ → machine.State → ℕ → Bool → List Event
leave_events puts n size st s owned =
    let es = job puts n size st s LeaveJob in
    if owned then elim (play size st es) [ None ↦ es | Some r ↦ es ++ give_events puts 30 n size r.0 s ] else es

-- the events of a call that is not refused
abbrev pub call_events : {R : Type 0} → Puts → ℕ → waiting.ModelState ℕ R → machine.State → Call ℕ R → List Event
call_events puts n st shown Register = take_events puts n st.size shown (least_unused st.slots)
call_events puts n st shown EnterOwned = take_events puts n st.size shown (least_unused st.slots) ++ EnterHead (least_unused st.slots) ∷ []
call_events puts n st shown (Enter s) = if waiting.has_guard (waiting.model_slot st s) then [] else EnterHead s ∷ []
call_events puts n st shown (Leave s) =
    if (waiting.model_slot st s).guards == 1
    then leave_events puts n st.size shown s (is_owned (waiting.model_slot st s).kind)
    else []
call_events puts n st shown (End s) = if waiting.has_guard (waiting.model_slot st s) then [] else give_events puts 30 n st.size shown s
call_events puts n st shown (Refresh s) =
    if is_owned (waiting.model_slot st s).kind || ((waiting.model_slot st s).guards == 1)
    then job puts n st.size shown s RefreshJob
    else []
call_events puts n st shown (Flush s) = job puts n st.size shown s FlushJob
call_events puts n st shown (Retire s v r) = job puts n st.size shown s (RetireJob v)
call_events puts n st shown (Protect s l) = ReadLink s l ∷ []
call_events puts n st shown (Swap s l new r) =
    let swap = ExchangeLink s l (SwapLink new) in
    elim (machine.link_at shown l) [
      | None ↦ swap ∷ []
      | Some old ↦ elim (next st.size shown swap) [ None ↦ swap ∷ [] | Some d ↦ swap ∷ job puts n st.size d.0 s (RetireJob old) ]
    ]

-- a call that is refused has none
abbrev pub unless_refused : Reply ℕ → List Event → List Event
unless_refused (Refused r back) events = []
unless_refused _ events = events

-- the state of the machine after these calls and the values handed, where a value is its number, or none where an event is illegal
abbrev pub machine_after : {R : Type 0} → (R → ℕ → List ℕ) → (ℕ → ℕ) → Puts → waiting.ModelState ℕ R → machine.State → List (Call ℕ R)
    → Option (machine.State × List ℕ)
machine_after by weight puts st shown [] = Some (shown, [])
machine_after by weight puts st shown (c ∷ cs) =
    let told = step by weight st c in
    elim (play st.size shown (unless_refused told.0 (call_events puts 300 st shown c))) [
      | None ↦ None
      | Some r ↦ elim (machine_after by weight puts told.1.0 r.0 cs) [ None ↦ None | Some d ↦ Some (d.0, handed r.1 ++ d.1) ]
    ]
