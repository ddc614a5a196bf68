-- What it means that the two models agree.
use Rattle.std.specs.Prelude.{◌≡◌, ℕ, ◌<◌, false, List, [], ◌∷◌, length, map, Option, Some, None}
use Rattle.std.specs.List.{All}
use Rattle.seize_machine.specs.Machine.State as machine
use Rattle.seize_machine.specs.Machine.State.{has}
use Rattle.seize_machine.specs.Machine.Event.{Event}
use Rattle.seize_machine.specs.declared.machine.event.Answer.{Answer}
use Rattle.seize_model.specs.Waiting.State as waiting
use Rattle.seize_model.specs.Waiting.Lists.{Call, Protect, Swap, Reply, Refused, Effect, step}
use Rattle.seize_model.specs.Agreement.Shows.{ShowsValues, ShowsState, ShowsReclaimers}
use Rattle.seize_model.specs.Agreement.Events.{MakesFor, NamesOwn, RetiresWith, ArePutBy}
use Rattle.seize_model.specs.Agreement.Play.{play, reply_by}
use Rattle.seize_machine.specs.Machine.History.{handed}

-- Each value that a call names gets a number that was never named before: there is always one that stands for it.
abbrev pub HasNames : {T : Type 0} → (ℕ → T) → Type 0
HasNames {T} of = (v : T) (named : List ℕ) → (n : ℕ) × (has n named ≡ false) × (of n ≡ v)

-- a call of links is for one that is there
abbrev pub HasLink : {T R : Type 0} → waiting.ModelState T R → Call T R → Type 0
HasLink st (Protect s l) = l < length st.links
HasLink st (Swap s l new r) = l < length st.links
HasLink st _ = Unit {0}

-- a refused call has no events, and the reply to another one is by its events and their answers
abbrev pub IsReply : {T R : Type 0} → Call T R → List Event → List Answer → Reply T → Type 0
IsReply call events answers (Refused r back) = events ≡ []
IsReply call events answers reply = reply ≡ reply_by call events answers

-- A call is such a list of events: it is one that the call makes alone, its first number stands for the value that the call names, each
-- event is legal, the state after them shows the new state, the values handed are those gone, in order, and the reply is as told.
pub record IsRun (T R : Type 0) (of : ℕ → T) (call : Call T R) (st : waiting.ModelState T R) (before : machine.State) (told : Effect T R)
    : Type 0 where
  pub events : List Event
  pub answers : List Answer
  pub later : machine.State
  pub makes : MakesFor told.0 st before call events
  pub names : NamesOwn of call events
  pub legal : play st.size before events ≡ Some (later, answers)
  pub shows : ShowsState T R of told.1.0 later
  pub gone : ShowsValues of (handed answers) told.1.1
  pub reply : IsReply call events answers told.0

-- **The two models agree.** From each two states that show each other, each call is a list of events.
abbrev pub Agreement : {T R : Type 0} → (R → T → List T) → (T → ℕ) → (ℕ → T) → Type 0
Agreement {T} {R} puts weight of =
    (st : waiting.ModelState T R) (before : machine.State) (call : Call T R) → HasLink st call → ShowsState T R of st before
    → IsRun T R of call st before (step puts weight st call)

-- Each value with its reclaimer gets a number that was never named before.
abbrev pub HasNamesFor : {T R : Type 0} → (ℕ → T) → (ℕ → R) → Type 0
HasNamesFor {T} {R} of by = (v : T) (r : R) (named : List ℕ) → (n : ℕ) × (has n named ≡ false) × (of n ≡ v) × (by n ≡ r)

-- what a link holds has the reclaimer with which the call retires it
abbrev pub IsHeldFor : {R : Type 0} → (ℕ → R) → R → Option ℕ → Type 0
IsHeldFor by r None = Unit {0}
IsHeldFor by r (Some n) = by n ≡ r

abbrev pub HoldsFor : {T R : Type 0} → (ℕ → R) → machine.State → Call T R → Type 0
HoldsFor by shown (Swap s l new r) = IsHeldFor by r (machine.link_at shown l)
HoldsFor by shown call = Unit {0}

-- such a list of events, in which each value handed puts what its reclaimer puts
pub record IsRunWith (T R : Type 0) (puts : R → T → List T) (of : ℕ → T) (by : ℕ → R) (call : Call T R) (st : waiting.ModelState T R)
    (before : machine.State) (told : Effect T R) : Type 0 where
  pub run : IsRun T R of call st before told
  pub retires : RetiresWith by call run.events
  pub put : ArePutBy puts of by run.events run.answers

-- **The two models agree, with reclaimers.** From each two states that show each other, with the reclaimers, each call is such a list.
abbrev pub AgreementWith : {T R : Type 0} → (R → T → List T) → (T → ℕ) → (ℕ → T) → (ℕ → R) → Type 0
AgreementWith {T} {R} puts weight of by =
    (st : waiting.ModelState T R) (before : machine.State) (call : Call T R) → HasLink st call → HoldsFor by before call
    → ShowsState T R of st before → ShowsReclaimers T R of by st before → IsRunWith T R puts of by call st before (step puts weight st call)

-- These events, with these answers and this state after them, do what the call does.
pub record IsOutcome (T R : Type 0) (of : ℕ → T) (by : ℕ → R) (call : Call T R) (told : Effect T R)
    (events : List Event) (answers : List Answer) (later : machine.State) : Type 0 where
  pub shows : ShowsState T R of told.1.0 later
  pub reclaimers : ShowsReclaimers T R of by told.1.0 later
  pub gone : ShowsValues of (handed answers) told.1.1
  pub reply : IsReply call events answers told.0

-- each legal list of events that the call makes alone, and in which each value handed puts what its reclaimer puts, does so
abbrev pub EachList : {T R : Type 0} → (R → T → List T) → (ℕ → T) → (ℕ → R) → Call T R → waiting.ModelState T R → machine.State
    → Effect T R → Type 0
EachList {T} {R} puts of by call st before told =
    (events : List Event) (answers : List Answer) (later : machine.State) → MakesFor told.0 st before call events
    → play st.size before events ≡ Some (later, answers)
    → NamesOwn of call events → RetiresWith by call events → ArePutBy puts of by events answers
    → IsOutcome T R of by call told events answers later

-- **The two models agree on every list.** From each two states that show each other, with the reclaimers, each legal list of events
-- that a call makes alone does what the call does, under whatever fresh numbers.
abbrev pub AgreementOnLists : {T R : Type 0} → (R → T → List T) → (T → ℕ) → Type 0
AgreementOnLists {T} {R} puts weight =
    (of : ℕ → T) (by : ℕ → R) (st : waiting.ModelState T R) (before : machine.State) (call : Call T R) → HasLink st call
    → ShowsState T R of st before → ShowsReclaimers T R of by st before → EachList puts of by call st before (step puts weight st call)

-- each call is such a list of events, from where those of the call before it ended, and one naming serves them all
abbrev pub AreRuns : {T R : Type 0} → (R → T → List T) → (T → ℕ) → (ℕ → T) → waiting.ModelState T R → machine.State → List (Call T R)
    → Type 0
AreRuns puts weight of st before [] = Unit {0}
AreRuns {T} {R} puts weight of st before (call ∷ calls) =
    (first : IsRun T R of call st before (step puts weight st call))
    × AreRuns puts weight of (step puts weight st call).1.0 first.later calls

-- **The two models agree on values of every type**, also where no naming has fresh numbers for all of them. From each two states
-- that show each other under a naming, each list of calls has a naming under which these states show each other and each call in
-- turn is a list of events. It differs from the first naming at none of the numbers `kept`, which may be any list, such as all
-- that were ever named.
abbrev pub AgreementAnew : {T R : Type 0} → (R → T → List T) → (T → ℕ) → Type 0
AgreementAnew {T} {R} puts weight =
    (of : ℕ → T) (kept : List ℕ) (st : waiting.ModelState T R) (before : machine.State) (calls : List (Call T R))
    → All (HasLink st) calls → ShowsState T R of st before
    → (other : ℕ → T) × (map other kept ≡ map of kept) × ShowsState T R other st before × AreRuns puts weight other st before calls
