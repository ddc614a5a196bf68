-- What was made with a pass, as users see it: the events with their answers, and no more.
--     made_with pass          the events that were made with it, with their answers, in order
--     WasMade x made          this event, with this answer, is among those that were made
--     Makes pass pass' events     the pass has seen a legal list that goes on from what it had seen, and just these events were made with
--                             it since: each stands in that list once, in order, after all that it had seen before
--     IsActiveIn pass s       slot s is active in the list that the pass has seen
--     MakesOne pass pass' event answer     this one event was made
--     MakesNone pass pass'    none was
--     StaysActive s pass pass'    none was, and slot s is active, as the pass has seen then
--     IsStepOf IsPut s step   it is a step of a call of slot s between its begin and its return. Where it hands a value v, the reclaimer
--                             put blocks with the names vs: `IsPut v vs` says of which it may be so;  AreStepsOf IsPut s steps   so is each
--     made_by s st log        the events of slot s in a list that goes on from this state, with their answers, but for steps on links
--     Undivided s pass pass' events     these are all events that slot s made between two points of the list, but for steps on links.
--                             Before the first and after the second no more was made with the pass
--     whole_call s first steps    the events of a call of slot s with this first event and these steps, up to its return
--     MakesWhole IsPut s first pass pass'     such a call was made, with `IsPut` of the pass as it is then, and no other event of the slot
--                             stands between its own (`Undivided`)
--     MakesCall IsPut s job pass pass'     so was one that begins with this job
--     Defers s job pass pass'     a whole call of slot s, and none of its steps hands a value to its reclaimer
--     TakesNumber IsPut s pass pass'    the number of slot s was taken: the event `Take` alone, or a whole call that begins with it
--     TakesAndEnters IsPut s pass pass'    so it was, after which the pass is `taken`, and then the slot entered
--     GivesNumber IsPut s pass pass'    it went back: as many whole calls of slot s to gather, and then the event `Give`
--     LeavesAndGives IsPut s pass pass'    a whole call of slot s to leave, after which the pass is `left`, and then its number went back
--     EndsUse IsPut s pass pass' gave     the use of slot s ended: its number went back; or no event was made, and it is active
--                             (`StaysActive`)
--     Enters s pass pass'     slot s entered; or no event was made, and it is active
--     IsOfKind v kind pass    the retirement of v said that it is of this kind, in what the pass has seen
use Rattle.std.specs.Prelude.{◌≡◌, ◌⊎◌, ℕ, Bool, true, false, map, List, [], ◌∷◌, ◌++◌}
use mathlib.Core.List.{IsPrefix}
use Rattle.seize_machine.specs.Machine.Event.{AddCount, Begin, Detach, Enter, Event, Give, Hand, Insert, Put, ReadHead, Return}
use Rattle.seize_machine.specs.Machine.Event.{SubCount, SwapOut, Take}
use Rattle.seize_machine.specs.Machine.State.{State, head_at, is_active}
use Rattle.seize_machine.specs.declared.machine.event.Answer.{Answer}
use Rattle.seize_machine.specs.declared.machine.event.Answer.TheVariants.{Done, Handed}
use Rattle.seize_machine.specs.declared.machine.event.Job.{Job}
use Rattle.seize_machine.specs.declared.machine.event.Job.TheVariants.{Gather, Leave}
use Rattle.seize_book.specs.Book.{IsLegalList, after, by_slot}
use Rattle.seize_book.specs.Entry.{Deed, Entry}
use Rattle.seize_book.specs.Homesteads.{state_seen}
use Rattle.seize_book.specs.Kept.{IsTold}
use Rattle.seize_book.specs.Passes.{IsSamePass, events_by, events_in}
use Rattle.seize_book.specs.Tokens.{start}
use Rattle.seize_book.specs.declared.book.pass.Pass.{Pass}

abbrev pub made_with : Pass → List (Event × Answer)
made_with pass = map (λ (made : Deed × Answer). (made.0.event, made.1)) (events_by pass)

abbrev pub WasMade : Event × Answer → List (Event × Answer) → Type 0
WasMade x [] = ⊥
WasMade x (y ∷ made) = (y ≡ x) ⊎ WasMade x made

pub record Makes (pass pass' : Pass) (events : List (Event × Answer)) : Type 0 where
  pub same : IsSamePass pass pass'
  pub grows : IsPrefix pass.seen pass'.seen
  pub legal : IsLegalList (start pass'.name) pass'.seen
  pub made : made_with pass' ≡ made_with pass ++ events

abbrev pub MakesOne : Pass → Pass → Event → Answer → Type 0
MakesOne pass pass' event answer = Makes pass pass' ((event, answer) ∷ [])

abbrev pub MakesNone : Pass → Pass → Type 0
MakesNone pass pass' = Makes pass pass' []

abbrev pub IsActiveIn : Pass → ℕ → Type 0
IsActiveIn pass s = is_active (head_at (after (start pass.name) pass.seen) s) ≡ true

abbrev pub StaysActive : ℕ → Pass → Pass → Type 0
StaysActive s pass pass' = MakesNone pass pass' × IsActiveIn pass' s

abbrev pub Enters : ℕ → Pass → Pass → Type 0
Enters s pass pass' = MakesOne pass pass' (Enter s) Done ⊎ StaysActive s pass pass'

abbrev pub IsOfKind : ℕ → ℕ → Pass → Type 0
IsOfKind v kind pass = IsTold pass.seen v kind

abbrev pub IsStepOf : (ℕ → List ℕ → Type 0) → ℕ → Event × Answer → Type 0
IsStepOf IsPut s (Put t, answer) = t ≡ s
IsStepOf IsPut s (ReadHead t n, answer) = t ≡ s
IsStepOf IsPut s (Detach t, answer) = t ≡ s
IsStepOf IsPut s (Insert t n end, answer) = t ≡ s
IsStepOf IsPut s (AddCount t, answer) = t ≡ s
IsStepOf IsPut s (SwapOut t, answer) = t ≡ s
IsStepOf IsPut s (SubCount t, answer) = t ≡ s
IsStepOf IsPut s (Hand t vs, Handed v) = (t ≡ s) × IsPut v vs
IsStepOf IsPut s _ = ⊥

abbrev pub AreStepsOf : (ℕ → List ℕ → Type 0) → ℕ → List (Event × Answer) → Type 0
AreStepsOf IsPut s [] = Unit {0}
AreStepsOf IsPut s (step ∷ steps) = IsStepOf IsPut s step × AreStepsOf IsPut s steps

abbrev pub made_by : ℕ → State → List Entry → List (Event × Answer)
made_by s st log = map (λ (made : Deed × Answer). (made.0.event, made.1)) (events_in (by_slot st s log))

pub record Undivided (s : ℕ) (pass pass' : Pass) (events : List (Event × Answer)) : Type 0 where
  pub begun : Pass
  pub before : MakesNone pass begun
  pub ended : Pass
  pub between : List Entry
  pub goes_on : ended.seen ≡ begun.seen ++ between
  pub only : made_by s (state_seen begun) between ≡ events
  pub after : MakesNone ended pass'

abbrev pub whole_call : ℕ → Event → List (Event × Answer) → List (Event × Answer)
whole_call s first steps = (first, Done) ∷ steps ++ (Return s, Done) ∷ []

pub record MakesWhole (IsPut : Pass → ℕ → List ℕ → Type 0) (s : ℕ) (first : Event) (pass pass' : Pass) : Type 0 where
  pub steps : List (Event × Answer)
  pub its : AreStepsOf (IsPut pass') s steps
  pub made : Makes pass pass' (whole_call s first steps)
  pub undivided : Undivided s pass pass' (whole_call s first steps)

abbrev pub MakesCall : (Pass → ℕ → List ℕ → Type 0) → ℕ → Job → Pass → Pass → Type 0
MakesCall IsPut s job pass pass' = MakesWhole IsPut s (Begin s job) pass pass'

abbrev pub Defers : ℕ → Job → Pass → Pass → Type 0
Defers s job pass pass' = MakesCall (λ _ _ _. ⊥) s job pass pass'

abbrev pub TakesNumber : (Pass → ℕ → List ℕ → Type 0) → ℕ → Pass → Pass → Type 0
TakesNumber IsPut s pass pass' = MakesOne pass pass' (Take s) Done ⊎ MakesWhole IsPut s (Take s) pass pass'

pub data GivesNumber (IsPut : Pass → ℕ → List ℕ → Type 0) (s : ℕ) : Pass → Pass → Type 0 where
  gives : (pass pass' : Pass) → MakesOne pass pass' (Give s) Done → GivesNumber IsPut s pass pass'
  gathers : (pass mid pass' : Pass) → MakesCall IsPut s Gather pass mid → GivesNumber IsPut s mid pass' → GivesNumber IsPut s pass pass'

abbrev pub TakesAndEnters : (Pass → ℕ → List ℕ → Type 0) → ℕ → Pass → Pass → Type 0
TakesAndEnters IsPut s pass pass' = (taken : Pass) × TakesNumber IsPut s pass taken × MakesOne taken pass' (Enter s) Done

abbrev pub LeavesAndGives : (Pass → ℕ → List ℕ → Type 0) → ℕ → Pass → Pass → Type 0
LeavesAndGives IsPut s pass pass' = (left : Pass) × MakesCall IsPut s Leave pass left × GivesNumber IsPut s left pass'

abbrev pub EndsUse : (Pass → ℕ → List ℕ → Type 0) → ℕ → Pass → Pass → Bool → Type 0
EndsUse IsPut s pass pass' true = GivesNumber IsPut s pass pass'
EndsUse IsPut s pass pass' false = StaysActive s pass pass'
