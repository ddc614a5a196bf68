-- Legal lists of events at one size, and what they tell.
use Rattle.std.specs.Prelude.{◌≡◌, ◌↔◌, ℕ, List, [], ◌∷◌, Option, Some, None, is_some}
use Rattle.seize_machine.specs.Machine.State.{State}
use Rattle.seize_machine.specs.Machine.Event.{Event, Take}
use Rattle.seize_machine.specs.Machine.Next.{next}
use Rattle.seize_machine.specs.Machine.History.{at_size, Legal}
use Rattle.seize_machine.specs.declared.machine.event.Answer.{Answer}
use Rattle.seize_machine.specs.declared.machine.event.Answer.TheVariants.{Link}
use Rattle.seize_model.specs.Waiting.Lists.{Call, Register, EnterOwned, End, Protect, Reply, Done, Number, Kept, Found}

-- one event before a list
abbrev pub with_answer : Answer → Option (State × List Answer) → Option (State × List Answer)
with_answer answer None = None
with_answer answer (Some r) = Some (r.0, answer ∷ r.1)

-- the state after these events, and their answers, or none where one is illegal
abbrev pub play : ℕ → State → List Event → Option (State × List Answer)
play size st [] = Some (st, [])
play size st (e ∷ es) = elim (next size st e) [ None ↦ None | Some d ↦ with_answer d.1 (play size d.0 es) ]

-- **These are the machine's legal lists**, at one size
abbrev pub PlaysAreLegal : Type 0
PlaysAreLegal =
    (size : ℕ) (st later : State) (events : List Event) (answers : List Answer)
    → (play size st events ≡ Some (later, answers)) ↔ Legal next st (at_size size events) answers later

-- The reply to a call that is not refused, by its events and their answers.

-- the number that the first event takes
abbrev pub number_taken : {T : Type 0} → List Event → Reply T
number_taken (Take n ∷ es) = Number n
number_taken _ = Done

-- a slot that has ended was given back
abbrev pub was_given : {T : Type 0} → List Event → Reply T
was_given [] = Kept
was_given (e ∷ es) = Done

-- what the first answer found in a link
abbrev pub was_found : {T : Type 0} → List Answer → Reply T
was_found (Link found ∷ answers) = Found (is_some found)
was_found _ = Done

abbrev pub reply_by : {T R : Type 0} → Call T R → List Event → List Answer → Reply T
reply_by Register events answers = number_taken events
reply_by EnterOwned events answers = number_taken events
reply_by (End s) events answers = was_given events
reply_by (Protect s l) events answers = was_found answers
reply_by _ events answers = Done
