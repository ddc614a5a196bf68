-- What a call makes between its beginning and its return.
--     events_made made, answers_made made     the events, and their answers, in order
--     AllWork size s made     all these events are of slot s, at this size, none of a link, and none a return
--     AllSized size made      all are at this size
--     hands_of made           the values handed, each with the numbers that were put with it, and their words
use Rattle.std.proofs.Common.{◌≡◌, ℕ, false, List, [], ◌∷◌, ◌++◌, map, refl, ap, ◌∙◌}
use Rattle.seize_machine.specs.Machine.Event.{Event, Hand, Return, event_slot}
use Rattle.seize_machine.specs.Machine.History.{handed as handed_by, is_link_event}
use Rattle.seize_machine.specs.declared.machine.event.Answer.{Answer}
use Rattle.seize_machine.specs.declared.machine.event.Answer.TheVariants.{Count, Done, Handed, Head, Illegal, Link}
use Rattle.seize_model.specs.Agreement.Events.{IsToReturn, is_return}
use Rattle.seize_book.specs.Entry.{Deed}
use Rattle.seize_book.specs.declared.book.pass.Pass.{Pass}
use Rattle.seize_calls.specs.Handing.{Handings, values_handed}
use Rattle.seize_calls.specs.Settling.{done_event}

abbrev pub events_made : List (Deed × Answer) → List Event
events_made made = map (λ a. a.0.event) made

abbrev pub answers_made : List (Deed × Answer) → List Answer
answers_made made = map (λ a. a.1) made

abbrev pub IsWork : ℕ → ℕ → Deed × Answer → Type 0
IsWork size s a = (a.0.size ≡ size) × (event_slot a.0.event ≡ s) × (is_link_event s a.0.event ≡ false) × (is_return a.0.event ≡ false)

abbrev pub AllWork : ℕ → ℕ → List (Deed × Answer) → Type 0
AllWork size s [] = Unit {0}
AllWork size s (a ∷ made) = IsWork size s a × AllWork size s made

abbrev pub AllSized : ℕ → List (Deed × Answer) → Type 0
AllSized size [] = Unit {0}
AllSized size (a ∷ made) = (a.0.size ≡ size) × AllSized size made

abbrev pub puts_of : Event → List ℕ
puts_of (Hand s ns) = ns
puts_of _ = []

abbrev pub hand_of : Deed → Answer → Handings → Handings
hand_of d (Handed v) rest = (v, puts_of d.event, d.kepts) ∷ rest
hand_of d _ rest = rest

abbrev pub hands_of : List (Deed × Answer) → Handings
hands_of [] = []
hands_of (a ∷ made) = hand_of a.0 a.1 (hands_of made)

pub work_append : (size s : ℕ) (a b : List (Deed × Answer)) → AllWork size s a → AllWork size s b → AllWork size s (a ++ b)
work_append size s [] b one two = two
work_append size s (x ∷ a) b one two = (one.0, work_append size s a b one.1 two)

hand_append : (e : Deed) (answer : Answer) (one two : Handings) → hand_of e answer (one ++ two) ≡ hand_of e answer one ++ two
hand_append e Done one two = refl
hand_append e (Head found) one two = refl
hand_append e (Count count) one two = refl
hand_append e (Handed v) one two = refl
hand_append e (Link value) one two = refl
hand_append e Illegal one two = refl

pub hands_append : (a b : List (Deed × Answer)) → hands_of (a ++ b) ≡ hands_of a ++ hands_of b
hands_append [] b = refl
hands_append (x ∷ a) b = ap (hand_of x.0 x.1) (hands_append a b) ∙ hand_append x.0 x.1 (hands_of a) (hands_of b)

-- The work, and then the return.

pub to_return : (size s : ℕ) (pass : Pass) (made : List (Deed × Answer)) → AllWork size s made → IsToReturn s (events_made (made ++ done_event pass (Return s)))
to_return size s pass [] work = IsToReturn.returns
to_return size s pass (a ∷ made) work = IsToReturn.goes_on a.0.event (events_made (made ++ done_event pass (Return s))) work.0.1 work.0.2 work.0.3 (to_return size s pass made work.1)

pub sized_so : (size s : ℕ) (pass : Pass) (made : List (Deed × Answer)) → pass.size ≡ size → AllWork size s made → AllSized size (made ++ done_event pass (Return s))
sized_so size s pass [] is work = (is, tt)
sized_so size s pass (a ∷ made) is work = (work.0.0, sized_so size s pass made is work.1)

-- What was handed.

hand_value : (d : Deed) (answer : Answer) (answers : List Answer) (rest : Handings) → handed_by answers ≡ values_handed rest → handed_by (answer ∷ answers) ≡ values_handed (hand_of d answer rest)
hand_value e Done answers rest is = is
hand_value e (Head found) answers rest is = is
hand_value e (Count count) answers rest is = is
hand_value e (Handed v) answers rest is = ap (λ (vs : List ℕ). v ∷ vs) is
hand_value e (Link value) answers rest is = is
hand_value e Illegal answers rest is = is

pub their_values : (made : List (Deed × Answer)) → handed_by (answers_made made) ≡ values_handed (hands_of made)
their_values [] = refl
their_values (a ∷ made) = hand_value a.0 a.1 (answers_made made) (hands_of made) (their_values made)
