-- The machine after a list of entries, which began at an opening, and what each entry does. A use of a field does nothing to it.
--     moments st log      the events of the list, each with the states before and after it
--     after st log        the machine after the list, which began at st
--     IsLegalList st log  each event is legal, after those before it
--     outcome st e        what the entry does to the machine in this state
--     Does st log e d     after the list, the entry is legal and does this
--     with_answers st log   the entries with their answers, in order
use Rattle.std.specs.Prelude.{◌≡◌, true, List, [], ◌∷◌, Some}
use Rattle.seize_machine.specs.Machine.State.{State}
use Rattle.seize_machine.specs.Machine.Next.{Outcome, next}
use Rattle.seize_machine.specs.Machine.History.{Moment, or_illegal, history, end_of, are_legal}
use Rattle.seize_machine.specs.declared.machine.event.Answer.{Answer}
use Rattle.seize_machine.specs.declared.machine.event.Answer.TheVariants.{Done}
use Rattle.seize_book.specs.Entry.{Entry, Made, Used, events_of}

abbrev pub moments : State → List Entry → List Moment
moments st log = history next st (events_of log)

abbrev pub after : State → List Entry → State
after st log = end_of st (moments st log)

abbrev pub IsLegalList : State → List Entry → Type 0
IsLegalList st log = are_legal (moments st log) ≡ true

abbrev pub outcome : State → Entry → Outcome
outcome st (Made d) = next d.size st d.event
outcome st (Used u) = Some (st, Done)

abbrev pub Does : State → List Entry → Entry → State × Answer → Type 0
Does st log e d = outcome (after st log) e ≡ Some d

abbrev pub with_answers : State → List Entry → List (Entry × Answer)
with_answers st [] = []
with_answers st (e ∷ log) = let done = or_illegal st (outcome st e) in (e, done.1) ∷ with_answers done.0 log
