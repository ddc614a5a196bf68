-- Which entries say of values what is kept of them (see `Kept`): those whose events retire values, or put them.
--     retires_by event     the values of which the entry of this event may say something
--     SaysAll e            it says something of each of them;  AllSay log     so does each entry of the list
use Rattle.std.specs.Prelude.{◌≤◌, ℕ, List, [], ◌∷◌, length}
use Rattle.seize_machine.specs.Machine.Event.{Event, Begin, Hand}
use Rattle.seize_machine.specs.declared.machine.event.Job.TheVariants.{Retire}
use Rattle.seize_book.specs.Entry.{Entry, Made, Used}

abbrev pub retires_by : Event → List ℕ
retires_by (Begin s (Retire v)) = v ∷ []
retires_by (Hand s puts) = puts
retires_by _ = []

abbrev pub SaysAll : Entry → Type 0
SaysAll (Made d) = length (retires_by d.event) ≤ length d.kepts
SaysAll (Used u) = Unit {0}

abbrev pub AllSay : List Entry → Type 0
AllSay [] = Unit {0}
AllSay (e ∷ log) = SaysAll e × AllSay log
