-- The same calls in other orders, at size 1 from the opening with no slot made: for each order the events, their answers under
-- the same name with `_answers`.
use Rattle.std.specs.Prelude.{pos, true, false, List, [], ◌∷◌, ◌++◌}
use Rattle.seize_machine.specs.Machine.Event.{Event, Take, Enter, Begin, Put, ReadHead, Detach, Insert, AddCount, SwapOut, SubCount, Hand, Return}
use Rattle.seize_machine.specs.Machine.Rows.{detached_twice, detached_twice_answers}
use Rattle.seize_machine.specs.declared.machine.event.Job.TheVariants.{Retire, Leave}
use Rattle.seize_machine.specs.declared.machine.event.Try.TheVariants.{Won, Lost}
use Rattle.seize_machine.specs.declared.machine.event.Answer.{Answer}
use Rattle.seize_machine.specs.declared.machine.event.Answer.TheVariants.{Done, Head as HeadRead, Count, Handed, Illegal}

-- Slots 0 and 1 are made, and slot 1 is active; slot 0 retires 7, and slot 1 leaves. `walker_first` is one order of this.
abbrev pub entered : List Event
entered = Take 0 ∷ Take 1 ∷ Enter 1 ∷ []

abbrev pub entered_answers : List Answer
entered_answers = Done ∷ Done ∷ Done ∷ []

-- slot 1 leaves with nothing to count down
abbrev pub leaves : List Event
leaves = Begin 1 Leave ∷ SwapOut 1 ∷ Return 1 ∷ []

abbrev pub leaves_answers : List Answer
leaves_answers = Done ∷ Done ∷ Done ∷ []

-- slot 0 retires, inserts, adds and returns before slot 1 leaves: slot 1 hands 7
abbrev pub retire_first : List Event
retire_first =
    entered ++ Begin 0 (Retire 7) ∷ Put 0 ∷ ReadHead 0 0 ∷ ReadHead 0 1 ∷ Detach 0
    ∷ ReadHead 0 1 ∷ Insert 0 1 Won ∷ AddCount 0 ∷ Return 0
    ∷ Begin 1 Leave ∷ SwapOut 1 ∷ SubCount 1 ∷ Hand 1 [] ∷ Return 1 ∷ []

abbrev pub retire_first_answers : List Answer
retire_first_answers =
    entered_answers ++ Done ∷ Done ∷ HeadRead false ∷ HeadRead true ∷ Done
    ∷ HeadRead true ∷ Done ∷ Count (pos 1) ∷ Done
    ∷ Done ∷ Done ∷ Count (pos 0) ∷ Handed 7 ∷ Done ∷ []

-- slot 1 leaves before 7 is put in the batch: nothing is marked, and slot 0 hands 7
abbrev pub left_before_put : List Event
left_before_put =
    entered ++ Begin 0 (Retire 7) ∷ leaves
    ++ Put 0 ∷ ReadHead 0 0 ∷ ReadHead 0 1 ∷ Detach 0 ∷ AddCount 0 ∷ Hand 0 [] ∷ Return 0 ∷ []

abbrev pub left_before_put_answers : List Answer
left_before_put_answers =
    entered_answers ++ Done ∷ leaves_answers
    ++ Done ∷ HeadRead false ∷ HeadRead false ∷ Done ∷ Count (pos 0) ∷ Handed 7 ∷ Done ∷ []

-- slot 1 leaves when slot 0 has read its head and is about to insert: no insertion can be won, and slot 0 hands 7
abbrev pub left_before_attempt : List Event
left_before_attempt =
    entered ++ Begin 0 (Retire 7) ∷ Put 0 ∷ ReadHead 0 0 ∷ ReadHead 0 1 ∷ Detach 0 ∷ ReadHead 0 1 ∷ leaves
    ++ Insert 0 1 Won ∷ Insert 0 1 Lost ∷ ReadHead 0 1 ∷ AddCount 0 ∷ Hand 0 [] ∷ Return 0 ∷ []

abbrev pub left_before_attempt_answers : List Answer
left_before_attempt_answers =
    entered_answers ++ Done ∷ Done ∷ HeadRead false ∷ HeadRead true ∷ Done ∷ HeadRead true ∷ leaves_answers
    ++ Illegal ∷ Done ∷ HeadRead false ∷ Count (pos 0) ∷ Handed 7 ∷ Done ∷ []

-- Of three slots, slot 1 is active; slots 0 and 2 have detached 1 and 2, and slot 1 leaves. `two_insertions` is one order of
-- this.

-- slot 2 finishes, slot 0 finishes, and slot 1 leaves: slot 1 hands 1, which was inserted last, and then 2
abbrev pub second_finishes_first : List Event
second_finishes_first =
    detached_twice ++ ReadHead 2 1 ∷ Insert 2 1 Won ∷ AddCount 2 ∷ Return 2
    ∷ ReadHead 0 1 ∷ Insert 0 1 Won ∷ AddCount 0 ∷ Return 0
    ∷ Begin 1 Leave ∷ SwapOut 1 ∷ SubCount 1 ∷ Hand 1 [] ∷ SubCount 1 ∷ Hand 1 [] ∷ Return 1 ∷ []

abbrev pub second_finishes_first_answers : List Answer
second_finishes_first_answers =
    detached_twice_answers ++ HeadRead true ∷ Done ∷ Count (pos 1) ∷ Done
    ∷ HeadRead true ∷ Done ∷ Count (pos 1) ∷ Done
    ∷ Done ∷ Done ∷ Count (pos 0) ∷ Handed 1 ∷ Count (pos 0) ∷ Handed 2 ∷ Done ∷ []

-- slot 1 leaves first: slots 0 and 2 skip it, and each hands its own value
abbrev pub left_before_both : List Event
left_before_both =
    detached_twice ++ leaves
    ++ ReadHead 0 1 ∷ AddCount 0 ∷ Hand 0 [] ∷ Return 0
    ∷ ReadHead 2 1 ∷ AddCount 2 ∷ Hand 2 [] ∷ Return 2 ∷ []

abbrev pub left_before_both_answers : List Answer
left_before_both_answers =
    detached_twice_answers ++ leaves_answers
    ++ HeadRead false ∷ Count (pos 0) ∷ Handed 1 ∷ Done
    ∷ HeadRead false ∷ Count (pos 0) ∷ Handed 2 ∷ Done ∷ []
