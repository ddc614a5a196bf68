-- Worked runs of the machine at size 1, from the opening with no slot made: for each the events, their answers under the same
-- name with `_answers`.
use Rattle.std.specs.Prelude.{ℕ, pos, negsuc, Bool, true, false, ◌&&◌, List, [], ◌∷◌, ◌++◌, is_none}
use Rattle.std.specs.List.{list_all}
use Rattle.seize_machine.specs.Machine.State.{opening}
use Rattle.seize_machine.specs.Machine.Event.{Event, Take, Enter, Begin, Put, ReadHead, Detach, Insert, AddCount, SwapOut, SubCount, Hand, Return}
use Rattle.seize_machine.specs.Machine.Next.{next}
use Rattle.seize_machine.specs.Machine.History.{Moment, at_size, history, end_of}
use Rattle.seize_machine.specs.declared.machine.event.Job.TheVariants.{Retire, Leave}
use Rattle.seize_machine.specs.declared.machine.event.Try.TheVariants.{Won, Lost}
use Rattle.seize_machine.specs.declared.machine.event.Answer.{Answer}
use Rattle.seize_machine.specs.declared.machine.event.Answer.TheVariants.{Done, Head as HeadRead, Count, Handed}

-- slots 0 and 1 are made, slot 1 becomes active, and slot 0 retires 7 and takes its batch, marked for slot 1
abbrev pub up_to_detach : List Event
up_to_detach = Take 0 ∷ Take 1 ∷ Enter 1 ∷ Begin 0 (Retire 7) ∷ Put 0 ∷ ReadHead 0 0 ∷ ReadHead 0 1 ∷ Detach 0 ∷ []

abbrev pub up_to_detach_answers : List Answer
up_to_detach_answers = Done ∷ Done ∷ Done ∷ Done ∷ Done ∷ HeadRead false ∷ HeadRead true ∷ Done ∷ []

-- slot 0 inserts, and slot 1 leaves and counts the batch down to -1
abbrev pub up_to_walk : List Event
up_to_walk = up_to_detach ++ ReadHead 0 1 ∷ Insert 0 1 Won ∷ Begin 1 Leave ∷ SwapOut 1 ∷ SubCount 1 ∷ Return 1 ∷ []

abbrev pub up_to_walk_answers : List Answer
up_to_walk_answers = up_to_detach_answers ++ HeadRead true ∷ Done ∷ Done ∷ Done ∷ Count (negsuc 0) ∷ Done ∷ []

-- **Walker first.** Slot 1 counts the batch down before slot 0 adds its insertion, and slot 0 hands 7.
abbrev pub walker_first : List Event
walker_first = up_to_walk ++ AddCount 0 ∷ Hand 0 [] ∷ Return 0 ∷ []

abbrev pub walker_first_answers : List Answer
walker_first_answers = up_to_walk_answers ++ Count (pos 0) ∷ Handed 7 ∷ Done ∷ []

-- slot 1 leaves before slot 0 inserts
abbrev pub up_to_leave : List Event
up_to_leave = up_to_detach ++ Begin 1 Leave ∷ SwapOut 1 ∷ Return 1 ∷ []

abbrev pub up_to_leave_answers : List Answer
up_to_leave_answers = up_to_detach_answers ++ Done ∷ Done ∷ Done ∷ []

-- **Left before insertion.** Nothing is inserted, and slot 0 hands 7.
abbrev pub left_before_insertion : List Event
left_before_insertion = up_to_leave ++ ReadHead 0 1 ∷ AddCount 0 ∷ Hand 0 [] ∷ Return 0 ∷ []

abbrev pub left_before_insertion_answers : List Answer
left_before_insertion_answers = up_to_leave_answers ++ HeadRead false ∷ Count (pos 0) ∷ Handed 7 ∷ Done ∷ []

-- **Back before insertion.** Slot 1 leaves and enters again before slot 0 inserts: the batch is inserted, and slot 1 hands 7
-- when it leaves again.
abbrev pub back_before_insertion : List Event
back_before_insertion =
    up_to_leave ++ Enter 1 ∷ ReadHead 0 1 ∷ Insert 0 1 Won ∷ AddCount 0 ∷ Return 0
    ∷ Begin 1 Leave ∷ SwapOut 1 ∷ SubCount 1 ∷ Hand 1 [] ∷ Return 1 ∷ []

abbrev pub back_before_insertion_answers : List Answer
back_before_insertion_answers =
    up_to_leave_answers ++ Done ∷ HeadRead true ∷ Done ∷ Count (pos 1) ∷ Done
    ∷ Done ∷ Done ∷ Count (pos 0) ∷ Handed 7 ∷ Done ∷ []

-- of three slots, slot s retires v and takes its batch, marked for slot 1
abbrev pub detached_of_three : ℕ → ℕ → List Event
detached_of_three s v = Begin s (Retire v) ∷ Put s ∷ ReadHead s 0 ∷ ReadHead s 1 ∷ ReadHead s 2 ∷ Detach s ∷ []

abbrev pub detached_of_three_answers : List Answer
detached_of_three_answers = Done ∷ Done ∷ HeadRead false ∷ HeadRead true ∷ HeadRead false ∷ Done ∷ []

-- slot 1 is active, slot 0 has detached 1, and slot 2 has detached 2
abbrev pub detached_twice : List Event
detached_twice = Take 0 ∷ Take 1 ∷ Take 2 ∷ Enter 1 ∷ detached_of_three 0 1 ++ detached_of_three 2 2

abbrev pub detached_twice_answers : List Answer
detached_twice_answers = Done ∷ Done ∷ Done ∷ Done ∷ detached_of_three_answers ++ detached_of_three_answers

-- **Two insertions.** Slots 0 and 2 insert into the list of slot 1 at once, and slot 2 loses once; slot 1 hands the batch
-- inserted last first.
abbrev pub two_insertions : List Event
two_insertions =
    detached_twice ++ ReadHead 0 1 ∷ ReadHead 2 1 ∷ Insert 0 1 Won ∷ Insert 2 1 Lost ∷ ReadHead 2 1 ∷ Insert 2 1 Won
    ∷ AddCount 0 ∷ AddCount 2 ∷ Return 0 ∷ Return 2
    ∷ Begin 1 Leave ∷ SwapOut 1 ∷ SubCount 1 ∷ Hand 1 [] ∷ SubCount 1 ∷ Hand 1 [] ∷ Return 1 ∷ []

abbrev pub two_insertions_answers : List Answer
two_insertions_answers =
    detached_twice_answers ++ HeadRead true ∷ HeadRead true ∷ Done ∷ Done ∷ HeadRead true ∷ Done
    ∷ Count (pos 1) ∷ Count (pos 1) ∷ Done ∷ Done
    ∷ Done ∷ Done ∷ Count (pos 0) ∷ Handed 2 ∷ Count (pos 0) ∷ Handed 1 ∷ Done ∷ []

-- slot 2 is made and becomes active before slot 0 adds its insertion
abbrev pub added_beside_active : List Event
added_beside_active = up_to_walk ++ Take 2 ∷ Enter 2 ∷ AddCount 0 ∷ []

-- **Entered before the add.** The count is as without slot 2, and slot 0 hands 7 while slot 2 is active.
abbrev pub entered_before_add : List Event
entered_before_add = added_beside_active ++ Hand 0 [] ∷ Return 0 ∷ []

abbrev pub entered_before_add_answers : List Answer
entered_before_add_answers = up_to_walk_answers ++ Done ∷ Done ∷ Count (pos 0) ∷ Handed 7 ∷ Done ∷ []

-- the history of some events at size 1, from the opening with no slot made
abbrev pub history_of : List Event → List Moment
history_of events = history next (opening 0 []) (at_size 1 events)

-- whether an event is illegal before each moment of a run, and after the last
abbrev pub is_illegal_throughout : Event → List Moment → Bool
is_illegal_throughout event ms = list_all (λ m. is_none (next 1 m.before event)) ms && is_none (next 1 (end_of (opening 0 []) ms) event)
