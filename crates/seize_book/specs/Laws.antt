-- What the machine's laws say of the book where a value goes to its reclaimer, and lifetimes: each activation of a slot has one, and
-- it is over when the slot leaves or refreshes.
--     NotHanded st log v   no event of the list handed v to its reclaimer
--     WasRetired st log v  an event of the list retired v;  AllLeft st log q    each slot that was active before event q has left or
--                          refreshed since
--     Reader st log v a    a is the lifetime of an activation in which a slot found v in a link
--     ended_lives log      the lifetimes of the activations that the list ended, in order
--     AllOver st log v     of each activation in which a slot found v, the lifetime is among these; where a book's invariant stands,
--                          these are over
--     life s log           the lifetime of the last activation of slot s that the list began
use Rattle.std.specs.Prelude.{◌≡◌, ℕ, ◌==◌, Bool, false, List, [], ◌∷◌, ◌++◌, take, length, if◌then◌else◌, ◌⊎◌}
use Rattle.seize_machine.specs.Machine.State.{State}
use Rattle.seize_machine.specs.Machine.Event.{Event, Enter, SwapOut}
use Rattle.seize_machine.specs.Machine.History.{Found, HasParted, IsActiveAt, Reclaimed, Retired}
use Rattle.seize_book.specs.After.{moments}
use Rattle.seize_book.specs.Entry.{Entry, Made, Used, Deed, deeds}

abbrev pub NotHanded : State → List Entry → ℕ → Type 0
NotHanded st log v = (c : ℕ) → ¬ (Reclaimed (moments st log) v c)

-- each slot that found v in a link has left or refreshed since
abbrev pub AllParted : State → List Entry → ℕ → Type 0
AllParted st log v = (s i : ℕ) → Found (moments st log) s v i → HasParted (moments st log) s i (length (deeds log))

-- it appended v to a slot's batch
abbrev pub WasRetired : State → List Entry → ℕ → Type 0
WasRetired st log v = (q : ℕ) × Retired (moments st log) v q

abbrev pub AllLeft : State → List Entry → ℕ → Type 0
AllLeft st log q = (s : ℕ) → IsActiveAt (moments st log) s q → HasParted (moments st log) s q (length (deeds log))

-- whether the event begins an activation of slot s; one that swaps a head out does where it refreshes, and else the lifetime is not used
abbrev pub starts : ℕ → Event → Bool
starts s (Enter t) = t == s
starts s (SwapOut t) = t == s
starts s _ = false

abbrev pub life_from : ℕ → ℕ → List Deed → ℕ
life_from a s [] = a
life_from a s (d ∷ ds) = life_from (if starts s d.event then d.life else a) s ds

abbrev pub life : ℕ → List Entry → ℕ
life s log = life_from 0 s (deeds log)

abbrev pub lives_after : (ℕ → ℕ) → Deed → ℕ → ℕ
lives_after lives d s = if starts s d.event then d.life else lives s

abbrev pub ended_by : (ℕ → ℕ) → Event → List ℕ
ended_by lives (SwapOut s) = lives s ∷ []
ended_by lives _ = []

abbrev pub ended_from : (ℕ → ℕ) → List Deed → List ℕ
ended_from lives [] = []
ended_from lives (d ∷ ds) = ended_by lives d.event ++ ended_from (lives_after lives d) ds

-- and by an entry
abbrev pub ended_in : (ℕ → ℕ) → Entry → List ℕ
ended_in lives (Made d) = ended_by lives d.event
ended_in lives (Used u) = []

-- at an opening no slot is active
abbrev pub none_alive : ℕ → ℕ
none_alive s = 0

abbrev pub ended_lives : List Entry → List ℕ
ended_lives log = ended_from none_alive (deeds log)

abbrev pub Reader : State → List Entry → ℕ → ℕ → Type 0
Reader st log v a = (i : ℕ) × (s : ℕ) × Found (moments st log) s v i × (a ≡ life_from 0 s (take i (deeds log)))

abbrev pub IsAmong : List ℕ → ℕ → Type 0
IsAmong [] a = ⊥
IsAmong (x ∷ xs) a = (x ≡ a) ⊎ IsAmong xs a

abbrev pub AllOver : State → List Entry → ℕ → Type 0
AllOver st log v = (a : ℕ) → Reader st log v a → IsAmong (ended_lives log) a
