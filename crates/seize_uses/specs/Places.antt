-- A number that may have moved.
--     number_in place           the number there
--     IsMoved place             it is the mark;  StaysMoved before after     what may follow what in a link: after the mark comes the mark
use Rattle.std.specs.Prelude.{◌≡◌, ℕ, Option, None, Some}
use Rattle.seize_uses.specs.declared.moved.Place.{Place}
use Rattle.seize_uses.specs.declared.moved.Place.TheVariants.{Here, Moved}

abbrev pub number_in : Option Place → Option ℕ
number_in (Some (Here n)) = Some n
number_in (Some Moved) = None
number_in None = None

abbrev pub IsMoved : Option Place → Type 0
IsMoved place = place ≡ Some Moved

abbrev pub StaysMoved : Option Place → Option Place → Type 0
StaysMoved before after = IsMoved before → IsMoved after
