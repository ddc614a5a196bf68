use Rattle.std.proofs.Common.{◌≡◌, ℕ, None, Some, get_or, length}
use Rattle.seize_words.specs.Joined.{words_book}
use Rattle.seize_parts.specs.Placing.{MayLay}
use Rattle.seize_parts.specs.declared.alone.place.Place.{Place}
use Rattle.seize_parts.proofs.alone.shelving.lay_all.Given as goal

abbrev pub invariant-loop-n : goal.invariant-loop-n
invariant-loop-n g l =
    (length l.places.items ≡ length l.fn.places.items) × ((s : ℕ) (place : Place g.row.T.Denot) → get_or l.places.items s None ≡ Some place → MayLay (words_book l.words) place)
