-- The bound of all batch sizes in the list: the greatest size that the book ever had, which only grows.
--     OneWithin m e, AllWithin m log     the event's size is at most m;  so is that of each event of the list
--     had_size γ m         the greatest size is at least m, for good
--     bounded γ log        what the list's invariant keeps: a part of the right to raise the greatest size, and that all are within it
--     sets_size γ m        the rest of that right: m is the greatest;  first_sizes    as a book begins, with this size
--     size_lent γ m κ      what a `&` lends of that: while κ lasts, m is the greatest
--     is_within γ log      all events of the list are within a size that the book had, for good
use Rattle.std.specs.Prelude.{ℕ, ◌≤◌, List, [], ◌∷◌}
use base.Fml.{Lft, Share, Fml, fsep, fex, fshr_bor}
use base.Growing.{at_least, latest, numbers}
use base.Share.{quarter, three_quarters}
use Rattle.seize_book.specs.Entry.{Entry, Made, Used}
use Rattle.seize_book.specs.Ledger.{fact}

abbrev pub OneWithin : ℕ → Entry → Type 0
OneWithin m (Made d) = d.size ≤ m
OneWithin m (Used u) = Unit {0}

abbrev pub AllWithin : ℕ → List Entry → Type 0
AllWithin m [] = Unit {0}
AllWithin m (e ∷ log) = OneWithin m e × AllWithin m log

abbrev pub had_size : ℕ → ℕ → Fml
had_size γ m = at_least numbers γ m

abbrev pub bound_at : ℕ → List Entry → ℕ → Fml
bound_at γ log m = fsep (latest numbers quarter γ m) (fact (AllWithin m log))

abbrev pub bounded : ℕ → List Entry → Fml
bounded γ log = fex ℕ (bound_at γ log)

abbrev pub size_part : ℕ → ℕ → Share → Fml
size_part γ m q = latest numbers q γ m

abbrev pub sets_size : ℕ → ℕ → Fml
sets_size γ m = size_part γ m three_quarters

-- as a book begins, with this size
abbrev pub first_sizes : ℕ → ℕ → Fml
first_sizes γ m = fsep (had_size γ m) (sets_size γ m)

abbrev pub size_lent : ℕ → ℕ → Lft → Fml
size_lent γ m κ = fshr_bor κ (size_part γ m)

abbrev pub within_at : ℕ → List Entry → ℕ → Fml
within_at γ log m = fsep (had_size γ m) (fact (AllWithin m log))

abbrev pub is_within : ℕ → List Entry → Fml
is_within γ log = fex ℕ (within_at γ log)
