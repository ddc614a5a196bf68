-- What shows that an activation has not ended owns.
--     lasting κ n a seen       the activation with lifetime a has not ended while κ lasts; and this was seen of the list of book n
use Rattle.std.specs.Prelude.{ℕ, List, [], ◌∷◌}
use base.Before.{before}
use base.Fml.{Lft, Fml, fsep}
use Rattle.seize_book.specs.Begin.{book_owns}
use Rattle.seize_book.specs.Entry.{Entry}
use Rattle.seize_book.specs.Tokens.{Name}

abbrev pub lasting : Lft → Name → ℕ → List Entry → Fml
lasting κ n a seen = fsep (before κ (a ∷ [])) (book_owns n seen)
