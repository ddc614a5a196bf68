use Rattle.std.specs.Prelude.{◌≡◌, ℕ, ◌<◌, ◌≤◌, Option, length}
use Rattle.seize_words.specs.LinkRows.{AllAt, IsLinkAt}
use Rattle.seize_words.specs.Stands.{IsSharedLink, Stands}
use Rattle.seize_words.proofs.link.row.stir_all.Given as goal

-- threads share those before this one, and the rest stand still
abbrev pub invariant-loop-l : goal.invariant-loop-l
invariant-loop-l l =
    (length l.row.items ≡ length l.initial.row.items)
    × AllAt (λ k link. IsLinkAt l.initial._book.name k link × (k < l.l → IsSharedLink link) × (l.l ≤ k → (held : Option ℕ) × Stands link held)) l.row.items
