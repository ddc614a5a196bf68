use Rattle.std.proofs.Common.{◌≡◌, ℕ, ◌+◌, length}
use Rattle.seize_book.specs.Begin.{first_links}
use Rattle.seize_words.specs.LinkRows.{AllAt, IsLinkAt}
use Rattle.seize_words.specs.Stands.{IsSharedLink}
use Rattle.seize_words.proofs.link.row.Links.row.Given as goal

-- so many links stand in the row, and the keys of the rest are left
abbrev pub invariant-loop : goal.invariant-loop
invariant-loop l =
    (l.left.keys.name ≡ l.initial.left.keys.name)
    × ((length l.row.items ≡ l.counter) × AllAt (λ k link. IsLinkAt l.initial.left.keys.name k link × IsSharedLink link) l.row.items)
    × ((rest : ℕ) × (l.counter + rest ≡ l.many) × (l.left.keys.held ≡ first_links l.counter rest))
