-- The links of a book in a row.
--     IsLinkAt n l link         it is link l of book n
--     AllAt P row               P is so of each link in the row, by its place
--     AreInRow n row            these are all links of the book, in their order
--     AreAllOf left n many      these are the keys of all links of book n, so many, which are empty at its beginning
use Rattle.std.specs.Prelude.{◌≡◌, ℕ, ◌<◌, List, length, replicate, None, slice_index_or}
use Rattle.seize_book.specs.Begin.{first_links}
use Rattle.seize_words.specs.LinkWords.{link_book, link_number}
use Rattle.seize_book.specs.Tokens.{Name}
use Rattle.seize_book.specs.declared.book.link_keys.LinkKeys.{LinkKeys}
use Rattle.seize_words.specs.declared.link.Link.{Link}

abbrev pub IsLinkAt : Name → ℕ → Link → Type 0
IsLinkAt n l link = (link_book link ≡ n) × (link_number link ≡ l)

abbrev pub AllAt : (ℕ → Link → Type 0) → List Link → Type 0
AllAt P row = (l : ℕ) (d : Link) → l < length row → P l (slice_index_or row l d)

abbrev pub AreInRow : Name → List Link → Type 0
AreInRow n row = (length row ≡ length n.links) × AllAt (IsLinkAt n) row

abbrev pub AreAllOf : LinkKeys → Name → ℕ → Type 0
AreAllOf left n many = (left.keys.name ≡ n) × (left.keys.held ≡ first_links 0 many) × (n.links ≡ replicate many None)
