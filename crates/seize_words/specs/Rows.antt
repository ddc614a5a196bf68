-- The words in which contracts speak of the links of a book: whether threads share them, or they stand still.
--     IsSharedAt links l      threads share link l;  AreShared links    they share each of them
--     StandsAt links l held   link l stands still, and holds this value, or none;  AllStand links st    each does, and holds what it holds
--                             in the machine's state st
--     IsSameBut l links links'     they are of the same book, and each other link that stood still does so, and holds what it held
use Rattle.std.specs.Prelude.{◌≡◌, ℕ, ◌<◌, Option, length, slice_index_or}
use Rattle.seize_machine.specs.Machine.State.{State, link_at}
use Rattle.seize_words.specs.LinkRows.{AllAt}
use Rattle.seize_words.specs.Stands.{IsSharedLink, Stands}
use Rattle.seize_words.specs.declared.link.Link.{Link}
use Rattle.seize_words.specs.declared.link.row.Links.{Links}

abbrev pub IsSharedAt : Links → ℕ → Type 0
IsSharedAt links l = (d : Link) → l < length links.row.items → IsSharedLink (slice_index_or links.row.items l d)

abbrev pub AreShared : Links → Type 0
AreShared links = AllAt (λ _ link. IsSharedLink link) links.row.items

abbrev pub StandsAt : Links → ℕ → Option ℕ → Type 0
StandsAt links l held = (d : Link) → l < length links.row.items → Stands (slice_index_or links.row.items l d) held

abbrev pub AllStand : Links → State → Type 0
AllStand links st = (l : ℕ) → StandsAt links l (link_at st l)

abbrev pub IsSameBut : ℕ → Links → Links → Type 0
IsSameBut l links links' =
    (links'.book ≡ links.book) × ((k : ℕ) (held : Option ℕ) → ¬ (k ≡ l) → StandsAt links k held → StandsAt links' k held)
