-- Links that stand still, in one caller's hands.
--     LinksHold code links held ls     each link stands still, and holds what these lists say, by its name and by its value: with the name
--                              the code of the value is lent
use Rattle.std.specs.Prelude.{ℕ, ◌<◌, List, Option, None, slice_index_or}
use base.Stored.{Gv}
use Rattle.seize_words.specs.Named.{link_count}
use Rattle.seize_words.specs.Rows.{StandsAt}
use Rattle.seize_words.specs.declared.link.row.Links.{Links}
use Rattle.seize_alone.specs.Events.{IsHeldAs}

abbrev pub LinksHold : {T : Type 0} → (T → Gv) → Links → List (Option ℕ) → List (Option T) → Type 0
LinksHold code links held ls =
    (l : ℕ) → l < link_count links
    → StandsAt links l (slice_index_or held l None) × IsHeldAs code (slice_index_or held l None) (slice_index_or ls l None)
