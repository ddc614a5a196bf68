-- The rule of versions.
--     GrowsTo before after      what may follow what in a link: after a version comes no smaller one, and none is taken out. Where nothing
--                               was, any may come
use Rattle.std.specs.Prelude.{◌≤◌, Option, None, Some}
use Rattle.seize_uses.specs.declared.versions.Version.{Version}

abbrev pub GrowsTo : Option Version → Option Version → Type 0
GrowsTo (Some x) (Some y) = x.number ≤ y.number
GrowsTo (Some x) None = ⊥
GrowsTo None y = Unit {0}
