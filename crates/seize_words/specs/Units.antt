-- The token of a lifetime in equal units.
--     all_units          how many there are of one lifetime
--     has_units life n   n of them
use Rattle.std.specs.Prelude.{ℕ, ◌^◌, ◌<◌, ◌≤◌, [], ◌∷◌}
use base.FractionLaws.{Counts}
use base.Fml.{Share, Fml, fex, flft}

abbrev pub all_units : ℕ
all_units = 2 ^ 64

-- as a share it is so many parts of 2 ^ 64
abbrev pub AreUnits : Share → ℕ → Type 0
AreUnits s n = Counts 64 s n × (0 < n) × (n ≤ all_units)

abbrev pub share_of : ℕ → ℕ → Share → Fml
share_of life n s = fex (AreUnits s n) (λ _. flft (life ∷ []) s)

abbrev pub has_units : ℕ → ℕ → Fml
has_units life n = fex Share (share_of life n)
