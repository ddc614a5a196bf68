-- A cell whose value stays what it is known for, in clauses.
--     SteadyName                       what the cell is: its name, which nothing else has, and the label of its value
--     keeps label sound n x            the value x has this label, and is sound
use Rattle.core.specs.Prelude.{◌≡◌, ℕ}
use Rattle.std.specs.Coded.{code_by}
use mathlib.Core.Path.{refl}
use base.Stored.{Coded, coded_ℕ, coded×}

pub record SteadyName : Type 0 where
  pub name : ℕ
  pub label : ℕ

abbrev pub steady_name_coded : Coded SteadyName
steady_name_coded =
    code_by (ℕ × ℕ) (coded× coded_ℕ coded_ℕ) (λ c. (c.name, c.label)) (λ t. record { name = t.0; label = t.1 }) (λ _. refl)

abbrev pub keeps : {X : Type 0} → (X → ℕ) → (X → Type 0) → ℕ → X → Type 0
keeps label sound n x = (label x ≡ n) × sound x
