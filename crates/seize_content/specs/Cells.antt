-- A cell whose value lies in place, and its token. Threads share the cell by `&`; whoever has the token reads and writes the value. Which
-- values may lie there is the kind of cell's to say (fits).
--     CellName            what a cell is in a clause: its name, which nothing else has
--     anything            any value may lie there
--     CellState           there g: the value lies there and has the code g;  away r: the token's holder has it, and left the share r of the
--                         sharing's lifetime for it, so that it is back before that lifetime ends
--     cell_token γ g      the token of the cell γ, whose value has the code g. It knows nothing of the value's type
--     cell_owns R fits γ f     a cell by value, with the fields f x for the value x of row R;  cell_shares    what a `&` to it is
use Rattle.core.specs.Prelude.{◌≡◌, ℕ}
use Rattle.std.specs.Coded.{code_by}
use mathlib.Core.Logic.{◌⊎◌, inl, inr}
use mathlib.Core.Path.{refl, sym, ap, ◌∙◌}
use base.Before.{before}
use base.Fraction.{full_share}
use base.Fml.{Lft, Share, Fml, ffalse, fsep, fex, flft, fobs, fauth, fbor, fnamed}
use base.SetCodes.{coded_share}
use base.Stored.{Gv, Coded, coded_ℕ, coded⊎, coded_via}
use denote.Memory.{part_at}
use denote.RattleType.{RattleType}
use denote.RawPtr.{Ptr, block_ptr, null_ptr}
use denote.Struct.Codes.{itself}
use Rattle.seize_content.specs.Contents.{fact}

pub record CellName : Type 0 where
  pub name : ℕ

abbrev pub cell_name_coded : Coded CellName
cell_name_coded = code_by ℕ coded_ℕ (λ c. c.name) (λ n. record { name = n }) (λ _. refl)

pub data CellState : Type 0 where
  there : Gv → CellState
  away : Share → CellState

abbrev sides : CellState → Gv ⊎ Share
sides (there g) = inl g
sides (away r) = inr r

abbrev of_sides : Gv ⊎ Share → CellState
of_sides (inl g) = there g
of_sides (inr r) = away r

pub sides_back : (t : CellState) → of_sides (sides t) ≡ t
sides_back (there g) = refl
sides_back (away r) = refl

abbrev pub turn_coded : Coded CellState
turn_coded = coded_via (coded⊎ itself coded_share) sides (λ x y e. sym (sides_back x) ∙ (ap of_sides e ∙ sides_back y))

-- whose turn it is, as the token says it, and as the cell does
abbrev pub token_says : ℕ → CellState → Fml
token_says γ t = fobs γ (turn_coded.code t)

abbrev pub cell_says : ℕ → CellState → Fml
cell_says γ t = fauth γ (turn_coded.code t)

abbrev pub cell_token : ℕ → Gv → Fml
cell_token γ g = token_says γ (there g)

abbrev pub anything : {X : Type 0} → X → Type 0
anything x = Unit {0}

module _ (R : RattleType) (fits : R.Denot → Type 0) (γ : ℕ) (fields : R.Denot → Fml) where
  abbrev pub cell_holds : R.Denot → Fml
  cell_holds x = fsep (fields x) (fsep (fact (fits x)) (cell_says γ (there (R.coded.code x))))

  abbrev pub cell_owns : Fml
  cell_owns = fex R.Denot cell_holds

-- while it is shared, for the lifetime ν
module _ (R : RattleType) (fits : R.Denot → Type 0) (γ b o : ℕ) (ν : Lft) where
  abbrev pub lying : Gv → R.Denot → Fml
  lying g x = fsep (fact ((R.coded.code x ≡ g) × fits x)) (part_at R full_share x b o)

  abbrev pub lies : CellState → Fml
  lies (there g) = fex R.Denot (lying g)
  lies (away r) = flft ν r

  abbrev pub turned : CellState → Fml
  turned t = fsep (cell_says γ t) (lies t)

  abbrev pub turning : Fml
  turning = fex CellState turned

module _ (R : RattleType) (fits : R.Denot → Type 0) (γ : ℕ) where
  abbrev pub cell_lent : ℕ → ℕ → Lft → Lft × ℕ → Fml
  cell_lent b o κ t = fsep (before κ t.0) (fnamed t.1 (fbor t.0 (turning R fits γ b o t.0)))

  abbrev pub cell_shares : Ptr → Lft → Fml
  cell_shares (block_ptr b o) κ = fex (Lft × ℕ) (cell_lent b o κ)
  cell_shares null_ptr κ = ffalse
