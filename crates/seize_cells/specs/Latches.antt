-- A word beside a cell's token: while the word is 0, its invariant has the token.
--     side γ w t            what is beside the word w of a latch of the cell γ: the token, which says that the value has the code g, or
--                           nothing, and then the word is not 0;  Side γ w     one of the two
--     latch_owns γ f        a latch by value, with the fields f w for the word w
--     latch_shares γ p      what a `&` to one at p is: an invariant, whose content is Inv
use Rattle.std.specs.Prelude.{◌≡◌, ℕ, ◌+◌, Option, Some, None}
use base.Fml.{Lft, Fml, ffalse, fsep, fex, fbor}
use base.Stored.{Gv}
use denote.RawPtr.{Ptr, block_ptr, null_ptr}
use denote.Sharing.{said, beside, some, ends, always}
use Rattle.core.specs.Sync.RawAtomic.{word}
use Rattle.seize_content.specs.Cells.{cell_token}
use Rattle.seize_content.specs.Contents.{fact}

module _ (γ : ℕ) where
  abbrev pub side : ℕ → Option Gv → Fml
  side w (Some g) = cell_token γ g
  side w None = fact (w ≡ 0 → ⊥)

  abbrev pub Side : ℕ → Fml
  Side w = fex (Option Gv) (side w)

  abbrev pub latch_has : (ℕ → Fml) → ℕ → Fml
  latch_has fields w = fsep (fields w) (Side w)

  abbrev pub latch_owns : (ℕ → Fml) → Fml
  latch_owns fields = fex ℕ (latch_has fields)

  abbrev pub lies : ℕ → ℕ → ℕ → Fml
  lies b o w = fsep (word b (o + 0) w) (Side w)

  abbrev pub Inv : ℕ → ℕ → Fml
  Inv b o = fex ℕ (lies b o)

  abbrev pub kept : ℕ → ℕ → Lft → Lft → Fml
  kept b o ν = beside (ends ν) (always (fbor ν (Inv b o)))

  abbrev pub latch_shares : Ptr → Lft → Fml
  latch_shares (block_ptr b o) = some Lft (kept b o)
  latch_shares null_ptr = said ffalse
