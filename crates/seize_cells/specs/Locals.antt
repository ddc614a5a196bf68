-- What a cell of one thread is. Which values may lie there is for fits to say.
--     kept_at R fits b o      a value of row R that fits lies at (b, o)
--     local_owns R fits f     a cell by value, with the fields f x for the value x
--     local_shares R fits p   what a `&` to one at p is: kept_at, which the thread's token opens for the time of one call
use Rattle.std.specs.Prelude.{ℕ}
use base.Fraction.{full_share}
use base.Fml.{Lft, Fml, ffalse, fsep, fex}
use denote.Hidden.{guarded}
use denote.Memory.{part_at}
use denote.RattleType.{RattleType}
use denote.RawPtr.{Ptr, block_ptr, null_ptr}
use denote.Sharing.{said}
use Rattle.seize_content.specs.Contents.{fact}

module _ (R : RattleType) (fits : R.Denot → Type 0) where
  abbrev pub local_has : (R.Denot → Fml) → R.Denot → Fml
  local_has fields x = fsep (fields x) (fact (fits x))

  abbrev pub local_owns : (R.Denot → Fml) → Fml
  local_owns fields = fex R.Denot (local_has fields)

  abbrev pub lying_at : ℕ → ℕ → R.Denot → Fml
  lying_at b o x = fsep (fact (fits x)) (part_at R full_share x b o)

  abbrev pub kept_at : ℕ → ℕ → Fml
  kept_at b o = fex R.Denot (lying_at b o)

  abbrev pub local_shares : Ptr → Lft → Fml
  local_shares (block_ptr b o) = guarded (b, o) (kept_at b o)
  local_shares null_ptr = said ffalse
