-- What a cell with a promise owns: a box of `once_cell`, at the type of the values of its family. A proof by hand picks that type.
--     of_kin T g f           a value of T that is of the family f, as the kinship g says it
--     once_owns T g c, once_shares T g c     what a cell c owns and shares: its family, and the box of `once_cell` in it
use Rattle.core.specs.Prelude.{ℕ, ◌+◌, List, [], ◌∷◌}
use mir.Val.{Val}
use base.Fml.{Lft, Fml, ffalse}
use denote.Memory.{lone}
use denote.RattleType.{RattleType}
use denote.RawPtr.{Ptr, block_ptr, null_ptr}
use denote.Sharing.{said}
use denote.Struct.Members.{Member}
use denote.Struct.Parts.{shape_of}
use denote.Struct.Struct.{Struct}
use Rattle.core.specs.contracts.marker.Brand as brand
use Rattle.std.specs.declared.alloc.Global.{Global}
use Rattle.once_cell.specs.contracts.race.once_box.OnceBox as once
use Rattle.seize_store.specs.declared.kin.Kin.{Ghosts}
use Rattle.seize_store.specs.contracts.kin.Child as child

module _ (T : RattleType) (g : Ghosts T.Denot) where
  abbrev pub of_kin : ℕ → RattleType
  of_kin f = child.the_row T brand.the_row g (record { number = f })

  abbrev pub once_row : ℕ → RattleType
  once_row f = once.the_row (of_kin f)

  abbrev pub member : ℕ → Member
  member f = record { row = once_row f; ty = lone (once_row f).mir }

  abbrev pub once_owns : ℕ × (Global × ℕ) → List Val → Fml
  once_owns c = (Struct (shape_of [] (member c.0 ∷ []))).own_val (c.1, tt)

  abbrev pub once_shares : ℕ × (Global × ℕ) → Ptr → Lft → Fml
  once_shares c (block_ptr b o) = (once_row c.0).shr_at c.1 b (o + 0)
  once_shares c null_ptr = said ffalse
