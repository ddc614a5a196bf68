-- A `&` to a cell with a promise is a `&` to the box in it, at the type of its family's values. Assumes `Logic`.
use Rattle.std.proofs.Common.{ℕ, zero, ◌+◌, List, [], ◌∷◌, ◌++◌}
use seplogic.Ra.Ura.{Ura}
use mir.Val.{Val}
use base.Fraction.{full_share}
use base.Logic.{SProp, ent, sep, upd_i, id⊢}
use base.Fml.{Lft, Share, Fml, ftrue, fsep, fseps, fwand, fupd, fdead, fbor, flft, Incl-trans}
use types.Logic.{Logic, sem, lfts}
use types.Kit.{‵, raw, ◌⊛◌, later, ◌$◌, ◌∵◌, !, qed, by, move, keep, use1, use2, split, fsplit3, fjoin, fpick, fpack, assume, suffices, await, updating, now, done}
use types.Tokens.{bor_open, obor_alter}
use contract.BorrowLft.{meet_⊑_left, meet_⊑_right}
use denote.RattleType.{RattleType}
use denote.Memory.{part_of, part_at, cell_at}
use denote.RawPtr.{block_ptr}
use denote.Steps.{nothing}
use denote.Param.Laws.{Laws}
use denote.Struct.Struct.{Struct}
use denote.Struct.Members.{Member, Lones, rows_of, raw_tys, parts_at}
use denote.Struct.Parts.{shape_of, Struct-left, left_Struct}
use Rattle.core.proofs.cell.Borrows.{by_one}
use Rattle.std.specs.declared.alloc.Global.{Global}
use Rattle.seize_store.specs.declared.kin.Kin.{Ghosts}
use Rattle.seize_store.proofs.Once.{row_laws}
use Rattle.seize_store.specs.Kept.{once_row, member, once_owns, once_shares}
use Rattle.seize_store.specs.contracts.once_of.OnceOf as C
use Rattle.seize_store.proofs.once_of.OnceOf.TheLaw.Statement.{statement}

module _ (T : RattleType) (g : Ghosts T.Denot) {M : Type 1} {𝓤 : Ura M} (𝓛 : Logic 𝓤) (c : ℕ × (Global × ℕ)) (b o : ℕ) where
  open 𝓛 use {H, A as At}

  abbrev Pr : Type 2
  Pr = SProp 𝓤

  abbrev ◌⊢◌ : Pr → Pr → Type 1
  P ⊢ Q = ent 𝓤 P Q

  abbrev ◌∗◌ : Pr → Pr → Pr
  P ∗ Q = sep 𝓤 P Q

  abbrev ⟦◌⟧ : Fml → Pr
  ⟦ P ⟧ = sem 𝓛 P

  infix 26 ◌⊢◌
  infixr 35 ◌∗◌
  abbrev ks : List Member
  ks = member T g c.0 ∷ []

  abbrev Data : RattleType
  Data = Struct (shape_of [] ks)

  abbrev Whole : Fml
  Whole = part_at (C.the_written T g) full_share c b o

  abbrev I : Fml
  I = part_at (once_row T g c.0) full_share c.1 b (o + 0)

  abbrev Left : Pr
  Left = H.left full_share (mir.Syntax.ty_struct [] (raw_tys ks)) (raw_tys ks) b o

  taken : ⟦ Whole ⟧ ⊢ ⟦ part_at Data full_share (c.1, tt) b o ⟧
  unfolding part_of
  taken = qed 𝓛 (‵ Whole ∷ []) ∵ fpick ! (λ vs. fpack ! (List Val) (λ us. fsep (cell_at full_share Data.mir us b o) (Data.own_val (c.1, tt) us)) vs $ done !)

  put : ⟦ part_at Data full_share (c.1, tt) b o ⟧ ⊢ ⟦ Whole ⟧
  unfolding part_of
  put = qed 𝓛 (‵ (part_at Data full_share (c.1, tt) b o) ∷ []) ∵ fpick ! (λ vs.
      fpack ! (List Val) (λ us. fsep (cell_at full_share Data.mir us b o) (once_owns T g c us)) vs $ done !)

  way_back : (κ : Lft) → Left ⊢ ⟦ fwand (fsep (fdead κ) (fseps (I ∷ []))) (fupd Whole) ⟧
  unfolding fseps
  way_back κ = qed 𝓛 (raw Left ∷ []) ∵ assume ! (‵ (fsep (fdead κ) (fsep I ftrue))) $ suffices ! ⟦ Whole ⟧ (upd_i 𝓤 ⟦ Whole ⟧) $ fsplit3 ! $ keep ! (1 ∷ 3 ∷ []) $
      nothing ! $ move ! (1 ∷ 0 ∷ []) $ fjoin ! $ move ! (0 ∷ 1 ∷ []) $
      use2 𝓛 (‵ (part_at Data full_share (c.1, tt) b o)) (left_Struct 𝓛 full_share [] ks (c.1, tt) b o) $ by ! put

  -- a borrow of the cell is one of the box
  inner : Lones (rows_of ks) → (κ : Lft) (q : Share) → At.bor κ Whole ∗ At.lft κ q ⊢ H.⇛ (At.bor κ I ∗ At.lft κ q)
  unfolding fseps
  inner lone κ q = qed 𝓛 (‵ (fbor κ Whole) ∷ ‵ (flft κ q) ∷ []) ∵ updating ! $ bor_open ! tt $ move ! (1 ∷ []) $ use1 𝓛 (‵ (part_at Data full_share (c.1, tt) b o)) taken $
      use1 𝓛 (‵ (parts_at full_share ks zero (c.1, tt) b o) ⊛ raw Left) (Struct-left 𝓛 full_share [] ks lone (c.1, tt) b o) $ split ! $
      -- [the box, and nothing; what is left; the open borrow]
      move ! (1 ∷ []) $ use1 𝓛 (‵ (fwand (fsep (fdead κ) (fseps (I ∷ []))) (fupd Whole))) (way_back κ) $ move ! (2 ∷ 1 ∷ 0 ∷ []) $ obor_alter ! tt (I ∷ []) $
      use1 𝓛 (‵ (fbor κ I) ⊛ ‵ ftrue) (id⊢ 𝓤 _) $ split ! $ now ! $ keep ! (0 ∷ 2 ∷ []) $ done !

pub shares : (T : RattleType) (g : Ghosts T.Denot) (L : Laws T) → statement T g L
shares T g L = record {
  shr_laws = λ c b o. (row_laws T L g c.0).shr_laws c.1 b (o + 0);
  shares = λ M 𝓤 𝓛 c κ ts b o inc sp. let laws = row_laws T L g c.0 in let J = I T g 𝓛 c b o in
      qed 𝓛 (‵ (fbor κ (Whole T g 𝓛 c b o)) ∷ raw (lfts 𝓛 ts) ∷ []) ∵ updating ! $
      use2 𝓛 (later (‵ (fbor κ J) ⊛ raw (lfts 𝓛 ts))) (by_one 𝓛 κ ts sp (𝓛.A.bor κ (Whole T g 𝓛 c b o)) (𝓛.A.bor κ J) (inner T g 𝓛 c b o (laws.single, tt) κ)) $ await ! tt $ split ! $
      use2 𝓛 (later (‵ (once_shares T g c (block_ptr b o) κ) ⊛ raw (lfts 𝓛 ts))) (laws.shares 𝓛 c.1 κ ts b (o + 0) (Incl-trans inc (Incl-trans (meet_⊑_right (T.lives ++ []) ((once_row T g c.0).lives ++ [])) (meet_⊑_left (once_row T g c.0).lives []))) sp) $ await ! tt $ split ! $ now ! $ done !;
}
