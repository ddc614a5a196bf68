-- A `&` to a latch is made of a borrow of it, whatever the word holds. Assumes `Logic`.
use Rattle.std.proofs.Common.{ℕ, zero, ◌+◌, List, [], ◌∷◌}
use seplogic.Ra.Ura.{Ura}
use mir.Val.{Val}
use base.Fraction.{full_share}
use base.Logic.{SProp, ent, sep, wand, ex, all_e, upd_i, apply∗, id⊢}
use base.Fml.{Lft, Share, Fml, ftrue, fsep, fseps, fwand, fupd, fdead, fbor, flft, finv, Incl-refl}
use base.Before.{before}
use types.Logic.{Logic, sem}
use types.Kit.{‵, raw, ◌⊛◌, some, later, ◌$◌, ◌∵◌, !, qed, by, move, keep, drop, use0, use1, use2, split, fsplit, fsplit3, fjoin, fpick, fpack, pick, show, assume, suffices, await, updating, now, done}
use types.Tokens.{bor_open, obor_alter}
use types.Na.{before-Incl}
use denote.RattleType.{RattleType, Denots}
use denote.Memory.{part_of, part_at, cell_at}
use denote.RawPtr.{block_ptr}
use denote.Sharing.{ends, always}
use denote.SharingLaws.{some_shr_laws, beside_shr_laws, ends_shr_laws, always_shr_laws}
use denote.Struct.Struct.{Struct}
use denote.Struct.Laws.{u64-laws}
use denote.Struct.Members.{Member, row_of, rows_of, parts_at}
use denote.Struct.Parts.{PartsBack, Struct-parts, shape_of}
use Rattle.core.specs.Sync.RawAtomic.{word}
use Rattle.core.proofs.cell.Borrows.{flag, by_one}
use Rattle.core.proofs.tally.Steps.{word_out, word_in}
use Rattle.seize_cells.specs.Latches.{Side, latch_has, lies, Inv, kept, latch_shares}
use Rattle.seize_cells.specs.contracts.latch.Latch as C
use Rattle.seize_cells.proofs.latch.Latch.TheLaw.Statement.{statement}

abbrev ks : List Member
ks = flag ∷ []

abbrev Data : RattleType
Data = Struct (shape_of [] ks)

module _ {M : Type 1} {𝓤 : Ura M} (𝓛 : Logic 𝓤) (γ : ℕ) (b o : ℕ) (κ : Lft) where
  open 𝓛 use {H, A}

  abbrev Pr : Type 2
  Pr = SProp 𝓤

  abbrev ◌⊢◌ : Pr → Pr → Type 1
  P ⊢ Q = ent 𝓤 P Q

  abbrev ◌∗◌ : Pr → Pr → Pr
  P ∗ Q = sep 𝓤 P Q

  abbrev ◌-∗◌ : Pr → Pr → Pr
  P -∗ Q = wand 𝓤 P Q

  abbrev ⟦◌⟧ : Fml → Pr
  ⟦ P ⟧ = sem 𝓛 P

  infix 26 ◌⊢◌
  infixr 35 ◌∗◌
  infixr 30 ◌-∗◌
  abbrev Whole : Fml
  Whole = part_at C.the_written full_share γ b o

  abbrev Fields : ℕ → Fml
  Fields n = part_at Data full_share (n, tt) b o

  abbrev St : ℕ → Fml
  St = Side γ

  abbrev wd : ℕ → Fml
  wd n = part_at (row_of flag) full_share n b (o + 0)

  apart : ⟦ Whole ⟧ ⊢ ex 𝓤 (λ (n : ℕ). ⟦ Fields n ⟧ ∗ ⟦ St n ⟧)
  unfolding part_of
  apart = qed 𝓛 (‵ Whole ∷ []) ∵ fpick ! (λ vs. fsplit ! $ move ! (1 ∷ []) $ fpick ! (λ n. fsplit ! $ move ! (2 ∷ 0 ∷ []) $ fjoin ! $
      fpack ! (List Val) (λ us. fsep (cell_at full_share Data.mir us b o) (Data.own_val (n, tt) us)) vs $ show ! (λ (m : ℕ). ⟦ Fields m ⟧ ∗ ⟦ St m ⟧) n $ done !))

  whole : (n : ℕ) → ⟦ Fields n ⟧ ∗ ⟦ St n ⟧ ⊢ ⟦ Whole ⟧
  unfolding part_of
  whole n = qed 𝓛 (‵ (Fields n) ∷ ‵ (St n) ∷ []) ∵ fpick ! (λ vs. fsplit ! $ move ! (1 ∷ 2 ∷ []) $ fjoin ! $ fpack ! ℕ (latch_has γ (λ m. Data.own_val (m, tt) vs)) n $ move ! (1 ∷ 0 ∷ []) $ fjoin ! $
      fpack ! (List Val) (λ us. fsep (cell_at full_share Data.mir us b o) (C.the_written.own_val γ us)) vs $ done !)

  abbrev I : Fml
  I = Inv γ b o

  way_back : PartsBack 𝓛 full_share [] ks b o ⊢ ⟦ fwand (fsep (fdead κ) (fseps (I ∷ []))) (fupd Whole) ⟧
  unfolding fseps
  way_back = qed 𝓛 (raw (PartsBack 𝓛 full_share [] ks b o) ∷ []) ∵ assume ! (‵ (fsep (fdead κ) (fsep I ftrue))) $ suffices ! ⟦ Whole ⟧ (upd_i 𝓤 ⟦ Whole ⟧) $
      fsplit3 ! $ drop ! $ fpick ! (λ n. fsplit ! $ use1 𝓛 (‵ (wd n)) (word_in 𝓛 b (o + 0) n) $
      -- [the word; whether the token is there; nothing; the way back]
      move ! (0 ∷ 2 ∷ []) $ fjoin ! $ move ! (2 ∷ []) $
      use1 𝓛 (raw (⟦ parts_at full_share ks zero (n, tt) b o ⟧ -∗ ⟦ Fields n ⟧)) (all_e 𝓤 (λ (a : Denots (rows_of ks)). ⟦ parts_at full_share ks zero a b o ⟧ -∗ ⟦ part_at Data full_share a b o ⟧) (n, tt)) $
      move ! (1 ∷ 0 ∷ []) $ use2 𝓛 (‵ (Fields n)) (apply∗ 𝓤 ⟦ parts_at full_share ks zero (n, tt) b o ⟧ ⟦ Fields n ⟧) $ by ! (whole n))

  shared : (q : Share) → A.bor κ Whole ∗ A.lft κ q ⊢ H.⇛ (⟦ latch_shares γ (block_ptr b o) κ ⟧ ∗ A.lft κ q)
  unfolding fseps
  shared q = qed 𝓛 (‵ (fbor κ Whole) ∷ ‵ (flft κ q) ∷ []) ∵ updating ! $ bor_open ! tt $ move ! (1 ∷ []) $ use1 𝓛 (some (λ (n : ℕ). ‵ (Fields n) ⊛ ‵ (St n))) apart $ pick ! (λ n. split ! $
      use1 𝓛 ((‵ (wd n) ⊛ ‵ ftrue) ⊛ raw (PartsBack 𝓛 full_share [] ks b o)) (Struct-parts 𝓛 full_share [] ks (u64-laws.lawful 𝓛, tt) (n, tt) b o) $ split ! $ split ! $
      use1 𝓛 (‵ (word b (o + 0) n)) (word_out 𝓛 b (o + 0) n) $
      -- [the word; nothing; the way back; whether the token is there; the open borrow]
      move ! (0 ∷ 3 ∷ []) $ fjoin ! $ fpack ! ℕ (lies γ b o) n $ move ! (0 ∷ 1 ∷ []) $ fjoin ! $
      move ! (1 ∷ []) $ use1 𝓛 (‵ (fwand (fsep (fdead κ) (fseps (I ∷ []))) (fupd Whole))) way_back $ move ! (2 ∷ 1 ∷ 0 ∷ []) $ obor_alter ! tt (I ∷ []) $
      use1 𝓛 (‵ (fbor κ I) ⊛ ‵ ftrue) (id⊢ 𝓤 _) $ split ! $ use1 𝓛 (later (‵ (finv (fbor κ I)))) (𝓛.invs.inv_new (fbor κ I)) $ await ! tt $
      use0 𝓛 (‵ (before κ κ)) (before-Incl 𝓛 κ κ (Incl-refl κ)) $ fjoin ! $ fpack ! Lft (λ ν. kept γ b o ν κ) κ $ now ! $ keep ! (0 ∷ 2 ∷ []) $ done !)

pub shares : statement
shares = record {
  shr_laws = λ γ b o. some_shr_laws Lft (kept γ b o) (λ ν. beside_shr_laws (ends ν) (always (fbor ν (Inv γ b o))) (ends_shr_laws ν) (always_shr_laws (fbor ν (Inv γ b o))));
  shares = λ M 𝓤 𝓛 γ κ ts b o inc sp. by_one 𝓛 κ ts sp (𝓛.A.bor κ (Whole 𝓛 γ b o κ)) (sem 𝓛 (latch_shares γ (block_ptr b o) κ)) (shared 𝓛 γ b o κ);
}
