-- A `&` to a cell of one thread is made of a borrow of it: the value goes behind the thread's token. Assumes `Logic`.
use Rattle.std.proofs.Common.{◌≡◌, ℕ, List, [], ◌∷◌, sym, subst}
use seplogic.Ra.Ura.{Ura}
use mir.Syntax.{Ty}
use mir.Val.{Val}
use base.Fraction.{full_share}
use base.Logic.{SProp, ent, sep, wand, ex, all_e, upd_i, apply∗, id⊢}
use base.Fml.{Lft, Share, Fml, ftrue, fsep, fseps, fwand, fupd, fdead, fbor, flft}
use types.Logic.{Logic, sem}
use types.Kit.{‵, raw, ◌⊛◌, some, later, ◌$◌, ◌∵◌, !, qed, move, keep, drop, use1, use2, split, fsplit, fsplit3, fjoin, fpick, fpack, pick, show, assume, suffices, await, updating, now, done}
use types.Na.{na_bor, bor_na}
use types.Tokens.{bor_open, obor_alter}
use denote.Hidden.{guarded_shr_laws}
use denote.Laws.{Lawful}
use denote.Memory.{part_of, part_at, cell_at}
use denote.Param.{layout}
use denote.Param.Laws.{Laws}
use denote.RattleType.{RattleType}
use denote.Steps.{nothing}
use denote.Struct.CellSteps.{BackTo, only_out}
use denote.Struct.Lending.{Law}
use denote.Struct.Members.{Member, row_of}
use denote.Struct.Parts.{shape_of}
use denote.Struct.Struct.{Struct}
use Rattle.core.proofs.cell.Borrows.{by_one}
use Rattle.seize_content.specs.Contents.{fact}
use Rattle.seize_content.specs.Steady.{keeps}
use Rattle.seize_content.specs.declared.steady_cell.Steady.{Ghosts}
use Rattle.seize_cells.specs.Locals.{local_has, local_owns, lying_at, kept_at}
use Rattle.seize_cells.specs.contracts.local_cell.LocalCell as C
use Rattle.seize_cells.proofs.local_cell.LocalCell.TheLaw.Statement.{statement}

module _ {M : Type 1} {𝓤 : Ura M} (𝓛 : Logic 𝓤) (m : Member) (g : Ghosts m.row.Denot) (n : ℕ) (L : Lawful 𝓛 (row_of m)) (b o : ℕ) where
  open 𝓛 use {H, A}

  abbrev Pr : Type 2
  Pr = SProp 𝓤

  abbrev ◌⊢◌ : Pr → Pr → Type 1
  P ⊢ Q = ent 𝓤 P Q

  abbrev ◌∗◌ : Pr → Pr → Pr
  P ∗ Q = sep 𝓤 P Q

  abbrev ⟦◌⟧ : Fml → Pr
  ⟦ P ⟧ = sem 𝓛 P

  infix 26 ◌⊢◌
  infixr 35 ◌∗◌
  abbrev R : RattleType
  R = row_of m

  abbrev fits : R.Denot → Type 0
  fits = keeps g.label g.sound n

  abbrev Data : RattleType
  Data = Struct (shape_of [] (m ∷ []))

  abbrev Fields : R.Denot → Fml
  Fields x = part_at Data full_share (x, tt) b o

  abbrev Whole : Fml
  Whole = part_at (C.the_written R g) full_share n b o

  abbrev value : R.Denot → Fml
  value x = part_at R full_share x b o

  abbrev I : Fml
  I = kept_at R fits b o

  abbrev Back : Pr
  Back = BackTo 𝓛 [] [] [] m (λ y. ⟦ Fields y ⟧) b o

  apart : ⟦ Whole ⟧ ⊢ ex 𝓤 (λ (x : R.Denot). ⟦ Fields x ⟧ ∗ ⟦ fact (fits x) ⟧)
  unfolding part_of
  apart = qed 𝓛 (‵ Whole ∷ []) ∵ fpick ! (λ vs. fsplit ! $ move ! (1 ∷ []) $ fpick ! (λ x. fsplit ! $ move ! (2 ∷ 0 ∷ []) $ fjoin ! $
      fpack ! (List Val) (λ us. fsep (cell_at full_share Data.mir us b o) (Data.own_val (x, tt) us)) vs $ show ! (λ (y : R.Denot). ⟦ Fields y ⟧ ∗ ⟦ fact (fits y) ⟧) x $ done !))

  whole : (x : R.Denot) → ⟦ Fields x ⟧ ∗ ⟦ fact (fits x) ⟧ ⊢ ⟦ Whole ⟧
  unfolding part_of
  whole x = qed 𝓛 (‵ (Fields x) ∷ ‵ (fact (fits x)) ∷ []) ∵ fpick ! (λ vs. fsplit ! $ move ! (1 ∷ 2 ∷ []) $ fjoin ! $ fpack ! R.Denot (local_has R fits (λ y. Data.own_val (y, tt) vs)) x $ move ! (1 ∷ 0 ∷ []) $ fjoin ! $
      fpack ! (List Val) (λ us. fsep (cell_at full_share Data.mir us b o) (local_owns R fits (λ y. Data.own_val (y, tt) us))) vs $ done !)

  module _ (κ : Lft) where
    way_back : Back ⊢ ⟦ fwand (fsep (fdead κ) (fseps (I ∷ []))) (fupd Whole) ⟧
    unfolding fseps
    way_back = qed 𝓛 (raw Back ∷ []) ∵ assume ! (‵ (fsep (fdead κ) (fsep I ftrue))) $ suffices ! ⟦ Whole ⟧ (upd_i 𝓤 ⟦ Whole ⟧) $ fsplit3 ! $ drop ! $ fpick ! (λ x. fsplit ! $
        -- [that it fits; the value; nothing; the way back]
        move ! (3 ∷ []) $ use1 𝓛 (raw (wand 𝓤 ⟦ value x ⟧ ⟦ Fields x ⟧)) (all_e 𝓤 (λ (y : R.Denot). wand 𝓤 ⟦ value y ⟧ ⟦ Fields y ⟧) x) $ move ! (2 ∷ 0 ∷ []) $
        use2 𝓛 (‵ (Fields x)) (apply∗ 𝓤 ⟦ value x ⟧ ⟦ Fields x ⟧) $ use2 𝓛 (‵ Whole) (whole x) $ keep ! (0 ∷ []) $ done !)

    abbrev pub Shared : Fml
    Shared = na_bor κ (b, o) I

    pub shared : (q : Share) → A.bor κ Whole ∗ A.lft κ q ⊢ H.⇛ (⟦ Shared ⟧ ∗ A.lft κ q)
    unfolding fseps
    shared q = qed 𝓛 (‵ (fbor κ Whole) ∷ ‵ (flft κ q) ∷ []) ∵ updating ! $ bor_open ! tt $ move ! (1 ∷ []) $ use1 𝓛 (some (λ (x : R.Denot). ‵ (Fields x) ⊛ ‵ (fact (fits x)))) apart $ pick ! (λ x. split ! $
        use1 𝓛 (‵ (value x) ⊛ raw Back) (only_out 𝓛 [] [] [] m L b o x) $ split ! $
        -- [the value; the way back; that it fits; the open borrow]
        move ! (2 ∷ 0 ∷ []) $ fjoin ! $ fpack ! R.Denot (lying_at R fits b o) x $ nothing ! $ move ! (1 ∷ 0 ∷ []) $ fjoin ! $ move ! (1 ∷ []) $
        use1 𝓛 (‵ (fwand (fsep (fdead κ) (fseps (I ∷ []))) (fupd Whole))) way_back $ move ! (2 ∷ 1 ∷ 0 ∷ []) $ obor_alter ! tt (I ∷ []) $
        use1 𝓛 (‵ (fbor κ I) ⊛ ‵ ftrue) (id⊢ 𝓤 _) $ split ! $ use1 𝓛 (later (‵ Shared)) (bor_na 𝓛 κ (b, o) I) $ await ! tt $ now ! $ keep ! (0 ∷ 2 ∷ []) $ done !)

pub shares : (T : RattleType) (g : Ghosts T.Denot) (L : Laws T) → statement T g L
shares T g L = let m : Member = record { row = T; ty = layout T } in
    let same : T ≡ row_of m = λ i. record { Denot = T.Denot; mir = L.one i; written = T.written; reaches = T.reaches; lives = T.lives; own_val = T.own_val; exit = T.exit; coded = T.coded; shr_at = T.shr_at } in
    subst (λ (τ : List Ty). Law (C.the_written (record T { mir = τ }) g)) (sym L.one) (record {
      shr_laws = λ n b o. guarded_shr_laws (b, o) (kept_at (row_of m) (keeps g.label g.sound n) b o);
      shares = λ M 𝓤 𝓛 n κ ts b o inc sp. let l = subst (Lawful 𝓛) same (L.lawful 𝓛) in
          by_one 𝓛 κ ts sp (𝓛.A.bor κ (Whole 𝓛 m g n l b o)) (sem 𝓛 (Shared 𝓛 m g n l b o κ)) (shared 𝓛 m g n l b o κ);
    })
