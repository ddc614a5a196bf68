-- A `&` to a cell is made of a borrow of it, whatever kind of cell it is: the value and the cell's half of its name are its invariant's.
-- Assumes `Logic`.
use Rattle.std.proofs.Common.{◌≡◌, ℕ, ◌≤◌, [], ◌∷◌, refl, sym}
use seplogic.Ra.Ura.{Ura}
use base.Fraction.{full_share}
use base.Stored.{Gv}
use base.Logic.{SProp, ent, sep, wand, ex, all_e, never, never_e, upd_i, apply∗, id⊢}
use base.Fml.{Lft, Share, Fml, ftrue, fsep, fseps, fex, fwand, fupd, fdead, fbor, flft, fnamed, Incl-refl}
use base.Before.{before}
use types.Logic.{Logic, sem}
use types.Owned.{named_past}
use types.Kit.{‵, raw, ◌⊛◌, some, given, later, ◌$◌, ◌∵◌, !, qed, by, move, keep, drop, use0, use1, use2, split, fsplit, fsplit3, fjoin, fpick, fpack, pick, learn, frame, assume, rewrite, suffices, await, updating, now, done}
use types.Tokens.{bor_open, obor_alter}
use types.Na.{before-Incl, before_dup}
use denote.RattleType.{RattleType}
use denote.Laws.{Lawful}
use denote.Memory.{part_at}
use denote.Steps.{nothing}
use denote.SharingLaws.{ends_shr_laws}
use denote.Struct.Struct.{Struct}
use denote.Struct.Members.{Member, row_of}
use denote.Struct.Parts.{shape_of}
use denote.Struct.CellSteps.{BackTo, only_out}
use Rattle.seize_content.specs.Contents.{fact}
use Rattle.seize_content.specs.Cells.{CellState, there, away, cell_says, lying, lies, turned, turning, cell_lent}

module _ {M : Type 1} {𝓤 : Ura M} (𝓛 : Logic 𝓤) (m : Member) (fits : m.row.Denot → Type 0) (γ : ℕ) (L : Lawful 𝓛 (row_of m)) (b o : ℕ) where
  open 𝓛 use {H, A}

  abbrev Pr : Type 2
  Pr = SProp 𝓤

  abbrev ◌⊢◌ : Pr → Pr → Type 1
  P ⊢ Q = ent 𝓤 P Q

  abbrev ◌∗◌ : Pr → Pr → Pr
  P ∗ Q = sep 𝓤 P Q

  abbrev ⟦◌⟧ : Fml → Pr
  ⟦ P ⟧ = sem 𝓛 P

  infix 26 ◌⊢◌
  infixr 35 ◌∗◌
  abbrev R : RattleType
  R = row_of m

  abbrev Data : RattleType
  Data = Struct (shape_of [] (m ∷ []))

  abbrev pub Fields : R.Denot → Fml
  Fields x = part_at Data full_share (x, tt) b o

  -- what stands beside its value
  abbrev pub own : R.Denot → Fml
  own x = fsep (fact (fits x)) (cell_says γ (there (R.coded.code x)))

  abbrev Back : Pr
  Back = BackTo 𝓛 [] [] [] m (λ y. ⟦ Fields y ⟧) b o

  -- a cell by value is its value with what stands beside that
  module _ (Whole : Fml) (apart : ⟦ Whole ⟧ ⊢ ex 𝓤 (λ (x : R.Denot). ⟦ Fields x ⟧ ∗ ⟦ own x ⟧)) (whole : (x : R.Denot) → ⟦ Fields x ⟧ ∗ ⟦ own x ⟧ ⊢ ⟦ Whole ⟧) (κ : Lft) where
    abbrev I : Fml
    I = turning R fits γ b o κ

    -- the sharing is over, so the value is there
    returned : (t : CellState) → Back ∗ ⟦ cell_says γ t ⟧ ∗ ⟦ lies R fits γ b o κ t ⟧ ∗ ⟦ fdead κ ⟧ ⊢ ⟦ Whole ⟧
    returned (there g) = qed 𝓛 (raw Back ∷ ‵ (cell_says γ (there g)) ∷ ‵ (lies R fits γ b o κ (there g)) ∷ ‵ (fdead κ) ∷ []) ∵ move ! (2 ∷ []) $ fpick ! (λ x. fsplit ! $ fpick ! (λ is. drop ! $
        -- [the value; the way back; the name; it is over]
        move ! (1 ∷ []) $ use1 𝓛 (raw (wand 𝓤 ⟦ part_at R full_share x b o ⟧ ⟦ Fields x ⟧)) (all_e 𝓤 (λ (y : R.Denot). wand 𝓤 ⟦ part_at R full_share y b o ⟧ ⟦ Fields y ⟧) x) $ move ! (1 ∷ 0 ∷ []) $
        use2 𝓛 (‵ (Fields x)) (apply∗ 𝓤 ⟦ part_at R full_share x b o ⟧ ⟦ Fields x ⟧) $ move ! (1 ∷ []) $ rewrite ! 0 (λ (u : Gv). ‵ (cell_says γ (there u))) (sym is.0) refl $
        nothing ! $ fpack ! (fits x) (λ _. ftrue) is.1 $ fjoin ! $ move ! (1 ∷ 0 ∷ []) $ use2 𝓛 (‵ Whole) (whole x) $ keep ! (0 ∷ []) $ done !))
    returned (away r) = qed 𝓛 (raw Back ∷ ‵ (cell_says γ (away r)) ∷ ‵ (flft κ r) ∷ ‵ (fdead κ) ∷ []) ∵ keep ! (2 ∷ 3 ∷ []) $ suffices ! (never 𝓤) (never_e 𝓤 ⟦ Whole ⟧) $ by ! (𝓛.lfts.lft-dead κ r)

    way_back : Back ⊢ ⟦ fwand (fsep (fdead κ) (fseps (I ∷ []))) (fupd Whole) ⟧
    unfolding fseps
    way_back = qed 𝓛 (raw Back ∷ []) ∵ assume ! (‵ (fsep (fdead κ) (fsep I ftrue))) $ suffices ! ⟦ Whole ⟧ (upd_i 𝓤 ⟦ Whole ⟧) $ fsplit3 ! $
        -- [it is over; the invariant; nothing; the way back]
        move ! (1 ∷ []) $ fpick ! (λ t. fsplit ! $ keep ! (4 ∷ 0 ∷ 1 ∷ 2 ∷ []) $ by ! (returned t))

    abbrev pub Shared : Fml
    Shared = fex (Lft × ℕ) (cell_lent R fits γ b o κ)

    pub shared : (q : Share) → A.bor κ Whole ∗ A.lft κ q ⊢ H.⇛ (⟦ Shared ⟧ ∗ A.lft κ q)
    unfolding fseps
    shared q = qed 𝓛 (‵ (fbor κ Whole) ∷ ‵ (flft κ q) ∷ []) ∵ updating ! $ bor_open ! tt $ move ! (1 ∷ []) $ use1 𝓛 (some (λ (x : R.Denot). ‵ (Fields x) ⊛ ‵ (own x))) apart $ pick ! (λ x. let g : Gv = R.coded.code x in split ! $
        use1 𝓛 (‵ (part_at R full_share x b o) ⊛ raw Back) (only_out 𝓛 [] [] [] m L b o x) $ split ! $ move ! (2 ∷ []) $ fsplit ! $ fpick ! (λ fit. drop ! $
        -- [the name; the value; the way back; the open borrow]
        move ! (1 ∷ []) $ nothing ! $ fpack ! ((g ≡ g) × fits x) (λ _. ftrue) (refl, fit) $ fjoin ! $ fpack ! R.Denot (lying R fits γ b o κ g) x $ move ! (1 ∷ 0 ∷ []) $ fjoin ! $ fpack ! CellState (turned R fits γ b o κ) (there g) $
        nothing ! $ move ! (1 ∷ 0 ∷ []) $ fjoin ! $ move ! (1 ∷ []) $ use1 𝓛 (‵ (fwand (fsep (fdead κ) (fseps (I ∷ []))) (fupd Whole))) way_back $ move ! (2 ∷ 1 ∷ 0 ∷ []) $ obor_alter ! tt (I ∷ []) $
        use1 𝓛 (‵ (fbor κ I) ⊛ ‵ ftrue) (id⊢ 𝓤 _) $ split ! $ use1 𝓛 (later (some (λ (j : ℕ). given (0 ≤ j) (‵ (fnamed j (fbor κ I)))))) (named_past 𝓛 0 (fbor κ I)) $ await ! tt $ pick ! (λ j. learn ! (λ _.
        use0 𝓛 (‵ (before κ κ)) (before-Incl 𝓛 κ κ (Incl-refl κ)) $ fjoin ! $ fpack ! (Lft × ℕ) (cell_lent R fits γ b o κ) (κ, j) $ now ! $ keep ! (0 ∷ 2 ∷ []) $ done !))))

  abbrev Seen : Lft → Fml
  Seen κ = fex (Lft × ℕ) (cell_lent R fits γ b o κ)

  pub twice : (κ : Lft) → ⟦ Seen κ ⟧ ⊢ ⟦ Seen κ ⟧ ∗ ⟦ Seen κ ⟧
  twice κ = qed 𝓛 (‵ (Seen κ) ∷ []) ∵ fpick ! (λ t. let B : Fml = fbor t.0 (turning R fits γ b o t.0) in let N : Fml = fnamed t.1 B in fsplit ! $ use1 𝓛 (‵ (before κ t.0) ⊛ ‵ (before κ t.0)) (before_dup 𝓛 κ t.0) $ split ! $
      move ! (2 ∷ []) $ use1 𝓛 (‵ N ⊛ ‵ N) (𝓛.invs.named_dup t.1 B) $ split ! $ move ! (2 ∷ 0 ∷ []) $ fjoin ! $ fpack ! (Lft × ℕ) (cell_lent R fits γ b o κ) t $ frame ! $
      move ! (1 ∷ 0 ∷ []) $ fjoin ! $ fpack ! (Lft × ℕ) (cell_lent R fits γ b o κ) t $ done !)

  pub shorter : (κ' κ : Lft) → ⟦ before κ' κ ⟧ ∗ ⟦ Seen κ ⟧ ⊢ ⟦ Seen κ' ⟧
  shorter κ' κ = qed 𝓛 (‵ (before κ' κ) ∷ ‵ (Seen κ) ∷ []) ∵ move ! (1 ∷ []) $ fpick ! (λ t. fsplit ! $ move ! (2 ∷ 0 ∷ []) $
      use2 𝓛 (‵ (before κ' t.0)) ((ends_shr_laws t.0).mono M 𝓤 𝓛 κ' κ) $ fjoin ! $ fpack ! (Lft × ℕ) (cell_lent R fits γ b o κ') t $ done !)
