-- A `&` to a word is made of a borrow of it, under an invariant with a number that is not the book's. Assumes `Logic`.
use Rattle.std.proofs.Common.{◌≡◌, ℕ, zero, ◌+◌, ◌≤◌, arith, List, [], ◌∷◌, sym, refl, add-zero}
use seplogic.Ra.Ura.{Ura}
use mir.Val.{Val}
use base.Fraction.{full_share}
use base.Logic.{SProp, ent, sep, upd_i, id⊢}
use base.Fml.{Lft, Share, Fml, ftrue, fsep, fseps, fex, fwand, fupd, fdead, fbor, flft, fnamed, Incl-refl}
use base.Before.{before}
use types.Logic.{Logic, sem}
use types.Owned.{named_past}
use types.Kit.{mean, ‵, raw, ◌⊛◌, some, given, later, learn, ◌$◌, ◌∵◌, !, qed, by, move, keep, drop, use0, use1, use2, split, fsplit, fsplit3, fjoin, fjoin3, fpick, fpack, pick, show, assume, suffices, await, updating, now, rewrite, frame, done}
use types.Tokens.{bor_open, obor_alter}
use types.Na.{before-Incl, before_dup}
use denote.RattleType.{RattleType}
use denote.Memory.{part_of, part_at, cell_at}
use denote.Steps.{nothing}
use denote.SharingLaws.{ends_shr_laws}
use denote.Struct.Struct.{Struct}
use denote.Struct.Members.{Member, row_of, raw_tys, parts_at}
use denote.Struct.Parts.{shape_of, Struct-left, left_Struct}
use Rattle.core.specs.Sync.RawAtomic.{word}
use Rattle.core.proofs.cell.Borrows.{flag, by_one}
use Rattle.core.proofs.tally.Steps.{word_in, word_out}
use Rattle.seize_words.specs.Words.{Site, word_owns, word_lies, word_reading, word_lent}
use Rattle.seize_words.specs.contracts.word.Word as C
use Rattle.seize_words.proofs.word.Word.TheLaw.Statement.{statement}

module _ {M : Type 1} {𝓤 : Ura M} (𝓛 : Logic 𝓤) (d : Site) (b o : ℕ) where
  open 𝓛 use {H, A as At}

  abbrev Pr : Type 2
  Pr = SProp 𝓤

  abbrev ◌⊢◌ : Pr → Pr → Type 1
  P ⊢ Q = ent 𝓤 P Q

  abbrev ◌∗◌ : Pr → Pr → Pr
  P ∗ Q = sep 𝓤 P Q

  abbrev ⟦◌⟧ : Fml → Pr
  ⟦ P ⟧ = sem 𝓛 P

  infix 26 ◌⊢◌
  infixr 35 ◌∗◌
  abbrev ks : List Member
  ks = flag ∷ []

  abbrev Data : RattleType
  Data = Struct (shape_of [] ks)

  abbrev Whole : Fml
  Whole = part_at C.the_written full_share d b o

  abbrev I : Fml
  I = word_reading d b o

  abbrev inside : List Val → ℕ → Fml
  inside vs n = fsep (Data.own_val (n, tt) vs) (word_owns d n)

  abbrev Left : Pr
  Left = H.left full_share (mir.Syntax.ty_struct [] (raw_tys ks)) (raw_tys ks) b o

  taken : ⟦ Whole ⟧ ⊢ mean 𝓛 (some (λ (n : ℕ). ‵ (part_at Data full_share (n, tt) b o) ⊛ ‵ (word_owns d n)))
  unfolding part_of
  taken = qed 𝓛 (‵ Whole ∷ []) ∵ fpick ! (λ vs. fsplit ! $ move ! (1 ∷ []) $ use1 𝓛 (‵ (fex ℕ (inside vs))) (id⊢ 𝓤 _) $ fpick ! (λ n. fsplit ! $ move ! (2 ∷ 0 ∷ []) $ fjoin ! $
      fpack ! (List Val) (λ us. fsep (cell_at full_share Data.mir us b o) (Data.own_val (n, tt) us)) vs $ show ! (λ (y : ℕ). ⟦ part_at Data full_share (y, tt) b o ⟧ ∗ ⟦ word_owns d y ⟧) n $ done !))

  put : (n : ℕ) → ⟦ part_at Data full_share (n, tt) b o ⟧ ∗ ⟦ word_owns d n ⟧ ⊢ ⟦ Whole ⟧
  unfolding part_of
  put n = qed 𝓛 (‵ (part_at Data full_share (n, tt) b o) ∷ ‵ (word_owns d n) ∷ []) ∵ fpick ! (λ vs. fsplit ! $ move ! (1 ∷ 2 ∷ []) $ fjoin ! $ fpack ! ℕ (inside vs) n $ move ! (1 ∷ 0 ∷ []) $ fjoin ! $
      fpack ! (List Val) (λ us. fsep (cell_at full_share Data.mir us b o) (fex ℕ (inside us))) vs $ done !)

  way_back : (κ : Lft) → Left ⊢ ⟦ fwand (fsep (fdead κ) (fseps (I ∷ []))) (fupd Whole) ⟧
  unfolding fseps
  way_back κ = qed 𝓛 (raw Left ∷ []) ∵ assume ! (‵ (fsep (fdead κ) (fsep I ftrue))) $ suffices ! ⟦ Whole ⟧ (upd_i 𝓤 ⟦ Whole ⟧) $ fsplit3 ! $ keep ! (1 ∷ 3 ∷ []) $ fpick ! (λ n. fsplit ! $
      rewrite ! 0 (λ (x : ℕ). ‵ (word b x n)) (sym (add-zero o)) refl $ use1 𝓛 (‵ (part_at (row_of flag) full_share n b (o + 0))) (word_in 𝓛 b (o + 0) n) $ nothing ! $ move ! (1 ∷ 0 ∷ []) $ fjoin ! $ move ! (0 ∷ 2 ∷ []) $
      use2 𝓛 (‵ (part_at Data full_share (n, tt) b o)) (left_Struct 𝓛 full_share [] ks (n, tt) b o) $ by ! (put n))

  abbrev Shared : Lft → Fml
  Shared κ = fex (Lft × ℕ) (word_lent d b o κ)

  shared : (κ : Lft) (q : Share) → At.bor κ Whole ∗ At.lft κ q ⊢ H.⇛ (⟦ Shared κ ⟧ ∗ At.lft κ q)
  unfolding fseps
  shared κ q = qed 𝓛 (‵ (fbor κ Whole) ∷ ‵ (flft κ q) ∷ []) ∵ updating ! $ bor_open ! tt $ move ! (1 ∷ []) $ use1 𝓛 (some (λ (n : ℕ). ‵ (part_at Data full_share (n, tt) b o) ⊛ ‵ (word_owns d n))) taken $ pick ! (λ n. split ! $
      use1 𝓛 (‵ (parts_at full_share ks zero (n, tt) b o) ⊛ raw Left) (Struct-left 𝓛 full_share [] ks ((λ x vs p. mathlib.Core.Path.subst denote.Struct.Members.Lone (sym p.0) tt), tt) (n, tt) b o) $ split ! $ fsplit ! $
      use1 𝓛 (‵ (word b (o + 0) n)) (word_out 𝓛 b (o + 0) n) $ rewrite ! 0 (λ (x : ℕ). ‵ (word b x n)) (add-zero o) refl $
      -- [the word; nothing; what is left; what stands by the word; the open borrow]
      move ! (0 ∷ 3 ∷ []) $ fjoin ! $ fpack ! ℕ (word_lies d b o) n $ nothing ! $ move ! (1 ∷ 0 ∷ []) $ fjoin ! $
      move ! (2 ∷ []) $ use1 𝓛 (‵ (fwand (fsep (fdead κ) (fseps (I ∷ []))) (fupd Whole))) (way_back κ) $ move ! (3 ∷ 1 ∷ 0 ∷ []) $ obor_alter ! tt (I ∷ []) $
      use1 𝓛 (‵ (fbor κ I) ⊛ ‵ ftrue) (id⊢ 𝓤 _) $ split ! $ use1 𝓛 (later (some (λ (j : ℕ). given (d.name.number + 1 ≤ j) (‵ (fnamed j (fbor κ I)))))) (named_past 𝓛 (d.name.number + 1) (fbor κ I)) $ await ! tt $ pick ! (λ j. learn ! (λ past.
      nothing ! $ fpack ! (¬ (d.name.number ≡ j)) (λ _. ftrue) (λ e. omega (arith, e, past)) $ use0 𝓛 (‵ (before κ κ)) (before-Incl 𝓛 κ κ (Incl-refl κ)) $ fjoin3 ! $ fpack ! (Lft × ℕ) (word_lent d b o κ) (κ, j) $ now ! $ keep ! (0 ∷ 2 ∷ []) $ done !)))

  twice : (κ : Lft) → ⟦ Shared κ ⟧ ⊢ ⟦ Shared κ ⟧ ∗ ⟦ Shared κ ⟧
  twice κ = qed 𝓛 (‵ (Shared κ) ∷ []) ∵ fpick ! (λ t. let N : Fml = fnamed t.1 (fbor t.0 I) in fsplit3 ! $ use1 𝓛 (‵ (before κ t.0) ⊛ ‵ (before κ t.0)) (before_dup 𝓛 κ t.0) $ split ! $
      move ! (2 ∷ []) $ fpick ! (λ apart. drop ! $ move ! (2 ∷ []) $ use1 𝓛 (‵ N ⊛ ‵ N) (𝓛.invs.named_dup t.1 (fbor t.0 I)) $ split ! $
      -- [the invariant, twice; before, twice]
      nothing ! $ fpack ! (¬ (d.name.number ≡ t.1)) (λ _. ftrue) apart $ move ! (3 ∷ 0 ∷ 1 ∷ []) $ fjoin3 ! $ fpack ! (Lft × ℕ) (word_lent d b o κ) t $
      nothing ! $ fpack ! (¬ (d.name.number ≡ t.1)) (λ _. ftrue) apart $ move ! (3 ∷ 0 ∷ 2 ∷ []) $ fjoin3 ! $ fpack ! (Lft × ℕ) (word_lent d b o κ) t $ move ! (1 ∷ []) $ frame ! $ done !))

  shorter : (κ' κ : Lft) → ⟦ before κ' κ ⟧ ∗ ⟦ Shared κ ⟧ ⊢ ⟦ Shared κ' ⟧
  shorter κ' κ = qed 𝓛 (‵ (before κ' κ) ∷ ‵ (Shared κ) ∷ []) ∵ move ! (1 ∷ []) $ fpick ! (λ t. fsplit ! $ move ! (2 ∷ 0 ∷ []) $
      use2 𝓛 (‵ (before κ' t.0)) ((ends_shr_laws t.0).mono M 𝓤 𝓛 κ' κ) $ fjoin ! $ fpack ! (Lft × ℕ) (word_lent d b o κ') t $ done !)

pub shares : statement
shares = record {
  shr_laws = λ d b o. record { contraction = λ M 𝓤 𝓛 κ. twice 𝓛 d b o κ; mono = λ M 𝓤 𝓛 κ' κ. shorter 𝓛 d b o κ' κ };
  shares = λ M 𝓤 𝓛 d κ ts b o inc sp. by_one 𝓛 κ ts sp (𝓛.A.bor κ (Whole 𝓛 d b o)) (sem 𝓛 (Shared 𝓛 d b o κ)) (shared 𝓛 d b o κ);
}
