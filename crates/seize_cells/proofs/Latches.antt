-- The ghost side of each step on a latch's word. Assumes `Logic`.
use Rattle.std.proofs.Common.{◌≡◌, ℕ, ◌+◌, [], ◌∷◌, arith, Option, Some, None}
use seplogic.Ra.Ura.{Ura}
use base.Logic.{SProp, ent, sep, ex, upd_i}
use base.Fml.{Lft, Share, Fml, ftrue, fsep, fex, fbor, flft}
use base.Stored.{Gv}
use types.Logic.{Logic, sem}
use types.Kit.{‵, ◌$◌, ◌∵◌, !, qed, by, move, keep, fsplit, fjoin, fpick, fpack, show, frame, each, assume, suffices, done}
use denote.RawPtr.{block_ptr}
use denote.Steps.{nothing}
use Rattle.core.specs.Sync.RawAtomic.{asks, always, word}
use Rattle.core.proofs.raw_atomic.Asked.{borrowed, Lies, Again}
use Rattle.seize_cells.specs.Latches.{side, Side, lies, Inv}
use Rattle.seize_content.specs.Cells.{cell_token}

module _ {M : Type 1} {𝓤 : Ura M} (𝓛 : Logic 𝓤) (b o : ℕ) (γ : ℕ) (α : Lft) (q : Share) where
  open 𝓛 use {H, A}

  abbrev Pr : Type 2
  Pr = SProp 𝓤

  abbrev ◌⊢◌ : Pr → Pr → Type 1
  P ⊢ Q = ent 𝓤 P Q

  abbrev ◌∗◌ : Pr → Pr → Pr
  P ∗ Q = sep 𝓤 P Q

  abbrev ⟦◌⟧ : Fml → Pr
  ⟦ P ⟧ = sem 𝓛 P

  infix 26 ◌⊢◌
  infixr 35 ◌∗◌
  abbrev I : Fml
  I = Inv γ b o

  abbrev St : ℕ → Fml
  St = Side γ

  abbrev e : ℕ
  e = o + 0

  pub takes : A.inv (fbor α I) ∗ (A.lft α q ∗ ⟦ ftrue ⟧) ⊢ asks 𝓛 (block_ptr b e) (λ _. 1) always (λ n. fsep (flft α q) (St n))
  takes = let f : ℕ → ℕ = λ _. 1 in let G : Pr = ex 𝓤 (Lies 𝓛 α q I b e f always St) in borrowed 𝓛 α q I b e f always St ⟦ ftrue ⟧ (
      qed 𝓛 (‵ I ∷ ‵ ftrue ∷ []) ∵ suffices ! _ (upd_i 𝓤 G) $ fpick ! (λ n. fsplit ! $ show ! (Lies 𝓛 α q I b e f always St) n $ frame ! $
      each ! (λ (_ : Unit {0}). Again 𝓛 α q I b e f always St n) (λ _. assume ! (‵ (word b e 1)) $ suffices ! _ (upd_i 𝓤 (⟦ I ⟧ ∗ ⟦ St n ⟧)) $
      nothing ! $ fpack ! (1 ≡ 0 → ⊥) (λ _. ftrue) (λ (z : 1 ≡ 0). omega arith) $ fpack ! (Option Gv) (side γ 1) None $ move ! (1 ∷ 0 ∷ []) $ fjoin ! $ fpack ! ℕ (lies γ b o) 1 $ keep ! (0 ∷ 1 ∷ []) $ done !)))

  pub gives : (g : Gv) → A.inv (fbor α I) ∗ (A.lft α q ∗ ⟦ cell_token γ g ⟧) ⊢ asks 𝓛 (block_ptr b e) (λ _. 0) always (λ n. fsep (flft α q) ftrue)
  gives g = let f : ℕ → ℕ = λ _. 0 in let X : Fml = cell_token γ g in let G : Pr = ex 𝓤 (Lies 𝓛 α q I b e f always (λ _. ftrue)) in borrowed 𝓛 α q I b e f always (λ _. ftrue) ⟦ X ⟧ (
      qed 𝓛 (‵ I ∷ ‵ X ∷ []) ∵ suffices ! _ (upd_i 𝓤 G) $ fpick ! (λ n. fsplit ! $ show ! (Lies 𝓛 α q I b e f always (λ _. ftrue)) n $ frame ! $
      each ! (λ (_ : Unit {0}). Again 𝓛 α q I b e f always (λ _. ftrue) n) (λ _. assume ! (‵ (word b e 0)) $ suffices ! _ (upd_i 𝓤 (⟦ I ⟧ ∗ ⟦ ftrue ⟧)) $
      move ! (2 ∷ []) $ fpack ! (Option Gv) (side γ 0) (Some g) $ move ! (1 ∷ 0 ∷ []) $ fjoin ! $ fpack ! ℕ (lies γ b o) 0 $ nothing ! $ move ! (1 ∷ 0 ∷ []) $ keep ! (0 ∷ 1 ∷ []) $ done !)))

  won_at : (n : ℕ) → n ≡ 0 → (v : Option Gv) → ⟦ side γ n v ⟧ ⊢ ⟦ fex Gv (cell_token γ) ⟧
  won_at n z (Some g) = qed 𝓛 (‵ (side γ n (Some g)) ∷ []) ∵ fpack ! Gv (cell_token γ) g $ done !
  won_at n z None = qed 𝓛 (‵ (side γ n None) ∷ []) ∵ fpick ! (λ h. absurd (h z))

  pub won : (n : ℕ) → n ≡ 0 → ⟦ St n ⟧ ⊢ ⟦ fex Gv (cell_token γ) ⟧
  won n z = qed 𝓛 (‵ (St n) ∷ []) ∵ fpick ! (λ v. by ! (won_at n z v))
