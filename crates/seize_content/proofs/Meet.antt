-- A lifetime that ends no later than each of two ends no later than their meet: a reader's, a loan's and that of the content's sharing.
-- Assumes `Logic`.
use Rattle.std.proofs.Common.{List, [], ◌∷◌, ◌++◌}
use seplogic.Ra.Ura.{Ura}
use base.Logic.{SProp, ent, sep}
use base.Fml.{Lft, Incl, Fml, Incl-trans}
use base.Before.{before, chain}
use types.Logic.{Logic, sem}
use types.Na.{before-Incl, before_lent, before_shorten}
use types.Kit.{‵, ◌$◌, ◌∵◌, !, qed, by, move, drop, fsplit, fpick, use1, use2}
use contract.BorrowLft.{meet_⊑_right, ⊑_meet}

module _ {M : Type 1} {𝓤 : Ura M} (𝓛 : Logic 𝓤) where
  open 𝓛 use {H, A}

  abbrev ⟦◌⟧ : Fml → SProp 𝓤
  ⟦ P ⟧ = sem 𝓛 P

  abbrev ◌⊢◌ : SProp 𝓤 → SProp 𝓤 → Type 1
  P ⊢ Q = ent 𝓤 P Q

  abbrev ◌∗◌ : SProp 𝓤 → SProp 𝓤 → SProp 𝓤
  P ∗ Q = sep 𝓤 P Q

  infix 26 ◌⊢◌
  infixr 35 ◌∗◌
  second : (νs : List Lft) (κ μ ν : Lft) → Incl κ μ → ⟦ chain νs κ ν ⟧ ⊢ ⟦ before κ (μ ++ ν) ⟧
  second [] κ μ ν h = qed 𝓛 (‵ (chain [] κ ν) ∷ []) ∵ fpick ! (λ k. drop ! $ by ! (before-Incl 𝓛 κ (μ ++ ν) (⊑_meet κ μ ν h k)))
  second (α ∷ νs) κ μ ν h = qed 𝓛 (‵ (chain (α ∷ νs) κ ν) ∷ []) ∵ fsplit ! $ move ! (1 ∷ []) $ use1 𝓛 (‵ (before (α ++ κ) (μ ++ ν))) (second νs (α ++ κ) μ ν (Incl-trans (meet_⊑_right α κ) h)) $ move ! (1 ∷ 0 ∷ []) $ by ! (before_lent 𝓛 κ α (μ ++ ν))

  first : (νs : List Lft) (κ μ ν : Lft) → ⟦ chain νs κ μ ⟧ ∗ ⟦ before κ ν ⟧ ⊢ ⟦ before κ (μ ++ ν) ⟧
  first [] κ μ ν = qed 𝓛 (‵ (chain [] κ μ) ∷ ‵ (before κ ν) ∷ []) ∵ fpick ! (λ h. drop ! $ fpick ! (λ νs. by ! (second νs κ μ ν h)))
  first (α ∷ νs) κ μ ν = qed 𝓛 (‵ (chain (α ∷ νs) κ μ) ∷ ‵ (before κ ν) ∷ []) ∵ fsplit ! $ move ! (2 ∷ []) $ use1 𝓛 (‵ (before (α ++ κ) ν)) (before_shorten 𝓛 κ (α ++ κ) ν (meet_⊑_right α κ)) $
      move ! (2 ∷ 0 ∷ []) $ use2 𝓛 (‵ (before (α ++ κ) (μ ++ ν))) (first νs (α ++ κ) μ ν) $ move ! (1 ∷ 0 ∷ []) $ by ! (before_lent 𝓛 κ α (μ ++ ν))

  pub before_both : (κ μ ν : Lft) → ⟦ before κ μ ⟧ ∗ ⟦ before κ ν ⟧ ⊢ ⟦ before κ (μ ++ ν) ⟧
  before_both κ μ ν = qed 𝓛 (‵ (before κ μ) ∷ ‵ (before κ ν) ∷ []) ∵ fpick ! (λ νs. by ! (first νs κ μ ν))
