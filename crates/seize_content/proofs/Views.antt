-- What a reader's reference is made of: the place is opened by a ghost step, while the loan lasts. Assumes `Logic`.
use Rattle.std.proofs.Common.{◌≡◌, ℕ, [], ◌∷◌, ◌++◌}
use seplogic.Ra.Ura.{Ura}
use base.Stored.{Gv}
use base.Logic.{SProp, ent, sep, wand, ex, guard, apply∗}
use base.Fml.{Lft, Share, Fml, fex, flft}
use base.Before.{before}
use types.Logic.{Logic, sem}
use types.Na.{before_dup}
use types.Kit.{‵, raw, ◌⊛◌, some as exists, later, ◌$◌, ◌∵◌, !, qed, move, keep, drop, split, group, fsplit, fpick, pick, show, check, use1, use2, updating, await, now, done}
use contract.Shared.{Lends-one}
use contract.Running.{Running}
use prog.Model.{Model}
use Rattle.seize_content.specs.Goods.{Goods, Lendable}
use Rattle.seize_content.specs.Contents.{place_shares, stay, shows}
use Rattle.seize_content.proofs.Places.{sees}
use Rattle.seize_content.proofs.Meet.{before_both}

module _ {M : Type 1} {𝓤 : Ura M} (𝓛 : Logic 𝓤) (𝓜 : Model 𝓤 𝓛.H) (𝓡 : Running 𝓤 𝓛.H 𝓜) (G : Goods) (L : Lendable G) (γ : ℕ) (κ : Lft) (q : Share) (a : ℕ) (g : Gv) where
  open 𝓛 use {H, A}

  abbrev ◌⊢◌ : SProp 𝓤 → SProp 𝓤 → Type 1
  P ⊢ Q = ent 𝓤 P Q

  abbrev ◌∗◌ : SProp 𝓤 → SProp 𝓤 → SProp 𝓤
  P ∗ Q = sep 𝓤 P Q

  abbrev ⟦◌⟧ : Fml → SProp 𝓤
  ⟦ P ⟧ = sem 𝓛 P

  infix 26 ◌⊢◌
  infixr 35 ◌∗◌
  abbrev pub View : G.Thing → SProp 𝓤
  View x = guard 𝓤 (G.code x ≡ g) (⟦ G.shr x κ ⟧ ∗ A.lft κ q)

  pub views : ⟦ place_shares G γ κ ⟧ ∗ ⟦ before κ (a ∷ []) ⟧ ∗ ⟦ stay γ a g ⟧ ∗ A.lft κ q ⊢ H.⇛ (ex 𝓤 View)
  views = qed 𝓛 (‵ (place_shares G γ κ) ∷ ‵ (before κ (a ∷ [])) ∷ ‵ (stay γ a g) ∷ ‵ (flft κ q) ∷ []) ∵ updating ! $ fpick ! (λ t. let ν : Lft = t.0 in let α : Lft = a ∷ [] in fsplit ! $ move ! (2 ∷ []) $
      use1 𝓛 (‵ (before κ α) ⊛ ‵ (before κ α)) (before_dup 𝓛 κ α) $ split ! $
      -- [κ before the loan's, twice; κ before the place's; the place; what is known; the token]
      move ! (0 ∷ 2 ∷ []) $ use2 𝓛 (‵ (before κ (α ++ ν))) (before_both 𝓛 κ α ν) $ move ! (0 ∷ 4 ∷ []) $
      use2 𝓛 (later (exists (λ (r : Share). ‵ (flft (α ++ ν) r) ⊛ raw (wand 𝓤 (A.lft (α ++ ν) r) (H.⇛ (A.lft κ q)))))) (Lends-one 𝓛 𝓜 𝓡 κ (α ++ ν) q) $ await ! tt $ pick ! (λ r. split ! $
      use1 𝓛 (‵ (flft α r) ⊛ ‵ (flft ν r)) (𝓛.lfts.lft_unmeet α ν r) $ split ! $
      -- [the loan's token; the place's; the way back; κ before the loan's; the place; what is known]
      move ! (4 ∷ 1 ∷ 5 ∷ 0 ∷ []) $ group ! 4 $ use1 𝓛 (later ((‵ (fex G.Thing (shows G a g)) ⊛ ‵ (flft α r)) ⊛ ‵ (flft ν r))) (sees 𝓛 G γ L a g r t.1 ν r) $ await ! tt $ split ! $ split ! $
      -- [what is seen; the loan's token; the place's; the way back; κ before the loan's]
      move ! (1 ∷ 2 ∷ []) $ use2 𝓛 (‵ (flft (α ++ ν) r)) (𝓛.lfts.lft_meet α ν r) $ move ! (0 ∷ 2 ∷ []) $ use2 𝓛 (later (‵ (flft κ q))) (apply∗ 𝓤 (A.lft (α ++ ν) r) (H.⇛ (A.lft κ q))) $ await ! tt $
      -- [the token; what is seen; κ before the loan's]
      move ! (1 ∷ []) $ fpick ! (λ y. fsplit ! $ fpick ! (λ same. drop ! $
      move ! (2 ∷ 0 ∷ []) $ use2 𝓛 (‵ (G.shr y κ)) ((L.shr_laws y).mono M 𝓤 𝓛 κ α) $ now ! $ show ! View y $ check ! same $ keep ! (0 ∷ 1 ∷ []) $ done !))))
