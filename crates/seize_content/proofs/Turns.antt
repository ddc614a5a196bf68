-- What a call does with a content that is shared: a `&` to it has the place's invariant, by a lifetime that lasts as long. Assumes `Logic`.
use Rattle.std.proofs.Common.{◌≡◌, ℕ, [], ◌∷◌}
use seplogic.Ra.Ura.{Ura}
use base.Stored.{Gv}
use base.Logic.{SProp, ent, sep, wand, ex, ex_i, guard, guard_i, via, apply∗}
use base.Fml.{Lft, Incl, Share, Fml, flft, fbor, fnamed}
use types.Logic.{Logic, sem}
use types.Kit.{‵, raw, ◌⊛◌, some as exists, given as when, later, ◌$◌, ◌∵◌, !, qed, move, split, split3, group, join, fsplit, fpick, pick, learn, use1, use2, use3, updating, await, now, done}
use contract.Shared.{Lends-one}
use contract.Running.{Running}
use prog.Model.{Model}
use Rattle.seize_content.specs.Goods.{Goods, Lendable}
use Rattle.seize_content.specs.Stages.{lent}
use Rattle.seize_content.specs.Contents.{place, place_shares, ticket_owns, in_hand, pool_owns}
use Rattle.seize_content.proofs.Loans.{lends_out, comes_back}

module _ {M : Type 1} {𝓤 : Ura M} (𝓛 : Logic 𝓤) (𝓜 : Model 𝓤 𝓛.H) (𝓡 : Running 𝓤 𝓛.H 𝓜) (G : Goods) (γ : ℕ) (κ : Lft) (q : Share) where
  open 𝓛 use {H, A}

  abbrev Pr : Type 2
  Pr = SProp 𝓤

  abbrev ◌⊢◌ : Pr → Pr → Type 1
  P ⊢ Q = ent 𝓤 P Q

  abbrev ◌∗◌ : Pr → Pr → Pr
  P ∗ Q = sep 𝓤 P Q

  abbrev ⟦◌⟧ : Fml → Pr
  ⟦ P ⟧ = sem 𝓛 P

  infix 26 ◌⊢◌
  infixr 35 ◌∗◌
  -- a step with the place's invariant and a token of its lifetime is one with a `&` and a token of its own
  inside : (X Y : Pr) → ((j : ℕ) (ν : Lft) (r : Share) → A.named j (fbor ν (place G γ)) ∗ A.lft ν r ∗ X ⊢ H.⇛ (Y ∗ A.lft ν r)) → ⟦ place_shares G γ κ ⟧ ∗ A.lft κ q ∗ X ⊢ H.⇛ (Y ∗ A.lft κ q)
  inside X Y step = qed 𝓛 (‵ (place_shares G γ κ) ∷ ‵ (flft κ q) ∷ raw X ∷ []) ∵ updating ! $ fpick ! (λ t. let ν : Lft = t.0 in fsplit ! $ move ! (0 ∷ 2 ∷ []) $
      use2 𝓛 (later (exists (λ (r : Share). ‵ (flft ν r) ⊛ raw (wand 𝓤 (A.lft ν r) (H.⇛ (A.lft κ q)))))) (Lends-one 𝓛 𝓜 𝓡 κ ν q) $ await ! tt $ pick ! (λ r. split ! $
      -- [its token; the way back; the invariant; X]
      move ! (2 ∷ 0 ∷ 3 ∷ []) $ use3 𝓛 (later (raw Y ⊛ ‵ (flft ν r))) (step t.1 ν r) $ await ! tt $ split ! $ move ! (1 ∷ 2 ∷ []) $
      use2 𝓛 (later (‵ (flft κ q))) (apply∗ 𝓤 (A.lft ν r) (H.⇛ (A.lft κ q))) $ await ! tt $ move ! (1 ∷ 0 ∷ []) $ now ! $ join ! $ done !))

  module _ (L : Lendable G) (l : Lft) (inc : Incl l G.lives) (x : G.Thing) (r : Share) where
    abbrev IsOut : ℕ → Pr
    IsOut a = ⟦ ticket_owns γ (lent a (G.code x)) ⟧ ∗ ⟦ pool_owns γ a (G.code x) ⟧ ∗ A.lft l r

    pub lends : ⟦ place_shares G γ κ ⟧ ∗ A.lft κ q ∗ ⟦ in_hand G γ x ⟧ ∗ A.lft l r ⊢ H.⇛ (ex 𝓤 IsOut ∗ A.lft κ q)
    lends = let g : Gv = G.code x in inside (⟦ in_hand G γ x ⟧ ∗ A.lft l r) (ex 𝓤 IsOut) (λ j ν s. qed 𝓛 (‵ (fnamed j (fbor ν (place G γ))) ∷ ‵ (flft ν s) ∷ ‵ (in_hand G γ x) ∷ ‵ (flft l r) ∷ []) ∵ updating ! $
        group ! 4 $ use1 𝓛 (later (exists (λ (a : ℕ). ‵ (ticket_owns γ (lent a g)) ⊛ ‵ (pool_owns γ a g) ⊛ ‵ (flft l r) ⊛ ‵ (flft ν s)))) (lends_out 𝓛 G γ L l inc x r ν s j) $ await ! tt $ pick ! (λ a. split ! $ move ! (1 ∷ []) $ split3 ! $
        move ! (3 ∷ 0 ∷ 1 ∷ []) $ group ! 3 $ use1 𝓛 (raw (ex 𝓤 IsOut)) (ex_i 𝓤 IsOut a) $ now ! $ join ! $ done !))

  module _ (a : ℕ) (g : Gv) where
    abbrev IsIn : G.Thing → Pr
    IsIn x = guard 𝓤 (G.code x ≡ g) ⟦ in_hand G γ x ⟧

    pub comes : ⟦ place_shares G γ κ ⟧ ∗ A.lft κ q ∗ ⟦ ticket_owns γ (lent a g) ⟧ ∗ ⟦ pool_owns γ a g ⟧ ⊢ H.⇛ (ex 𝓤 IsIn ∗ A.lft κ q)
    comes = inside (⟦ ticket_owns γ (lent a g) ⟧ ∗ ⟦ pool_owns γ a g ⟧) (ex 𝓤 IsIn) (λ j ν r. qed 𝓛 (‵ (fnamed j (fbor ν (place G γ))) ∷ ‵ (flft ν r) ∷ ‵ (ticket_owns γ (lent a g)) ∷ ‵ (pool_owns γ a g) ∷ []) ∵ updating ! $
        group ! 4 $ use1 𝓛 (later (exists (λ (x : G.Thing). when (G.code x ≡ g) (‵ (in_hand G γ x) ⊛ ‵ (flft ν r))))) (comes_back 𝓛 G γ a g ν r j) $ await ! tt $ pick ! (λ x. learn ! (λ same. split ! $
        use1 𝓛 (raw (ex 𝓤 IsIn)) (via 𝓤 (IsIn x) (guard_i 𝓤 (G.code x ≡ g) _ same) (ex_i 𝓤 IsIn x)) $ now ! $ join ! $ done !)))
