-- How a content begins, is lent, and comes back, whatever is lent there. Assumes `Logic`.
use Rattle.std.proofs.Common.{◌≡◌, ℕ, List, [], ◌∷◌, refl}
use seplogic.Ra.Ura.{Ura}
use base.Fraction.{full_share}
use base.Share
use base.Share.{quarter, three_quarters}
use base.Stored.{Gv}
use base.Logic.{SProp, emp, ent, sep, ex, guard, via}
use base.Fml.{Lft, Incl, Share, Fml, ftrue, flft, fdead, fbor, fnamed}
use base.Growing.{latest, at_least, prefix_refl}
use types.Logic.{Logic, sem}
use types.Owned.{basic}
use types.Growing.{latest_new, latest_shows, latest_cut}
use types.Tokens.{lft_new, lft_end, bor_new, lent_back}
use types.Kit.{‵, ◌⊛◌, some as exists, given as when, later, ◌$◌, ◌∵◌, !, qed, move, keep, drop, split, split3, group, fsplit, fsplit3, fjoin, fjoin3, fpick, fpack, pick, learn, show, check, frame, done, use0, use1, use2, use3, updating, await, now}
use contract.BorrowLft.{meet_⊑_left, meet_⊑_right}
use denote.Steps.{nothing}
use denote.Struct.Lending.{Lends}
use Rattle.seize_content.specs.Stages.{Stage, held, lent, stages, last}
use Rattle.seize_content.specs.Goods.{Goods, Lendable}
use Rattle.seize_content.specs.Contents.{loan, body, stands, place, named, ticket_at, ticket_owns, stay_at, stay, pool_owns, in_hand}
use Rattle.seize_content.proofs.Places.{turns}

module _ {M : Type 1} {𝓤 : Ura M} (𝓛 : Logic 𝓤) where
  open 𝓛 use {H, A}

  abbrev Pr : Type 2
  Pr = SProp 𝓤

  abbrev ◌⊢◌ : Pr → Pr → Type 1
  P ⊢ Q = ent 𝓤 P Q

  abbrev ◌∗◌ : Pr → Pr → Pr
  P ∗ Q = sep 𝓤 P Q

  abbrev ⟦◌⟧ : Fml → Pr
  ⟦ P ⟧ = sem 𝓛 P

  infix 26 ◌⊢◌
  infixr 35 ◌∗◌
  -- a list of stages of its own, and its ticket. What is lent there may be told by its name
  abbrev pub Started : Stage → ℕ → Pr
  Started s γ = ⟦ named γ s ⟧ ∗ ⟦ ticket_owns γ s ⟧

  pub starts : (s : Stage) → emp 𝓤 ⊢ H.⇛ (ex 𝓤 (Started s))
  starts s = let ms : List Stage = s ∷ [] in qed 𝓛 [] ∵ updating ! $
      use0 𝓛 (later (exists (λ (γ : ℕ). ‵ (latest stages full_share γ ms)))) (via 𝓤 _ (latest_new stages 𝓛 ms) (basic 𝓛 _)) $ await ! tt $ pick ! (λ γ.
      use1 𝓛 (‵ (named γ s) ⊛ ‵ (latest stages three_quarters γ ms)) (latest_cut stages 𝓛 full_share quarter three_quarters γ ms Share.quarters) $ split ! $
      move ! (1 ∷ []) $ nothing ! $ fpack ! (s ≡ s) (λ _. ftrue) refl $ fjoin ! $ fpack ! (List Stage) (ticket_at γ s) ms $ now ! $ show ! (Started s) γ $ move ! (1 ∷ 0 ∷ []) $ done !)

  module _ (G : Goods) where
    -- a content begins at a stage s, with a name that nothing else has
    pub lays : (γ : ℕ) (s : Stage) → ⟦ named γ s ⟧ ∗ ⟦ body G s ⟧ ⊢ ⟦ place G γ ⟧
    lays γ s = qed 𝓛 (‵ (named γ s) ∷ ‵ (body G s) ∷ []) ∵ nothing ! $ move ! (0 ∷ 2 ∷ []) $ fjoin ! $ move ! (1 ∷ 0 ∷ []) $ fjoin ! $ fpack ! (List Stage) (stands G γ) (s ∷ []) $ done !

    module _ (γ : ℕ) where
      -- what a ticket says of a loan is known for good
      pub tells : (a : ℕ) (g : Gv) → ⟦ ticket_owns γ (lent a g) ⟧ ⊢ ⟦ ticket_owns γ (lent a g) ⟧ ∗ ⟦ stay γ a g ⟧
      tells a g = qed 𝓛 (‵ (ticket_owns γ (lent a g)) ∷ []) ∵ fpick ! (λ ms. let Is = last held ms ≡ lent a g in fsplit ! $ fpick ! (λ is. drop ! $
          use1 𝓛 (‵ (latest stages three_quarters γ ms) ⊛ ‵ (at_least stages γ ms)) (latest_shows stages 𝓛 three_quarters γ ms ms (prefix_refl ms)) $ split ! $
          nothing ! $ fpack ! Is (λ _. ftrue) is $ move ! (0 ∷ 1 ∷ []) $ fjoin ! $ fpack ! (List Stage) (ticket_at γ (lent a g)) ms $ frame ! $
          nothing ! $ fpack ! Is (λ _. ftrue) is $ move ! (0 ∷ 1 ∷ []) $ fjoin ! $ fpack ! (List Stage) (stay_at γ a g) ms $ done !))

      -- ---- a value in hand is lent, for a lifetime of its own: a token within its type's lifetimes serves
      module _ (L : Lendable G) (l : Lft) (inc : Incl l G.lives) (x : G.Thing) where
        abbrev g : Gv
        g = G.code x

        abbrev lends : Lends 𝓛 (G.own x) (G.shr x) l
        lends = L.lends 𝓛 x l inc

        abbrev Lent : Share → ℕ → Pr
        Lent r a = ⟦ body G (lent a g) ⟧ ∗ A.lft (a ∷ []) full_share ∗ A.lft l r

        lends_it : (r : Share) → ⟦ G.own x ⟧ ∗ A.lft l r ⊢ H.⇛ (ex 𝓤 (Lent r))
        lends_it r = qed 𝓛 (‵ (G.own x) ∷ ‵ (flft l r) ∷ []) ∵ updating ! $ lft_new ! tt (λ a. move ! (1 ∷ []) $ bor_new ! tt (a ∷ []) $ move ! (0 ∷ 2 ∷ 3 ∷ []) $
            use3 𝓛 (later (‵ (G.shr x (a ∷ [])) ⊛ (‵ (flft (a ∷ []) full_share) ⊛ ‵ (flft l r)))) (lends (a ∷ []) ((a ∷ [], full_share) ∷ (l, r) ∷ []) (meet_⊑_right (a ∷ []) l) (meet_⊑_left (a ∷ []) l)) $ await ! tt $ split ! $ move ! (1 ∷ []) $ split ! $
            -- [its token; that of the content's own; what is lent; the right to have it back]
            now ! $ show ! (Lent r) a $ move ! (2 ∷ 3 ∷ []) $ nothing ! $ fpack ! (g ≡ g) (λ _. ftrue) refl $ fjoin3 ! $ fpack ! G.Thing (loan G a g) x $ frame ! $ done !)

        module _ (r : Share) (ν : Lft) (q : Share) where
          abbrev pub IsLent : ℕ → Pr
          IsLent a = ⟦ ticket_owns γ (lent a g) ⟧ ∗ ⟦ pool_owns γ a g ⟧ ∗ A.lft l r ∗ A.lft ν q

          pub lends_out : (j : ℕ) → A.named j (fbor ν (place G γ)) ∗ A.lft ν q ∗ ⟦ in_hand G γ x ⟧ ∗ A.lft l r ⊢ H.⇛ (ex 𝓤 IsLent)
          lends_out j = qed 𝓛 (‵ (fnamed j (fbor ν (place G γ))) ∷ ‵ (flft ν q) ∷ ‵ (in_hand G γ x) ∷ ‵ (flft l r) ∷ []) ∵ updating ! $ move ! (2 ∷ []) $ fsplit ! $ move ! (0 ∷ 4 ∷ []) $
              use2 𝓛 (later (exists (λ (a : ℕ). ‵ (body G (lent a g)) ⊛ ‵ (flft (a ∷ []) full_share) ⊛ ‵ (flft l r)))) (lends_it r) $ await ! tt $ pick ! (λ a. split3 ! $ let t : Stage = lent a g in
              -- [the value; its token; the other token; the ticket; the place; its token]
              nothing ! $ move ! (5 ∷ 6 ∷ 4 ∷ 0 ∷ 1 ∷ []) $ group ! 5 $ use1 𝓛 (later ((‵ (ticket_owns γ t) ⊛ ‵ (body G held)) ⊛ ‵ (flft ν q))) (turns 𝓛 G γ held t j ν q) $ await ! tt $ split ! $ split ! $
              use1 𝓛 (‵ (ticket_owns γ t) ⊛ ‵ (stay γ a g)) (tells a g) $ split ! $
              -- [the ticket; what is known of the loan; nothing; the place's token; the loan's; the other]
              move ! (4 ∷ 1 ∷ []) $ fjoin ! $ now ! $ show ! IsLent a $ move ! (1 ∷ 0 ∷ 4 ∷ 3 ∷ []) $ keep ! (0 ∷ 1 ∷ 2 ∷ 3 ∷ []) $ done !)

      -- ---- and is in hand again, with the whole of that lifetime's token
      module _ (a : ℕ) (g : Gv) where
        abbrev pub Given : G.Thing → Pr
        Given x = guard 𝓤 (G.code x ≡ g) ⟦ G.own x ⟧

        comes : A.dead (a ∷ []) ∗ ⟦ body G (lent a g) ⟧ ⊢ H.⇛ (ex 𝓤 Given)
        comes = qed 𝓛 (‵ (fdead (a ∷ [])) ∷ ‵ (body G (lent a g)) ∷ []) ∵ updating ! $ move ! (1 ∷ []) $ fpick ! (λ x. fsplit3 ! $ fpick ! (λ same. drop ! $ move ! (2 ∷ 1 ∷ []) $ lent_back ! tt $ now ! $ show ! Given x $ check ! same $ keep ! (0 ∷ []) $ done !))

        module _ (ν : Lft) (q : Share) where
          abbrev pub IsBack : G.Thing → Pr
          IsBack x = guard 𝓤 (G.code x ≡ g) (⟦ in_hand G γ x ⟧ ∗ A.lft ν q)

          pub comes_back : (j : ℕ) → A.named j (fbor ν (place G γ)) ∗ A.lft ν q ∗ ⟦ ticket_owns γ (lent a g) ⟧ ∗ ⟦ pool_owns γ a g ⟧ ⊢ H.⇛ (ex 𝓤 IsBack)
          comes_back j = qed 𝓛 (‵ (fnamed j (fbor ν (place G γ))) ∷ ‵ (flft ν q) ∷ ‵ (ticket_owns γ (lent a g)) ∷ ‵ (pool_owns γ a g) ∷ []) ∵ updating ! $ move ! (3 ∷ []) $ fsplit ! $
              lft_end ! tt $ use1 𝓛 (‵ (fdead (a ∷ [])) ⊛ ‵ (fdead (a ∷ []))) (𝓛.lfts.dead_dup (a ∷ [])) $ split ! $
              -- [it is over, twice; what is known; the place; its token; the ticket]
              nothing ! $ move ! (4 ∷ 5 ∷ 6 ∷ 1 ∷ 0 ∷ []) $ group ! 5 $ use1 𝓛 (later ((‵ (ticket_owns γ held) ⊛ ‵ (body G (lent a g))) ⊛ ‵ (flft ν q))) (turns 𝓛 G γ (lent a g) held j ν q) $ await ! tt $ split ! $ split ! $
              -- [the ticket; what was lent; the token; it is over; what is known]
              move ! (3 ∷ 1 ∷ []) $ use2 𝓛 (later (exists (λ (x : G.Thing). when (G.code x ≡ g) (‵ (G.own x))))) comes $ await ! tt $ pick ! (λ x. learn ! (λ same.
              move ! (0 ∷ 1 ∷ []) $ fjoin ! $ now ! $ show ! IsBack x $ check ! same $ keep ! (0 ∷ 1 ∷ []) $ done !))
