-- A content's invariant, whatever is lent there: it is opened by private ghost steps alone, and each step of its stages is proved here. Assumes `Logic`.
use Rattle.std.proofs.Common.{◌≡◌, ℕ, List, [], ◌∷◌, ◌++◌, refl, sym, subst}
use mathlib.Core.List.{IsPrefix, not-mem-nil}
use seplogic.Ra.Ura.{Ura}
use base.Fraction.{full_share}
use base.Share
use base.Share.{quarter, three_quarters}
use base.Stored.{Gv}
use base.Logic.{SProp, ent, sep, wand, upd, emp, never, never_e, id⊢, upd_i, apply∗}
use base.Fml.{Lft, Share, Fml, ftrue, fex, flft, fbor, fnamed}
use base.Growing.{latest, at_least}
use types.Logic.{Logic, sem}
use types.Growing.{latest_grows, latest_bounds, latest_agrees, latest_cut, latest_glue, at_least_dup}
use types.Kit.{‵, raw, ◌⊛◌, some as exists, given as when, later, ◌$◌, ◌∵◌, !, qed, by, move, keep, drop, split, split3, group, fsplit, fsplit3, fjoin, fjoin3, fpick, fpack, pick, learn, show, frame, assume, suffices, settle, done, use0, use1, use2, use3, updating, await, now, rewrite}
use denote.Steps.{nothing}
use Rattle.seize_content.specs.Goods.{Goods, Lendable}
use Rattle.seize_content.specs.Stages.{Stage, held, lent, stages, last, goes}
use Rattle.seize_content.specs.Contents.{loan, body, onward, stands, shows, place, ticket_at, ticket_owns, stay_at, stay}

pub last_more : (u : Stage) (ms : List Stage) (t : Stage) → last u (ms ++ t ∷ []) ≡ t
last_more u [] t = refl
last_more u (m ∷ ms) t = last_more m ms t

module _ {M : Type 1} {𝓤 : Ura M} (𝓛 : Logic 𝓤) where
  open 𝓛 use {H, A}

  abbrev Pr : Type 2
  Pr = SProp 𝓤

  abbrev ◌⊢◌ : Pr → Pr → Type 1
  P ⊢ Q = ent 𝓤 P Q

  abbrev ◌∗◌ : Pr → Pr → Pr
  P ∗ Q = sep 𝓤 P Q

  abbrev ⟦◌⟧ : Fml → Pr
  ⟦ P ⟧ = sem 𝓛 P

  infix 26 ◌⊢◌
  infixr 35 ◌∗◌
  -- an invariant of its own number is opened by a ghost step alone
  pub opened : (j : ℕ) (ν : Lft) (q : Share) (P : Fml) (X Y : Pr) → ⟦ P ⟧ ∗ X ⊢ upd 𝓤 (⟦ P ⟧ ∗ Y) → A.named j (fbor ν P) ∗ A.lft ν q ∗ X ⊢ H.⇛ (Y ∗ A.lft ν q)
  opened j ν q P X Y h = qed 𝓛 (‵ (fnamed j (fbor ν P)) ∷ ‵ (flft ν q) ∷ raw X ∷ []) ∵ use0 𝓛 (‵ ftrue) (id⊢ 𝓤 (emp 𝓤)) $ move ! (1 ∷ 0 ∷ []) $ fjoin ! $
      suffices ! _ (𝓛.invs.invs_bor_acc j ν q P [] Y ((λ m. not-mem-nil m), tt)) $ frame ! $ frame ! $ assume ! (‵ P ⊛ ‵ ftrue) $ split ! $ move ! (0 ∷ 2 ∷ []) $
      let Z : Pr = ⟦ P ⟧ ∗ ⟦ ftrue ⟧ ∗ Y in use2 𝓛 (raw (upd 𝓤 (⟦ P ⟧ ∗ Y))) h $ settle 𝓛 Z (‵ P ⊛ raw Y) $ suffices ! _ (upd_i 𝓤 Z) $ split ! $ frame ! $ nothing ! $ frame ! $ keep ! (0 ∷ []) $ done !

  -- what is known of a loan can be had twice
  pub stay_twice : (γ : ℕ) (a : ℕ) (g : Gv) → ⟦ stay γ a g ⟧ ⊢ ⟦ stay γ a g ⟧ ∗ ⟦ stay γ a g ⟧
  stay_twice γ a g = qed 𝓛 (‵ (stay γ a g) ∷ []) ∵ fpick ! (λ ms. let Is = last held ms ≡ lent a g in fsplit ! $ fpick ! (λ is. drop ! $
      use1 𝓛 (‵ (at_least stages γ ms) ⊛ ‵ (at_least stages γ ms)) (at_least_dup stages 𝓛 γ ms) $ split ! $
      nothing ! $ fpack ! Is (λ _. ftrue) is $ move ! (0 ∷ 1 ∷ []) $ fjoin ! $ fpack ! (List Stage) (stay_at γ a g) ms $ frame ! $
      nothing ! $ fpack ! Is (λ _. ftrue) is $ move ! (0 ∷ 1 ∷ []) $ fjoin ! $ fpack ! (List Stage) (stay_at γ a g) ms $ done !))

  module _ (G : Goods) where
    abbrev on : Stage → List Stage → Fml
    on = onward G

    abbrev in_it : Stage → Fml
    in_it = body G

    -- one stage more
    pub ends : (u : Stage) (ms : List Stage) (t : Stage) → ⟦ on u ms ⟧ ⊢ ⟦ in_it (last u ms) ⟧ ∗ wand 𝓤 (⟦ goes (last u ms) t ⟧ ∗ ⟦ in_it t ⟧) ⟦ on u (ms ++ t ∷ []) ⟧
    ends u [] t = qed 𝓛 (‵ (in_it u) ∷ []) ∵ frame ! $ assume ! (‵ (goes u t) ⊛ ‵ (in_it t)) $ split ! $ fjoin ! $ done !
    ends u (m ∷ ms) t = let W : Pr = wand 𝓤 (⟦ goes (last m ms) t ⟧ ∗ ⟦ in_it t ⟧) ⟦ on m (ms ++ t ∷ []) ⟧ in qed 𝓛 (‵ (goes u m) ∷ ‵ (on m ms) ∷ []) ∵ move ! (1 ∷ []) $
        use1 𝓛 (‵ (in_it (last m ms)) ⊛ raw W) (ends m ms t) $ split ! $ frame ! $ assume ! (‵ (goes (last m ms) t) ⊛ ‵ (in_it t)) $
        use2 𝓛 (‵ (on m (ms ++ t ∷ []))) (apply∗ 𝓤 (⟦ goes (last m ms) t ⟧ ∗ ⟦ in_it t ⟧) ⟦ on m (ms ++ t ∷ []) ⟧) $ move ! (1 ∷ 0 ∷ []) $ fjoin ! $ done !

    -- ---- whoever has a share of a loan's lifetime finds its value there
    module _ (L : Lendable G) (a : ℕ) (g : Gv) (e : Share) where
      abbrev shown : Fml
      shown = fex G.Thing (shows G a g)

      abbrev Sees : Fml → Pr
      Sees F = ⟦ F ⟧ ∗ ⟦ flft (a ∷ []) e ⟧ ∗ ⟦ shown ⟧

      stays : (ts : List Stage) → ⟦ on (lent a g) ts ⟧ ∗ ⟦ flft (a ∷ []) e ⟧ ⊢ Sees (on (lent a g) ts)
      stays [] = qed 𝓛 (‵ (in_it (lent a g)) ∷ ‵ (flft (a ∷ []) e) ∷ []) ∵ fpick ! (λ x. let Is = G.code x ≡ g in fsplit3 ! $ fpick ! (λ is. drop ! $
          use1 𝓛 (‵ (G.shr x (a ∷ [])) ⊛ ‵ (G.shr x (a ∷ []))) ((L.shr_laws x).contraction M 𝓤 𝓛 (a ∷ [])) $ split ! $
          nothing ! $ fpack ! Is (λ _. ftrue) is $ move ! (0 ∷ 1 ∷ 3 ∷ []) $ fjoin3 ! $ fpack ! G.Thing (loan G a g) x $ frame ! $
          nothing ! $ fpack ! Is (λ _. ftrue) is $ move ! (0 ∷ 1 ∷ []) $ fjoin ! $ fpack ! G.Thing (shows G a g) x $ move ! (1 ∷ 0 ∷ []) $ frame ! $ done !))
      stays (t ∷ ts) = qed 𝓛 (‵ (on (lent a g) (t ∷ ts)) ∷ ‵ (flft (a ∷ []) e) ∷ []) ∵ fsplit ! $ move ! (2 ∷ 0 ∷ []) $
          suffices ! (never 𝓤) (never_e 𝓤 (Sees (on (lent a g) (t ∷ ts)))) $ keep ! (0 ∷ 1 ∷ []) $ by ! (𝓛.lfts.lft-dead (a ∷ []) e)

      finds : (u : Stage) (ks ts : List Stage) → last u ks ≡ lent a g → ⟦ on u (ks ++ ts) ⟧ ∗ ⟦ flft (a ∷ []) e ⟧ ⊢ Sees (on u (ks ++ ts))
      finds u [] ts is = subst (λ (v : Stage). ⟦ on v ts ⟧ ∗ ⟦ flft (a ∷ []) e ⟧ ⊢ Sees (on v ts)) (sym is) (stays ts)
      finds u (k ∷ ks) ts is = qed 𝓛 (‵ (on u (k ∷ (ks ++ ts))) ∷ ‵ (flft (a ∷ []) e) ∷ []) ∵ fsplit ! $ move ! (1 ∷ 2 ∷ []) $
          use2 𝓛 (‵ (on k (ks ++ ts)) ⊛ ‵ (flft (a ∷ []) e) ⊛ ‵ shown) (finds k ks ts is) $ split3 ! $ move ! (3 ∷ 0 ∷ []) $ fjoin ! $ done !

  -- ---- a content of the name γ
  module _ (G : Goods) (γ : ℕ) where
    -- a reader's step
    module _ (L : Lendable G) (a : ℕ) (g : Gv) (e : Share) where
      find_in : ⟦ place G γ ⟧ ∗ ⟦ stay γ a g ⟧ ∗ ⟦ flft (a ∷ []) e ⟧ ⊢ upd 𝓤 (⟦ place G γ ⟧ ∗ ⟦ fex G.Thing (shows G a g) ⟧ ∗ ⟦ flft (a ∷ []) e ⟧)
      find_in = let F : Fml = fex G.Thing (shows G a g) in let Z : Pr = ⟦ place G γ ⟧ ∗ ⟦ F ⟧ ∗ ⟦ flft (a ∷ []) e ⟧ in
          qed 𝓛 (‵ (place G γ) ∷ ‵ (stay γ a g) ∷ ‵ (flft (a ∷ []) e) ∷ []) ∵ suffices ! _ (upd_i 𝓤 Z) $ fpick ! (λ ms. fsplit ! $ move ! (2 ∷ []) $ fpick ! (λ ks. fsplit ! $ fpick ! (λ is. drop ! $
          -- [what was told; the name; what stands; the token]
          move ! (1 ∷ 0 ∷ []) $ use2 𝓛 (when (IsPrefix ks ms) (‵ (latest stages quarter γ ms) ⊛ ‵ (at_least stages γ ks))) (latest_bounds stages 𝓛 quarter γ ms ks) $ learn ! (λ past. split ! $ move ! (2 ∷ 3 ∷ []) $
          use2 𝓛 (‵ (onward G held ms) ⊛ ‵ (flft (a ∷ []) e) ⊛ ‵ F) (subst (λ (ls : List Stage). ⟦ onward G held ls ⟧ ∗ ⟦ flft (a ∷ []) e ⟧ ⊢ Sees G L a g e (onward G held ls)) past.1 (finds G L a g e held ks past.0 is)) $ split3 ! $
          move ! (3 ∷ 0 ∷ []) $ fjoin ! $ fpack ! (List Stage) (stands G γ) ms $ frame ! $ move ! (1 ∷ 0 ∷ []) $ frame ! $ keep ! (0 ∷ []) $ done !))))

      pub sees : (j : ℕ) (ν : Lft) (q : Share) → A.named j (fbor ν (place G γ)) ∗ A.lft ν q ∗ ⟦ stay γ a g ⟧ ∗ ⟦ flft (a ∷ []) e ⟧ ⊢ H.⇛ ((⟦ fex G.Thing (shows G a g) ⟧ ∗ ⟦ flft (a ∷ []) e ⟧) ∗ A.lft ν q)
      sees j ν q = opened j ν q (place G γ) (⟦ stay γ a g ⟧ ∗ ⟦ flft (a ∷ []) e ⟧) (⟦ fex G.Thing (shows G a g) ⟧ ∗ ⟦ flft (a ∷ []) e ⟧) find_in

    -- with the ticket: from the stage s to the stage t. What lay there at s comes out, and what lies there at t goes in
    module _ (s t : Stage) where
      turn_in : ⟦ place G γ ⟧ ∗ ⟦ ticket_owns γ s ⟧ ∗ ⟦ goes s t ⟧ ∗ ⟦ body G t ⟧ ⊢ upd 𝓤 (⟦ place G γ ⟧ ∗ ⟦ ticket_owns γ t ⟧ ∗ ⟦ body G s ⟧)
      turn_in = let Z : Pr = ⟦ place G γ ⟧ ∗ ⟦ ticket_owns γ t ⟧ ∗ ⟦ body G s ⟧ in
          qed 𝓛 (‵ (place G γ) ∷ ‵ (ticket_owns γ s) ∷ ‵ (goes s t) ∷ ‵ (body G t) ∷ []) ∵ fpick ! (λ ls. fsplit ! $ move ! (2 ∷ []) $ fpick ! (λ ms. fsplit ! $ fpick ! (λ is. drop ! $
          -- [the ticket; the place's part; what stands; the way; what goes in]
          move ! (1 ∷ 0 ∷ []) $ use2 𝓛 (when (ls ≡ ms) (‵ (latest stages quarter γ ls) ⊛ ‵ (latest stages three_quarters γ ms))) (latest_agrees stages 𝓛 quarter three_quarters γ ls ms) $ learn ! (λ e. split ! $
          let ms' : List Stage = ms ++ t ∷ [] in let W : Pr = wand 𝓤 (⟦ goes (last held ms) t ⟧ ∗ ⟦ body G t ⟧) ⟦ onward G held ms' ⟧ in
          rewrite ! 0 (λ (l : List Stage). ‵ (latest stages quarter γ l)) e refl $
          use2 𝓛 (‵ (latest stages full_share γ ms)) (latest_glue stages 𝓛 full_share quarter three_quarters γ ms Share.quarters) $
          use1 𝓛 (raw (upd 𝓤 ⟦ latest stages full_share γ ms' ⟧)) (latest_grows stages 𝓛 γ ms ms' (t ∷ [], refl)) $ settle 𝓛 Z (‵ (latest stages full_share γ ms')) $ suffices ! _ (upd_i 𝓤 Z) $
          use1 𝓛 (‵ (latest stages quarter γ ms') ⊛ ‵ (latest stages three_quarters γ ms')) (latest_cut stages 𝓛 full_share quarter three_quarters γ ms' Share.quarters) $ split ! $
          -- [the place's part; the ticket; what stands; the way; what goes in]
          move ! (2 ∷ []) $ rewrite ! 0 (λ (l : List Stage). ‵ (onward G held l)) e refl $ use1 𝓛 (‵ (body G (last held ms)) ⊛ raw W) (ends G held ms t) $ split ! $
          rewrite ! 0 (λ (u : Stage). ‵ (body G u)) is refl $ move ! (4 ∷ []) $ rewrite ! 0 (λ (u : Stage). ‵ (goes u t)) (sym is) refl $
          -- [the way; what comes out; the wand; the place's part; the ticket; what goes in]
          move ! (0 ∷ 5 ∷ []) $ types.Kit.join ! $ move ! (0 ∷ 2 ∷ []) $ use2 𝓛 (‵ (onward G held ms')) (apply∗ 𝓤 (⟦ goes (last held ms) t ⟧ ∗ ⟦ body G t ⟧) ⟦ onward G held ms' ⟧) $
          -- [what stands; what comes out; the place's part; the ticket]
          move ! (2 ∷ 0 ∷ []) $ fjoin ! $ fpack ! (List Stage) (stands G γ) ms' $ frame ! $
          nothing ! $ fpack ! (last held ms' ≡ t) (λ _. ftrue) (last_more held ms t) $ move ! (0 ∷ 2 ∷ []) $ fjoin ! $ fpack ! (List Stage) (ticket_at γ t) ms' $ frame ! $ keep ! (0 ∷ []) $ done !))))

      pub turns : (j : ℕ) (ν : Lft) (q : Share) → A.named j (fbor ν (place G γ)) ∗ A.lft ν q ∗ ⟦ ticket_owns γ s ⟧ ∗ ⟦ goes s t ⟧ ∗ ⟦ body G t ⟧ ⊢ H.⇛ ((⟦ ticket_owns γ t ⟧ ∗ ⟦ body G s ⟧) ∗ A.lft ν q)
      turns j ν q = opened j ν q (place G γ) (⟦ ticket_owns γ s ⟧ ∗ ⟦ goes s t ⟧ ∗ ⟦ body G t ⟧) (⟦ ticket_owns γ t ⟧ ∗ ⟦ body G s ⟧) turn_in
