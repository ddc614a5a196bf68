-- How a reader's share of a loan's token goes out in one step, and how all of it comes back before the loan ends. For the words that hold
-- pools, in crates above: an escrow is a borrow at an activation's lifetime β, made and opened before the step (`readies`), filled in the
-- step (`reads`), and closed after it (`settles`). Once all activations are over the whole token is there (`gathers`). Assumes `Logic`.
use Rattle.std.proofs.Common.{◌≡◌, ℕ, List, [], ◌∷◌, ◌++◌, refl, sym, ap}
use mathlib.Core.Option.{Option, none, some}
use seplogic.Ra.Ura.{Ura}
use base.Fraction.{full_share}
use base.Share
use base.Share.{quarter, three_quarters}
use base.Logic.{SProp, ent, sep, wand, ex, upd, id⊢, via, upd_i, apply∗}
use base.Stored.{Gv}
use base.Fml.{Lft, Share, Fml, ftrue, fsep, fseps, fwand, fupd, flft, fdead, fbor, fobor, flent, fshr_bor}
use base.Before.{before}
use base.Growing.{once, latest, at_least}
use types.Logic.{Logic, sem}
use types.Owned.{basic}
use types.Growing.{latest_new, latest_grows, latest_shows, latest_bounds, latest_agrees, latest_cut, latest_glue}
use types.Na.{before-Incl, before_lent}
use types.Tokens.{bor_new, bor_open, obor_close, obor_alter, bor_fracture, lent_back}
use types.Kit.{‵, raw, ◌⊛◌, some as exists, given, later, ◌$◌, ◌∵◌, !, qed, by, move, keep, split, fsplit, fsplit3, fjoin, fjoin3, fpick, fpack, pick, learn, show, frame, assume, suffices, settle, done, use0, use1, use2, use3, updating, await, now, rewrite}
use contract.BorrowLft.{meet_⊑_left}
use denote.SharingLaws.{ends_shr_laws}
use denote.Steps.{nothing}
use Rattle.seize_content.specs.Contents.{stay, pool_owns, sight_owns}
use Rattle.seize_content.specs.Readers.{LifeShare, pieces, holds, filled, escrow, escrow_deposit, pool, all_dead, share_left, lent_pool, reader_share}
use Rattle.seize_content.proofs.Places.{stay_twice}

nothing_stays : (o : Option LifeShare) → pieces.le none o
unfolding once
nothing_stays o = tt

is_that : (o : Option LifeShare) (t : LifeShare) → pieces.le (some t) o → o ≡ some t
unfolding once
is_that none t l = absurd l
is_that (some x) t l = ap some (sym l)

module _ {M : Type 1} {𝓤 : Ura M} (𝓛 : Logic 𝓤) where
  open 𝓛 use {H, A}

  abbrev Pr : Type 2
  Pr = SProp 𝓤

  abbrev ◌⊢◌ : Pr → Pr → Type 1
  P ⊢ Q = ent 𝓤 P Q

  abbrev ◌∗◌ : Pr → Pr → Pr
  P ∗ Q = sep 𝓤 P Q

  abbrev ⟦◌⟧ : Fml → Pr
  ⟦ P ⟧ = sem 𝓛 P

  infix 26 ◌⊢◌
  infixr 35 ◌∗◌
  abbrev top : Share → ℕ → Option LifeShare → Fml
  top q γ o = latest pieces q γ o

  abbrev past : ℕ → LifeShare → Fml
  past γ t = at_least pieces γ (some t)

  -- before the step: an escrow that is empty, and open, with the right to fill it
  abbrev pub Ready : Lft → Share → ℕ → Pr
  Ready β q γ = ⟦ top full_share γ none ⟧ ∗ A.obor β q (escrow γ) ∗ A.lent β (escrow γ)

  pub readies : (β : Lft) (q : Share) → A.lft β q ⊢ H.⇛ (ex 𝓤 (Ready β q))
  readies β q = qed 𝓛 (‵ (flft β q) ∷ []) ∵ updating ! $ use0 𝓛 (later (exists (λ (γ : ℕ). ‵ (top full_share γ none)))) (via 𝓤 _ (latest_new pieces 𝓛 none) (basic 𝓛 _)) $ await ! tt $ pick ! (λ γ.
      use1 𝓛 (‵ (top quarter γ none) ⊛ ‵ (top three_quarters γ none)) (latest_cut pieces 𝓛 full_share quarter three_quarters γ none Share.quarters) $ split ! $
      nothing ! $ move ! (1 ∷ 0 ∷ []) $ fjoin ! $ fpack ! (Option LifeShare) (filled γ) none $ bor_new ! tt β $ move ! (0 ∷ 3 ∷ []) $ bor_open ! tt $ move ! (1 ∷ []) $ fpick ! (λ o. fsplit ! $
      -- [the quarter; what it holds; the open borrow; the lender's right; the rest]
      move ! (0 ∷ 4 ∷ []) $ use2 𝓛 (given (o ≡ none) (‵ (top quarter γ o) ⊛ ‵ (top three_quarters γ none))) (latest_agrees pieces 𝓛 quarter three_quarters γ o none) $ learn ! (λ e. split ! $ rewrite ! 0 (λ (x : Option LifeShare). ‵ (top quarter γ x)) e refl $
      use2 𝓛 (‵ (top full_share γ none)) (latest_glue pieces 𝓛 full_share quarter three_quarters γ none Share.quarters) $ move ! (0 ∷ 2 ∷ 3 ∷ []) $ now ! $ show ! (Ready β q) γ $ keep ! (0 ∷ 1 ∷ 2 ∷ []) $ done !)))

  -- within the step: it is filled, for good
  pub fills : (γ : ℕ) (t : LifeShare) → ⟦ top full_share γ none ⟧ ⊢ upd 𝓤 (⟦ top full_share γ (some t) ⟧ ∗ ⟦ past γ t ⟧)
  fills γ t = let Z : Pr = ⟦ top full_share γ (some t) ⟧ ∗ ⟦ past γ t ⟧ in qed 𝓛 (‵ (top full_share γ none) ∷ []) ∵ use1 𝓛 (raw (upd 𝓤 ⟦ top full_share γ (some t) ⟧)) (latest_grows pieces 𝓛 γ none (some t) (nothing_stays (some t))) $
      settle 𝓛 Z (‵ (top full_share γ (some t))) $ suffices ! _ (upd_i 𝓤 Z) $ by ! (latest_shows pieces 𝓛 full_share γ (some t) (some t) (pieces.same (some t)))

  -- one more reader: the pool's share is halved
  pub takes : (a : ℕ) (r : Share) (ds : List (Lft × ℕ)) (d : Lft × ℕ) → ⟦ pool a r ds ⟧ ⊢ ⟦ flft (a ∷ []) (Share.right (share_left r ds)) ⟧ ∗ (wand 𝓤 ⟦ escrow_deposit a (Share.right (share_left r ds)) d ⟧ ⟦ pool a r (ds ++ d ∷ []) ⟧)
  takes a r [] d = qed 𝓛 (‵ (flft (a ∷ []) r) ∷ []) ∵ use1 𝓛 (‵ (flft (a ∷ []) (Share.left r)) ⊛ ‵ (flft (a ∷ []) (Share.right r))) (𝓛.lfts.lft_split (a ∷ []) r) $ split ! $ move ! (1 ∷ []) $ frame ! $
      assume ! (‵ (escrow_deposit a (Share.right r) d)) $ fjoin ! $ done !
  takes a r (x ∷ ds) d = let e : Share = Share.right (share_left r (x ∷ ds)) in let W : Pr = wand 𝓤 ⟦ escrow_deposit a e d ⟧ ⟦ pool a (Share.left r) (ds ++ d ∷ []) ⟧ in
      qed 𝓛 (‵ (escrow_deposit a (Share.right r) x) ∷ ‵ (pool a (Share.left r) ds) ∷ []) ∵ move ! (1 ∷ []) $ use1 𝓛 (‵ (flft (a ∷ []) e) ⊛ raw W) (takes a (Share.left r) ds d) $ split ! $ frame ! $
      assume ! (‵ (escrow_deposit a e d)) $ use2 𝓛 (‵ (pool a (Share.left r) (ds ++ d ∷ []))) (apply∗ 𝓤 ⟦ escrow_deposit a e d ⟧ ⟦ pool a (Share.left r) (ds ++ d ∷ []) ⟧) $ move ! (1 ∷ 0 ∷ []) $ fjoin ! $ done !

  way_back : (β : Lft) (γ : ℕ) (t : LifeShare) → ⟦ top full_share γ (some t) ⟧ ⊢ ⟦ fwand (fsep (fdead β) (fseps (flft (t.0 ∷ []) t.1 ∷ []))) (fupd (escrow γ)) ⟧
  unfolding fseps
  way_back β γ t = qed 𝓛 (‵ (top full_share γ (some t)) ∷ []) ∵ assume ! (‵ (fsep (fdead β) (fsep (flft (t.0 ∷ []) t.1) ftrue))) $ suffices ! ⟦ escrow γ ⟧ (upd_i 𝓤 ⟦ escrow γ ⟧) $ fsplit3 ! $ move ! (3 ∷ []) $
      use1 𝓛 (‵ (top quarter γ (some t)) ⊛ ‵ (top three_quarters γ (some t))) (latest_cut pieces 𝓛 full_share quarter three_quarters γ (some t) Share.quarters) $ split ! $
      move ! (0 ∷ 3 ∷ []) $ fjoin ! $ fpack ! (Option LifeShare) (filled γ) (some t) $ keep ! (0 ∷ []) $ done !

  -- after the step: β ends no later than a
  pub settles : (β : Lft) (q : Share) (γ : ℕ) (t : LifeShare) → ⟦ top full_share γ (some t) ⟧ ∗ ⟦ flft (t.0 ∷ []) t.1 ⟧ ∗ A.obor β q (escrow γ) ⊢ H.⇛ (A.shr_bor β (λ s. flft (t.0 ∷ []) s) ∗ A.lft β q)
  unfolding fseps
  settles β q γ t = let ν : Lft = t.0 ∷ [] in qed 𝓛 (‵ (top full_share γ (some t)) ∷ ‵ (flft ν t.1) ∷ ‵ (fobor β q (escrow γ)) ∷ []) ∵ updating ! $
      use1 𝓛 (‵ (fwand (fsep (fdead β) (fseps (flft ν t.1 ∷ []))) (fupd (escrow γ)))) (way_back β γ t) $ nothing ! $ move ! (2 ∷ 0 ∷ []) $ fjoin ! $ move ! (2 ∷ 0 ∷ 1 ∷ []) $ obor_alter ! tt (flft ν t.1 ∷ []) $
      use1 𝓛 (‵ (fbor β (flft ν t.1)) ⊛ ‵ ftrue) (id⊢ 𝓤 _) $ split ! $ bor_fracture ! tt (λ s. flft ν s) t.1 $ now ! $ keep ! (0 ∷ 2 ∷ []) $ done !

  -- once β is over, the share comes back
  pub returns : (β : Lft) (γ : ℕ) (t : LifeShare) → A.dead β ∗ A.lent β (escrow γ) ∗ ⟦ past γ t ⟧ ⊢ H.⇛ ⟦ flft (t.0 ∷ []) t.1 ⟧
  returns β γ t = qed 𝓛 (‵ (fdead β) ∷ ‵ (flent β (escrow γ)) ∷ ‵ (past γ t) ∷ []) ∵ updating ! $ lent_back ! tt $ fpick ! (λ o. fsplit ! $ move ! (0 ∷ 2 ∷ []) $
      use2 𝓛 (given (pieces.le (some t) o) (‵ (top quarter γ o) ⊛ ‵ (past γ t))) (latest_bounds pieces 𝓛 quarter γ o (some t)) $ learn ! (λ l. split ! $ move ! (2 ∷ []) $
      rewrite ! 0 (λ (x : Option LifeShare). ‵ (holds x)) (is_that o t l) refl $ now ! $ keep ! (0 ∷ []) $ done !))

  -- and all of them, so that a can end
  pub gathers : (a : ℕ) (r : Share) (ds : List (Lft × ℕ)) → ⟦ pool a r ds ⟧ ∗ ⟦ all_dead ds ⟧ ⊢ H.⇛ (A.lft (a ∷ []) r)
  gathers a r [] = qed 𝓛 (‵ (flft (a ∷ []) r) ∷ ‵ ftrue ∷ []) ∵ updating ! $ now ! $ keep ! (0 ∷ []) $ done !
  gathers a r (d ∷ ds) = qed 𝓛 (‵ (pool a r (d ∷ ds)) ∷ ‵ (all_dead (d ∷ ds)) ∷ []) ∵ updating ! $ fsplit ! $ fsplit ! $ move ! (3 ∷ []) $ fsplit ! $
      -- [it is over; the rest are over; the lender's right; what was left in it; the rest]
      move ! (4 ∷ 1 ∷ []) $ use2 𝓛 (later (‵ (flft (a ∷ []) (Share.left r)))) (gathers a (Share.left r) ds) $ await ! tt $ move ! (1 ∷ 2 ∷ 3 ∷ []) $
      use3 𝓛 (later (‵ (flft (a ∷ []) (Share.right r)))) (returns d.0 d.1 (a, Share.right r)) $ await ! tt $ move ! (1 ∷ 0 ∷ []) $ use2 𝓛 (‵ (flft (a ∷ []) r)) (𝓛.lfts.lft_join (a ∷ []) r) $ now ! $ done !

  -- ---- the pool of a loan, with what is known of it
  module _ (γ : ℕ) (a : ℕ) (g : Gv) where
    -- one reader more, in one step
    module _ (ds : List (Lft × ℕ)) (β : Lft) (ε : ℕ) where
      abbrev pub share_of : Share
      share_of = Share.right (share_left full_share ds)

      pub reads : ⟦ lent_pool γ a g ds ⟧ ∗ ⟦ top full_share ε none ⟧ ∗ A.lent β (escrow ε) ⊢ upd 𝓤 (⟦ lent_pool γ a g (ds ++ (β, ε) ∷ []) ⟧ ∗ ⟦ reader_share γ a g ε share_of ⟧)
      reads = let e : Share = share_of in let d : Lft × ℕ = (β, ε) in let ds' : List (Lft × ℕ) = ds ++ d ∷ [] in let Z : Pr = ⟦ lent_pool γ a g ds' ⟧ ∗ ⟦ reader_share γ a g ε e ⟧ in
          let W : Pr = wand 𝓤 ⟦ escrow_deposit a e d ⟧ ⟦ pool a full_share ds' ⟧ in
          qed 𝓛 (‵ (lent_pool γ a g ds) ∷ ‵ (top full_share ε none) ∷ ‵ (flent β (escrow ε)) ∷ []) ∵ move ! (1 ∷ []) $ use1 𝓛 (raw (upd 𝓤 (⟦ top full_share ε (some (a, e)) ⟧ ∗ ⟦ past ε (a, e) ⟧))) (fills ε (a, e)) $
          settle 𝓛 Z (‵ (top full_share ε (some (a, e))) ⊛ ‵ (past ε (a, e))) $ suffices ! _ (upd_i 𝓤 Z) $ split ! $
          -- [its escrow's name; that it is filled; the pool; the right to the escrow]
          move ! (2 ∷ []) $ fsplit ! $ use1 𝓛 (‵ (flft (a ∷ []) e) ⊛ raw W) (takes a full_share ds d) $ split ! $
          -- [its share; the wand; what is known; the escrow's name; that it is filled; the right to the escrow]
          move ! (5 ∷ 4 ∷ []) $ fjoin ! $ move ! (0 ∷ 2 ∷ []) $ use2 𝓛 (‵ (pool a full_share ds')) (apply∗ 𝓤 ⟦ escrow_deposit a e d ⟧ ⟦ pool a full_share ds' ⟧) $
          move ! (2 ∷ []) $ use1 𝓛 (‵ (stay γ a g) ⊛ ‵ (stay γ a g)) (stay_twice 𝓛 γ a g) $ split ! $
          -- [what is known, twice; the pool; its share; the escrow's name]
          move ! (2 ∷ 0 ∷ []) $ fjoin ! $ frame ! $ move ! (2 ∷ 1 ∷ 0 ∷ []) $ fjoin3 ! $ keep ! (0 ∷ []) $ done !

    -- and none any more
    pub whole : (ds : List (Lft × ℕ)) → ⟦ lent_pool γ a g ds ⟧ ∗ ⟦ all_dead ds ⟧ ⊢ H.⇛ ⟦ pool_owns γ a g ⟧
    whole ds = qed 𝓛 (‵ (lent_pool γ a g ds) ∷ ‵ (all_dead ds) ∷ []) ∵ updating ! $ fsplit ! $ move ! (0 ∷ 2 ∷ []) $ use2 𝓛 (later (‵ (flft (a ∷ []) full_share))) (gathers a full_share ds) $ await ! tt $ fjoin ! $ now ! $ keep ! (0 ∷ []) $ done !

    -- what a reader has after its step is a sight, for as long as its activation is borrowed
    pub sights : (β κ : Lft) → A.shr_bor β (λ s. flft (a ∷ []) s) ∗ A.shr_bor κ (λ s. flft β s) ∗ ⟦ stay γ a g ⟧ ⊢ ⟦ sight_owns κ γ a g ⟧
    sights β κ = let α : Lft = a ∷ [] in qed 𝓛 (‵ (fshr_bor β (λ s. flft α s)) ∷ ‵ (fshr_bor κ (λ s. flft β s)) ∷ ‵ (stay γ a g) ∷ []) ∵
        use0 𝓛 (‵ (before (α ++ β) α)) (before-Incl 𝓛 (α ++ β) α (meet_⊑_left α β)) $ move ! (1 ∷ 0 ∷ []) $ use2 𝓛 (‵ (before β α)) (before_lent 𝓛 β α α) $
        use0 𝓛 (‵ (before (β ++ κ) β)) (before-Incl 𝓛 (β ++ κ) β (meet_⊑_left β κ)) $ move ! (2 ∷ 0 ∷ []) $ use2 𝓛 (‵ (before κ β)) (before_lent 𝓛 κ β β) $ move ! (0 ∷ 1 ∷ []) $
        use2 𝓛 (‵ (before κ α)) ((ends_shr_laws α).mono M 𝓤 𝓛 κ β) $ fjoin ! $ done !

    -- after the step: the share is laid into the escrow, and the reader has its sight, and its activation's token back
    pub settled : (β κ : Lft) (q : Share) (ε : ℕ) (e : Share) → ⟦ reader_share γ a g ε e ⟧ ∗ A.obor β q (escrow ε) ∗ A.shr_bor κ (λ s. flft β s) ⊢ H.⇛ (⟦ sight_owns κ γ a g ⟧ ∗ A.lft β q)
    settled β κ q ε e = qed 𝓛 (‵ (reader_share γ a g ε e) ∷ ‵ (fobor β q (escrow ε)) ∷ ‵ (fshr_bor κ (λ s. flft β s)) ∷ []) ∵ updating ! $ fsplit3 ! $
        -- [the escrow's name; the share; what is known; the open escrow; the activation's]
        move ! (0 ∷ 1 ∷ 3 ∷ []) $ use3 𝓛 (later (‵ (fshr_bor β (λ s. flft (a ∷ []) s)) ⊛ ‵ (flft β q))) (settles β q ε (a, e)) $ await ! tt $ split ! $
        move ! (0 ∷ 3 ∷ 2 ∷ []) $ use3 𝓛 (‵ (sight_owns κ γ a g)) (sights β κ) $ now ! $ keep ! (0 ∷ 1 ∷ []) $ types.Kit.join ! $ done !

  -- where nothing was found the escrow stays empty
  pub left_empty : (β : Lft) (q : Share) (γ : ℕ) → ⟦ top full_share γ none ⟧ ∗ A.obor β q (escrow γ) ⊢ H.⇛ (A.lft β q)
  left_empty β q γ = qed 𝓛 (‵ (top full_share γ none) ∷ ‵ (fobor β q (escrow γ)) ∷ []) ∵ updating ! $ use1 𝓛 (‵ (top quarter γ none) ⊛ ‵ (top three_quarters γ none)) (latest_cut pieces 𝓛 full_share quarter three_quarters γ none Share.quarters) $ split ! $
      nothing ! $ move ! (1 ∷ 0 ∷ []) $ fjoin ! $ fpack ! (Option LifeShare) (filled γ) none $ move ! (2 ∷ 0 ∷ []) $ obor_close ! tt $ now ! $ keep ! (1 ∷ []) $ done !
