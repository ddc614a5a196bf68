-- A `&` to a content has its invariant, by a number, under the lifetime of the first sharing; a `&` to a pool has shares of its token,
-- and what is known of the loan. Assumes `Logic`.
use Rattle.std.proofs.Common.{ℕ, ◌≤◌, [], ◌∷◌}
use seplogic.Ra.Ura.{Ura}
use base.Logic.{ent, sep, wand, apply∗}
use base.Fml.{Lft, Fml, flft, fbor, fnamed, Incl-refl}
use base.Fraction.{full_share}
use base.Before.{before}
use base.Stored.{Gv}
use types.Logic.{Logic, sem, lfts}
use types.Owned.{named_past}
use types.Na.{before-Incl, before_dup}
use types.Tokens.{bor_fracture}
use types.Kit.{‵, raw, ◌⊛◌, some, given, later, ◌$◌, ◌∵◌, !, qed, move, keep, drop, split, fsplit, fjoin, fpick, fpack, pick, learn, use0, use1, use2, updating, await, now, frame, done}
use denote.Sharing.{ShrLaws, said, one}
use denote.SharingLaws.{ends_shr_laws, one_shr_laws, beside_shr_laws}
use denote.Struct.Lending.{Lends, Lends-both}
use Rattle.seize_content.specs.Goods.{Goods}
use Rattle.seize_content.specs.Contents.{place, lent_place, place_shares, stay, pool_owns, pool_shares}
use Rattle.seize_content.proofs.Places.{stay_twice}

-- what can be had twice is lent as itself
lends_twice : {M : Type 1} {𝓤 : Ura M} (𝓛 : Logic 𝓤) (P : Fml) → ent 𝓤 (sem 𝓛 P) (sep 𝓤 (sem 𝓛 P) (sem 𝓛 P)) → (l : Lft) → Lends 𝓛 P (said P) l
lends_twice {𝓤 = 𝓤} 𝓛 P twice l κ ts inc sp = let Back = 𝓛.H.⇛ (sep 𝓤 (𝓛.A.bor κ P) (lfts 𝓛 ts)) in
    qed 𝓛 (‵ (fbor κ P) ∷ raw (lfts 𝓛 ts) ∷ []) ∵ updating ! $ use2 𝓛 (later (‵ P ⊛ raw (wand 𝓤 (sem 𝓛 P) Back))) (𝓛.more.bor_acc_by κ ts P sp) $ await ! tt $ split ! $ use1 𝓛 (‵ P ⊛ ‵ P) twice $ split ! $ move ! (0 ∷ 2 ∷ []) $
    use2 𝓛 (later (‵ (fbor κ P) ⊛ raw (lfts 𝓛 ts))) (apply∗ 𝓤 (sem 𝓛 P) Back) $ await ! tt $ split ! $ drop ! $ move ! (1 ∷ 0 ∷ []) $ now ! $ done !

module _ (G : Goods) (γ : ℕ) where
  module _ {M : Type 1} {𝓤 : Ura M} (𝓛 : Logic 𝓤) where
    open 𝓛 use {H, A}

    abbrev Q : Lft → Fml
    Q = place_shares G γ

    twice : (κ : Lft) → ent 𝓤 (sem 𝓛 (Q κ)) (sep 𝓤 (sem 𝓛 (Q κ)) (sem 𝓛 (Q κ)))
    twice κ = qed 𝓛 (‵ (Q κ) ∷ []) ∵ fpick ! (λ t. let N : Fml = fnamed t.1 (fbor t.0 (place G γ)) in fsplit ! $ use1 𝓛 (‵ (before κ t.0) ⊛ ‵ (before κ t.0)) (before_dup 𝓛 κ t.0) $ split ! $ move ! (2 ∷ []) $
        use1 𝓛 (‵ N ⊛ ‵ N) (𝓛.invs.named_dup t.1 (fbor t.0 (place G γ))) $ split ! $ move ! (2 ∷ 0 ∷ []) $ fjoin ! $ fpack ! (Lft × ℕ) (lent_place G γ κ) t $ frame ! $ move ! (1 ∷ 0 ∷ []) $ fjoin ! $ fpack ! (Lft × ℕ) (lent_place G γ κ) t $ done !)

    shorter : (κ' κ : Lft) → ent 𝓤 (sep 𝓤 (sem 𝓛 (before κ' κ)) (sem 𝓛 (Q κ))) (sem 𝓛 (Q κ'))
    shorter κ' κ = qed 𝓛 (‵ (before κ' κ) ∷ ‵ (Q κ) ∷ []) ∵ move ! (1 ∷ []) $ fpick ! (λ t. fsplit ! $ move ! (2 ∷ 0 ∷ []) $ use2 𝓛 (‵ (before κ' t.0)) ((ends_shr_laws t.0).mono M 𝓤 𝓛 κ' κ) $ fjoin ! $ fpack ! (Lft × ℕ) (lent_place G γ κ') t $ done !)

    pub place_lends : (l : Lft) → Lends 𝓛 (place G γ) Q l
    place_lends l κ ts inc sp = qed 𝓛 (‵ (fbor κ (place G γ)) ∷ raw (lfts 𝓛 ts) ∷ []) {P = H.⇛ (sep 𝓤 (sem 𝓛 (Q κ)) (lfts 𝓛 ts))} (updating ! $
        use1 𝓛 (later (some (λ (j : ℕ). given (0 ≤ j) (‵ (fnamed j (fbor κ (place G γ))))))) (named_past 𝓛 0 (fbor κ (place G γ))) $ await ! tt $ pick ! (λ j. learn ! (λ _.
        use0 𝓛 (‵ (before κ κ)) (before-Incl 𝓛 κ κ (Incl-refl κ)) $ fjoin ! $ fpack ! (Lft × ℕ) (lent_place G γ κ) (κ, j) $ now ! $ done !)))

  pub place_laws : ShrLaws (place_shares G γ)
  place_laws = record { contraction = λ M 𝓤 𝓛 κ. twice 𝓛 κ; mono = λ M 𝓤 𝓛 κ' κ. shorter 𝓛 κ' κ }

module _ (γ : ℕ) (a : ℕ) (g : Gv) where
  stay_laws : ShrLaws (said (stay γ a g))
  stay_laws = record { contraction = λ M 𝓤 𝓛 κ. stay_twice 𝓛 γ a g; mono = λ M 𝓤 𝓛 κ' κ. qed 𝓛 (‵ (before κ' κ) ∷ ‵ (stay γ a g) ∷ []) ∵ keep ! (1 ∷ []) $ done ! }

  pub pool_laws : ShrLaws (pool_shares γ a g)
  pool_laws = beside_shr_laws (one (λ q. flft (a ∷ []) q)) (said (stay γ a g)) (one_shr_laws (λ q. flft (a ∷ []) q)) stay_laws

  pub pool_lends : {M : Type 1} {𝓤 : Ura M} (𝓛 : Logic 𝓤) (l : Lft) → Lends 𝓛 (pool_owns γ a g) (pool_shares γ a g) l
  pool_lends 𝓛 l = Lends-both 𝓛 (flft (a ∷ []) full_share) (stay γ a g) (one (λ q. flft (a ∷ []) q)) (said (stay γ a g)) l
      (λ κ ts inc sp. qed 𝓛 (‵ (fbor κ (flft (a ∷ []) full_share)) ∷ raw (lfts 𝓛 ts) ∷ []) ∵ updating ! $ bor_fracture ! tt (λ q. flft (a ∷ []) q) full_share $ now ! $ done !) (lends_twice 𝓛 (stay γ a g) (stay_twice 𝓛 γ a g) l)
