-- The invariant's quarters of the keys, one at a time. Assumes `Logic`.
use Rattle.std.proofs.Common.{◌≡◌, ℕ, zero, suc, ◌+◌, List, [], ◌∷◌, ◌++◌, length, set, sym, refl, ap, subst, Option, Some, slice_get, arith}
use mathlib.Core.Path.{Path}
use mathlib.Mathlib.Data.Part.{◌∈◌}
use seplogic.Ra.Pcs.{OpDef, OpDef-comm}
use seplogic.Ra.Ura.{Ura}
use seplogic.Ra.Constructions.Prod
use seplogic.Ra.Instances.Ag
use base.Fraction.{full_share}
use base.Share.{quarter, three_quarters}
use base.FractionLaws.{not-OpDef-full_share}
use base.Share
use base.Stored.{Coded, coded_list}
use base.SetCodes.{coded, SetCoded-set}
use base.Algebras.{pcs, shares}
use base.Logic.{SProp, ent, sep, ex, guard, upd, via, ex_e, guard_e, guard_i, upd_i, upd_mono}
use base.Fml.{Share, Fml}
use types.Logic.{Logic, sem}
use types.Keyed.{entry, entries_take, entries_beside, entry_cut, entry_glue, entry_set}
use types.Kit.{‵, raw, ◌⊛◌, given, ◌$◌, ◌∵◌, !, qed, move, split, join, learn, check, suffices, settle, done, use1, use2, rewrite}
use Rattle.seize_book.specs.Ledger.{halved, piece, roster}

module _ {E : Type 0} (c : Coded E) {M : Type 1} {𝓤 : Ura M} (𝓛 : Logic 𝓤) where
  abbrev Pr : Type 2
  Pr = SProp 𝓤

  abbrev ◌⊢◌ : Pr → Pr → Type 1
  P ⊢ Q = ent 𝓤 P Q

  abbrev ◌∗◌ : Pr → Pr → Pr
  P ∗ Q = sep 𝓤 P Q

  abbrev ⟦◌⟧ : Fml → Pr
  ⟦ P ⟧ = sem 𝓛 P

  infix 26 ◌⊢◌
  infixr 35 ◌∗◌
  module _ (δ : ℕ) where
    abbrev L : ℕ → List E → Fml
    L k own = piece c δ k quarter own

    abbrev R : ℕ → List E → Fml
    R k own = piece c δ k three_quarters own

    whole : (v : List E) → ◌∈◌ {α = Share × List E} (full_share, v) ((halved c).op (quarter, v) (three_quarters, v))
    whole v = Prod.mk-mem-op Share.op (Ag.op (SetCoded-set (coded (coded_list c)))) {a = quarter} {a' = three_quarters} {x = full_share} {b = v} {b' = v} {y = v} Share.quarters (Ag.idem (SetCoded-set (coded (coded_list c))) v)

    cut : (k : ℕ) (v : List E) → ⟦ piece c δ k full_share v ⟧ ⊢ ⟦ L k v ⟧ ∗ ⟦ R k v ⟧
    cut k v = entry_cut (halved c) 𝓛 δ k (quarter, v) (three_quarters, v) (full_share, v) (whole v)

    resets : (k : ℕ) (v u : List E) → ⟦ piece c δ k full_share v ⟧ ⊢ upd 𝓤 (⟦ L k u ⟧ ∗ ⟦ R k u ⟧)
    resets k v u = let B : Share × List E → Type 0 = λ x. Path (Share × List E) x (full_share, u) in let F : Share × List E → Pr = λ x. guard 𝓤 (B x) ⟦ entry (halved c) δ k x ⟧ in let Z : Pr = ⟦ L k u ⟧ ∗ ⟦ R k u ⟧ in
        via 𝓤 (upd 𝓤 (ex 𝓤 F)) (entry_set (halved c) 𝓛 δ k (full_share, v) B ∣ ((full_share, u), refl) ∣₁ (λ f d. absurd (not-OpDef-full_share f.0 d.0)))
        (upd_mono 𝓤 {P = ex 𝓤 F} {Q = Z} (ex_e 𝓤 F (λ x. guard_e 𝓤 (B x) ⟦ entry (halved c) δ k x ⟧ (λ e. subst (λ (y : Share × List E). ⟦ entry (halved c) δ k y ⟧ ⊢ Z) (sym e) (cut k u)))))

    joined : (k : ℕ) (w v : List E) → ⟦ L k w ⟧ ∗ ⟦ R k v ⟧ ⊢ guard 𝓤 (w ≡ v) ⟦ piece c δ k full_share w ⟧
    joined k w v = let F : Share × List E → Pr = λ x. guard 𝓤 (x ∈ (halved c).op (quarter, w) (three_quarters, v)) ⟦ entry (halved c) δ k x ⟧ in let Z : Pr = guard 𝓤 (w ≡ v) ⟦ piece c δ k full_share w ⟧ in
        via 𝓤 (ex 𝓤 F) (entry_glue (halved c) 𝓛 δ k (quarter, w) (three_quarters, v)) (ex_e 𝓤 F (λ x. guard_e 𝓤 (x ∈ (halved c).op (quarter, w) (three_quarters, v)) ⟦ entry (halved c) δ k x ⟧ (λ m.
        subst (λ (y : Share × List E). ⟦ entry (halved c) δ k y ⟧ ⊢ Z) m.1 (guard_i 𝓤 (w ≡ v) ⟦ piece c δ k full_share w ⟧ m.0.1))))

    -- the invariant's quarter of a key that someone holds says the same
    pub has : (owns : List (List E)) (k i j : ℕ) (v : List E) → j ≡ k + i → ⟦ roster c δ k owns ⟧ ∗ ⟦ R j v ⟧ ⊢ guard 𝓤 (slice_get owns i ≡ Some v) (⟦ roster c δ k owns ⟧ ∗ ⟦ R j v ⟧)
    has [] k i j v e = qed 𝓛 (‵ (roster c δ k []) ∷ ‵ (R j v) ∷ []) ∵ move ! (1 ∷ 0 ∷ []) $
        use2 𝓛 (given (OpDef (halved c).op (three_quarters, v) (full_share, [])) (‵ (R j v) ⊛ ‵ (roster c δ k []))) (entries_beside (halved c) 𝓛 δ k j (λ _. (full_share, [])) (three_quarters, v) (omega arith)) $
        learn ! (λ x. absurd (not-OpDef-full_share three_quarters ((OpDef-comm (pcs shares) {a = three_quarters} {b = full_share}).0 x.0)))
    has (o ∷ owns) k zero j v e = let is : j ≡ k = omega arith in qed 𝓛 ((‵ (L k o) ⊛ ‵ (roster c δ (suc k) owns)) ∷ ‵ (R j v) ∷ []) ∵ split ! $ rewrite ! 2 (λ (m : ℕ). ‵ (R m v)) is refl $ move ! (0 ∷ 2 ∷ []) $
        use2 𝓛 (given (o ≡ v) (‵ (piece c δ k full_share o))) (joined k o v) $ learn ! (λ same. check ! (ap (λ x. Option.Some x) same) $
        use1 𝓛 (‵ (L k o) ⊛ ‵ (R k o)) (cut k o) $ split ! $ rewrite ! 1 (λ (x : List E). ‵ (R k x)) same refl $ rewrite ! 1 (λ (m : ℕ). ‵ (R m v)) (sym is) refl $ move ! (0 ∷ 2 ∷ []) $ join ! $ done !)
    has (o ∷ owns) k (suc i) j v e = qed 𝓛 ((‵ (L k o) ⊛ ‵ (roster c δ (suc k) owns)) ∷ ‵ (R j v) ∷ []) ∵ split ! $ move ! (1 ∷ 2 ∷ []) $
        use2 𝓛 (given (slice_get owns i ≡ Some v) (‵ (roster c δ (suc k) owns) ⊛ ‵ (R j v))) (has owns (suc k) i j v (omega arith)) $ learn ! (λ so. check ! so $
        split ! $ move ! (2 ∷ 0 ∷ []) $ join ! $ done !)

    pub sets : (owns : List (List E)) (k i j : ℕ) (v u : List E) → j ≡ k + i → ⟦ roster c δ k owns ⟧ ∗ ⟦ R j v ⟧ ⊢ upd 𝓤 (⟦ roster c δ k (set owns i u) ⟧ ∗ ⟦ R j u ⟧)
    sets [] k i j v u e = qed 𝓛 (‵ (roster c δ k []) ∷ ‵ (R j v) ∷ []) ∵ move ! (1 ∷ 0 ∷ []) $
        use2 𝓛 (given (OpDef (halved c).op (three_quarters, v) (full_share, [])) (‵ (R j v) ⊛ ‵ (roster c δ k []))) (entries_beside (halved c) 𝓛 δ k j (λ _. (full_share, [])) (three_quarters, v) (omega arith)) $
        learn ! (λ x. absurd (not-OpDef-full_share three_quarters ((OpDef-comm (pcs shares) {a = three_quarters} {b = full_share}).0 x.0)))
    sets (o ∷ owns) k zero j v u e = let is : j ≡ k = omega arith in let Z : Pr = ⟦ roster c δ k (u ∷ owns) ⟧ ∗ ⟦ R j u ⟧ in
        qed 𝓛 ((‵ (L k o) ⊛ ‵ (roster c δ (suc k) owns)) ∷ ‵ (R j v) ∷ []) ∵ split ! $ rewrite ! 2 (λ (m : ℕ). ‵ (R m v)) is refl $ move ! (0 ∷ 2 ∷ []) $
        use2 𝓛 (given (o ≡ v) (‵ (piece c δ k full_share o))) (joined k o v) $ learn ! (λ same.
        use1 𝓛 (raw (upd 𝓤 (⟦ L k u ⟧ ∗ ⟦ R k u ⟧))) (resets k o u) $ settle 𝓛 Z (‵ (L k u) ⊛ ‵ (R k u)) $ split ! $ suffices ! _ (upd_i 𝓤 Z) $
        rewrite ! 1 (λ (m : ℕ). ‵ (R m u)) (sym is) refl $ move ! (0 ∷ 2 ∷ []) $ join ! $ done !)
    sets (o ∷ owns) k (suc i) j v u e = let Z : Pr = ⟦ roster c δ k (o ∷ set owns i u) ⟧ ∗ ⟦ R j u ⟧ in
        qed 𝓛 ((‵ (L k o) ⊛ ‵ (roster c δ (suc k) owns)) ∷ ‵ (R j v) ∷ []) ∵ split ! $ move ! (1 ∷ 2 ∷ []) $
        use2 𝓛 (raw (upd 𝓤 (⟦ roster c δ (suc k) (set owns i u) ⟧ ∗ ⟦ R j u ⟧))) (sets owns (suc k) i j v u (omega arith)) $
        settle 𝓛 Z (‵ (roster c δ (suc k) (set owns i u)) ⊛ ‵ (R j u)) $ split ! $ suffices ! _ (upd_i 𝓤 Z) $ move ! (2 ∷ 0 ∷ []) $ join ! $ done !

    -- a new key of the kind, the next number
    pub mints : (owns : List (List E)) (k j : ℕ) (u : List E) → j ≡ k + length owns → ⟦ roster c δ k owns ⟧ ⊢ upd 𝓤 (⟦ roster c δ k (owns ++ u ∷ []) ⟧ ∗ ⟦ R j u ⟧)
    mints [] k j u e = let is : k ≡ j = omega arith in let Z : Pr = ⟦ roster c δ k (u ∷ []) ⟧ ∗ ⟦ R j u ⟧ in
        qed 𝓛 (‵ (roster c δ k []) ∷ []) ∵ use1 𝓛 (‵ (piece c δ k full_share []) ⊛ ‵ (roster c δ (suc k) [])) (entries_take (halved c) 𝓛 δ k (λ _. (full_share, []))) $ split ! $
        use1 𝓛 (raw (upd 𝓤 (⟦ L k u ⟧ ∗ ⟦ R k u ⟧))) (resets k [] u) $ settle 𝓛 Z (‵ (L k u) ⊛ ‵ (R k u)) $ split ! $ suffices ! _ (upd_i 𝓤 Z) $
        rewrite ! 1 (λ (m : ℕ). ‵ (R m u)) is refl $ move ! (0 ∷ 2 ∷ []) $ join ! $ done !
    mints (o ∷ owns) k j u e = let Z : Pr = ⟦ roster c δ k (o ∷ (owns ++ u ∷ [])) ⟧ ∗ ⟦ R j u ⟧ in
        qed 𝓛 (‵ (L k o) ∷ ‵ (roster c δ (suc k) owns) ∷ []) ∵ move ! (1 ∷ []) $
        use1 𝓛 (raw (upd 𝓤 (⟦ roster c δ (suc k) (owns ++ u ∷ []) ⟧ ∗ ⟦ R j u ⟧))) (mints owns (suc k) j u (omega arith)) $ settle 𝓛 Z (‵ (roster c δ (suc k) (owns ++ u ∷ [])) ⊛ ‵ (R j u)) $ split ! $
        suffices ! _ (upd_i 𝓤 Z) $ move ! (2 ∷ 0 ∷ []) $ join ! $ done !
