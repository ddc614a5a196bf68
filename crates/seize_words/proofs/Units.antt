-- The token of a lifetime is cut into units and joined again, and a `&` to some of them is a share of it. Assumes `Logic`.
--     cuts, glues       units are cut and joined
--     units, whole      the whole token is all units, and the other way round
--     Lends-units       a `&` to units lends shares of the token
use Rattle.std.proofs.Common.{ℕ, ◌+◌, ◌^◌, ◌<◌, ◌≤◌, [], ◌∷◌, arith}
use mathlib.Mathlib.Data.Part.{◌∈◌}
use seplogic.Ra.Ura.{Ura}
use base.Share
use base.Fraction.{full_share}
use base.FractionLaws.{counts_some, Counts-op, Counts-all}
use base.Logic.{SProp, ent, sep, wand, apply∗, id⊢, upd_i}
use base.Fml.{Lft, Share, Fml, ftrue, fsep, fseps, fwand, fupd, flft, fdead, fbor, fshr_bor}
use denote.Sharing.{one}
use denote.Steps.{nothing}
use denote.Struct.Lending.{Lends}
use ghost.Rules.{span, thinned}
use types.Logic.{Logic, sem, lfts}
use types.Kit.{‵, raw, ◌⊛◌, some, later, ◌$◌, ◌∵◌, !, qed, by, move, keep, use1, use2, split, split3, fjoin, fpick, fpack, pick, assume, suffices, await, updating, now, done}
use types.Tokens.{bor_open, obor_alter, bor_fracture, one_token}
use Rattle.seize_words.specs.Units.{AreUnits, all_units, has_units, share_of}

module _ {M : Type 1} {𝓤 : Ura M} (𝓛 : Logic 𝓤) (life : ℕ) where
  open 𝓛 use {H, A}

  abbrev Pr : Type 2
  Pr = SProp 𝓤

  abbrev ◌⊢◌ : Pr → Pr → Type 1
  P ⊢ Q = ent 𝓤 P Q

  abbrev ◌∗◌ : Pr → Pr → Pr
  P ∗ Q = sep 𝓤 P Q

  abbrev ⟦◌⟧ : Fml → Pr
  ⟦ P ⟧ = sem 𝓛 P

  infix 26 ◌⊢◌
  infixr 35 ◌∗◌
  abbrev ν : Lft
  ν = life ∷ []

  units_in : (n : ℕ) (s : Share) → AreUnits s n → A.lft ν s ⊢ ⟦ has_units life n ⟧
  units_in n s are = qed 𝓛 (‵ (flft ν s) ∷ []) ∵ fpack ! (AreUnits s n) (λ _. flft ν s) are $ fpack ! Share (share_of life n) s $ done !

  pub cuts : (n k : ℕ) → 0 < n → 0 < k → ⟦ has_units life (n + k) ⟧ ⊢ ⟦ has_units life n ⟧ ∗ ⟦ has_units life k ⟧
  cuts n k more least =
      qed 𝓛 (‵ (has_units life (n + k)) ∷ []) ∵ fpick ! (λ s. fpick ! (λ c. let fits = c.2 in let r = counts_some 64 n more (omega (arith, fits)) in let u = counts_some 64 k least (omega (arith, fits)) in
      let sum : s ∈ Share.op r.0 u.0 = Counts-op 64 r.0 u.0 s n k (n + k) r.1 u.1 c.0 (omega arith) in
      use1 𝓛 (‵ (flft ν r.0) ⊛ ‵ (flft ν u.0)) (𝓛.lfts.lft_cut ν s r.0 u.0 sum) $ split ! $ use1 𝓛 (‵ (has_units life n)) (units_in n r.0 (r.1, more, omega (arith, fits))) $
      move ! (1 ∷ []) $ use1 𝓛 (‵ (has_units life k)) (units_in k u.0 (u.1, least, omega (arith, fits))) $ move ! (1 ∷ 0 ∷ []) $ done !))

  pub glues : (n k : ℕ) → n + k ≤ all_units → ⟦ has_units life n ⟧ ∗ ⟦ has_units life k ⟧ ⊢ ⟦ has_units life (n + k) ⟧
  glues n k fits = qed 𝓛 (‵ (has_units life n) ∷ ‵ (has_units life k) ∷ []) ∵ fpick ! (λ s. fpick ! (λ c. move ! (1 ∷ []) $ fpick ! (λ u. fpick ! (λ d.
      let its = c.1 in let more : 0 < n + k = omega (arith, its) in let r = counts_some 64 (n + k) more fits in
      let sum : r.0 ∈ Share.op s u = Counts-op 64 s u r.0 n k (n + k) c.0 d.0 r.1 (omega arith) in
      move ! (1 ∷ 0 ∷ []) $ use2 𝓛 (‵ (flft ν r.0)) (𝓛.lfts.lft_glue ν r.0 s u sum) $ by ! (units_in (n + k) r.0 (r.1, more, fits))))))

  pub units : A.lft ν full_share ⊢ ⟦ has_units life all_units ⟧
  units = units_in all_units full_share (Counts-all 64, omega arith, omega arith)

  pub whole : ⟦ has_units life all_units ⟧ ⊢ A.lft ν full_share
  whole =
      let r = counts_some 64 (2 ^ 63) (omega arith) (omega arith) in
      qed 𝓛 (‵ (has_units life all_units) ∷ []) ∵ fpick ! (λ s. fpick ! (λ c.
      let sum : s ∈ Share.op r.0 r.0 = Counts-op 64 r.0 r.0 s (2 ^ 63) (2 ^ 63) (2 ^ 64) r.1 r.1 c.0 (omega arith) in
      let all : full_share ∈ Share.op r.0 r.0 = Counts-op 64 r.0 r.0 full_share (2 ^ 63) (2 ^ 63) (2 ^ 64) r.1 r.1 (Counts-all 64) (omega arith) in
      use1 𝓛 (‵ (flft ν r.0) ⊛ ‵ (flft ν r.0)) (𝓛.lfts.lft_cut ν s r.0 r.0 sum) $ split ! $ use2 𝓛 (‵ (flft ν full_share)) (𝓛.lfts.lft_glue ν full_share r.0 r.0 all) $ done !))

  module _ (n : ℕ) (κ : Lft) where
    abbrev Owns : Fml
    Owns = has_units life n

    abbrev Shows : Fml
    Shows = fshr_bor κ (λ q. flft ν q)

    shows : (q : Share) → A.bor κ Owns ∗ A.lft κ q ⊢ H.⇛ (⟦ Shows ⟧ ∗ A.lft κ q)
    unfolding fseps
    shows q = qed 𝓛 (‵ (fbor κ Owns) ∷ ‵ (flft κ q) ∷ []) ∵ updating ! $ bor_open ! tt $ move ! (1 ∷ []) $ fpick ! (λ s. fpick ! (λ c.
        nothing ! $ move ! (1 ∷ 0 ∷ []) $ fjoin ! $ nothing ! $
        use1 𝓛 (‵ (fwand (fsep (fdead κ) (fseps (flft ν s ∷ []))) (fupd Owns)))
        (qed 𝓛 (‵ ftrue ∷ []) ∵ assume ! (‵ (fdead κ) ⊛ ‵ (flft ν s) ⊛ ‵ ftrue) $ split3 ! $ keep ! (1 ∷ []) $ suffices ! _ (upd_i 𝓤 ⟦ Owns ⟧) $ by ! (units_in n s c)) $
        move ! (2 ∷ 1 ∷ 0 ∷ []) $ obor_alter ! tt (flft ν s ∷ []) $ use1 𝓛 (‵ (fbor κ (flft ν s)) ⊛ ‵ ftrue) (id⊢ 𝓤 _) $ split ! $
        bor_fracture ! tt (λ p. flft ν p) s $ now ! $ keep ! (0 ∷ 2 ∷ []) $ done !))

  pub Lends-units : (n : ℕ) (l : Lft) → Lends 𝓛 (has_units life n) (one (λ q. flft ν q)) l
  Lends-units n l κ ts inc sp = qed 𝓛 (‵ (fbor κ (has_units life n)) ∷ raw (lfts 𝓛 ts) ∷ []) ∵ updating ! $ move ! (1 ∷ []) $
      use1 𝓛 (some (λ (q : Share). ‵ (flft (span ts) q) ⊛ raw (wand 𝓤 (A.lft (span ts) q) (lfts 𝓛 ts)))) (one_token 𝓛 ts) $ pick ! (λ q. split ! $
      use1 𝓛 (‵ (flft κ (thinned κ q)) ⊛ raw (wand 𝓤 (A.lft κ (thinned κ q)) (A.lft (span ts) q))) (𝓛.lfts.lft-incl (span ts) κ q sp) $ split ! $ move ! (3 ∷ 0 ∷ []) $
      use2 𝓛 (later (‵ (Shows n κ) ⊛ ‵ (flft κ (thinned κ q)))) (shows n κ (thinned κ q)) $ await ! tt $ split ! $ move ! (1 ∷ 2 ∷ []) $
      use2 𝓛 (‵ (flft (span ts) q)) (apply∗ 𝓤 (A.lft κ (thinned κ q)) (A.lft (span ts) q)) $ move ! (0 ∷ 2 ∷ []) $ use2 𝓛 (raw (lfts 𝓛 ts)) (apply∗ 𝓤 (A.lft (span ts) q) (lfts 𝓛 ts)) $
      now ! $ move ! (1 ∷ 0 ∷ []) $ done !)
