-- The machine value of an `Identity`, and one behind a `&mut` opened and shut; two have two names. Assumes `Logic`.
use Rattle.std.proofs.Common.{◌≡◌, ℕ, [], ◌∷◌, refl, ap, subst, inl, inr}
use native.Mathlib.Nat.{suc-ne-zero}
use Rattle.std.proofs.lemmas.Bool.{cases_eq}
use seplogic.Ra.Ura.{Ura}
use base.Logic.{SProp, ent, sep, wand, all, emp, guard, guard_i, via}
use base.Stored.{gnum, num}
use base.Fml.{Lft, Share, Fml, fsep, fobs, fauth, fbor, flft}
use types.Logic.{Logic, sem}
use types.Na.{out}
use types.Tokens.{name_set}
use types.SemTy.{Body}
use types.Kit.{‵, ◌⊛◌, given, ◌$◌, ◌∵◌, !, qed, move, fsplit, fjoin, frame, each, assume, learn, use2, updating, now, done}
use mir.Val.{vstruct, vnil}
use denote.RattleType.{RattleType}
use denote.Memory.{mem}
use denote.Shadow.{makes_shadow}
use denote.Steps.{opens, closes}
use denote.Struct.Struct.{Struct}
use denote.Struct.Owning.{shape}
use Rattle.seize_store.proofs.Tokens.{token}
use Rattle.seize_store.specs.contracts.identity.Identity as identity

abbrev pub Identity : RattleType
Identity = identity.the_row

abbrev pub Data : Fml
Data = (Struct (shape identity.the_type)).own_val (tt, tt) (token ∷ [])

module _ {M : Type 1} {𝓤 : Ura M} (𝓛 : Logic 𝓤) where
  pub identity_made : ent 𝓤 (emp 𝓤) (sem 𝓛 Data)
  identity_made = makes_shadow 𝓛 Data (λ vss. (tt, ((λ uss. (tt, tt)), tt))) ((vstruct vnil ∷ [], tt), (refl, ((tt, (refl, tt)), tt)))

  abbrev pub Two : ℕ → ℕ → SProp 𝓤
  Two γ δ = sep 𝓤 (sem 𝓛 (out γ)) (sem 𝓛 (out δ))

  abbrev Apart : ℕ → ℕ → SProp 𝓤
  Apart γ δ = guard 𝓤 (γ ≡ δ → ⊥) (Two γ δ)

  -- one name twice: the first sets it, and the second says otherwise
  clash : (γ : ℕ) (X : SProp 𝓤) → ent 𝓤 (Two γ γ) (𝓛.H.⇛ X)
  clash γ X = qed 𝓛 (‵ (out γ) ∷ ‵ (out γ) ∷ []) ∵ updating ! $ fsplit ! $ name_set ! tt (gnum 1) $ move ! (2 ∷ []) $ fsplit ! $ move ! (2 ∷ 1 ∷ []) $
      use2 𝓛 (given (gnum 1 ≡ gnum 0) (‵ (fobs γ (gnum 1)) ⊛ ‵ (fauth γ (gnum 0)))) (𝓛.names.name_agree γ (gnum 1) (gnum 0)) $ learn ! (λ e. absurd (suc-ne-zero 0 (ap num e)))

  pub names_apart : (γ δ : ℕ) → ent 𝓤 (Two γ δ) (𝓛.H.⇛ (Apart γ δ))
  names_apart γ δ =
      elim (cases_eq γ δ) [
        | inl e ↦ subst (λ (d : ℕ). ent 𝓤 (Two γ d) (𝓛.H.⇛ (Apart γ d))) e (clash γ (Apart γ γ))
        | inr other ↦ via 𝓤 _ (guard_i 𝓤 (γ ≡ δ → ⊥) (Two γ δ) other) (𝓛.laws.⇛_intro (Apart γ δ))
      ]

  module _ (κ : Lft) (q : Share) (b o ν : ℕ) where
    abbrev pub lent : Identity.Denot → Fml
    lent n = fsep (fobs ν (Identity.coded.code n)) (fbor κ (Body (mem Identity) b o ν))

    abbrev pub Shuts : Identity.Denot → SProp 𝓤
    Shuts n = wand 𝓤 (sem 𝓛 (out n.name)) (𝓛.H.⇛ (sep 𝓤 (sem 𝓛 (lent n)) (𝓛.A.lft κ q)))

    pub identity_opens : (n : Identity.Denot) → ent 𝓤 (sep 𝓤 (sem 𝓛 (lent n)) (𝓛.A.lft κ q)) (𝓛.H.⇛ (sep 𝓤 (sem 𝓛 (out n.name)) (all 𝓤 Shuts)))
    identity_opens n = qed 𝓛 (‵ (lent n) ∷ ‵ (flft κ q) ∷ []) ∵ updating ! $ fsplit ! $ opens ! tt Identity b o (λ vs. move ! (1 ∷ []) $ fsplit ! $ now ! $ move ! (1 ∷ []) $ frame ! $
        each ! Shuts (λ m. assume ! (‵ (out m.name)) $ updating ! $ move ! (1 ∷ 0 ∷ []) $ fjoin ! $ move ! (1 ∷ 0 ∷ []) $ closes ! tt Identity m vs b o $ fjoin ! $ now ! $ done !))
