-- Two rooms that are out at once lie apart, since each has bytes of its own. Assumes `Logic` and `Model`.
use Rattle.std.proofs.Common.{◌≡◌, ℕ, ◌<◌, [], ◌∷◌, ap, subst, inl, inr, arith, lit<}
use Rattle.std.proofs.lemmas.Bool.{cases_eq}
use seplogic.Ra.Ura.{Ura}
use base.Logic.{SProp, ent, sep, never, via, never_e}
use contract.Monad.{fact, fact_i}
use prog.Model.{Model}
use prog.Memory.{size}
use types.Logic.{Logic, sem}
use types.Kit.{‵, ◌$◌, ◌∵◌, !, qed, by, move, keep, fsplit, fsplit3}
use denote.RattleType.{RattleType}
use denote.RawPtr.{block_ptr, block_of, count_of}
use Rattle.seize_store.specs.Body.{rest_ty, rest_at}
use Rattle.seize_store.specs.Block.{empty}

module _ (X U R : RattleType) (f : U.Denot → ℕ) {M : Type 1} {𝓤 : Ura M} (𝓛 : Logic 𝓤) (𝓜 : Model 𝓤 𝓛.H) where
  -- a room's label, and its names
  abbrev Of : Type 0
  Of = ℕ × (ℕ × (ℕ × ℕ))

  abbrev Both : ℕ → ℕ → Of → ℕ → ℕ → Of → SProp 𝓤
  Both b o t c k u = sep 𝓤 (sem 𝓛 (empty X U R b o f t.0 t.1)) (sem 𝓛 (empty X U R c k f u.0 u.1))

  clash : (b o : ℕ) (t u : Of) → ent 𝓤 (Both b o t b o u) (never 𝓤)
  clash b o t u = let bytes : 0 < size rest_ty = lit< tt in let e : ℕ = rest_at X U R o in
      qed 𝓛 (‵ (empty X U R b o f t.0 t.1) ∷ ‵ (empty X U R b o f u.0 u.1) ∷ []) ∵ fsplit ! $ fsplit3 ! $ move ! (2 ∷ []) $ fsplit ! $ keep ! (1 ∷ 5 ∷ []) $
      move ! (1 ∷ []) $ fsplit ! $ fsplit3 ! $ move ! (2 ∷ []) $ fsplit ! $ keep ! (1 ∷ 5 ∷ []) $
      by ! (𝓜.room-room rest_ty rest_ty b e e e (omega arith, omega arith) (omega arith, omega arith))

  pub apart : (b o : ℕ) (t : Of) (c k : ℕ) (u : Of) → ent 𝓤 (Both b o t c k u) (fact 𝓤 (block_ptr b o ≡ block_ptr c k → ⊥))
  apart b o t c k u = let No : Type 0 = block_ptr b o ≡ block_ptr c k → ⊥ in
      elim (cases_eq b c) [
        | inl e ↦ elim (cases_eq o k) [
          | inl f ↦ subst (λ (x : ℕ). ent 𝓤 (Both b o t x k u) (fact 𝓤 (block_ptr b o ≡ block_ptr x k → ⊥))) e
              (subst (λ (x : ℕ). ent 𝓤 (Both b o t b x u) (fact 𝓤 (block_ptr b o ≡ block_ptr b x → ⊥))) f (via 𝓤 (never 𝓤) (clash b o t u) (never_e 𝓤 _)))
          | inr f ↦ fact_i 𝓤 No _ (λ same. f (ap count_of same))
        ]
        | inr e ↦ fact_i 𝓤 No _ (λ same. e (ap block_of same))
      ]
