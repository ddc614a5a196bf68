-- A chunk's memory is cut into its fields, and put together again. Assumes `Logic`.
use Rattle.std.proofs.Common.{ℕ, ◌+◌, [], ◌∷◌, subst, w64}
use seplogic.Ra.Ura.{Ura}
use mir.Syntax.{Ty, ty_int, ty_ptr, tcons, tnil}
use mir.Raw.{raw as bare}
use mir.Val.{vint}
use prog.Memory.{up, align, size}
use prog.RawLaws.{size-raw, align-raw}
use base.Logic.{ent, sep, wand}
use base.Fml.{Fml, ftrue, fsep, froom}
use types.Logic.{Logic, sem}
use types.Kit.{‵, ◌$◌, ◌∵◌, !, qed, move, drop, fsplit, fjoin, fpick, fpack, use1, done}
use denote.RattleType.{RattleType}
use denote.Memory.{lone}
use Rattle.core.specs.Sync.RawAtomic.{word}
use Rattle.seize_store.specs.Body.{rest_ty, body_ty, rooms, rim}
use Rattle.seize_store.specs.Chunk.{held, others, part_of, remains}

module _ (X U R : RattleType) {M : Type 1} {𝓤 : Ura M} (𝓛 : Logic 𝓤) (b o : ℕ) where
  open 𝓛 use {H, A}

  abbrev ρ : Ty
  ρ = bare (lone X.mir)

  abbrev σ : Ty
  σ = bare (lone U.mir)

  abbrev τ : Ty
  τ = bare (lone R.mir)

  -- the fields' rooms, where the header has the alignment a and the size s, the owner's part d and p, and the content c and t
  abbrev laid : ℕ → ℕ → ℕ → ℕ → ℕ → ℕ → Fml
  laid a s d p c t = let owner : ℕ = up d (up a 8 + s) in let content : ℕ = up c (owner + p) in let head : ℕ = up 8 (content + t) in let len : ℕ = up 8 (head + 8) in
      fsep (froom (ty_int w64) b (o + 0)) (fsep (froom ρ b (o + up a 8)) (fsep (froom σ b (o + owner)) (fsep (froom τ b (o + content))
      (fsep (froom ty_ptr b (o + head)) (fsep (froom (ty_int w64) b (o + len)) (fsep (froom rest_ty b (o + up 8 (len + 8))) ftrue))))))

  abbrev Cut : ℕ → ℕ → ℕ → ℕ → ℕ → ℕ → Type 1
  Cut a s d p c t = ent 𝓤 (H.room (body_ty X U R) b o) (sep 𝓤 (sem 𝓛 (laid a s d p c t)) (wand 𝓤 (sem 𝓛 (laid a s d p c t)) (H.room (body_ty X U R) b o)))

  pub spreads : ent 𝓤 (H.room (body_ty X U R) b o) (sep 𝓤 (sem 𝓛 (rooms X U R b o)) (sem 𝓛 (rim X U R b o)))
  spreads = let r = lone R.mir in let u = lone U.mir in let x = lone X.mir in
      subst (Cut (align x) (size x) (align u) (size u) (align r)) (size-raw r) (subst (λ c. Cut (align x) (size x) (align u) (size u) c (size τ)) (align-raw r)
      (subst (λ p. Cut (align x) (size x) (align u) p (align τ) (size τ)) (size-raw u) (subst (λ d. Cut (align x) (size x) d (size σ) (align τ) (size τ)) (align-raw u)
      (subst (λ s. Cut (align x) s (align σ) (size σ) (align τ) (size τ)) (size-raw x) (subst (λ a. Cut a (size ρ) (align σ) (size σ) (align τ) (size τ)) (align-raw x)
      (𝓛.laws.room_fields [] (tcons (ty_int w64) (tcons ρ (tcons σ (tcons τ (tcons ty_ptr (tcons (ty_int w64) (tcons rest_ty tnil))))))) b o))))))

  -- a chunk with no more sides
  pub gathers : (f : U.Denot → ℕ) (k n : ℕ) → ent 𝓤 (sep 𝓤 (sem 𝓛 (word b (o + 0) n)) (sem 𝓛 (fsep (held X U R b o f k) (others X U R b o)))) (sem 𝓛 (remains X U R b o))
  gathers f k n = qed 𝓛 (‵ (word b (o + 0) n) ∷ ‵ (fsep (held X U R b o f k) (others X U R b o)) ∷ []) ∵ use1 𝓛 (‵ (froom (ty_int w64) b (o + 0))) (𝓛.laws.at_room (ty_int w64) b (o + 0) (vint w64 n)) $
      move ! (1 ∷ []) $ fsplit ! $ fpick ! (λ u. fsplit ! $ drop ! $ fsplit ! $ move ! (1 ∷ []) $ drop ! $ fpack ! U.Denot (part_of X U R b o) u $ fjoin ! $ move ! (1 ∷ 0 ∷ []) $ fjoin ! $ done !)
