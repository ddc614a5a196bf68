-- A `&` to a chunk holds a `&` to its header, a share of its lifetime's token, and the invariant. Assumes `Logic`.
use Rattle.std.proofs.Common.{ℕ, [], ◌∷◌}
use seplogic.Ra.Ura.{Ura}
use base.Fraction.{full_share}
use base.Logic.{ent, sep, wand, apply∗}
use base.Fml.{Lft, Fml, ffalse, fsep, fbor, flft, finv}
use types.Logic.{Logic, sem, lfts}
use types.Kit.{‵, raw, ◌⊛◌, later, ◌$◌, ◌∵◌, !, qed, move, drop, split, use1, use2, updating, await, now, done}
use types.Na.{out}
use types.Tokens.{bor_fracture}
use denote.RattleType.{RattleType, RowLaws}
use denote.Memory.{part_at}
use denote.RawPtr.{Ptr, block_ptr, null_ptr, lies_at}
use denote.Sharing.{ShrLaws, said, beside, one, always}
use denote.SharingLaws.{one_shr_laws, always_shr_laws, beside_shr_laws, said_shr_laws}
use denote.Struct.Lending.{Lends, Lends-first, Lends-both, Lends-false, lent_at, lent_at_shr_laws}
use Rattle.seize_store.specs.Body.{header_at}
use Rattle.seize_store.specs.Chunk.{Inv, home, dues, chunk_owns, chunk_shares}

-- what can be had twice is lent as itself
pub lends_twice : {M : Type 1} {𝓤 : Ura M} (𝓛 : Logic 𝓤) (P : Fml) → ent 𝓤 (sem 𝓛 P) (sep 𝓤 (sem 𝓛 P) (sem 𝓛 P)) → (l : Lft) → Lends 𝓛 P (said P) l
lends_twice {𝓤 = 𝓤} 𝓛 P twice l κ ts inc sp = let Back = 𝓛.H.⇛ (sep 𝓤 (𝓛.A.bor κ P) (lfts 𝓛 ts)) in
    qed 𝓛 (‵ (fbor κ P) ∷ raw (lfts 𝓛 ts) ∷ []) ∵ updating ! $ use2 𝓛 (later (‵ P ⊛ raw (wand 𝓤 (sem 𝓛 P) Back))) (𝓛.more.bor_acc_by κ ts P sp) $ await ! tt $ split ! $ use1 𝓛 (‵ P ⊛ ‵ P) twice $ split ! $ move ! (0 ∷ 2 ∷ []) $
    use2 𝓛 (later (‵ (fbor κ P) ⊛ raw (lfts 𝓛 ts))) (apply∗ 𝓤 (sem 𝓛 P) Back) $ await ! tt $ split ! $ drop ! $ move ! (1 ∷ 0 ∷ []) $ now ! $ done !

module _ (X U R : RattleType) (f : U.Denot → ℕ) (k a δ η : ℕ) where
  pub chunk_laws : RowLaws X → (p : Ptr) (h : X.Denot) → ShrLaws (chunk_shares X U R f k a δ η p h)
  chunk_laws L (block_ptr b o) h = let I : Fml = Inv X U R b o f k a δ η in
      beside_shr_laws (lent_at X (block_ptr b (header_at X U R o)) h) (beside (one (λ q. flft (a ∷ []) q)) (always I)) (lent_at_shr_laws X L (block_ptr b (header_at X U R o)) h)
      (beside_shr_laws (one (λ q. flft (a ∷ []) q)) (always I) (one_shr_laws (λ q. flft (a ∷ []) q)) (always_shr_laws I))
  chunk_laws L null_ptr h = said_shr_laws ffalse tt

  module _ {M : Type 1} {𝓤 : Ura M} (𝓛 : Logic 𝓤) where
    open 𝓛 use {H, A}

    Lends-kept : (I : Fml) (l : Lft) → Lends 𝓛 (finv I) (always I) l
    Lends-kept I l κ ts inc sp = qed 𝓛 (‵ (fbor κ (finv I)) ∷ raw (lfts 𝓛 ts) ∷ []) {P = H.⇛ (sep 𝓤 (sem 𝓛 (finv I)) (lfts 𝓛 ts))} (
        updating ! $ use2 𝓛 (later (‵ (finv I) ⊛ raw (wand 𝓤 (sem 𝓛 (finv I)) (H.⇛ (sep 𝓤 (A.bor κ (finv I)) (lfts 𝓛 ts)))))) (𝓛.more.bor_acc_by κ ts (finv I) sp) $ await ! tt $ split ! $
        use1 𝓛 (‵ (finv I) ⊛ ‵ (finv I)) (𝓛.invs.inv_dup I) $ split ! $ move ! (0 ∷ 2 ∷ []) $
        use2 𝓛 (later (‵ (fbor κ (finv I)) ⊛ raw (lfts 𝓛 ts))) (apply∗ 𝓤 (sem 𝓛 (finv I)) (H.⇛ (sep 𝓤 (A.bor κ (finv I)) (lfts 𝓛 ts)))) $ await ! tt $ split ! $ drop ! $ move ! (1 ∷ 0 ∷ []) $ now ! $ done !)

    pub chunk_lends : (p : Ptr) (h : X.Denot) (l : Lft) → ((r : Ptr) → Lends 𝓛 (lies_at X full_share r h) (lent_at X r h) l) → Lends 𝓛 (chunk_owns X U R f k a δ η p h) (chunk_shares X U R f k a δ η p h) l
    chunk_lends (block_ptr b o) h l lies = let I : Fml = Inv X U R b o f k a δ η in let r : Ptr = block_ptr b (header_at X U R o) in
        Lends-both 𝓛 (part_at X full_share h b (header_at X U R o)) (fsep (home X U R b o f k a δ η) (finv I)) (lent_at X r h) (beside (one (λ q. flft (a ∷ []) q)) (always I)) l (lies r)
        (Lends-both 𝓛 (home X U R b o f k a δ η) (finv I) (one (λ q. flft (a ∷ []) q)) (always I) l
        (Lends-first 𝓛 (flft (a ∷ []) full_share) (fsep (out η) (dues X U R b o)) (one (λ q. flft (a ∷ []) q)) l
        (λ κ ts inc sp. qed 𝓛 (‵ (fbor κ (flft (a ∷ []) full_share)) ∷ raw (lfts 𝓛 ts) ∷ []) ∵ updating ! $ bor_fracture ! tt (λ q. flft (a ∷ []) q) full_share $ now ! $ done !))
        (Lends-kept I l))
    chunk_lends null_ptr h l lies = Lends-false 𝓛 (said ffalse) l
