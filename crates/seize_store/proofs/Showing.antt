-- A `&` to a block is a `&` to its value and one to the owner's part. Assumes `Logic`.
use Rattle.std.proofs.Common.{◌≡◌, ℕ, [], ◌∷◌}
use seplogic.Ra.Ura.{Ura}
use base.Fraction.{full_share}
use base.Logic.{sep}
use base.Fml.{Lft, Fml, ffalse, fsep, fex, feq, fbor, finv}
use denote.Model.Laws.{Lends-as, Lends-some}
use types.Logic.{Logic, sem, lfts}
use types.Kit.{‵, raw, ◌⊛◌, later, ◌$◌, ◌∵◌, !, qed, move, split, fsplit, fjoin, fpick, use2, updating, await, now, done}
use types.Na.{out}
use denote.RattleType.{RattleType, RowLaws}
use denote.Memory.{part_at}
use denote.RawPtr.{Ptr, block_ptr, null_ptr, lies_at}
use denote.Sharing.{ShrLaws, said, beside}
use denote.SharingLaws.{said_shr_laws, some_shr_laws, beside_shr_laws}
use denote.Struct.Lending.{Lends, Lends-first, Lends-both, Lends-said, Lends-false, lent_at, lent_at_shr_laws}
use Rattle.seize_content.specs.Contents.{ticket_owns}
use Rattle.seize_content.specs.Stages.{held as unlent}
use Rattle.seize_table.specs.Pairs.{left_of, right_of}
use Rattle.seize_store.specs.Body.{owner_at, owner_room, rest, room_at}
use Rattle.seize_store.specs.Row.{fact}
use Rattle.seize_store.specs.Chunk.{held, labelled, Inv}
use Rattle.seize_store.specs.Block.{bare, full, lent_held, lent_part, block_owns, block_shares, hull_owns, hull_shares, lain_owns}

module _ (X U R : RattleType) (f : U.Denot → ℕ) (k : ℕ) where
  pub block_laws : RowLaws U → RowLaws R → (p : Ptr) (x : R.Denot) → ShrLaws (block_shares X U R f k p x)
  block_laws LU L (block_ptr b o) x = let r : Ptr = block_ptr b (owner_at X U R o) in
      beside_shr_laws (lent_held X U R b o f k) (lent_at R (block_ptr b (room_at X U R o)) x)
      (some_shr_laws U.Denot (lent_part X U R b o f k) (λ u. beside_shr_laws (said (fact (f u ≡ left_of k))) (lent_at U r u) (said_shr_laws (fact (f u ≡ left_of k)) (λ _. tt)) (lent_at_shr_laws U LU r u)))
      (lent_at_shr_laws R L (block_ptr b (room_at X U R o)) x)
  block_laws LU L null_ptr x = said_shr_laws ffalse tt

  pub hull_laws : RowLaws R → (p : Ptr) (x : R.Denot) → ShrLaws (hull_shares X U R f p x)
  hull_laws L (block_ptr b o) x = lent_at_shr_laws R L (block_ptr b (room_at X U R o)) x
  hull_laws L null_ptr x = said_shr_laws ffalse tt

  module _ {M : Type 1} {𝓤 : Ura M} (𝓛 : Logic 𝓤) where
    open 𝓛 use {H}

    Lends-second : (F G : Fml) (t : Lft → Fml) (l : Lft) → Lends 𝓛 G t l → Lends 𝓛 (fsep F G) t l
    Lends-second F G t l g = Lends-as 𝓛 (fsep F G) (fsep G F) t l (qed 𝓛 (‵ (fsep F G) ∷ []) ∵ fsplit ! $ move ! (1 ∷ 0 ∷ []) $ fjoin ! $ done !) (qed 𝓛 (‵ (fsep G F) ∷ []) ∵ fsplit ! $ move ! (1 ∷ 0 ∷ []) $ fjoin ! $ done !) (Lends-first 𝓛 G F t l g)

    abbrev LiesPart : ℕ → ℕ → Lft → Type 1
    LiesPart b o l = (u : U.Denot) → Lends 𝓛 (part_at U full_share u b (owner_at X U R o)) (lent_at U (block_ptr b (owner_at X U R o)) u) l

    lends_held : (b o : ℕ) (l : Lft) → LiesPart b o l → Lends 𝓛 (held X U R b o f k) (lent_held X U R b o f k) l
    lends_held b o l lies = Lends-some 𝓛 U.Denot (labelled X U R b o f k) (lent_part X U R b o f k) l (λ u.
        let P : Fml = part_at U full_share u b (owner_at X U R o) in let F : Fml = ticket_owns (right_of k) unlent in let t : Lft → Fml = lent_at U (block_ptr b (owner_at X U R o)) u in
        Lends-both 𝓛 (fact (f u ≡ left_of k)) (fsep P F) (said (fact (f u ≡ left_of k))) t l (Lends-said 𝓛 (fact (f u ≡ left_of k)) (λ _. tt) l) (Lends-first 𝓛 P F t l (lies u)))

    -- the names are let go for the time of the loan: what comes back is opened afresh
    lends_full : (b o : ℕ) (x : R.Denot) (l : Lft) → LiesPart b o l → Lends 𝓛 (part_at R full_share x b (room_at X U R o)) (lent_at R (block_ptr b (room_at X U R o)) x) l
        → Lends 𝓛 (fex (ℕ × (ℕ × ℕ)) (full X U R b o f k x)) (beside (lent_held X U R b o f k) (lent_at R (block_ptr b (room_at X U R o)) x)) l
    lends_full b o x l part lies κ ts inc sp = let Y : Type 0 = ℕ × (ℕ × ℕ) in let s : Lft → Fml = lent_held X U R b o f k in let t : Lft → Fml = lent_at R (block_ptr b (room_at X U R o)) x in let F : Fml = held X U R b o f k in
        let P : Fml = part_at R full_share x b (room_at X U R o) in
        qed 𝓛 (‵ (fbor κ (fex Y (full X U R b o f k x))) ∷ raw (lfts 𝓛 ts) ∷ []) {P = H.⇛ (sep 𝓤 (sem 𝓛 (beside s t κ)) (lfts 𝓛 ts))} (updating ! $
        use2 𝓛 (later (‵ (fex Y (λ u. beside s t κ)) ⊛ raw (lfts 𝓛 ts))) (Lends-some 𝓛 Y (full X U R b o f k x) (λ u. beside s t) l (λ u.
        Lends-first 𝓛 (fsep (out u.1.0) (fsep F (fsep P (rest X U R b o)))) (finv (Inv X U R b o f k u.0 u.1.0 u.1.1)) (beside s t) l (Lends-second (out u.1.0) (fsep F (fsep P (rest X U R b o))) (beside s t) l
        (Lends-both 𝓛 F (fsep P (rest X U R b o)) s t l (lends_held b o l part) (Lends-first 𝓛 P (rest X U R b o) t l lies)))) κ ts inc sp) $
        await ! tt $ split ! $ fpick ! (λ u. now ! $ done !))

    pub block_lends : (place p : Ptr) (x : R.Denot) (l : Lft) → ((r : Ptr) (u : U.Denot) → Lends 𝓛 (lies_at U full_share r u) (lent_at U r u) l) → ((r : Ptr) → Lends 𝓛 (lies_at R full_share r x) (lent_at R r x) l)
        → Lends 𝓛 (block_owns X U R f place k p x) (block_shares X U R f k p x) l
    block_lends place (block_ptr b o) x l part lies = Lends-second (feq Ptr place (block_ptr b o)) (fex (ℕ × (ℕ × ℕ)) (full X U R b o f k x)) (beside (lent_held X U R b o f k) (lent_at R (block_ptr b (room_at X U R o)) x)) l
        (lends_full b o x l (λ u. part (block_ptr b (owner_at X U R o)) u) (lies (block_ptr b (room_at X U R o))))
    block_lends place null_ptr x l part lies = Lends-second (feq Ptr place null_ptr) ffalse (said ffalse) l (Lends-false 𝓛 (said ffalse) l)

    lends_bare : (b o : ℕ) (x : R.Denot) (l : Lft) → Lends 𝓛 (part_at R full_share x b (room_at X U R o)) (lent_at R (block_ptr b (room_at X U R o)) x) l
        → Lends 𝓛 (fex (ℕ × (ℕ × ℕ)) (bare X U R b o f k x)) (lent_at R (block_ptr b (room_at X U R o)) x) l
    lends_bare b o x l lies κ ts inc sp = let Y : Type 0 = ℕ × (ℕ × ℕ) in let t : Lft → Fml = lent_at R (block_ptr b (room_at X U R o)) x in let F : Fml = owner_room X U R b o in let P : Fml = part_at R full_share x b (room_at X U R o) in
        qed 𝓛 (‵ (fbor κ (fex Y (bare X U R b o f k x))) ∷ raw (lfts 𝓛 ts) ∷ []) {P = H.⇛ (sep 𝓤 (sem 𝓛 (t κ)) (lfts 𝓛 ts))} (updating ! $
        use2 𝓛 (later (‵ (fex Y (λ u. t κ)) ⊛ raw (lfts 𝓛 ts))) (Lends-some 𝓛 Y (bare X U R b o f k x) (λ u. t) l (λ u.
        Lends-first 𝓛 (fsep (out u.1.0) (fsep F (fsep P (rest X U R b o)))) (finv (Inv X U R b o f k u.0 u.1.0 u.1.1)) t l (Lends-second (out u.1.0) (fsep F (fsep P (rest X U R b o))) t l
        (Lends-second F (fsep P (rest X U R b o)) t l (Lends-first 𝓛 P (rest X U R b o) t l lies)))) κ ts inc sp) $
        await ! tt $ split ! $ fpick ! (λ u. now ! $ done !))

    pub lain_lends : (p : Ptr) (x : R.Denot) (l : Lft) → ((r : Ptr) → Lends 𝓛 (lies_at R full_share r x) (lent_at R r x) l) → Lends 𝓛 (lain_owns X U R f p k x) (hull_shares X U R f p x) l
    lain_lends (block_ptr b o) x l lies = lends_bare b o x l (lies (block_ptr b (room_at X U R o)))
    lain_lends null_ptr x l lies = Lends-false 𝓛 (said ffalse) l

    pub hull_lends : (p : Ptr) (x : R.Denot) (l : Lft) → ((r : Ptr) → Lends 𝓛 (lies_at R full_share r x) (lent_at R r x) l) → Lends 𝓛 (hull_owns X U R f p k x) (hull_shares X U R f p x) l
    hull_lends p x l lies = Lends-first 𝓛 (lain_owns X U R f p k x) (ticket_owns (right_of k) unlent) (hull_shares X U R f p x) l (lain_lends p x l lies)
