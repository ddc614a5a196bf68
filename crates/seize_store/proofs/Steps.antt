-- The ghost side of each step on a chunk's word. Assumes `Logic`.
use Rattle.std.proofs.Common.{ℕ, zero, suc, ◌+◌, List, [], ◌∷◌}
use mathlib.Core.List.{Mem, not-mem-nil}
use seplogic.Ra.Ura.{Ura}
use base.Logic.{SProp, ent, sep, wand, ex, all, guard, upd, never, via, apply∗, upd_i, ex_i, all_e, never_e}
use base.Fml.{Share, Fml, ftrue, fsep, flft, fdead, finv, fnamed}
use base.Stored.{gnum}
use types.Logic.{Logic, sem}
use types.Na.{out_once}
use types.Tokens.{lft_new, lft_end, name_new}
use types.Kit.{‵, raw, ◌⊛◌, some, later, ◌$◌, ◌∵◌, !, qed, by, move, keep, split, fsplit, fsplit3, fjoin, fpick, fpack, pick, show, check, frame, each, assume, suffices, settle, done, use1, use2, updating, await, now}
use denote.RattleType.{RattleType}
use denote.RawPtr.{block_ptr}
use denote.Steps.{nothing}
use Rattle.core.specs.Sync.RawAtomic.{Shift, rests, enters, leaves, word, along, if_none, back, found, asks, always}
use Rattle.seize_store.specs.Body.{header_room, room, rest}
use Rattle.seize_store.specs.Chunk.{Phase, free, taken, left, spent, dues, held, others, right, legacy, state, Inv, home}

module _ {M : Type 1} {𝓤 : Ura M} (𝓛 : Logic 𝓤) where
  open 𝓛 use {H, A}

  abbrev Pr : Type 2
  Pr = SProp 𝓤

  abbrev ◌⊢◌ : Pr → Pr → Type 1
  P ⊢ Q = ent 𝓤 P Q

  abbrev ◌∗◌ : Pr → Pr → Pr
  P ∗ Q = sep 𝓤 P Q

  abbrev ◌-∗◌ : Pr → Pr → Pr
  P -∗ Q = wand 𝓤 P Q

  abbrev ⟦◌⟧ : Fml → Pr
  ⟦ P ⟧ = sem 𝓛 P

  infix 26 ◌⊢◌
  infixr 35 ◌∗◌
  infixr 30 ◌-∗◌
  -- an invariant that holds its formula outright, with no borrow and no lifetime
  module _ (I : Fml) (b o : ℕ) (f : ℕ → ℕ) (when : ℕ → Type 0) (after : ℕ → Fml) where
    abbrev pub Again : ℕ → Pr
    Again n = ⟦ word b o (f n) ⟧ -∗ upd 𝓤 (⟦ I ⟧ ∗ ⟦ after n ⟧)

    abbrev pub Lies : ℕ → Pr
    Lies n = ⟦ word b o n ⟧ ∗ all 𝓤 (λ (_ : when n). Again n)

    pub plainly : (X : Pr) → ⟦ I ⟧ ∗ X ⊢ upd 𝓤 (ex 𝓤 Lies) → A.inv I ∗ X ⊢ asks 𝓛 (block_ptr b o) f when after
    plainly X h = let K : List (ℕ × Fml) → Pr = λ l. ex 𝓤 (found 𝓛 l b o f when after) in
        qed 𝓛 (‵ (finv I) ∷ raw X ∷ []) ∵ use1 𝓛 (some (λ (j : ℕ). ‵ (fnamed j I))) (𝓛.invs.inv_named I) $ pick ! (λ j. let L : List (ℕ × Fml) = (j, I) ∷ [] in let F : Pr = K L in
        suffices ! _ (ex_i 𝓤 (λ (s : Shift). along 𝓛 s K []) (enters j I rests)) $
        suffices ! _ (upd_i 𝓤 (guard 𝓤 (¬ Mem j []) (A.named j I ∗ (⟦ I ⟧ -∗ upd 𝓤 F)))) $ check ! (λ m. not-mem-nil m) $ frame ! $ assume ! (‵ I) $
        use2 𝓛 (raw (upd 𝓤 (ex 𝓤 Lies))) h $ settle 𝓛 F (some (λ (n : ℕ). ‵ (word b o n) ⊛ raw (all 𝓤 (λ (_ : when n). Again n)))) $ suffices ! _ (upd_i 𝓤 F) $ pick ! (λ n. split ! $
        show ! (found 𝓛 L b o f when after) n $ frame ! $ each ! (λ (_ : when n). back 𝓛 L b o f after n) (λ y. use1 𝓛 (raw (Again n)) (all_e 𝓤 (λ (_ : when n). Again n) y) $ assume ! (‵ (word b o (f n))) $
        let T : Pr = ⟦ after n ⟧ in let Q : Pr = ⟦ I ⟧ ∗ upd 𝓤 T in
        use2 𝓛 (raw (upd 𝓤 (⟦ I ⟧ ∗ T))) (apply∗ 𝓤 ⟦ word b o (f n) ⟧ (upd 𝓤 (⟦ I ⟧ ∗ T))) $ suffices ! _ (ex_i 𝓤 (λ (s : Shift). along 𝓛 s (if_none 𝓛 T) L) (leaves rests)) $
        settle 𝓛 Q (‵ I ⊛ ‵ (after n)) $ suffices ! _ (upd_i 𝓤 Q) $ split ! $ frame ! $ suffices ! _ (upd_i 𝓤 T) $ done !)))

  module _ (X U R : RattleType) (b o : ℕ) (f : U.Denot → ℕ) (k : ℕ) (a δ η : ℕ) where
    abbrev c : ℕ
    c = o + 0

    abbrev I : Fml
    I = Inv X U R b o f k a δ η

    abbrev st : Phase → Fml
    st = state X U R b o f k a δ η

    abbrev mine : Fml
    mine = right X U R b o f k a δ η

    -- ---- the token of the lifetime tells that the store is there
    module _ (q : Share) where
      abbrev pub alive : Fml
      alive = flft (a ∷ []) q

      over : (Q : Pr) → ⟦ alive ⟧ ∗ ⟦ fdead (a ∷ []) ⟧ ⊢ Q
      over Q = via 𝓤 (never 𝓤) (𝓛.lfts.lft-dead (a ∷ []) q) (never_e 𝓤 Q)

      -- a load
      abbrev pub same : ℕ → ℕ
      same n = n

      abbrev pub after_look : ℕ → Fml
      after_look n = alive

      abbrev Seen : ℕ → Pr
      Seen = Lies I b c same always after_look

      look_from : (s : Phase) → ⟦ st s ⟧ ∗ ⟦ alive ⟧ ⊢ upd 𝓤 (ex 𝓤 Seen)
      look_from free = qed 𝓛 (‵ (st free) ∷ ‵ alive ∷ []) ∵ suffices ! _ (upd_i 𝓤 (ex 𝓤 Seen)) $ fsplit ! $ show ! Seen 0 $ frame ! $ each ! (λ (_ : Unit {0}). Again I b c same always after_look 0) (λ _. assume ! (‵ (word b c 0)) $
          let Z : Pr = ⟦ I ⟧ ∗ ⟦ alive ⟧ in suffices ! _ (upd_i 𝓤 Z) $ fjoin ! $ fpack ! Phase st free $ done !)
      look_from taken = qed 𝓛 (‵ (st taken) ∷ ‵ alive ∷ []) ∵ suffices ! _ (upd_i 𝓤 (ex 𝓤 Seen)) $ show ! Seen 1 $ frame ! $ each ! (λ (_ : Unit {0}). Again I b c same always after_look 1) (λ _. assume ! (‵ (word b c 1)) $
          let Z : Pr = ⟦ I ⟧ ∗ ⟦ alive ⟧ in suffices ! _ (upd_i 𝓤 Z) $ fpack ! Phase st taken $ done !)
      look_from left = qed 𝓛 (‵ (st left) ∷ ‵ alive ∷ []) ∵ suffices ! _ (upd_i 𝓤 (ex 𝓤 Seen)) $ fsplit ! $ show ! Seen 2 $ frame ! $ each ! (λ (_ : Unit {0}). Again I b c same always after_look 2) (λ _. assume ! (‵ (word b c 2)) $
          let Z : Pr = ⟦ I ⟧ ∗ ⟦ alive ⟧ in suffices ! _ (upd_i 𝓤 Z) $ fjoin ! $ fpack ! Phase st left $ done !)
      look_from spent = qed 𝓛 (‵ (st spent) ∷ ‵ alive ∷ []) ∵ fsplit3 ! $ keep ! (3 ∷ 2 ∷ []) $ by ! (over (upd 𝓤 (ex 𝓤 Seen)))

      pub looks : A.inv I ∗ ⟦ alive ⟧ ⊢ asks 𝓛 (block_ptr b c) same always after_look
      looks = plainly I b c same always after_look ⟦ alive ⟧ (qed 𝓛 (‵ I ∷ ‵ alive ∷ []) ∵ fpick ! (λ s. by ! (look_from s)))

      -- a claim gains the room, where it found 0
      abbrev pub gained : ℕ → Fml
      gained zero = mine
      gained (suc n) = ftrue

      abbrev pub one : ℕ → ℕ
      one n = 1

      abbrev pub after_claim : ℕ → Fml
      after_claim n = fsep alive (gained n)

      abbrev Then : ℕ → Pr
      Then = Lies I b c one always after_claim

      claim_from : (s : Phase) → ⟦ st s ⟧ ∗ ⟦ alive ⟧ ⊢ upd 𝓤 (ex 𝓤 Then)
      claim_from free = qed 𝓛 (‵ (st free) ∷ ‵ alive ∷ []) ∵ suffices ! _ (upd_i 𝓤 (ex 𝓤 Then)) $ fsplit ! $ show ! Then 0 $ frame ! $ each ! (λ (_ : Unit {0}). Again I b c one always after_claim 0) (λ _. assume ! (‵ (word b c 1)) $
          let Z : Pr = ⟦ I ⟧ ∗ ⟦ after_claim 0 ⟧ in suffices ! _ (upd_i 𝓤 Z) $ fpack ! Phase st taken $ frame ! $ move ! (1 ∷ 0 ∷ []) $ fjoin ! $ done !)
      claim_from taken = qed 𝓛 (‵ (st taken) ∷ ‵ alive ∷ []) ∵ suffices ! _ (upd_i 𝓤 (ex 𝓤 Then)) $ show ! Then 1 $ frame ! $ each ! (λ (_ : Unit {0}). Again I b c one always after_claim 1) (λ _. assume ! (‵ (word b c 1)) $
          let Z : Pr = ⟦ I ⟧ ∗ ⟦ after_claim 1 ⟧ in suffices ! _ (upd_i 𝓤 Z) $ fpack ! Phase st taken $ frame ! $ nothing ! $ move ! (1 ∷ 0 ∷ []) $ fjoin ! $ done !)
      claim_from left = qed 𝓛 (‵ (st left) ∷ ‵ alive ∷ []) ∵ fsplit ! $ move ! (1 ∷ []) $ fsplit ! $ fsplit ! $ keep ! (4 ∷ 1 ∷ []) $ by ! (over (upd 𝓤 (ex 𝓤 Then)))
      claim_from spent = qed 𝓛 (‵ (st spent) ∷ ‵ alive ∷ []) ∵ fsplit3 ! $ keep ! (3 ∷ 2 ∷ []) $ by ! (over (upd 𝓤 (ex 𝓤 Then)))

      pub claims : A.inv I ∗ ⟦ alive ⟧ ⊢ asks 𝓛 (block_ptr b c) one always after_claim
      claims = plainly I b c one always after_claim ⟦ alive ⟧ (qed 𝓛 (‵ I ∷ ‵ alive ∷ []) ∵ fpick ! (λ s. by ! (claim_from s)))

    -- ---- the room comes back. Where the store is gone, all of the chunk's memory is left over
    abbrev pub after_give : ℕ → Fml
    after_give zero = ftrue
    after_give (suc zero) = ftrue
    after_give (suc (suc n)) = fsep (word b c 0) (fsep (held X U R b o f k) (others X U R b o))

    abbrev pub nought : ℕ → ℕ
    nought n = 0

    abbrev Back : ℕ → Pr
    Back = Lies I b c nought always after_give

    give_from : (s : Phase) → ⟦ st s ⟧ ∗ ⟦ mine ⟧ ⊢ upd 𝓤 (ex 𝓤 Back)
    give_from free = qed 𝓛 (‵ (st free) ∷ ‵ mine ∷ []) ∵ fsplit3 ! $ move ! (3 ∷ []) $ fsplit ! $ keep ! (0 ∷ 3 ∷ []) $ by ! (out_once 𝓛 δ (ex 𝓤 Back))
    give_from taken = qed 𝓛 (‵ (st taken) ∷ ‵ mine ∷ []) ∵ suffices ! _ (upd_i 𝓤 (ex 𝓤 Back)) $ show ! Back 1 $ frame ! $ each ! (λ (_ : Unit {0}). Again I b c nought always after_give 1) (λ _. assume ! (‵ (word b c 0)) $
        let Z : Pr = ⟦ I ⟧ ∗ ⟦ after_give 1 ⟧ in suffices ! _ (upd_i 𝓤 Z) $ fjoin ! $ fpack ! Phase st free $ frame ! $ nothing ! $ done !)
    give_from left = qed 𝓛 (‵ (st left) ∷ ‵ mine ∷ []) ∵ suffices ! _ (upd_i 𝓤 (ex 𝓤 Back)) $ fsplit ! $ show ! Back 2 $ frame ! $ each ! (λ (_ : Unit {0}). Again I b c nought always after_give 2) (λ _. assume ! (‵ (word b c 0)) $
        let Z : Pr = ⟦ I ⟧ ∗ ⟦ after_give 2 ⟧ in suffices ! _ (upd_i 𝓤 Z) $ move ! (1 ∷ []) $ fsplit ! $ move ! (1 ∷ []) $ fsplit ! $ move ! (4 ∷ []) $ fsplit3 ! $ move ! (2 ∷ []) $ fsplit ! $
        -- [the room; the rest; the right's name; the owner's part; the header's room; the dues; what closes; the word]
        move ! (2 ∷ 6 ∷ []) $ fjoin ! $ fpack ! Phase st spent $ frame ! $ move ! (1 ∷ 4 ∷ []) $ fjoin ! $ move ! (1 ∷ 0 ∷ []) $ fjoin ! $ move ! (2 ∷ 0 ∷ []) $ fjoin ! $ move ! (1 ∷ 0 ∷ []) $ fjoin ! $ move ! (1 ∷ 0 ∷ []) $ fjoin ! $ done !)
    give_from spent = qed 𝓛 (‵ (st spent) ∷ ‵ mine ∷ []) ∵ fsplit3 ! $ move ! (3 ∷ []) $ fsplit ! $ keep ! (0 ∷ 2 ∷ []) $ by ! (out_once 𝓛 δ (ex 𝓤 Back))

    pub gives : A.inv I ∗ ⟦ mine ⟧ ⊢ asks 𝓛 (block_ptr b c) nought always after_give
    gives = plainly I b c nought always after_give ⟦ mine ⟧ (qed 𝓛 (‵ I ∷ ‵ mine ∷ []) ∵ fpick ! (λ s. by ! (give_from s)))

    -- ---- the store goes, once the chunk's lifetime has ended. It gets all of the memory, if the room was in
    abbrev pub after_close : ℕ → Fml
    after_close zero = fsep (word b c 2) (fsep (held X U R b o f k) (others X U R b o))
    after_close (suc n) = ftrue

    abbrev pub two : ℕ → ℕ
    two n = 2

    abbrev going : Fml
    going = legacy X U R b o f k a δ η

    abbrev Gone : ℕ → Pr
    Gone = Lies I b c two always after_close

    close_from : (s : Phase) → ⟦ st s ⟧ ∗ ⟦ going ⟧ ⊢ upd 𝓤 (ex 𝓤 Gone)
    close_from free = qed 𝓛 (‵ (st free) ∷ ‵ going ∷ []) ∵ suffices ! _ (upd_i 𝓤 (ex 𝓤 Gone)) $ fsplit ! $ show ! Gone 0 $ frame ! $ each ! (λ (_ : Unit {0}). Again I b c two always after_close 0) (λ _. assume ! (‵ (word b c 2)) $
        let Z : Pr = ⟦ I ⟧ ∗ ⟦ after_close 0 ⟧ in suffices ! _ (upd_i 𝓤 Z) $ move ! (2 ∷ []) $ fsplit ! $ move ! (1 ∷ []) $ fsplit ! $ move ! (4 ∷ []) $ fsplit3 ! $ move ! (2 ∷ []) $ fsplit ! $
        -- [the room; the rest; the right's name; the owner's part; the header's room; the dues; what closes; the word]
        move ! (2 ∷ 6 ∷ []) $ fjoin ! $ fpack ! Phase st spent $ frame ! $ move ! (1 ∷ 4 ∷ []) $ fjoin ! $ move ! (1 ∷ 0 ∷ []) $ fjoin ! $ move ! (2 ∷ 0 ∷ []) $ fjoin ! $ move ! (1 ∷ 0 ∷ []) $ fjoin ! $ move ! (1 ∷ 0 ∷ []) $ fjoin ! $ done !)
    close_from taken = qed 𝓛 (‵ (st taken) ∷ ‵ going ∷ []) ∵ suffices ! _ (upd_i 𝓤 (ex 𝓤 Gone)) $ show ! Gone 1 $ frame ! $ each ! (λ (_ : Unit {0}). Again I b c two always after_close 1) (λ _. assume ! (‵ (word b c 2)) $
        let Z : Pr = ⟦ I ⟧ ∗ ⟦ after_close 1 ⟧ in suffices ! _ (upd_i 𝓤 Z) $ fjoin ! $ fpack ! Phase st left $ frame ! $ nothing ! $ done !)
    close_from left = qed 𝓛 (‵ (st left) ∷ ‵ going ∷ []) ∵ fsplit ! $ move ! (1 ∷ []) $ fsplit ! $ fsplit ! $ move ! (4 ∷ []) $ fsplit ! $ fsplit ! $ keep ! (0 ∷ 3 ∷ []) $ by ! (out_once 𝓛 η (ex 𝓤 Gone))
    close_from spent = qed 𝓛 (‵ (st spent) ∷ ‵ going ∷ []) ∵ fsplit3 ! $ move ! (3 ∷ []) $ fsplit ! $ fsplit ! $ keep ! (0 ∷ 4 ∷ []) $ by ! (out_once 𝓛 η (ex 𝓤 Gone))

    pub closes : A.inv I ∗ ⟦ going ⟧ ⊢ asks 𝓛 (block_ptr b c) two always after_close
    closes = plainly I b c two always after_close ⟦ going ⟧ (qed 𝓛 (‵ I ∷ ‵ going ∷ []) ∵ fpick ! (λ s. by ! (close_from s)))

    -- what the store's side has begins the end, once the header is out
    pub ends : ⟦ home X U R b o f k a δ η ⟧ ∗ ⟦ header_room X U R b o ⟧ ⊢ H.⇛ ⟦ going ⟧
    ends = qed 𝓛 (‵ (home X U R b o f k a δ η) ∷ ‵ (header_room X U R b o) ∷ []) ∵ updating ! $ fsplit3 ! $ lft_end ! tt $
        -- [it is over; the name; the dues; the header's room]
        move ! (3 ∷ 2 ∷ []) $ fjoin ! $ move ! (2 ∷ 1 ∷ []) $ fjoin ! $ fjoin ! $ now ! $ done !

  module _ (X U R : RattleType) (b o : ℕ) (f : U.Denot → ℕ) (k : ℕ) where
    abbrev pub Begun : ℕ × (ℕ × ℕ) → Pr
    Begun t = ⟦ home X U R b o f k t.0 t.1.0 t.1.1 ⟧ ∗ A.inv (Inv X U R b o f k t.0 t.1.0 t.1.1)

    abbrev pub inside : Fml
    inside = fsep (held X U R b o f k) (fsep (room X U R b o) (rest X U R b o))

    pub begins : ⟦ word b (o + 0) 0 ⟧ ∗ ⟦ inside ⟧ ∗ ⟦ dues X U R b o ⟧ ⊢ H.⇛ (ex 𝓤 Begun)
    begins = qed 𝓛 (‵ (word b (o + 0) 0) ∷ ‵ inside ∷ ‵ (dues X U R b o) ∷ []) ∵ updating ! $ lft_new ! tt (λ a. name_new ! tt (gnum 0) (λ δ. fjoin ! $ name_new ! tt (gnum 0) (λ η. fjoin ! $
        -- [η; δ; a; the word; the part, the room and the rest; the dues]
        move ! (1 ∷ 4 ∷ []) $ fjoin ! $ move ! (3 ∷ 0 ∷ []) $ fjoin ! $ fpack ! Phase (state X U R b o f k a δ η) free $
        use1 𝓛 (later (‵ (finv (Inv X U R b o f k a δ η)))) (𝓛.invs.inv_new (Inv X U R b o f k a δ η)) $ await ! tt $
        -- [the invariant; η; a; the dues]
        move ! (1 ∷ 3 ∷ []) $ fjoin ! $ move ! (2 ∷ 0 ∷ []) $ fjoin ! $ now ! $ show ! Begun (a, (δ, η)) $ done !)))
