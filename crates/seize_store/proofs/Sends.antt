-- What may pass to another thread: a chunk as its header and the owner's part may, a block as its value and that part may.
use Rattle.std.proofs.Common.{ℕ, suc, ◌+◌, Bool, true, false, List, [], ◌∷◌, length}
use base.Fraction.{full_share}
use base.Fml.{Lft}
use base.Shift.{Keyless}
use denote.RattleType.{RattleType}
use denote.RawPtr.{Ptr, block_ptr, null_ptr}
use denote.Param.Send.{IsSend, IsSync, part_keyless}
use Rattle.std.proofs.Crossing.{frees}
use Rattle.seize_content.specs.Stages.{held as unlent}
use Rattle.seize_content.proofs.Sends.{ticket_sent}
use Rattle.seize_table.specs.Pairs.{right_of}
use Rattle.seize_store.specs.Freeable.{heap}
use Rattle.std_alloc.proofs.SendSync.{seen}
use Rattle.seize_store.specs.Body.{row_ty, stride, rim, header_at, owner_at, room_at}
use Rattle.seize_store.specs.Row.{RowDeed, TicketMarks, RowStage, stands, gone, held_all, laid_one, laid, stage, due}
use Rattle.seize_store.specs.Chunk.{Phase, free, taken, left, spent, dues, held, part_of, state, piece_owns, chunk_owns, chunk_shares}
use Rattle.seize_store.specs.Block.{out_owns, block_owns, block_shares, hull_owns, hull_shares, lain_owns, shell_owns}

held_keyless : (γs : List ℕ) → Keyless (held_all γs)
held_keyless [] = tt
held_keyless (γ ∷ γs) = ((tt, tt), held_keyless γs)

module _ (X U R : RattleType) (b : ℕ) where
  one_keyless : (γ : ℕ) (y : Bool) (e : ℕ) → Keyless (laid_one X U R b γ y e)
  one_keyless γ true e = ((tt, tt), tt)
  one_keyless γ false e = tt

  laid_keyless : (ms : TicketMarks) (e : ℕ) → Keyless (laid X U R b ms e)
  laid_keyless [] e = tt
  laid_keyless (m ∷ ms) e = (one_keyless m.0 m.1 e, laid_keyless ms (e + stride X U R))

  rim_keyless : (o : ℕ) → Keyless (rim X U R b o)
  rim_keyless o = ((tt, (tt, (tt, (tt, (tt, (tt, (tt, tt))))))), tt)

  pub shared_keyless : (d : RowDeed) (s : RowStage) → Keyless (stage X U R b d s)
  shared_keyless d (stands ms) = (
    (λ _. tt),
    (
      tt,
      (
        laid_keyless ms (d.at + stride X U R),
        (tt, (tt, (tt, (tt, (tt, (tt, (rim_keyless d.at, (frees.frees heap (row_ty X U R (suc (length d.tickets))) (block_ptr b d.at), λ _. tt)))))))),
      ),
    ),
  )
  shared_keyless d gone = held_keyless d.tickets

  due_keyless : (e : ℕ) → Keyless (due X U R b e)
  due_keyless e = (rim_keyless e, (tt, λ d. (tt, λ t. ((λ _. tt), ((tt, tt), shared_keyless d)))))

module _ (X U R : RattleType) (b o : ℕ) where
  dues_keyless : Keyless (dues X U R b o)
  dues_keyless = due_keyless X U R b o

  pub owner_keyless : IsSend U → (u : U.Denot) → Keyless (part_of X U R b o u)
  owner_keyless s u = part_keyless U s full_share u b (owner_at X U R o)

  owned_keyless : IsSend U → (f : U.Denot → ℕ) (k : ℕ) → Keyless (held X U R b o f k)
  owned_keyless s f k = λ u. ((λ _. tt), (owner_keyless s u, ticket_sent (right_of k) unlent))

  state_keyless : IsSend U → (f : U.Denot → ℕ) (k a δ η : ℕ) (p : Phase) → Keyless (state X U R b o f k a δ η p)
  state_keyless s f k a δ η free = (tt, ((tt, tt), (owned_keyless s f k, (tt, tt))))
  state_keyless s f k a δ η taken = tt
  state_keyless s f k a δ η left = (tt, (((tt, tt), tt), (tt, dues_keyless)))
  state_keyless s f k a δ η spent = ((tt, tt), ((tt, tt), tt))

module _ (X U R : RattleType) (f : U.Denot → ℕ) where
  pub chunk_owned : IsSend X → IsSend U → (k a δ η : ℕ) (p : Ptr) (h : X.Denot) → Keyless (chunk_owns X U R f k a δ η p h)
  chunk_owned s u k a δ η (block_ptr b o) h = (part_keyless X s full_share h b (header_at X U R o), ((tt, ((tt, tt), dues_keyless X U R b o)), state_keyless X U R b o u f k a δ η))
  chunk_owned s u k a δ η null_ptr h = tt

  pub chunk_seen : IsSync X → IsSend U → (k a δ η : ℕ) (p : Ptr) (h : X.Denot) (κ : Lft) → Keyless (chunk_shares X U R f k a δ η p h κ)
  chunk_seen y u k a δ η (block_ptr b o) h κ = (seen X y (block_ptr b (header_at X U R o)) h κ, ((λ q. tt), state_keyless X U R b o u f k a δ η))
  chunk_seen y u k a δ η null_ptr h κ = tt

  pub out_owned : IsSend U → (p : Ptr) (k : ℕ) → Keyless (out_owns X U R f p k)
  out_owned u (block_ptr b o) k = λ t. (((tt, tt), (owned_keyless X U R b o u f k, (tt, tt))), state_keyless X U R b o u f k t.0 t.1.0 t.1.1)
  out_owned u null_ptr k = tt

  pub block_owned : IsSend U → IsSend R → (place : Ptr) (k : ℕ) (p : Ptr) (x : R.Denot) → Keyless (block_owns X U R f place k p x)
  block_owned u s place k (block_ptr b o) x = (
    tt,
    λ t. (((tt, tt), (owned_keyless X U R b o u f k, (part_keyless R s full_share x b (room_at X U R o), tt))), state_keyless X U R b o u f k t.0 t.1.0 t.1.1),
  )
  block_owned u s place k null_ptr x = (tt, tt)

  pub block_seen : IsSync U → IsSync R → (k : ℕ) (p : Ptr) (x : R.Denot) (κ : Lft) → Keyless (block_shares X U R f k p x κ)
  block_seen v y k (block_ptr b o) x κ = ((λ u. ((λ _. tt), seen U v (block_ptr b (owner_at X U R o)) u κ)), seen R y (block_ptr b (room_at X U R o)) x κ)
  block_seen v y k null_ptr x κ = tt

  pub lain_owned : IsSend U → IsSend R → (p : Ptr) (k : ℕ) (x : R.Denot) → Keyless (lain_owns X U R f p k x)
  lain_owned u s (block_ptr b o) k x = λ t. (((tt, tt), (tt, (part_keyless R s full_share x b (room_at X U R o), tt))), state_keyless X U R b o u f k t.0 t.1.0 t.1.1)
  lain_owned u s null_ptr k x = tt

  pub hull_owned : IsSend U → IsSend R → (p : Ptr) (k : ℕ) (x : R.Denot) → Keyless (hull_owns X U R f p k x)
  hull_owned u s p k x = (lain_owned u s p k x, ticket_sent (right_of k) unlent)

  pub shell_owned : IsSend U → (p : Ptr) (k : ℕ) → Keyless (shell_owns X U R f p k)
  shell_owned u (block_ptr b o) k = (λ t. (((tt, tt), (tt, (tt, tt))), state_keyless X U R b o u f k t.0 t.1.0 t.1.1), ticket_sent (right_of k) unlent)
  shell_owned u null_ptr k = (tt, ticket_sent (right_of k) unlent)

  pub hull_seen : IsSync R → (p : Ptr) (x : R.Denot) (κ : Lft) → Keyless (hull_shares X U R f p x κ)
  hull_seen y (block_ptr b o) x κ = seen R y (block_ptr b (room_at X U R o)) x κ
  hull_seen y null_ptr x κ = tt

module _ (X U R : RattleType) where
  pub piece_owned : (p : Ptr) → Keyless (piece_owns X U R p)
  piece_owned (block_ptr b o) = (tt, (tt, (tt, (tt, (tt, dues_keyless X U R b o)))))
  piece_owned null_ptr = tt
