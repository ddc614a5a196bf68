-- What those who hold parts of one row's memory share. The row has a ticket for each chunk, and a count, which the head's state word
-- holds: how many chunks have not been laid back. Whoever lays the last one back has the memory of the whole row: then it is gone.
use Rattle.std.specs.Prelude.{get_or}
use Rattle.core.specs.Prelude.{◌≡◌, ℕ, zero, suc, ◌+◌, ◌*◌, ◌^◌, ◌<◌, Bool, true, false, List, [], ◌∷◌, length}
use mir.Syntax.{Ty, w64, ty_int, ty_ptr}
use mir.Val.{vint}
use base.Fraction.{full_share}
use base.Fml.{Fml, ftrue, ffalse, fsep, fex, feq, froom, fat, finv}
use types.Na.{out}
use denote.RattleType.{RattleType}
use denote.RawPtr.{Ptr, block_ptr, null_ptr, ◌+ₚ◌}
use Rattle.core.specs.Sync.RawAtomic.{word}
use Rattle.core.specs.Sync.RawAtomic.Pointer.{cell}
use Rattle.seize_store.specs.Freeable.{freeable}
use Rattle.seize_store.specs.Body.{body_ty, row_ty, stride, head_at, len_at, header_room, owner_room, room, len_room, rest, rim}
pub use Rattle.seize_content.specs.Contents.{fact}

-- where the head lies, and the chunks' tickets
pub record RowDeed : Type 0 where
  pub at : ℕ
  pub tickets : List ℕ

abbrev pub Has : List ℕ → ℕ → ℕ → Type 0
Has [] i γ = ⊥
Has (δ ∷ δs) zero γ = δ ≡ γ
Has (δ ∷ δs) (suc i) γ = Has δs i γ

-- where the row's chunk at an entry lies
abbrev pub at_entry : List Ptr → ℕ → Ptr
at_entry places entry = get_or places entry null_ptr

-- γs are δs from the i-th on
abbrev pub Tail : List ℕ → ℕ → List ℕ → Type 0
Tail δs i γs = (k γ : ℕ) → Has γs k γ → Has δs (k + i) γ

-- a chunk's ticket, with whether the chunk was laid back
abbrev pub TicketMarks : Type 0
TicketMarks = List (ℕ × Bool)

abbrev pub of_marks : TicketMarks → List ℕ
of_marks [] = []
of_marks (m ∷ ms) = m.0 ∷ of_marks ms

abbrev pub one_missing : Bool → ℕ → ℕ
one_missing true n = n
one_missing false n = suc n

abbrev pub missing : TicketMarks → ℕ
missing [] = 0
missing (m ∷ ms) = one_missing m.1 (missing ms)

abbrev pub held_all : List ℕ → Fml
held_all [] = ftrue
held_all (γ ∷ γs) = fsep (out γ) (held_all γs)

pub data RowStage : Type 0 where
  stands : TicketMarks → RowStage
  gone : RowStage

module _ (X U R : RattleType) where
  abbrev pub Fits : ℕ → Type 0
  Fits n = n * stride X U R < 2 ^ 63

module _ (X U R : RattleType) (b : ℕ) where
  abbrev pub laid_one : ℕ → Bool → ℕ → Fml
  laid_one γ true e = fsep (out γ) (froom (body_ty X U R) b e)
  laid_one γ false e = ftrue

  abbrev pub laid : TicketMarks → ℕ → Fml
  laid [] e = ftrue
  laid (m ∷ ms) e = fsep (laid_one m.0 m.1 e) (laid ms (e + stride X U R))

  -- all of the head at o of a row of n chunks, but its word
  abbrev pub head_with : ℕ → ℕ → Fml
  head_with o n = fsep (header_room X U R b o) (fsep (owner_room X U R b o) (fsep (room X U R b o) (fsep (froom ty_ptr b (head_at X U R o))
      (fsep (fat full_share (ty_int w64) b (len_at X U R o) (vint w64 (suc n)))
      (fsep (rest X U R b o) (fsep (rim X U R b o) (fsep (freeable (row_ty X U R (suc n)) (block_ptr b o))
      (fact (Fits X U R (suc n))))))))))

  module _ (d : RowDeed) where
    abbrev pub head : Fml
    head = head_with d.at (length d.tickets)

    abbrev pub stage : RowStage → Fml
    stage (stands ms) = fsep (fact ((of_marks ms ≡ d.tickets) × (missing ms < 2 ^ 64)))
        (fsep (word b (d.at + 0) (missing ms)) (fsep (laid ms (d.at + stride X U R)) head))
    stage gone = held_all d.tickets

    abbrev pub Shared : Fml
    Shared = fex RowStage stage

    -- the chunk at e is the row's i-th, and γ is its ticket
    abbrev pub Lies : ℕ → ℕ → ℕ → Type 0
    Lies e i γ = Has d.tickets i γ × (e ≡ i * stride X U R + (d.at + stride X U R))

    abbrev pub ticket : ℕ → ℕ × ℕ → Fml
    ticket e t = fsep (fact (Lies e t.0 t.1)) (fsep (out t.1) (finv Shared))

  -- the way from the chunk at e to its row's head, and the right to lay the chunk back
  abbrev pub leads : ℕ → RowDeed → Fml
  leads e d = fsep (cell b (head_at X U R e) (block_ptr b d.at)) (fex (ℕ × ℕ) (ticket d e))

  abbrev pub due : ℕ → Fml
  due e = fsep (rim X U R b e) (fsep (len_room X U R b e) (fex RowDeed (leads e)))

  -- of a row, what is not cut into chunks yet: room from e on for each of the tickets, which are the row's from a place on
  abbrev pub uncut : ℕ → ℕ → RowDeed × ℕ × List ℕ → Fml
  uncut e left t =
      fsep (fact ((length t.2 ≡ left) × Tail t.0.tickets t.1 t.2
      × (e ≡ t.1 * stride X U R + (t.0.at + stride X U R)) × (stride X U R < 2 ^ 63)))
      (fsep (finv (Shared t.0)) (fsep (froom (row_ty X U R left) b e) (held_all t.2)))

module _ (X U R : RattleType) where
  -- the memory of n chunks at p, with the right to give it back
  abbrev pub rooms_own : (Ty → Ptr → Fml) → Ptr → ℕ → Fml
  rooms_own token (block_ptr b o) n = fsep (froom (row_ty X U R n) b o) (token (row_ty X U R n) (block_ptr b o))
  rooms_own token null_ptr n = ffalse

  -- the places of n chunks, of which the first is p
  abbrev pub line : Ptr → ℕ → List Ptr
  line p zero = []
  line p (suc n) = p ∷ line (p +ₚ stride X U R) n

  -- what is not cut yet: from p on there will be chunks at the places ps, and the head lies at q
  abbrev pub strip_by : ℕ → ℕ → Ptr → List Ptr → RowDeed × ℕ × List ℕ → Fml
  strip_by b e q ps t =
      fsep (feq Ptr q (block_ptr b t.0.at)) (fsep (fact (ps ≡ line (block_ptr b e) (length ps))) (uncut X U R b e (length ps) t))

  abbrev pub strip_owns : Ptr → Ptr → List Ptr → Fml
  strip_owns (block_ptr b e) q ps = fex (RowDeed × ℕ × List ℕ) (strip_by b e q ps)
  strip_owns null_ptr q ps = ffalse

  -- ps are the places of chunks that lie one after the other, from p on, in one block
  abbrev pub IsRow : Ptr → List Ptr → Type 0
  IsRow p ps = (ps ≡ line p (length ps)) × Fits X U R (length ps)
