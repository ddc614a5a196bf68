-- What the holder of a chunk's room has: the place is its title's, the owner's part and its ticket are as the title's tag k says, and the
-- room is empty, or x lies in it. A hull has x and the ticket without the owner's part, and a shell the empty room and the ticket.
use Rattle.core.specs.Prelude.{◌≡◌, ℕ}
use base.Fraction.{full_share}
use base.Fml.{Lft, Fml, fsep, fex, feq, finv}
use types.Na.{out}
use denote.RattleType.{RattleType}
use denote.Memory.{part_at}
use denote.RawPtr.{Ptr, block_ptr}
use denote.Sharing.{said, some, beside}
use denote.Struct.Lending.{lent_at}
use Rattle.seize_content.specs.Contents.{ticket_owns}
use Rattle.seize_content.specs.Stages.{held as unlent}
use Rattle.seize_table.specs.Pairs.{left_of, right_of}
use Rattle.seize_store.specs.Body.{owner_at, owner_room, rest, room, room_at}
use Rattle.seize_store.specs.Row.{fact}
use Rattle.seize_store.specs.Chunk.{held, right, Inv, placed}

module _ (X U R : RattleType) (b o : ℕ) (f : U.Denot → ℕ) (k : ℕ) where
  abbrev pub empty : ℕ × (ℕ × ℕ) → Fml
  empty t = fsep (right X U R b o f k t.0 t.1.0 t.1.1) (finv (Inv X U R b o f k t.0 t.1.0 t.1.1))

  -- with F where the owner's part lies
  abbrev pub full_with : Fml → R.Denot → ℕ × (ℕ × ℕ) → Fml
  full_with F x t =
      fsep (fsep (out t.1.0) (fsep F (fsep (part_at R full_share x b (room_at X U R o)) (rest X U R b o))))
      (finv (Inv X U R b o f k t.0 t.1.0 t.1.1))

  abbrev pub full : R.Denot → ℕ × (ℕ × ℕ) → Fml
  full x = full_with (held X U R b o f k) x

  abbrev pub bare : R.Denot → ℕ × (ℕ × ℕ) → Fml
  bare x = full_with (owner_room X U R b o) x

  -- the same with the room empty
  abbrev pub hollow : ℕ × (ℕ × ℕ) → Fml
  hollow t =
      fsep (fsep (out t.1.0) (fsep (owner_room X U R b o) (fsep (room X U R b o) (rest X U R b o))))
      (finv (Inv X U R b o f k t.0 t.1.0 t.1.1))

  abbrev pub lent_part : U.Denot → Lft → Fml
  lent_part u = beside (said (fact (f u ≡ left_of k))) (lent_at U (block_ptr b (owner_at X U R o)) u)

  abbrev pub lent_held : Lft → Fml
  lent_held = some U.Denot lent_part

module _ (X U R : RattleType) (f : U.Denot → ℕ) where
  abbrev pub out_owns : Ptr → ℕ → Fml
  out_owns p k = placed p (λ b o. fex (ℕ × (ℕ × ℕ)) (empty X U R b o f k))

  abbrev pub block_owns : Ptr → ℕ → Ptr → R.Denot → Fml
  block_owns place k p x = fsep (feq Ptr place p) (placed p (λ b o. fex (ℕ × (ℕ × ℕ)) (full X U R b o f k x)))

  -- what is lent of a hull: all but the ticket
  abbrev pub lain_owns : Ptr → ℕ → R.Denot → Fml
  lain_owns p k x = placed p (λ b o. fex (ℕ × (ℕ × ℕ)) (bare X U R b o f k x))

  abbrev pub hull_owns : Ptr → ℕ → R.Denot → Fml
  hull_owns p k x = fsep (lain_owns p k x) (ticket_owns (right_of k) unlent)

  abbrev pub shell_owns : Ptr → ℕ → Fml
  shell_owns p k = fsep (placed p (λ b o. fex (ℕ × (ℕ × ℕ)) (hollow X U R b o f k))) (ticket_owns (right_of k) unlent)

  abbrev pub block_shares : ℕ → Ptr → R.Denot → Lft → Fml
  block_shares k p x κ = placed p (λ b o. beside (lent_held X U R b o f k) (lent_at R (block_ptr b (room_at X U R o)) x) κ)

  abbrev pub hull_shares : Ptr → R.Denot → Lft → Fml
  hull_shares p x κ = placed p (λ b o. lent_at R (block_ptr b (room_at X U R o)) x κ)
