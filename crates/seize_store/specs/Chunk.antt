-- What the two sides of a chunk own. It lies at b, o, with a header of row X, the owner's part of row U and room for a content of row R.
-- With the part goes the ticket of the chunk's content. The tag k is a pair of the part's label, by f, and of the content's name.
--     the word is 0 while the room is in, 1 while it is out, and 2 while it is out and the store is gone. Whoever comes second has all
--     of the chunk's memory, with the owner's part in it, and lays it back into its row when the part is out: then it is spent
--     δ is the right to put the room back, η the right to close the chunk, and a is the lifetime for which it is open
use Rattle.core.specs.Prelude.{◌≡◌, ℕ, ◌+◌, [], ◌∷◌}
use mir.Syntax.{w64, ty_int}
use base.Fraction.{full_share}
use base.Fml.{Lft, Fml, ffalse, fsep, fex, froom, flft, fdead, finv}
use types.Na.{out}
use denote.RattleType.{RattleType}
use denote.Memory.{part_at}
use denote.RawPtr.{Ptr, block_ptr, null_ptr}
use denote.Sharing.{said, beside, one, always}
use denote.Struct.Lending.{lent_at}
use Rattle.core.specs.Sync.RawAtomic.{word}
use Rattle.seize_store.specs.Body.{header_at, owner_at, header_room, owner_room, room, rest}
use Rattle.seize_content.specs.Contents.{ticket_owns}
use Rattle.seize_content.specs.Stages.{held as unlent}
use Rattle.seize_table.specs.Pairs.{left_of, right_of}
use Rattle.seize_store.specs.Row.{due, fact}

pub data Phase : Type 0 where
  free : Phase
  taken : Phase
  left : Phase
  spent : Phase

module _ (X U R : RattleType) where
  module _ (b o : ℕ) where
    abbrev pub dues : Fml
    dues = due X U R b o

    -- all of a chunk but its word and the owner's part
    abbrev pub others : Fml
    others = fsep (header_room X U R b o) (fsep (room X U R b o) (fsep (rest X U R b o) dues))

    -- the memory of a chunk that has no two sides yet, or no more
    abbrev pub piece : Fml
    piece = fsep (froom (ty_int w64) b (o + 0)) (fsep (owner_room X U R b o) others)

    abbrev pub part_of : U.Denot → Fml
    part_of u = part_at U full_share u b (owner_at X U R o)

    -- the same, with the owner's part still in it
    abbrev pub remains : Fml
    remains = fsep (froom (ty_int w64) b (o + 0)) (fsep (fex U.Denot part_of) others)

    -- the owner's part, and the ticket of the chunk's content, as the tag k says
    abbrev pub labelled : (U.Denot → ℕ) → ℕ → U.Denot → Fml
    labelled f k u = fsep (fact (f u ≡ left_of k)) (fsep (part_of u) (ticket_owns (right_of k) unlent))

    abbrev pub held : (U.Denot → ℕ) → ℕ → Fml
    held f k = fex U.Denot (labelled f k)

    module _ (f : U.Denot → ℕ) (k a δ η : ℕ) where
      abbrev pub right : Fml
      right = fsep (out δ) (fsep (held f k) (fsep (room X U R b o) (rest X U R b o)))

      -- what the store leaves behind
      abbrev pub legacy : Fml
      legacy = fsep (fsep (out η) (fdead (a ∷ []))) (fsep (header_room X U R b o) dues)

      abbrev pub state : Phase → Fml
      state free = fsep (word b (o + 0) 0) right
      state taken = word b (o + 0) 1
      state left = fsep (word b (o + 0) 2) legacy
      state spent = fsep (out δ) (fsep (out η) (fdead (a ∷ [])))

      abbrev pub Inv : Fml
      Inv = fex Phase state

      abbrev pub home : Fml
      home = fsep (flft (a ∷ []) full_share) (fsep (out η) dues)

-- F at a place that is not null. Only F differs from one type to another, so a type may hold a chunk of its own
abbrev pub placed : Ptr → (ℕ → ℕ → Fml) → Fml
placed (block_ptr b o) F = F b o
placed null_ptr F = ffalse

module _ (X U R : RattleType) where
  abbrev pub piece_owns : Ptr → Fml
  piece_owns p = placed p (piece X U R)

  abbrev pub remains_own : Ptr → Fml
  remains_own p = placed p (remains X U R)

module _ (X U R : RattleType) (f : U.Denot → ℕ) (k a δ η : ℕ) where
  -- what the store's side has
  abbrev pub chunk_owns : Ptr → X.Denot → Fml
  chunk_owns (block_ptr b o) h = let header = part_at X full_share h b (header_at X U R o) in
      fsep header (fsep (home X U R b o f k a δ η) (finv (Inv X U R b o f k a δ η)))
  chunk_owns null_ptr h = ffalse

  abbrev pub chunk_shares : Ptr → X.Denot → Lft → Fml
  chunk_shares (block_ptr b o) h = let header = lent_at X (block_ptr b (header_at X U R o)) h in
      beside header (beside (one (λ q. flft (a ∷ []) q)) (always (Inv X U R b o f k a δ η)))
  chunk_shares null_ptr h = said ffalse
