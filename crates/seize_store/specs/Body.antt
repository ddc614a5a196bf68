-- Where the parts of a chunk lie. A chunk lies at b, o: a state word, a header of row X, an owner's part of row U, room for a content
-- of row R, the way to the head of its row, the row's length, and a rest of 32 bytes: chunks lie 64 bytes apart or more, or 56 where
-- the three rows are empty. Only the head, which is laid out as a chunk and lies before the row's first one, uses the length.
use Rattle.core.specs.Prelude.{ℕ, ◌+◌, []}
use mir.Syntax.{Ty, w64, ty_int, ty_ptr, ty_array, ty_struct, tcons, tnil}
use mir.Raw.{raw}
use prog.Memory.{up, align, size}
use base.Fml.{Fml, ftrue, fsep, fwand, froom}
use denote.RattleType.{RattleType}
use denote.Memory.{lone}

abbrev pub rest_ty : Ty
rest_ty = ty_array (ty_int w64) 4

module _ (X U R : RattleType) where
  abbrev pub body_ty : Ty
  body_ty = ty_struct [] (tcons (ty_int w64) (tcons (raw (lone X.mir)) (tcons (raw (lone U.mir))
      (tcons (raw (lone R.mir)) (tcons ty_ptr (tcons (ty_int w64) (tcons rest_ty tnil)))))))

  -- the same with the types as they are, of which body_ty is the bare room
  abbrev pub plain_ty : Ty
  plain_ty = ty_struct [] (tcons (ty_int w64) (tcons (lone X.mir) (tcons (lone U.mir)
      (tcons (lone R.mir) (tcons ty_ptr (tcons (ty_int w64) (tcons rest_ty tnil)))))))

  -- how far apart two chunks lie
  abbrev pub stride : ℕ
  stride = size plain_ty

  -- so many chunks
  abbrev pub row_ty : ℕ → Ty
  row_ty n = raw (ty_array plain_ty n)

  abbrev pub header_at : ℕ → ℕ
  header_at o = o + up (align (lone X.mir)) 8

  abbrev owner_off : ℕ
  owner_off = up (align (lone U.mir)) (up (align (lone X.mir)) 8 + size (lone X.mir))

  abbrev room_off : ℕ
  room_off = up (align (lone R.mir)) (owner_off + size (lone U.mir))

  abbrev head_off : ℕ
  head_off = up 8 (room_off + size (lone R.mir))

  abbrev pub owner_at : ℕ → ℕ
  owner_at o = o + owner_off

  abbrev pub room_at : ℕ → ℕ
  room_at o = o + room_off

  abbrev pub head_at : ℕ → ℕ
  head_at o = o + head_off

  abbrev pub len_at : ℕ → ℕ
  len_at o = o + up 8 (head_off + 8)

  abbrev pub rest_at : ℕ → ℕ
  rest_at o = o + up 8 (up 8 (head_off + 8) + 8)

  module _ (b o : ℕ) where
    abbrev pub header_room : Fml
    header_room = froom (raw (lone X.mir)) b (header_at o)

    abbrev pub owner_room : Fml
    owner_room = froom (raw (lone U.mir)) b (owner_at o)

    abbrev pub room : Fml
    room = froom (raw (lone R.mir)) b (room_at o)

    abbrev pub len_room : Fml
    len_room = froom (ty_int w64) b (len_at o)

    abbrev pub rest : Fml
    rest = froom rest_ty b (rest_at o)

    -- the fields, given back empty, are the whole of the chunk's memory
    abbrev pub rooms : Fml
    rooms = fsep (froom (ty_int w64) b (o + 0)) (fsep header_room (fsep owner_room (fsep room
        (fsep (froom ty_ptr b (head_at o)) (fsep len_room (fsep rest ftrue))))))

    abbrev pub rim : Fml
    rim = fwand rooms (froom body_ty b o)
