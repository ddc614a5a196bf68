-- The words in which the contracts of a store's own parts speak.
--     out_room_at o, chunk_at c, piece_at p     where the room o, the chunk c and the chunk's memory p lie
--     room_with o, lies_with c, hull_with h, shell_with s, lent_from l   where the room o, the chunk c, the hull h, the shell s and what
--                     the lender l lends lie, with the chunk's tag
--     room_count r    for how many chunks the memory r is
--     block_title b   the title of the block b
--     spot_title s    the title of the spot s;  spot_number s and spot_store s are its number and its store
use Rattle.std.specs.Prelude.{ℕ, List}
use denote.RawPtr.{Ptr}
use Rattle.seize_store.specs.declared.block.Block.{Block}
use Rattle.seize_store.specs.declared.block.Hull.{Hull}
use Rattle.seize_store.specs.declared.block.Out.{Out}
use Rattle.seize_store.specs.declared.block.Shell.{Shell}
use Rattle.seize_store.specs.declared.chunk.Chunk.{Chunk}
use Rattle.seize_store.specs.declared.row_token.Title.{Title}
use Rattle.seize_store.specs.declared.lender.Lender.{Lender}
use Rattle.seize_store.specs.declared.spot.Spot.{Spot}
use Rattle.seize_store.specs.declared.strip.Piece.{Piece}
use Rattle.seize_store.specs.declared.strip.Rooms.{Rooms}

abbrev pub out_room_at : {H P T : Type 0} → Out H P T → Ptr
out_room_at out = out.at

abbrev pub chunk_at : {H P T : Type 0} → Chunk H P T → Ptr
chunk_at chunk = chunk.at

abbrev pub room_with : {H P T : Type 0} → Out H P T → Ptr × ℕ
room_with out = (out.at, out.tag)

abbrev pub lies_with : {H P T : Type 0} → Chunk H P T → Ptr × ℕ
lies_with chunk = (chunk.at, chunk.tag)

abbrev pub hull_with : {H P T : Type 0} → Hull H P T → Ptr × ℕ
hull_with hull = (hull.at, hull.tag)

abbrev pub shell_with : {H P T : Type 0} → Shell H P T → Ptr × ℕ
shell_with shell = (shell.at, shell.tag)

abbrev pub lent_from : {H P T : Type 0} → Lender H P T → Ptr × ℕ
lent_from lender = (lender.at, lender.tag)

abbrev pub piece_at : {H P T : Type 0} → Piece H P T → Ptr
piece_at piece = piece.at

abbrev pub room_count : {H P T A : Type 0} → Rooms H P T A → ℕ
room_count rooms = rooms.len

abbrev pub block_title : {H P T : Type 0} → Block H P T → Title
block_title block = block.title

abbrev pub spot_title : {H P T : Type 0} → Spot H P T → Title
spot_title spot = spot.title

abbrev pub spot_number : {H P T : Type 0} → Spot H P T → ℕ
spot_number spot = spot.title.number

abbrev pub spot_store : {H P T : Type 0} → Spot H P T → List ℕ
spot_store spot = spot.title.known.store
