-- The words in which the contracts of blocks in a store speak.
--     header_book header, header_home header     the book whose words the header has, and the home of the values in its block
--     header_cell header                the name of the cell in which the holder of the key of these values makes notes
--     blocks_book blocks                the book whose blocks these are
--     LiesIn key block                  the key is that of the values of this block;  LayIn key hollow     of the block whose value was
--                                       taken out of this chunk
--     IsPartOf key part                 it has the label of the chunk of the key's block
--     IsBlockAs Is blocks value key block     it is one of these blocks and has the value, and the key is for a value in it of which this
--                                       is so, by the block's number, and for the content of its chunk; nothing is lent with it
--     IsBlockIn blocks value key block  and the key's is the next value of the block;  IsBlockAfter last blocks value key block   it is so
--                                       once the last one was reclaimed
--     IsHollowAs Is blocks key hollow   it is of one of these blocks, whose value was taken out, and the key is for a value in it of which
--                                       this is so, by its number, and for the content of its chunk; nothing is lent with it
--     IsHollowIn blocks key hollow, IsHollowAfter last blocks key hollow     the same as IsBlockIn and IsBlockAfter, without the value
--     AreSpotsIn blocks spots           the list is of spots of the store of these blocks
--     IsLentAs v g                      a value of code g is lent with v
--     LendsIn blocks key number g       the key is for a value that was never named, by this number, and a value of code g is lent with it
--     IsFoundAt o number pass           it is a value, which was named, as the pass has seen, by this number, and something is lent with it
--     IsFoundAs o g                     it is a value, and one of code g is lent with it
--     IsHeaderOf header number pass     it is of the pass's book, and each value with this number that was ever named lies in its block,
--                                       with its cell
use Rattle.std.specs.Prelude.{◌≡◌, ℕ, ◌+◌, ◌<◌, ◌^◌, Option, Some, true}
use base.Stored.{Gv}
use Rattle.seize_machine.specs.Machine.State.{has}
use Rattle.seize_store.specs.Named.{AreOfStore, bare_content, bare_label, bare_number, bare_store, bare_value, hollow_content, hollow_label, hollow_number, hollow_store}
use Rattle.seize_store.specs.declared.bare.Bare.{Bare}
use Rattle.seize_store.specs.declared.hollow.Hollow.{Hollow}
use Rattle.seize_store.specs.declared.spot.Spots.{Spots}
use Rattle.seize_book.specs.Bare.{bare_cell, bare_home}
use Rattle.seize_book.specs.Blocks.{block_number}
use Rattle.seize_book.specs.Books.{IsNextAfter, IsNextIn}
use Rattle.seize_words.specs.Counts.{home}
use Rattle.seize_book.specs.Homes.{home_of}
use Rattle.seize_book.specs.Homesteads.{state_seen}
use Rattle.seize_book.specs.Lending.{IsFreeKey}
use Rattle.seize_book.specs.Loans.{CarriesOne, cell_of, loan_number, loan_of, place_of}
use Rattle.seize_book.specs.Notes.{cell_in}
use Rattle.seize_book.specs.Others.{book_of, value_of}
use Rattle.seize_book.specs.Tokens.{Name, chunk_label}
use Rattle.seize_words.specs.declared.blocks.Blocks.{Blocks}
use Rattle.seize_book.specs.declared.book.pass.Pass.{Pass}
use Rattle.seize_book.specs.declared.book.value_key.ValueKey.{ValueKey}
use Rattle.seize_words.specs.declared.chunk.Header.{Header}
use Rattle.seize_words.specs.declared.chunk.Part.{Part}

abbrev pub header_book : Header → Name
header_book header = header.book.name

abbrev pub header_home : Header → ℕ
header_home header = home header.count

-- the name of the cell where the holder of the key of the block's values makes notes
abbrev pub header_cell : Header → ℕ
header_cell header = header.note.name

abbrev pub blocks_book : {T : Type 0} → Blocks T → Name
blocks_book blocks = blocks.book.name

abbrev pub LiesIn : {H P T : Type 0} → ValueKey → Bare H P T → Type 0
LiesIn key block = chunk_label (book_of key) (home_of (value_of key)) (cell_in key) ≡ bare_label block

abbrev pub LayIn : {H P T : Type 0} → ValueKey → Hollow H P T → Type 0
LayIn key hollow = chunk_label (book_of key) (home_of (value_of key)) (cell_in key) ≡ hollow_label hollow

abbrev pub IsPartOf : ValueKey → Part → Type 0
IsPartOf key part =
    chunk_label part.book.name (bare_home part.key) (bare_cell part.key)
    ≡ chunk_label (book_of key) (home_of (value_of key)) (cell_in key)

pub record IsBlockAs {T : Type 0} (Is : ValueKey → ℕ → Type 0) (blocks : Blocks T) (value : T) (key : ValueKey)
    (block : Bare Header Part T) : Type 0 where
  pub holds : bare_value block ≡ value
  pub store : (blocks_book blocks).store ≡ bare_store block
  pub book : book_of key ≡ blocks_book blocks
  pub next : Is key (bare_number block)
  pub lies : LiesIn key block
  -- the value's name says the content that its chunk has, and nothing is lent with it
  pub content : place_of (value_of key) ≡ bare_content block
  pub free : IsFreeKey key
  -- words hold the number beside 2
  pub fits : bare_number block + 2 < 2 ^ 64

abbrev pub IsBlockIn : {T : Type 0} → Blocks T → T → ValueKey → Bare Header Part T → Type 0
IsBlockIn blocks value key block = IsBlockAs IsNextIn blocks value key block

abbrev pub IsBlockAfter : {T : Type 0} → ℕ → Blocks T → T → ValueKey → Bare Header Part T → Type 0
IsBlockAfter last blocks value key block = IsBlockAs (λ k number. IsNextAfter k last number) blocks value key block

-- what is left of a block when its value was taken out
pub record IsHollowAs {T : Type 0} (Is : ValueKey → ℕ → Type 0) (blocks : Blocks T) (key : ValueKey)
    (hollow : Hollow Header Part T) : Type 0 where
  pub store : (blocks_book blocks).store ≡ hollow_store hollow
  pub book : book_of key ≡ blocks_book blocks
  pub next : Is key (hollow_number hollow)
  pub lay : LayIn key hollow
  pub content : place_of (value_of key) ≡ hollow_content hollow
  pub free : IsFreeKey key
  pub fits : hollow_number hollow + 2 < 2 ^ 64

abbrev pub IsHollowIn : {T : Type 0} → Blocks T → ValueKey → Hollow Header Part T → Type 0
IsHollowIn blocks key hollow = IsHollowAs IsNextIn blocks key hollow

abbrev pub IsHollowAfter : {T : Type 0} → ℕ → Blocks T → ValueKey → Hollow Header Part T → Type 0
IsHollowAfter last blocks key hollow = IsHollowAs (λ k number. IsNextAfter k last number) blocks key hollow

abbrev pub AreSpotsIn : {T : Type 0} → Blocks T → Spots Header Part T → Type 0
AreSpotsIn blocks spots = AreOfStore spots (blocks_book blocks).store

-- a value of the code g is lent with v
abbrev pub IsLentAs : ℕ → Gv → Type 0
IsLentAs v g = loan_of v ≡ loan_number g

pub record LendsIn {T : Type 0} (blocks : Blocks T) (key : ValueKey) (number : ℕ) (g : Gv) : Type 0 where
  pub book : book_of key ≡ blocks_book blocks
  pub next : IsNextIn key number
  pub code : IsLentAs (value_of key) g
  pub fits : number + 2 < 2 ^ 64

-- who found it in a link knows that it was named, and that something is lent with it
pub record IsFoundAt (o : Option ℕ) (number : ℕ) (pass : Pass) : Type 0 where
  pub value : ℕ
  pub is : o ≡ Some value
  pub named : has value (state_seen pass).named ≡ true
  pub numbered : block_number value ≡ number
  pub lent : CarriesOne value

abbrev pub IsFoundAs : Option ℕ → Gv → Type 0
IsFoundAs o g = (v : ℕ) × (o ≡ Some v) × IsLentAs v g

abbrev pub IsHeaderOf : Header → ℕ → Pass → Type 0
IsHeaderOf header number pass =
    (header_book header ≡ pass.name)
    × ((v : ℕ) → has v (state_seen pass).named ≡ true → block_number v ≡ number → home_of v ≡ header_home header)
    × ((v : ℕ) → has v (state_seen pass).named ≡ true → block_number v ≡ number → cell_of v ≡ header_cell header)
