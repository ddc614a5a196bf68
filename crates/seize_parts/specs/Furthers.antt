-- What contracts see of the blocks that a reclaimer puts. `code` is the code of the collector's element type.
--     further_store f          the store where they have to lie
--     HasPut code f xs         blocks with these contents were put, in order
--     Joins code f f' xs       blocks with these contents were put behind those that were put before
use Rattle.std.specs.Prelude.{◌≡◌, ℕ, List, ◌++◌}
use base.Stored.{Gv}
use Rattle.seize_book.specs.Values.{values_of}
use Rattle.seize_calls.specs.Furthers.{further_in}
use Rattle.seize_words.specs.Chunks.{blocks_book}
use Rattle.seize_alone.specs.Gone.{AreNamesOf}
use Rattle.seize_parts.specs.declared.reclaim.further.Further.{Further}

abbrev pub further_store : {T R : Type 0} → Further T R → List ℕ
further_store further = (blocks_book further.blocks.now).store

abbrev pub HasPut : {T R : Type 0} → (T → Gv) → Further T R → List T → Type 0
HasPut code further xs = AreNamesOf code (values_of (further_in further.chain)) xs

abbrev pub Joins : {T R : Type 0} → (T → Gv) → Further T R → Further T R → List T → Type 0
Joins {T} code further further' xs =
    (further'.blocks.now ≡ further.blocks.now) × (further'.kind ≡ further.kind)
    × ((before : List T) → HasPut code further before → HasPut code further' (before ++ xs))
