-- What contracts of slots see of a collector: its words.
--     its_store c       the store where its blocks lie;  its_links c     how many links it has;  collector_id c     its id
--     IsBlockOf c owned     it is a block of the collector;  BelongsTo owners c owned     it is one, with each block inside it (Belongs)
use Rattle.std.specs.Prelude.{◌≡◌, ℕ, List, length}
use Rattle.seize_words.specs.Joined.{words_book}
use Rattle.seize_words.specs.declared.words.Words.{Words}
use Rattle.seize_parts.specs.Blocks.{Belongs, owned_store}
use Rattle.seize_parts.specs.declared.block.owned.Owned.{Owned}

abbrev pub its_store : {T : Type 0} → Words T → List ℕ
its_store words = (words_book words).store

abbrev pub its_links : {T : Type 0} → Words T → ℕ
its_links words = length (words_book words).links

abbrev pub collector_id : {T : Type 0} → Words T → ℕ
collector_id words = words.id

abbrev pub IsBlockOf : {T : Type 0} → Words T → Owned T → Type 0
IsBlockOf words owned = owned_store owned ≡ its_store words

abbrev pub BelongsTo : {T : Type 0} → (T → List (List ℕ)) → Words T → Owned T → Type 0
BelongsTo owners words owned = Belongs owners (its_store words) owned
