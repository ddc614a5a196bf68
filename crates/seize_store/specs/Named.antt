-- The words in which the contracts of the store and of its blocks speak.
--     store_name s    the store s: its own name, its family, and the names of its rows
--     store_of o      the store that the block o is of
--     owned_value o, owned_number o, title_of o, known_of o     its value, its number, its title, and the token of its row
--     AreOfStore spots s   each of the spots is of the store s
--     is_empty_list spots, count_of spots      there is none;  how many there are
--     titles_of spots, titles_with ts t      their titles, in order;  with one more, where a full list gives its last 64 back first
--     count_with n    how many there are when one was put to n
--     IsSameBlock o p     the blocks o and p have the same value, number, store and place
--     store_by s, row_by s, chunks_by s     the store and the row of the token s, and where the row's chunks lie, with their labels
--     row_is s n      the row is that of the number n
--     place_by s n, label_by s n     where the chunk of the number n lies, and the label of its header
--     IsRowOf k n     the token k shows the row of the number n
--     lies_of p, header_of p   where the chunk p lies, and its header
--     owned_label o   the label of the header of the block o's chunk
--     bare_value b, bare_title b, bare_store b, bare_number b, bare_label b     the same of a block b without its owner's part
--     bare_known b, bare_content b     the token of its row, and the name of the content of its chunk
--     hollow_title o, hollow_store o, hollow_number o, hollow_label o, hollow_content o     the same of what has no value either
use Rattle.std.specs.Prelude.{◌≡◌, ℕ, ◌+◌, ◌==◌, if◌then◌else◌, List, [], ◌∷◌, ◌++◌, All, map, length, take, vec_len}
use denote.RawPtr.{Ptr}
use Rattle.seize_store.specs.RowTokens.{IsInRow, entry_of, label_in, place_in}
use Rattle.seize_store.specs.Titled.{names_of_rows}
use Rattle.seize_store.specs.Titled as titled
use Rattle.seize_store.specs.declared.bare.Bare.{Bare}
use Rattle.seize_store.specs.declared.hollow.Hollow.{Hollow}
use Rattle.seize_store.specs.declared.row_token.RowToken.{RowToken}
use Rattle.seize_table.specs.declared.labelled.Labelled.{Ghosts}
use Rattle.seize_store.specs.declared.row_token.Title.{Title}
use Rattle.seize_store.specs.declared.look_up.Place.{Place}
use Rattle.seize_store.specs.declared.look_up.TypedRowToken.{TypedRowToken}
use Rattle.seize_store.specs.declared.owned.Owned.{Owned}
use Rattle.seize_store.specs.declared.spot.Spots.{Spots}
use Rattle.seize_store.specs.declared.store.Store.{Store}

abbrev pub store_name : {H P T : Type 0} {g : Ghosts H} → Store H P T g → List ℕ
store_name store = names_of_rows store.rows

abbrev pub store_of : {H P T : Type 0} → Owned H P T → List ℕ
store_of owned = owned.block.title.known.store

abbrev pub owned_value : {H P T : Type 0} → Owned H P T → T
owned_value owned = owned.block.value

abbrev pub owned_number : {H P T : Type 0} → Owned H P T → ℕ
owned_number owned = owned.block.title.number

abbrev pub title_of : {H P T : Type 0} → Owned H P T → Title
title_of owned = owned.block.title

abbrev pub known_of : {H P T : Type 0} → Owned H P T → RowToken
known_of owned = owned.block.title.known

abbrev pub AreOfStore : {H P T : Type 0} → Spots H P T → List ℕ → Type 0
AreOfStore spots store = All (λ spot. spot.title.known.store ≡ store) spots.list.items

abbrev pub is_empty_list : {H P T : Type 0} → Spots H P T → Type 0
is_empty_list spots = spots.list.items ≡ []

abbrev pub titles_of : {H P T : Type 0} → Spots H P T → List Title
titles_of spots = map (λ spot. spot.title) spots.list.items

abbrev pub titles_with : List Title → Title → List Title
titles_with titles title = (if length titles == 128 then take 64 titles else titles) ++ title ∷ []

abbrev pub count_with : ℕ → ℕ
count_with count = (if count == 128 then 64 else count) + 1

abbrev pub IsSameBlock : {H P T : Type 0} → Owned H P T → Owned H P T → Type 0
IsSameBlock one other = (owned_value one ≡ owned_value other) × (one.block.title ≡ other.block.title)

abbrev pub store_by : {H P T : Type 0} {g : Ghosts H} → TypedRowToken H P T g → List ℕ
store_by seen = seen.known.store

abbrev pub row_by : {H P T : Type 0} {g : Ghosts H} → TypedRowToken H P T g → ℕ
row_by seen = seen.known.row

abbrev pub chunks_by : {H P T : Type 0} {g : Ghosts H} → TypedRowToken H P T g → List (Ptr × ℕ)
chunks_by seen = seen.known.chunks

abbrev pub row_is : {H P T : Type 0} {g : Ghosts H} → TypedRowToken H P T g → ℕ → Type 0
row_is seen number = IsInRow number seen.known.row

abbrev pub place_by : {H P T : Type 0} {g : Ghosts H} → TypedRowToken H P T g → ℕ → Ptr
place_by seen number = place_in seen.known.chunks (entry_of number)

abbrev pub label_by : {H P T : Type 0} {g : Ghosts H} → TypedRowToken H P T g → ℕ → ℕ
label_by seen number = label_in seen.known.chunks (entry_of number)

abbrev pub IsRowOf : RowToken → ℕ → Type 0
IsRowOf known number = IsInRow number known.row

abbrev pub lies_of : {H P T : Type 0} → Place H P T → Ptr
lies_of place = place.chunk.now.at

abbrev pub header_of : {H P T : Type 0} → Place H P T → H
header_of place = place.chunk.now.header

abbrev pub owned_label : {H P T : Type 0} → Owned H P T → ℕ
owned_label owned = titled.title_label owned.block.title

abbrev pub bare_value : {H P T : Type 0} → Bare H P T → T
bare_value bare = bare.hull.value

abbrev pub bare_title : {H P T : Type 0} → Bare H P T → Title
bare_title bare = bare.title

abbrev pub bare_number : {H P T : Type 0} → Bare H P T → ℕ
bare_number bare = bare.title.number

abbrev pub bare_store : {H P T : Type 0} → Bare H P T → List ℕ
bare_store bare = bare.title.known.store

abbrev pub bare_label : {H P T : Type 0} → Bare H P T → ℕ
bare_label bare = titled.title_label bare.title

abbrev pub bare_known : {H P T : Type 0} → Bare H P T → RowToken
bare_known bare = bare.title.known

abbrev pub bare_content : {H P T : Type 0} → Bare H P T → ℕ
bare_content bare = titled.titled_content bare.title

abbrev pub hollow_title : {H P T : Type 0} → Hollow H P T → Title
hollow_title hollow = hollow.title

abbrev pub hollow_number : {H P T : Type 0} → Hollow H P T → ℕ
hollow_number hollow = hollow.title.number

abbrev pub hollow_store : {H P T : Type 0} → Hollow H P T → List ℕ
hollow_store hollow = hollow.title.known.store

abbrev pub hollow_label : {H P T : Type 0} → Hollow H P T → ℕ
hollow_label hollow = titled.title_label hollow.title

abbrev pub hollow_content : {H P T : Type 0} → Hollow H P T → ℕ
hollow_content hollow = titled.titled_content hollow.title

abbrev pub count_of : {H P T : Type 0} → Spots H P T → ℕ
count_of spots = vec_len spots.list
