-- Where the chunk of a title lies, and what a token of a row was made of.
--     chunk_of t                  the place and the tag that the title t's row has at its entry;  title_place t and title_tag t are the two
--     title_label t, titled_content t    the label and the name of the content that the tag is a pair of
--     names_of_rows rows          the store of these rows: its own name, which it alone has, its family, and then the names of its rows
--     family_of rows              that family
--     IsRowNote store row chunks n   the note n is of that row's cell in the store, and knows its chunks, which are of the store's family
--     IsSeen rows row note        the note is of that row's cell, and knows its chunks, which are all that the row has
--     ShowsRow rows row note k    k says of that row what the note knows
use Rattle.std.specs.Prelude.{◌≡◌, ℕ, List, ◌∷◌, map}
use Rattle.std.specs.declared.option.Option.TheVariants.{Some}
use denote.RawPtr.{Ptr}
use Rattle.once_cell.specs.declared.race.note.Note.{Note}
use Rattle.seize_store.specs.declared.row_token.RowToken.{RowToken}
use Rattle.seize_store.specs.declared.row_token.Title.{Title}
use Rattle.seize_table.specs.declared.labelled.Labelled.{Ghosts}
use Rattle.seize_store.specs.declared.row.Rows.{Rows}
use Rattle.seize_store.specs.RowTokens.{AreKin, IsRowIn, chunk_in, content_in, entry_of, family_in, label_in, place_in, row_name}

abbrev pub chunk_of : Title → Ptr × ℕ
chunk_of t = chunk_in t.known.chunks (entry_of t.number)

abbrev pub title_place : Title → Ptr
title_place t = place_in t.known.chunks (entry_of t.number)

abbrev pub title_tag : Title → ℕ
title_tag t = (chunk_in t.known.chunks (entry_of t.number)).1

abbrev pub title_label : Title → ℕ
title_label t = label_in t.known.chunks (entry_of t.number)

abbrev pub titled_content : Title → ℕ
titled_content t = content_in t.known.chunks (entry_of t.number)

abbrev pub names_of_rows : {H P T : Type 0} {g : Ghosts H} → Rows H P T g → List ℕ
names_of_rows rows = rows.identity.name ∷ rows.family.number ∷ map (λ c. c.1.1) rows.cells

abbrev pub family_of : {H P T : Type 0} {g : Ghosts H} → Rows H P T g → ℕ
family_of rows = rows.family.number

abbrev pub IsRowNote : List ℕ → ℕ → List (Ptr × ℕ) → Note (List (Ptr × ℕ)) → Type 0
IsRowNote store row chunks note = (note.cell ≡ row_name store row) × (note.known ≡ Some chunks) × AreKin (family_in store) chunks

abbrev pub IsSeen : {H P T : Type 0} {g : Ghosts H} → Rows H P T g → ℕ → Note (List (Ptr × ℕ)) → Type 0
IsSeen rows row note =
    (note.cell ≡ row_name (names_of_rows rows) row)
    × ((chunks : List (Ptr × ℕ)) × (note.known ≡ Some chunks) × IsRowIn (names_of_rows rows) row chunks)

abbrev pub ShowsRow : {H P T : Type 0} {g : Ghosts H} → Rows H P T g → ℕ → Note (List (Ptr × ℕ)) → RowToken → Type 0
ShowsRow rows row note known = (known.store ≡ names_of_rows rows) × (known.row ≡ row) × (note.known ≡ Some known.chunks)
