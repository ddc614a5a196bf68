-- The words in which contracts speak of notes: what the holder of the key of a block's values writes beside the block, in the cell of its
-- chunk. Others see the value meanwhile.
--     MayOpen keys            there is one key of a block
--     OpensNote keys keys' opened token     the token of its cell is out, and says what is noted
--     MayClose, Closes        and back: what the token says then is noted
--     note_in value           what is noted of a value's block
--     cell_in value           the name of the cell
--     IsUnchanged value value'     it is the same key, and knows what it knew
--     HasNoted g value value'     it is the same key, but that g is noted of its block
use Rattle.std.specs.Prelude.{◌≡◌, ℕ, true, List, [], ◌∷◌}
use base.Stored.{Gv}
use Rattle.seize_content.specs.declared.token_cell.CellToken.{CellToken}
use Rattle.seize_book.specs.Book.{blocks}
use Rattle.seize_book.specs.Entry.{Entry}
use Rattle.seize_book.specs.Ledger.{HeldKey}
use Rattle.seize_book.specs.Loans.{cell_of}
use Rattle.seize_book.specs.Others.{value_of}
use Rattle.seize_book.specs.Private.{is_one, label_of, note_of}
use Rattle.seize_book.specs.declared.book.keys.Keys.{Keys}
use Rattle.seize_book.specs.declared.book.key_without_note.KeyWithoutNote.{KeyWithoutNote}
use Rattle.seize_book.specs.declared.book.value_key.ValueKey.{ValueKey}

abbrev pub with_note : Gv → List (HeldKey Entry) → List (HeldKey Entry)
with_note g [] = []
with_note g (h ∷ held) = record { kind = h.kind; key = h.key; own = h.own; label = h.label; note = g } ∷ held

abbrev pub MayOpen : Keys → Type 0
MayOpen keys = is_one blocks keys.held ≡ true

abbrev pub OpensNote : Keys → Keys → KeyWithoutNote → CellToken → Type 0
OpensNote keys keys' opened token =
    (keys'.name ≡ keys.name) × (keys'.held ≡ []) × (opened.name ≡ keys.name) × (opened.held ≡ keys.held)
    × (token.name ≡ cell_of (label_of keys.held)) × (token.value ≡ note_of keys.held)

abbrev pub MayClose : KeyWithoutNote → CellToken → Type 0
MayClose opened token = (is_one blocks opened.held ≡ true) × (token.name ≡ cell_of (label_of opened.held))

abbrev pub Closes : KeyWithoutNote → CellToken → Keys → Type 0
Closes opened token keys = (keys.name ≡ opened.name) × (keys.held ≡ with_note token.value opened.held)

abbrev pub note_in : ValueKey → Gv
note_in value = note_of value.keys.held

abbrev pub cell_in : ValueKey → ℕ
cell_in value = cell_of (value_of value)

abbrev pub IsUnchanged : ValueKey → ValueKey → Type 0
IsUnchanged value value' = (value'.keys.name ≡ value.keys.name) × (value'.keys.held ≡ value.keys.held)

abbrev pub HasNoted : Gv → ValueKey → ValueKey → Type 0
HasNoted g value value' = (value'.keys.name ≡ value.keys.name) × (value'.keys.held ≡ with_note g value.keys.held)
