-- The code of a note.
use Rattle.std.proofs.Common.{◌≡◌, ◌∙◌}
use Rattle.seize_book.specs.Notes.{HasNoted}
use Rattle.seize_book.specs.declared.book.value_key.ValueKey.{ValueKey}
use Rattle.seize_book.proofs.Facts.{has_noted}
use Rattle.seize_words.specs.Noted.{IsNoted, note_code}
use Rattle.seize_words.specs.declared.note.Note.{Note as Noted}
use Rattle.seize_words.specs.contracts.note.Note as Note

-- two notes of one code are one
pub same_note : (note note' : Noted) → note_code note ≡ note_code note' → note ≡ note'
same_note note note' same = Note.the_row.coded.inj note note' same

-- so what was noted is what is read
pub noted_back : (note note' : Noted) (key key' : ValueKey) → HasNoted (note_code note) key key' → IsNoted note' key' → note' ≡ note
noted_back note note' key key' put is = same_note note' note (is ∙ (has_noted (note_code note) key key' put).0)
