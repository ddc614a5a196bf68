-- The words in which contracts speak of notes of blocks.
--     note_code note            the code of a note: its parts, one after the other
--     IsNoted note key          this is noted of the block of the key's value
use Rattle.std.specs.Prelude.{◌≡◌}
use base.Stored.{Gv, gnil, gnum, gcons}
use Rattle.seize_book.specs.Notes.{note_in}
use Rattle.seize_book.specs.declared.book.value_key.ValueKey.{ValueKey}
use Rattle.seize_words.specs.declared.note.Note.{Note}

abbrev pub note_code : Note → Gv
note_code note = gcons (gnum note.next) (gcons (gnum note.slot) (gcons (gnum note.kept) gnil))

abbrev pub IsNoted : Note → ValueKey → Type 0
IsNoted note key = note_code note ≡ note_in key
