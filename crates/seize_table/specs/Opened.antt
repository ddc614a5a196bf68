-- The words in which the contracts of an opened bucket speak.
--     bucket_by o, name_by o     which bucket of its table o is, and the name of its cell
use Rattle.std.specs.Prelude.{ℕ}
use Rattle.seize_table.specs.declared.labelled.Labelled.{Ghosts}
use Rattle.seize_table.specs.declared.tls.opened.Opened.{Opened}

abbrev pub bucket_by : {T : Type 0} {g : Ghosts T} → Opened T g → ℕ
bucket_by opened = opened.bucket

abbrev pub name_by : {T : Type 0} {g : Ghosts T} → Opened T g → ℕ
name_by opened = opened.note.cell
