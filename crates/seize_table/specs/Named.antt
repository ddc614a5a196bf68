-- The words in which the contracts of a table and of its walk speak.
--     cells_of t               the cells of the buckets of the table t
--     name_of t                the name of the table t: those of its buckets' cells
--     table_of w               the table that the walk w goes over
--     bucket_of w, next_entry w   the bucket and the entry from which it looks on
--     stands_at w              the number of that place: no number before it is still to come
use Rattle.std.specs.Prelude.{ℕ, List}
use denote.Bor.{Bor}
use Rattle.seize_table.specs.Filled.{names_of}
use Rattle.seize_table.specs.Table.{Cell, entry_number}
use Rattle.seize_table.specs.declared.labelled.Labelled.{Ghosts}
use Rattle.seize_table.specs.declared.tls.ThreadLocal.{ThreadLocal}
use Rattle.seize_table.specs.declared.tls.iter.Iter.{Iter}

abbrev pub cells_of : {T : Type 0} {g : Ghosts T} → ThreadLocal T g → List Cell
cells_of table = table.buckets

abbrev pub name_of : {T : Type 0} {g : Ghosts T} → ThreadLocal T g → List ℕ
name_of table = names_of table.buckets

abbrev pub table_of : {T : Type 0} {g : Ghosts T} → Iter T g → Bor (ThreadLocal T g)
table_of walk = walk.table

abbrev pub bucket_of : {T : Type 0} {g : Ghosts T} → Iter T g → ℕ
bucket_of walk = walk.bucket

abbrev pub next_entry : {T : Type 0} {g : Ghosts T} → Iter T g → ℕ
next_entry walk = walk.entry

abbrev pub stands_at : {T : Type 0} {g : Ghosts T} → Iter T g → ℕ
stands_at walk = entry_number walk.bucket walk.entry
