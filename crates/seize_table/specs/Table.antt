-- What is known of a table: which cells its entries are, and what a token shows of one.
--     entry_number b e       the number whose place is entry e of bucket b
--     IsCell note e c        the bucket that the note knows has the cell c at entry e
--     IsItem label i x       what i shows of a cell is that it holds the value x, which has that label
--     ShowsEntry label bs t f x   the token f shows that the entry of t holds x, in the table of the buckets bs
--     IsOf label bs t f      the token f shows some value there
use Rattle.std.specs.Prelude.{◌≡◌, ℕ, ◌+◌, ◌-◌, ◌^◌, List, slice_get}
use Rattle.std.specs.declared.option.Option.TheVariants.{Some}
use Rattle.std.specs.declared.alloc.Global.{Global}
use Rattle.std.specs.declared.vec.Vec.{Vec}
use Rattle.once_cell.specs.declared.race.note.Note.{Note}
use Rattle.seize_table.specs.declared.thread_id.Thread.{Thread}
use Rattle.seize_table.specs.declared.tls.cells.Item.{Item}
use Rattle.seize_table.specs.declared.tls.filled.Filled.{Filled}

abbrev pub entry_number : ℕ → ℕ → ℕ
entry_number bucket entry = 2 ^ (bucket + 5) + entry - 32

abbrev pub Cell : Type 0
Cell = Global × ℕ

abbrev pub Row : Type 0
Row = Vec Cell Global

-- bucket b is the cell of this name
abbrev pub IsBucket : List Cell → ℕ → ℕ → Type 0
IsBucket buckets bucket name = (cell : Cell) × (slice_get buckets bucket ≡ Some cell) × (name ≡ cell.1)

-- the cell has the value's label and its name, which means the value
pub record IsItem {T : Type 0} (label : T → ℕ) (item : Item T) (value : T) : Type 0 where
  pub known : item.note.known ≡ Some (Some (label value, item.meaning.name))
  pub meant : item.meaning.value ≡ value

abbrev pub IsCell : Note Row → ℕ → Cell → Type 0
IsCell note entry cell = (row : Row) × (note.known ≡ Some row) × (slice_get row.items entry ≡ Some cell)

pub record ShowsEntry {T : Type 0} (label : T → ℕ) (buckets : List Cell) (thread : Thread) (filled : Filled T) (value : T) : Type 0 where
  pub bucket_is : IsBucket buckets thread.bucket filled.row.cell
  pub entry_is : (cell : Cell) × IsCell filled.row thread.entry cell × (filled.item.note.cell ≡ cell.1)
  pub value_is : IsItem label filled.item value

-- the token is of that entry
abbrev pub IsOf : {T : Type 0} → (T → ℕ) → List Cell → Thread → Filled T → Type 0
IsOf {T} label buckets thread filled = (value : T) × ShowsEntry label buckets thread filled value

-- what shows the value of a cell shows that entry e of the row holds x
abbrev pub HasCell : {T : Type 0} → (T → ℕ) → List Cell → ℕ → Item T → T → Type 0
HasCell label items entry item value =
    (cell : Cell) × (slice_get items entry ≡ Some cell) × (item.note.cell ≡ cell.1) × IsItem label item value
