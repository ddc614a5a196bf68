-- What is known of a table's entries for good, free of the type of their values: so a layer that doesn't know the type can keep it.
--     names_of bs      the name of the table of the buckets bs: the names of their cells, in their order
--     name_in t b      the name of bucket b's cell in the table t
--     known_bucket c r    the cell of the name c holds the bucket r
--     known_item c l n the cell of the name c holds a value of the label l, whose own name is n
--     EntryPlace k     where entry k stands, and the name of its value
--     filled_at t k l      entry k of the table t is filled, with a value of the label l
--     all_filled t ls      the first entries of t are filled, with values of the labels ls, in their order;  all_from t k ls begins at k
use Rattle.std.specs.Prelude.{◌≡◌, ℕ, suc, List, [], ◌∷◌, map, get_or, slice_get}
use base.Fml.{Fml, ftrue, fsep, fex}
use denote.RattleType.{RattleType}
use denote.Builtin.{unit}
use Rattle.std.specs.declared.option.Option.TheVariants.{Some}
use Rattle.std.specs.contracts.alloc.Global as heap
use Rattle.std.specs.contracts.impls.GlobalAllocator.TheImpl.{ghosts}
use Rattle.std.specs.contracts.vec.Vec as vec
use Rattle.core.specs.contracts.option.Option as option
use Rattle.once_cell.specs.Once.{noted}
use Rattle.once_cell.specs.contracts.race.once_box.OnceBox as once
use Rattle.seize_table.specs.Place.{IsPlace}
use Rattle.seize_table.specs.Table.{Cell, Row}
use Rattle.seize_table.specs.contracts.labelled.UnitLabelled.TheImpl as no_label
use Rattle.seize_table.specs.contracts.tls.cells.Entry as entry

-- An entry and a bucket of values of any type are known by the same codes, so those of `()` stand for all.
abbrev pub item_row : RattleType
item_row = option.the_row (entry.the_row unit no_label.ghosts)

abbrev pub row_row : RattleType
row_row = vec.the_row (once.the_row item_row) heap.the_row ghosts

abbrev pub known_bucket : ℕ → Row → Fml
known_bucket name row = noted row_row name (Some row)

abbrev pub known_item : ℕ → ℕ → ℕ → Fml
known_item name label value = noted item_row name (Some (Some (label, value)))

abbrev pub names_of : List Cell → List ℕ
names_of buckets = map (λ c. c.1) buckets

abbrev pub name_in : List ℕ → ℕ → ℕ
name_in table bucket = get_or table bucket 0

pub record EntryPlace (number : ℕ) : Type 0 where
  pub bucket : ℕ
  pub entry : ℕ
  pub placed : IsPlace number bucket entry
  pub row : Row
  pub cell : Cell
  pub here : slice_get row.items entry ≡ Some cell
  pub value : ℕ

abbrev pub shown_by : List ℕ → (number : ℕ) → ℕ → EntryPlace number → Fml
shown_by table number label way = fsep (known_bucket (name_in table way.bucket) way.row) (known_item way.cell.1 label way.value)

abbrev pub filled_at : List ℕ → ℕ → ℕ → Fml
filled_at table number label = fex (EntryPlace number) (shown_by table number label)

abbrev pub all_from : List ℕ → ℕ → List ℕ → Fml
all_from table number [] = ftrue
all_from table number (label ∷ labels) = fsep (filled_at table number label) (all_from table (suc number) labels)

abbrev pub all_filled : List ℕ → List ℕ → Fml
all_filled table labels = all_from table 0 labels
