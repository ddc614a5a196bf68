-- The words in which the contracts of the walks speak. Of the walk over the first entries:
--     walk_next w, walk_end w     the number of the entry that comes next, and the number before which the walk ends
--     table_by w             the name of its table
--     walk_labels w          the labels of the first entries of its table
--     IsSameWalk w u         the walks w and u go over the same entries of one table, and stand at one of them
--     GivesNext w v u             a step of the walk w yields v and leaves u: the next entry's value, or nothing at the end
-- Of the walk over the filled entries:
--     IsEntryFrom label bs n t f   entry t of the table of the buckets bs is none before n, and f is its value, as the token with it shows
--     WalksOn w f u          a step of the walk w yields f and leaves u, which has passed the entry of f; or nothing, at the end
--     ComeFrom label bs n fs      the fs are the values of entries of that table, by number, none before n and none twice
--     YieldsInOrder w        so are those that the steps of the walk w yield from here on
use Rattle.std.specs.Prelude.{◌≡◌, ℕ, ◌+◌, ◌<◌, ◌≤◌, ⊤, List, [], ◌∷◌, get_or, IfSome, IfNone}
use Rattle.std.specs.declared.option.Option.{Option}
use Rattle.std.specs.Iterator.{Yields}
use denote.Bor.{Bor}
use Rattle.seize_table.specs.declared.labelled.Labelled.{Ghosts}
use Rattle.seize_table.specs.declared.thread_id.Thread.{Thread}
use Rattle.seize_table.specs.declared.tls.filled.Loaded.{Loaded}
use Rattle.seize_table.specs.declared.tls.first.First.{First}
use Rattle.seize_table.specs.declared.tls.iter.Iter.{Iter}
use Rattle.seize_table.specs.Named.{cells_of, stands_at, table_of}
use Rattle.seize_table.specs.Place.{all_numbers}
use Rattle.seize_table.specs.Table.{Cell, ShowsEntry}

abbrev pub walk_next : {T : Type 0} {g : Ghosts T} → First T g → ℕ
walk_next walk = walk.number

abbrev pub walk_end : {T : Type 0} {g : Ghosts T} → First T g → ℕ
walk_end walk = walk.end

abbrev pub table_by : {T : Type 0} {g : Ghosts T} → First T g → List ℕ
table_by walk = walk.all.now.table

abbrev pub walk_labels : {T : Type 0} {g : Ghosts T} → First T g → List ℕ
walk_labels walk = walk.all.now.labels

abbrev pub IsSameWalk : {T : Type 0} {g : Ghosts T} → First T g → First T g → Type 0
IsSameWalk one other =
    (other.table ≡ one.table) × (other.all ≡ one.all) × (walk_next other ≡ walk_next one) × (walk_end other ≡ walk_end one)

abbrev pub GivesNext : {T : Type 0} {g : Ghosts T} → First T g → Option (Bor T) → First T g → Type 0
GivesNext {g = g} before item after =
    (walk_labels after ≡ walk_labels before)
    × (walk_end after ≡ walk_end before)
    × IfSome item (λ value. (walk_next before < walk_end before) × (walk_next after ≡ walk_next before + 1)
    × (g.label value.now ≡ get_or (walk_labels before) (walk_next before) 0))
    × IfNone item ((walk_next before ≡ walk_end before) × (walk_next after ≡ walk_next before))

abbrev pub IsEntryFrom : {T : Type 0} → (T → ℕ) → List Cell → ℕ → Thread → Loaded T → Type 0
IsEntryFrom label buckets from thread found = (from ≤ thread.id) × ShowsEntry label buckets thread found.filled found.value.now

abbrev pub WalksOn : {T : Type 0} {g : Ghosts T} → Iter T g → Option (Loaded T) → Iter T g → Type 0
WalksOn {g = g} before item after =
    (table_of after ≡ table_of before)
    × (stands_at before ≤ stands_at after)
    × (stands_at after ≤ all_numbers)
    × IfSome item (λ found. (thread : Thread)
    × IsEntryFrom g.label (cells_of (table_of before).now) (stands_at before) thread found
    × (stands_at after ≡ thread.id + 1))
    × IfNone item (stands_at after ≡ all_numbers)

abbrev pub ComeFrom : {T : Type 0} → (T → ℕ) → List Cell → ℕ → List (Loaded T) → Type 0
ComeFrom label buckets from [] = ⊤
ComeFrom label buckets from (found ∷ more) =
    (thread : Thread) × IsEntryFrom label buckets from thread found × ComeFrom label buckets (thread.id + 1) more

abbrev pub YieldsInOrder : {T : Type 0} {g : Ghosts T} → Iter T g → Type 0
YieldsInOrder {T} {g} walk = (found : List (Loaded T)) (after : Iter T g) → Yields WalksOn walk found after
    → ComeFrom g.label (cells_of (table_of walk).now) (stands_at walk) found
