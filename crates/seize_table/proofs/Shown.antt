-- What reading a table shows of an entry.
use Rattle.std.proofs.Common.{◌≡◌, ℕ, ◌<◌, List, length, get_or, Some, refl, sym, ◌∙◌, ap, subst}
use Rattle.std.specs.List.{slice_get}
use Rattle.std.specs.declared.option.Option.{Option}
use Rattle.std.specs.declared.option.Option.TheVariants.{None}
use Rattle.std.proofs.lemmas.Option.{slice_get_read, get_or_from_slice_get}
use Rattle.once_cell.specs.declared.race.note.Note.{Note}
use Rattle.seize_table.specs.Table.{Cell, Row, IsBucket, IsCell}

pub is_bucket : (buckets : List Cell) (b name : ℕ) (bucket : Cell) → 59 ≡ length buckets → b < 59 → bucket ≡ get_or buckets b bucket → name ≡ (get_or buckets b bucket).1 → IsBucket buckets b name
is_bucket buckets b name bucket all in_table at is = (bucket, slice_get_read buckets 59 b bucket all in_table at, is ∙ ap (λ k. k.1) (sym at))

pub is_cell : (note : Note Row) (e : ℕ) (row : Row) (items : List Cell) (cell : Cell) → note.known ≡ Some row → items ≡ row.items → e < length items → cell ≡ get_or items e cell → IsCell note e cell
is_cell note e row items cell known same inside here = (row, known, subst (λ xs. slice_get xs e ≡ Some cell) same (slice_get_read items (length items) e cell refl inside here))

-- two names in one cell are one
pub one_name : {l m : ℕ} {n k : ℕ} {e : Option (ℕ × ℕ)} → ◌≡◌ {A = Option (ℕ × ℕ)} (Some (l, n)) e → ◌≡◌ {A = Option (ℕ × ℕ)} e (Some (m, k)) → n ≡ k
one_name p q = ap (λ (e : Option (ℕ × ℕ)). second e) (p ∙ q)
  where
    second : Option (ℕ × ℕ) → ℕ
    second None = 0
    second (Some e) = e.1

-- the cell that is read is the one that the row has there
pub is_read : (row seen : Row) (e : ℕ) (cell at : Cell) → row ≡ seen → slice_get row.items e ≡ Some cell → at ≡ get_or seen.items e at → slice_get seen.items e ≡ Some at
is_read row seen e cell at same here read =
    let there = subst (λ (r : Row). slice_get r.items e ≡ Some cell) same here in
    there ∙ ap (λ c. Some c) (sym (read ∙ get_or_from_slice_get seen.items e cell at there))
