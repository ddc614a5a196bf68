use Rattle.std.proofs.Common.{◌≡◌, ℕ, sym, ap, subst, ◌∙◌}
use Rattle.seize_store.specs.RowTokens.{entry_of, label_in}
use Rattle.seize_store.specs.Named.{IsRowOf}
use Rattle.seize_book.specs.Homes.{home_of}
use Rattle.seize_book.specs.Notes.{cell_in}
use Rattle.seize_book.specs.Others.{book_of, value_of}
use Rattle.seize_book.specs.Tokens.{chunk_label}
use Rattle.seize_words.specs.Counts.{home}
use Rattle.seize_words.proofs.Chunked.{label, number_fits, same_cell}
use Rattle.seize_words.proofs.blocks.Blocks.cell.Goals as goal

-- the chunk's label says the cell of the key's value
pub returns : goal.returns
returns g c =
    let key = c.args.key.now in let v = value_of key in let header = c.header-header.result.now in let known = c.row-row.result in
    let there = ap (λ (k : ℕ). label_in known.chunks (entry_of k)) (sym c.requires.number) ∙ c.row-row.ensures.row.2 in
    let its : label header ≡ chunk_label (book_of key) (home_of v) (cell_in key) = ap label c.header-header.ensures ∙ c.place-place.ensures.label ∙ there in
    record {
      cell = same_cell header.book.name (book_of key) (home header.count) header.note.name (home_of v) (cell_in key) its;
      fits = number_fits known c.args.number (subst (IsRowOf known) c.requires.number c.row-row.ensures.row.1);
    }
