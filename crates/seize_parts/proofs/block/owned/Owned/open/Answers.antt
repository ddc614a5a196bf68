use Rattle.std.proofs.Common.{◌≡◌, ℕ, sym, ap, ◌∙◌}
use Rattle.seize_store.specs.RowTokens.{entry_of, label_in}
use Rattle.seize_store.specs.Named.{bare_number}
use Rattle.seize_store.specs.Titled.{title_label}
use Rattle.seize_store.specs.declared.row_token.Title.{Title}
use Rattle.seize_book.specs.Bare.{bare_cell, bare_home}
use Rattle.seize_book.specs.Tokens.{chunk_label}
use Rattle.seize_parts.proofs.Chunks.{label_family}
use Rattle.seize_parts.proofs.block.owned.Owned.open.Goals as goal

-- the owner's part has the label of its chunk
pub agree-requires : goal.agree-requires
agree-requires g c =
    let part = c.split-part.result.0 in let block = c.split-part.result.1 in let known = c.known-known.result.now in let number : ℕ = bare_number block in
    let label : chunk_label part.book.name (bare_home part.key) (bare_cell part.key) ≡ label_in known.chunks (entry_of number)
    = c.split-part.ensures.label ∙ (ap title_label (sym c.split-part.ensures.block.1) ∙ c.known-known.ensures.label) in
    let store = c.known-known.ensures.row.0 ∙ (ap (λ (t : Title). t.known.store) c.split-part.ensures.block.1 ∙ c.requires.store) in
    sym (label_family c.args.blocks.now known number part.book.name (bare_home part.key) (bare_cell part.key) c.known-known.ensures.row.1 store label)
