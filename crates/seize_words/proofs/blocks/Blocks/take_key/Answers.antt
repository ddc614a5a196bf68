use Rattle.std.proofs.Common.{◌≡◌, ℕ, sym, ap, ◌∙◌}
use Rattle.seize_store.specs.RowTokens.{entry_of, family_in, label_in}
use Rattle.seize_store.specs.Named.{bare_number}
use Rattle.seize_store.specs.Titled.{title_label}
use Rattle.seize_store.specs.declared.row_token.Title.{Title}
use Rattle.seize_table.specs.Pairs.{left_of, pair}
use Rattle.seize_table.proofs.Pairs.{left_pair}
use Rattle.seize_book.specs.Bare.{bare_cell, bare_home}
use Rattle.seize_book.specs.Tokens.{chunk_label}
use Rattle.seize_words.proofs.Chunked.{label_kin}
use Rattle.seize_words.proofs.blocks.Blocks.take_key.Goals as goal

-- the part has the label of its chunk, which is of the store's family, and so of the book's
pub agree-requires : goal.agree-requires
agree-requires g c =
    let part = c.split-part.result.0 in let block = c.split-part.result.1 in let known = c.known-known.result.now in let number : ℕ = bare_number block in
    let label : chunk_label part.book.name (bare_home part.key) (bare_cell part.key) ≡ label_in known.chunks (entry_of number) = c.split-part.ensures.label ∙ (ap title_label (sym c.split-part.ensures.block.1) ∙ c.known-known.ensures.label) in
    let store = c.known-known.ensures.row.0 ∙ (ap (λ (t : Title). t.known.store) c.split-part.ensures.block.1 ∙ (sym c.requires ∙ c.args.self.now.stands)) in
    sym (sym (left_pair part.book.name.family (pair (bare_home part.key) (bare_cell part.key)))
    ∙ (ap left_of label ∙ (label_kin known number c.known-known.ensures.row.1 ∙ (ap family_in store ∙ c.args.self.now.kin))))
