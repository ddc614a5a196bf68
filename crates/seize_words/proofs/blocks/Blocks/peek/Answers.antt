use Rattle.std.proofs.Common.{ℕ, sym, ap, ◌∙◌, subst, arith}
use Rattle.seize_store.specs.RowTokens.{content_in, entry_of}
use Rattle.seize_store.specs.Named.{IsRowOf}
use Rattle.seize_book.specs.Tokens.{Name}
use Rattle.seize_words.proofs.blocks.Blocks.peek.Goals as goal

-- the sight is of the content that the chunk of this number has
pub see-requires : goal.see-requires
see-requires g c =
    let known = c.row-row.result in let row = c.row-row.ensures.row in let is = c.requires.lent.1 in let carries = c.sight.ensures.sight in
    let store = row.0 ∙ (ap (λ (n : Name). n.store) c.requires.book ∙ c.args.self.now.stands) in
    (omega arith, (store, (subst (IsRowOf known) is row.1, sym carries.0 ∙ (sym row.3 ∙ ap (λ (k : ℕ). content_in known.chunks (entry_of k)) is))))
