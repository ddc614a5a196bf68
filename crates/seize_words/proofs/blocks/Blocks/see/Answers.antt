use Rattle.std.proofs.Common.{ℕ, Option, sym, ap, ◌∙◌, subst, arith}
use Rattle.seize_book.specs.Tokens.{Name}
use Rattle.seize_words.specs.Glimpses.{SightFor}
use Rattle.seize_words.proofs.Chunked.{found_content, named_seen}
use Rattle.seize_words.proofs.blocks.Blocks.see.Goals as goal

-- the sight is of the content that the chunk of this number has
pub see-requires : goal.see-requires
see-requires g c =
    let pass = c.args.pass.now in let found = c.requires.found in let v = found.value in let sought = c.seek-known in let seen = sought.new.self in
    let content = found_content sought.result seen c.args.number sought.ensures.homes sought.ensures.row.1 v (named_seen pass seen v sought.ensures.looks found.named) found.numbered in
    let carries = subst (λ (o : Option ℕ). SightFor o c.sight.result) found.is c.sight.ensures in
    let store = sought.ensures.row.0 ∙ (ap (λ (n : Name). n.store) (sym c.requires.book) ∙ c.args.self.now.stands) in
    (omega arith, (store, (sought.ensures.row.1, sym carries.0 ∙ sym content)))
