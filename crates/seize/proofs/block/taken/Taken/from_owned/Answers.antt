use Rattle.std.proofs.Common.{ℕ, subst, sym, ◌∙◌}
use Rattle.seize.proofs.Facts.{content_once}
use Rattle.seize_parts.specs.Blocks.{HasContent, content}
use Rattle.seize.specs.Takens.{taken_content, taken_name}
use Rattle.seize.proofs.block.taken.Taken.from_owned.Goals as goal

pub returns-clause-content : goal.returns-clause-content
returns-clause-content g c =
    let taken = c.of.result in let value = content c.args.owned in
    content_once g.row.T.coded (taken_name taken) (taken_content taken) value c.of.ensures.of.1
    (subst (λ (v : ℕ). HasContent g.row.T.coded.code v value) (sym (c.of.ensures.name ∙ c.new.ensures.loose.1)) c.lend-number.ensures.lent.code)
