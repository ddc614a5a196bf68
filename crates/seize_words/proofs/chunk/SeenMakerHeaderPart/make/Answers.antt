use Rattle.std.proofs.Common.{ap, ◌∙◌}
use Rattle.seize_table.specs.Pairs.{pair}
use Rattle.seize_table.proofs.Pairs.{left_pair}
use Rattle.seize_words.specs.Counts.{home}
use Rattle.seize_book.specs.Tokens.{Name}
use Rattle.seize_words.proofs.chunk.SeenMakerHeaderPart.make.Goals as goal

-- src/chunk.rt:52:5
pub returns-clause-kin : goal.returns-clause-kin
returns-clause-kin c = left_pair c.again.result.name.family (pair (home c.new-2.result) c.new-note.result.0.name) ∙ ap (λ (n : Name). n.family) c.again.ensures.0
