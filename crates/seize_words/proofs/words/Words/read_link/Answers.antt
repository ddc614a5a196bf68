use Rattle.std.proofs.Common.{◌∙◌}
use Rattle.seize_words.proofs.words.Words.read_link.Goals as goal

pub returns : goal.returns
returns g c = record { sees = (c.get.result.now, (c.get.ensures.at.0 ∙ c.args.self.now.linked, c.get.ensures.at.1), c.see.ensures.sees) }
