use Rattle.seize.proofs.Facts.{content_once}
use Rattle.seize.specs.Takens.{taken_content, taken_name}
use Rattle.seize.proofs.block.taken.Taken.peek.Goals as goal

pub returns : goal.returns
returns g c =
    let taken = c.args.self.now in content_once g.row.T.coded (taken_name taken) c.peek.result.now (taken_content taken) c.peek.ensures.code c.requires.1
