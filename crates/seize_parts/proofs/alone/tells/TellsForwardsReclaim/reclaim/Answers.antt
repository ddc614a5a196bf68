use Rattle.std.proofs.Common.{refl}
use Rattle.seize_parts.proofs.Watched.{told_more}
use Rattle.seize_parts.proofs.alone.tells.TellsForwardsReclaim.reclaim.Goals as goal

pub returns-clause-serves : goal.returns-clause-serves
returns-clause-serves g c =
    let before = c.requires.serves in let reclaim = c.reclaim.ensures in let W = g.W.Watch in (
      reclaim.serves.0,
      reclaim.serves.1,
      told_more W.coded g.row.T.coded.code W.told g.B.Begun.first (W.seen c.args.self.now.watch.now) (W.seen c.gone.new.self) _ _ c.args.value _ before.2 c.gone.ensures refl reclaim.had,
      before.3,
    )
