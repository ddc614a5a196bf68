use Rattle.std.proofs.Common.{subst}
use Rattle.seize.specs.Reclaims.{ReclaimsAll}
use Rattle.seize.proofs.Facts.{reclaimed_then}
use Rattle.seize_uses.proofs.reclaiming.reclaim.Goals as goal

-- what was retired in what the collector learned is reclaimed
pub returns : goal.returns
returns c so v q retired =
    let c' = c.learn.new.self in let c'' = c.reclaim_all.new.self in
    reclaimed_then c.args.known.now c.args.collector.now c' c'' v q c.requires.book c.learn.ensures (subst (ReclaimsAll c' c'') so c.reclaim_all.ensures.reclaims) retired
