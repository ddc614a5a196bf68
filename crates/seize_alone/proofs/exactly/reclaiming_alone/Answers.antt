use Rattle.seize_alone.proofs.Below.{same_below}
use Rattle.seize_alone.proofs.Forgotten.{all_gone_held}
use Rattle.seize_alone.proofs.Orderly.{orderly_held}
use Rattle.seize_alone.proofs.Reclaiming.{reclaims_in_turn}
use Rattle.seize_alone.proofs.exactly.reclaiming_alone.Goals as goal

pub returns : goal.returns
returns g c = record {
  reclaim_all = reclaims_in_turn;
  below = same_below;
  orderly = orderly_held g.row.T.coded.code;
  all_gone = all_gone_held g.row.T.coded.code;
}
