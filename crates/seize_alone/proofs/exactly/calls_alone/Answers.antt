use Rattle.seize_alone.proofs.Held.{flushes_held, gathers_held, leaves_held, parts_held, refreshes_held, retires_held, takes_full_held}
use Rattle.seize_alone.proofs.Outlines.{outline_stays}
use Rattle.seize_alone.proofs.Sizes.{size_stays}
use Rattle.seize_alone.proofs.exactly.calls_alone.Goals as goal

pub returns : goal.returns
returns g c = record {
  retire = retires_held g.row.T.coded;
  flush = flushes_held g.row.T.coded;
  part = parts_held g.row.T.coded;
  leave = leaves_held g.row.T.coded;
  take = takes_full_held g.row.T.coded;
  gather = gathers_held g.row.T.coded;
  refresh = refreshes_held g.row.T.coded;
  size = size_stays;
  outline = outline_stays;
}
