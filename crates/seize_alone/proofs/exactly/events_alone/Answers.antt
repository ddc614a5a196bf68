use Rattle.seize_alone.proofs.Begins.{begins_held}
use Rattle.seize_alone.proofs.Singles.{enters_held, gives_held, guards_held, swaps_held, takes_held}
use Rattle.seize_alone.proofs.exactly.events_alone.Goals as goal

pub returns : goal.returns
returns g c = record {
  begins = begins_held g.row.T.coded.code;
  enter = enters_held g.row.T.coded;
  give = gives_held g.row.T.coded;
  take = takes_held g.row.T.coded;
  guards = guards_held g.row.T.coded;
  swap = swaps_held g.row.T.coded;
}
