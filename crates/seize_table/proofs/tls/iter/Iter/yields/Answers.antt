use Rattle.seize_table.proofs.Walks.{in_order}
use Rattle.seize_table.proofs.tls.iter.Iter.yields.Goals as goal

pub returns : goal.returns
returns g c = in_order c.args.self.now
