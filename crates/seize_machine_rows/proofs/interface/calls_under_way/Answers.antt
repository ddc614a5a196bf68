use Rattle.seize_machine_rows.proofs.UnderWay.{under_way, once}
use Rattle.seize_machine_rows.proofs.interface.calls_under_way.Goals as goal

pub returns-clause-steps : goal.returns-clause-steps
returns-clause-steps c = under_way

pub returns-clause-once : goal.returns-clause-once
returns-clause-once c = once
