use Rattle.seize_machine_rows.proofs.Facts.{unmoved, answered}
use Rattle.seize_machine_rows.proofs.interface.beside_other_events.Goals as goal

pub returns-clause-unmoved : goal.returns-clause-unmoved
returns-clause-unmoved c = unmoved

pub returns-clause-answered : goal.returns-clause-answered
returns-clause-answered c = answered
