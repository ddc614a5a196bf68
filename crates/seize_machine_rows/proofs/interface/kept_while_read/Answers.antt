use Rattle.seize_machine_rows.proofs.Facts.{kept}
use Rattle.seize_machine_rows.proofs.interface.kept_while_read.Goals as goal

pub returns : goal.returns
returns c = kept
