use Rattle.seize_machine_rows.proofs.Facts.{handed_once, beginning_is, obeys}
use Rattle.seize_machine_rows.proofs.interface.of_legal_lists.Goals as goal

pub returns-clause-handed_once : goal.returns-clause-handed_once
returns-clause-handed_once c = handed_once

pub returns-clause-beginning : goal.returns-clause-beginning
returns-clause-beginning c = beginning_is

pub returns-clause-obeys : goal.returns-clause-obeys
returns-clause-obeys c = obeys
