use Rattle.seize_machine_rows.proofs.Facts.{reached, again, tidy, values, unheld}
use Rattle.seize_machine_rows.proofs.interface.in_reached_states.Goals as goal

pub returns-clause-reached : goal.returns-clause-reached
returns-clause-reached c = reached

pub returns-clause-again : goal.returns-clause-again
returns-clause-again c = again

pub returns-clause-tidy : goal.returns-clause-tidy
returns-clause-tidy c = tidy

pub returns-clause-values : goal.returns-clause-values
returns-clause-values c = values

pub returns-clause-unheld : goal.returns-clause-unheld
returns-clause-unheld c = unheld
