use Rattle.seize_machine.proofs.Facts.{one_more, joined, taken_apart, first_event}
use Rattle.seize_machine.proofs.Words.{run_legally}
use Rattle.seize_machine.proofs.machine.legal_lists.Goals as goal

pub returns-clause-one_more : goal.returns-clause-one_more
returns-clause-one_more c = one_more

pub returns-clause-joined : goal.returns-clause-joined
returns-clause-joined c = joined

pub returns-clause-taken_apart : goal.returns-clause-taken_apart
returns-clause-taken_apart c = taken_apart

pub returns-clause-first_event : goal.returns-clause-first_event
returns-clause-first_event c = first_event

pub returns-clause-of_runs : goal.returns-clause-of_runs
returns-clause-of_runs c = run_legally
