use Rattle.seize_table.proofs.Places.{one_place, one_number}
use Rattle.seize_table.proofs.thread_id.places.Goals as goal

pub returns-clause-one_place : goal.returns-clause-one_place
returns-clause-one_place c = one_place

pub returns-clause-one_number : goal.returns-clause-one_number
returns-clause-one_number c = one_number
