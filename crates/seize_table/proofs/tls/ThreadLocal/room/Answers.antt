use Rattle.seize_table.proofs.Shown.{is_cell}
use Rattle.seize_table.proofs.tls.ThreadLocal.room.Goals as goal

pub returns-in-Some-clause-cell : goal.returns-in-Some-clause-cell
returns-in-Some-clause-cell g c = let at = c.in-Some.ensures.lookup in is_cell c.row.new.note _ _ _ _ c.in_ok-row.ensures.known c.deref.ensures.value at.3.0 at.1
