use Rattle.std.proofs.Common.{◌≡◌, sym, ◌∙◌, subst, Some, IfSome}
use Rattle.seize_table.proofs.Shown.{is_read}
use Rattle.seize_table.proofs.Entries.{some_is}
use Rattle.seize_table.proofs.tls.opened.Opened.read.Goals as goal

pub read-requires-clause-cell : goal.read-requires-clause-cell
read-requires-clause-cell g c =
    let told = c.tell_row.ensures.1.1 in
    let row = c.args.self.now.cells.now in
    let known = subst (λ k. IfSome k (λ r. c.tell_row.new.row.known ≡ Some r)) c.args.self.now.known c.tell_row.ensures.2 in
    (row, known, is_read _ _ _ _ _ (some_is (sym told.1 ∙ known)) told.2 c.index-cell.ensures)
