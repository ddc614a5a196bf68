use Rattle.seize_book.proofs.Renames.{lent_goes, lent_cell, lent_home, lent_next}
use Rattle.seize_book.proofs.book.value_key.ValueKey.lend.Goals as goal

pub lend-requires : goal.lend-requires
lend-requires c = (c.args.self.now.one, c.requires.next.1, c.requires.lent, c.requires.place, c.requires.permit)

pub returns-clause-next : goal.returns-clause-next
returns-clause-next c =
    let value = c.args.self.now in let pool = c.args.pool in let lent = c.lend.new.self in let is = c.lend.ensures in let next = c.requires.next.0 in
    (lent_next value pool lent is next, (is.book, lent_home value pool lent is next, lent_cell value pool lent is next))

pub returns-clause-goes : goal.returns-clause-goes
returns-clause-goes c = lent_goes c.args.self.now c.args.pool c.lend.new.self c.lend.ensures c.requires.next.0
