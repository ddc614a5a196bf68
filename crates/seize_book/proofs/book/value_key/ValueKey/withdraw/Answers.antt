use Rattle.seize_book.proofs.Renames.{back_free, back_cell, back_home, back_next, back_place}
use Rattle.seize_book.proofs.book.value_key.ValueKey.withdraw.Goals as goal

pub withdraw-requires : goal.withdraw-requires
withdraw-requires c = let value = c.args.self.now in (c.requires.book, value.one, value.home, c.requires.lent, c.requires.new.0)

pub returns-clause-next : goal.returns-clause-next
returns-clause-next c =
    let value = c.args.self.now in let back = c.withdraw.new.self in let is = c.withdraw.ensures.1.0 in
    (back_next value back is c.requires.new, (is.book, back_home value back is c.requires.new, back_cell value back is c.requires.new))

pub returns-clause-free : goal.returns-clause-free
returns-clause-free c = back_free c.args.self.now c.withdraw.new.self c.withdraw.ensures.1.0 c.requires.new

pub returns-clause-place : goal.returns-clause-place
returns-clause-place c = back_place c.args.self.now c.withdraw.new.self c.withdraw.ensures.1.0 c.requires.new
