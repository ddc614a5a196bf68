use Rattle.std.proofs.Common.{subst}
use Rattle.seize_words.specs.Headers.{field_number}
use Rattle.seize_words.specs.Stepping.{LooksAt}
use Rattle.seize_words.specs.Words.{Site}
use Rattle.seize_book.proofs.Facts.{one_within}
use Rattle.seize_words.proofs.Uses.{is_at_field}
use Rattle.seize_words.proofs.Loads.{loaded, shows_first, shows_next}
use Rattle.seize_words.proofs.header.Field.load.Goals as goal

pub look-requires : goal.look-requires
look-requires c = let key = c.args.key.now in (c.requires.book.1, c.requires.book.0, one_within key.keys.held key.one)

pub returns-clause-told : goal.returns-clause-told
returns-clause-told c =
    let field = c.args.self.now in let key = c.args.key.now in let pass = c.args.pass.now in let pass' = c.look.new.pass in let v = c.look.result in
    let looks = subst (λ (w : Site). LooksAt w pass.id pass.seen pass'.seen key.keys.held v) (is_at_field field.word pass.name c.requires.book.1 field.field) c.look.ensures.2 in
    loaded (field_number field) key pass pass' v looks c.requires.book.0

pub returns-clause-shows : goal.returns-clause-shows
returns-clause-shows c =
    let field = c.args.self.now in let key = c.args.key.now in let pass = c.args.pass.now in let pass' = c.look.new.pass in let v = c.look.result in let f = field_number field in
    let looks = subst (λ (w : Site). LooksAt w pass.id pass.seen pass'.seen key.keys.held v) (is_at_field field.word pass.name c.requires.book.1 field.field) c.look.ensures.2 in
    (shows_next f key pass pass' v looks c.requires.book.0, shows_first f key pass pass' v looks c.requires.book.0)
