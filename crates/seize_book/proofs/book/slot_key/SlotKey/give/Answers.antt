use Rattle.std.proofs.Common.{◌≡◌, refl, subst, true}
use Rattle.seize_book.specs.Tokens.{Name}
use Rattle.seize_book.proofs.Gives.{KnownOutside, ends_known, may_give}
use Rattle.seize_book.proofs.Numbers.{gives_back, numbers_grow, turned, was_used}
use Rattle.seize_book.proofs.book.slot_key.SlotKey.give.Goals as goal

pub add_with-requires-clause-may : goal.add_with-requires-clause-may
add_with-requires-clause-may c =
    let key = c.args.self.now in let a = key.keys.held in let b = c.args.numbers.now in let pass = c.args.pass.now in let book = c.requires.book in
    let outside = subst (λ (n : Name). KnownOutside n a) book.0 c.requires.idle in
    let ends = subst (λ (t : Name × Name). ends_known t.0 t.1 a b.keys.held ≡ true) (λ j. (book.0 j, book.1 j)) c.requires.may in
    ((λ log before. refl), may_give pass.name pass.id pass.size pass.seen a b.keys.held key.one b.one b.zero outside ends)

pub returns-clause-noted : goal.returns-clause-noted
returns-clause-noted c =
    let key = c.args.self.now in let numbers = c.args.numbers.now in let pass = c.args.pass.now in let one = c.add_with in
    let t = turned key one.new.self numbers one.new.other pass one.new.pass _ c.requires.book.0 c.requires.book.1 one.ensures.knew one.ensures.noted one.ensures.other.0 in
    (one.ensures.noted, (gives_back key one.new.self numbers one.new.other pass t).2)

pub returns-clause-numbers : goal.returns-clause-numbers
returns-clause-numbers c = let one = c.add_with in (one.ensures.other.0, numbers_grow c.args.self.now c.args.numbers.now c.args.pass.now one.new.pass _ one.ensures.knew)

pub returns-clause-was : goal.returns-clause-was
returns-clause-was c =
    let key = c.args.self.now in let numbers = c.args.numbers.now in let pass = c.args.pass.now in let one = c.add_with in
    let t = turned key one.new.self numbers one.new.other pass one.new.pass _ c.requires.book.0 c.requires.book.1 one.ensures.knew one.ensures.noted one.ensures.other.0 in
    was_used key one.new.self numbers one.new.other pass t

pub returns-clause-used : goal.returns-clause-used
returns-clause-used c =
    let key = c.args.self.now in let numbers = c.args.numbers.now in let pass = c.args.pass.now in let one = c.add_with in
    let t = turned key one.new.self numbers one.new.other pass one.new.pass _ c.requires.book.0 c.requires.book.1 one.ensures.knew one.ensures.noted one.ensures.other.0 in
    (gives_back key one.new.self numbers one.new.other pass t).0

pub returns-clause-rest : goal.returns-clause-rest
returns-clause-rest c =
    let key = c.args.self.now in let numbers = c.args.numbers.now in let pass = c.args.pass.now in let one = c.add_with in
    let t = turned key one.new.self numbers one.new.other pass one.new.pass _ c.requires.book.0 c.requires.book.1 one.ensures.knew one.ensures.noted one.ensures.other.0 in
    (gives_back key one.new.self numbers one.new.other pass t).1
