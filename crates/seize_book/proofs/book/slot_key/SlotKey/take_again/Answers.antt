use Rattle.std.proofs.Common.{subst}
use Rattle.seize_book.specs.Book.{after}
use Rattle.seize_book.specs.Others.{IsLeast}
use Rattle.seize_book.specs.Private.{key_of, own_of}
use Rattle.seize_book.specs.Tokens.{Name, start}
use Rattle.seize_book.proofs.Gives.{may_take, takes_old}
use Rattle.seize_book.proofs.Numbers.{numbers_grow, takes_again, turned}
use Rattle.seize_book.proofs.book.slot_key.SlotKey.take_again.Goals as goal

pub add_with-requires-clause-may : goal.add_with-requires-clause-may
add_with-requires-clause-may c =
    let key = c.args.self.now in let a = key.keys.held in let b = c.args.numbers.now in let pass = c.args.pass.now in let n : Name = pass.name in
    let least = subst (λ (m : Name). IsLeast (key_of a) (after (start m) (own_of b.keys.held))) c.requires.book.1 c.requires.least in
    ((λ log before. takes_old n a b.keys.held pass.id pass.seen log key.one b.one before least), may_take n a b.keys.held pass.id pass.size pass.seen key.one b.one b.zero least)

pub returns-clause-slot : goal.returns-clause-slot
returns-clause-slot c =
    let key = c.args.self.now in let numbers = c.args.numbers.now in let pass = c.args.pass.now in let one = c.add_with in
    let t = turned key one.new.self numbers one.new.other pass one.new.pass _ c.requires.book.0 c.requires.book.1 one.ensures.knew one.ensures.noted one.ensures.other.0 in
    (takes_again key one.new.self numbers one.new.other pass c.requires.least t).2

pub returns-clause-numbers : goal.returns-clause-numbers
returns-clause-numbers c = let one = c.add_with in (one.ensures.other.0, numbers_grow c.args.self.now c.args.numbers.now c.args.pass.now one.new.pass _ one.ensures.knew)

pub returns-clause-rest : goal.returns-clause-rest
returns-clause-rest c =
    let key = c.args.self.now in let numbers = c.args.numbers.now in let pass = c.args.pass.now in let one = c.add_with in
    let t = turned key one.new.self numbers one.new.other pass one.new.pass _ c.requires.book.0 c.requires.book.1 one.ensures.knew one.ensures.noted one.ensures.other.0 in
    (takes_again key one.new.self numbers one.new.other pass c.requires.least t).1

pub returns-clause-used : goal.returns-clause-used
returns-clause-used c =
    let key = c.args.self.now in let numbers = c.args.numbers.now in let pass = c.args.pass.now in let one = c.add_with in
    let t = turned key one.new.self numbers one.new.other pass one.new.pass _ c.requires.book.0 c.requires.book.1 one.ensures.knew one.ensures.noted one.ensures.other.0 in
    (takes_again key one.new.self numbers one.new.other pass c.requires.least t).0
