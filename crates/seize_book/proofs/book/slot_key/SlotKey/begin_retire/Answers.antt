use Rattle.std.proofs.Common.{◌≡◌, refl, subst, true, arith}
use Rattle.seize_machine.specs.Machine.State.{slot_at, is_idle}
use Rattle.seize_book.specs.Book.{after}
use Rattle.seize_book.specs.Others.{MayBegin}
use Rattle.seize_book.specs.Private.{key_of, label_of, own_of}
use Rattle.seize_book.specs.Tokens.{Name, start}
use Rattle.seize_book.proofs.Retires.{last, may_retire, spent}
use Rattle.seize_book.proofs.book.slot_key.SlotKey.begin_retire.Goals as goal

pub add_with-requires-clause-may : goal.add_with-requires-clause-may
add_with-requires-clause-may c =
    let a = c.args.self.now.keys.held in let b = c.args.value.now.keys.held in let pass = c.args.pass.now in
    let idle = subst (λ (n : Name). is_idle (slot_at (after (start n) (own_of a)) (key_of a)) ≡ true) c.requires.book.0 c.requires.idle in
    let may = subst (λ (n : Name). MayBegin (label_of b) (after (start n) (own_of b))) c.requires.book.1 c.requires.value in
    ((λ log before. refl), may_retire pass.name pass.id pass.size _ pass.seen a b c.args.self.now.one c.args.value.now.one c.args.value.now.home idle may (omega arith))

pub returns-clause-spent : goal.returns-clause-spent
returns-clause-spent c =
    let value = c.args.value.now in let told = c.add_with.ensures in
    spent c.args.pass.now c.add_with.new.pass.seen value.keys c.add_with.new.other (key_of c.args.self.now.keys.held) _ told.noted.2.0 value.one c.requires.book.1 told.other.0.0 told.other.0.1

pub returns-clause-last : goal.returns-clause-last
returns-clause-last c =
    let value = c.args.value.now in let told = c.add_with.ensures in let s = key_of c.args.self.now.keys.held in
    let cannot = spent c.args.pass.now c.add_with.new.pass.seen value.keys c.add_with.new.other s _ told.noted.2.0 value.one c.requires.book.1 told.other.0.0 told.other.0.1 in
    last c.args.pass.now c.add_with.new.pass.seen value c.add_with.new.other s _ told.noted.2.0 c.requires.book.1 cannot told.other.0.0 told.other.0.1
