use Rattle.std.proofs.Common.{ℕ, [], sym, subst, ◌∙◌}
use Rattle.seize_book.specs.Laws.{Reader}
use Rattle.seize_book.specs.Tokens.{Name, start}
use Rattle.seize_book.specs.declared.book.pass.Pass.{Pass}
use Rattle.seize_words.specs.Lasted.{HasNotEnded}
use Rattle.seize_words.specs.declared.activation.Activation.{Activation}
use Rattle.seize_words.specs.declared.lasting.Lasting.{Lasting}
use Rattle.seize_machine.proofs.Facts.{some_is}
use Rattle.seize_book.proofs.Loans.{reader_later}
use Rattle.seize_calls.proofs.Slots.{longer_right}
use Rattle.seize_parts.specs.Makes.{MakesNone}
use Rattle.seize_parts.proofs.Made.{none_learned, none_looked, none_then}
use Rattle.seize_guards.specs.Exchanges.{Protects}
use Rattle.seize_guards.proofs.Protected.{protects}
use Rattle.seize_guards.proofs.block.shared.Shared.stands.Goals as goal

pub returns-clause-none : goal.returns-clause-none
returns-clause-none g c =
    let l : Lasting = c.args.self.now.lasting in
    subst (MakesNone c.args.pass.now) (sym c.lasts.ensures.0) (none_then (none_learned c.args.pass.now (record { marker = record {}; name = l.name; seen = l.seen }) c.tell.new.pass c.tell.ensures) (none_looked c.tell.new.pass c.slots.new.self c.slots.ensures.0))

pub returns-clause-stands : goal.returns-clause-stands
returns-clause-stands g c v k is =
    let l : Lasting = c.args.self.now.lasting in let told : Pass = c.tell.new.pass in let seen : Pass = c.slots.new.self in let same = c.lasts.ensures.0 in let looks = c.slots.ensures.0 in
    let a : Activation = record { marker = record {}; name = l.name; slot = 0; life = l.life; since = []; units = 0 } in
    let read : Reader (start c.args.pass.now.name) l.seen v l.life = c.requires.2 v is in
    let later : Reader (start seen.name) seen.seen v l.life =
    reader_later (start seen.name) told.seen seen.seen v l.life looks.grows (reader_later (start seen.name) l.seen told.seen v l.life (longer_right c.args.pass.now.seen l.seen told.seen c.tell.ensures.2)
    (subst (λ (n : Name). Reader (start n) l.seen v l.life) (sym (looks.same.0 ∙ c.tell.ensures.0.0)) read)) in
    let kept : Protects a seen = protects a told seen looks (subst (HasNotEnded l.life) same c.lasts.ensures.1) in
    subst (λ (p : Pass). Protects a p) (sym same) kept v k (λ w at. subst (λ (p : Pass). Reader (start p.name) p.seen w l.life) (sym same) (subst (λ (x : ℕ). Reader (start seen.name) seen.seen x l.life) (some_is v w at) later))
