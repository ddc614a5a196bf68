use Rattle.std.proofs.Common.{Bool, sym, subst}
use Rattle.seize_machine.specs.Machine.Event.{SwapOut}
use Rattle.seize_words.specs.Reservations.{IsOut, WalksFrom, beginning}
use Rattle.seize_book.specs.Slots.{AddsDeed, slot_number}
use Rattle.seize_calls.specs.Calls.{life_when}
use Rattle.seize_calls.proofs.holder.swap_out.Goals as goal

pub returns-then-way-clause-noted : goal.returns-then-way-clause-noted
returns-then-way-clause-noted c =
    let key = c.args.key.now in let pass = c.args.pass.now in let one = c.refresh in
    subst (λ (b : Bool). AddsDeed key pass one.new.key one.new.pass (beginning pass (life_when b one.new.activation.life) (SwapOut (slot_number key)))) (sym c.if-way.true) one.ensures.noted

pub returns-then-way-clause-walks : goal.returns-then-way-clause-walks
returns-then-way-clause-walks c = subst (λ (b : Bool). (out : IsOut c.args.key.now b) → WalksFrom c.args.way.head.now c.refresh.new.key c.refresh.result out.0) (sym c.if-way.true) c.refresh.ensures.walks

pub returns-else-way-clause-noted : goal.returns-else-way-clause-noted
returns-else-way-clause-noted c =
    let key = c.args.key.now in let pass = c.args.pass.now in let one = c.leave in
    subst (λ (b : Bool). AddsDeed key pass one.new.key one.new.pass (beginning pass (life_when b one.new.activation.life) (SwapOut (slot_number key)))) (sym c.if-way.false) one.ensures.noted

pub returns-else-way-clause-walks : goal.returns-else-way-clause-walks
returns-else-way-clause-walks c = subst (λ (b : Bool). (out : IsOut c.args.key.now b) → WalksFrom c.args.way.head.now c.leave.new.key c.leave.result out.0) (sym c.if-way.false) c.leave.ensures.walks
