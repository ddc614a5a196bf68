use Rattle.std.proofs.Common.{Bool, sym, subst}
use Rattle.seize_machine.specs.Machine.Event.{Begin}
use Rattle.seize_book.specs.Slots.{AddsEvent, slot_number}
use Rattle.seize_calls.specs.Calls.{job_of}
use Rattle.seize_calls.proofs.holder.begin_out.Goals as goal

pub returns-then-stays : goal.returns-then-stays
returns-then-stays c = record { noted = subst (λ (b : Bool). AddsEvent c.args.key.now c.args.pass.now c.begin_refresh.new.self c.begin_refresh.new.pass (Begin (slot_number c.args.key.now) (job_of b))) (sym c.if-stays.true) c.begin_refresh.ensures.noted }

pub returns-else-stays : goal.returns-else-stays
returns-else-stays c = record { noted = subst (λ (b : Bool). AddsEvent c.args.key.now c.args.pass.now c.begin_leave.new.self c.begin_leave.new.pass (Begin (slot_number c.args.key.now) (job_of b))) (sym c.if-stays.false) c.begin_leave.ensures.noted }
