use Rattle.std.proofs.Common.{refl}
use Rattle.seize_machine.specs.Machine.Event.{Return}
use Rattle.seize_book.specs.Adding.{private}
use Rattle.seize_book.specs.Slots.{slot_number}
use Rattle.seize_words.proofs.Facts.{knows_noted}
use Rattle.seize_calls.specs.Furthers.{further_in}
use Rattle.seize_calls.specs.Settling.{call_state}
use Rattle.seize_calls.proofs.Events.{call_returned, keeps_returned}
use Rattle.seize_calls.proofs.Holders.{holds_on}
use Rattle.seize_calls.proofs.Laid.{lays_deed, lays_twice}
use Rattle.seize_calls.proofs.Whole.{is_over, returned}
use Rattle.seize_calls.proofs.holder.Holder.finish.Goals as goal

pub finish-requires-clause-over : goal.finish-requires-clause-over
finish-requires-clause-over g c = let over = c.drain.ensures.drains in is_over c.drain.new.self.key (further_in c.drain.new.queue) over.rests over.none

pub finish-requires-clause-book : goal.finish-requires-clause-book
finish-requires-clause-book g c = c.drain.ensures.stands.0.holds.keyed.its

pub returns-clause-holder : goal.returns-clause-holder
returns-clause-holder g c =
    let d = c.drain.new.self in let pass = c.drain.new.pass in let last = c.finish in let holds = c.drain.ensures.stands.0.holds in (
      holds_on c.args.words.now d pass holds last.new.self d.spots last.new.pass (keeps_returned d.key last.new.self pass last.new.pass last.ensures.noted)
          (knows_noted d.key last.new.self pass last.new.pass (private pass (Return (slot_number d.key))) last.ensures.noted) holds.spots,
      c.drain.ensures.stands.1,
    )

pub returns-clause-laid : goal.returns-clause-laid
returns-clause-laid g c =
    let d = c.drain.new.self in let pass = c.drain.new.pass in let last = c.finish in
    lays_twice c.args.pass.now pass last.new.pass c.args.self.now.spots d.spots d.spots c.drain.ensures.laid (lays_deed d.key last.new.self pass last.new.pass (private pass (Return (slot_number d.key))) d.spots last.ensures.noted (λ answer. refl))

pub returns-clause-ends : goal.returns-clause-ends
returns-clause-ends g c =
    let d = call_state c.drain.new.self c.drain.new.pass c.drain.new.queue (g.R.Reclaim.had c.drain.new.reclaimer) in let last = c.finish in
    record {
      drained = d;
      drains = c.drain.ensures.drains;
      returns = returned d last.new.self last.new.pass last.ensures.noted c.drain.ensures.drains.none;
      call = call_returned d.key last.new.self d.pass last.new.pass last.ensures.noted;
      sees = last.ensures.noted.1.2;
    }
