use Rattle.std.proofs.Common.{ℕ, max, lit<, refl, subst, sym, ◌∙◌}
use Rattle.seize_machine.specs.Machine.Event.{Put}
use Rattle.seize_book.specs.Adding.{private}
use Rattle.seize_book.specs.Others.{value_of}
use Rattle.seize_book.specs.Slots.{slot_number}
use Rattle.seize_words.proofs.Facts.{knows_noted}
use Rattle.seize_calls.specs.Furthers.{further_in}
use Rattle.seize_calls.specs.Settling.{Settles, call_state}
use Rattle.seize_calls.proofs.Holders.{under_way}
use Rattle.seize_calls.proofs.Laid.{lays_deed, lays_twice}
use Rattle.seize_calls.proofs.Onwards.{is_put, may_put, put_from, put_keys}
use Rattle.seize_calls.proofs.Sole.{may_same}
use Rattle.seize_calls.proofs.holder.Holder.put.Goals as goal

pub put-requires-clause-next : goal.put-requires-clause-next
put-requires-clause-next g c = may_put c.args.self.now.key (value_of c.args.newcomer.value) (further_in c.args.queue.now) c.requires.stands.1

pub put-requires-clause-book : goal.put-requires-clause-book
put-requires-clause-book g c = c.requires.stands.0.holds.keyed.its

pub push-requires : goal.push-requires
push-requires g c = let is = c.requires.stands.0.holds in (lit< tt, (is.batch.0 ∙ sym is.keyed.of.0, c.requires.value.0 ∙ sym is.keyed.of.0))

pub settle-requires : goal.settle-requires
settle-requires g c =
    let s = c.args.self.now in let pass = c.args.pass.now in let queue = c.args.queue.now in let had = g.R.Reclaim.had c.args.reclaimer.now in let v = value_of c.args.newcomer.value in let two = c.put.new in let is = c.requires.stands.0 in
    let puts = is_put s.key two.self pass two.pass v (further_in queue) c.requires.stands.1 c.put.ensures.noted in let to = call_state (record s { key = two.self; batch = c.push.new.self }) two.pass queue had in (
      lit< tt,
      (
        (
          under_way c.args.words.now s _ queue queue pass two.pass is puts.on (knows_noted s.key two.self pass two.pass (private pass (Put (slot_number s.key))) c.put.ensures.noted)
              (put_keys (call_state s pass queue had) to v c.args.newcomer.kept puts c.push.ensures refl (is.holds.batch, is.queue_is.0, is.queue_is.1) c.requires.value.1) is.holds.spots,
          put_from s.key two.self pass two.pass v (further_in queue) c.requires.stands.1 c.put.ensures.noted c.args.words.now.size is.holds.keyed.of.1,
        ),
        (c.requires.serves.0, may_same (g.M.Manner.may c.args.manner.now) pass two.pass puts.on.same c.requires.serves.1),
      ),
    )

pub returns-clause-drains_one : goal.returns-clause-drains_one
returns-clause-drains_one g c =
    let s = c.args.self.now in let queue = c.args.queue.now in let had = g.R.Reclaim.had in let two = c.put.new in let end = c.settle.new in let full = call_state (record s { key = two.self; batch = c.push.new.self }) two.pass queue (had c.args.reclaimer.now) in
    record {
      full = full;
      puts = is_put s.key two.self c.args.pass.now two.pass (value_of c.args.newcomer.value) (further_in queue) c.requires.stands.1 c.put.ensures.noted;
      pushed = c.push.ensures;
      same = (refl, refl);
      settles = subst (λ (size : ℕ). Settles (max 1 size) full (call_state end.self end.pass end.queue (had end.reclaimer)) c.settle.result) c.requires.stands.0.holds.keyed.of.1 c.settle.ensures.settles;
    }

pub returns-clause-laid : goal.returns-clause-laid
returns-clause-laid g c =
    let s = c.args.self.now in let pass = c.args.pass.now in let two = c.put.new in let end = c.settle.new in
    lays_twice pass two.pass end.pass s.spots s.spots end.self.spots (lays_deed s.key two.self pass two.pass (private pass (Put (slot_number s.key))) s.spots c.put.ensures.noted (λ answer. refl)) c.settle.ensures.laid
