use Rattle.std.proofs.Common.{[], inr, lit<, refl, ◌∙◌}
use Rattle.seize_machine.specs.Machine.State.{Rest}
use Rattle.seize_book.specs.Others.{value_of}
use Rattle.seize_book.specs.Values.{values_of}
use Rattle.seize_words.proofs.Facts.{first_told}
use Rattle.seize_calls.specs.Furthers.{further_in}
use Rattle.seize_calls.specs.Settling.{Drains, call_state}
use Rattle.seize_calls.proofs.Laid.{lays_same, lays_twice}
use Rattle.seize_calls.proofs.Alone.{onward_none, onward_twice}
use Rattle.seize_calls.proofs.Onwards.{round_on, settles_rest}
use Rattle.seize_calls.proofs.draining.BesideDrainer.drain_all.Goals as goal

pub loop-init : goal.loop-init
loop-init g c = (Drains.over, onward_none c.args.holder.now.key c.args.pass.now, c.requires.stands.1, c.requires.stands.0, c.requires.serves.0, lays_same c.args.pass.now c.args.pass.now c.args.holder.now.spots refl)

-- the first of the queue, with the word that the list says is kept of it
pub put-requires : goal.put-requires
put-requires g c =
    let l = c.loop in let out = c.newcomer-newcomer.ensures in let is = l.invariant.3 in let queue = further_in l.queue in let one = c.newcomer-newcomer.result in
    let told = first_told l.pass.seen queue.keys.held (further_in c.newcomer-newcomer.new.self).keys.held (value_of one.value) one.kept out.first out.its_word is.queue_is.1 in (
      lit< tt,
      (
        (record { holds = is.holds; queue_is = (out.book.1 ∙ is.queue_is.0, told.1) }, (Rest [] [], values_of queue, l.invariant.2, inr (refl, out.first))),
        ((out.book.0 ∙ is.queue_is.0, told.0), (l.invariant.4, tt)),
      ),
    )

pub loop-preserved : goal.loop-preserved
loop-preserved g c =
    let l = c.loop in let put = c.put in let out = c.newcomer-newcomer.ensures in let one = c.newcomer-newcomer.result in let v = value_of one.value in let queue = c.newcomer-newcomer.new.self in let had = g.R.Reclaim.had in
    let from = call_state l.holder l.pass queue (had l.reclaimer) in let to = call_state put.new.self put.new.pass put.new.queue (had put.new.reclaimer) in let round = put.ensures.drains_one in (
      Drains.goes_on (call_state l.holder l.pass l.queue (had l.reclaimer)) to (further_in queue) v one.kept put.result l.invariant.0 (out.book.1, out.first, out.its_word) round,
      onward_twice c.args.holder.now.key l.holder.key put.new.self.key c.args.pass.now l.pass put.new.pass l.invariant.1 (round_on from v one.kept to put.result round),
      settles_rest _ round.full to put.result round.settles,
      put.ensures.stands.0,
      put.ensures.stands.1,
      lays_twice c.args.pass.now l.pass put.new.pass c.args.holder.now.spots l.holder.spots put.new.self.spots l.invariant.5 put.ensures.laid,
    )
