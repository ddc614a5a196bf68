use Rattle.std.proofs.Common.{◌<◌, arith, ◌∙◌}
use Rattle.seize_calls.specs.Slots.{its_number}
use Rattle.seize_machine.specs.declared.machine.event.Job.TheVariants.{Flush}
use Rattle.seize_parts.proofs.Given.{serves_new}
use Rattle.seize_parts.proofs.Wholly.{call_after}
use Rattle.seize_parts.proofs.Placed.{at_some, label_same, placed, some_at, still_for}
use Rattle.seize_words.specs.Joined.{words_book}
use Rattle.seize_parts.specs.Puts.{PutBy}
use Rattle.seize_parts.proofs.Steps.{put_so, puts_by}
use Rattle.seize_parts.proofs.Wholly.{held_whole, slot_flushes}
use Rattle.seize_guards.proofs.works.FlushingLockWorkReservationPassUnit.work.Goals as goal

pub flush-requires : goal.flush-requires
flush-requires g c =
    let words = c.args.self.words.now in let current = c.current.ensures in
    (omega arith, ((current.active.1, still_for words c.args.pass.now c.current.new.pass c.requires.1.1 current.active_still.0.same, tt), (current.active.2.active, serves_new g.row.T.coded.code g.R.Puts.puts (words_book words) c.args.self.ender.now c.new.result.ender.now c.new.result.ends.had c.new.ensures c.requires.1.3)))

pub returns : goal.returns
returns g c =
    let words = c.args.self.words.now in let r = c.args.r.now in let at = c.current.new.self in let current = c.current.ensures in let ready = c.current.new.pass in let is = current.follows.0.1 in
    let slot' = c.flush.new.self in let pass' = c.flush.new.pass in let flush = c.flush.ensures in let had = c.flush.new.reclaimer.ends.had in let so = put_so g.row.T.coded.code g.R.Puts.puts pass' had c.flush.ensures.serves.1 in let some : 0 < at.guards = omega (arith, current.active.0, current.follows.1) in
    let calls = slot_flushes (PutBy g.row.T.coded.code g.R.Puts.puts) pass' (puts_by g.row.T.coded.code g.R.Puts.puts pass') words at.slot ready slot' flush.of.0.0 (still_for words c.args.pass.now ready c.requires.1.1 current.active_still.0.same) c.new.result.ends.had had so c.flush.result flush.flushes in (
      (
        label_same at.slot slot' at.most flush.flushes.same ∙ current.follows.0.0,
        placed words slot' at.rest at.guards at.most flush.of.0 (some_at slot' at.rest at.guards some (flush.of.1 at.rest (at_some at.slot at.rest at.guards some is.at))) is.units is.fits,
      ),
      call_after (its_number at.slot) (its_number r.slot) Flush c.args.pass.now ready pass' current.same current.active_still.0
          (held_whole {IsPut = PutBy g.row.T.coded.code g.R.Puts.puts} calls current.active.2.active),
    )
