use Rattle.std.proofs.Common.{◌<◌, arith, ◌∙◌}
use Rattle.seize_machine.specs.declared.machine.event.Job.TheVariants.{Retire}
use Rattle.seize_calls.specs.Slots.{its_number, its_value}
use Rattle.seize_parts.proofs.Given.{serves_new}
use Rattle.seize_parts.proofs.Wholly.{call_after}
use Rattle.seize_parts.proofs.OfKind.{kind_told}
use Rattle.seize_parts.proofs.Placed.{at_some, label_same, placed, some_at, still_for}
use Rattle.seize_words.specs.Joined.{words_book}
use Rattle.seize_parts.specs.Puts.{PutBy}
use Rattle.seize_parts.proofs.Steps.{put_so, puts_by}
use Rattle.seize_parts.proofs.Wholly.{held_whole, slot_retires}
use Rattle.seize_guards.proofs.works.DeferringLockWorkReservationPassUnit.work.Goals as goal

pub retire-requires : goal.retire-requires
retire-requires g c =
    let words = c.args.self.words.now in let current = c.current.ensures in
    (omega arith, ((current.active.1, still_for words c.args.pass.now c.current.new.pass c.requires.1.1 current.active_still.0.same, tt), (c.requires.1.2, serves_new g.row.T.coded.code g.R.Puts.puts (words_book words) c.args.self.ender.now c.new.result.ender.now c.new.result.ends.had c.new.ensures c.requires.1.4)))

pub returns : goal.returns
returns g c =
    let words = c.args.self.words.now in let r = c.args.r.now in let at = c.current.new.self in let current = c.current.ensures in let ready = c.current.new.pass in let is = current.follows.0.1 in
    let slot' = c.retire.new.self in let pass' = c.retire.new.pass in let retire = c.retire.ensures in let had = c.retire.new.reclaimer.ends.had in let so = put_so g.row.T.coded.code g.R.Puts.puts pass' had c.retire.ensures.serves.1 in let some : 0 < at.guards = omega (arith, current.active.0, current.follows.1) in
    let calls = slot_retires (PutBy g.row.T.coded.code g.R.Puts.puts) pass' (puts_by g.row.T.coded.code g.R.Puts.puts pass') words at.slot ready slot' retire.of.0.0 (still_for words c.args.pass.now ready c.requires.1.1 current.active_still.0.same) c.new.result.ends.had had so c.args.self.loose c.args.self.kind c.retire.result retire.retires in (
      (
        label_same at.slot slot' at.most retire.retires.same ∙ current.follows.0.0,
        placed words slot' at.rest at.guards at.most retire.of.0 (some_at slot' at.rest at.guards some (retire.of.1 at.rest (at_some at.slot at.rest at.guards some is.at))) is.units is.fits,
      ),
      (
        call_after (its_number at.slot) (its_number r.slot) (Retire (its_value c.args.self.loose)) c.args.pass.now ready pass' current.same current.active_still.0 (held_whole {IsPut = PutBy g.row.T.coded.code g.R.Puts.puts} calls current.active.2.active),
        kind_told _ _ _ _ _ _ _ _ _ _ _ retire.retires.does,
      ),
    )
