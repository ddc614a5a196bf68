use Rattle.std.proofs.Common.{◌<◌, ◌≡◌, arith, inl, sym, ◌∙◌}
use Rattle.seize_calls.specs.Slots.{its_number}
use Rattle.seize_machine.specs.declared.machine.event.Job.TheVariants.{Refresh}
use Rattle.seize_words.specs.Joined.{words_book}
use Rattle.seize_parts.proofs.Given.{serves_new}
use Rattle.seize_parts.proofs.Wholly.{call_after}
use Rattle.seize_parts.proofs.Placed.{at_some, label_same, placed, some_at, still_for, unit_in, units_joined, units_within}
use Rattle.seize_parts.proofs.Places.{own_head}
use Rattle.seize_parts.specs.Puts.{PutBy}
use Rattle.seize_parts.proofs.Steps.{put_so, puts_by}
use Rattle.seize_parts.proofs.Wholly.{slot_refreshes}
use Rattle.seize_guards.proofs.works.RefreshingLockWorkReservationPassTuple2ActivationSeen.work.Goals as goal

pub refresh-requires : goal.refresh-requires
refresh-requires g c =
    let work = c.args.self in let words = work.words.now in let at = c.current.new.self in let current = c.current.ensures in let is = current.follows.0.1 in
    let some : 0 < at.guards = omega (arith, current.active.0, current.follows.1) in let units = units_joined at.rest work.unit c.join.new.self at.guards c.join.ensures c.requires.1.2.0.one is.units some in (
      omega arith,
      (
        (current.active.1, still_for words c.args.pass.now c.current.new.pass c.requires.1.1 current.active_still.0.same, tt),
        (
          own_head at.slot (words_book words) (its_number c.args.r.now.slot) work.head.now c.requires.1.3 current.active.1.0.book current.same,
          ((units_within at.slot at.rest c.join.new.self _ c.join.ensures (at_some at.slot at.rest at.guards some is.at), omega (arith, units, c.if-r-gt1.false, some)), serves_new g.row.T.coded.code g.R.Puts.puts (words_book words) c.args.self.ender.now c.new.result.ender.now c.new.result.ends.had c.new.ensures c.requires.1.4),
        ),
      ),
    )

pub returns : goal.returns
returns g c =
    let work = c.args.self in let words = work.words.now in let r = c.args.r.now in let at = c.current.new.self in let current = c.current.ensures in let is = current.follows.0.1 in
    let ready = c.current.new.pass in let slot' = c.refresh.new.self in let pass' = c.refresh.new.pass in let rest = c.refresh.new.activation in let rest' = c.split-unit.new.self in
    let refresh = c.refresh.ensures in let split = c.split-unit.ensures in let had = c.refresh.new.reclaimer.ends.had in let so = put_so g.row.T.coded.code g.R.Puts.puts pass' had c.refresh.ensures.serves.1 in
    let some : 0 < at.guards = omega (arith, current.active.0, current.follows.1) in let one : at.guards ≡ 1 = omega (arith, c.if-r-gt1.false, some) in (
      (
        label_same at.slot slot' at.most refresh.refreshes.same ∙ current.follows.0.0,
        placed words slot' rest' at.guards at.most refresh.of (some_at slot' rest' at.guards some (units_within slot' rest rest' rest'.units split.1 refresh.inside.0)) (omega (arith, split.2, refresh.inside.1, one)) is.fits,
      ),
      (
        inl (
          sym current.follows.1 ∙ one,
          call_after (its_number at.slot) (its_number r.slot) Refresh c.args.pass.now ready pass' current.same current.active_still.0
              (slot_refreshes (PutBy g.row.T.coded.code g.R.Puts.puts) pass' (puts_by g.row.T.coded.code g.R.Puts.puts pass') words at.slot ready slot' refresh.of.0 (still_for words c.args.pass.now ready c.requires.1.1 current.active_still.0.same) c.new.result.ends.had had so rest refresh.refreshes),
        ),
        unit_in (words_book words) (its_number r.slot) slot' rest c.split-unit.result c.seen.result refresh.of.0.book (refresh.refreshes.same.0 ∙ current.same) refresh.inside.0 split.0 c.seen.ensures.0 c.seen.ensures.1,
      ),
    )
