use Rattle.std.proofs.Common.{ℕ, ◌<◌, ◌-◌, ◌≡◌, arith, inl, inr, sym, ◌∙◌}
use Rattle.seize_calls.specs.Slots.{its_number}
use Rattle.seize_machine.specs.declared.machine.event.Job.TheVariants.{Leave}
use Rattle.seize_words.specs.Joined.{words_book}
use Rattle.seize_parts.proofs.Given.{serves_new}
use Rattle.seize_parts.proofs.Wholly.{call_after}
use Rattle.seize_parts.proofs.Placed.{at_some, label_same, none_at, placed, some_at, still_for, units_joined, units_within}
use Rattle.seize_parts.proofs.Places.{own_head}
use Rattle.seize_parts.specs.Puts.{PutBy}
use Rattle.seize_parts.proofs.Steps.{put_so, puts_by}
use Rattle.seize_parts.proofs.Wholly.{slot_leaves}
use Rattle.seize_guards.proofs.works.LeavingLockWorkReservationPassUnit.work.Goals as goal

pub leave-requires : goal.leave-requires
leave-requires g c =
    let work = c.args.self in let words = work.words.now in let at = c.current.new.self in let current = c.current.ensures in let is = current.follows.0.1 in
    let some : 0 < at.guards = omega (arith, current.active.0, current.follows.1) in let units = units_joined at.rest work.unit c.join.new.self at.guards c.join.ensures c.requires.1.2.0.one is.units some in (
      omega arith,
      (
        (current.active.1, still_for words c.args.pass.now c.current.new.pass c.requires.1.1 current.active_still.0.same, tt),
        (
          own_head at.slot (words_book words) (its_number c.args.r.now.slot) work.head.now c.requires.1.3 current.active.1.0.book current.same,
          ((units_within at.slot at.rest c.join.new.self _ c.join.ensures (at_some at.slot at.rest at.guards some is.at), omega (arith, units, c.if-r-gt0.false, some)), serves_new g.row.T.coded.code g.R.Puts.puts (words_book words) c.args.self.ender.now c.new.result.ender.now c.new.result.ends.had c.new.ensures c.requires.1.4),
        ),
      ),
    )

pub returns-then-r-gt0 : goal.returns-then-r-gt0
returns-then-r-gt0 g c =
    let work = c.args.self in let words = work.words.now in let at = c.current.new.self in let current = c.current.ensures in let is = current.follows.0.1 in
    let some : 0 < at.guards = omega (arith, current.active.0, current.follows.1) in let units = units_joined at.rest work.unit c.join.new.self at.guards c.join.ensures c.requires.1.2.0.one is.units some in
    let left : ℕ = at.guards - 1 in (
      (
        current.follows.0.0,
        placed words at.slot c.join.new.self left at.most current.active.1 (some_at at.slot c.join.new.self left (omega (arith, c.if-r-gt0.true)) (units_within at.slot at.rest c.join.new.self _ c.join.ensures (at_some at.slot at.rest at.guards some is.at))) units (omega (arith, is.fits)),
      ),
      (inr (omega (arith, c.if-r-gt0.true, current.follows.1), current.active_still), omega (arith, some, current.follows.1)),
    )

pub returns : goal.returns
returns g c =
    let work = c.args.self in let words = work.words.now in let r = c.args.r.now in let at = c.current.new.self in let current = c.current.ensures in let is = current.follows.0.1 in
    let ready = c.current.new.pass in let slot' = c.leave.new.self in let pass' = c.leave.new.pass in let rest = c.leave.new.activation in
    let leave = c.leave.ensures in let had = c.leave.new.reclaimer.ends.had in let so = put_so g.row.T.coded.code g.R.Puts.puts pass' had c.leave.ensures.serves.1 in
    let some : 0 < at.guards = omega (arith, current.active.0, current.follows.1) in let one : at.guards ≡ 1 = omega (arith, c.if-r-gt0.false, some) in let left : ℕ = at.guards - 1 in (
      (
        label_same at.slot slot' at.most leave.leaves.same ∙ current.follows.0.0,
        placed words slot' rest left at.most leave.of.0 (none_at slot' rest left (omega (arith, one)) leave.of.1) (omega (arith, leave.of.1.1.2, one)) (omega (arith, is.fits)),
      ),
      (
        inl (
          sym current.follows.1 ∙ one,
          call_after (its_number at.slot) (its_number r.slot) Leave c.args.pass.now ready pass' current.same current.active_still.0
              (slot_leaves (PutBy g.row.T.coded.code g.R.Puts.puts) pass' (puts_by g.row.T.coded.code g.R.Puts.puts pass') words at.slot ready slot' leave.of.0.0 (still_for words c.args.pass.now ready c.requires.1.1 current.active_still.0.same) c.new.result.ends.had had so leave.leaves),
        ),
        omega (arith, some, current.follows.1),
      ),
    )
