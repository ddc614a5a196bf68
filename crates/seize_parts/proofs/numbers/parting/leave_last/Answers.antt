use Rattle.std.proofs.Common.{◌<◌, ◌≡◌, arith, ◌∙◌}
use Rattle.seize_parts.proofs.Aparts.{more_drain}
use Rattle.seize_parts.proofs.Called.{sole_still}
use Rattle.seize_parts.proofs.Parting.{leave_goes}
use Rattle.seize_parts.proofs.Placed.{at_some, still_for, units_joined, units_within}
use Rattle.seize_parts.proofs.Stilled.{still_prepared, still_then}
use Rattle.seize_parts.proofs.numbers.parting.leave_last.Goals as goal

pub leave_into-requires : goal.leave_into-requires
leave_into-requires g c =
    let words = c.args.words.now in let at = c.current.new.self in let current = c.current.ensures in let is = current.follows.0.1 in let r = c.requires.r in let only = r.1 in
    let some : 0 < at.guards = omega (arith, current.active.0, current.follows.1) in let one : at.guards ≡ 1 = omega (arith, some, current.follows.1, r.0.fits, only.1) in
    let units = units_joined at.rest c.args.unit.unit c.join.new.self at.guards c.join.ensures c.requires.unit.0.one is.units some in
    let still = still_then current.still (still_prepared at.slot c.head-head.ensures.pass) in (
      omega arith,
      (
        (current.active.1, still_for words c.args.pass.now c.head-head.new.pass only.2 still.same, sole_still still only.3),
        (
          c.head-head.ensures.head,
          (
            (units_within at.slot at.rest c.join.new.self _ c.join.ensures (at_some at.slot at.rest at.guards some is.at), omega (arith, units, one)),
            (c.requires.ender, c.requires.queue.0),
          ),
        ),
      ),
    )

pub returns-clause-aside : goal.returns-clause-aside
returns-clause-aside g c =
    let leave = c.leave_into.ensures in
    (leave.same, more_drain g.row.T.coded.code g.R.Puts.puts _ leave.leaves.0 c.args.aside.now.queue c.leave_into.new.aside.queue leave.leaves.2.put leave.leaves.2.waits c.requires.queue)

pub returns-clause-slot : goal.returns-clause-slot
returns-clause-slot g c = let of = c.leave_into.ensures.of in (of.0, of.1.0, c.leave_into.ensures.leaves.1.same.0 ∙ c.current.ensures.same)

pub returns-clause-goes : goal.returns-clause-goes
returns-clause-goes g c =
    let W = g.W.Watch in let words = c.args.words.now in let at = c.current.new.self in let only = c.requires.r.1 in let leave = c.leave_into in let leaves = leave.ensures.leaves in
    let still = still_then c.current.ensures.still (still_prepared at.slot c.head-head.ensures.pass) in
    leave_goes g.row.T.coded g.R.Puts.puts W.told words at.slot leave.new.slot c.args.pass.now c.head-head.new.pass leave.new.pass _ c.current.ensures.same only.2 only.3 still leave.ensures.of.0.0 leaves.0 leaves.1
    leaves.2.put (W.seen c.args.aside.now.watch.now) (W.seen leave.new.aside.watch.now) c.args.aside.now.queue leave.new.aside.queue leaves.2.tells leaves.2.waits
