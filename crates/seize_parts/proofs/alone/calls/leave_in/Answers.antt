use Rattle.std.proofs.Common.{◌<◌, ◌≡◌, arith, refl, sym, subst}
use Rattle.seize_words.specs.Joined.{words_book}
use Rattle.seize_parts.specs.Enders.{IsEnderIn}
use Rattle.seize_parts.specs.Told.{HasTold}
use Rattle.seize_parts.proofs.Called.{called, sole_still}
use Rattle.seize_parts.proofs.Placed.{at_some, still_for, units_joined, units_within}
use Rattle.seize_parts.proofs.Stilled.{still_prepared, still_then}
use Rattle.seize_parts.proofs.alone.calls.leave_in.Goals as goal

pub leave_telling-requires : goal.leave_telling-requires
leave_telling-requires g c =
    let words = c.args.words.now in let at = c.current.new.self in let current = c.current.ensures in let is = current.follows.0.1 in let only = c.requires.r.1 in
    let some : 0 < at.guards = omega (arith, current.active.0, current.follows.1) in let one : at.guards ≡ 1 = omega (arith, some, current.follows.1, c.requires.r.0.fits, only.1) in
    let units = units_joined at.rest c.args.unit.unit c.join.new.self at.guards c.join.ensures c.requires.unit.0.one is.units some in
    let still = still_then current.still (still_prepared at.slot c.head-head.ensures.pass) in (
      omega arith,
      (
        (current.active.1, still_for words c.args.pass.now c.head-head.new.pass only.2 still.same, sole_still still only.3),
        (
          c.head-head.ensures.head,
          (
            (units_within at.slot at.rest c.join.new.self _ c.join.ensures (at_some at.slot at.rest at.guards some is.at), omega (arith, units, one)),
            ((c.new.ensures.0, subst (IsEnderIn (words_book words)) (sym c.new.ensures.1) c.requires.ender), (refl, refl)),
          ),
        ),
      ),
    )

pub returns-clause-calls : goal.returns-clause-calls
returns-clause-calls g c =
    let W = g.W.Watch in let code = g.row.T.coded.code in let puts = g.R.Puts.puts in let words = c.args.words.now in let r = c.args.r.now in let at = c.current.new.self in let current = c.current.ensures in let only = c.requires.r.1 in
    let pass = c.args.pass.now in let watch = c.args.watch.now in let ready = c.head-head.new.pass in let still = still_then current.still (still_prepared at.slot c.head-head.ensures.pass) in
    let pass' = c.leave_telling.new.pass in let leave = c.leave_telling.ensures in let leaves = leave.leaves in let now : g.row.W.Denot = c.watch-1.given.0 in
    called code puts W.told words r pass _ pass' (W.seen watch) (W.seen now) _ at.slot ready leaves.0 _ current.same still only.3 only.2 leave.of.0.0 leaves.1 leaves.1 leaves.1.does.rests.same leaves.1.does.rests.grows leaves.2
    (subst (λ (w : g.row.W.Denot). HasTold code W.told (W.seen watch) (W.seen w) leaves.0) (sym (c.watch-1.given.1 (sym leave.same_reference))) leaves.3)
