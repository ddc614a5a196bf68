use Rattle.std.proofs.Common.{◌<◌, arith, sym, subst, ◌∙◌}
use Rattle.seize_parts.specs.Told.{HasTold}
use Rattle.seize_parts.proofs.Called.{called}
use Rattle.seize_parts.proofs.Placed.{at_some, label_same, placed, some_at}
use Rattle.seize_parts.proofs.alone.calls.flush_in.Goals as goal

pub returns-clause-keeps : goal.returns-clause-keeps
returns-clause-keeps g c =
    let at = c.current.new.self in let current = c.current.ensures in let is = current.follows.0.1 in let some : 0 < at.guards = omega (arith, current.active.0, current.follows.1) in
    let slot' = c.flush_telling.new.slot in let flush = c.flush_telling.ensures in (
      label_same at.slot slot' at.most flush.flushes.2.same ∙ current.follows.0.0,
      placed c.args.words.now slot' at.rest at.guards at.most flush.of.0 (some_at slot' at.rest at.guards some (flush.of.1 at.rest (at_some at.slot at.rest at.guards some is.at))) is.units is.fits,
    )

pub returns-clause-calls : goal.returns-clause-calls
returns-clause-calls g c =
    let W = g.W.Watch in let code = g.row.T.coded.code in let at = c.current.new.self in let current = c.current.ensures in let watch = c.args.watch.now in
    let pass' = c.flush_telling.new.pass in let flush = c.flush_telling.ensures in let did = flush.flushes in let now : g.row.W.Denot = c.watch-1.given.0 in
    called code g.R.Puts.puts W.told c.args.words.now c.args.r.now c.args.pass.now _ pass' (W.seen watch) (W.seen now) _ at.slot c.current.new.pass did.1 _ current.same current.still c.requires.r.1.3 c.requires.r.1.2 flush.of.0.0 (did.0, did.2) did.2 did.2.does.rests.same did.2.does.rests.grows did.3
    (subst (λ (w : g.row.W.Denot). HasTold code W.told (W.seen watch) (W.seen w) did.1) (sym (c.watch-1.given.1 (sym flush.same_reference))) did.4)
