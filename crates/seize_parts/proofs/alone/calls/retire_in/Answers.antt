use Rattle.std.proofs.Common.{refl, sym, subst}
use Rattle.seize_parts.specs.Told.{HasTold}
use Rattle.seize_parts.proofs.Called.{called, still_none}
use Rattle.seize_parts.proofs.Placed.{at_kept, label_same, may_still, placed}
use Rattle.seize_parts.proofs.alone.calls.retire_in.Goals as goal

pub returns-clause-keeps : goal.returns-clause-keeps
returns-clause-keeps g c =
    let r = c.args.r.now in let is = c.requires.r.0 in let slot' = c.retire_telling.new.slot in let retire = c.retire_telling.ensures in let did = retire.retires in let does = did.2.does in (
      label_same r.slot slot' r.most did.2.same,
      placed c.args.words.now slot' r.rest r.guards r.most retire.of.0 (at_kept r.slot slot' r.rest r.guards (may_still r.slot slot' r.rest does.rests.its does.active) (retire.of.1 r.rest) is.at) is.units is.fits,
    )

pub returns-clause-calls : goal.returns-clause-calls
returns-clause-calls g c =
    let W = g.W.Watch in let code = g.row.T.coded.code in let r = c.args.r.now in let pass = c.args.pass.now in let watch = c.args.watch.now in
    let pass' = c.retire_telling.new.pass in let retire = c.retire_telling.ensures in let did = retire.retires in let rests = did.2.does.rests in let now : g.row.W.Denot = c.watch-1.given.0 in
    called code g.R.Puts.puts W.told c.args.words.now r pass _ pass' (W.seen watch) (W.seen now) _ r.slot pass did.1 _ refl (still_none pass) c.requires.r.1.3 c.requires.r.1.2 retire.of.0.0 (did.0, did.2) did.2 rests.same rests.grows did.3
    (subst (λ (w : g.row.W.Denot). HasTold code W.told (W.seen watch) (W.seen w) did.1) (sym (c.watch-1.given.1 (sym retire.same_reference))) did.4)
