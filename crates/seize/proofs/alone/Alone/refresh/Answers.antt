use Rattle.std.proofs.Common.{lit<, [], sym, ap, ◌∙◌}
use Rattle.std.specs.Prelude.{Err, Ok}
use Rattle.std.proofs.lemmas.Result.{err_from_is_err_and}
use Rattle.seize_alone.proofs.Ready.{refreshed_beside}
use Rattle.seize_parts.specs.Kinds.{kind_if_owned}
use Rattle.seize.proofs.Reclaimed.{alone_so, answered_none, many_so, refused_none}
use Rattle.seize.proofs.alone.Alone.refresh.Goals as goal

pub renew-requires : goal.renew-requires
renew-requires g c =
    let it = c.in_ok-owned.ensures.it in (lit< tt, (it.0, alone_so c.args.self.now.state c.args.s c.in_ok-owned.owned c.in_ok-owned.guards it.1 it.2 c.then-owned.either))

pub returns-else-guards-eq1-clause-done : goal.returns-else-guards-eq1-clause-done
returns-else-guards-eq1-clause-done g c =
    let it = c.in_ok-owned.ensures.it in let st = c.args.self.now.state in let s = c.args.s in
    answered_none g.W.Watch.told st (g.W.Watch.seen c.args.watch.now) (Ok tt) _
    (refreshed_beside st s g.R.Puts.puts g.R.Puts.weight (it.1 ∙ ap kind_if_owned c.if-owned.false) (many_so _ c.in_ok-owned.guards it.2 it.3 c.if-guards-eq1.false))

pub returns-in_err-owned-clause-done : goal.returns-in_err-owned-clause-done
returns-in_err-owned-clause-done g c =
    let st = c.args.self.now.state in let p = err_from_is_err_and c.from_residual.result c.from_residual.ensures.1 in
    answered_none g.W.Watch.told st (g.W.Watch.seen c.args.watch.now) c.from_residual.result _
    (refused_none st c.args.s c.in_err-owned.field-0.0 _ c.in_err-owned.ensures.refused ∙ ap (λ r. (r, (st, []))) (sym (p.1 ∙ ap Err p.2)))
