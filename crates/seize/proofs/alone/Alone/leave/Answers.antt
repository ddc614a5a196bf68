use Rattle.std.proofs.Common.{◌-◌, ℕ, Bool, lit<, [], refl, sym, ap, ◌∙◌, arith}
use Rattle.std.specs.Prelude.{Err, Ok}
use Rattle.std.proofs.lemmas.List.Sums.{fold-append}
use Rattle.std.proofs.lemmas.Result.{err_from_is_err_and}
use Rattle.seize_model.specs.Waiting.Attempt.{StateAndGone}
use Rattle.seize_model.specs.Waiting.Calls.{give_back, given_back_if, is_free, one_guard_less, set_guards}
use Rattle.seize_model.specs.Waiting.Further.{with_further}
use Rattle.seize_model.specs.Waiting.State.{ModelState, has_guard, model_slot}
use Rattle.seize_alone.proofs.Ready.{left_beside}
use Rattle.seize_parts.specs.Told.{told_of}
use Rattle.seize.proofs.Reclaimed.{answered_none, answered_so, beside_so, left_last, may_act, refused_none}
use Rattle.seize.proofs.alone.Alone.leave.Goals as goal

pub returns-in_err-owned-clause-done : goal.returns-in_err-owned-clause-done
returns-in_err-owned-clause-done g c =
    let st = c.args.self.now.state in let p = err_from_is_err_and c.from_residual.result c.from_residual.ensures.1 in
    answered_none g.W.Watch.told st (g.W.Watch.seen c.args.watch.now) c.from_residual.result _
    (refused_none st c.args.s c.in_err-owned.field-0.0 _ c.in_err-owned.ensures.refused ∙ ap (λ r. (r, (st, []))) (sym (p.1 ∙ ap Err p.2)))

pub count-requires : goal.count-requires
count-requires g c =
    let it = c.in_ok-owned.ensures.it in let st = c.args.self.now.state in let s = c.args.s in let many = c.if-guards-gt1.true in
    (lit< tt, (beside_so st s c.in_ok-owned.owned c.in_ok-owned.guards it.1 it.2 many c.in_ok-owned.ensures.one, (may_act st s it.0).1, omega (arith, many)))

pub part-requires : goal.part-requires
part-requires g c =
    let it = c.in_ok-owned.ensures.it in let st = c.args.self.now.state in let few = c.if-guards-gt1.false in let are = it.2 in let some = it.3 in
    (lit< tt, ((may_act st c.args.s it.0).0, omega (arith, few, are, some)))

pub give_back-requires : goal.give_back-requires
give_back-requires g c =
    let done = c.part.ensures.done in let s = c.args.s in
    (lit< tt, (ap (λ (x : ModelState g.row.T.Denot ℕ). is_free (model_slot x s).kind) done.0 ∙ done.2, ap (λ (x : ModelState g.row.T.Denot ℕ). has_guard (model_slot x s)) done.0 ∙ done.3))

pub returns-then-guards-gt1-clause-done : goal.returns-then-guards-gt1-clause-done
returns-then-guards-gt1-clause-done g c =
    let it = c.in_ok-owned.ensures.it in let st = c.args.self.now.state in let s = c.args.s in let many = c.if-guards-gt1.true in let are = it.2 in
    let kind = beside_so st s c.in_ok-owned.owned c.in_ok-owned.guards it.1 are many c.in_ok-owned.ensures.one in
    answered_so g.W.Watch.told _ _ _ _ _ (Ok tt) _ (left_beside st s g.R.Puts.puts g.R.Puts.weight kind (omega (arith, are, many)))
    (c.count.ensures.done ∙ ap (λ (m : ℕ). set_guards st s (m - 1)) (sym are)) refl

pub returns-then-owned-clause-done : goal.returns-then-owned-clause-done
returns-then-owned-clause-done g c =
    let it = c.in_ok-owned.ensures.it in let st = c.args.self.now.state in let s = c.args.s in let P = g.R.Puts in let done = c.part.ensures.done in
    let told = g.W.Watch.told in let seen = g.W.Watch.seen c.args.watch.now in let gave = c.give_back.ensures.done in let o : StateAndGone g.row.T.Denot ℕ = with_further P.puts P.weight s (one_guard_less st s) in
    answered_so g.W.Watch.told _ _ _ _ _ (Ok tt) _
    (left_last P.puts P.weight st s c.in_ok-owned.owned it.0 it.1 ∙ ap (λ (b : Bool). (Ok tt, given_back_if g.R.Puts.puts g.R.Puts.weight b s (with_further P.puts P.weight s (one_guard_less st s)))) c.if-owned.true)
    (gave.0 ∙ ap (λ (x : ModelState g.row.T.Denot ℕ). (give_back P.puts P.weight x s).0) done.0)
    (gave.1 ∙ (λ j. told_of told (done.1 j) (give_back P.puts P.weight (done.0 j) s).1) ∙ sym (fold-append (λ (x : _) (v : g.row.T.Denot × ℕ). told x v.0) seen o.1 (give_back P.puts P.weight o.0 s).1))

pub returns-else-owned-clause-done : goal.returns-else-owned-clause-done
returns-else-owned-clause-done g c =
    let it = c.in_ok-owned.ensures.it in let st = c.args.self.now.state in let s = c.args.s in let P = g.R.Puts in let done = c.part.ensures.done in
    answered_so g.W.Watch.told _ _ _ _ _ (Ok tt) _
    (left_last P.puts P.weight st s c.in_ok-owned.owned it.0 it.1 ∙ ap (λ (b : Bool). (Ok tt, given_back_if g.R.Puts.puts g.R.Puts.weight b s (with_further P.puts P.weight s (one_guard_less st s)))) c.if-owned.false)
    done.0 done.1
