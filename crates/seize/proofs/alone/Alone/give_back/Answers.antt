use Rattle.std.proofs.Common.{◌≡◌, Bool, true, false, refl, subst, ◌∙◌}
use base.Growing.{prefix_trans}
use Rattle.seize.proofs.Giving.{Goes, Remains, goes_done, goes_on}
use Rattle.seize.proofs.alone.Alone.give_back.Goals as goal

pub loop-given-preserved : goal.loop-given-preserved
loop-given-preserved g c =
    let P = g.R.Puts in let W = g.W.Watch in let once = c.end_once-given in let st = c.args.self.now.state in let s = c.args.s in let seen = W.seen c.args.watch.now in
    let mid = c.loop-given.self.state in let now = once.new.self.state in let seen' = W.seen c.loop-given.watch in let seen'' = W.seen once.new.watch in
    let left : Remains P.puts P.weight W.told st mid s seen seen' = subst (λ (b : Bool). Goes b P.puts P.weight W.told st mid s seen seen') c.loop-given-test.true c.loop-given.invariant.goes in
    let goes : (given : Bool) → once.result ≡ given → Goes given P.puts P.weight W.told st now s seen seen''
    = elim [
      | true ↦ λ is. goes_done P.puts P.weight W.told st s seen mid now seen' seen'' left (once.ensures.gives is)
      | false ↦ λ is. goes_on P.puts P.weight W.told st s seen mid now seen' seen'' left (once.ensures.gathers is) (once.ensures.left is).0
    ] in
    record {
      goes = goes once.result refl;
      same = (let is = once.ensures.same in let was = c.loop-given.invariant.same in (is.0 ∙ was.0, is.1 ∙ was.1, is.2 ∙ was.2, is.3 ∙ was.3, is.4 ∙ was.4, is.5 ∙ was.5));
      grows = prefix_trans c.args.self.now.seen c.loop-given.self.seen once.new.self.seen c.loop-given.invariant.grows once.ensures.grows;
    }
