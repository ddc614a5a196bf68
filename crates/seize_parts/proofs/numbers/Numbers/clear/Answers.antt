use Rattle.std.proofs.Common.{◌≡◌, sym, subst, ◌∙◌}
use Rattle.seize_book.specs.Passes.{IsSamePass}
use Rattle.seize_book.specs.Tokens.{IsSole}
use Rattle.seize_book.specs.declared.book.pass.Pass.{Pass}
use Rattle.seize_parts.specs.Aparts.{GoesAll, MayGo}
use Rattle.seize_parts.proofs.Stilled.{same_pass, still_learned}
use Rattle.seize_parts.proofs.Swept.{still_sole}
use Rattle.seize_parts.proofs.numbers.Numbers.clear.Goals as goal

pub returns-clause-goes : goal.returns-clause-goes
returns-clause-goes g c =
    let W = g.W.Watch in let code = g.row.T.coded.code in let P = g.R.Puts in let places = c.args.places.now.items in let watch = c.args.watch.now in
    let pass = c.args.pass.now in let asked = c.learn.ensures.2 in let same = same_pass (subst (λ (p : Pass). IsSole p.id) (sym asked) c.requires.pass.1) (still_learned c.learn.new.self c.learn-2.ensures) in
    let is : c.new-queue.new.pass ≡ pass = c.new-queue.ensures.1 ∙ same ∙ asked in let later = subst (λ (p : Pass). IsSamePass p c.reclaim_all.new.pass) is c.reclaim_all.ensures.same.1 in
    let back : c.learn-3.new.self ≡ c.reclaim_all.new.pass = same_pass (still_sole pass c.reclaim_all.new.pass later c.requires.pass.1) (still_learned c.learn.new.self c.learn-3.ensures) in
    let goes = subst (λ (t : Pass × Pass). GoesAll code P.puts P.weight W.told (MayGo t.0 places) t.0 t.1 (W.seen watch) (W.seen c.reclaim_all.new.aside.watch.now)) (λ j. (is j, sym back j)) c.reclaim_all.ensures.goes in
    subst (λ (w : g.row.W.Denot). GoesAll code P.puts P.weight W.told (MayGo pass places) pass c.learn-3.new.self (W.seen watch) (W.seen w)) (sym (c.watch-1.given.1 (sym c.reclaim_all.ensures.same.0))) goes
