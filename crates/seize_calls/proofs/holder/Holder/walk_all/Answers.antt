use Rattle.std.proofs.Common.{refl}
use Rattle.seize_calls.specs.Furthers.{further_in}
use Rattle.seize_calls.proofs.Laid.{lays_same}
use Rattle.seize_calls.proofs.Strolls.{none_waited}
use Rattle.seize_calls.proofs.holder.Holder.walk_all.Goals as goal

pub returns-then-word-eq1-clause-walks : goal.returns-then-word-eq1-clause-walks
returns-then-word-eq1-clause-walks g c =
    (refl, λ at. none_waited c.args.self.now.key c.args.word at c.args.pass.now (further_in c.args.queue.now) (g.R.Reclaim.had c.args.reclaimer.now) c.if-word-eq1.true)

pub returns-then-word-eq1-clause-laid : goal.returns-then-word-eq1-clause-laid
returns-then-word-eq1-clause-laid g c = lays_same c.args.pass.now c.args.pass.now c.args.self.now.spots refl
