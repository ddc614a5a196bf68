use Rattle.std.proofs.Common.{subst, sym}
use Rattle.seize.specs.Guards.{core_home}
use Rattle.seize.specs.declared.collector.Collector.{Collector}
use Rattle.seize_uses.specs.Reached.{HasReached}
use Rattle.seize_uses.specs.declared.versions.Growing.{Growing}
use Rattle.seize_uses.specs.declared.versions.Version.{Version}
use Rattle.seize_uses.proofs.Grows.{in_order}
use Rattle.seize_uses.proofs.versions.read_twice.Goals as goal

-- the link had reached what was read first
pub returns-clause-grows : goal.returns-clause-grows
returns-clause-grows c =
    let link = c.args.link in let pass = c.newest-one.new.pass in
    in_order (λ version. HasReached (core_home c.args.first.now) link version pass) c.newest-one.result c.newest-other.result c.newest-one.ensures.reached
    (λ version reached. c.newest-other.ensures.no_less version (subst (λ (collector : Collector Version Growing). HasReached collector link version pass) (sym c.requires.same.0) reached))
