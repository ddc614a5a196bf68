use Rattle.std.proofs.Common.{Some, arith, subst, sym}
use mathlib.Core.List.{IsPrefix}
use Rattle.seize.specs.Collectors.{seen_by}
use Rattle.seize.specs.Guards.{core_home, core_slot}
use Rattle.seize.specs.Rules.{Says}
use Rattle.seize.specs.declared.collector.Collector.{Collector}
use Rattle.seize.proofs.Facts.{end_onwards, makes_then, read_onwards}
use Rattle.seize_uses.specs.Versions.{GrowsTo}
use Rattle.seize_uses.specs.contracts.versions.Version.{the_row}
use Rattle.seize_uses.specs.Reached.{HasReached}
use Rattle.seize_uses.specs.declared.versions.Growing.{Growing}
use Rattle.seize_uses.specs.declared.versions.Version.{Version}
use Rattle.seize_uses.proofs.Grows.{grows_on, if_read}
use Rattle.seize_uses.proofs.versions.newest.Goals as goal

pub returns-clause-no_less : goal.returns-clause-no_less
returns-clause-no_less c version reached =
    let reads = c.content_at-version.ensures.read in
    end_onwards the_row.coded c.laws-2.ensures.rule c.args.link (GrowsTo (Some version)) (grows_on version) (core_slot c.args.core.now) reads.0 c.content_at-version.result
    (subst (λ (collector : Collector Version Growing). IsPrefix (seen_by collector) c.args.pass.now.seen) (sym c.collector-collector.ensures.0) reached.0) reached.1 (makes_then c.laws.ensures.none reads.1) c.laws-2.ensures.none reads.2

pub returns-clause-reached : goal.returns-clause-reached
returns-clause-reached c =
    let core = c.args.core.now in let reads = c.content_at-version.ensures.read in let rule = c.laws-2.ensures.rule in
    if_read (λ version. HasReached (core_home core) c.args.link version c.laws-2.new.pass) c.content_at-version.result (λ version is. (
      subst (λ (collector : Collector Version Growing). IsPrefix (seen_by collector) c.laws-2.new.pass.seen) c.collector-collector.ensures.0 rule.goes_on,
      read_onwards the_row.coded rule c.args.link (GrowsTo (Some version)) (grows_on version) (core_slot core) reads.0 (Some version)
          c.laws.ensures.rule.goes_on reads.1 c.laws-2.ensures.none (subst (Says the_row.coded.code reads.0) is reads.2) (omega arith),
    ))
