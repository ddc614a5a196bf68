use Rattle.seize.specs.Collectors.{its_most}
use Rattle.seize.proofs.Facts.{rests_below}
use Rattle.seize_uses.proofs.auditing.audit_waiting.Goals as goal

pub returns-clause-waits : goal.returns-clause-waits
returns-clause-waits c = rests_below (its_most c.args.collector.now) c.laws.new.pass c.laws.ensures.laws
