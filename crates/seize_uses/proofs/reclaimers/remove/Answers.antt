use Rattle.seize.specs.Links.{unlinked_name}
use Rattle.seize.specs.Guards.{guard_slot}
use Rattle.seize.proofs.Facts.{retired_by}
use Rattle.seize_uses.proofs.reclaimers.remove.Goals as goal

pub returns-clause-removed : goal.returns-clause-removed
returns-clause-removed g c so =
    let v = unlinked_name c.in-Some.old in let retire = c.defer_retire_as.ensures in (v, retire.kind, retired_by (guard_slot c.args.guard.now) v retire.call)
