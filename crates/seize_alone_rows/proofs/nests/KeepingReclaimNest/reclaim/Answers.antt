use Rattle.seize.specs.Furthers.{further_store}
use Rattle.seize_uses.proofs.Owners.{inside_belongs}
use Rattle.seize_alone_rows.proofs.nests.KeepingReclaimNest.reclaim.Goals as goal

pub put_all-requires : goal.put_all-requires
put_all-requires c = inside_belongs c.args.value (further_store c.args.further.now) c.requires
