use Rattle.seize.specs.Furthers.{further_store}
use Rattle.seize_script.proofs.Owners.{inside_belongs}
use Rattle.seize_script.proofs.value.PutInsideReclaimValue.reclaim.Goals as goal

pub put_all-requires : goal.put_all-requires
put_all-requires c = inside_belongs c.args.value (further_store c.args.further.now) c.requires
