use Rattle.seize_model.proofs.WaitingSets.Giving.{giving}
use Rattle.seize_model.proofs.WaitingSets.Unused.{last_end, none_in_use}
use Rattle.seize_model.proofs.waiting.last_ends.Goals as goal

pub returns : goal.returns
returns g c = record { last = last_end; unused = none_in_use; giving = giving }
