use Rattle.seize_model.proofs.WaitingSets.GoneBatches.{none_left}
use Rattle.seize_model.proofs.waiting.retired_batches.Goals as goal

pub returns : goal.returns
returns g c = none_left
