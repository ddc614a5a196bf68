use Rattle.seize_model.proofs.WaitingSets.Lists.{ample}
use Rattle.seize_model.proofs.waiting.lists_in_turn.Goals as goal

pub returns : goal.returns
returns g c = ample
