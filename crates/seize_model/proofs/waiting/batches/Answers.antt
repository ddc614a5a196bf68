use Rattle.seize_model.proofs.WaitingSets.ActiveSlots.{flush_keeps, retire_keeps}
use Rattle.seize_model.proofs.WaitingSets.Bound.{batch_bound}
use Rattle.seize_model.proofs.waiting.batches.Goals as goal

pub returns : goal.returns
returns g c = record { flush = flush_keeps; retire = retire_keeps; bound = batch_bound }
