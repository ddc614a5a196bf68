use Rattle.seize_model.proofs.WaitingSets.FurtherValues.{afterwards-nil, afterwards-cons}
use Rattle.seize_model.proofs.WaitingSets.Drain.{gone_from-nil, gone_from-cons}
use Rattle.seize_model.proofs.waiting.further_values.Goals as goal

pub returns : goal.returns
returns g c = record {
  afterwards = λ puts weight lighter. (afterwards-nil puts weight, afterwards-cons puts weight lighter);
  gone_from = λ puts weight lighter. (gone_from-nil puts weight, gone_from-cons puts weight lighter);
}
