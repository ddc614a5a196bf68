use Rattle.seize_model.proofs.Simulation.Reopenings.{reopens}
use Rattle.seize_model.proofs.agreement.reclaiming_reopens.Goals as goal

pub returns : goal.returns
returns g c = reopens
