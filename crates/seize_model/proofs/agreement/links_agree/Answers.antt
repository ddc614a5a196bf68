use Rattle.seize_model.proofs.Simulation.Exchanges.{each_read, exchanges, each_exchange}
use Rattle.seize_model.proofs.agreement.links_agree.Goals as goal

pub returns : goal.returns
returns g c = record { read = each_read _; exchange = exchanges _; every_exchange = each_exchange }
