use Rattle.seize_model.proofs.Simulation.Calls.{agrees, agrees_with, all_lists_agree}
use Rattle.seize_model.proofs.Simulation.Namings.{agrees_anew}
use Rattle.seize_model.proofs.Simulation.Openings.{new_shown}
use Rattle.seize_model.proofs.agreement.models_agree.Goals as goal

pub returns : goal.returns
returns g c = record { made = new_shown; call = agrees; with_reclaimers = agrees_with; any = agrees_anew; every = all_lists_agree }
