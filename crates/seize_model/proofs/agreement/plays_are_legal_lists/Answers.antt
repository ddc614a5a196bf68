use Rattle.seize_model.proofs.Simulation.Plays.{plays_are_legal}
use Rattle.seize_model.proofs.agreement.plays_are_legal_lists.Goals as goal

pub returns : goal.returns
returns c = plays_are_legal
