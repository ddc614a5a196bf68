use denote.RattleType.{RattleType}
use denote.Param.Send.{IsSend, IsSync}
use Rattle.seize_content.specs.declared.steady_cell.Steady.{Ghosts}
use Rattle.seize_content.specs.Steady.{keeps}
use Rattle.seize_content.specs.contracts.steady_cell.SteadyCell.{the_row}
use Rattle.seize_content.proofs.Sends.{cell_seen}

pub sync : (T : RattleType) (g : Ghosts T.Denot) → IsSend T → IsSync (the_row T g)
sync T g s = record { shared = λ d b o κ. cell_seen T s (keeps g.label g.sound d.label) d.name b o κ }
