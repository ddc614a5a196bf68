use denote.RattleType.{RattleType}
use denote.Param.Send.{IsSend}
use Rattle.seize_content.specs.declared.steady_cell.Steady.{Ghosts}
use Rattle.seize_cells.specs.contracts.local_cell.LocalCell.{the_row}

pub send : (T : RattleType) (g : Ghosts T.Denot) → IsSend T → IsSend (the_row T g)
send T g s = record { owned = λ n vs. ((λ _. tt), λ x. ((λ vss. (tt, ((s.owned x vss.0), tt))), (λ _. tt))); leaving = λ k d w. tt }
