use denote.RattleType.{RattleType}
use denote.Param.Send.{IsSend, IsSync}
use Rattle.seize_content.specs.contracts.token_cell.TokenCell.{the_row}
use Rattle.seize_content.specs.Cells.{anything}
use Rattle.seize_content.proofs.Sends.{cell_seen}

pub sync : (T : RattleType) → IsSend T → IsSync (the_row T)
sync T s = record { shared = λ d b o κ. cell_seen T s anything d.name b o κ }
