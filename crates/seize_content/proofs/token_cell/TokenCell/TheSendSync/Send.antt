use denote.RattleType.{RattleType}
use denote.Param.Send.{IsSend}
use Rattle.seize_content.specs.contracts.token_cell.TokenCell.{the_row}

pub send : (T : RattleType) → IsSend T → IsSend (the_row T)
send T s = record { owned = λ d vs. ((λ _. tt), λ x. ((λ vss. (tt, ((s.owned x vss.0), tt))), ((λ _. tt), tt))); leaving = λ k d w. tt }
