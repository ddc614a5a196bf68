use denote.RattleType.{RattleType}
use denote.Param.Send.{IsSend}
use Rattle.seize.specs.contracts.block.taken.Content.{the_row}

pub send : (T : RattleType) → IsSend (the_row T)
send T = record { owned = λ n vs. ((λ vss. (tt, ((λ uss. (tt, tt)), tt))), tt); leaving = λ k d w. tt }
