use denote.RattleType.{RattleType}
use denote.Param.Send.{IsSend}
use Rattle.seize_table.specs.contracts.tls.meaning.Meaning.{the_row}

pub send : (T : RattleType) → IsSend (the_row T)
send T = record { owned = λ n vs. ((λ vss. (tt, ((λ uss. (tt, tt)), tt))), tt); leaving = λ k d w. tt }
