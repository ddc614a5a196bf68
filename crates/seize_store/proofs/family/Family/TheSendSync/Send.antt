use denote.Param.Send.{IsSend}
use Rattle.seize_store.specs.contracts.family.Family.{the_row}

pub send : IsSend the_row
send = record { owned = λ m vs. ((λ vss. (tt, ((λ uss. (tt, tt)), tt))), tt); leaving = λ k d w. tt }
