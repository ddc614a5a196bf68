use denote.Param.Send.{IsSend}
use Rattle.seize_store.specs.contracts.row_token.RowToken.{the_row}

pub send : IsSend the_row
send = record { owned = λ n vs. ((λ vss. (tt, ((λ uss. (tt, tt)), tt))), tt); leaving = λ k d w. tt }
