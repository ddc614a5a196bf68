use denote.Param.Send.{IsSend}
use Rattle.seize_table.specs.contracts.tls.filled_at.FilledAt.{the_row}

pub send : IsSend the_row
send = record { owned = λ n vs. ((λ vss. (tt, ((λ uss. (tt, tt)), tt))), λ way. (tt, tt)); leaving = λ k d w. tt }
