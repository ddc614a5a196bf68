use denote.Param.Send.{IsSend}
use Rattle.seize_words.specs.contracts.activation.Activation.{the_row}

pub send : IsSend the_row
send = record { owned = λ d vs. ((λ vss. (tt, ((λ uss. (tt, tt)), tt))), λ s are. tt); leaving = λ k f vs. tt }
