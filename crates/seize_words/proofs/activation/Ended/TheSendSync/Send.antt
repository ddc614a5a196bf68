use denote.Param.Send.{IsSend}
use Rattle.seize_words.specs.contracts.activation.Ended.{the_row}
use Rattle.seize_book.proofs.Sent.{over_keyless}

pub send : IsSend the_row
send = record { owned = λ d vs. ((λ vss. (tt, ((λ uss. (tt, tt)), tt))), over_keyless d.lives); leaving = λ k f vs. tt }
