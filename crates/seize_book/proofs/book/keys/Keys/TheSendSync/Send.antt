use denote.Param.Send.{IsSend}
use Rattle.seize_book.specs.contracts.book.keys.Keys.{the_row}
use Rattle.seize_book.proofs.Sent.{keys_keyless}

pub send : IsSend the_row
send = record { owned = λ d vs. ((λ vss. (tt, ((λ uss. (tt, tt)), tt))), keys_keyless d.name d.held); leaving = λ k f vs. tt }
