use denote.Param.Send.{IsSend}
use Rattle.seize_book.specs.contracts.book.permit.Permit.{the_row}
use Rattle.seize_book.proofs.Sent.{permits_keyless}

pub send : IsSend the_row
send = record { owned = λ d vs. ((λ vss. (tt, ((λ uss. (tt, tt)), tt))), permits_keyless d.list d.codes); leaving = λ k f vs. tt }
