use denote.Param.Send.{IsSend}
use Rattle.seize_book.specs.contracts.book.porter.Porter.{the_row}
use Rattle.seize_book.proofs.Sent.{porter_all_sent}

pub send : IsSend the_row
send = record { owned = λ d vs. ((λ vss. (tt, ((λ uss. (tt, tt)), tt))), porter_all_sent d.name d.size d.home d.seen); leaving = λ k f vs. tt }
