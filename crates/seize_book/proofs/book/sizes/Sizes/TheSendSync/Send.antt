use denote.Param.Send.{IsSend}
use Rattle.seize_book.specs.contracts.book.sizes.Sizes.{the_row}
use Rattle.seize_book.proofs.Sent.{sizes_sent}

pub send : IsSend the_row
send = record { owned = λ d vs. ((λ vss. (tt, ((λ uss. (tt, tt)), tt))), sizes_sent d.name.gate.sizes d.most); leaving = λ k f vs. tt }
