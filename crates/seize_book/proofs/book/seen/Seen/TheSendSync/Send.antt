use denote.Param.Send.{IsSend}
use Rattle.seize_book.specs.contracts.book.seen.Seen.{the_row}
use Rattle.seize_book.proofs.Sent.{book_keyless}

pub send : IsSend the_row
send = record { owned = λ d vs. ((λ vss. (tt, ((λ uss. (tt, tt)), tt))), book_keyless d.name d.seen); leaving = λ k f vs. tt }
