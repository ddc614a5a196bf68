use denote.Param.Send.{IsSend}
use Rattle.seize_book.specs.contracts.book.rights.Rights.{the_row}
use Rattle.seize_book.proofs.Sent.{notes_keyless, rights_keyless}

pub send : IsSend the_row
send = record { owned = λ d vs. ((λ vss. (tt, ((λ uss. (tt, tt)), tt))), (rights_keyless d.name d.held, notes_keyless d.held)); leaving = λ k f vs. tt }
