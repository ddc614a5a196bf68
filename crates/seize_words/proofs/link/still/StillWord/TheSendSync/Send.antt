use denote.Param.Send.{IsSend}
use Rattle.seize_words.specs.contracts.link.still.StillWord.{the_row}
use Rattle.seize_book.proofs.Sent.{keys_keyless}

pub send : IsSend the_row
send = record { owned = λ d vs. ((λ vss. (tt, ((tt, tt), tt))), keys_keyless d.name d.held); leaving = λ k f vs. tt }
