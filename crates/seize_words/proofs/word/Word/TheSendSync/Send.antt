use denote.Param.Send.{IsSend}
use Rattle.seize_words.specs.Words.{site_keys}
use Rattle.seize_words.specs.contracts.word.Word.{the_row}
use Rattle.seize_book.proofs.Sent.{keys_keyless}

pub send : IsSend the_row
send = record { owned = λ d vs. ((λ _. tt), λ v. ((λ vss. (tt, ((tt, tt), tt))), λ t. ((λ _. tt), keys_keyless d.name (site_keys d t.0 t.1)))); leaving = λ k f vs. tt }
