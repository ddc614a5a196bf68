use denote.Param.Send.{IsSync}
use Rattle.core.proofs.atomic.Sent.{chain-Keyless}
use Rattle.seize_words.specs.Words.{site_keys}
use Rattle.seize_words.specs.contracts.word.Word.{the_row}
use Rattle.seize_book.proofs.Sent.{keys_keyless}

pub sync : IsSync the_row
sync = record { shared = λ d b o κ. λ t. ((λ νs. chain-Keyless νs κ t.0), ((λ _. tt), (λ v. (tt, λ u. ((λ _. tt), keys_keyless d.name (site_keys d u.0 u.1)))))) }
