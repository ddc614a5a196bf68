use base.Shift.{Keyless}
use denote.Param.Send.{IsSend}
use mir.Val.{Val}
use Rattle.std.proofs.Common.{ℕ, List, Option, Some, None}
use Rattle.seize_words.specs.LinkSites.{KeyRow, keys_of_rows, owns_by, site_in}
use Rattle.seize_words.specs.Words.{Site, site_keys}
use Rattle.seize_words.specs.contracts.link.word.LinkWord.{the_row}
use Rattle.seize_book.proofs.Sent.{keys_keyless}

its : (site : Site) (t : Option (ℕ × List KeyRow)) (vs : List Val) → Keyless (owns_by site t vs)
its site None vs = ((λ _. tt), λ v. ((λ vss. (tt, ((tt, tt), tt))), λ t. ((λ _. tt), keys_keyless site.name (site_keys site t.0 t.1))))
its site (Some t) vs = ((λ vss. (tt, ((tt, tt), tt))), keys_keyless site.name (keys_of_rows t.1))

pub send : IsSend the_row
send = record { owned = λ d vs. ((λ _. tt), its (site_in d) d.still vs); leaving = λ k f vs. tt }
