use Rattle.std.specs.Prelude.{suc}
use Rattle.seize_book.specs.Pairs.{content_number, pair_code}
use Rattle.seize_words.specs.LinkWords.{value_held}
use Rattle.seize_words.proofs.permits.for_exchange.Given as goal

abbrev pub ghosts-permit : goal.ghosts-permit
ghosts-permit g a = record { code = pair_code a._link (suc (content_number g.E.Expects.current)) (content_number (value_held a._key.now)) }
