use Rattle.std.proofs.Common.{subst}
use Rattle.seize_book.specs.declared.book.pass.Pass.{Pass}
use Rattle.seize_words.specs.Joined.{OnLink}
use Rattle.seize_words.specs.LinkWords.{CompareExchanges}
use Rattle.seize_words.specs.Joined.{words_book}
use Rattle.seize_guards.proofs.guard.exchanging.exchange.Goals as goal

pub returns-in-None : goal.returns-in-None
returns-in-None g c =
    let a = c.args in let made = c.exchange_for-in-None in record {
      exchanges = subst (λ (p : Pass). OnLink (words_book a.core.now.parts.now.words) a.link (λ link. CompareExchanges link a.core.now.unit a.key.now p g.E.Expects.current made.new.key made.new.pass made.result.0 made.result.1)) c.of.ensures.0 made.ensures.exchanges;
    }
