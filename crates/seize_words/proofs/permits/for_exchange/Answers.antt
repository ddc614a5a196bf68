use Rattle.std.proofs.Common.{inr, refl, suc, ◌∙◌}
use Rattle.seize_book.specs.Pairs.{content_number}
use Rattle.seize_words.specs.LinkWords.{value_held}
use Rattle.seize_words.proofs.Permitted.{pair_allowed}
use Rattle.seize_words.proofs.permits.for_exchange.Goals as goal

pub returns : goal.returns
returns g c =
    let current = g.E.Expects.current in
    (c.permit.ensures.0 ∙ c.requires.pairs.0, pair_allowed (suc (content_number current)) c.args.link c.args._pass.now.id current (value_held c.args.key.now) c.permit.result.codes c.permit.ensures.1 (inr refl))
