use Rattle.std.proofs.Common.{inl, refl, ◌∙◌}
use Rattle.seize_words.specs.LinkWords.{value_held}
use Rattle.seize_words.proofs.Permitted.{pair_allowed}
use Rattle.seize_words.proofs.permits.for_swap.Goals as goal

pub returns : goal.returns
returns g c = (c.permit.ensures.0 ∙ c.requires.pairs.0, λ old. pair_allowed 0 c.args.link c.args._pass.now.id old (value_held c.args.key.now) c.permit.result.codes c.permit.ensures.1 (inl refl))
