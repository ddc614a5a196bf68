use Rattle.std.proofs.Common.{sym, subst, ◌∙◌}
use Rattle.seize_words.specs.Activations.{IsLasting, with_units}
use Rattle.seize_words.specs.declared.activation.Activation.{Activation}
use Rattle.seize_parts.specs.Reservations.{IsUnit}
use Rattle.seize_parts.proofs.OneLife.{one_life}
use Rattle.seize_parts.proofs.shelf.forgotten.Forgotten.and.Goals as goal

pub join-requires-clause-same : goal.join-requires-clause-same
join-requires-clause-same c =
    let a = c.args.self in let b = c.args.one in
    one_life _ a b c.agree.new.self c.learn.new.self c.agree-2.new.self c.learn-2.new.self c.slots.new.self c.requires.0 c.requires.1 c.if-self-one.false c.learn.ensures c.agree.ensures.1 c.agree-2.ensures.0 c.learn-2.ensures c.agree-2.ensures.1 c.slots.ensures.0
    (subst (IsLasting a.units) c.lasts.ensures.0 c.lasts.ensures.1) (subst (IsLasting b.units) (c.lasts-2.ensures.0 ∙ c.lasts.ensures.0) c.lasts-2.ensures.1)

pub returns-clause-of : goal.returns-clause-of
returns-clause-of c =
    let a = c.args.self in (c.requires.0.0, subst (λ (u : Activation). IsUnit a.seen.name a.number (with_units u 1) a.seen) (sym c.join.ensures) c.requires.0.1)
