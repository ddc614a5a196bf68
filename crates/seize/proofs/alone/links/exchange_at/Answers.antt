use Rattle.std.proofs.Common.{refl, sym, subst, ◌∙◌}
use Rattle.seize_machine.specs.Machine.Event.{ExchangeLink}
use Rattle.seize_machine.specs.Machine.State.{link_at}
use Rattle.seize_machine.specs.declared.machine.event.Answer.TheVariants.{Link}
use Rattle.seize_machine.specs.declared.machine.event.Exchange.TheVariants.{Swap}
use Rattle.seize_alone.specs.Events.{MakesAlone}
use Rattle.seize_book.specs.Homesteads.{state_seen}
use Rattle.seize_book.specs.declared.book.pass.Pass.{Pass}
use Rattle.seize_words.specs.Rows.{StandsAt}
use Rattle.seize.proofs.alone.links.exchange_at.Goals as goal

pub returns-clause-makes : goal.returns-clause-makes
returns-clause-makes g c =
    let unit = c.args.unit.now in let makes = c.exchange_in-old.ensures.makes in
    (makes.0, makes.1, subst (λ (p : Pass). MakesAlone c.args.pass.now p (ExchangeLink unit.number c.args.link (Swap makes.0)) (Link makes.1)) (sym c.rest_at.ensures.pass) makes.2, makes.3, makes.4)

pub returns-clause-words : goal.returns-clause-words
returns-clause-words g c =
    let stirred = c.stir_at.ensures.same in let rested = c.rest_at.ensures.same in (refl, refl, (rested.0 ∙ stirred.0, λ l o other stands. rested.1 l o other (stirred.1 l o other stands)), refl, refl)

pub returns-clause-stands : goal.returns-clause-stands
returns-clause-stands g c = subst (λ (p : Pass). StandsAt c.rest_at.new.self c.args.link (link_at (state_seen p) c.args.link)) (sym c.rest_at.ensures.pass) c.rest_at.ensures.stands
