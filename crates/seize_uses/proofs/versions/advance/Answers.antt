use Rattle.std.proofs.Common.{◌≡◌, ◌⊎◌, ℕ, List, [], Option, Some, ap, arith, inl, inr, subst, ◌∙◌}
use base.Growing.{prefix_trans}
use mathlib.Core.List.{IsPrefix}
use Rattle.seize.specs.Blocks.{content}
use Rattle.seize.specs.Collectors.{seen_by}
use Rattle.seize.specs.Guards.{core_home, core_slot}
use Rattle.seize.specs.Machine.Event.{Event, ExchangeLink}
use Rattle.seize.specs.Makes.{Makes, MakesNone, MakesOne}
use Rattle.seize.specs.declared.collector.Collector.{Collector}
use Rattle.seize.proofs.Facts.{named_says, then_none, won_onwards}
use Rattle.seize_book.specs.declared.book.pass.Pass.{Pass}
use Rattle.seize.specs.Answer.{Answer}
use Rattle.seize.specs.Answer.TheVariants.{Link}
use Rattle.seize.specs.Exchange.TheVariants.{Compare}
use Rattle.seize_uses.specs.Versions.{GrowsTo}
use Rattle.seize_uses.specs.contracts.versions.Version.{the_row}
use Rattle.seize_uses.specs.declared.versions.Growing.{Growing}
use Rattle.seize_uses.specs.declared.versions.Version.{Version}
use Rattle.seize_uses.proofs.Grows.{grows_on}
use Rattle.seize_uses.proofs.versions.advance.Goals as goal

-- what was retired after an exchange, if anything was, and then a look
then_look : {q q' r : Pass} → (q' ≡ q) ⊎ ((events : List (Event × Answer)) × Makes q q' events) → MakesNone q' r → (more : List (Event × Answer)) × Makes q r more
then_look {q} {q'} {r} (inl same) none = ([], subst (λ (p : Pass). Makes p r []) same none)
then_look (inr more) none = (more.0, then_none more.1 none)

-- the link holds the version after the exchange
pub returns-clause-reached : goal.returns-clause-reached
returns-clause-reached g c is =
    let s = core_slot c.deref-3.result.now in let link = c.args.link in let version = c.args.version in let block = c.in_ok-block.block in
    let rule = c.laws-2.ensures.rule in let from = seen_by c.collector-collector.result.now in
    let p = c.protect-found.new.pass in let q = c.compare_exchange.new.pass in
    let won = c.in-Ok.ensures in let held = won.held in
    let made : MakesOne p q (ExchangeLink s link (Compare held won.put)) (Link held) =
    subst (λ (current : Option ℕ). MakesOne p q (ExchangeLink s link (Compare current won.put)) (Link held)) won.outcome.0 won.made in
    let more = then_look c.retire_any.ensures.made c.laws-2.ensures.none in
    let known = prefix_trans from c.laws.new.pass.seen p.seen c.laws.ensures.rule.goes_on c.protect-found.ensures.1.grows in (
      subst (λ (collector : Collector Version Growing). IsPrefix (seen_by collector) c.laws-2.new.pass.seen)
          (c.collector-collector.ensures.0 ∙ ap (λ core. core_home core) c.deref.ensures) rule.goes_on,
      won_onwards the_row.coded rule link (GrowsTo (Some version)) (grows_on version) s held won.put (Some (content block)) known made more.1
          (named_says the_row.coded.code (Some block) won.put won.named) (omega (arith, ap (λ (v : Version). v.number) c.in_ok-block.ensures.1)),
    )
