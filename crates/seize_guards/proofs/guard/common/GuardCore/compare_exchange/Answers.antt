use Rattle.std.proofs.Common.{◌≢◌, ℕ, Option, [], ◌∷◌, ap, arith, refl, sym, subst, ◌∙◌}
use Rattle.seize_machine.specs.Machine.Event.{ExchangeLink}
use Rattle.seize_machine.specs.declared.machine.event.Answer.TheVariants.{Link as Held}
use Rattle.seize_machine.specs.declared.machine.event.Exchange.TheVariants.{Compare}
use Rattle.seize_book.specs.Blocks.{link_word}
use Rattle.seize_book.specs.declared.book.pass.Pass.{Pass}
use Rattle.seize_words.specs.LinkWords.{held_before, link_number, value_held}
use Rattle.seize_words.proofs.Facts.{glimpse_found}
use Rattle.seize_parts.specs.Blocks.{IsNamed}
use Rattle.seize_guards.specs.Links.{ComesOut, Shows}
use Rattle.seize_guards.specs.Exchanges.{FoundIn, current_name}
use Rattle.seize_parts.specs.Makes.{Makes}
use Rattle.seize_guards.proofs.Allowing.{allows_one}
use Rattle.seize_guards.proofs.Compared.{comes_back, made_looked}
use Rattle.seize_guards.proofs.Found.{exchange_found, found_learned, found_looked, found_ready, told_then}
use Rattle.seize_guards.proofs.Guarded.{guard_compares, unit_at}
use Rattle.seize_guards.proofs.Readable.{compared_readable}
use Rattle.seize_words.specs.Joined.{words_book}
use Rattle.seize_guards.proofs.guard.common.GuardCore.compare_exchange.Goals as goal

pub exchange-old-requires : goal.exchange-old-requires
exchange-old-requires g c =
    let core = c.args.self.now in let collector = core.parts.now.words in let current = c.args.current in let key = c.name-word.result.1 in let told = c.learn_current.new.pass in
    let book = c.learn_current.ensures.same.0 ∙ sym c.requires.of.0.0 in
    let found = found_learned g.row.T.coded.code collector current c.args.pass.now told c.learn_current.ensures.learned c.requires.current c.requires.of.0.0 in record {
      book = sym (ap (λ (p : Pass). p.name) c.name-word.ensures.pass ∙ c.learn.ensures.0.0 ∙ book);
      within = unit_at (words_book collector) core.number core.unit core.seen (core.its, core.known) told c.learn.new.self c.name-word.new.pass book c.learn.ensures c.name-word.ensures.pass c.args.link c.requires.of.1;
      new = c.name-word.ensures.new;
      expected = refl;
      found = found_ready current told core.seen c.learn.new.self c.name-word.new.pass c.learn.ensures c.name-word.ensures.pass found;
      rule = allows_one g.row.T.coded collector g.R.Puts.keeps c.args.link current c.args.new (value_held key) c.requires.current c.name-word.ensures.named c.requires.rule;
    }

pub found-requires : goal.found-requires
found-requires g c =
    let core = c.args.self.now in let exchanges = c.exchange-old.ensures.exchanges in let t = exchanges.2 in let key = c.name-word.result.1 in let key' = c.exchange-old.new.key in
    let won = c.if-old-expected.true ∙ c.current_word-expected.ensures in let out = t.2 won in (
      omega arith,
      (
        t.0.found ∙ sym (ap link_word out.1),
        (
          (out.2, t.1 ∙ c.name-word.ensures.new.0),
          λ loose is. compared_readable exchanges.0 core.unit key c.name-word.new.pass (current_name c.args.current) key' c.exchange-old.new.pass c.exchange-old.result.0 c.exchange-old.result.1 loose t won is,
        ),
      ),
    )

pub returns-then-old-expected : goal.returns-then-old-expected
returns-then-old-expected g c =
    let core = c.args.self.now in let exchanges = c.exchange-old.ensures.exchanges in let t = exchanges.2 in let key = c.name-word.result.1 in let key' = c.exchange-old.new.key in
    let current = current_name c.args.current in let out = t.2 (c.if-old-expected.true ∙ c.current_word-expected.ensures) in
    let made = guard_compares (words_book core.parts.now.words) core.number core.unit core.seen (core.its, core.known) c.args.link exchanges.0 exchanges.1.1 c.learn_current.new.pass c.learn.new.self c.learn.ensures key c.name-word.new.pass current key'
    c.exchange-old.new.pass c.exchange-old.result.0 c.exchange-old.result.1 c.name-word.ensures.pass t in
    record {
      put = value_held key;
      held = held_before t.0;
      named = c.name-word.ensures.named;
      made = told_then c.args.current c.learn_current.ensures.learned made;
      outcome = (sym out.0, subst (λ (o : Option ℕ). ComesOut o c.found.result) out.1 c.found.ensures.out, c.found.ensures.of);
      found = exchange_found exchanges.0 core.unit key c.name-word.new.pass current key' c.exchange-old.new.pass c.exchange-old.result.0 c.exchange-old.result.1 t;
    }

pub shown-found-requires : goal.shown-found-requires
shown-found-requires g c =
    let core = c.args.self.now in let exchanges = c.exchange-old.ensures.exchanges in let t = exchanges.2 in let key = c.name-word.result.1 in let current = current_name c.args.current in
    let lost : c.exchange-old.result.0 ≢ link_word current = λ same. c.if-old-expected.false (same ∙ sym c.current_word-expected.ensures) in let found = (t.3 lost).2 in (
      omega arith,
      (
        sym (t.0.same.0 ∙ ap (λ (p : Pass). p.name) c.name-word.ensures.pass ∙ c.learn.ensures.0.0 ∙ c.learn_current.ensures.same.0 ∙ sym c.requires.of.0.0),
        (
          t.0.found ∙ sym (ap link_word found),
          (
            λ some. glimpse_found exchanges.0 core.unit c.name-word.new.pass c.exchange-old.new.pass (ExchangeLink core.unit.slot (link_number exchanges.0) (Compare current (value_held key))) c.exchange-old.result.0 c.exchange-old.result.1 t.0 found some,
            subst (λ (o : Option ℕ). FoundIn core.unit o c.exchange-old.new.pass) (sym found)
                (exchange_found exchanges.0 core.unit key c.name-word.new.pass current c.exchange-old.new.key c.exchange-old.new.pass c.exchange-old.result.0 c.exchange-old.result.1 t),
          ),
        ),
      ),
    )

pub returns : goal.returns
returns g c =
    let core = c.args.self.now in let exchanges = c.exchange-old.ensures.exchanges in let t = exchanges.2 in let key = c.name-word.result.1 in let key' = c.exchange-old.new.key in let current = current_name c.args.current in
    let lost : c.exchange-old.result.0 ≢ link_word current = λ same. c.if-old-expected.false (same ∙ sym c.current_word-expected.ensures) in let left = t.3 lost in
    let makes = guard_compares (words_book core.parts.now.words) core.number core.unit core.seen (core.its, core.known) c.args.link exchanges.0 exchanges.1.1 c.learn_current.new.pass c.learn.new.self c.learn.ensures key c.name-word.new.pass current key'
    c.exchange-old.new.pass c.exchange-old.result.0 c.exchange-old.result.1 c.name-word.ensures.pass t in
    let looked = made_looked makes c.shown-found.ensures.looks in let back = c.came_back-new.ensures in
    record {
      put = value_held key;
      held = held_before t.0;
      named = c.name-word.ensures.named;
      made = subst (λ (p : Pass). Makes c.args.pass.now p ((ExchangeLink core.number c.args.link (Compare current (value_held key)), Held (held_before t.0)) ∷ [])) (sym back.pass)
          (told_then c.args.current c.learn_current.ensures.learned looked);
      outcome = (
        λ same. lost (t.0.found ∙ ap link_word (sym same)),
        subst (λ (o : Option ℕ). Shows core.parts.now.words g.row.T.coded.code o c.shown-found.result) left.2 c.shown-found.ensures.shows,
        comes_back g.row.T.coded g.R.Puts.owners core.parts.now.words (value_held key) c.args.new c.came_back-new.result c.name-word.ensures.named
            (subst (λ (o : Option ℕ). IsNamed g.row.T.coded.code c.came_back-new.result o) left.0 back.named) c.requires.value back.of,
      );
      found = subst (FoundIn core.unit (held_before t.0)) (sym back.pass)
          (found_looked core.unit (held_before t.0) c.exchange-old.new.pass c.shown-found.new.pass c.shown-found.ensures.looks
          (exchange_found exchanges.0 core.unit key c.name-word.new.pass current key' c.exchange-old.new.pass c.exchange-old.result.0 c.exchange-old.result.1 t));
    }
