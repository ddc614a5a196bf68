use Rattle.std.proofs.Common.{◌≡◌, ℕ, Option, Some, ap, sym, subst, ◌∙◌}
use Rattle.seize_machine.specs.Machine.Event.{ReadLink}
use Rattle.seize_machine.specs.declared.machine.event.Answer.TheVariants.{Link as Held}
use Rattle.seize_book.specs.Laws.{Reader}
use Rattle.seize_book.specs.Tokens.{Name, start}
use Rattle.seize_book.specs.declared.book.pass.Pass.{Pass}
use Rattle.seize_words.specs.declared.lasting.Lasting.{Lasting}
use Rattle.seize_parts.specs.Makes.{MakesOne}
use Rattle.seize_guards.specs.Exchanges.{FoundIn}
use Rattle.seize_words.specs.LinkWords.{held_before}
use Rattle.seize_guards.proofs.Found.{finds_found}
use Rattle.seize_guards.proofs.Guarded.{guard_finds, is_read, shows_found, shows_none}
use Rattle.seize_words.specs.Joined.{words_book}
use Rattle.seize_guards.proofs.guard.common.GuardCore.protect.Goals as goal

pub returns-in_err-found : goal.returns-in_err-found
returns-in_err-found g c =
    let core = c.args.self.now in let finds = c.find-word.ensures.finds in let t = finds.2.0 in (
      held_before t.reads,
      guard_finds (words_book core.parts.now.words) core.number core.unit core.seen (core.its, core.known) c.args.link finds.0 finds.1.1 c.args.pass.now c.learn.new.self c.learn.ensures c.find-word.new.pass c.find-word.result.0 t,
      shows_none (words_book core.parts.now.words) g.row.T.coded.code (held_before t.reads) c.find-word.result.1 c.from_residual.result finds.2.1 c.in_err-found.was c.from_residual.ensures,
      finds_found finds.0 core.unit c.learn.new.self c.find-word.new.pass c.find-word.result.0 t,
    )

pub returns : goal.returns
returns g c =
    let core = c.args.self.now in let n : Name = words_book core.parts.now.words in let finds = c.find-word.ensures.finds in let t = finds.2.0 in let held : Option ℕ = held_before t.reads in
    let lasting = c.of-lasting.ensures in let l : Lasting = c.of-lasting.result in
    let made = guard_finds n core.number core.unit core.seen (core.its, core.known) c.args.link finds.0 finds.1.1 c.args.pass.now c.learn.new.self c.learn.ensures c.find-word.new.pass c.find-word.result.0 t in
    let found = finds_found finds.0 core.unit c.learn.new.self c.find-word.new.pass c.find-word.result.0 t in
    let book : c.find-word.new.pass.name ≡ n = made.same.0 ∙ sym c.requires.of.0.0 in let read = is_read core.unit c.find-word.new.pass l n held book lasting.1 found in (
      held,
      subst (λ (p : Pass). MakesOne c.args.pass.now p (ReadLink core.number c.args.link) (Held held)) (sym lasting.0) made,
      shows_found n g.row.T.coded.code held c.find-word.result.1 c.in_ok-found.found c.show.result finds.2.2 c.in_ok-found.was (c.show.ensures.0, c.show.ensures.1, ap (λ (x : Lasting). x.name) c.show.ensures.2 ∙ lasting.1.0 ∙ book)
          (subst (λ (x : Lasting). (v : ℕ) → held ≡ Some v → Reader (start n) x.seen v x.life) (sym c.show.ensures.2) read),
      subst (FoundIn core.unit held) (sym lasting.0) found,
    )
