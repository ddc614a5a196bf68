use Rattle.std.proofs.Common.{◌≡◌, ℕ, Option, Some, ap, sym, subst, ◌∙◌, inr}
use Rattle.seize_book.specs.Laws.{Reader}
use Rattle.seize_book.specs.Tokens.{Name, start}
use Rattle.seize_words.specs.Chunks.{IsFoundAs}
use Rattle.seize_words.specs.declared.glimpse.Glimpse.{Glimpse}
use Rattle.seize_words.specs.declared.lasting.Lasting.{Lasting}
use Rattle.seize_words.specs.Joined.{words_book}
use Rattle.seize_guards.proofs.Found.{found_looked}
use Rattle.seize_guards.proofs.Guarded.{is_read}
use Rattle.seize_guards.proofs.guard.exchanging.shown.Goals as goal

pub returns-clause-shows : goal.returns-clause-shows
returns-clause-shows g c =
    let n : Name = words_book c.args.words.now in let held : Option ℕ = c.args.glimpse.value in let looks = c.see-value.ensures.looks in let lasting = c.of-lasting.ensures in let l : Lasting = c.of-lasting.result in
    let name = c.show.ensures.0 ∙ ap (λ (x : Glimpse). x.value) c.again.ensures.0 in
    let found = found_looked c.args.unit.now held c.args.pass.now c.see-value.new.pass (inr looks) c.requires.unit in
    let book : c.see-value.new.pass.name ≡ n = looks.same.0 ∙ sym c.requires.book in
    let read = subst (λ (x : Lasting). (v : ℕ) → held ≡ Some v → Reader (start n) x.seen v x.life) (sym c.show.ensures.2) (is_read c.args.unit.now c.see-value.new.pass l n held book lasting.1 found) in (
      name,
      (
        ap (λ (x : Lasting). x.name) c.show.ensures.2 ∙ lasting.1.0 ∙ book,
        subst (λ (t : Option ℕ × _). IsFoundAs t.0 (g.row.T.coded.code t.1)) (λ j. ((c.again.ensures.1 ∙ sym name) j, sym c.show.ensures.1 j)) c.see-value.ensures.code,
        λ v named. read v (sym name ∙ named),
      ),
    )
