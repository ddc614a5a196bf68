use Rattle.std.proofs.Common.{IfSome, is_some, refl, sym, ap, subst, ◌∙◌, arith}
use Rattle.seize_words.specs.Chunks.{blocks_book}
use Rattle.seize_words.specs.LinkWords.{link_book}
use Rattle.seize_words.specs.Stands.{LeadsToBlock}
use Rattle.seize_words.specs.declared.glimpse.Glimpse.{Glimpse}
use Rattle.seize_words.proofs.Stands.{leads}
use Rattle.seize_words.proofs.words.Words.peek_link.Goals as goal

pub overflow_sub-word : goal.overflow_sub-word
overflow_sub-word g c =
    let s = c.requires.stands in let link = c.get.result.now in let told = c.peek.ensures.held s.0 (c.get.ensures.stands s.0 s.1) in
    let some = sym told.0 ∙ ap is_some c.in_ok-word.was in let to = subst (λ o. IfSome o (λ f. LeadsToBlock (link_book link) s.0 f.0 f.1 f.2)) c.in_ok-word.was told.1 in
    let is = (leads (link_book link) (link_book link) s.0 c.in_ok-word.word c.in_ok-word.row c.in_ok-word.glimpse refl some to).5 in
    omega (arith, is)

pub see_in-value-requires : goal.see_in-value-requires
see_in-value-requires g c =
    let words = c.args.self.now in let s = c.requires.stands in let link = c.get.result.now in let told = c.peek.ensures.held s.0 (c.get.ensures.stands s.0 s.1) in
    let some = sym told.0 ∙ ap is_some c.in_ok-word.was in let to = subst (λ o. IfSome o (λ f. LeadsToBlock (link_book link) s.0 f.0 f.1 f.2)) c.in_ok-word.was told.1 in
    let v = leads (link_book link) (blocks_book words.blocks) s.0 c.in_ok-word.word c.in_ok-word.row c.in_ok-word.glimpse (c.get.ensures.at.0 ∙ words.linked) some to in let is = v.5 in
    (omega arith, (v.0, c.again.ensures.1 ∙ v.2, v.3, v.4, omega (arith, is)))

pub returns : goal.returns
returns g c = record {
  held = λ held stands. let link = c.get.result.now in let told = c.peek.ensures.held held (c.get.ensures.stands held stands) in let code = c.see_in-value.ensures.code in
      let to = subst (λ o. IfSome o (λ f. LeadsToBlock (link_book link) held f.0 f.1 f.2)) c.in_ok-word.was told.1 in
      (sym (ap is_some c.in_ok-word.was) ∙ told.0, (to.0, ap (λ (t : Glimpse). t.value) c.again.ensures.0 ∙ to.1, (code.0, sym to.1 ∙ sym c.again.ensures.1 ∙ code.1, code.2)));
}
