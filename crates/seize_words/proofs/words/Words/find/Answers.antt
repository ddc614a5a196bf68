use Rattle.std.proofs.Common.{ℕ, ◌-◌, Option, sym, ap, subst, ◌∙◌, arith, is_some}
use Rattle.seize_words.specs.Chunks.{IsFoundAt}
use Rattle.seize_machine.specs.Machine.Event.{ReadLink}
use Rattle.seize_words.specs.LinkWords.{Finds, held_before, link_number}
use Rattle.seize_words.specs.declared.glimpse.Glimpse.{Glimpse}
use Rattle.seize_words.proofs.Facts.{glimpse_found}
use Rattle.seize_words.proofs.Joined.{holds_none, holds_some, looks_here}
use Rattle.seize_words.proofs.words.Words.find.Goals as goal

pub returns-then-word-eq0 : goal.returns-then-word-eq0
returns-then-word-eq0 g c =
    let sees = c.read_link-word.ensures.sees in let mid = c.read_link-word.new.pass in let reads = sees.2.0 in
    let found : Finds sees.0 c.args.activation.now c.args.pass.now mid c.read_link-word.result.0 = record { mid = mid; reads = reads; looks = looks_here c.args.pass.now mid _ reads.same reads.noted } in
    record { finds = (sees.0, sees.1, (found, sym (ap is_some (holds_none (held_before reads) (sym reads.found ∙ c.if-word-eq0.true))), tt)) }

pub see-value-requires : goal.see-value-requires
see-value-requires g c =
    let words = c.args.self.now in let sees = c.read_link-word.ensures.sees in let mid = c.read_link-word.new.pass in let found = c.read_link-word.result in
    (omega arith, (c.requires.book ∙ sym sees.2.0.same.0, subst (λ (o : Option ℕ). IsFoundAt o (found.0 - 1) mid) (sym c.again.ensures.1) (glimpse_found sees.0 c.args.activation.now c.args.pass.now mid (ReadLink c.args.activation.now.slot (link_number sees.0)) found.0 found.1 sees.2.0 sees.2.1 c.if-word-eq0.false)))

pub returns : goal.returns
returns g c =
    let sees = c.read_link-word.ensures.sees in let reads = sees.2.0 in let looks = c.see-value.ensures.looks in let again = c.again.ensures in
    let found : Finds sees.0 c.args.activation.now c.args.pass.now c.see-value.new.pass c.read_link-word.result.0 = record { mid = c.read_link-word.new.pass; reads = reads; looks = looks } in
    let code = c.see-value.ensures.code in let name = ap (λ (g : Glimpse). g.value) again.0 in
    record { finds = (sees.0, sees.1, (found, sym (holds_some (held_before reads) (λ none. c.if-word-eq0.false (reads.found ∙ none))), (name ∙ sees.2.1, (code.0, name ∙ sym again.1 ∙ code.1, code.2)))) }
