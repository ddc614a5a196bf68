use Rattle.std.proofs.Common.{ℕ, Option, ap, arith, sym, subst, ◌∙◌}
use Rattle.seize_book.specs.Blocks.{link_word}
use Rattle.seize_words.specs.LinkWords.{held_before, value_held}
use Rattle.seize_book.specs.Tokens.{Name}
use Rattle.seize_book.specs.declared.book.pass.Pass.{Pass}
use Rattle.seize_parts.specs.Enders.{IsEnderIn}
use Rattle.seize_guards.specs.Links.{ComesOut}
use Rattle.seize_guards.proofs.Allowing.{allows_any}
use Rattle.seize_guards.proofs.Found.{swap_found}
use Rattle.seize_guards.proofs.Guarded.{guard_swaps}
use Rattle.seize_guards.proofs.Readable.{swapped_readable}
use Rattle.seize_words.specs.Joined.{words_book}
use Rattle.seize_guards.proofs.guard.common.GuardCore.swap.Goals as goal

pub for_swap-permit-requires : goal.for_swap-permit-requires
for_swap-permit-requires g c = record {
  ender = subst (λ (n : Name). IsEnderIn n c.ender-2.result.now) (sym (ap (λ (p : Pass). p.name) c.name-new.ensures.pass ∙ c.learn.ensures.0.0 ∙ sym c.requires.of.0.0)) c.ender-2.ensures;
  rule = allows_any g.row.T.coded.code g.R.Puts.keeps c.args.link c.args.value (value_held c.name-new.result.1) c.name-new.ensures.named c.requires.rule;
}

pub found-requires : goal.found-requires
found-requires g c =
    let core = c.args.self.now in let swaps = c.swap_link-old.ensures.swaps in let s = swaps.2 in let key = c.name-new.result.1 in let key' = c.swap_link-old.new.value in
    (omega arith, (s.0.found ∙ sym (ap link_word s.2), ((s.3, s.1 ∙ c.name-new.ensures.new.0), λ loose is. swapped_readable swaps.0 core.unit key c.name-new.new.pass key' c.swap_link-old.new.pass c.swap_link-old.result loose s is)))

pub returns-clause-made : goal.returns-clause-made
returns-clause-made g c =
    let core = c.args.self.now in let swaps = c.swap_link-old.ensures.swaps in let s = swaps.2 in let key = c.name-new.result.1 in let key' = c.swap_link-old.new.value in (
      value_held key,
      held_before s.0,
      c.name-new.ensures.named,
      subst (λ (o : Option ℕ). ComesOut o c.found.result) s.2 c.found.ensures.out,
      guard_swaps (words_book core.parts.now.words) core.number core.unit core.seen (core.its, core.known) c.args.link swaps.0 swaps.1.1 c.args.pass.now c.learn.new.self c.learn.ensures key c.name-new.new.pass key' c.swap_link-old.new.pass
          c.swap_link-old.result c.name-new.ensures.pass s,
      swap_found swaps.0 core.unit key c.name-new.new.pass key' c.swap_link-old.new.pass c.swap_link-old.result s,
    )
