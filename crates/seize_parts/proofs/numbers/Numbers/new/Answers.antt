use Rattle.std.proofs.Common.{length, refl, sym, ap, ◌∙◌, arith}
use Rattle.seize_parts.proofs.Numbered.{slots_new}
use Rattle.seize_parts.proofs.numbers.Numbers.new.Goals as goal

pub returns-clause-numbers : goal.returns-clause-numbers
returns-clause-numbers g c =
    let key = c.requires.key in let next = c.requires.next in let book = c.again.ensures.0 in let rest = c.new-3.ensures.0 in let kept = c.new-2.ensures.items in (
      (
        slots_new _ c.args.next (key.0 ∙ sym book) key.1 key.2 c.new.ensures.items refl kept (rest.0 ∙ c.requires.pass ∙ sym book, rest.1) refl (next.1, next.2),
        λ i less. let none = ap (λ items. length items) kept in absurd (omega (arith, less, none)),
      ),
      λ i less. absurd (omega (arith, less)),
      book,
    )
