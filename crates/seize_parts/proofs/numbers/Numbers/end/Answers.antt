use Rattle.std.proofs.Common.{refl, sym, subst}
use Rattle.seize_calls.specs.Slots.{IsRestIn}
use Rattle.seize_parts.proofs.Numbered.{slots_gathered}
use Rattle.seize_parts.proofs.numbers.Numbers.end.Goals as goal

pub returns-clause-numbers : goal.returns-clause-numbers
returns-clause-numbers g c =
    let self = c.args.self.now in let numbers = c.requires.numbers in let one = c.gather in (
      (
        slots_gathered self numbers.0.0 _ one.new.pass one.ensures.numbers.0 (subst (λ n. IsRestIn n one.new.numbers one.new.rest) (sym numbers.1) one.ensures.numbers.1) refl refl refl refl refl,
        numbers.0.1,
      ),
      refl,
      numbers.2,
    )
