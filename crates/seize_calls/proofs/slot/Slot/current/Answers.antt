use Rattle.std.proofs.Common.{sym, subst, ◌∙◌}
use Rattle.seize_book.specs.declared.book.pass.Pass.{Pass}
use Rattle.seize_words.specs.Activations.{IsLasting}
use Rattle.seize_calls.specs.Slots.{SlotLooks}
use Rattle.seize_calls.proofs.Current.{current_active, current_in}
use Rattle.seize_calls.proofs.slot.Slot.current.Goals as goal

pub returns-clause-within : goal.returns-clause-within
returns-clause-within g c =
    let s = c.args.self.now in let s' = c.look.new.self in let of = c.requires.of in let unit = c.requires.unit in
    let looks = c.look.ensures.looks in let named = of.0.0.book ∙ of.1.0 in let a = c.args.unit.now in
    let lasts = subst (IsLasting a) c.lasts.ensures.0 c.lasts.ensures.1 in (
      current_active s s' c.args.pass.now c.look.new.pass looks named a unit.0 unit.1 lasts,
      current_in s s' c.args.pass.now c.look.new.pass looks named a unit.0 unit.1 lasts,
    )

pub returns-clause-looks : goal.returns-clause-looks
returns-clause-looks g c = subst (λ (q : Pass). SlotLooks c.args.self.now c.args.pass.now c.look.new.self q) (sym c.lasts.ensures.0) c.look.ensures.looks
