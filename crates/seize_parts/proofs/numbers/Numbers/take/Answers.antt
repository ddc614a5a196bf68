use Rattle.std.proofs.Common.{◌≡◌, Bool, length, ap, refl, sym, subst, ◌∙◌, arith}
use Rattle.seize_calls.specs.declared.slot.Slot.{Slot}
use Rattle.seize_book.specs.declared.book.pass.Pass.{Pass}
use Rattle.seize_parts.specs.Numbers.{AreNumbers, HasTaken, KnowsLeast, NoneBelow}
use Rattle.seize_parts.specs.declared.numbers.Numbers.{Numbers}
use Rattle.seize_parts.proofs.Numbered.{slots_still}
use Rattle.seize_parts.proofs.numbers.Numbers.take.Goals.{in-Some, in-None+in_ok-make-in-None}
use Rattle.seize_parts.proofs.numbers.Numbers.take.Goals as goal

pub again-requires : goal.again-requires
again-requires g c =
    let numbers = c.requires.numbers in let are = numbers.0.0 in
    (omega arith, ((slots_still c.args.self.now are _ are.next are.next are.is_there (refl, refl, refl) refl refl refl refl refl are.is_there refl, numbers.1), (c.requires.pass, sym c.first-first.ensures ∙ c.in-Some.is)))

pub make-requires : goal.make-requires
make-requires g c =
    let numbers = c.requires.numbers in let are = numbers.0.0 in
    (omega arith, (((slots_still c.args.self.now are _ are.next are.next are.is_there (refl, refl, refl) refl refl refl refl refl are.is_there refl, numbers.0.1), numbers.1), (c.requires.pass, (sym c.first-first.ensures ∙ c.in-None.is, c.requires.least))))

pub returns-clause-numbers : goal.returns-clause-numbers
returns-clause-numbers g c =
    let self = c.args.self.now in elim c.match-first.branch [
      | in-Some w ↦ subst (λ (numbers : Numbers g.row.T.Denot). AreNumbers numbers × (numbers.book ≡ self.book) × KnowsLeast numbers) (sym w.self-is) (
        (w.again.ensures.numbers.0, subst (λ kept. NoneBelow (length kept.items) kept.items) (sym w.again.ensures.places.1) c.requires.numbers.0.1),
        w.again.ensures.numbers.1,
        w.again.ensures.numbers.2,
      )
      | in-None+in_ok-make-in-None w ↦ subst (λ (numbers : Numbers g.row.T.Denot). AreNumbers numbers × (numbers.book ≡ self.book) × KnowsLeast numbers) (sym w.self-is) w.make.ensures.numbers
    ]

pub returns-clause-made : goal.returns-clause-made
returns-clause-made g c = (
  elim c.match-first.branch [
    | in-Some w ↦ subst (λ (t : Pass × (Slot g.row.T.Denot × Bool)). HasTaken c.args.words.now c.args.pass.now t.0 t.1.0 t.1.1) (λ j. (sym w.pass-is j, sym w.slot-is j)) w.again.ensures.made.0
    | in-None+in_ok-make-in-None w ↦ subst (λ (t : Pass × (Slot g.row.T.Denot × Bool)). HasTaken c.args.words.now c.args.pass.now t.0 t.1.0 t.1.1) (λ j. (sym w.pass-is j, sym w.slot-is j)) w.in_ok-make-in-None.ensures.made
  ],
  c.in-Ok.ensures.shelf ∙ c.args.self.now.shelved ∙ ap (λ n. n.family) c.requires.numbers.1,
)
