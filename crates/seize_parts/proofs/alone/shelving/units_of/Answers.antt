use Rattle.std.proofs.Common.{◌≡◌, ℕ, ap, ◌∙◌}
use Rattle.seize_words.specs.Activations.{with_units}
use Rattle.seize_words.specs.Joined.{words_book}
use Rattle.seize_calls.specs.Slots.{its_number}
use Rattle.seize_parts.proofs.Shelved.{unit_beside}
use Rattle.seize_parts.proofs.alone.shelving.units_of.Goals as goal
use Rattle.seize_parts.proofs.alone.shelving.units_of.Goals.{then-guards-gt1, else-guards-gt1}

pub returns-clause-units : goal.returns-clause-units
returns-clause-units g c =
    let words = c.args.words.now in let unit = c.args.unit in let is = c.requires.unit in
    let same : (k : ℕ) × (c.if-guards-gt1.unit ≡ with_units unit.unit k) =
    elim c.if-guards-gt1.branch [
      | then-guards-gt1 w ↦ (_, w.unit-is ∙ w.join.ensures)
      | else-guards-gt1 w ↦ (unit.unit.units, w.unit-is)
    ] in
    (ap (λ name. name.family) is.0.0.book, unit_beside (words_book words) (its_number c.args.r.now.slot) unit.number unit.unit c.if-guards-gt1.unit same.0 unit.seen same.1 is.0 is.1)
