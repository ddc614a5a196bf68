use Rattle.std.proofs.Common.{rules, ◌≡◌, ◌∙◌}
use Rattle.seize.specs.Alones.{IsSame}
use Rattle.seize_alone_rows.proofs.random.swap_new.Goals as goal
use Rattle.seize_alone_rows.proofs.random.swap_new.Goals.{then-below-gt0+in_ok-block, else-below-gt0}

-- the exchange is refused: the collector is as it was when the block, if there is one, was made
pub returns : goal.returns
returns g c =
    let made : IsSame c.args.alone.now c.if-below-gt0.alone = elim c.if-below-gt0.branch [ then-below-gt0+in_ok-block w ↦ search rules | else-below-gt0 w ↦ search rules ] in
    let swapped : IsSame c.if-below-gt0.alone c.swap.new.self = search rules in
    (swapped.0 ∙ made.0, swapped.1 ∙ made.1, swapped.2 ∙ made.2, swapped.3 ∙ made.3, swapped.4 ∙ made.4)
