-- What a value weighs: more than the values inside it together.
use Rattle.std.proofs.Common.{◌≡◌, ℕ, ◌+◌, ◌<◌, map, sum, ap, refl, ◌∙◌, arith}
use Rattle.seize.proofs.Contents.{contents_map}
use Rattle.seize_uses.specs.Nests.{nested_in, nest_weight_step, nest_weight}
use Rattle.seize_uses.specs.declared.nest.Nest.{Nest}
use Rattle.seize_uses.specs.declared.nest.Nest.TheViews.{out-Nest}
use Rattle.seize_uses.specs.declared.nest.Nest.TheFolds.{fold_out-Nest}

weight_out : (value : Nest) → nest_weight value ≡ sum (map nest_weight (nested_in value)) + 1
weight_out value =
    fold_out-Nest ℕ nest_weight_step value ∙ ap (λ weights. sum weights + 1)
    (contents_map nest_weight _ (λ owned. refl) (out-Nest value).inside.items)

pub nested_lighter : (value : Nest) → sum (map nest_weight (nested_in value)) < nest_weight value
nested_lighter value = omega (arith, weight_out value)
