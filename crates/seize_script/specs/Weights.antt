-- What a value weighs: more than the values in its brackets together.
use Rattle.std.proofs.Common.{◌≡◌, ℕ, ◌+◌, ◌<◌, map, sum, ap, refl, ◌∙◌, arith}
use Rattle.seize.proofs.Contents.{contents_map}
use Rattle.seize_script.specs.Values.{inside_of, weight_step, weight_of}
use Rattle.seize_script.specs.declared.value.Value.{Value}
use Rattle.seize_script.specs.declared.value.Value.TheViews.{out-Value}
use Rattle.seize_script.specs.declared.value.Value.TheFolds.{fold_out-Value}

weight_out : (value : Value) → weight_of value ≡ sum (map weight_of (inside_of value)) + 1
weight_out value =
    fold_out-Value ℕ weight_step value ∙ ap (λ weights. sum weights + 1)
    (contents_map weight_of _ (λ owned. refl) (out-Value value).inside.items)

pub inside_lighter : (value : Value) → sum (map weight_of (inside_of value)) < weight_of value
inside_lighter value = omega (arith, weight_out value)
