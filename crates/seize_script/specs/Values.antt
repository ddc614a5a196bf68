-- The values in a value's brackets, and what a value weighs: 1, and what the values in its brackets weigh.
use Rattle.std.specs.Prelude.{ℕ, ◌+◌, List, map, sum}
use Rattle.seize.specs.Blocks.{content, owners_in}
use Rattle.seize_script.specs.declared.value.Value.{Value}
use Rattle.seize_script.specs.declared.value.Value.TheOpen.{Value-F}
use Rattle.seize_script.specs.declared.value.Value.TheViews.{out-Value}
use Rattle.seize_script.specs.declared.value.Value.TheFolds.{fold-Value}

-- the values in the brackets, in their order
abbrev pub inside_of : Value → List Value
inside_of value = map content (out-Value value).inside.items

-- one value, with the weight of each value in its brackets in its place
abbrev pub weight_step : Value-F ℕ → ℕ
weight_step value = sum (map content value.inside.items) + 1

abbrev pub weight_of : Value → ℕ
weight_of = fold-Value ℕ weight_step

-- the stores of the blocks in the brackets, however deep
abbrev pub owners_step : Value-F (List (List ℕ)) → List (List ℕ)
owners_step value = owners_in (λ owners. owners) value.inside.items

abbrev pub owners_of : Value → List (List ℕ)
owners_of = fold-Value (List (List ℕ)) owners_step
