-- What a value holds, and what it weighs: 1, and what the values inside it weigh.
use Rattle.std.specs.Prelude.{ℕ, ◌+◌, List, map, sum}
use Rattle.seize.specs.Blocks.{content, owners_in}
use Rattle.seize_uses.specs.declared.nest.Nest.{Nest}
use Rattle.seize_uses.specs.declared.nest.Nest.TheOpen.{Nest-F}
use Rattle.seize_uses.specs.declared.nest.Nest.TheViews.{out-Nest}
use Rattle.seize_uses.specs.declared.nest.Nest.TheFolds.{fold-Nest}

-- the values inside, in their order
abbrev pub nested_in : Nest → List Nest
nested_in value = map content (out-Nest value).inside.items

-- one value, with the weight of each value inside in its place
abbrev pub nest_weight_step : Nest-F ℕ → ℕ
nest_weight_step value = sum (map content value.inside.items) + 1

abbrev pub nest_weight : Nest → ℕ
nest_weight = fold-Nest ℕ nest_weight_step

-- the stores of the blocks inside, however deep
abbrev pub nest_owners_step : Nest-F (List (List ℕ)) → List (List ℕ)
nest_owners_step value = owners_in (λ owners. owners) value.inside.items

abbrev pub nest_owners : Nest → List (List ℕ)
nest_owners = fold-Nest (List (List ℕ)) nest_owners_step
