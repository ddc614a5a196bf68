-- The stores of the blocks inside a value, and those of each block there.
use Rattle.std.proofs.Common.{◌≡◌, ℕ, List, All, refl, sym, ◌∙◌}
use Rattle.std.proofs.lemmas.List.Elements.{All-same}
use Rattle.seize.specs.Blocks.{HoldsOnly, Belongs, owners_in}
use Rattle.seize.proofs.Contents.{each_belongs, owners_of_each, owners_map}
use Rattle.seize_script.specs.Values.{owners_of, owners_step}
use Rattle.seize_script.specs.declared.value.Value.{Value}
use Rattle.seize_script.specs.declared.value.Value.TheViews.{out-Value, roll-Value}
use Rattle.seize_script.specs.declared.value.Value.TheFolds.{fold_out-Value, fold-roll-Value}
use Rattle.seize_script.specs.declared.value.Value.TheOpen.{Value-F}

owners_out : (value : Value) → owners_of value ≡ owners_in owners_of (out-Value value).inside.items
owners_out value = fold_out-Value (List (List ℕ)) owners_step value ∙ owners_map owners_of _ (λ owned. (refl, refl)) (out-Value value).inside.items

-- a value whose blocks all lie in one store holds blocks there alone
pub inside_belongs : (value : Value) (store : List ℕ) → HoldsOnly owners_of store value → All (Belongs owners_of store) (out-Value value).inside.items
inside_belongs value store only =
    each_belongs owners_of store (out-Value value).inside.items
    (All-same (λ owner. owner ≡ store) (owners_in owners_of (out-Value value).inside.items) (owners_of value) (sym (owners_out value)) only)

owners_made : (made : Value-F Value) → owners_of (roll-Value made) ≡ owners_in owners_of made.inside.items
owners_made made = fold-roll-Value (List (List ℕ)) owners_step made ∙ owners_map owners_of _ (λ owned. (refl, refl)) made.inside.items

-- and a value made of blocks in one store holds blocks there alone
pub holds_only : (made : Value-F Value) (store : List ℕ) → All (Belongs owners_of store) made.inside.items → HoldsOnly owners_of store (roll-Value made)
holds_only made store each =
    All-same (λ owner. owner ≡ store) (owners_of (roll-Value made)) (owners_in owners_of made.inside.items) (owners_made made)
    (owners_of_each owners_of store made.inside.items each)
