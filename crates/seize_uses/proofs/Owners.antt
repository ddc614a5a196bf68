-- The stores of the blocks inside a value, and those of each block there.
use Rattle.std.proofs.Common.{◌≡◌, ℕ, List, All, refl, sym, ◌∙◌}
use Rattle.std.proofs.lemmas.List.Elements.{All-same}
use Rattle.seize.specs.Blocks.{HoldsOnly, Belongs, owners_in}
use Rattle.seize.proofs.Contents.{each_belongs, owners_of_each, owners_map}
use Rattle.seize_uses.specs.Nests.{nest_owners, nest_owners_step}
use Rattle.seize_uses.specs.declared.nest.Nest.{Nest}
use Rattle.seize_uses.specs.declared.nest.Nest.TheOpen.{Nest-F}
use Rattle.seize_uses.specs.declared.nest.Nest.TheViews.{out-Nest, roll-Nest}
use Rattle.seize_uses.specs.declared.nest.Nest.TheFolds.{fold_out-Nest, fold-roll-Nest}

owners_out : (value : Nest) → nest_owners value ≡ owners_in nest_owners (out-Nest value).inside.items
owners_out value = fold_out-Nest (List (List ℕ)) nest_owners_step value ∙ owners_map nest_owners _ (λ owned. (refl, refl)) (out-Nest value).inside.items

-- each block inside lies in the one store where all blocks inside lie
pub inside_belongs : (value : Nest) (store : List ℕ) → HoldsOnly nest_owners store value → All (Belongs nest_owners store) (out-Nest value).inside.items
inside_belongs value store only =
    each_belongs nest_owners store (out-Nest value).inside.items
    (All-same (λ owner. owner ≡ store) (owners_in nest_owners (out-Nest value).inside.items) (nest_owners value) (sym (owners_out value)) only)

owners_made : (made : Nest-F Nest) → nest_owners (roll-Nest made) ≡ owners_in nest_owners made.inside.items
owners_made made = fold-roll-Nest (List (List ℕ)) nest_owners_step made ∙ owners_map nest_owners _ (λ owned. (refl, refl)) made.inside.items

-- and a value made of blocks in one store holds blocks there alone
pub holds_only : (made : Nest-F Nest) (store : List ℕ) → All (Belongs nest_owners store) made.inside.items → HoldsOnly nest_owners store (roll-Nest made)
holds_only made store each =
    All-same (λ owner. owner ≡ store) (nest_owners (roll-Nest made)) (owners_in nest_owners made.inside.items) (owners_made made)
    (owners_of_each nest_owners store made.inside.items each)
