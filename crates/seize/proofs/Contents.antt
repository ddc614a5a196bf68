-- Values that hold blocks: what their reclaimers and their makers need. `owners` says the stores of the blocks inside a value.
use Rattle.std.proofs.Common.{◌≡◌, ℕ, List, [], ◌∷◌, ◌++◌, map, refl, sym, subst, All}
use Rattle.std.proofs.Math.Path.{ap₂}
use Rattle.std.proofs.lemmas.List.Elements.{All-nil, All-cons, All-head, All-tail, All-append}
use Rattle.seize_parts.specs.Blocks.{Belongs, HoldsOnly, content, owners_in, owned_store}
use Rattle.seize_parts.specs.declared.block.owned.Owned.{Owned}

-- blocks whose contents a function changes have the contents changed by it
pub contents_map : {T U : Type 0} (f : T → U) (on_block : Owned T → Owned U) → ((owned : Owned T) → content (on_block owned) ≡ f (content owned))
    → (blocks : List (Owned T)) → map content (map on_block blocks) ≡ map f (map content blocks)
contents_map f on_block is [] = refl
contents_map f on_block is (owned ∷ blocks) = ap₂ (λ x xs. x ∷ xs) (is owned) (contents_map f on_block is blocks)

-- blocks whose contents become the stores of what they hold
pub owners_map : {T : Type 0} (owners : T → List (List ℕ)) (on_block : Owned T → Owned (List (List ℕ)))
    → ((owned : Owned T) → (owned_store (on_block owned) ≡ owned_store owned) × (content (on_block owned) ≡ owners (content owned)))
    → (blocks : List (Owned T)) → owners_in (λ inside. inside) (map on_block blocks) ≡ owners_in owners blocks
owners_map owners on_block is [] = refl
owners_map owners on_block is (owned ∷ blocks) =
    ap₂ (λ x xs. x ++ xs) (ap₂ (λ x xs. x ∷ xs) (is owned).0 (is owned).1) (owners_map owners on_block is blocks)

all_parts : {X : Type 0} (P : X → Type 0) (xs ys : List X) → All P (xs ++ ys) → All P xs × All P ys
all_parts P [] ys all = (All-nil P, all)
all_parts P (x ∷ xs) ys all =
    let rest = all_parts P xs ys (All-tail P x (xs ++ ys) all) in (All-cons P x xs (All-head P x (xs ++ ys) all) rest.0, rest.1)

module _ {T : Type 0} (owners : T → List (List ℕ)) (store : List ℕ) where
  abbrev IsOwn : List ℕ → Type 0
  IsOwn owner = owner ≡ store

  -- where the stores of the blocks and of those inside are one, each block belongs to it
  pub each_belongs : (blocks : List (Owned T)) → All (λ owner. owner ≡ store) (owners_in owners blocks) → All (Belongs owners store) blocks
  each_belongs [] all = All-nil (Belongs owners store)
  each_belongs (block ∷ blocks) all =
      let parts = all_parts IsOwn (owned_store block ∷ owners (content block)) (owners_in owners blocks) all in
      All-cons (Belongs owners store) block blocks
      (All-head IsOwn (owned_store block) (owners (content block)) parts.0, All-tail IsOwn (owned_store block) (owners (content block)) parts.0)
      (each_belongs blocks parts.1)

  -- and the other way round
  pub owners_of_each : (blocks : List (Owned T)) → All (Belongs owners store) blocks → All (λ owner. owner ≡ store) (owners_in owners blocks)
  owners_of_each [] all = All-nil IsOwn
  owners_of_each (block ∷ blocks) all =
      let first = All-head (Belongs owners store) block blocks all in
      All-append IsOwn (owned_store block ∷ owners (content block)) (owners_in owners blocks)
      (All-cons IsOwn (owned_store block) (owners (content block)) first.0 first.1) (owners_of_each blocks (All-tail (Belongs owners store) block blocks all))

  -- a block made of a value whose blocks lie in this store
  pub made_belongs : (block : Owned T) (value : T) → owned_store block ≡ store → content block ≡ value → HoldsOnly owners store value → Belongs owners store block
  made_belongs block value own is only = (own, subst (HoldsOnly owners store) (sym is) only)
