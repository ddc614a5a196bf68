-- What contracts see of blocks in hand. `code` is the code of the collector's element type, by which a name says a value.
--     content owned             the value of a block in hand;  owned_store owned     the store where it lies
--     content_of block          the value of the block, if there is one
--     HoldsOnly owners store v  each block inside the value v lies in this store: one that `owners` (of `Puts`) names
--     Belongs owners store owned     the block lies in this store, with each block inside it
--     owners_in owners blocks   the stores of these blocks, and of the blocks inside them
--     HasContent code v value   what the list calls v is a block with this content
--     IsNamed code owned o      o is what the list calls the value of this block, or there is neither
--     LooseComesOut held loose  what came out is what the link held, or there is neither
use Rattle.std.specs.Prelude.{◌≡◌, ℕ, ◌∷◌, All, Option, None, Some, List}
use Rattle.std.specs.List.{flat_map}
use base.Stored.{Gv}
use Rattle.seize_store.specs.Named as store
use Rattle.seize_words.specs.Chunks.{IsLentAs}
use Rattle.seize_calls.specs.Slots.{its_value}
use Rattle.seize_calls.specs.declared.slot.Loose.{Loose}
use Rattle.seize_parts.specs.declared.block.owned.Owned.{Owned}

abbrev pub content : {T : Type 0} → Owned T → T
content owned = store.owned_value owned.block

abbrev pub content_of : {T : Type 0} → Option (Owned T) → Option T
content_of (Some owned) = Some (content owned)
content_of None = None

abbrev pub owned_store : {T : Type 0} → Owned T → List ℕ
owned_store owned = store.store_of owned.block

abbrev pub HoldsOnly : {T : Type 0} → (T → List (List ℕ)) → List ℕ → T → Type 0
HoldsOnly owners store value = All (λ owner. owner ≡ store) (owners value)

abbrev pub Belongs : {T : Type 0} → (T → List (List ℕ)) → List ℕ → Owned T → Type 0
Belongs owners store owned = (owned_store owned ≡ store) × HoldsOnly owners store (content owned)

abbrev pub owners_in : {T : Type 0} → (T → List (List ℕ)) → List (Owned T) → List (List ℕ)
owners_in owners blocks = flat_map (λ owned. owned_store owned ∷ owners (content owned)) blocks

abbrev pub HasContent : {T : Type 0} → (T → Gv) → ℕ → T → Type 0
HasContent code v value = IsLentAs v (code value)

abbrev pub IsNamed : {T : Type 0} → (T → Gv) → Option (Owned T) → Option ℕ → Type 0
IsNamed code (Some owned) (Some v) = HasContent code v (content owned)
IsNamed code None None = Unit {0}
IsNamed code _ _ = ⊥

abbrev pub LooseComesOut : Option ℕ → Option Loose → Type 0
LooseComesOut held (Some loose) = held ≡ Some (its_value loose)
LooseComesOut held None = held ≡ None
