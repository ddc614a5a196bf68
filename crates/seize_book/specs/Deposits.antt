-- Deposits: the keys of a retired batch's values stand beside its count from when its call has added the insertions won until the count
-- comes to 0. Then whoever brought it there has them.
--     is_with_call slots b     a call has detached batch b, and has still to add the insertions won
--     deposit st k         the values whose keys stand beside the count of the block with home k: those of the batch whose first value lies
--                          there, where nobody has still to add to its count. A batch that was given up has no values
use Rattle.std.specs.Prelude.{ℕ, suc, Bool, not, ◌&&◌, if◌then◌else◌, List, [], ◌∷◌, ◌++◌}
use Rattle.std.specs.List.{list_any}
use Rattle.seize_machine.specs.Machine.State.{State, Batch, Slot}
use Rattle.seize_machine.specs.Machine.Laws.{detached_by}
use Rattle.seize_book.specs.Homes.{is_in}
pub use Rattle.seize_machine.specs.Machine.Frames.{is_number}

abbrev pub is_with_call : List Slot → ℕ → Bool
is_with_call slots b = list_any (λ slot. is_number b (detached_by slot.call)) slots

-- of the batches from number b on
abbrev pub deposit_from : List Slot → ℕ → ℕ → List Batch → List ℕ
deposit_from slots k b [] = []
deposit_from slots k b (batch ∷ batches) =
    (if is_in k batch && not (is_with_call slots b) then batch.values else []) ++ deposit_from slots k (suc b) batches

abbrev pub deposit : State → ℕ → List ℕ
deposit st k = deposit_from st.slots k 0 st.batches
