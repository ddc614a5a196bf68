-- What a slot's holder keeps of the slot's batch: the keys of its values. Which block comes next, and at which slot the batch is to be
-- inserted with a block, is noted of the blocks themselves.
--     keys_in batch            the keys of its values, in order
--     slot_in g                what a note of this code says of the slot
--     SlotMark                 a value's block, and the slot that is noted of it
--     slot_marks_of held, slot_marks_in batch    those of the values whose keys these are, in order, or of a batch;  marked_slots marks
--                                      the slots
--     without_slots held       the keys, with all that is noted but the slots
--     AreRemarked keys keys'   they are the same keys, and all that is noted is the same but the slots
--     IsPushed keys v kept keys'    one value more comes last, of which this is kept
--     LeadsFrom keys number keys'   they are the same keys, and the last one leads on to the block of this number
--     IsNewValue value         its value was never named, all that lay in its block before were reclaimed, and something is lent with
--                              it, as AreNew says of several
use Rattle.std.specs.Prelude.{◌≡◌, ℕ, true, map, List, [], ◌∷◌, ◌++◌}
use base.Stored.{Gv, gnil, gnum, gcons}
use Rattle.seize_book.specs.Blocks.{block_number}
use Rattle.seize_book.specs.Entry.{Entry}
use Rattle.seize_book.specs.Kept.{kepts_of}
use Rattle.seize_book.specs.Ledger.{HeldKey}
use Rattle.seize_book.specs.Linked.{are_joined}
use Rattle.seize_book.specs.Others.{book_of}
use Rattle.seize_book.specs.Values.{AllNew, book_in, values_of}
use Rattle.seize_book.specs.declared.book.value_key.ValueKey.{ValueKey}
use Rattle.seize_book.specs.declared.book.value_keys.ValueKeys.{ValueKeys}
use Rattle.seize_calls.specs.declared.batch.Batch.{Batch}

abbrev pub keys_in : Batch → ValueKeys
keys_in batch = batch.values

-- What is noted of them.

abbrev pub slot_in : Gv → ℕ
slot_in (gcons a (gcons (gnum m) g)) = m
slot_in g = 0

pub record SlotMark : Type 0 where
  pub block : ℕ
  pub slot : ℕ

abbrev pub slot_marks_of : List (HeldKey Entry) → List SlotMark
slot_marks_of held = map (λ h. record { block = block_number h.label; slot = slot_in h.note }) held

abbrev pub slot_marks_in : Batch → List SlotMark
slot_marks_in batch = slot_marks_of batch.values.keys.held

abbrev pub marked_slots : List SlotMark → List ℕ
marked_slots marks = map (λ mark. mark.slot) marks

abbrev pub without_slot : Gv → Gv
without_slot gnil = gnil
without_slot (gnum n) = gnum n
without_slot (gcons a gnil) = gcons a gnil
without_slot (gcons a (gnum n)) = gcons a (gnum n)
without_slot (gcons a (gcons b g)) = gcons a g

abbrev pub without_slots : List (HeldKey Entry) → List (HeldKey Entry)
without_slots held = map (λ h. record { kind = h.kind; key = h.key; own = h.own; label = h.label; note = without_slot h.note }) held

abbrev pub AreRemarked : ValueKeys → ValueKeys → Type 0
AreRemarked keys keys' = (book_in keys' ≡ book_in keys) × (without_slots keys'.keys.held ≡ without_slots keys.keys.held)

abbrev pub IsPushed : ValueKeys → ℕ → ℕ → ValueKeys → Type 0
IsPushed keys v kept keys' =
    (book_in keys' ≡ book_in keys) × (values_of keys' ≡ values_of keys ++ v ∷ []) × (kepts_of keys' ≡ kepts_of keys ++ kept ∷ [])

abbrev pub LeadsFrom : ValueKeys → ℕ → ValueKeys → Type 0
LeadsFrom keys number keys' =
    (book_in keys' ≡ book_in keys) × (values_of keys' ≡ values_of keys) × (kepts_of keys' ≡ kepts_of keys)
    × ((h : HeldKey Entry) → block_number h.label ≡ number → are_joined keys'.keys.held (h ∷ []) ≡ true)

abbrev pub IsNewValue : ValueKey → Type 0
IsNewValue value = AllNew (book_of value) value.keys.held
