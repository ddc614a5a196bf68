-- Chains: the batches that wait for a slot, or that its call walks, lead on from block to block. Each lies there as the block with which
-- it was inserted. The header of a block has two words that are stored before an insertion with it is tried, its fields: the next block of
-- the list, as a head's word would show the rest of the list, and the number of the batch's first block, with which the count stands.
--     field_value log f             what was last stored in field f, and 0 where nothing was;  uses f e     the entry is a use of it
--     next_field k, first_field k   the two fields of the block with home k, by numbers that no other field has
--     insertion_value ps b m        the value with which batch b is inserted at slot m, by the plans
--     front_block ps b              the number of the first block of batch b. A batch that is held has values, and a slot for which it
--                                   waits, that walks it or for which it is about to be inserted has its place among them (`Marked` in
--                                   `proofs/Serves`), so that the 0 which stands for none is never asked for there
--     FieldsLeadOn ps field_value m b bs   the fields of the block for batch b at slot m lead to these batches, and to the batch's first
--                                          block
--     IsChain ps field_value m bs   the fields, as they were last written (`field_value`), lead through these batches of slot m
--     HasChains st ps field_value     so they do through the batches that wait for each slot, and those that its call walks
--     Leads st ps field_value event   where the event is an insertion that is won, the block inserted leads on through what waited there
--     IsWriting st ps s f           slot s is about to try to insert a batch, and f is a field of the block for it
--     IsLed st ps field_value e     the entry keeps chains: an insertion won leads on, and what is stored, is in such a field
--     insertion_fields st ps field_value s   what was last stored in the fields of the block that slot s is about to insert, next and first
use Rattle.std.specs.Prelude.{◌≡◌, ℕ, suc, ◌*◌, ◌==◌, Bool, false, if◌then◌else◌, List, [], ◌∷◌, Option, Some, None, ◌⊎◌, slice_index_or, unwrap_or}
use Rattle.seize_machine.specs.Machine.State.{State, Place, Active, Try, slot_at, head_at, waiting_at}
use Rattle.seize_machine.specs.Machine.Event.{Event, Insert}
use Rattle.seize_machine.specs.Machine.Next.{of_call}
use Rattle.seize_machine.specs.Machine.History.{first_or_none}
use Rattle.seize_machine.specs.Machine.Laws.{walk_of}
use Rattle.seize_machine.specs.declared.machine.event.Try.TheVariants.{Won}
use Rattle.seize_book.specs.Blocks.{Plan, block_number, list_word, no_plan, plan_value}
use Rattle.seize_book.specs.Entry.{Entry, Made, Used}
use Rattle.seize_book.specs.Homes.{home_of}

abbrev pub uses : ℕ → Entry → Bool
uses f (Made d) = false
uses f (Used u) = u.field == f

abbrev pub field_value_after : ℕ → ℕ → Entry → ℕ
field_value_after f v (Made d) = v
field_value_after f v (Used u) = if u.field == f then u.value else v

abbrev pub field_value_from : ℕ → ℕ → List Entry → ℕ
field_value_from f v [] = v
field_value_from f v (e ∷ log) = field_value_from f (field_value_after f v e) log

abbrev pub field_value : List Entry → ℕ → ℕ
field_value log f = field_value_from f 0 log

abbrev pub next_field : ℕ → ℕ
next_field k = 2 * k

abbrev pub first_field : ℕ → ℕ
first_field k = suc (2 * k)

abbrev pub insertion_value : List Plan → ℕ → ℕ → ℕ
insertion_value ps b m = let plan = slice_index_or ps b no_plan in plan_value m plan.slots plan.values

abbrev pub front_block : List Plan → ℕ → ℕ
front_block ps b = block_number (unwrap_or (first_or_none (slice_index_or ps b no_plan).values) 0)

-- the fields of the block for batch b at slot m lead to these batches, and to the batch's first block
abbrev pub FieldsLeadOn : List Plan → (ℕ → ℕ) → ℕ → ℕ → List ℕ → Type 0
FieldsLeadOn ps field_value m b bs =
    (field_value (next_field (home_of (insertion_value ps b m))) ≡ list_word (λ c. block_number (insertion_value ps c m)) bs)
    × (field_value (first_field (home_of (insertion_value ps b m))) ≡ front_block ps b)

abbrev pub IsChain : List Plan → (ℕ → ℕ) → ℕ → List ℕ → Type 0
IsChain ps field_value m [] = Unit {0}
IsChain ps field_value m (b ∷ bs) = FieldsLeadOn ps field_value m b bs × IsChain ps field_value m bs

abbrev pub HasChains : State → List Plan → (ℕ → ℕ) → Type 0
HasChains st ps field_value =
    (m : ℕ) → IsChain ps field_value m (waiting_at (head_at st m)) × IsChain ps field_value m (walk_of (slot_at st m).call)

abbrev pub Leads : State → List Plan → (ℕ → ℕ) → Event → Type 0
Leads st ps field_value (Insert s m Won) =
    (b won : ℕ) (later saw queue waiting : List ℕ) → (slot_at st s).call ≡ Some (record { place = Try b won m later saw; queue = queue })
    → head_at st m ≡ Active waiting → FieldsLeadOn ps field_value m b waiting
Leads st ps field_value _ = Unit {0}

pub record IsWriting (st : State) (ps : List Plan) (s f : ℕ) : Type 0 where
  pub batch : ℕ
  pub won : ℕ
  pub at : ℕ
  pub later : List ℕ
  pub saw : List ℕ
  pub queue : List ℕ
  pub trying : (slot_at st s).call ≡ Some (record { place = Try batch won at later saw; queue = queue })
  pub its : (f ≡ next_field (home_of (insertion_value ps batch at))) ⊎ (f ≡ first_field (home_of (insertion_value ps batch at)))

abbrev pub IsLed : State → List Plan → (ℕ → ℕ) → Entry → Type 0
IsLed st ps field_value (Made d) = Leads st ps field_value d.event
IsLed st ps field_value (Used u) = IsWriting st ps u.slot u.field

abbrev pub written_at : List Plan → (ℕ → ℕ) → Place → List ℕ → Option (ℕ × ℕ)
written_at ps field_value (Try b won m later saw) queue =
    let k = home_of (insertion_value ps b m) in Some (field_value (next_field k), field_value (first_field k))
written_at ps field_value _ queue = None

abbrev pub insertion_fields : State → List Plan → (ℕ → ℕ) → ℕ → Option (ℕ × ℕ)
insertion_fields st ps field_value s = of_call (written_at ps field_value) (slot_at st s).call
