-- The words in which the contracts of headers speak. A block's header has two fields beside its count: the next block of a slot's list, and
-- the first block of the batch.
--     field_number field, IsFieldOf field key, IsFieldOfBook field pass     which field it is;  it is the key's;  it is of the pass's book
--     next_of key, first_of key         what was last stored in the next and in the first field of the block with which the slot's call is
--                                       about to insert its batch (`written_of`)
--     Stores which f key                f is that field of that block, which is `next_field` or `first_field`
--     MayStore field key, Wrote field key key' value     it is one of them;  the value was stored there, and not in the other
--     Passes which f key                the slot's call is about to count down the next batch of its walk, and f is that field of the block
--                                       with which this was inserted
--     field_seen field pass             what was last stored in the field, in the list that the pass has seen
--     MayLoad field key, ShowsField field key v     it is one of them;  v leads on through the rest of the walk, or to the batch's first
--                                       block: then the batch has a front, and this is the number of its block (IsFrontBlock)
--     HasWritten key next batch         these are stored: this next, and the first block of this batch
--     Uses key pass key' pass' f v      the entry was noted: the slot stored this in the field; and its record is as it was, and so is
--                                       whether it is active, and its last activation
use Rattle.std.specs.Prelude.{◌≡◌, ℕ, List, [], ◌∷◌, ◌++◌, Some, unwrap_or, ◌⊎◌}
use mathlib.Core.List.{IsPrefix}
use Rattle.seize_machine.specs.Machine.State.{State, Rest, Try, slot_at}
use Rattle.seize_book.specs.Blocks.{block_for, block_number, front_of, list_word, plans}
use Rattle.seize_book.specs.Book.{after}
use Rattle.seize_book.specs.Chains.{field_value, first_field, front_block, insertion_value, next_field}
use Rattle.seize_book.specs.Entry.{Entry, Used}
use Rattle.seize_book.specs.Homes.{home_of}
use Rattle.seize_book.specs.Passes.{IsSamePass}
use Rattle.seize_book.specs.Private.{key_of}
use Rattle.seize_book.specs.Slots.{IsAfter, active_of, acts_of, life_of, own_list, slot_number, slot_of, start_of, written_of}
use Rattle.seize_book.specs.Tokens.{AddsEntry}
use Rattle.seize_book.specs.declared.book.field_key.FieldKey.{FieldKey}
use Rattle.seize_book.specs.declared.book.pass.Pass.{Pass}
use Rattle.seize_book.specs.declared.book.slot_key.SlotKey.{SlotKey}
use Rattle.seize_words.specs.declared.header.Field.{Field}

abbrev pub field_number : Field → ℕ
field_number field = field.word.number

abbrev pub IsFieldOf : Field → FieldKey → Type 0
IsFieldOf field key = (field.word.name ≡ key.keys.name) × (field_number field ≡ key_of key.keys.held)

abbrev pub IsFieldOfBook : Field → Pass → Type 0
IsFieldOfBook field pass = field.word.name ≡ pass.name

-- Before an insertion.

abbrev pub next_of : SlotKey → ℕ
next_of key = (unwrap_or (written_of key) (0, 0)).0

abbrev pub first_of : SlotKey → ℕ
first_of key = (unwrap_or (written_of key) (0, 0)).1

-- where the list was `own` at the last entry of slot s
pub record IsStoring (st : State) (s : ℕ) (own : List Entry) (which : ℕ → ℕ) (f : ℕ) : Type 0 where
  pub batch : ℕ
  pub won : ℕ
  pub at : ℕ
  pub later : List ℕ
  pub saw : List ℕ
  pub queue : List ℕ
  pub trying : (slot_at (after st own) s).call ≡ Some (record { place = Try batch won at later saw; queue = queue })
  pub its : f ≡ which (home_of (insertion_value (plans st own) batch at))

abbrev pub Stores : (ℕ → ℕ) → ℕ → SlotKey → Type 0
Stores which f key = IsStoring (start_of key) (slot_number key) (own_list key) which f

abbrev pub MayStore : Field → SlotKey → Type 0
MayStore field key = Stores next_field (field_number field) key ⊎ Stores first_field (field_number field) key

abbrev pub Wrote : Field → SlotKey → SlotKey → ℕ → Type 0
Wrote field key key' value =
    (Stores next_field (field_number field) key → written_of key' ≡ Some (value, first_of key))
    × (Stores first_field (field_number field) key → written_of key' ≡ Some (next_of key, value))

abbrev pub HasWritten : SlotKey → ℕ → ℕ → Type 0
HasWritten key next batch = written_of key ≡ Some (next, front_block (plans (start_of key) (own_list key)) batch)

-- In a walk.

pub record IsPassing (st : State) (s : ℕ) (own : List Entry) (which : ℕ → ℕ) (f : ℕ) : Type 0 where
  pub batch : ℕ
  pub walk : List ℕ
  pub queue : List ℕ
  pub walking : (slot_at (after st own) s).call ≡ Some (record { place = Rest [] (batch ∷ walk); queue = queue })
  pub its : f ≡ which (home_of (insertion_value (plans st own) batch s))

abbrev pub Passes : (ℕ → ℕ) → ℕ → SlotKey → Type 0
Passes which f key = IsPassing (start_of key) (slot_number key) (own_list key) which f

abbrev pub MayLoad : Field → SlotKey → Type 0
MayLoad field key = Passes next_field (field_number field) key ⊎ Passes first_field (field_number field) key

abbrev pub field_seen : Field → Pass → ℕ
field_seen field pass = field_value pass.seen (field_number field)

-- it is the number of the block of the batch's first value
abbrev pub IsFrontBlock : SlotKey → ℕ → ℕ → Type 0
IsFrontBlock key b v = (front : ℕ) × (front_of (start_of key) (own_list key) b ≡ Some front) × (v ≡ block_number front)

abbrev pub ShowsField : Field → SlotKey → ℕ → Type 0
ShowsField field key v =
    ((w : Passes next_field (field_number field) key)
    → v ≡ list_word (λ b. block_for (start_of key) (own_list key) b (slot_number key)) w.walk)
    × ((w : Passes first_field (field_number field) key) → IsFrontBlock key w.batch v)

-- The entry.

abbrev pub using : SlotKey → Pass → ℕ → ℕ → Entry
using key pass f v = Used (record { pass = pass.id; slot = slot_number key; field = f; value = v })

pub record Uses (key : SlotKey) (pass : Pass) (key' : SlotKey) (pass' : Pass) (f v : ℕ) : Type 0 where
  pub same : IsSamePass pass pass'
  pub seen_by : IsAfter key pass' key'
  pub noted : AddsEntry pass.name pass.id pass.seen pass'.seen (using key pass f v)
  pub knew : IsPrefix (own_list key) noted.before
  pub slot : slot_of key' ≡ slot_of key
  pub active : active_of key' ≡ active_of key
  pub life : life_of key' ≡ life_of key
  pub acts : acts_of key' ≡ acts_of key ++ (using key pass f v, noted.answer) ∷ []
