-- What is known where a pass is alone, and slots in use that nobody has are kept, attempt their batches and give their numbers back.
--     KeepsOthers s st st'     the records of all slots but s, and whether they are active, are as they were, and so are all links
--     IsLedBy s pass pass'     it is so, and what was added to the list was made with this pass, where that is alone (AddsAlone)
--     HasSameLinks pass pass'  each link holds what it held;  KeepsOn pass pass'     and this is the same pass, with a list that goes on
--     IsOff pass s, AreOff pass     slot s is not active, as the pass has seen, or none is
--     KeepsOff pass pass'      each slot that is not active stays so;  KeepsActive pass pass'     each is active just where it was
--     KeepsIdle pass pass'     each slot that has no call has none
--     KeepsPlaces numbers numbers'     the list is the same, slots lie and are kept in the same places, and so the search begins where it
--                              did
--     LiesHere numbers i       the slot of number i lies there or is kept;  KeepsHere numbers numbers'     the list is the same, as many
--                              slots were made, and what lay there or was kept does so still
--     KeepsFree numbers numbers'     the list is the same, just those slots lie there that lay there, and so the search begins where it did
--     HaveEmptyBatches slots           each of these slots has an empty batch
--     StandsInUse st v         v stands in the batch of a slot whose number is in use
--     Sweeps pass pass' all    it is the same pass. The list goes on with entries of this pass alone, where that is alone. The links are
--                              as they were, and a number that is in use then was so before. It says `all` just where no number is in use;
--                              then each slot is as if it had never been made, and each value that was ever retired is reclaimed.
--                              If no slot had a call or was active, so it is afterwards. If no slot has or is, each retired value is
--                              reclaimed, or stands in the batch of a slot whose number is in use
use Rattle.std.specs.Prelude.{◌≡◌, ◌⊎◌, ◌↔◌, ℕ, Bool, true, false, List, [], Option, None, Some, get_or, is_some, length}
use Rattle.std.specs.List.{Contains}
use Rattle.seize_machine.specs.Machine.History.{Reclaimed, Retired}
use Rattle.seize_machine.specs.Machine.Laws.{is_quiet}
use Rattle.seize_machine.specs.Machine.State.{State, head_at, is_active, link_at, no_slot, slot_at}
use Rattle.seize_book.specs.Homesteads.{state_seen}
use Rattle.seize_book.specs.Passes.{IsSamePass}
use Rattle.seize_book.specs.Porters.{GoesOnTo}
use Rattle.seize_book.specs.declared.book.pass.Pass.{Pass}
use Rattle.seize_book.specs.Values.{values_of}
use Rattle.seize_calls.specs.Alone.{AddsAlone}
use Rattle.seize_calls.specs.Slots.{its_batch}
use Rattle.seize_calls.specs.declared.slot.Slot.{Slot}
use mathlib.Core.List.{IsPrefix}
use Rattle.seize_parts.specs.Laws.{moments_seen}
use Rattle.seize_parts.specs.Numbers.{flags_of}
use Rattle.seize_parts.specs.declared.numbers.Numbers.{Numbers}

pub record KeepsOthers (s : ℕ) (st st' : State) : Type 0 where
  pub slots : (t : ℕ) → ¬ (t ≡ s) → slot_at st' t ≡ slot_at st t
  pub active : (t : ℕ) → ¬ (t ≡ s) → is_active (head_at st' t) ≡ is_active (head_at st t)
  pub links : (l : ℕ) → link_at st' l ≡ link_at st l

pub record IsLedBy (s : ℕ) (pass pass' : Pass) : Type 0 where
  pub same : IsSamePass pass pass'
  pub grows : IsPrefix pass.seen pass'.seen
  pub adds : AddsAlone pass pass'
  pub leads : KeepsOthers s (state_seen pass) (state_seen pass')

abbrev pub HasSameLinks : Pass → Pass → Type 0
HasSameLinks pass pass' = (l : ℕ) → link_at (state_seen pass') l ≡ link_at (state_seen pass) l

-- the same pass, with a list that goes on and changes no link
abbrev pub KeepsOn : Pass → Pass → Type 0
KeepsOn pass pass' = IsSamePass pass pass' × IsPrefix pass.seen pass'.seen × HasSameLinks pass pass' × AddsAlone pass pass'

abbrev pub IsOff : Pass → ℕ → Type 0
IsOff pass s = is_active (head_at (state_seen pass) s) ≡ false

abbrev pub AreOff : Pass → Type 0
AreOff pass = (s : ℕ) → IsOff pass s

abbrev pub KeepsOff : Pass → Pass → Type 0
KeepsOff pass pass' = (s : ℕ) → IsOff pass s → IsOff pass' s

abbrev pub KeepsActive : Pass → Pass → Type 0
KeepsActive pass pass' = (s : ℕ) → is_active (head_at (state_seen pass') s) ≡ is_active (head_at (state_seen pass) s)

abbrev pub KeepsIdle : Pass → Pass → Type 0
KeepsIdle pass pass' = (s : ℕ) → (slot_at (state_seen pass) s).call ≡ None → (slot_at (state_seen pass') s).call ≡ None

abbrev pub KeepsPlaces : {T : Type 0} → Numbers T → Numbers T → Type 0
KeepsPlaces numbers numbers' =
    (numbers'.book ≡ numbers.book) × (flags_of numbers'.slots.items ≡ flags_of numbers.slots.items)
    × (flags_of numbers'.kept.items ≡ flags_of numbers.kept.items) × (numbers'.least ≡ numbers.least)

abbrev pub LiesHere : {T : Type 0} → Numbers T → ℕ → Type 0
LiesHere numbers i = (is_some (get_or numbers.slots.items i None) ≡ true) ⊎ (is_some (get_or numbers.kept.items i None) ≡ true)

abbrev pub KeepsHere : {T : Type 0} → Numbers T → Numbers T → Type 0
KeepsHere numbers numbers' =
    (numbers'.book ≡ numbers.book) × (length numbers'.slots.items ≡ length numbers.slots.items)
    × ((i : ℕ) → LiesHere numbers i → LiesHere numbers' i)

abbrev pub KeepsFree : {T : Type 0} → Numbers T → Numbers T → Type 0
KeepsFree numbers numbers' =
    (numbers'.book ≡ numbers.book) × (numbers'.slots.items ≡ numbers.slots.items) × (numbers'.least ≡ numbers.least)

abbrev pub HaveEmptyBatches : {T : Type 0} → List (Option (Slot T)) → Type 0
HaveEmptyBatches {T} slots = (i : ℕ) (slot : Slot T) → get_or slots i None ≡ Some slot → values_of (its_batch slot) ≡ []

abbrev pub StandsInUse : State → ℕ → Type 0
StandsInUse st v = (s : ℕ) × ((slot_at st s).used ≡ true) × Contains (slot_at st s).batch v

pub record Sweeps (pass pass' : Pass) (all : Bool) : Type 0 where
  pub same : IsSamePass pass pass'
  pub goes_on : GoesOnTo pass.name pass.seen pass'.seen
  pub adds : AddsAlone pass pass'
  pub links : HasSameLinks pass pass'
  pub numbers : (s : ℕ) → (slot_at (state_seen pass') s).used ≡ true → (slot_at (state_seen pass) s).used ≡ true
  pub none_in_use : (all ≡ true) ↔ ((s : ℕ) → (slot_at (state_seen pass') s).used ≡ false)
  pub cleared : all ≡ true → (s : ℕ) → (slot_at (state_seen pass') s ≡ no_slot) × IsOff pass' s
  pub reclaimed : all ≡ true → (v q : ℕ) → Retired (moments_seen pass') v q → (k : ℕ) × Reclaimed (moments_seen pass') v k
  pub quiet : is_quiet (state_seen pass) ≡ true → is_quiet (state_seen pass') ≡ true
  pub rests : is_quiet (state_seen pass') ≡ true → (v q : ℕ) → Retired (moments_seen pass') v q
      → ((k : ℕ) × Reclaimed (moments_seen pass') v k) ⊎ StandsInUse (state_seen pass') v
