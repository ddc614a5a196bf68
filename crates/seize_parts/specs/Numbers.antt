-- What lies behind the lock of a collector's numbers.
--     flags_of slots           which numbers are in use: those in whose place there is no slot
--     NoneBelow n slots        no slot lies in a place before n;  KnowsLeast numbers     in none before the one where the search begins
--     IsFreeAt name i slot     it is slot i of the list, and its number is free;  IsKeptAt name i slot     it is in use, and inactive
--     AreEachAt Is slots           each of these is such a one, in its place
--     IsNextSlotOf numbers next    the slot that comes next is of the list of the numbers' key, and comes after all that were made
--     AreSlots numbers         the key knows that just these numbers are in use, and what slots left; the slots of the others lie there,
--                              and it is known how many; those that are kept are in use; and the next one is there
--     AreNumbers numbers       so others find them: none is kept
--     TookAgain pass slot pass'     a slot that was made before took its number again (SlotTakes), and this is what it is then
--     HasTaken words pass pass' slot begun     the slot's number was taken with the pass, by the event `Take`; where the pass is alone,
--                              that is the only entry of the list since (MakesAlone). The slot is in use, and inactive, and its key knows
--                              all that the pass has seen; where a call has begun, it took its number again
--     HasGathered words slot pass slot' pass'     the slot began to gather, so that its call is under way, and is inactive
--     TakesNone pass pass' refusal     no number was taken, for want of memory, and the pass made nothing (IsUnmoved)
--     IsLockFor words numbers  they are of the list of these words;  MayEnd words slot     the slot is in use, and inactive
--     MayGiveBack numbers slot     another slot is in use, or nothing is left, as the keys know
use Rattle.std.specs.Prelude.{◌≡◌, ◌<◌, ℕ, Bool, false, true, map, List, length, Option, Some, None, get_or, is_some}
use Rattle.std.specs.List.{count_by}
use Rattle.std.specs.Option.{is_none}
use Rattle.seize_machine.specs.Machine.Event.{Take}
use Rattle.seize_machine.specs.Machine.State.{no_slot}
use Rattle.seize_machine.specs.declared.machine.event.Answer.{Answer}
use Rattle.seize_machine.specs.declared.machine.event.Answer.TheVariants.{Done}
use Rattle.seize_table.specs.declared.refusal.Refusal.{Refusal}
use Rattle.seize_table.specs.declared.refusal.Refusal.TheVariants.{NoMemory}
use Rattle.seize_book.specs.Others.{MayGive, use_flags}
use Rattle.seize_book.specs.Slots.{own_list, slot_of}
use Rattle.seize_book.specs.Tokens.{IsSole, Name}
use Rattle.seize_book.specs.declared.book.numbers_key.NumbersKey.{NumbersKey}
use Rattle.seize_book.specs.declared.book.pass.Pass.{Pass}
use Rattle.seize_words.specs.Joined.{words_book}
use Rattle.seize_words.specs.Named.{numbers_book, slot_book}
use Rattle.seize_words.specs.Reserved.{comes_next, next_key}
use Rattle.seize_words.specs.Totals.{made_of}
use Rattle.seize_words.specs.declared.slots.next.NextSlot.{NextSlot}
use Rattle.seize_words.specs.declared.words.Words.{Words}
use Rattle.seize_calls.specs.Slots.{IsInUse, IsInactive, IsOfList, IsRestIn, IsSlotOf, IsTakenAs, SlotGathers, SlotTakes, its_key, its_number, seen_book}
use Rattle.seize_calls.specs.declared.slot.Slot.{Slot}
use Rattle.seize_alone.specs.Events.{MakesAlone}
use Rattle.seize_parts.specs.Makes.{MakesNone, MakesOne}
use Rattle.seize_parts.specs.Places.{IsUnmoved}
use Rattle.seize_parts.specs.declared.numbers.Numbers.{Numbers}

abbrev pub flags_of : {X : Type 0} → List (Option X) → List Bool
flags_of slots = map is_none slots

abbrev pub NoneBelow : {X : Type 0} → ℕ → List (Option X) → Type 0
NoneBelow n slots = (i : ℕ) → i < n → is_some (get_or slots i None) ≡ false

pub record IsFreeAt {T : Type 0} (name : Name) (i : ℕ) (slot : Slot T) : Type 0 where
  pub its : IsOfList name slot
  pub number : its_number slot ≡ i
  pub inactive : IsInactive slot
  pub free : slot_of (its_key slot) ≡ no_slot

pub record IsKeptAt {T : Type 0} (name : Name) (i : ℕ) (slot : Slot T) : Type 0 where
  pub its : IsOfList name slot
  pub number : its_number slot ≡ i
  pub inactive : IsInactive slot
  pub used : IsInUse slot

abbrev pub AreEachAt : {T : Type 0} → (ℕ → Slot T → Type 0) → List (Option (Slot T)) → Type 0
AreEachAt {T} Is slots = (i : ℕ) (slot : Slot T) → get_or slots i None ≡ Some slot → Is i slot

abbrev pub IsNextSlotOf : NumbersKey → NextSlot → Type 0
IsNextSlotOf numbers next = (comes_next next ≡ made_of numbers) × (slot_book (next_key next) ≡ numbers_book numbers)

pub record AreSlots {T : Type 0} (numbers : Numbers T) : Type 0 where
  pub book : numbers_book numbers.key ≡ numbers.book.name
  pub flags : use_flags numbers.key ≡ flags_of numbers.slots.items
  pub slots : AreEachAt (IsFreeAt numbers.book.name) numbers.slots.items
  pub free : numbers.free ≡ count_by is_some numbers.slots.items
  pub kept : AreEachAt (IsKeptAt numbers.book.name) numbers.kept.items
  pub many : length numbers.kept.items ≡ length numbers.slots.items
  pub rest : IsRestIn numbers.book.name numbers.key numbers.rest
  pub next : NextSlot
  pub is_there : numbers.next ≡ Some next
  pub comes : IsNextSlotOf numbers.key next

abbrev pub AreNumbers : {T : Type 0} → Numbers T → Type 0
AreNumbers numbers = AreSlots numbers × NoneBelow (length numbers.kept.items) numbers.kept.items

abbrev pub KnowsLeast : {T : Type 0} → Numbers T → Type 0
KnowsLeast numbers = NoneBelow numbers.least numbers.slots.items

abbrev pub TookAgain : {T : Type 0} → Pass → Slot T → Pass → Type 0
TookAgain {T} pass slot pass' =
    (before : Slot T) × IsOfList (seen_book slot) before × (its_number before ≡ its_number slot) × SlotTakes before pass slot pass'

pub record HasTaken {T : Type 0} (words : Words T) (pass pass' : Pass) (slot : Slot T) (begun : Bool) : Type 0 where
  pub its : IsTakenAs begun words slot
  pub inactive : IsInactive slot
  pub takes : MakesOne pass pass' (Take (its_number slot)) Done
  pub alone : IsSole pass.id → (answer : Answer) × MakesAlone pass pass' (Take (its_number slot)) answer
  pub took : begun ≡ true → TookAgain pass slot pass'
  pub sees : own_list (its_key slot) ≡ pass'.seen

pub record HasGathered {T : Type 0} (words : Words T) (slot : Slot T) (pass : Pass) (slot' : Slot T) (pass' : Pass) : Type 0 where
  pub its : IsTakenAs true words slot'
  pub inactive : IsInactive slot'
  pub gathers : SlotGathers slot pass slot' pass'

abbrev pub TakesNone : Pass → Pass → Refusal → Type 0
TakesNone pass pass' refusal = MakesNone pass pass' × IsUnmoved pass pass' × (refusal ≡ NoMemory)

abbrev pub IsLockFor : {T : Type 0} → Words T → Numbers T → Type 0
IsLockFor words numbers = numbers.book.name.family ≡ (words_book words).family

abbrev pub MayGiveBack : {T : Type 0} → Numbers T → Slot T → Type 0
MayGiveBack numbers slot = MayGive numbers.key (its_key slot)

abbrev pub MayEnd : {T : Type 0} → Words T → Slot T → Type 0
MayEnd words slot = IsSlotOf words slot × IsInactive slot
