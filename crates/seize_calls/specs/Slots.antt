-- The words in which the contracts of a slot as one value speak.
--     IsOfList n slot          it is a slot of the list with this name, in use or not. What its key knows was seen, and so was for each
--                              value in its batch which word is kept of it;  IsOfWords words slot     of the list of these words
--     IsInUse slot             its number is in use, and no call of it is under way
--     IsToAttempt slot         its number is in use, and its call is to read the first head, with nothing in its queue
--     IsInactive slot, IsActive slot     it is inactive, or active: as its key knows
--     IsSlotOf words slot      it is a slot of these words, in use;  IsFreeSlotOf words slot     its number went back, and it is inactive.
--                              Both are of the slot's value alone, so no event of others ends them
--     IsTakenAs begun words slot     it is a slot of these words in use, of which a call is under way that attempts its batch, or not
--     IsRestIn n numbers rest  these are the values that slots left, as the key of the numbers knows, and for each it was seen which word
--                              is kept of it
--     its_number slot, seen_book slot, its_key slot, its_batch slot, its_seen slot     its number, its book, its key, the keys of its
--                              batch, and what its passes have seen
--     IsItsHead slot head      it is the slot's own head
--     KeepsCalls slot slot'    all these are the same
--     its_spots slot           its list of spots
--     MakesOneSlot numbers next pass numbers' slot next' pass'     the slot was made (MakesNextSlot), and has seen what the pass has
--     SetsUse numbers pass' numbers' slot used     the key of the numbers follows, and which are in use is as before, but for this slot's
--     KeepsUse numbers pass' numbers'     so it follows, and they are in use as before
--     MayEnterWith slot a      the slot is inactive, and it is an activation of it, with all units
--     InActivation slot a      the slot is active, and this is its activation, which has begun, as was seen
--     HasActivation slot a     and with all units
--     KeepsActivation slot slot'     it is in its activation still
--     IsLooseOf words loose    it is a value of their book, which may be retired;  its_value loose     its name
--     IsLooseIn key loose      it is the value whose key this is, which may be retired;  IsLooseAs value loose     so it is
--     loose_book loose         its book;  IsReadable loose     something is lent with it, which can be read
--     Prepares slot pass ready     the pass has seen what the slot had seen, a legal list, and nothing was made with it
--     CallsWith slot pass slot' pass' Does     once the pass was ready, and had seen what the slot's key knew, this was done. It is the
--                              same slot, and has seen what the pass has
--     SlotEnters, SlotRetires, SlotFlushes, SlotLeaves, SlotRefreshes     so a call of the slot did, with this pass and with what the
--                              reclaimer had: see `RetiresOne`, `Flushes` and `Leaves`;  SlotGoes stays slot pass life had slot' pass' had'
--                              left or refreshed, by whether it stays active
--     SlotGives, SlotTakes, SlotGathers     its number went back by the event `Give`, or was taken again by `Take`; or it began to gather
--     SlotResumes              a call that a take or a gathering began went on to its return (Resumes)
--     SlotLooks slot pass slot' pass'     pass and key looked at the list, where the slot is as its key knew; it keeps its batch
use Rattle.std.specs.Prelude.{◌≡◌, ℕ, Bool, true, false, List, Some, slice_set}
use mathlib.Core.List.{IsPrefix}
use Rattle.seize_machine.specs.Machine.Event.{Begin, Enter, Give, SwapOut, Take}
use Rattle.seize_machine.specs.Machine.State.{is_idle, no_slot}
use Rattle.seize_machine.specs.declared.machine.event.Job.TheVariants.{Gather}
use Rattle.seize_store.specs.declared.spot.Spots.{Spots}
use Rattle.seize_book.specs.Book.{IsLegalList}
use Rattle.seize_book.specs.Entry.{Entry}
use Rattle.seize_book.specs.Kept.{AreTold, AreToldIn}
use Rattle.seize_book.specs.Lending.{IsLentKey}
use Rattle.seize_book.specs.Others.{FollowsNumbers, MayRetire, book_of, numbers_saw, rest_of, use_flags, value_of}
use Rattle.seize_book.specs.Passes.{IsSamePass, MadeNone}
use Rattle.seize_book.specs.Slots.{AddsDeed, AddsEvent, LooksWithSlotKey, active_of, life_of, own_list, slot_number, slot_of}
use Rattle.seize_book.specs.Tokens.{IsSole, Name, start}
use Rattle.seize_book.specs.declared.book.numbers_key.NumbersKey.{NumbersKey}
use Rattle.seize_book.specs.declared.book.pass.Pass.{Pass}
use Rattle.seize_book.specs.declared.book.slot_key.SlotKey.{SlotKey}
use Rattle.seize_book.specs.declared.book.value_key.ValueKey.{ValueKey}
use Rattle.seize_book.specs.declared.book.value_keys.ValueKeys.{ValueKeys}
use Rattle.seize_book.specs.Values.{book_in, values_of}
use Rattle.seize_words.specs.Activations.{HasAllUnits}
use Rattle.seize_words.specs.Joined.{words_book}
use Rattle.seize_words.specs.LinkWords.{value_held}
use Rattle.seize_words.specs.Named.{head_book}
use Rattle.seize_words.specs.Reservations.{IsOfSlot, beginning, slot as head_slot}
use Rattle.seize_words.specs.Reserved.{MakesNextSlot}
use Rattle.seize_words.specs.declared.activation.Activation.{Activation}
use Rattle.seize_words.specs.declared.chunk.Header.{Header}
use Rattle.seize_words.specs.declared.chunk.Part.{Part}
use Rattle.seize_words.specs.declared.slots.next.NextSlot.{NextSlot}
use Rattle.seize_words.specs.Walks.{Knows}
use Rattle.seize_words.specs.declared.link.MaybeKey.{MaybeKey}
use Rattle.seize_words.specs.declared.reservation.Head.{Head}
use Rattle.seize_words.specs.declared.words.Words.{Words}
use Rattle.seize_calls.specs.Batches.{keys_in}
use Rattle.seize_calls.specs.Calls.{BeginsToAttempt, Flushes, HasBegun, Leaves, Resumes, RetiresOne, job_of, life_when}
use Rattle.seize_calls.specs.Handing.{Had}
pub use Rattle.seize_calls.specs.Together.{IsPassOf}
use Rattle.seize_calls.specs.Together.{what_saw}
use Rattle.seize_calls.specs.declared.batch.Batch.{Batch}
use Rattle.seize_calls.specs.declared.slot.Loose.{Loose}
use Rattle.seize_calls.specs.declared.slot.Slot.{Slot}

pub record IsOfList {T : Type 0} (n : Name) (slot : Slot T) : Type 0 where
  pub book : slot.seen.name ≡ n
  pub knows : Knows slot.holder.key (what_saw slot.seen)
  pub told : AreTold (keys_in slot.holder.batch) (what_saw slot.seen)

abbrev pub IsOfWords : {T : Type 0} → Words T → Slot T → Type 0
IsOfWords words slot = IsOfList (words_book words) slot

abbrev pub IsInUse : {T : Type 0} → Slot T → Type 0
IsInUse slot = is_idle (slot_of slot.holder.key) ≡ true

abbrev pub IsToAttempt : {T : Type 0} → Slot T → Type 0
IsToAttempt slot = ((slot_of slot.holder.key).used ≡ true) × BeginsToAttempt slot.holder.key

abbrev pub IsActive : {T : Type 0} → Slot T → Type 0
IsActive slot = active_of slot.holder.key ≡ true

abbrev pub IsInactive : {T : Type 0} → Slot T → Type 0
IsInactive slot = active_of slot.holder.key ≡ false

abbrev pub IsSlotOf : {T : Type 0} → Words T → Slot T → Type 0
IsSlotOf words slot = IsOfWords words slot × IsInUse slot

abbrev pub IsFreeSlotOf : {T : Type 0} → Words T → Slot T → Type 0
IsFreeSlotOf words slot = IsOfWords words slot × (slot_of slot.holder.key ≡ no_slot) × IsInactive slot

abbrev pub IsTakenAs : {T : Type 0} → Bool → Words T → Slot T → Type 0
IsTakenAs true words slot = IsOfWords words slot × IsToAttempt slot
IsTakenAs false words slot = IsSlotOf words slot

pub record IsRestIn (n : Name) (numbers : NumbersKey) (rest : Batch) : Type 0 where
  pub book : book_in (keys_in rest) ≡ n
  pub values : values_of (keys_in rest) ≡ rest_of numbers
  pub told : AreToldIn (numbers_saw numbers) (keys_in rest).keys.held

abbrev pub its_number : {T : Type 0} → Slot T → ℕ
its_number slot = slot.number

abbrev pub seen_book : {T : Type 0} → Slot T → Name
seen_book slot = slot.seen.name

abbrev pub its_key : {T : Type 0} → Slot T → SlotKey
its_key slot = slot.holder.key

abbrev pub its_batch : {T : Type 0} → Slot T → ValueKeys
its_batch slot = keys_in slot.holder.batch

abbrev pub its_spots : {T : Type 0} → Slot T → Spots Header Part T
its_spots slot = slot.holder.spots

abbrev pub its_seen : {T : Type 0} → Slot T → List Entry
its_seen slot = slot.seen.seen

abbrev pub IsItsHead : {T : Type 0} → Slot T → Head → Type 0
IsItsHead slot head = (head_book head ≡ slot.seen.name) × (head_slot head ≡ slot.number)

abbrev pub KeepsCalls : {T : Type 0} → Slot T → Slot T → Type 0
KeepsCalls slot slot' =
    (slot'.number ≡ slot.number) × (its_key slot' ≡ its_key slot) × (slot'.holder.batch ≡ slot.holder.batch) × (slot'.seen ≡ slot.seen)

abbrev pub MakesOneSlot : {T : Type 0} → NumbersKey → NextSlot → Pass → NumbersKey → Slot T → NextSlot → Pass → Type 0
MakesOneSlot numbers next pass numbers' slot next' pass' =
    MakesNextSlot numbers next pass numbers' slot.holder.key next' pass' × (slot.seen.seen ≡ pass'.seen)

abbrev pub SetsUse : {T : Type 0} → NumbersKey → Pass → NumbersKey → Slot T → Bool → Type 0
SetsUse numbers pass' numbers' slot used =
    FollowsNumbers numbers pass' numbers' × (use_flags numbers' ≡ slice_set (use_flags numbers) slot.number used)

abbrev pub KeepsUse : NumbersKey → Pass → NumbersKey → Type 0
KeepsUse numbers pass' numbers' = FollowsNumbers numbers pass' numbers' × (use_flags numbers' ≡ use_flags numbers)

abbrev pub MayEnterWith : {T : Type 0} → Slot T → Activation → Type 0
MayEnterWith slot a = IsInactive slot × IsOfSlot slot.holder.key a

pub record InActivation {T : Type 0} (slot : Slot T) (a : Activation) : Type 0 where
  pub active : IsActive slot
  pub its : (a.name ≡ slot.holder.key.keys.name) × (a.slot ≡ slot_number slot.holder.key) × (a.life ≡ life_of slot.holder.key)
  pub begun : HasBegun a (what_saw slot.seen)

abbrev pub HasActivation : {T : Type 0} → Slot T → Activation → Type 0
HasActivation slot a = InActivation slot a × HasAllUnits a

abbrev pub KeepsActivation : {T : Type 0} → Slot T → Slot T → Type 0
KeepsActivation slot slot' = (a : Activation) → InActivation slot a → InActivation slot' a

abbrev pub its_value : Loose → ℕ
its_value loose = value_of loose.value

abbrev pub IsLooseIn : MaybeKey → Loose → Type 0
IsLooseIn key loose =
    (book_of loose.value ≡ key.keys.name) × (value_held key ≡ Some (its_value loose)) × MayRetire loose.value

abbrev pub IsLooseAs : ValueKey → Loose → Type 0
IsLooseAs value loose = (book_of loose.value ≡ book_of value) × (its_value loose ≡ value_of value) × MayRetire loose.value

abbrev pub loose_book : Loose → Name
loose_book loose = book_of loose.value

abbrev pub IsReadable : Loose → Type 0
IsReadable loose = IsLentKey loose.value

abbrev pub IsLooseOf : {T : Type 0} → Words T → Loose → Type 0
IsLooseOf words loose = (book_of loose.value ≡ words_book words) × MayRetire loose.value

pub record Prepares {T : Type 0} (slot : Slot T) (pass ready : Pass) : Type 0 where
  pub same : IsSamePass pass ready
  pub none_made : MadeNone pass ready
  pub grows : IsPrefix pass.seen ready.seen × IsPrefix slot.seen.seen ready.seen
  pub alone : IsSole pass.id → ready.seen ≡ pass.seen
  pub legal : IsLegalList (start ready.name) ready.seen

pub record CallsWith {T : Type 0} (slot : Slot T) (pass : Pass) (slot' : Slot T) (pass' : Pass) (Does : Pass → Type 0) : Type 0 where
  pub same : (slot'.number ≡ slot.number) × (slot'.seen.name ≡ slot.seen.name)
  pub ready : Pass
  pub prepares : Prepares slot pass ready
  pub knew : IsPrefix (own_list slot.holder.key) ready.seen
  pub does : Does ready
  pub seen : slot'.seen.seen ≡ pass'.seen

abbrev pub SlotEnters : {T : Type 0} → Slot T → Pass → Activation → Slot T → Pass → Type 0
SlotEnters slot pass a slot' pass' =
    CallsWith slot pass slot' pass' (λ p. AddsDeed (its_key slot) p (its_key slot') pass' (beginning p a.life (Enter (its_number slot))))

abbrev pub SlotRetires : {T : Type 0} → Slot T → Pass → Loose → ℕ → Had → Slot T → Pass → Had → Bool → Type 0
SlotRetires slot pass loose kept had slot' pass' had' retired =
    CallsWith slot pass slot' pass' (λ p.
    RetiresOne (its_key slot) p (its_value loose) kept (its_batch slot) had (its_key slot') pass' (its_batch slot') had' retired)

abbrev pub SlotFlushes : {T : Type 0} → Slot T → Pass → Had → Slot T → Pass → Had → Bool → Type 0
SlotFlushes slot pass had slot' pass' had' retired =
    CallsWith slot pass slot' pass' (λ p.
    Flushes (its_key slot) p (its_batch slot) had (its_key slot') pass' (its_batch slot') had' retired)

-- by whether the slot stays active, and with this lifetime that it begins then
abbrev pub SlotGoes : {T : Type 0} → Bool → Slot T → Pass → ℕ → Had → Slot T → Pass → Had → Type 0
SlotGoes stays slot pass life had slot' pass' had' =
    CallsWith slot pass slot' pass' (λ p. let swap = beginning p (life_when stays life) (SwapOut (slot_number slot.holder.key)) in
    Leaves (job_of stays) stays swap (its_key slot) p (its_batch slot) had (its_key slot') pass' (its_batch slot') had')

abbrev pub SlotLeaves : {T : Type 0} → Slot T → Pass → Had → Slot T → Pass → Had → Type 0
SlotLeaves slot pass had slot' pass' had' = SlotGoes false slot pass 0 had slot' pass' had'

abbrev pub SlotRefreshes : {T : Type 0} → Slot T → Pass → Activation → Had → Slot T → Pass → Had → Type 0
SlotRefreshes slot pass a had slot' pass' had' = SlotGoes true slot pass a.life had slot' pass' had'

abbrev pub SlotGives : {T : Type 0} → Slot T → Pass → Slot T → Pass → Type 0
SlotGives slot pass slot' pass' =
    CallsWith slot pass slot' pass' (λ p. AddsEvent (its_key slot) p (its_key slot') pass' (Give (its_number slot)))

abbrev pub SlotTakes : {T : Type 0} → Slot T → Pass → Slot T → Pass → Type 0
SlotTakes slot pass slot' pass' =
    CallsWith slot pass slot' pass' (λ p. AddsEvent (its_key slot) p (its_key slot') pass' (Take (its_number slot)))

abbrev pub SlotGathers : {T : Type 0} → Slot T → Pass → Slot T → Pass → Type 0
SlotGathers slot pass slot' pass' =
    CallsWith slot pass slot' pass' (λ p. AddsEvent (its_key slot) p (its_key slot') pass' (Begin (its_number slot) Gather))

abbrev pub SlotResumes : {T : Type 0} → Slot T → Pass → Had → Slot T → Pass → Had → Type 0
SlotResumes slot pass had slot' pass' had' =
    CallsWith slot pass slot' pass' (λ p.
    Resumes (its_key slot) p (its_batch slot) had (its_key slot') pass' (its_batch slot') had')

abbrev pub SlotLooks : {T : Type 0} → Slot T → Pass → Slot T → Pass → Type 0
SlotLooks slot pass slot' pass' =
    CallsWith slot pass slot' pass' (λ p. LooksWithSlotKey (its_key slot) p (its_key slot') pass')
    × (slot'.holder.batch ≡ slot.holder.batch)
