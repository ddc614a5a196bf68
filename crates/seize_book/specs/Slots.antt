-- The words in which the contracts of slots' keys speak.
--     IsKeyOfBook key pass     they are of one book
--     slot_number key      the slot
--     own_list key         the list at the slot's last event;  start_of key     its book's opening
--     IsAfter key pass' key'     it is the same key, and knows all that the pass has seen
--     IsStill key key'     nothing was added with it, and it knows what it knew
--     slot_of key, active_of key     the slot's record as its key knows it, and whether it is active
--     written_of key       what was last stored in the fields of the block with which the slot's call is about to insert its batch
--     life_of key          the lifetime of the slot's last activation, as its key knows
--     acts_of key          the slot's own entries, with their answers, as its key knows
--     Moves key key' log d later answer     after this list, which goes on from what the key knew, with the same last activation of the
--                          slot, the event took the slot from where its key knew it to where it knows it now; and of the slot's own
--                          entries this is the one that was added
--     AddsDeed key pass key' pass' d    the slot's holder added this one event with the pass: see AddsEntry and Moves
--     AddsEvent key pass key' pass' event   and it is one of an event that begins no activation
--     LooksWithSlotKey key pass key' pass'   the pass has looked at the list (LooksOn), and so has the key; the list goes on from what it
--                          knew, and the slot is in it as the key said
--     hands_next slot      the value that the slot's call is about to hand to its reclaimer
--     HandsOnce key pass' v    it was handed now, for the first time; it was retired before, and each slot that was active then has left or
--                          refreshed since; all who found it have left or refreshed since, and the activations in which they found it are
--                          over
--     HandsSoon st log v       all that of the list by now
use Rattle.std.specs.Prelude.{◌≡◌, ℕ, Bool, List, [], ◌∷◌, ◌++◌, Option, Some}
use mathlib.Core.List.{IsPrefix}
use Rattle.seize_machine.specs.Machine.State.{State, Slot, slot_at, head_at, is_active}
use Rattle.seize_machine.specs.Machine.Event.{Event}
use Rattle.seize_machine.specs.Machine.Next.{next, of_call, handing_at}
use Rattle.seize_machine.specs.declared.machine.event.Answer.{Answer}
use Rattle.seize_machine.specs.Machine.History.{done_by, handed_value}
use Rattle.seize_book.specs.Blocks.{plans}
use Rattle.seize_book.specs.Chains.{field_value, insertion_fields}
use Rattle.seize_book.specs.Entry.{Entry, Made, Deed, timed_deed}
use Rattle.seize_book.specs.Book.{after, by_slot}
use Rattle.seize_book.specs.Laws.{NotHanded, WasRetired, AllLeft, AllParted, AllOver, life}
use Rattle.seize_book.specs.Tokens.{AddsEntry, start}
use Rattle.seize_book.specs.Private.{key_of, own_of}
use Rattle.seize_book.specs.Passes.{IsSamePass, LooksOn}
use Rattle.seize_book.specs.Adding.{private}
use Rattle.seize_book.specs.declared.book.pass.Pass.{Pass}
use Rattle.seize_book.specs.declared.book.slot_key.SlotKey.{SlotKey}

abbrev pub IsKeyOfBook : SlotKey → Pass → Type 0
IsKeyOfBook key pass = key.keys.name ≡ pass.name

abbrev pub slot_number : SlotKey → ℕ
slot_number key = key_of key.keys.held

abbrev pub own_list : SlotKey → List Entry
own_list key = own_of key.keys.held

abbrev pub start_of : SlotKey → State
start_of key = start key.keys.name

abbrev pub acts_of : SlotKey → List (Entry × Answer)
acts_of key = by_slot (start_of key) (slot_number key) (own_list key)

abbrev pub slot_of : SlotKey → Slot
slot_of key = slot_at (after (start_of key) (own_list key)) (slot_number key)

-- what was last stored in the next and first fields of the block with which the slot's call is about to insert its batch
abbrev pub written_of : SlotKey → Option (ℕ × ℕ)
written_of key =
    let own = own_list key in insertion_fields (after (start_of key) own) (plans (start_of key) own) (field_value own) (slot_number key)

abbrev pub active_of : SlotKey → Bool
active_of key = is_active (head_at (after (start_of key) (own_list key)) (slot_number key))

-- the lifetime of the slot's last activation, as its key knows
abbrev pub life_of : SlotKey → ℕ
life_of key = life (slot_number key) (own_list key)

-- it is the key of the same slot, and knows all that the pass has seen
abbrev pub IsAfter : SlotKey → Pass → SlotKey → Type 0
IsAfter key pass' key' = (key'.keys.name ≡ key.keys.name) × (slot_number key' ≡ slot_number key) × (own_list key' ≡ pass'.seen)

abbrev pub IsStill : SlotKey → SlotKey → Type 0
IsStill key key' = key'.keys ≡ key.keys

-- After this list, the event took the machine to `later` with this answer, and the slot from where its key knew it to where it knows it
-- now. The slot's own entries are longer by this one.
pub record Moves (key key' : SlotKey) (log : List Entry) (d : Deed) (later : State) (answer : Answer) : Type 0 where
  pub knew : IsPrefix (own_list key) log
  pub lived : life (slot_number key) log ≡ life_of key
  pub was : slot_at (after (start_of key) log) (slot_number key) ≡ slot_of key
  pub was_active : is_active (head_at (after (start_of key) log) (slot_number key)) ≡ active_of key
  pub legal : next d.size (after (start_of key) log) d.event ≡ Some (later, answer)
  pub is : slot_of key' ≡ slot_at later (slot_number key)
  pub is_now_active : active_of key' ≡ is_active (head_at later (slot_number key))
  pub acts : acts_of key' ≡ acts_of key ++ (Made d, answer) ∷ []

abbrev pub AddsDeed : SlotKey → Pass → SlotKey → Pass → Deed → Type 0
AddsDeed key pass key' pass' d =
    IsSamePass pass pass' × IsAfter key pass' key'
    × ((noted : AddsEntry pass.name pass.id pass.seen pass'.seen (Made d)) × Moves key key' noted.before d noted.later noted.answer)

abbrev pub AddsEvent : SlotKey → Pass → SlotKey → Pass → Event → Type 0
AddsEvent key pass key' pass' event = AddsDeed key pass key' pass' (private pass event)

pub record LooksWithSlotKey (key : SlotKey) (pass : Pass) (key' : SlotKey) (pass' : Pass) : Type 0 where
  pub on : LooksOn pass pass'
  pub seen_by : IsAfter key pass' key'
  pub knows : IsPrefix (own_list key) pass'.seen
  pub lives : life (slot_number key) pass'.seen ≡ life_of key
  pub slot : slot_at (after (start_of key) pass'.seen) (slot_number key) ≡ slot_of key
  pub active : is_active (head_at (after (start_of key) pass'.seen) (slot_number key)) ≡ active_of key
  pub written : written_of key' ≡ written_of key
  pub acts : acts_of key' ≡ acts_of key

-- the value that the slot's call is about to hand to its reclaimer
abbrev pub hands_next : Slot → Option ℕ
hands_next slot = of_call handing_at slot.call

-- All that the pass has seen ends with an event that handed v. It was not handed before, but retired, and each slot that was active just
-- before that event has left or refreshed since; so has each that found it in a link, and the activations in which they found it are over.
pub record HandsOnce (key : SlotKey) (pass' : Pass) (v : ℕ) : Type 0 where
  pub before : List Entry
  pub last : Deed
  pub ends : pass'.seen ≡ before ++ Made last ∷ []
  pub hands : handed_value (done_by next (after (start_of key) before) (timed_deed last)).1 ≡ Some v
  pub not_handed : NotHanded (start_of key) before v
  pub retired : WasRetired (start_of key) before v
  pub all_left : AllLeft (start_of key) before retired.0
  pub all_parted : AllParted (start_of key) before v
  pub all_over : AllOver (start_of key) before v

-- The same of the list by now, where the slot's call is about to hand v.
pub record HandsSoon (st : State) (log : List Entry) (v : ℕ) : Type 0 where
  pub not_handed : NotHanded st log v
  pub retired : WasRetired st log v
  pub all_left : AllLeft st log retired.0
  pub all_parted : AllParted st log v
  pub all_over : AllOver st log v
