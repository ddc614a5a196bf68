-- The words in which contracts speak of the keys that a slot's holder needs beside its own.
--     is_named value                    whether the value was ever named, as its key knows
--     book_of value                     its book
--     MayBegin v st                     it was never named, all values that lay in its block before were reclaimed, and something is lent
--                                       with it; or it was named, and is loose;
--                                       MayRetire value    so it is, as its key knows
--     IsSpent v st                      it was named, and it is not loose;  CannotRetire value   so it is, as its key knows
--     IsLeast s st                      slot s is there, and its number is the least that is not in use and one of a table;
--     MayTakeNumber numbers key         so it is for this slot, as the key of the numbers knows
--     use_flags numbers                 which numbers are in use, as this key knows;  first_false us     the least that is not
--     others_used us s                  another number than s is in use
--     MayGive numbers key, MayGather numbers key     the slot may end, since another one is in use or nothing is left;  or it may gather
--     numbers_saw numbers               the list at the last event with this key
--     rest_of numbers                   what slots left in their batches as they ended, in order, as this key knows
--     IsOfBook keys pass                they are of one book;  IsValueOf value pass, AreNumbersOf numbers pass     so is this key
--     state_of keys, value_of value     where the keys' list leads, and which value it is
--     BearsNone n p seen held event     wherever the list is by then, the event makes no keys
--     IsWith key other pass d           the slot's holder may add the event with the other keys
--     Knew key other pass pass' d       the event was added where this was known of the list, by the slot's and the other keys
--     IsLastIn v st                     all other values of its block that were ever named were reclaimed;  IsLast value    so it is, as
--                                       its key knows
--     with_label v held                 the first key has this label
--     Renames keys keys'                the first key's label is another value of its block, which was never named, as it knows; nothing
--                                       is lent with it
--     SameKind keys keys'               if there was one key of some kind, there is one of this kind
--     Follows keys pass' keys'          they are the same keys, and know all that the pass has seen;  FollowsValue value pass' value',
--                                       FollowsNumbers numbers pass' numbers'     so it is with this key
--     IsVacated value                   all values that ever lay in its block were reclaimed, as its key knows
use Rattle.std.specs.Prelude.{◌≡◌, ◌≢◌, ℕ, ◌<◌, Bool, true, false, not, List, [], ◌∷◌, ◌++◌, length, slice_set, ◌⊎◌}
use Rattle.std.specs.List.{list_any, position_or_len}
use Rattle.seize_machine.specs.Machine.State.{State, has}
use Rattle.seize_book.specs.Blocks.{block_number}
use Rattle.seize_book.specs.Book.{after, births}
use Rattle.seize_book.specs.Private.{is_one, key_of, label_of, own_of}
use Rattle.seize_machine.specs.Machine.Event.{Event}
use Rattle.seize_machine.specs.Machine.Frames.{used}
use Rattle.seize_machine.specs.Machine.Next.{ends_now, first_free}
use Rattle.seize_table.specs.Place.{all_numbers}
use Rattle.seize_book.specs.Homes.{IsVacant, home_of}
use Rattle.seize_book.specs.Loans.{CarriesNone, cell_of, place_of, CarriesOne}
use Rattle.seize_book.specs.Ledger.{HeldKey, with_list}
use Rattle.seize_book.specs.Entry.{Deed, Entry, Made}
use Rattle.seize_book.specs.Fair.{Before, MayAdd}
use Rattle.seize_book.specs.Slots.{slot_of}
use Rattle.seize_book.specs.Tokens.{Name, start}
use Rattle.seize_book.specs.declared.book.keys.Keys.{Keys}
use Rattle.seize_book.specs.declared.book.numbers_key.NumbersKey.{NumbersKey}
use Rattle.seize_book.specs.declared.book.pass.Pass.{Pass}
use Rattle.seize_book.specs.declared.book.slot_key.SlotKey.{SlotKey}
use Rattle.seize_book.specs.declared.book.value_key.ValueKey.{ValueKey}

abbrev pub state_of : Keys → State
state_of keys = after (start keys.name) (own_of keys.held)

abbrev pub value_of : ValueKey → ℕ
value_of value = label_of value.keys.held

abbrev pub book_of : ValueKey → Name
book_of value = value.keys.name

abbrev pub is_named : ValueKey → Bool
is_named value = has (value_of value) (state_of value.keys).named

abbrev pub MayBegin : ℕ → State → Type 0
MayBegin v st =
    ((has v st.named ≡ false) × IsVacant st (home_of v) × CarriesOne v) ⊎ ((has v st.named ≡ true) × (has v st.loose ≡ true))

abbrev pub MayRetire : ValueKey → Type 0
MayRetire value = MayBegin (value_of value) (state_of value.keys)

abbrev pub IsSpent : ℕ → State → Type 0
IsSpent v st = (has v st.named ≡ true) × (has v st.loose ≡ false)

abbrev pub CannotRetire : ValueKey → Type 0
CannotRetire value = IsSpent (value_of value) (state_of value.keys)

abbrev pub IsOfBook : Keys → Pass → Type 0
IsOfBook keys pass = keys.name ≡ pass.name

abbrev pub IsValueOf : ValueKey → Pass → Type 0
IsValueOf value pass = IsOfBook value.keys pass

abbrev pub AreNumbersOf : NumbersKey → Pass → Type 0
AreNumbersOf numbers pass = IsOfBook numbers.keys pass

abbrev pub IsVacated : ValueKey → Type 0
IsVacated value = IsVacant (state_of value.keys) (home_of (value_of value))

abbrev pub IsLeast : ℕ → State → Type 0
IsLeast s st = (s ≡ first_free st.slots) × (s < length st.slots) × (s < all_numbers)

abbrev pub MayTakeNumber : NumbersKey → SlotKey → Type 0
MayTakeNumber numbers key = IsLeast (key_of key.keys.held) (state_of numbers.keys)

-- which numbers are in use, as the key of the numbers knows, and which is the least that is not
abbrev pub use_flags : NumbersKey → List Bool
use_flags numbers = used (state_of numbers.keys)

abbrev pub numbers_saw : NumbersKey → List Entry
numbers_saw numbers = own_of numbers.keys.held

abbrev pub others_used : List Bool → ℕ → Bool
others_used us s = list_any (λ u. u) (slice_set us s false)

abbrev pub rest_of : NumbersKey → List ℕ
rest_of numbers = (state_of numbers.keys).rest

abbrev pub first_false : List Bool → ℕ
first_false us = position_or_len (λ u. not u) us

-- the slot may end, as the keys of the numbers and of the slot know: another one is in use, or nothing is left
abbrev pub MayGive : NumbersKey → SlotKey → Type 0
MayGive numbers key =
    ends_now (others_used (use_flags numbers) (key_of key.keys.held)) (slot_of key).batch (rest_of numbers) ≡ true

-- or it has to gather first: no other one is in use, and something is left
abbrev pub MayGather : NumbersKey → SlotKey → Type 0
MayGather numbers key =
    ends_now (others_used (use_flags numbers) (key_of key.keys.held)) (slot_of key).batch (rest_of numbers) ≡ false

-- wherever the list is by then, the event makes no keys
abbrev pub BearsNone : Name → ℕ → List Entry → List (HeldKey Entry) → Event → Type 0
BearsNone n p seen held event = (log : List Entry) → Before n p seen held log → births (after (start n) log) event ≡ []

-- the event makes no keys, and may be added with the slot's and the other keys
abbrev pub IsWith : SlotKey → Keys → Pass → Deed → Type 0
IsWith key other pass d =
    BearsNone pass.name pass.id pass.seen (key.keys.held ++ other.held) d.event
    × MayAdd pass.name pass.id pass.seen (key.keys.held ++ other.held) d

-- it was added where this was known of the list, by these keys too
abbrev pub Knew : SlotKey → Keys → Pass → Pass → Deed → Type 0
Knew key other pass pass' d =
    (log : List Entry) × (pass'.seen ≡ log ++ Made d ∷ [])
    × Before pass.name pass.id pass.seen (key.keys.held ++ other.held) log

abbrev pub IsLastIn : ℕ → State → Type 0
IsLastIn v st = (w : ℕ) → home_of w ≡ home_of v → w ≢ v → has w st.named ≡ true → has w st.gone ≡ true

abbrev pub IsLast : ValueKey → Type 0
IsLast value = IsLastIn (value_of value) (state_of value.keys)

abbrev pub with_label : ℕ → List (HeldKey Entry) → List (HeldKey Entry)
with_label v [] = []
with_label v (h ∷ held) = record { kind = h.kind; key = h.key; own = h.own; label = v; note = h.note } ∷ held

pub record Renames (keys keys' : Keys) : Type 0 where
  pub value : ℕ
  pub book : keys'.name ≡ keys.name
  pub held : keys'.held ≡ with_label value keys.held
  pub home : home_of value ≡ home_of (label_of keys.held)
  pub numbered : block_number value ≡ block_number (label_of keys.held)
  pub unnamed : has value (state_of keys).named ≡ false
  pub place : place_of value ≡ place_of (label_of keys.held)
  pub cell : cell_of value ≡ cell_of (label_of keys.held)
  pub free : CarriesNone value

abbrev pub SameKind : Keys → Keys → Type 0
SameKind keys keys' = (r : ℕ) → is_one r keys.held ≡ true → is_one r keys'.held ≡ true

abbrev pub Follows : Keys → Pass → Keys → Type 0
Follows keys pass' keys' = (keys'.name ≡ keys.name) × (keys'.held ≡ with_list keys.held pass'.seen)

abbrev pub FollowsValue : ValueKey → Pass → ValueKey → Type 0
FollowsValue value pass' value' = Follows value.keys pass' value'.keys

abbrev pub FollowsNumbers : NumbersKey → Pass → NumbersKey → Type 0
FollowsNumbers numbers pass' numbers' = Follows numbers.keys pass' numbers'.keys
