-- Events that no step of the code makes: where a slot's call stands, and which of them its holder may make.
--     IsOwn s event          the event is of slot s, and changes nothing that is there but the slot's own record
--     IsPrivate s event      and it makes no keys, and is one of the slot's own entries
--     IsOpen slot active s size event    it is legal wherever the slot is as its key says
--     puts_next slot         the value that the slot's call is about to put
--     IsOver slot            the slot's call has nothing more to do
--     is_one r held          there is one key, of kind r;  key_of held, own_of held, label_of held, note_of held    its number, list, label
--                            and note
--     are_of_blocks held, labels_of held    each is the key of a block, with the name of a value that lies there;  these are the labels
--     AreKeysOf values held  so it is, these are the values, and each key leads on to the next; the last to none
use Rattle.std.specs.Prelude.{◌≡◌, ℕ, true, false, Bool, ◌==◌, ◌&&◌, map, List, [], ◌∷◌, Option, Some, None, is_some}
use Rattle.std.specs.List.{list_all}
use base.Stored.{Gv, gnil}
use Rattle.seize_machine.specs.Machine.State.{State, Slot, Place, Append, Rest, slot_at, head_at, is_active}
use Rattle.seize_machine.specs.Machine.Event.{Event, event_slot}
use Rattle.seize_machine.specs.Machine.Next.{next, of_call}
use Rattle.seize_machine.specs.Machine.Frames.{changes_numbers, changes_head_of, changes_link, changes_slot}
use Rattle.seize_book.specs.Ledger.{HeldKey}
use Rattle.seize_book.specs.Entry.{Entry}
use Rattle.seize_book.specs.Book.{births, blocks}
use Rattle.seize_book.specs.Homes.{changes_count, changes_home, home_of}
use Rattle.seize_book.specs.Linked.{are_joined, are_linked}

abbrev pub IsOwn : ℕ → Event → Type 0
IsOwn s event =
    (event_slot event ≡ s)
    × (changes_numbers event ≡ false)
    × ((k : ℕ) → (changes_head_of k event ≡ false) × (changes_link k event ≡ false))
    × ((st : State) (k : ℕ) → (changes_count st k event ≡ false) × (changes_home st k event ≡ false))

abbrev pub IsPrivate : ℕ → Event → Type 0
IsPrivate s event = IsOwn s event × ((st : State) → births st event ≡ []) × (changes_slot s event ≡ true)

abbrev pub IsOpen : Slot → Bool → ℕ → ℕ → Event → Type 0
IsOpen slot active s size event =
    (st : State) → slot_at st s ≡ slot → is_active (head_at st s) ≡ active → is_some (next size st event) ≡ true

-- there is one key, of this kind
abbrev pub is_one : ℕ → List (HeldKey Entry) → Bool
is_one r (h ∷ []) = h.kind == r
is_one r _ = false

-- the number of the first key, the list at its holder's last event, and its label
abbrev pub key_of : List (HeldKey Entry) → ℕ
key_of [] = 0
key_of (h ∷ held) = h.key

abbrev pub own_of : List (HeldKey Entry) → List Entry
own_of [] = []
own_of (h ∷ held) = h.own

abbrev pub label_of : List (HeldKey Entry) → ℕ
label_of [] = 0
label_of (h ∷ held) = h.label

abbrev pub note_of : List (HeldKey Entry) → Gv
note_of [] = gnil
note_of (h ∷ held) = h.note

-- what is no part of the right
abbrev pub Tag : Type 0
Tag = ℕ × Gv

abbrev pub tag_of : List (HeldKey Entry) → Tag
tag_of held = (label_of held, note_of held)

-- each is the key of a block, with the name of a value on it that lies there
abbrev pub are_of_blocks : List (HeldKey Entry) → Bool
are_of_blocks vs = list_all (λ h. (h.kind == blocks) && (h.key == home_of h.label)) vs

abbrev pub labels_of : List (HeldKey Entry) → List ℕ
labels_of vs = map (λ h. h.label) vs

-- and these are the values
abbrev pub AreKeysOf : List ℕ → List (HeldKey Entry) → Type 0
AreKeysOf values vs =
    (labels_of vs ≡ values) × (are_of_blocks vs ≡ true) × (are_linked vs ≡ true) × (are_joined vs [] ≡ true)

abbrev pub next_at : Place → List ℕ → Option ℕ
next_at (Append v) queue = Some v
next_at (Rest [] []) (v ∷ queue) = Some v
next_at place queue = None

abbrev pub puts_next : Slot → Option ℕ
puts_next slot = of_call next_at slot.call

abbrev pub IsOver : Slot → Type 0
IsOver slot = slot.call ≡ Some (record { place = Rest [] []; queue = [] })
