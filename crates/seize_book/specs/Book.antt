-- The book: the list of entries that threads share, from an opening on, and what the holder of a key knows of it.
--     mine st p log       the entries made with pass p, with their answers;  by_slot st s log   those of slot s, but for events on links
--     Same st kind k a b  lists a and b say the same of key k
--     touches st e kind k the entry may change what the list says of it
--     rules st            the rules of the list
use Rattle.std.specs.Prelude.{◌≡◌, ℕ, zero, suc, ◌≤◌, Bool, false, ◌==◌, pos, List, [], ◌∷◌, length, if◌then◌else◌}
use Rattle.std.specs.List.{filter}
use mathlib.Core.List.{IsPrefix}
use Rattle.seize_machine.specs.Machine.State.{State, slot_at, head_at, link_at, is_active, has}
use Rattle.seize_machine.specs.Machine.Event.{Event, Take}
use Rattle.seize_machine.specs.Machine.Frames.{changes_slot, used, changes_numbers, changes_head_of, changes_link}
use Rattle.seize_machine.specs.declared.machine.event.Answer.{Answer}
use Rattle.seize_book.specs.Ledger.{Rules}
pub use Rattle.seize_book.specs.After.{moments, after, IsLegalList, outcome, Does, with_answers}
use Rattle.seize_book.specs.Entry.{Entry, Made, Used, maker}
use Rattle.seize_book.specs.Blocks.{plans}
use Rattle.seize_book.specs.Chains.{HasChains, field_value, insertion_fields, uses}
use Rattle.seize_book.specs.Deposits.{deposit}
use Rattle.seize_book.specs.Homes.{IsSound, changes_count, changes_home, count_in, home_of}
use Rattle.seize_book.specs.Saying.{AllSay}

-- the slot's own entries: all events that may change its record, and its uses of fields
abbrev pub acts : ℕ → Entry → Bool
acts s (Made d) = changes_slot s d.event
acts s (Used u) = u.slot == s

abbrev pub mine : State → ℕ → List Entry → List (Entry × Answer)
mine st p log = filter (λ a. maker a.0 == p) (with_answers st log)

abbrev pub by_slot : State → ℕ → List Entry → List (Entry × Answer)
by_slot st s log = filter (λ a. acts s a.0) (with_answers st log)

-- The kinds of keys. There is one key of the numbers, and one of the total, which says how many slots there are; of the others, one for
-- each pass and link, one for each slot and head and for those of the slot that comes next, and four for each block: that of its values,
-- that of the count of the batch whose first value lies in it, and those of the two fields of its header.
pub data Kind : Type 0 where
  ThePass : Kind
  TheNumbers : Kind
  TheSlot : Kind
  TheHead : Kind
  TheLink : Kind
  TheCount : Kind
  TheBlock : Kind
  TheField : Kind
  TheTotal : Kind
  Nothing : Kind

abbrev pub passes : ℕ
passes = 0

abbrev pub numbers : ℕ
numbers = 1

abbrev pub slots : ℕ
slots = 2

abbrev pub heads : ℕ
heads = 3

abbrev pub links : ℕ
links = 4

abbrev pub counts : ℕ
counts = 5

abbrev pub blocks : ℕ
blocks = 6

abbrev pub fields : ℕ
fields = 7

abbrev pub totals : ℕ
totals = 8

abbrev pub kinds : ℕ
kinds = 9

abbrev pub kind_of : ℕ → Kind
kind_of zero = ThePass
kind_of (suc zero) = TheNumbers
kind_of (suc (suc zero)) = TheSlot
kind_of (suc (suc (suc zero))) = TheHead
kind_of (suc (suc (suc (suc zero)))) = TheLink
kind_of (suc (suc (suc (suc (suc zero))))) = TheCount
kind_of (suc (suc (suc (suc (suc (suc zero)))))) = TheBlock
kind_of (suc (suc (suc (suc (suc (suc (suc zero))))))) = TheField
kind_of (suc (suc (suc (suc (suc (suc (suc (suc zero)))))))) = TheTotal
kind_of _ = Nothing

-- what the list says of a key: of a pass what was made with it; of a slot its record, whether it is active, and what was last stored in
-- the fields of the block that its call is about to insert; of a block which of its values were ever named, and which of them are between a
-- link and their retirement; of a field what was last stored there
abbrev pub Same : State → Kind → ℕ → List Entry → List Entry → Type 0
Same st ThePass p a b = mine st p a ≡ mine st p b
Same st TheNumbers k a b = (used (after st a) ≡ used (after st b)) × ((after st a).rest ≡ (after st b).rest)
Same st TheSlot s a b =
    (by_slot st s a ≡ by_slot st s b)
    × (slot_at (after st a) s ≡ slot_at (after st b) s)
    × (is_active (head_at (after st a) s) ≡ is_active (head_at (after st b) s))
    × (insertion_fields (after st a) (plans st a) (field_value a) s ≡ insertion_fields (after st b) (plans st b) (field_value b) s)
Same st TheHead m a b = head_at (after st a) m ≡ head_at (after st b) m
Same st TheLink l a b = link_at (after st a) l ≡ link_at (after st b) l
Same st TheCount k a b = (count_in (after st a) k ≡ count_in (after st b) k) × (deposit (after st a) k ≡ deposit (after st b) k)
Same st TheBlock k a b =
    (v : ℕ) → home_of v ≡ k
    → (has v (after st a).named ≡ has v (after st b).named) × (has v (after st a).loose ≡ has v (after st b).loose)
Same st TheField f a b = field_value a f ≡ field_value b f
Same st TheTotal k a b = length (after st a).slots ≡ length (after st b).slots
Same st Nothing k a b = Unit {0}

-- what the holder of a key knows, who last appended when the list was `own`
abbrev pub HolderKnows : State → Kind → ℕ → List Entry → List Entry → Type 0
HolderKnows st kind k own log = IsPrefix own log × Same st kind k own log

-- the event makes a slot
abbrev pub makes_slot : State → Event → Bool
makes_slot st (Take s) = s == length st.slots
makes_slot st _ = false

abbrev pub touches : State → Entry → Kind → ℕ → Bool
touches st e ThePass p = maker e == p
touches st e TheSlot s = acts s e
touches st e TheField f = uses f e
touches st (Made d) TheNumbers k = changes_numbers d.event
touches st (Made d) TheHead m = changes_head_of m d.event
touches st (Made d) TheLink l = changes_link l d.event
touches st (Made d) TheCount k = changes_count st k d.event
touches st (Made d) TheBlock k = changes_home st k d.event
touches st (Made d) TheTotal k = makes_slot st d.event
touches st _ _ k = false

-- how many keys of a kind there are: of passes more than made an event, of slots and heads one more than there are slots, of blocks more
-- than have values that were named, counts, or fields that were used
abbrev pub IsKeyCount : State → Kind → ℕ → List Entry → Type 0
IsKeyCount st ThePass n log = (p : ℕ) → n ≤ p → mine st p log ≡ []
IsKeyCount st TheNumbers n log = n ≡ 1
IsKeyCount st TheSlot n log = n ≡ suc (length (after st log).slots)
IsKeyCount st TheHead n log = n ≡ suc (length (after st log).slots)
IsKeyCount st TheLink n log = n ≡ length (after st log).links
IsKeyCount st TheCount n log = (k : ℕ) → n ≤ k → (count_in (after st log) k ≡ pos 0) × (deposit (after st log) k ≡ [])
IsKeyCount st TheBlock n log = (v : ℕ) → n ≤ home_of v → has v (after st log).named ≡ false
IsKeyCount st TheField n log = (f : ℕ) → n ≤ f → field_value log f ≡ 0
IsKeyCount st TheTotal n log = n ≡ 1
IsKeyCount st Nothing n log = Unit {0}

abbrev pub rules : State → Rules Entry
rules st = record {
  Legal = λ log.
      IsLegalList st log × IsSound (after st log) × HasChains (after st log) (plans st log) (field_value log) × AllSay log;
  Knows = λ r. HolderKnows st (kind_of r);
  Sized = λ r. IsKeyCount st (kind_of r);
}

-- The keys that an entry makes, by kind and number: where it makes a slot, those of the slot that comes next and of that one's head.

abbrev pub of_slot : ℕ → List (ℕ × ℕ)
of_slot s = (slots, s) ∷ (heads, s) ∷ []

abbrev pub of_next_slot : State → List (ℕ × ℕ)
of_next_slot st = of_slot (suc (length st.slots))

abbrev pub births : State → Event → List (ℕ × ℕ)
births st event = if makes_slot st event then of_next_slot st else []

abbrev pub births_by : State → Entry → List (ℕ × ℕ)
births_by st (Made d) = births st d.event
births_by st (Used u) = []
