-- The words in which the contracts of slots in a table speak.
--     head_in r                        the head in a slot's place
--     slots_book slots                 the book whose slots they are
--     comes_next next, next_key next   the slot that comes next, and its key;  IsSameNext next other   both are the same one
--     HasNextSlot numbers next         all numbers are in use, as the key of the numbers knows, and this is the slot that comes next
--     MakesNextSlot numbers next pass numbers' key next' pass'     the slot was made (MakesSlot), and the pass has seen it; the other is
--                                      the one that comes after it
--     IsHeadAt pass number head        it is the head of this slot of the pass's book
--     AreAll slots all                 these are the first entries of the table, with the labels of the first slots
--     IsSlotCount pass pass' count     there were so many slots in what the pass saw between the two
--     comes_to heads, heads_end heads    the slot whose head comes next in a walk, and the number before which the walk ends;  heads_book
--                                      its book;  GoesOn heads head heads'   a step of it gives the next slot's head, or nothing at the end
use Rattle.std.specs.Prelude.{◌≡◌, ℕ, ◌+◌, ◌<◌, length, IfSome, IfNone}
use Rattle.std.specs.declared.option.Option.{Option}
use Rattle.crossbeam_utils.specs.Padded.{padded_value}
use denote.Bor.{Bor}
use Rattle.seize_table.specs.Walk.{walk_end, walk_next}
use Rattle.seize_table.specs.declared.tls.all_filled.AllFilled.{AllFilled}
use Rattle.seize_words.specs.Named.{head_book}
use Rattle.seize_book.specs.Passes.{LooksOn}
use Rattle.seize_words.specs.Reservations.{slot}
use Rattle.seize_book.specs.Slots.{slot_number}
use Rattle.seize_book.specs.Tokens.{Name, slot_labels}
use Rattle.seize_words.specs.Totals.{IsFull, MakesSlot, made_of, slots_seen}
use Rattle.seize_book.specs.declared.book.numbers_key.NumbersKey.{NumbersKey}
use Rattle.seize_book.specs.declared.book.pass.Pass.{Pass}
use Rattle.seize_book.specs.declared.book.slot_key.SlotKey.{SlotKey}
use Rattle.seize_words.specs.declared.reservation.Head.{Head}
use Rattle.seize_words.specs.declared.slots.Reservation.{Reservation}
use Rattle.seize_words.specs.declared.slots.Slots.{Slots}
use Rattle.seize_words.specs.declared.slots.heads.Heads.{Heads}
use Rattle.seize_words.specs.declared.slots.next.NextSlot.{NextSlot}

abbrev pub head_in : Reservation → Head
head_in r = padded_value r.head

abbrev pub slots_book : Slots → Name
slots_book slots = slots.book.name

abbrev pub comes_next : NextSlot → ℕ
comes_next next = next.number

abbrev pub next_key : NextSlot → SlotKey
next_key next = next.key

abbrev pub IsSameNext : NextSlot → NextSlot → Type 0
IsSameNext next other =
    (other.number ≡ next.number) × (other.key ≡ next.key) × (other.reservation ≡ next.reservation)

abbrev pub HasNextSlot : NumbersKey → NextSlot → Type 0
HasNextSlot numbers next =
    IsFull numbers × (comes_next next ≡ made_of numbers) × ((next_key next).keys.name ≡ numbers.keys.name)

pub record MakesNextSlot (numbers : NumbersKey) (next : NextSlot) (pass : Pass) (numbers' : NumbersKey) (key : SlotKey) (next' : NextSlot)
    (pass' : Pass) : Type 0 where
  pub made : MakesSlot numbers (next_key next) pass numbers' key pass'
  pub number : slot_number key ≡ made_of numbers
  pub seen : slots_seen pass' ≡ made_of numbers'
  pub comes : (comes_next next' ≡ made_of numbers') × ((next_key next').keys.name ≡ numbers'.keys.name)

abbrev pub IsHeadAt : Pass → ℕ → Head → Type 0
IsHeadAt pass number head = (head_book head ≡ pass.name) × (slot head ≡ number)

abbrev pub AreAll : Slots → AllFilled → Type 0
AreAll slots all =
    (all.table ≡ (slots_book slots).table) × (all.labels ≡ slot_labels (slots_book slots) (length all.labels))

abbrev pub IsSlotCount : Pass → Pass → ℕ → Type 0
IsSlotCount pass pass' count = (seen : Pass) × LooksOn pass seen × LooksOn seen pass' × (count ≡ slots_seen seen)

abbrev pub comes_to : Heads → ℕ
comes_to heads = walk_next heads.walk

abbrev pub heads_end : Heads → ℕ
heads_end heads = walk_end heads.walk

abbrev pub heads_book : Heads → Name
heads_book heads = heads.book.now.name

abbrev pub GoesOn : Heads → Option (Bor Head) → Heads → Type 0
GoesOn before item after =
    (heads_book after ≡ heads_book before)
    × (heads_end after ≡ heads_end before)
    × IfSome item (λ head. (comes_to before < heads_end before) × (comes_to after ≡ comes_to before + 1)
    × (head_book head.now ≡ heads_book before) × (slot head.now ≡ comes_to before))
    × IfNone item ((comes_to before ≡ heads_end before) × (comes_to after ≡ comes_to before))
