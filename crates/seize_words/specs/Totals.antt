-- The words in which the contracts of the total speak.
--     total_known key                  how many slots there are, as the total's key knows;  IsTotalOf total key     it is that of the key
--     IsTotalOfBook total pass   it is of the pass's book
--     slots_seen pass                  how many slots there are in the list that the pass has seen
--     made_of numbers, IsFull numbers  how many slots there are, as the key of the numbers knows;  all of their numbers are in use
--     MayMake numbers key              and the slot's is the next number
--     MakesSlot numbers key pass numbers' key' pass'     the slot was made
--     AreNextKeys numbers pass keys    these are the keys of the slot that comes next
use Rattle.std.specs.Prelude.{◌≡◌, ℕ, suc, ◌<◌, true, false, [], ◌∷◌, ◌++◌, length, None}
use Rattle.seize_table.specs.Place.{all_numbers}
use Rattle.seize_machine.specs.Machine.Event.{Take}
use Rattle.seize_machine.specs.Machine.Next.{first_free}
use Rattle.seize_machine.specs.Machine.State.{Inactive}
use Rattle.seize_book.specs.Adding.{private}
use Rattle.seize_book.specs.Book.{after}
use Rattle.seize_book.specs.Entry.{Made}
use Rattle.seize_book.specs.Others.{Follows, rest_of, state_of}
use Rattle.seize_book.specs.Passes.{IsSamePass}
use Rattle.seize_book.specs.Private.{key_of, own_of}
use Rattle.seize_words.specs.Reservations.{head_known}
use Rattle.seize_book.specs.Slots.{IsAfter, active_of, acts_of, own_list, slot_number, slot_of}
use Rattle.seize_book.specs.Tokens.{AddsEntry, start}
use Rattle.seize_book.specs.declared.book.numbers_key.NumbersKey.{NumbersKey}
use Rattle.seize_book.specs.declared.book.pass.Pass.{Pass}
use Rattle.seize_book.specs.declared.book.slot_key.SlotKey.{SlotKey}
use Rattle.seize_book.specs.declared.book.slot_keys.SlotKeys.{SlotKeys}
use Rattle.seize_book.specs.declared.book.total_key.TotalKey.{TotalKey}
use Rattle.seize_words.specs.declared.total.Total.{Total}

abbrev pub total_known : TotalKey → ℕ
total_known key = length (state_of key.keys).slots

abbrev pub IsTotalOf : Total → TotalKey → Type 0
IsTotalOf total key = total.word.name ≡ key.keys.name

abbrev pub IsTotalOfBook : Total → Pass → Type 0
IsTotalOfBook total pass = total.word.name ≡ pass.name

abbrev pub slots_seen : Pass → ℕ
slots_seen pass = length (after (start pass.name) pass.seen).slots

abbrev pub made_of : NumbersKey → ℕ
made_of numbers = length (state_of numbers.keys).slots

-- all numbers are in use, as the key knows, and one more is a number of a table
abbrev pub IsFull : NumbersKey → Type 0
IsFull numbers = (first_free (state_of numbers.keys).slots ≡ made_of numbers) × (made_of numbers < all_numbers)

abbrev pub MayMake : NumbersKey → SlotKey → Type 0
MayMake numbers key = IsFull numbers × (slot_number key ≡ made_of numbers)

-- it is there, with no call, nothing retired and inactive; its key knows all that the pass has seen
pub record MakesSlot (numbers : NumbersKey) (key : SlotKey) (pass : Pass) (numbers' : NumbersKey) (key' : SlotKey) (pass' : Pass)
    : Type 0 where
  pub same : IsSamePass pass pass'
  pub noted : AddsEntry pass.name pass.id pass.seen pass'.seen (Made (private pass (Take (slot_number key))))
  pub acts : acts_of key' ≡ acts_of key ++ (Made (private pass (Take (slot_number key))), noted.answer) ∷ []
  pub seen_by : IsAfter key pass' key'
  pub follows : Follows numbers.keys pass' numbers'.keys
  pub idle : slot_of key' ≡ record { used = true; batch = []; call = None }
  pub inactive : active_of key' ≡ false
  -- there is one more, and all numbers are in use still
  pub next : (made_of numbers' ≡ suc (made_of numbers)) × (first_free (state_of numbers'.keys).slots ≡ made_of numbers')
  -- while all numbers are in use nothing is left
  pub rest : (rest_of numbers ≡ []) × (rest_of numbers' ≡ [])

pub record AreNextKeys (numbers : NumbersKey) (pass : Pass) (keys : SlotKeys) : Type 0 where
  pub book : (keys.slot.keys.name ≡ pass.name) × (keys.head.keys.name ≡ pass.name)
  pub number : (slot_number keys.slot ≡ made_of numbers) × (key_of keys.head.keys.held ≡ made_of numbers)
  pub own : (own_list keys.slot ≡ pass.seen) × (own_of keys.head.keys.held ≡ pass.seen)
  pub inactive : head_known keys.head ≡ Inactive
