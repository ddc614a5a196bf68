-- The words in which the contracts of counts speak. A batch's count stands with the block in which its first value lies.
--     home count                        the block whose count it is;  IsCountOfBook count pass     it is of the pass's book
--     IsCountOf count key               it is the key's;  count_seen count pass     the count in the list that the pass has seen
--     IsAdding, MayCountUp key count won   the slot's call is about to add so many insertions won to the count of a batch, which is this
--                                          one
--     IsWalking, MayCountDown key count     the slot's call is about to count down the next batch of its walk, whose count is this one
--     Counts key pass key' pass' event zero     the event was noted, its answer is a count, and this says whether it is 0;
--                                               it lies between minus and plus the number of numbers
--     values_in key b                           the values with which batch b was detached, as the slot's key knows
--     MayCountUpWith key count won values       the slot's call adds to this count, and the keys are those of the batch's values, closed
--     LeavesKeys values pass' values' zero      the keys stay where the count came to 0, and else they stand with the count
--     TakesKeys key b pass' values' zero        the keys of the batch's values come out where the count came to 0, closed; of each the
--                                               list says what is noted to be kept of it
--     GivesUp key key' b walk queue zero        the slot's call goes on with this walk and queue; the values with which the batch was
--                                               detached are given up to it if the count came to 0, and else none are
use Rattle.std.specs.Prelude.{◌≡◌, ℕ, ℤ, Bool, if◌then◌else◌, List, [], ◌∷◌, Some, slice_index_or}
use Rattle.seize_machine.specs.Machine.State.{State, Add, Rest, slot_at}
use Rattle.seize_machine.specs.Machine.Event.{Event}
use Rattle.seize_machine.specs.Machine.Next.{is_zero}
use Rattle.seize_machine.specs.declared.machine.event.Answer.TheVariants.{Count as Counted}
use Rattle.seize_book.specs.Blocks.{IsNear, front_of, no_plan, plans}
use Rattle.seize_book.specs.Book.{after}
use Rattle.seize_book.specs.Books.{home_in}
use Rattle.seize_book.specs.Entry.{Entry}
use Rattle.seize_book.specs.Homes.{count_in, home_of}
use Rattle.seize_book.specs.Kept.{AreTold}
use Rattle.seize_book.specs.Tokens.{start}
use Rattle.seize_book.specs.Ledger.{with_list}
use Rattle.seize_book.specs.Slots.{AddsEvent, own_list, slot_number, slot_of, start_of}
use Rattle.seize_book.specs.Values.{AreClosed, AreLast, book_in, values_of}
use Rattle.seize_words.specs.declared.batch.Count.{Count}
use Rattle.seize_book.specs.declared.book.count_key.CountKey.{CountKey}
use Rattle.seize_book.specs.declared.book.pass.Pass.{Pass}
use Rattle.seize_book.specs.declared.book.slot_key.SlotKey.{SlotKey}
use Rattle.seize_book.specs.declared.book.value_keys.ValueKeys.{ValueKeys}

abbrev pub home : Count → ℕ
home count = count.word.number

abbrev pub IsCountOfBook : Count → Pass → Type 0
IsCountOfBook count pass = count.word.name ≡ pass.name

abbrev pub count_seen : Count → Pass → ℤ
count_seen count pass = count_in (after (start pass.name) pass.seen) (home count)

abbrev pub IsCountOf : Count → CountKey → Type 0
IsCountOf count key = (count.word.name ≡ key.keys.name) × (home count ≡ home_in key)

-- where the list was `own` at the last event of slot s
pub record IsAdding (st : State) (s : ℕ) (own : List Entry) (k won : ℕ) : Type 0 where
  pub batch : ℕ
  pub front : ℕ
  pub queue : List ℕ
  pub adding : (slot_at (after st own) s).call ≡ Some (record { place = Add batch won; queue = queue })
  pub its_front : front_of st own batch ≡ Some front
  pub its_home : home_of front ≡ k

pub record IsWalking (st : State) (s : ℕ) (own : List Entry) (k : ℕ) : Type 0 where
  pub batch : ℕ
  pub front : ℕ
  pub walk : List ℕ
  pub queue : List ℕ
  pub walking : (slot_at (after st own) s).call ≡ Some (record { place = Rest [] (batch ∷ walk); queue = queue })
  pub its_front : front_of st own batch ≡ Some front
  pub its_home : home_of front ≡ k

abbrev pub MayCountUp : SlotKey → Count → ℕ → Type 0
MayCountUp key count won = IsAdding (start_of key) (slot_number key) (own_list key) (home count) won

abbrev pub MayCountDown : SlotKey → Count → Type 0
MayCountDown key count = IsWalking (start_of key) (slot_number key) (own_list key) (home count)

-- Keys of the batch's values.

-- the values with which a batch was detached, as the slot's key knows
abbrev pub values_in : SlotKey → ℕ → List ℕ
values_in key b = (slice_index_or (plans (start_of key) (own_list key)) b no_plan).values

abbrev pub MayCountUpWith : SlotKey → Count → ℕ → ValueKeys → Type 0
MayCountUpWith key count won values = (a : MayCountUp key count won) × (values_of values ≡ values_in key a.batch) × AreClosed values

-- they are the same keys, and know all that the pass has seen, where the count came to 0; and else they stand with the count
abbrev pub LeavesKeys : ValueKeys → Pass → ValueKeys → Bool → Type 0
LeavesKeys values pass' values' zero =
    (book_in values' ≡ pass'.name) × (values'.keys.held ≡ with_list (if zero then values.keys.held else []) pass'.seen)
    × AreLast values' pass' × AreClosed values'

-- those of the batch's values where the count came to 0, and else none
abbrev pub TakesKeys : SlotKey → ℕ → Pass → ValueKeys → Bool → Type 0
TakesKeys key b pass' values' zero =
    (book_in values' ≡ pass'.name) × (values'.keys.held ≡ with_list values'.keys.held pass'.seen)
    × (values_of values' ≡ (if zero then values_in key b else []))
    × AreLast values' pass' × AreClosed values' × AreTold values' pass'

abbrev pub Counts : SlotKey → Pass → SlotKey → Pass → Event → Bool → Type 0
Counts key pass key' pass' event zero =
    (notes : AddsEvent key pass key' pass' event)
    × ((count : ℤ) × (notes.2.0.answer ≡ Counted count) × (zero ≡ is_zero count) × IsNear count)

abbrev pub GivesUp : SlotKey → SlotKey → ℕ → List ℕ → List ℕ → Bool → Type 0
GivesUp key key' b walk queue zero =
    (slot_of key').call ≡ Some (record { place = Rest (if zero then values_in key b else []) walk; queue = queue })
