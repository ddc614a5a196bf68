-- The words in which the contracts of books speak.
--     HasKeys book keys links store table      a new book with so many links, which are empty; and its keys
--     AreFirst keys, AreApart keys all         those that a book begins with;  the same, each by itself
--     IsNewPass pass                           nothing was made with it
--     Learns pass book pass'                   it has seen the longer of what it had and the book has, a legal list, which is what it had
--                                              where it is alone; and nothing was made with it
--     IsNextIn value number                    it was never named, all values that lay in its block before were reclaimed, and this is the
--                                              number by which words hold the block
--     IsNextAfter value last number            it was never named, and of all that were ever named in its block this last one alone may not
--                                              have been reclaimed; words hold the block by this number
--     MaySettle value pass                     it is so after a value that was reclaimed since, as the pass has seen
--     home_in count, count_known count         the block whose count it is the key of, and the count, as the key knows
--     deposit_known count, field_known field   the values whose keys stand beside it;  what was last stored in the field, as its key knows
--     IsCountAt count home                     it is that of the block with this home, the count is 0, and no keys stand beside it
--     IsFieldAt which field home               it is that of this field of the block with this home, and nothing was stored there
use Rattle.std.specs.Prelude.{◌≡◌, ℕ, ℤ, pos, true, false, List, [], drop, take}
use Rattle.seize_machine.specs.Machine.State.{has}
use Rattle.seize_book.specs.Blocks.{block_number}
use Rattle.seize_book.specs.Chains.{field_value}
use Rattle.seize_book.specs.Deposits.{deposit}
use Rattle.seize_book.specs.Homes.{IsVacant, count_in, home_of}
use Rattle.seize_book.specs.Book.{IsLegalList, after}
use Rattle.seize_book.specs.Others.{IsLastIn, is_named, state_of, value_of}
use Rattle.seize_book.specs.Tokens.{IsSole, start}
use Rattle.seize_book.specs.Private.{key_of, own_of}
use Rattle.seize_book.specs.Begin.{BeganWith, first_keys, first_links}
use Rattle.seize_book.specs.Passes.{IsSamePass, Longer, MadeNone, mine_of}
use Rattle.seize_book.specs.declared.book.book_keys.BookKeys.{BookKeys}
use Rattle.seize_book.specs.declared.book.count_key.CountKey.{CountKey}
use Rattle.seize_book.specs.declared.book.field_key.FieldKey.{FieldKey}
use Rattle.seize_book.specs.declared.book.keys.Keys.{Keys}
use Rattle.seize_book.specs.declared.book.pass.Pass.{Pass}
use Rattle.seize_book.specs.declared.book.seen.Seen.{Seen}
use Rattle.seize_book.specs.declared.book.value_key.ValueKey.{ValueKey}

-- the keys are all those of the book at its beginning, of which it has seen nothing more
abbrev pub BeginsWithKeys : Seen → Keys → ℕ → List ℕ → List ℕ → Type 0
BeginsWithKeys book keys links store table =
    BeganWith book.name links store table × (book.seen ≡ []) × (keys.name ≡ book.name) × (keys.held ≡ first_keys links)

abbrev pub IsNewPass : Pass → Type 0
IsNewPass pass = mine_of pass ≡ []

abbrev pub Learns : Pass → Seen → Pass → Type 0
Learns pass book pass' =
    IsSamePass pass pass' × MadeNone pass pass' × Longer pass.seen book.seen pass'.seen
    × (IsSole pass.id → pass'.seen ≡ pass.seen) × IsLegalList (start pass.name) pass'.seen

-- with so many links, those that a book begins with
abbrev pub AreFirst : Keys → Type 0
AreFirst keys = (links : ℕ) × (keys.held ≡ first_keys links)

-- each by itself, in the order in which they were
pub record AreApart (keys : Keys) (all : BookKeys) : Type 0 where
  pub numbers : (all.numbers.keys.name ≡ keys.name) × (all.numbers.keys.held ≡ take 1 keys.held)
  pub total : (all.total.keys.name ≡ keys.name) × (all.total.keys.held ≡ take 1 (drop 1 keys.held))
  pub slot : (all.next.slot.keys.name ≡ keys.name) × (all.next.slot.keys.held ≡ take 1 (drop 2 keys.held))
  pub head : (all.next.head.keys.name ≡ keys.name) × (all.next.head.keys.held ≡ take 1 (drop 3 keys.held))
  pub links : (all.links.keys.name ≡ keys.name) × (all.links.keys.held ≡ drop 4 keys.held)

-- it is of the book, and nothing was ever added by its holder
abbrev pub IsUnused : Keys → Seen → Type 0
IsUnused keys book = (keys.name ≡ book.name) × (own_of keys.held ≡ [])

-- It begins with so many links, which are empty, and has seen nothing more. These are its keys: those of the numbers, of the total, of the
-- first slot and its head, and of all links; and the right to set its size.
pub record HasKeys (book : Seen) (keys : BookKeys) (many : ℕ) (store table : List ℕ) : Type 0 where
  pub began : BeganWith book.name many store table × (book.seen ≡ [])
  pub numbers : IsUnused keys.numbers.keys book
  pub total : IsUnused keys.total.keys book
  pub slot : IsUnused keys.next.slot.keys book × (key_of keys.next.slot.keys.held ≡ 0)
  pub head : IsUnused keys.next.head.keys book × (key_of keys.next.head.keys.held ≡ 0)
  pub links : (keys.links.keys.name ≡ book.name) × (keys.links.keys.held ≡ first_links 0 many)
  pub sizes : keys.sizes.name ≡ book.name

-- it was never named, all values that lay in its block before were reclaimed, and words hold the block by this number
abbrev pub IsNextIn : ValueKey → ℕ → Type 0
IsNextIn value number =
    (is_named value ≡ false) × IsVacant (state_of value.keys) (home_of (value_of value)) × (block_number (value_of value) ≡ number)

-- it was never named, all others than this last one that were named in its block were reclaimed, and words hold the block by this number
abbrev pub IsNextAfter : ValueKey → ℕ → ℕ → Type 0
IsNextAfter value last number =
    (is_named value ≡ false) × IsLastIn last (state_of value.keys) × (home_of (value_of value) ≡ home_of last)
    × (block_number (value_of value) ≡ number)

-- and this last one was reclaimed too, as the pass has seen
abbrev pub MaySettle : ValueKey → Pass → Type 0
MaySettle value pass =
    (last : ℕ) × IsNextAfter value last (block_number (value_of value)) × (has last (after (start pass.name) pass.seen).gone ≡ true)

abbrev pub home_in : CountKey → ℕ
home_in key = key_of key.keys.held

abbrev pub count_known : CountKey → ℤ
count_known key = count_in (state_of key.keys) (home_in key)

abbrev pub deposit_known : CountKey → List ℕ
deposit_known key = deposit (state_of key.keys) (home_in key)

abbrev pub field_known : FieldKey → ℕ
field_known key = field_value (own_of key.keys.held) (key_of key.keys.held)

-- the count of its block, which is 0
abbrev pub IsCountAt : CountKey → ℕ → Type 0
IsCountAt count home = (home_in count ≡ home) × (count_known count ≡ pos 0) × (deposit_known count ≡ [])

abbrev pub IsFieldAt : (ℕ → ℕ) → FieldKey → ℕ → Type 0
IsFieldAt which field home = (key_of field.keys.held ≡ which home) × (field_known field ≡ 0)
