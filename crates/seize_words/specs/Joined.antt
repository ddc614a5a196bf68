-- The words in which the contracts speak of all words of one book.
--     words_book words               the book whose words they are;  with_size words n     the same, with this batch size; the
--                                    greatest that there was is no less then
--     OpensWords words porter numbers next links size     a new book with no slot yet, with so many links, which are empty; the porter of
--                                    its passes, which is at home, with this batch size; and what its slots are made with
--     IsHolder key pass slot         the key is that of this slot, which is there, as the pass has seen
--     IsInAt activation pass link    the activation has begun, as the pass has seen, and the link is one of the book's: see IsLinkFor
--     IsNewTo n key new              the key is that of a value that may go into a link of book n, or none, and this is its word: see
--                                    IsNewFor
--     OnLink n link P                P is so of this link of book n
use Rattle.std.specs.Prelude.{◌≡◌, ℕ, ◌<◌, []}
use Rattle.seize_book.specs.Begin.{BeganWith}
use Rattle.seize_book.specs.Blocks.{link_word}
use Rattle.seize_words.specs.LinkRows.{IsLinkAt}
use Rattle.seize_words.specs.LinkWords.{value_held}
use Rattle.seize_words.specs.Links.{IsNewIn, IsWithin}
use Rattle.seize_words.specs.Reserved.{HasNextSlot}
use Rattle.seize_book.specs.Others.{rest_of}
use Rattle.seize_book.specs.Slots.{IsKeyOfBook, slot_number}
use Rattle.seize_book.specs.Tokens.{Name}
use Rattle.seize_book.specs.Porters.{IsFirstPorter, most_raised}
use Rattle.seize_words.specs.Totals.{made_of, slots_seen}
use Rattle.seize_words.specs.declared.activation.Activation.{Activation}
use Rattle.seize_book.specs.declared.book.numbers_key.NumbersKey.{NumbersKey}
use Rattle.seize_book.specs.declared.book.pass.Pass.{Pass}
use Rattle.seize_book.specs.declared.book.porter.Porter.{Porter}
use Rattle.seize_book.specs.declared.book.slot_key.SlotKey.{SlotKey}
use Rattle.seize_book.specs.declared.book.seen.Seen.{Seen}
use Rattle.seize_words.specs.declared.link.Link.{Link}
use Rattle.seize_words.specs.declared.link.MaybeKey.{MaybeKey}
use Rattle.seize_words.specs.declared.slots.next.NextSlot.{NextSlot}
use Rattle.seize_words.specs.declared.words.Words.{Words}

abbrev pub words_book : {T : Type 0} → Words T → Name
words_book words = words.blocks.book.name

-- the book has just begun, with as many links, and the keys are those of its first slot
pub record HasJustBegun (book : Seen) (numbers : NumbersKey) (next : NextSlot) (many : ℕ) : Type 0 where
  pub began : BeganWith book.name many book.name.store book.name.table × (book.seen ≡ [])
  pub numbers_are : (numbers.keys.name ≡ book.name) × (made_of numbers ≡ 0) × (rest_of numbers ≡ [])
  pub next_is : HasNextSlot numbers next

abbrev pub with_size : {T : Type 0} → Words T → ℕ → Words T
with_size words n = record words { size = n; sizes = most_raised words.sizes n }

abbrev pub OpensWords : {T : Type 0} → Words T → Porter → NumbersKey → NextSlot → ℕ → ℕ → Type 0
OpensWords words porter numbers next many size =
    IsFirstPorter words.blocks.book porter size × HasJustBegun words.blocks.book numbers next many × (words.size ≡ size)
    × (words.sizes.most ≡ size)

abbrev pub IsHolder : SlotKey → Pass → ℕ → Type 0
IsHolder key pass s = IsKeyOfBook key pass × (slot_number key ≡ s) × (s < slots_seen pass)

abbrev pub IsInAt : Activation → Pass → ℕ → Type 0
IsInAt activation pass l =
    (activation.name ≡ pass.name) × IsWithin pass.name activation.slot activation.life activation.since pass.seen l

abbrev pub OnLink : Name → ℕ → (Link → Type 0) → Type 0
OnLink n l P = (link : Link) × IsLinkAt n l link × P link

abbrev pub IsNewTo : Name → MaybeKey → ℕ → Type 0
IsNewTo n key new = (key.keys.name ≡ n) × IsNewIn n (value_held key) key.keys.held × (new ≡ link_word (value_held key))
