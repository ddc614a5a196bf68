-- The words in which crates above speak of words and keys: which book they are of, and what they know of it.
--     head_book head                   the book of a head
--     slot_book key, next_book key, numbers_book key, total_key_book key      the book of a key: of a slot, of the head of a slot that is
--                                      not there yet, of the numbers, and of the total
--     links_name links, link_count links   the book whose links a row has, and how many there are
--     next_head key                    the slot whose head it is the key of
--     first_value keys                 the first of the values whose keys they are
use Rattle.std.specs.Prelude.{ℕ, length}
use Rattle.seize_book.specs.Private.{key_of, label_of}
use Rattle.seize_book.specs.Tokens.{Name}
use Rattle.seize_book.specs.declared.book.head_key.HeadKey.{HeadKey}
use Rattle.seize_book.specs.declared.book.numbers_key.NumbersKey.{NumbersKey}
use Rattle.seize_book.specs.declared.book.slot_key.SlotKey.{SlotKey}
use Rattle.seize_book.specs.declared.book.total_key.TotalKey.{TotalKey}
use Rattle.seize_book.specs.declared.book.value_keys.ValueKeys.{ValueKeys}
use Rattle.seize_words.specs.declared.link.row.Links.{Links}
use Rattle.seize_words.specs.declared.reservation.Head.{Head}

abbrev pub head_book : Head → Name
head_book head = head.word.name

abbrev pub slot_book : SlotKey → Name
slot_book key = key.keys.name

abbrev pub next_book : HeadKey → Name
next_book key = key.keys.name

abbrev pub numbers_book : NumbersKey → Name
numbers_book key = key.keys.name

abbrev pub total_key_book : TotalKey → Name
total_key_book key = key.keys.name

abbrev pub links_name : Links → Name
links_name links = links.book.name

abbrev pub link_count : Links → ℕ
link_count links = length (links_name links).links

abbrev pub next_head : HeadKey → ℕ
next_head key = key_of key.keys.held

abbrev pub first_value : ValueKeys → ℕ
first_value keys = label_of keys.keys.held
