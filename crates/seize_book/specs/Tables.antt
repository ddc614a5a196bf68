-- The words in which contracts speak of the table where the heads of a book lie.
--     IsPlaced key             the slot's head lies in the table, as its key says
--     IsLike key key'          it is the key of the same slot, and knows what it knew
--     LiesAt keys token        there is one key, of a slot, and its entry in the table of the book has the slot's label
--     GetsPlace keys keys'     they are the same keys, and the first says that the head of its slot lies in the table
--     AreSlotsOf pass all      these are the first entries of the table of the pass's book, one for each slot that the pass has seen, and
--                              each has its slot's label
use Rattle.std.specs.Prelude.{◌≡◌, true, length}
use Rattle.seize_table.specs.declared.tls.all_filled.AllFilled.{AllFilled}
use Rattle.seize_table.specs.declared.tls.filled_at.FilledAt.{FilledAt}
use Rattle.seize_book.specs.Book.{after, slots}
use Rattle.seize_book.specs.Others.{with_label}
use Rattle.seize_book.specs.Private.{is_one, key_of, label_of}
use Rattle.seize_book.specs.Slots.{own_list, slot_number}
use Rattle.seize_book.specs.Tokens.{label_at, slot_labels, start}
use Rattle.seize_book.specs.declared.book.keys.Keys.{Keys}
use Rattle.seize_book.specs.declared.book.pass.Pass.{Pass}
use Rattle.seize_book.specs.declared.book.slot_key.SlotKey.{SlotKey}

abbrev pub IsPlaced : SlotKey → Type 0
IsPlaced key = label_of key.keys.held ≡ 1

abbrev pub IsLike : SlotKey → SlotKey → Type 0
IsLike key key' =
    (key'.keys.name ≡ key.keys.name) × (slot_number key' ≡ slot_number key) × (own_list key' ≡ own_list key)

pub record LiesAt (keys : Keys) (token : FilledAt) : Type 0 where
  pub one : is_one slots keys.held ≡ true
  pub table : keys.name.table ≡ token.table
  pub entry : token.number ≡ key_of keys.held
  pub head : token.label ≡ label_at keys.name (key_of keys.held)

abbrev pub GetsPlace : Keys → Keys → Type 0
GetsPlace keys keys' = (keys'.name ≡ keys.name) × (keys'.held ≡ with_label 1 keys.held)

abbrev pub AreSlotsOf : Pass → AllFilled → Type 0
AreSlotsOf pass all =
    (all.table ≡ pass.name.table) × (all.labels ≡ slot_labels pass.name (length (after (start pass.name) pass.seen).slots))
