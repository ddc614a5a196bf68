-- How a book begins.
--     BeganWith n links store table     its opening has no slot and so many links, which are empty; and these are the store where its
--                              blocks lie and the table where its heads do
--     first_keys many          with so many links, the keys that there are then but for passes: those of the numbers, of the total, of the
--                              first slot and its head, and of each link
--     book_owns n seen         what the token of a book owns that has seen this beginning of the list
use Rattle.std.specs.Prelude.{◌≡◌, ℕ, zero, suc, List, [], ◌∷◌, replicate, None}
use base.Stored.{gnil}
use base.Fml.{Fml, fsep}
use Rattle.seize_book.specs.Ledger.{HeldKey, reached}
use Rattle.seize_book.specs.Entry.{Entry, entry_coded}
use Rattle.seize_book.specs.Book.{numbers, slots, heads, links, totals}
use Rattle.seize_book.specs.Tokens.{Name, knows}

abbrev pub BeganWith : Name → ℕ → List ℕ → List ℕ → Type 0
BeganWith n links store table =
    (n.slots ≡ 0) × (n.links ≡ replicate links None) × (n.store ≡ store) × (n.table ≡ table)

-- nothing was ever added by its holder
abbrev pub new_key : ℕ → ℕ → HeldKey Entry
new_key kind key = record { kind = kind; key = key; own = []; label = 0; note = gnil }

-- those of so many links, from this one on
abbrev pub first_links : ℕ → ℕ → List (HeldKey Entry)
first_links l zero = []
first_links l (suc many) = new_key links l ∷ first_links (suc l) many

abbrev pub first_keys : ℕ → List (HeldKey Entry)
first_keys many = new_key numbers 0 ∷ new_key totals 0 ∷ new_key slots 0 ∷ new_key heads 0 ∷ first_links 0 many

-- It lasts for good, and may be had twice.
abbrev pub book_owns : Name → List Entry → Fml
book_owns n seen = fsep (knows n) (reached entry_coded n.log seen)
