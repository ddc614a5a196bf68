-- What a token shows of a row: its cell has one value for good, and that is the list of its chunks' places and tags. A tag is a pair of the
-- label of a chunk's header and of the name of the chunk's content. No type of a store stands in these words, so a crate above can state
-- what they say for good.
--     row_of n, entry_of n         the row and the entry of the number n: the chunk at entry e of row r has the number 64 * e + r
--     IsInRow n r                  n is the number of a chunk of row r, which has 2 ^ (r + 5) chunks
--     known_row store r chunks     row r of that store has these chunks, for good
--     chunk_in chunks e            where the chunk at entry e lies, and its tag;  place_in, label_in and content_in are what these say
--     family_in store              the family of the store's chunks;  AreKin f chunks   their labels are of the family f
--     IsRowIn store row chunks     there is such a row, these are as many chunks as it has, and they are of the store's family
--     Way store n φ                a row of that store, of which the chunk of the number n has a tag with φ;  leads_where store n φ   there
--                                  is one
--     leads_to store n k           the number n leads to the label k in that store, for good
--     lends_by store n γ           what is lent in the chunk of the number n is lent by the content γ, for good
--     tells store n t              both, for the label t.0 and the content t.1
use Rattle.std.specs.Prelude.{◌≡◌, ℕ, suc, ◌+◌, ◌/◌, ◌%◌, ◌^◌, ◌<◌, All, List, get_or, length}
use base.Stored.{gnil, gcons, coded_list, coded×, coded_ℕ}
use base.Fml.{Fml, fres, fex}
use denote.RawPtr.{Ptr, null_ptr, coded_ptr}
use Rattle.seize_table.specs.Pairs.{left_of, of_family, right_of}

-- what is carried of a store: its own name, the family of its chunks, and then the names of its rows' cells
abbrev pub family_in : List ℕ → ℕ
family_in store = get_or store 1 0

abbrev pub row_name : List ℕ → ℕ → ℕ
row_name store row = get_or store (suc (suc row)) 0

abbrev pub known_row : List ℕ → ℕ → List (Ptr × ℕ) → Fml
known_row store row chunks = fres (row_name store row) (gcons gnil ((coded_list (coded× coded_ptr coded_ℕ)).code chunks))

abbrev pub row_of : ℕ → ℕ
row_of number = number % 64

abbrev pub entry_of : ℕ → ℕ
entry_of number = number / 64

pub record IsInRow (number row : ℕ) : Type 0 where
  pub lies : row_of number ≡ row
  pub within : entry_of number < 2 ^ (row + 5)

abbrev pub chunk_in : List (Ptr × ℕ) → ℕ → Ptr × ℕ
chunk_in chunks entry = get_or chunks entry (null_ptr, 0)

abbrev pub place_in : List (Ptr × ℕ) → ℕ → Ptr
place_in chunks entry = (chunk_in chunks entry).0

abbrev pub label_in : List (Ptr × ℕ) → ℕ → ℕ
label_in chunks entry = left_of (chunk_in chunks entry).1

abbrev pub content_in : List (Ptr × ℕ) → ℕ → ℕ
content_in chunks entry = right_of (chunk_in chunks entry).1

abbrev pub AreKin : ℕ → List (Ptr × ℕ) → Type 0
AreKin family chunks = All (λ chunk. of_family family (left_of chunk.1)) chunks

abbrev pub IsRowIn : List ℕ → ℕ → List (Ptr × ℕ) → Type 0
IsRowIn store row chunks = (row < 53) × (length chunks ≡ 2 ^ (row + 5)) × AreKin (family_in store) chunks

-- a row of the store and its chunks, which is that of the number
pub record Way (store : List ℕ) (number : ℕ) (φ : ℕ → Type 0) : Type 0 where
  pub row : ℕ
  pub chunks : List (Ptr × ℕ)
  pub made : IsRowIn store row chunks
  pub placed : IsInRow number row
  pub tagged : φ (chunk_in chunks (entry_of number)).1

abbrev pub leads_where : List ℕ → ℕ → (ℕ → Type 0) → Fml
leads_where store number φ = fex (Way store number φ) (λ way. known_row store way.row way.chunks)

abbrev pub leads_to : List ℕ → ℕ → ℕ → Fml
leads_to store number label = leads_where store number (λ tag. left_of tag ≡ label)

abbrev pub lends_by : List ℕ → ℕ → ℕ → Fml
lends_by store number content = leads_where store number (λ tag. right_of tag ≡ content)

abbrev pub tells : List ℕ → ℕ → ℕ × ℕ → Fml
tells store number t = leads_where store number (λ tag. (left_of tag, right_of tag) ≡ t)
