-- What the word of a link is. Threads share it, as the words of other things, or it stands still, in one caller's hands: then it is plain
-- memory beside its keys.
--     laid g rest, code_back xs     a code in numbers, before these;  and the code again (read_from, first_code: with a stack of codes)
--     KeyRow, as_row h, key_of_row r     a key with what is noted beside it in numbers, so that a word is plain data;  and the key again
--     rows_of held, keys_of_rows rows, keys_of n rows    the same of each key;  and as keys of book n
--     LinkSite                which link's word it is; and where it stands still what it holds, and its keys
--     key_row_coded, link_site_coded     their codes
--     site_in w               which word it is;  shared_at site    that word, which threads share
--     is_still w, still_word w, IsShared w     it stands still;  as such, if it does;  threads share it
--     standing n t            the word of book n that stands still with this;  StandsWith w t     this one does
--     link_word_owns w vs     what a link's word owns, by its bits;  link_word_shares    what a `&` to it is. By cases: owns_by, shares_by,
--                             still_shares
--     MayGlimpse held         the key of a value comes after the word's own, and something is lent with the value
--     StandsAs w w'           a word that threads shared stands still, with its keys;  StirsAs w    one that stands so may be shared
--     MayLookStill, LooksStill     its keys look at the list: see MayLook and LooksWithKeys
use Rattle.std.specs.Prelude.{◌≡◌, ℕ, zero, suc, Bool, false, true, List, [], ◌∷◌, drop, map, Option, Some, None, option_map, is_some}
use Rattle.std.specs.Coded.{Coded, code_by, coded_list, coded_option, coded_ℕ, coded×}
use mathlib.Core.Path.{refl}
use base.Fml.{Lft, Fml, ffalse}
use base.Stored.{Gv, gnil, gnum, gcons}
use mir.Val.{Val}
use denote.RawPtr.{Ptr, block_ptr, null_ptr}
use Rattle.seize_book.specs.Adding.{LooksWithKeys, MayLook}
use Rattle.seize_book.specs.Book.{blocks}
use Rattle.seize_book.specs.Entry.{Entry, entry_coded}
use Rattle.seize_book.specs.Ledger.{HeldKey}
use Rattle.seize_book.specs.Loans.{CarriesOne}
use Rattle.seize_book.specs.Private.{is_one, label_of}
use Rattle.seize_book.specs.Tokens.{Name, name_coded}
use Rattle.seize_book.specs.declared.book.keys.Keys.{Keys}
use Rattle.seize_book.specs.declared.book.pass.Pass.{Pass}
use Rattle.seize_words.specs.Atomic.{IsWordOf, site_of}
use Rattle.seize_words.specs.Words.{Site, word_shares}
use Rattle.seize_words.specs.contracts.link.still.StillWord as still
use Rattle.seize_words.specs.contracts.word.Word as word
use Rattle.seize_words.specs.declared.link.still.StillWord.{StillWord}

-- after the parts of a code it is made of them
abbrev pub laid : Gv → List ℕ → List ℕ
laid gnil rest = 0 ∷ rest
laid (gnum n) rest = 1 ∷ n ∷ rest
laid (gcons a b) rest = laid a (laid b (2 ∷ rest))

abbrev pub read_from : List ℕ → List Gv → List Gv
read_from [] done = done
read_from (zero ∷ rest) done = read_from rest (gnil ∷ done)
read_from (suc zero ∷ []) done = done
read_from (suc zero ∷ n ∷ rest) done = read_from rest (gnum n ∷ done)
read_from (suc (suc k) ∷ rest) [] = []
read_from (suc (suc k) ∷ rest) (b ∷ []) = []
read_from (suc (suc k) ∷ rest) (b ∷ a ∷ done) = read_from rest (gcons a b ∷ done)

abbrev pub first_code : List Gv → Gv
first_code [] = gnil
first_code (g ∷ gs) = g

abbrev pub code_back : List ℕ → Gv
code_back xs = first_code (read_from xs [])

pub record KeyRow : Type 0 where
  pub kind : ℕ
  pub key : ℕ
  pub own : List Entry
  pub label : ℕ
  pub note : List ℕ

abbrev pub as_row : HeldKey Entry → KeyRow
as_row h = record { kind = h.kind; key = h.key; own = h.own; label = h.label; note = laid h.note [] }

abbrev pub key_of_row : KeyRow → HeldKey Entry
key_of_row r = record { kind = r.kind; key = r.key; own = r.own; label = r.label; note = code_back r.note }

abbrev pub rows_of : List (HeldKey Entry) → List KeyRow
rows_of held = map as_row held

abbrev pub keys_of_rows : List KeyRow → List (HeldKey Entry)
keys_of_rows rows = map key_of_row rows

abbrev pub key_row_coded : Coded KeyRow
key_row_coded =
    code_by (ℕ × (ℕ × (List Entry × (ℕ × List ℕ))))
    (coded× coded_ℕ (coded× coded_ℕ (coded× (coded_list entry_coded) (coded× coded_ℕ (coded_list coded_ℕ)))))
    (λ r. (r.kind, (r.key, (r.own, (r.label, r.note)))))
    (λ t. record { kind = t.0; key = t.1.0; own = t.1.1.0; label = t.1.1.1.0; note = t.1.1.1.1 }) (λ _. refl)

pub record LinkSite : Type 0 where
  pub name : Name
  pub kind : ℕ
  pub number : ℕ
  pub still : Option (ℕ × List KeyRow)

abbrev pub link_site_coded : Coded LinkSite
link_site_coded =
    code_by (Name × (ℕ × (ℕ × Option (ℕ × List KeyRow))))
    (coded× name_coded (coded× coded_ℕ (coded× coded_ℕ (coded_option (coded× coded_ℕ (coded_list key_row_coded))))))
    (λ w. (w.name, (w.kind, (w.number, w.still))))
    (λ t. record { name = t.0; kind = t.1.0; number = t.1.1.0; still = t.1.1.1 }) (λ _. refl)

abbrev pub site_in : LinkSite → Site
site_in w = record { name = w.name; kind = w.kind; number = w.number }

abbrev pub shared_at : Site → LinkSite
shared_at site = record { name = site.name; kind = site.kind; number = site.number; still = None }

abbrev pub is_still : LinkSite → Bool
is_still w = is_some w.still

abbrev pub IsShared : LinkSite → Type 0
IsShared w = is_still w ≡ false

abbrev pub standing : Name → ℕ × List KeyRow → StillWord
standing n t = record { bits = t.0; name = n; held = keys_of_rows t.1 }

abbrev pub still_word : LinkSite → Option StillWord
still_word w = option_map (standing w.name) w.still

abbrev pub owns_by : Site → Option (ℕ × List KeyRow) → List Val → Fml
owns_by site None vs = word.the_row.own_val site vs
owns_by site (Some t) vs = still.the_row.own_val (standing site.name t) vs

abbrev pub link_word_owns : LinkSite → List Val → Fml
link_word_owns w vs = owns_by (site_in w) w.still vs

-- as a `&` to a word that stands still holds
abbrev pub still_shares : StillWord → Ptr → Lft → Fml
still_shares w (block_ptr b o) κ = still.the_row.shr_at w b o κ
still_shares w null_ptr κ = ffalse

abbrev pub shares_by : Site → Option (ℕ × List KeyRow) → Ptr → Lft → Fml
shares_by site None p κ = word_shares site p κ
shares_by site (Some t) p κ = still_shares (standing site.name t) p κ

abbrev pub link_word_shares : LinkSite → Ptr → Lft → Fml
link_word_shares w p κ = shares_by (site_in w) w.still p κ

abbrev pub MayGlimpse : List (HeldKey Entry) → Type 0
MayGlimpse held = (is_one blocks (drop 1 held) ≡ true) × CarriesOne (label_of (drop 1 held))

-- its keys, as such
abbrev pub keys_of : Name → List KeyRow → Keys
keys_of n rows = record { marker = record {}; name = n; held = keys_of_rows rows }

-- it stands still, holds this, and these are its keys
abbrev pub StandsWith : LinkSite → ℕ × List KeyRow → Type 0
StandsWith w t = (w.still ≡ Some t) × IsWordOf (keys_of w.name t.1) t.0 × (site_of (keys_of w.name t.1) ≡ site_in w)

abbrev pub StandsAs : LinkSite → LinkSite → Type 0
StandsAs w w' = (t : ℕ × List KeyRow) × StandsWith w' t × (site_in w' ≡ site_in w)

abbrev pub StirsAs : LinkSite → Type 0
StirsAs w = (t : ℕ × List KeyRow) × StandsWith w t

abbrev pub MayLookStill : LinkSite → Pass → Type 0
MayLookStill w pass = (t : ℕ × List KeyRow) × (w.still ≡ Some t) × MayLook (keys_of w.name t.1) pass

abbrev pub LooksStill : LinkSite → Pass → LinkSite → Pass → Type 0
LooksStill w pass w' pass' =
    (t : ℕ × List KeyRow) × (w.still ≡ Some t)
    × (rows : List KeyRow) × (w' ≡ record w { still = Some (t.0, rows) })
    × LooksWithKeys (keys_of w.name t.1) pass (keys_of w.name rows) pass'
