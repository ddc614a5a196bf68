-- What a word of the book is. A word stands for one head, link, count or field, or for the total: its value shows what the list says of
-- it. The word's key stands beside it, in the word's own invariant, so whoever takes an atomic step on the word may add the entry that
-- changes these in that very step, and nobody else may.
--     Site                   which word it is: its book, and the kind and number of what it stands for
--     IsField site, IsCount site     it is that of a field, of a count;  IsTotal site    it is the one that says how many slots there are
--     ShowsWord site v log   the value v is what the list says
--     AreOtherKeys site log vs   these are the other keys that stand beside it: of a link that of the block of the value in it, of a count
--                            those of the blocks of the batch's values, which lead on, once its call has added to it; of each the list
--                            says what is noted to be kept of it
--     site_keys site since vs     its keys, its own first, which knows the list as it was at the last step on the word
--     word_owns site v       what stands beside the memory of a word with this value;  word_shares    what a `&` to it is
use Rattle.std.specs.Prelude.{◌≡◌, ℕ, true, List, [], ◌∷◌, length, Option, Some, None}
use Rattle.std.specs.Coded.{Coded, code_by, coded_ℕ, coded×}
use mathlib.Core.Path.{refl}
use base.Before.{before}
use base.Stored.{gnil}
use base.Fml.{Lft, Fml, ffalse, fsep, fex, fbor, fnamed}
use denote.RawPtr.{Ptr, block_ptr, null_ptr}
use Rattle.core.specs.Sync.RawAtomic.{word}
use Rattle.seize_machine.specs.Machine.State.{State, link_at}
use Rattle.seize_book.specs.Ledger.{HeldKey, fact}
use Rattle.seize_book.specs.Entry.{Entry}
use Rattle.seize_book.specs.Book.{Kind, TheHead, TheLink, TheCount, TheField, TheTotal, kind_of, after, blocks, counts, fields, totals}
use Rattle.seize_book.specs.Blocks.{count_word, head_word, link_word}
use Rattle.seize_book.specs.Chains.{field_value}
use Rattle.seize_book.specs.Deposits.{deposit}
use Rattle.seize_book.specs.Homes.{count_in, home_of}
use Rattle.seize_book.specs.Kept.{AreToldIn}
use Rattle.seize_book.specs.Private.{AreKeysOf, is_one, key_of, label_of}
use Rattle.seize_book.specs.Tokens.{Name, name_coded, start, keys_own}

pub record Site : Type 0 where
  pub name : Name
  pub kind : ℕ
  pub number : ℕ

abbrev pub IsField : Site → Type 0
IsField site = site.kind ≡ fields

abbrev pub IsCount : Site → Type 0
IsCount site = site.kind ≡ counts

abbrev pub IsTotal : Site → Type 0
IsTotal site = (site.kind ≡ totals) × (site.number ≡ 0)

abbrev pub site_coded : Coded Site
site_coded =
    code_by (Name × (ℕ × ℕ)) (coded× name_coded (coded× coded_ℕ coded_ℕ)) (λ s. (s.name, (s.kind, s.number)))
    (λ t. record { name = t.0; kind = t.1.0; number = t.1.1 }) (λ _. refl)

abbrev pub ShowsOfKind : State → Kind → ℕ → ℕ → List Entry → Type 0
ShowsOfKind st TheHead m v log = v ≡ head_word st log m
ShowsOfKind st TheLink l v log = v ≡ link_word (link_at (after st log) l)
ShowsOfKind st TheCount k v log = v ≡ count_word (count_in (after st log) k)
ShowsOfKind st TheField f v log = v ≡ field_value log f
ShowsOfKind st TheTotal k v log = v ≡ length (after st log).slots
ShowsOfKind st _ k v log = ⊥

abbrev pub ShowsWord : Site → ℕ → List Entry → Type 0
ShowsWord site v log = ShowsOfKind (start site.name) (kind_of site.kind) site.number v log

-- the key of the block in which a value lies, with the value's name on it
abbrev pub IsKeyOf : Option ℕ → List (HeldKey Entry) → Type 0
IsKeyOf None vs = vs ≡ []
IsKeyOf (Some v) vs = (is_one blocks vs ≡ true) × (key_of vs ≡ home_of v) × (label_of vs ≡ v)

abbrev pub AreOtherKeysOf : Name → Kind → ℕ → List Entry → List (HeldKey Entry) → Type 0
AreOtherKeysOf n TheLink l log vs = IsKeyOf (link_at (after (start n) log) l) vs
AreOtherKeysOf n TheCount k log vs = AreKeysOf (deposit (after (start n) log) k) vs × AreToldIn log vs
AreOtherKeysOf n _ k log vs = vs ≡ []

abbrev pub AreOtherKeys : Site → List Entry → List (HeldKey Entry) → Type 0
AreOtherKeys site log vs = AreOtherKeysOf site.name (kind_of site.kind) site.number log vs

abbrev pub site_keys : Site → List Entry → List (HeldKey Entry) → List (HeldKey Entry)
site_keys site since vs = record { kind = site.kind; key = site.number; own = since; label = 0; note = gnil } ∷ vs

-- the list was `since` at the last step on the word
abbrev pub word_knows : Site → ℕ → List Entry × List (HeldKey Entry) → Fml
word_knows site v t = fsep (fact (ShowsWord site v t.0 × AreOtherKeys site t.0 t.1)) (keys_own site.name (site_keys site t.0 t.1))

abbrev pub word_owns : Site → ℕ → Fml
word_owns site v = fex (List Entry × List (HeldKey Entry)) (word_knows site v)

abbrev pub word_lies : Site → ℕ → ℕ → ℕ → Fml
word_lies site b o v = fsep (word b o v) (word_owns site v)

abbrev pub word_reading : Site → ℕ → ℕ → Fml
word_reading site b o = fex ℕ (word_lies site b o)

-- while it is shared: an invariant with a number of its own, that is not the book's
abbrev pub word_lent : Site → ℕ → ℕ → Lft → Lft × ℕ → Fml
word_lent site b o κ t = fsep (before κ t.0) (fsep (fact (¬ (site.name.number ≡ t.1))) (fnamed t.1 (fbor t.0 (word_reading site b o))))

abbrev pub word_shares : Site → Ptr → Lft → Fml
word_shares site (block_ptr b o) κ = fex (Lft × ℕ) (word_lent site b o κ)
word_shares site null_ptr κ = ffalse
