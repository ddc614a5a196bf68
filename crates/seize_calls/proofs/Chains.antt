-- Keys of values that come to others, as a chain through their blocks.
use Rattle.std.proofs.Common.{◌≡◌, ◌≢◌, ℕ, true, false, List, [], ◌∷◌, ◌++◌, refl, ◌∙◌, arith}
use base.Stored.{Gv}
use Rattle.seize_machine.specs.Machine.State.{has}
use Rattle.seize_book.specs.Blocks.{block_number}
use Rattle.seize_book.specs.Book.{after, blocks}
use Rattle.seize_book.specs.Books.{IsNextIn}
use Rattle.seize_book.specs.Entry.{Entry}
use Rattle.seize_book.specs.Homes.{IsVacant, home_of}
use Rattle.seize_book.specs.Ledger.{HeldKey}
use Rattle.seize_book.specs.Lending.{IsLentKey}
use Rattle.seize_book.specs.Linked.{are_joined}
use Rattle.seize_book.specs.Notes.{with_note}
use Rattle.seize_book.specs.Others.{book_of}
use Rattle.seize_book.specs.Private.{is_one, label_of, labels_of, own_of}
use Rattle.seize_book.specs.Loans.{CarriesOne}
use Rattle.seize_book.specs.Tokens.{Name, start}
use Rattle.seize_book.specs.Values.{AllNew}
use Rattle.seize_book.specs.declared.book.value_key.ValueKey.{ValueKey}
use Rattle.seize_words.proofs.Facts.{closed_after}
use Rattle.seize_calls.proofs.Rounds.{joined_like}
use Rattle.seize_calls.specs.Batches.{IsNewValue}
use Rattle.seize_calls.specs.Numbered.{are_none, ends_at, word_of_first}

abbrev Keys : Type 0
Keys = List (HeldKey Entry)

-- Whether there are some.

pub none_all : (vs : List ℕ) → are_none vs ≡ true → vs ≡ []
none_all [] none = refl
none_all (v ∷ vs) none = absurd (cc)

pub word_is : (n : ℕ) (vs : List ℕ) → n ≡ word_of_first vs → n ≡ 0 → are_none vs ≡ true
word_is n [] is none = refl
word_is n (v ∷ vs) is none = absurd (omega (arith, is, none))

pub some_word : (n : ℕ) (vs : List ℕ) → n ≡ word_of_first vs → n ≢ 0 → are_none vs ≡ false
some_word n [] is some = absurd (some is)
some_word n (v ∷ vs) is some = refl

pub no_keys : (held : Keys) → labels_of held ≡ [] → held ≡ []
no_keys [] none = refl
no_keys (h ∷ held) none = absurd (cc)

-- Numbers of the first and the last.

pub word_append : (a b : List ℕ) → are_none a ≡ false → word_of_first (a ++ b) ≡ word_of_first a
word_append [] b some = absurd (cc)
word_append (v ∷ a) b some = refl

pub ends_append : (n : ℕ) (a b : List ℕ) → are_none b ≡ false → ends_at n b ≡ true → ends_at n (a ++ b) ≡ true
ends_append n [] b some ends = ends
ends_append n (v ∷ []) [] some ends = absurd (cc)
ends_append n (v ∷ []) (w ∷ b) some ends = ends
ends_append n (v ∷ w ∷ a) b some ends = ends_append n (w ∷ a) b some ends

-- Chains that are joined.

pub joined_some : (a b : Keys) (n : ℕ) → ((h : HeldKey Entry) → block_number h.label ≡ n → are_joined a (h ∷ []) ≡ true) → are_none (labels_of b) ≡ false
    → ((h : HeldKey Entry) (rest : Keys) → b ≡ h ∷ rest → block_number h.label ≡ n) → are_joined a b ≡ true
joined_some a [] n leads some number = absurd (cc)
joined_some a (h ∷ b) n leads some number = joined_like a h h [] b refl (leads h (number h b refl))

pub append_closed : (a b : Keys) → are_none (labels_of b) ≡ false → are_joined b [] ≡ true → are_joined (a ++ b) [] ≡ true
append_closed a [] some closed = absurd (cc)
append_closed a (k ∷ b) some closed = closed_after a k b ∙ closed

-- New values stay new, whatever is noted of them.

pub new_noted : (n : Name) (a one : Keys) (g : Gv) → AllNew n (a ++ one) → AllNew n (a ++ with_note g one)
new_noted n [] [] g all = all
new_noted n [] (h ∷ one) g all = all
new_noted n (x ∷ a) one g all = (all.0, new_noted n a one g all.1)

pub new_append : (n : Name) (a b : Keys) → AllNew n a → AllNew n b → AllNew n (a ++ b)
new_append n [] b all more = more
new_append n (h ∷ a) b all more = (all.0, new_append n a b all.1 more)

one_new : (n : Name) (held : Keys) → is_one blocks held ≡ true → has (label_of held) (after (start n) (own_of held)).named ≡ false → IsVacant (after (start n) (own_of held)) (home_of (label_of held)) → CarriesOne (label_of held)
    → AllNew n held
one_new n [] one unnamed vacant lent = absurd (cc)
one_new n (h ∷ k ∷ held) one unnamed vacant lent = absurd (cc)
one_new n (h ∷ []) one unnamed vacant lent = ((unnamed, vacant, lent), tt)

pub is_new : (value : ValueKey) (number : ℕ) → IsNextIn value number → IsLentKey value → IsNewValue value
is_new value number next lent = one_new (book_of value) value.keys.held value.one next.0 next.1 lent

pub first_new : (n : Name) (one rest : Keys) → is_one blocks one ≡ true → AllNew n (one ++ rest)
    → (has (label_of one) (after (start n) (own_of one)).named ≡ false) × IsVacant (after (start n) (own_of one)) (home_of (label_of one)) × CarriesOne (label_of one) × AllNew n rest
first_new n [] rest one all = absurd (cc)
first_new n (h ∷ k ∷ held) rest one all = absurd (cc)
first_new n (h ∷ []) rest one all = (all.0.0, all.0.1, all.0.2, all.1)
