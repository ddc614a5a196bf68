-- The first of some keys, apart from the others; and keys of one value of whose block something is noted, or is as it was.
use Rattle.std.proofs.Common.{◌≡◌, true, List, [], ◌∷◌, ◌++◌, refl, sym, ap, subst}
use base.Stored.{Gv}
use Rattle.seize_book.specs.Book.{after, blocks}
use Rattle.seize_book.specs.Entry.{Entry}
use Rattle.seize_book.specs.Ledger.{HeldKey, with_list}
use Rattle.seize_book.specs.Linked.{are_joined}
use Rattle.seize_book.specs.Notes.{IsUnchanged, with_note}
use Rattle.seize_book.specs.Others.{IsLast, IsLastIn, value_of}
use Rattle.seize_book.specs.Private.{is_one, label_of, labels_of, note_of, own_of}
use Rattle.seize_book.specs.Tokens.{Name, start}
use Rattle.seize_book.specs.declared.book.value_key.ValueKey.{ValueKey}

abbrev Keys : Type 0
Keys = List (HeldKey Entry)

-- Keys without the first,
pub others_know : (held rest : Keys) (seen : List Entry) → is_one blocks held ≡ true → held ++ rest ≡ with_list (held ++ rest) seen → rest ≡ with_list rest seen
others_know [] rest seen one same = absurd (cc)
others_know (h ∷ []) rest seen one same = ap tail_of same
  where
    tail_of : Keys → Keys
    tail_of [] = []
    tail_of (x ∷ xs) = xs
others_know (h ∷ g ∷ held) rest seen one same = absurd (cc)

pub others_closed : (held rest : Keys) → is_one blocks held ≡ true → are_joined (held ++ rest) [] ≡ true → are_joined rest [] ≡ true
others_closed [] rest one closed = absurd (cc)
others_closed (h ∷ []) [] one closed = refl
others_closed (h ∷ []) (k ∷ rest) one closed = closed
others_closed (h ∷ g ∷ held) rest one closed = absurd (cc)

-- and what the first knows.
pub own_is : (held rest : Keys) (seen : List Entry) → is_one blocks held ≡ true → held ++ rest ≡ with_list (held ++ rest) seen → own_of held ≡ seen
own_is [] rest seen one same = absurd (cc)
own_is (h ∷ []) rest seen one same = ap own_of same
own_is (h ∷ g ∷ held) rest seen one same = absurd (cc)

pub one_label : (held : Keys) → is_one blocks held ≡ true → labels_of held ≡ label_of held ∷ []
one_label [] one = absurd (cc)
one_label (h ∷ []) one = refl
one_label (h ∷ g ∷ held) one = absurd (cc)

-- A key of one value of whose block something is noted is for the same value.
pub noted_one : (held : Keys) (g : Gv) → is_one blocks held ≡ true → (is_one blocks (with_note g held) ≡ true) × (label_of (with_note g held) ≡ label_of held) × (note_of (with_note g held) ≡ g)
noted_one [] g one = absurd (cc)
noted_one (h ∷ []) g one = (one, refl, refl)
noted_one (h ∷ k ∷ held) g one = absurd (cc)

-- So is a key that is unchanged, and it knows the same.
pub unchanged_value : (value value' : ValueKey) → IsUnchanged value value' → value_of value' ≡ value_of value
unchanged_value value value' same = ap label_of same.1

pub unchanged_last : (value value' : ValueKey) → IsUnchanged value value' → IsLast value → IsLast value'
unchanged_last value value' same last = subst (λ (t : Name × Keys). IsLastIn (label_of t.1) (after (start t.0) (own_of t.1))) (λ j. (sym same.0 j, sym same.1 j)) last
