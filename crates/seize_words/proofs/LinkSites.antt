-- Whether a link's word stands still.
use Rattle.std.proofs.Common.{◌≡◌, ℕ, true, false, List, [], ◌∷◌, Option, Some, None, is_some, refl, ap, ◌∙◌}
use base.Stored.{Gv, gnil, gnum, gcons}
use Rattle.seize_book.specs.Entry.{Entry}
use Rattle.seize_book.specs.Ledger.{HeldKey}
use Rattle.seize_words.specs.LinkSites.{KeyRow, LinkSite, IsShared, first_code, as_row, is_still, key_of_row, keys_of_rows, laid, read_from, rows_of}

pub not_still : (w : LinkSite) → IsShared w → w.still ≡ None
not_still w is = go w.still is
  where
    go : (o : Option (ℕ × List KeyRow)) → is_some o ≡ false → o ≡ None
    go None is = refl
    go (Some t) is = absurd (cc)

pub stands_still : (w : LinkSite) → is_still w ≡ true → (t : ℕ × List KeyRow) × (w.still ≡ Some t)
stands_still w is = go w.still is
  where
    go : (o : Option (ℕ × List KeyRow)) → is_some o ≡ true → (t : ℕ × List KeyRow) × (o ≡ Some t)
    go None is = absurd (cc)
    go (Some t) is = (t, refl)

-- What is noted comes back from its numbers.
read_laid : (g : Gv) (rest : List ℕ) (done : List Gv) → read_from (laid g rest) done ≡ read_from rest (g ∷ done)
read_laid gnil rest done = refl
read_laid (gnum n) rest done = refl
read_laid (gcons a b) rest done = read_laid a (laid b (2 ∷ rest)) done ∙ read_laid b (2 ∷ rest) (a ∷ done)

key_back : (h : HeldKey Entry) → key_of_row (as_row h) ≡ h
key_back h = ap (λ (gs : List Gv). record { kind = h.kind; key = h.key; own = h.own; label = h.label; note = first_code gs }) (read_laid h.note [] [])

pub keys_back : (held : List (HeldKey Entry)) → keys_of_rows (rows_of held) ≡ held
keys_back [] = refl
keys_back (h ∷ held) = λ j. key_back h j ∷ keys_back held j
