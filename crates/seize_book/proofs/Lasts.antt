-- The last of some keys.
use Rattle.std.proofs.Common.{◌≡◌, ℕ, zero, suc, true, List, [], ◌∷◌, ◌++◌, take, refl, ap}
use Rattle.std.specs.Prelude.{drop}
use Rattle.seize_machine.proofs.Facts.{and_true, eq_true}
use Rattle.seize_book.specs.Adding.{before_last}
use Rattle.seize_book.specs.Book.{blocks}
use Rattle.seize_book.specs.Entry.{Entry}
use Rattle.seize_book.specs.Homes.{home_of}
use Rattle.seize_book.specs.Ledger.{HeldKey}
use Rattle.seize_book.specs.Private.{are_of_blocks, is_one, key_of, label_of, labels_of}

abbrev Keys : Type 0
Keys = List (HeldKey Entry)

pub apart_at : {X : Type 0} (k : ℕ) (xs : List X) → take k xs ++ drop k xs ≡ xs
apart_at zero xs = refl
apart_at (suc k) [] = refl
apart_at (suc k) (x ∷ xs) = ap (λ (r : List _). x ∷ r) (apart_at k xs)

pub record IsLastOf (held : Keys) : Type 0 where
  pub one : is_one blocks (drop (before_last held) held) ≡ true
  pub home : key_of (drop (before_last held) held) ≡ home_of (label_of (drop (before_last held) held))
  pub labels : labels_of (drop (before_last held) held) ≡ label_of (drop (before_last held) held) ∷ []

-- of keys of blocks the last is the key of one
pub last_one : (held : Keys) → ¬ (held ≡ []) → are_of_blocks held ≡ true → IsLastOf held
last_one [] some are = absurd (some refl)
last_one (h ∷ []) some are = let its = and_true _ _ (and_true _ _ are).0 in record { one = its.0; home = eq_true h.key (home_of h.label) its.1; labels = refl }
last_one (h ∷ k ∷ held) some are = let rest = last_one (k ∷ held) (λ e. absurd (cc)) (and_true _ _ are).1 in record { one = rest.one; home = rest.home; labels = rest.labels }
