-- The links of a book, made one after another into a row.
use Rattle.std.proofs.Common.{◌≡◌, ◌≢◌, ℕ, zero, suc, ◌+◌, ◌<◌, ◌==◌, Bool, true, false, List, [], ◌∷◌, ◌++◌, length, slice_index_or, slice_set, refl, sym, ap, ◌∙◌, subst, arith}
use Rattle.std.proofs.lemmas.List.{get_or-set_other, get_or-set_same, get_or_append_left, get_or_push, length-set, length_push}
use Rattle.seize_words.specs.LinkRows.{AllAt}
use Rattle.seize_words.specs.declared.link.Link.{Link}

-- while some are left, there is a next
pub some_left : (first rest many : ℕ) → first + rest ≡ many → first < many → (less : ℕ) × (rest ≡ suc less)
some_left first zero many whole less = absurd (omega arith)
some_left first (suc rest) many whole less = (rest, refl)

pub is_equal : (x y : ℕ) → (x == y) ≡ true → x ≡ y
is_equal x y e = grind arith

is_other : (x y : ℕ) → (x == y) ≡ false → x ≢ y
is_other x y e = grind arith

-- the link that is pushed comes last
module _ (P : ℕ → Link → Type 0) (row : List Link) (link : Link) (all : AllAt P row) (last : P (length row) link) where
  at : (b : Bool) (k : ℕ) (d : Link) → (k == length row) ≡ b → k < length row + 1 → P k (slice_index_or (row ++ link ∷ []) k d)
  at true k d is less = let e : k ≡ length row = is_equal k (length row) is in
      subst (λ (l : Link). P k l) (sym (get_or_push row link d k (sym e))) (subst (λ (j : ℕ). P j link) (sym e) last)
  at false k d is less = let below : k < length row = omega (arith, is_other k (length row) is, less) in
      subst (λ (l : Link). P k l) (sym (get_or_append_left row (link ∷ []) d k below)) (all k d below)

  pub pushed : (row' : List Link) → row' ≡ row ++ link ∷ [] → AllAt P row'
  pushed row' is k d less =
      subst (λ (l : List Link). P k (slice_index_or l k d)) (sym is)
      (at (k == length row) k d refl (subst (λ (j : ℕ). k < j) (ap (λ (l : List Link). length l) is ∙ length_push row link) less))

-- one of the links changes
module _ (P Q : ℕ → Link → Type 0) (row : List Link) (l : ℕ) (link : Link) (all : AllAt P row) (less : l < length row) (here : Q l link) (others : (k : ℕ) (d : Link) → k ≢ l → P k d → Q k d) where
  set_in : (b : Bool) (k : ℕ) (d : Link) → (k == l) ≡ b → k < length row → Q k (slice_index_or (slice_set row l link) k d)
  set_in true k d is below = let e : k ≡ l = is_equal k l is in
      subst (λ (j : ℕ). Q j (slice_index_or (slice_set row l link) j d)) (sym e) (subst (λ (x : Link). Q l x) (sym (get_or-set_same row l link d less)) here)
  set_in false k d is below = let other : k ≢ l = is_other k l is in
      subst (λ (x : Link). Q k x) (sym (get_or-set_other row l k link d other)) (others k (slice_index_or row k d) other (all k d below))

  pub set_at : AllAt Q (slice_set row l link)
  set_at k d below = set_in (k == l) k d refl (subst (λ (j : ℕ). k < j) (length-set row l link) below)
