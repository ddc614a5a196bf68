-- Lists in which one element changes, or all of them: how many pass a test, and what holds of each.
use Rattle.std.proofs.Common.{◌≡◌, ◌≢◌, ℕ, zero, suc, ◌+◌, ◌<◌, Bool, false, not, ◌==◌, List, [], ◌∷◌, ◌++◌, length, get_or, set, refl, sym, ◌∙◌, ap, arith}
use Rattle.std.specs.List.{count_by, list_any}
use Rattle.std.proofs.lemmas.Grind.{common_steps}
use Rattle.seize_machine.proofs.Facts.{one}

pub count_same : {X : Type 0} (p : X → Bool) (xs : List X) (i : ℕ) (y d : X) → p y ≡ p (get_or xs i d) → count_by p (set xs i y) ≡ count_by p xs
count_same p [] i y d e = refl
count_same p (x ∷ xs) zero y d e = grind (arith, common_steps)
count_same p (x ∷ xs) (suc i) y d e = let k = count_same p xs i y d e in grind (arith, common_steps)

pub count_set : {X : Type 0} (p : X → Bool) (xs : List X) (i : ℕ) (y d : X) → i < length xs → count_by p (set xs i y) + one (p (get_or xs i d)) ≡ count_by p xs + one (p y)
count_set p [] i y d h = absurd (omega arith)
count_set p (x ∷ xs) zero y d h = grind (arith, common_steps)
count_set p (x ∷ xs) (suc i) y d h = let k = count_set p xs i y d (omega arith) in grind (arith, common_steps)

pub any_counts : {X : Type 0} (p : X → Bool) (xs : List X) → list_any p xs ≡ not (count_by p xs == 0)
any_counts p [] = refl
any_counts p (x ∷ xs) = grind (arith, common_steps, any_counts p xs)

pub none_passes : {X : Type 0} (p : X → Bool) (xs : List X) (i : ℕ) (d : X) → count_by p xs ≡ 0 → p d ≡ false → p (get_or xs i d) ≡ false
none_passes p [] i d e n = n
none_passes p (x ∷ xs) zero d e n = grind (arith, common_steps)
none_passes p (x ∷ xs) (suc i) d e n = none_passes p xs i d (grind (arith, common_steps)) n

pub counts_none : {X : Type 0} (p : X → Bool) (xs : List X) (d : X) → ((i : ℕ) → p (get_or xs i d) ≡ false) → count_by p xs ≡ 0
counts_none p [] d none = refl
counts_none p (x ∷ xs) d none = let first : p x ≡ false = none 0 in let more : count_by p xs ≡ 0 = counts_none p xs d (λ i. none (suc i)) in grind (arith, common_steps)

-- what f tells of each element is as it was
pub same_at : {X Y : Type 0} (f : X → Y) (xs : List X) (i : ℕ) (y d : X) → f y ≡ f (get_or xs i d) → (k : ℕ) → f (get_or (set xs i y) k d) ≡ f (get_or xs k d)
same_at f [] i y d e k = refl
same_at f (x ∷ xs) zero y d e zero = e
same_at f (x ∷ xs) zero y d e (suc k) = refl
same_at f (x ∷ xs) (suc i) y d e zero = refl
same_at f (x ∷ xs) (suc i) y d e (suc k) = same_at f xs i y d e k

pub none_any : {X : Type 0} (p : X → Bool) (xs : List X) (i : ℕ) (d : X) → list_any p xs ≡ false → p d ≡ false → p (get_or xs i d) ≡ false
none_any p xs i d e n = none_passes p xs i d (zero_of (count_by p xs) (sym (any_counts p xs) ∙ e)) n
  where
    zero_of : (k : ℕ) → not (k == 0) ≡ false → k ≡ 0
    zero_of k h = grind arith

pub counts_cons : {X : Type 0} (p q : X → Bool) (x y : X) (xs ys : List X) → p x ≡ q y → count_by p xs ≡ count_by q ys → count_by p (x ∷ xs) ≡ count_by q (y ∷ ys)
counts_cons p q x y xs ys e f = grind (arith, common_steps)

-- an element more at the end, seen from the others
pub beside : {X : Type 0} (xs : List X) (y d : X) (i : ℕ) → i ≢ length xs → get_or (xs ++ y ∷ []) i d ≡ get_or xs i d
beside [] y d zero h = absurd (h refl)
beside [] y d (suc i) h = refl
beside (x ∷ xs) y d zero h = refl
beside (x ∷ xs) y d (suc i) h = beside xs y d i (λ e. h (omega arith))

-- what holds of an element and of those before holds in a list where it was written, or pushed
pub at_set : {X : Type 0} (Q : X → Type 0) (xs : List X) (s : ℕ) (y : X) (i : ℕ) (d : X) → Q y → Q (get_or xs i d) → Q (get_or (set xs s y) i d)
at_set Q [] s y i d h k = k
at_set Q (x ∷ xs) zero y zero d h k = h
at_set Q (x ∷ xs) zero y (suc i) d h k = k
at_set Q (x ∷ xs) (suc s) y zero d h k = k
at_set Q (x ∷ xs) (suc s) y (suc i) d h k = at_set Q xs s y i d h k

pub at_last : {X : Type 0} (Q : X → Type 0) (xs : List X) (y : X) (i : ℕ) (d : X) → Q y → Q d → Q (get_or xs i d) → Q (get_or (xs ++ y ∷ []) i d)
at_last Q [] y zero d h n k = h
at_last Q [] y (suc i) d h n k = n
at_last Q (x ∷ xs) y zero d h n k = k
at_last Q (x ∷ xs) y (suc i) d h n k = at_last Q xs y i d h n k

pub set_twice : {X : Type 0} (xs : List X) (i : ℕ) (a b : X) → set (set xs i a) i b ≡ set xs i b
set_twice [] i a b = refl
set_twice (x ∷ xs) zero a b = refl
set_twice (x ∷ xs) (suc i) a b = ap (λ ys. x ∷ ys) (set_twice xs i a b)
