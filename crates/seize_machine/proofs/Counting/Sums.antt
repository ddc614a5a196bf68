-- Counts over lists.
pub use Rattle.seize_machine.specs.Machine.Kept.{one, occ}
use Rattle.std.proofs.Common.{◌≡◌, ◌≢◌, ℕ, zero, suc, ◌+◌, ◌<◌, ◌≤◌, true, false, not, ◌==◌, List, [], ◌∷◌, ◌++◌, length, get_or, refl, ap, subst, ◌⊎◌, inl, inr, arith}
use Rattle.std.specs.List.{sum_by, list_all, filter}
use Rattle.std.proofs.lemmas.List.Sums.{sum_by-cons, get_or-le-sum_by}
use Rattle.seize_machine.specs.Machine.State.{has, are_distinct}
use Rattle.seize_machine.specs.Machine.Next.{are_fresh}
use Rattle.seize_machine.proofs.Steps.Relation.{is_true, eq_true, and_true, not_true}

pub occ-append : (v : ℕ) (xs ys : List ℕ) → occ v (xs ++ ys) ≡ occ v xs + occ v ys
occ-append v [] ys = omega arith
occ-append v (x ∷ xs) ys = omega (arith, occ-append v xs ys)

pub occ-push : (v : ℕ) (xs : List ℕ) (y : ℕ) → occ v (xs ++ y ∷ []) ≡ occ v xs + one (y == v)
occ-push v xs y = omega (arith, occ-append v xs (y ∷ []))

-- what is 0 where g is 0
pub sum_nothing : {X : Type 0} (f g : X → ℕ) → ((x : X) → g x ≡ 0 → f x ≡ 0) → (xs : List X) → sum_by g xs ≡ 0 → sum_by f xs ≡ 0
sum_nothing f g z [] e = refl
sum_nothing f g z (x ∷ xs) e = omega (arith, sum_by-cons f x xs, z x (omega (arith, sum_by-cons g x xs)), sum_nothing f g z xs (omega (arith, sum_by-cons g x xs)))

-- the same, where one element has all that g counts
pub sum_alone : {X : Type 0} (f g : X → ℕ) → ((x : X) → g x ≡ 0 → f x ≡ 0) → (xs : List X) (i : ℕ) (d : X) → i < length xs → sum_by g xs ≤ g (get_or xs i d) → sum_by f xs ≡ f (get_or xs i d)
sum_alone f g z [] i d h le = absurd (omega arith)
sum_alone f g z (x ∷ xs) zero d h le =
    omega (arith, sum_by-cons f x xs, sum_nothing f g z xs (omega (arith, sum_by-cons g x xs)))
sum_alone f g z (x ∷ xs) (suc i) d h le =
    omega (arith, sum_by-cons f x xs, z x (omega (arith, sum_by-cons g x xs, get_or-le-sum_by g xs i d (omega arith))), sum_alone f g z xs i d (omega arith) (omega (arith, sum_by-cons g x xs)))

pub has_none : (v : ℕ) (xs : List ℕ) → has v xs ≡ false → occ v xs ≡ 0
has_none v [] e = refl
has_none v (x ∷ xs) e = grind (arith, has_none v xs)

pub has_some : (v : ℕ) (xs : List ℕ) → has v xs ≡ true → 1 ≤ occ v xs
has_some v [] e = absurd (cc)
has_some v (x ∷ xs) e = grind (arith, has_some v xs)

pub occ-filter_other : (v w : ℕ) (xs : List ℕ) → w ≢ v → occ v (filter (λ x. not (x == w)) xs) ≡ occ v xs
occ-filter_other v w [] e = refl
occ-filter_other v w (x ∷ xs) e = grind (arith, occ-filter_other v w xs e)

pub occ-filter_same : (v : ℕ) (xs : List ℕ) → occ v (filter (λ x. not (x == v)) xs) ≡ 0
occ-filter_same v [] = refl
occ-filter_same v (x ∷ xs) = grind (arith, occ-filter_same v xs)

pub distinct_once : (v : ℕ) (vs : List ℕ) → are_distinct vs ≡ true → occ v vs ≤ 1
distinct_once v [] e = omega arith
distinct_once v (w ∷ vs) e =
    let t : (not (has w vs) ≡ true) × (are_distinct vs ≡ true) = and_true _ _ e in
    go (is_true (w == v)) (has_none w vs (not_true _ t.0)) (distinct_once v vs t.1)
  where
    go : ((w == v) ≡ true) ⊎ ((w == v) ≡ false) → occ w vs ≡ 0 → occ v vs ≤ 1 → one (w == v) + occ v vs ≤ 1
    go (inl t) none le = let own : one (w == v) ≡ 1 = ap one t in let k : occ v vs ≡ 0 = rw (← eq_true w v t) none in omega arith
    go (inr t) none le = let own : one (w == v) ≡ 0 = ap one t in omega arith

-- values that are all new to a list
all_new : (v : ℕ) (named vs : List ℕ) → list_all (λ v. not (has v named)) vs ≡ true → 1 ≤ occ v vs → occ v named ≡ 0
all_new v named [] e h = absurd (omega arith)
all_new v named (w ∷ vs) e h =
    let t : (not (has w named) ≡ true) × (list_all (λ v. not (has v named)) vs ≡ true) = and_true _ _ e in
    go (is_true (w == v)) (has_none w named (not_true _ t.0)) (all_new v named vs t.1)
  where
    go : ((w == v) ≡ true) ⊎ ((w == v) ≡ false) → occ w named ≡ 0 → (1 ≤ occ v vs → occ v named ≡ 0) → occ v named ≡ 0
    go (inl t) none more = subst (λ k. occ k named ≡ 0) (eq_true w v t) none
    go (inr t) none more = let own : one (w == v) ≡ 0 = ap one t in more (omega arith)

pub are_fresh-occ : (v : ℕ) (named puts : List ℕ) → are_fresh named puts ≡ true → (occ v puts ≤ 1) × (1 ≤ occ v puts → occ v named ≡ 0)
are_fresh-occ v named puts e =
    let t : (list_all (λ v. not (has v named)) puts ≡ true) × (are_distinct puts ≡ true) = and_true _ _ e in
    (distinct_once v puts t.1, all_new v named puts t.0)
