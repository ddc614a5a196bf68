-- How often a value stands in a list, and whether it stands there.
use Rattle.std.proofs.Common.{◌≡◌, ℕ, zero, suc, ◌<◌, ◌≤◌, Bool, true, false, not, ◌&&◌, ◌==◌, nat_lt, List, [], ◌∷◌, length, get_or, refl, ap, ◌⊎◌, inl, inr, arith}
use Rattle.std.specs.List.{Contains, sum_by, flat_map}
use Rattle.std.proofs.lemmas.List.Sums.{sum_by-cons}
use Rattle.seize_machine.specs.Machine.State.{has, are_distinct}
use Rattle.seize_machine.proofs.Steps.Relation.{is_true}
use Rattle.seize_machine.proofs.Counting.Sums.{one, occ, occ-append, has_some}

pub contains_some : (v : ℕ) (xs : List ℕ) → 1 ≤ occ v xs → Contains xs v
contains_some v [] h = absurd (omega arith)
contains_some v (x ∷ xs) h = go (is_true (x == v)) (contains_some v xs)
  where
    go : ((x == v) ≡ true) ⊎ ((x == v) ≡ false) → (1 ≤ occ v xs → Contains xs v) → Contains (x ∷ xs) v
    go (inl t) ih = (zero, omega arith, grind arith)
    go (inr t) ih =
        let own : one (x == v) ≡ 0 = ap one t in
        let r : Contains xs v = ih (omega arith) in
        let within : r.0 < length xs = r.1 in
        (suc r.0, omega arith, r.2)

pub some_contained : (v : ℕ) (xs : List ℕ) → Contains xs v → 1 ≤ occ v xs
some_contained v [] c = let within : c.0 < 0 = c.1 in absurd (omega arith)
some_contained v (x ∷ xs) c = go c.0 c.1 c.2 (some_contained v xs)
  where
    go : (k : ℕ) → k < length (x ∷ xs) → get_or (x ∷ xs) k v ≡ v → (Contains xs v → 1 ≤ occ v xs) → 1 ≤ occ v (x ∷ xs)
    go zero within e ih = let own : one (x == v) ≡ 1 = grind arith in omega arith
    go (suc k) within e ih = omega (arith, ih (k, omega arith, e))

pub distinct_if : (xs : List ℕ) → ((v : ℕ) → occ v xs ≤ 1) → are_distinct xs ≡ true
distinct_if [] h = refl
distinct_if (x ∷ xs) h = go (has x xs) refl (distinct_if xs (λ v. omega (arith, h v)))
  where
    go : (b : Bool) → has x xs ≡ b → are_distinct xs ≡ true → (not b && are_distinct xs) ≡ true
    go true e rest =
        let own : one (x == x) ≡ 1 = grind arith in
        absurd (omega (arith, h x, has_some x xs e))
    go false e rest = rest

pub occ-flat_map : {X : Type 0} (v : ℕ) (f : X → List ℕ) (xs : List X) → occ v (flat_map f xs) ≡ sum_by (λ x. occ v (f x)) xs
occ-flat_map v f [] = refl
occ-flat_map v f (x ∷ xs) = omega (arith, occ-append v (f x) (flat_map f xs), sum_by-cons (λ x. occ v (f x)) x xs, occ-flat_map v f xs)

-- a sum that is not 0 has a part that is not
pub some_part : {X : Type 0} (f : X → ℕ) (xs : List X) (d : X) → 1 ≤ sum_by f xs → (i : ℕ) × (1 ≤ f (get_or xs i d))
some_part f [] d h = absurd (omega arith)
some_part f (x ∷ xs) d h = go (nat_lt 0 (f x)) refl (some_part f xs d)
  where
    go : (b : Bool) → nat_lt 0 (f x) ≡ b → (1 ≤ sum_by f xs → (i : ℕ) × (1 ≤ f (get_or xs i d))) → (i : ℕ) × (1 ≤ f (get_or (x ∷ xs) i d))
    go true e ih = (zero, grind arith)
    go false e ih =
        let none : f x ≡ 0 = grind arith in
        let r : (i : ℕ) × (1 ≤ f (get_or xs i d)) = ih (omega (arith, sum_by-cons f x xs)) in
        (suc r.0, r.1)

pub all_zero : {X : Type 0} (f : X → ℕ) (xs : List X) (d : X) → ((i : ℕ) → f (get_or xs i d) ≡ 0) → sum_by f xs ≡ 0
all_zero f [] d h = refl
all_zero f (x ∷ xs) d h = omega (arith, sum_by-cons f x xs, h zero, all_zero f xs d (λ i. h (suc i)))
