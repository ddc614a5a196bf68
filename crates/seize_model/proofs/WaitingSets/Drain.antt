-- The queue that is given up whole comes to an end, and how the definition unfolds.
use Rattle.std.proofs.Common.{◌≡◌, ℕ, zero, suc, ◌<◌, ◌≤◌, List, [], ◌∷◌, ◌++◌, map, sum, refl, ap, arith}
use Rattle.std.specs.List.{sum_by}
use Rattle.std.proofs.lemmas.List.Sums.{sum_by-append, sum_by-cons, sum-map}
use Rattle.seize_model.specs.Waiting.Further.{Lighter, put_by, drain, gone_from}

-- what the queued values weigh together
abbrev pub weighs : {T R : Type 0} → (T → ℕ) → List (T × R) → ℕ
weighs weight queue = sum_by (λ v. weight v.0) queue

abbrev of_pair : {T R : Type 0} → (T → ℕ) → T × R → ℕ
of_pair weight v = weight v.0

with_reclaimer : {T R : Type 0} (weight : T → ℕ) (r : R) (vs : List T) → weighs weight (map (λ x. (x, r)) vs) ≡ sum (map weight vs)
with_reclaimer weight r [] = refl
with_reclaimer weight r (v ∷ vs) =
    omega (arith, sum_by-cons (of_pair weight) (v, r) (map (λ x. (x, r)) vs), sum-map weight (v ∷ vs), sum-map weight vs, sum_by-cons weight v vs, with_reclaimer weight r vs)

-- the queue weighs less once its first value is gone
pub lightens : {T R : Type 0} (puts : R → T → List T) (weight : T → ℕ) → Lighter puts weight → (v : T × R) (queue : List (T × R))
    → weighs weight (queue ++ put_by puts v) < weighs weight (v ∷ queue)
lightens puts weight h v queue =
    omega (arith, sum_by-append (of_pair weight) queue (put_by puts v), with_reclaimer weight v.1 (puts v.1 v.0), h v.1 v.0, sum_by-cons (of_pair weight) v queue)

-- a greater number of values changes nothing
enough : {T R : Type 0} (puts : R → T → List T) (weight : T → ℕ) → Lighter puts weight → (n m : ℕ) (queue : List (T × R))
    → weighs weight queue ≤ n → weighs weight queue ≤ m → drain puts n queue ≡ drain puts m queue
enough puts weight h zero zero queue a b = refl
enough puts weight h zero (suc m) [] a b = refl
enough puts weight h (suc n) zero [] a b = refl
enough puts weight h (suc n) (suc m) [] a b = refl
enough puts weight h zero (suc m) (v ∷ queue) a b = absurd (omega (arith, lightens puts weight h v queue))
enough puts weight h (suc n) zero (v ∷ queue) a b = absurd (omega (arith, lightens puts weight h v queue))
enough puts weight h (suc n) (suc m) (v ∷ queue) a b =
    let f : weighs weight (queue ++ put_by puts v) < weighs weight (v ∷ queue) = lightens puts weight h v queue in
    ap (λ rest. v ∷ rest) (enough puts weight h n m (queue ++ put_by puts v) (omega arith) (omega arith))

pub gone_from-nil : {T R : Type 0} (puts : R → T → List T) (weight : T → ℕ) → gone_from {T = T} {R = R} puts weight [] ≡ []
gone_from-nil {T} {R} puts weight = go (weighs {T = T} {R = R} weight [])
  where
    go : (n : ℕ) → drain {T = T} {R = R} puts n [] ≡ []
    go zero = refl
    go (suc n) = refl

unfolds : {T R : Type 0} (puts : R → T → List T) (weight : T → ℕ) → Lighter puts weight → (n : ℕ) (v : T × R) (queue : List (T × R))
    → weighs weight (v ∷ queue) ≤ n → drain puts n (v ∷ queue) ≡ v ∷ gone_from puts weight (queue ++ put_by puts v)
unfolds puts weight h zero v queue a = absurd (omega (arith, lightens puts weight h v queue))
unfolds puts weight h (suc n) v queue a =
    let f : weighs weight (queue ++ put_by puts v) < weighs weight (v ∷ queue) = lightens puts weight h v queue in
    ap (λ rest. v ∷ rest) (enough puts weight h n (weighs weight (queue ++ put_by puts v)) (queue ++ put_by puts v) (omega arith) (omega arith))

pub gone_from-cons : {T R : Type 0} (puts : R → T → List T) (weight : T → ℕ) → Lighter puts weight → (v : T × R) (queue : List (T × R))
    → gone_from puts weight (v ∷ queue) ≡ v ∷ gone_from puts weight (queue ++ put_by puts v)
gone_from-cons puts weight h v queue = unfolds puts weight h (weighs weight (v ∷ queue)) v queue (omega arith)
