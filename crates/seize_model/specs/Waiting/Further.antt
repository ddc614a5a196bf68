-- The further values: each value gone puts some, they are queued, first put first, and each of the queue is retired in turn.
use Rattle.std.specs.Prelude.{ℕ, zero, suc, ◌≡◌, ◌<◌, ◌+◌, ◌-◌, ◌*◌, List, [], ◌∷◌, ◌++◌, map, sum}
use Rattle.std.specs.List.{sum_by, flat_map}
use Rattle.seize_model.specs.Waiting.State.{ModelState, model_slot}
use Rattle.seize_model.specs.Waiting.Attempt.{StateAndGone, put, with_gone}

-- what the reclaimer of a value puts, to be reclaimed as that value was
abbrev pub put_by : {T R : Type 0} → (R → T → List T) → T × R → List (T × R)
put_by puts v = map (λ x. (x, v.1)) (puts v.1 v.0)

-- what a reclaimer puts weighs less than the value, so that the further values end
abbrev pub Lighter : {T R : Type 0} → (R → T → List T) → (T → ℕ) → Type 0
Lighter {T} {R} puts weight = (r : R) (v : T) → sum (map weight (puts r v)) < weight v

-- what the values gone put, in order
abbrev pub further : {T R : Type 0} → (R → T → List T) → List (T × R) → List (T × R)
further puts gone = flat_map (put_by puts) gone

-- the queue is retired by s from its front, for at most this many retirements
abbrev pub settle : {T R : Type 0} → (R → T → List T) → ℕ → ModelState T R → ℕ → List (T × R) → StateAndGone T R
settle puts zero st s queue = (st, [])
settle puts (suc n) st s [] = (st, [])
settle puts (suc n) st s (v ∷ queue) =
    let o = put st s v in
    with_gone o.1 (settle puts n o.0 s (queue ++ further puts o.1))

-- at most how many retirements there are: a queued value counts twice its weight, and one in the batch one less, so that a
-- retirement lowers the sum by one, and an end lowers it too
abbrev pub still_to_come : {T R : Type 0} → (T → ℕ) → List (T × R) → List (T × R) → ℕ
still_to_come weight batch queue = sum_by (λ v. 2 * weight v.0 - 1) batch + sum_by (λ v. 2 * weight v.0) queue

-- **Afterwards.** The queue is taken from its front, and each value is retired by s, until the queue is empty. `AfterwardsLaws`
-- says the same without a number of retirements.
abbrev pub afterwards : {T R : Type 0} → (R → T → List T) → (T → ℕ) → ModelState T R → ℕ → List (T × R) → StateAndGone T R
afterwards puts weight st s queue = settle puts (still_to_come weight (model_slot st s).batch queue) st s queue

-- a call's own work, and then what the values gone put
abbrev pub with_further : {T R : Type 0} → (R → T → List T) → (T → ℕ) → ℕ → StateAndGone T R → StateAndGone T R
with_further puts weight s o = with_gone o.1 (afterwards puts weight o.0 s (further puts o.1))

-- The values that go to their reclaimers where these are given up and what they put is given up too, in turn, for at most this
-- many values.
abbrev pub drain : {T R : Type 0} → (R → T → List T) → ℕ → List (T × R) → List (T × R)
drain puts zero queue = []
drain puts (suc n) [] = []
drain puts (suc n) (v ∷ queue) = v ∷ drain puts n (queue ++ put_by puts v)

-- **Drained.** The queue is taken from its front, each value is gone, and what it puts joins the end, until the queue is empty.
-- `DrainLaws` says the same without a number of values.
abbrev pub gone_from : {T R : Type 0} → (R → T → List T) → (T → ℕ) → List (T × R) → List (T × R)
gone_from puts weight queue = drain puts (sum_by (λ v. weight v.0) queue) queue

-- an empty queue leaves all as it is; of another one the first value is retired, and then the rest, with what the values gone put
-- behind it
abbrev pub AfterwardsLaws : {T R : Type 0} → (R → T → List T) → (T → ℕ) → Type 0
AfterwardsLaws {T} {R} puts weight =
    ((st : ModelState T R) (s : ℕ) → afterwards puts weight st s [] ≡ (st, []))
    × ((st : ModelState T R) (s : ℕ) (v : T × R) (queue : List (T × R)) →
    afterwards puts weight st s (v ∷ queue)
    ≡ with_gone (put st s v).1 (afterwards puts weight (put st s v).0 s (queue ++ further puts (put st s v).1)))

-- nothing goes where nothing is queued; else the first goes, and then the rest, with what it puts behind it
abbrev pub DrainLaws : {T R : Type 0} → (R → T → List T) → (T → ℕ) → Type 0
DrainLaws {T} {R} puts weight =
    (gone_from puts weight [] ≡ [])
    × ((v : T × R) (queue : List (T × R)) → gone_from puts weight (v ∷ queue) ≡ v ∷ gone_from puts weight (queue ++ put_by puts v))
