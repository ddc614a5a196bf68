-- The further values come to an end, and how the definition unfolds.
use Rattle.std.proofs.Common.{◌≡◌, ℕ, zero, suc, ◌+◌, ◌-◌, ◌*◌, ◌<◌, ◌≤◌, nat_le, max, List, [], ◌∷◌, ◌++◌, length, map, sum, refl, ◌∙◌, ap, subst, ◌⊎◌, inl, inr, arith}
use Rattle.std.specs.List.{sum_by}
use Rattle.std.proofs.lemmas.List.{get_or-set_same, length-set, length-map, get_or-map, get_or_past}
use Rattle.std.proofs.lemmas.List.Sums.{sum_by-append, sum_by-cons, sum_by_push, sum-map}
use Rattle.std.proofs.lemmas.List.Concat.{flat_map-cons}
use Rattle.std.proofs.Math.Seq.{get_or-append_seam}
use Rattle.seize_model.specs.Waiting.State.{ModelSlot, ModelState, model_slot, retired_at, set_slot, has_guard, is_kept, unmade_slot}
use Rattle.seize_model.specs.Waiting.Attempt.{StateAndGone, with_gone, release, attempt, gives_up, wait_if_active, with_batch_retired, put, with_batch_value}
use Rattle.seize_model.specs.Waiting.Further.{Lighter, put_by, further, settle, still_to_come, afterwards}
use Rattle.seize_model.proofs.Cases.{either, in_or_past}

-- what a queued value counts, and what one in the batch counts
abbrev pub twice : {T R : Type 0} → (T → ℕ) → T × R → ℕ
twice weight v = 2 * weight v.0

abbrev pub less : {T R : Type 0} → (T → ℕ) → T × R → ℕ
less weight v = 2 * weight v.0 - 1

abbrev pub queue_total : {T R : Type 0} → (T → ℕ) → List (T × R) → ℕ
queue_total weight queue = sum_by (twice weight) queue

abbrev pub batch_total : {T R : Type 0} → (T → ℕ) → List (T × R) → ℕ
batch_total weight batch = sum_by (less weight) batch

queued-one : {T R : Type 0} (weight : T → ℕ) (r : R) (vs : List T) → queue_total weight (map (λ x. (x, r)) vs) ≡ 2 * sum (map weight vs)
queued-one weight r [] = refl
queued-one weight r (v ∷ vs) =
    omega (arith, sum_by-cons (twice weight) (v, r) (map (λ x. (x, r)) vs), sum-map weight (v ∷ vs), sum-map weight vs, sum_by-cons weight v vs, queued-one weight r vs)

pub further_weighs : {T R : Type 0} (puts : R → T → List T) (weight : T → ℕ) → Lighter puts weight → (gone : List (T × R))
    → queue_total weight (further puts gone) ≤ batch_total weight gone
further_weighs puts weight h [] = omega arith
further_weighs puts weight h (v ∷ gone) =
    let e : further puts (v ∷ gone) ≡ put_by puts v ++ further puts gone = flat_map-cons (put_by puts) v gone in
    rw e (omega (
      arith,
      sum_by-append (twice weight) (put_by puts v) (further puts gone),
      queued-one weight v.1 (puts v.1 v.0),
      h v.1 v.0,
      sum_by-cons (less weight) v gone,
      further_weighs puts weight h gone,
    ))

-- what an attempt or a retirement makes of the batch of s: it stays, or it is taken, and its values are gone or wait
abbrev pub Shape : {T R : Type 0} → ℕ → List (T × R) → StateAndGone T R → Type 0
Shape s batch o =
    (((model_slot o.0 s).batch ≡ batch) × (o.1 ≡ [])) ⊎ (((model_slot o.0 s).batch ≡ []) × ((o.1 ≡ []) ⊎ (o.1 ≡ batch)))

pub waits_batch : {T R : Type 0} (b : ℕ) (slot : ModelSlot T R) → (wait_if_active b slot).batch ≡ slot.batch
waits_batch b slot = either (λ k. k.batch ≡ slot.batch) (has_guard slot) (record slot { order = b ∷ slot.order }) slot refl refl

emptied_batch : {T R : Type 0} (st : ModelState T R) (s : ℕ) → (model_slot (with_batch_retired st s) s).batch ≡ []
emptied_batch {T} {R} st s = go (in_or_past s (length st.slots))
  where
    next : ModelState T R
    next = set_slot st s (record (model_slot st s) { batch = [] })

    slots : length next.slots ≡ length st.slots
    slots = length-set st.slots s (record (model_slot st s) { batch = [] })

    waiting : length (with_batch_retired st s).slots ≡ length st.slots
    waiting = length-map next.slots (wait_if_active (length st.retired)) ∙ slots

    go : (s < length st.slots) ⊎ (length st.slots ≤ s) → (model_slot (with_batch_retired st s) s).batch ≡ []
    go (inl h) =
        let at : model_slot next s ≡ record (model_slot st s) { batch = [] } = get_or-set_same st.slots s _ unmade_slot h in
        let waits : model_slot (with_batch_retired st s) s ≡ wait_if_active (length st.retired) (model_slot next s) = get_or-map (wait_if_active (length st.retired)) next.slots s unmade_slot unmade_slot (rw slots h) in
        ap (λ k. k.batch) waits ∙ waits_batch (length st.retired) (model_slot next s) ∙ ap (λ k. k.batch) at
    go (inr h) = ap (λ k. k.batch) (get_or_past (with_batch_retired st s).slots s unmade_slot (rw waiting h))

retired_last : {T R : Type 0} (st : ModelState T R) (s : ℕ) → retired_at (with_batch_retired st s) (length st.retired) ≡ (model_slot st s).batch
retired_last st s = get_or-append_seam st.retired (model_slot st s).batch [] []

attempt_shape : {T R : Type 0} (st : ModelState T R) (s : ℕ) → Shape s (model_slot st s).batch (attempt st s)
attempt_shape st s =
    either (Shape s (model_slot st s).batch) (gives_up st s) (st, []) (release (with_batch_retired st s) (length st.retired)) (inl (refl, refl)) released
  where
    released : Shape s (model_slot st s).batch (release (with_batch_retired st s) (length st.retired))
    released = either (Shape s (model_slot st s).batch) (is_kept (with_batch_retired st s) (length st.retired)) _ _
        (inr (emptied_batch st s, inl refl))
        (inr (emptied_batch st s, inr (retired_last st s)))

-- a slot that was never made has no batch
none_shape : {T R : Type 0} (s : ℕ) (batch : List (T × R)) (o : StateAndGone T R) → Shape s [] o → Shape s batch o
none_shape s batch o (inl h) = inr (h.0, inl h.1)
none_shape s batch o (inr (h, inl e)) = inr (h, inl e)
none_shape s batch o (inr (h, inr e)) = inr (h, inl e)

pub put_shape : {T R : Type 0} (st : ModelState T R) (s : ℕ) (v : T × R) → Shape s ((model_slot st s).batch ++ v ∷ []) (put st s v)
put_shape {T} {R} st s v = go (in_or_past s (length st.slots))
  where
    batch : List (T × R)
    batch = (model_slot st s).batch ++ v ∷ []

    next : ModelState T R
    next = with_batch_value st s v

    own : Shape s (model_slot next s).batch (put st s v)
    own = either (Shape s (model_slot next s).batch) (nat_le (max 1 st.size) (length (model_slot next s).batch)) (attempt next s) (next, []) (attempt_shape next s) (inl (refl, refl))

    go : (s < length st.slots) ⊎ (length st.slots ≤ s) → Shape s batch (put st s v)
    go (inl h) =
        let at : (model_slot next s).batch ≡ batch = ap (λ k. k.batch) (get_or-set_same st.slots s (record (model_slot st s) { batch = batch }) unmade_slot h) in
        subst (λ b. Shape s b (put st s v)) at own
    go (inr h) =
        let at : (model_slot next s).batch ≡ [] = ap (λ k. k.batch) (get_or_past next.slots s unmade_slot (rw (length-set st.slots s (record (model_slot st s) { batch = batch })) h)) in
        none_shape s batch (put st s v) (subst (λ b. Shape s b (put st s v)) at own)

-- each retirement of a queued value leaves less to do
pub falls : {T R : Type 0} (puts : R → T → List T) (weight : T → ℕ) → Lighter puts weight → (st : ModelState T R) (s : ℕ) (v : T × R) (queue : List (T × R))
    → still_to_come weight (model_slot (put st s v).0 s).batch (queue ++ further puts (put st s v).1) < still_to_come weight (model_slot st s).batch (v ∷ queue)
falls puts weight h st s v queue = go (put_shape st s v)
  where
    one : 1 ≤ weight v.0
    one = omega (arith, h v.1 v.0)

    both : batch_total weight ((model_slot st s).batch ++ v ∷ []) ≡ batch_total weight (model_slot st s).batch + (2 * weight v.0 - 1)
    both = sum_by_push (less weight) (model_slot st s).batch v

    queues : queue_total weight (queue ++ further puts (put st s v).1) ≡ queue_total weight queue + queue_total weight (further puts (put st s v).1)
    queues = sum_by-append (twice weight) queue (further puts (put st s v).1)

    first : queue_total weight (v ∷ queue) ≡ 2 * weight v.0 + queue_total weight queue
    first = sum_by-cons (twice weight) v queue

    weighs : queue_total weight (further puts (put st s v).1) ≤ batch_total weight (put st s v).1
    weighs = further_weighs puts weight h (put st s v).1

    go : (((model_slot (put st s v).0 s).batch ≡ (model_slot st s).batch ++ v ∷ []) × ((put st s v).1 ≡ [])) ⊎ (((model_slot (put st s v).0 s).batch ≡ []) × (((put st s v).1 ≡ []) ⊎ ((put st s v).1 ≡ (model_slot st s).batch ++ v ∷ [])))
        → still_to_come weight (model_slot (put st s v).0 s).batch (queue ++ further puts (put st s v).1) < still_to_come weight (model_slot st s).batch (v ∷ queue)
    go (inl (batch, none)) =
        let b : batch_total weight (model_slot (put st s v).0 s).batch ≡ batch_total weight ((model_slot st s).batch ++ v ∷ []) = ap (batch_total weight) batch in
        let n : batch_total weight (put st s v).1 ≡ 0 = ap (batch_total weight) none in
        omega (arith, one, both, queues, first, weighs, b, n)
    go (inr (batch, inl none)) =
        let b : batch_total weight (model_slot (put st s v).0 s).batch ≡ 0 = ap (batch_total weight) batch in
        let n : batch_total weight (put st s v).1 ≡ 0 = ap (batch_total weight) none in
        omega (arith, one, both, queues, first, weighs, b, n)
    go (inr (batch, inr all)) =
        let b : batch_total weight (model_slot (put st s v).0 s).batch ≡ 0 = ap (batch_total weight) batch in
        let n : batch_total weight (put st s v).1 ≡ batch_total weight ((model_slot st s).batch ++ v ∷ []) = ap (batch_total weight) all in
        omega (arith, one, both, queues, first, weighs, b, n)

-- more fuel than is needed changes nothing
enough : {T R : Type 0} (puts : R → T → List T) (weight : T → ℕ) → Lighter puts weight → (n m : ℕ) (st : ModelState T R) (s : ℕ) (queue : List (T × R))
    → still_to_come weight (model_slot st s).batch queue ≤ n → still_to_come weight (model_slot st s).batch queue ≤ m → settle puts n st s queue ≡ settle puts m st s queue
enough puts weight h zero zero st s queue a b = refl
enough puts weight h zero (suc m) st s [] a b = refl
enough puts weight h (suc n) zero st s [] a b = refl
enough puts weight h (suc n) (suc m) st s [] a b = refl
enough puts weight h zero (suc m) st s (v ∷ queue) a b = absurd (omega (arith, falls puts weight h st s v queue))
enough puts weight h (suc n) zero st s (v ∷ queue) a b = absurd (omega (arith, falls puts weight h st s v queue))
enough puts weight h (suc n) (suc m) st s (v ∷ queue) a b =
    let f : still_to_come weight (model_slot (put st s v).0 s).batch (queue ++ further puts (put st s v).1) < still_to_come weight (model_slot st s).batch (v ∷ queue) = falls puts weight h st s v queue in
    ap (with_gone (put st s v).1) (enough puts weight h n m (put st s v).0 s (queue ++ further puts (put st s v).1) (omega arith) (omega arith))

-- how the definition unfolds
pub afterwards-nil : {T R : Type 0} (puts : R → T → List T) (weight : T → ℕ) (st : ModelState T R) (s : ℕ) → afterwards puts weight st s [] ≡ (st, [])
afterwards-nil {T} {R} puts weight st s = go (still_to_come weight (model_slot st s).batch [])
  where
    go : (n : ℕ) → settle puts n st s [] ≡ (st, [])
    go zero = refl
    go (suc n) = refl

unfolds : {T R : Type 0} (puts : R → T → List T) (weight : T → ℕ) → Lighter puts weight → (n : ℕ) (st : ModelState T R) (s : ℕ) (v : T × R) (queue : List (T × R))
    → still_to_come weight (model_slot st s).batch (v ∷ queue) ≤ n
    → settle puts n st s (v ∷ queue) ≡ with_gone (put st s v).1 (afterwards puts weight (put st s v).0 s (queue ++ further puts (put st s v).1))
unfolds puts weight h zero st s v queue a = absurd (omega (arith, falls puts weight h st s v queue))
unfolds puts weight h (suc n) st s v queue a =
    let f : still_to_come weight (model_slot (put st s v).0 s).batch (queue ++ further puts (put st s v).1) < still_to_come weight (model_slot st s).batch (v ∷ queue) = falls puts weight h st s v queue in
    ap (with_gone (put st s v).1) (enough puts weight h n (still_to_come weight (model_slot (put st s v).0 s).batch (queue ++ further puts (put st s v).1)) (put st s v).0 s (queue ++ further puts (put st s v).1) (omega arith) (omega arith))

pub afterwards-cons : {T R : Type 0} (puts : R → T → List T) (weight : T → ℕ) → Lighter puts weight → (st : ModelState T R) (s : ℕ) (v : T × R) (queue : List (T × R))
    → afterwards puts weight st s (v ∷ queue) ≡ with_gone (put st s v).1 (afterwards puts weight (put st s v).0 s (queue ++ further puts (put st s v).1))
afterwards-cons puts weight h st s v queue =
    unfolds puts weight h (still_to_come weight (model_slot st s).batch (v ∷ queue)) st s v queue (omega arith)
