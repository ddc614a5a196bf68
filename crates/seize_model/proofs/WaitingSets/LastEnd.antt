-- The last slot in use: where no slot is active, what is attempted is gone at once, and so is all that was left.
use Rattle.std.proofs.Common.{◌≡◌, ◌≢◌, ℕ, zero, suc, ◌+◌, ◌<◌, ◌≤◌, Bool, true, false, not, ◌||◌, ◌==◌, if◌then◌else◌, nat_lt, List, [], ◌∷◌, ◌++◌, length, map, get_or, set, refl, sym, ◌∙◌, ap, subst, ◌⊎◌, inl, inr, arith, append_assoc, append-nil, length-append}
use Rattle.std.specs.List.{list_any}
use Rattle.std.proofs.lemmas.List.{get_or-set_same, get_or-set_other, length-set}
use Rattle.std.proofs.lemmas.List.Concat.{flat_map-cons}
use Rattle.std.proofs.Math.Seq.{get_or-append_seam, set-append_seam}
use Rattle.seize_model.specs.Waiting.State.{ModelSlot, ModelState, model_slot, retired_at, set_slot, unmade_slot, has_guard, waits_for, is_kept}
use Rattle.seize_model.specs.Waiting.Attempt.{StateAndGone, with_gone, release, active_slots, gives_up, wait_if_active, with_batch_retired, attempt, is_full, with_batch_value, put}
use Rattle.seize_model.specs.Waiting.Further.{Lighter, put_by, further, settle, still_to_come, with_further, gone_from}
use Rattle.seize_model.specs.Waiting.Calls.{is_free, others_in_use, rest_and_batch, with_rest_gathered, gathers, gathering}
use Rattle.seize_model.proofs.Counts.{any_counts, counts_none, none_any, same_at}
use Rattle.seize_model.proofs.Cases.{or_same, if_no}
use Rattle.seize_model.proofs.WaitingSets.FurtherValues.{falls}
use Rattle.seize_model.proofs.WaitingSets.Drain.{weighs, lightens, gone_from-nil, gone_from-cons}
use Rattle.seize_model.proofs.WaitingSets.Refusals.{IsIdle, in_use}

-- s was made, no slot is active, no batch waits for one, and no other number is in use
pub record IsLone (T R : Type 0) (s : ℕ) (st : ModelState T R) : Type 0 where
  pub made : s < length st.slots
  pub off : (i : ℕ) → has_guard (model_slot st i) ≡ false
  pub order : (i : ℕ) → (model_slot st i).order ≡ []
  pub others : (i : ℕ) → i ≢ s → is_free (model_slot st i).kind ≡ true

-- such a slot is found where no other number is in use
others_free : {T R : Type 0} (st : ModelState T R) (s : ℕ) → others_in_use st s ≡ false → (i : ℕ) → i ≢ s → is_free (model_slot st i).kind ≡ true
others_free {T} {R} st s none i other =
    free (is_free (model_slot st i).kind)
    (ap (λ (x : ModelSlot T R). not (is_free x.kind)) (sym (get_or-set_other st.slots s i unmade_slot unmade_slot other)) ∙ none_any (λ slot. not (is_free slot.kind)) (set st.slots s unmade_slot) i unmade_slot none refl)
  where
    free : (b : Bool) → not b ≡ false → b ≡ true
    free true e = refl
    free false e = absurd (cc)

pub lone_of : {T R : Type 0} (st : ModelState T R) (s : ℕ) → IsIdle st s → others_in_use st s ≡ false → ((i : ℕ) → is_free (model_slot st i).kind ≡ true → has_guard (model_slot st i) ≡ false)
    → ((i : ℕ) → has_guard (model_slot st i) ≡ false → (model_slot st i).order ≡ []) → IsLone T R s st
lone_of {T} {R} st s idle none free inactive = record {
  made = in_use st s idle.0;
  off = off;
  order = λ i. inactive i (off i);
  others = others_free st s none;
}
  where
    off : (i : ℕ) → has_guard (model_slot st i) ≡ false
    off i = elim (or_same i s) [
      | inl same ↦ ap (λ (k : ℕ). has_guard (model_slot st k)) same ∙ idle.1
      | inr other ↦ free i (others_free st s none i other)
    ]

-- with another batch of s
lone_batch : {T R : Type 0} (s : ℕ) (st : ModelState T R) (values : List (T × R)) → IsLone T R s st → IsLone T R s (set_slot st s (record (model_slot st s) { batch = values }))
lone_batch {T} {R} s st values lone = record {
  made = rw (length-set st.slots s new) lone.made;
  off = λ i. same_at has_guard st.slots s new unmade_slot refl i ∙ lone.off i;
  order = λ i. same_at (λ (x : ModelSlot T R). x.order) st.slots s new unmade_slot refl i ∙ lone.order i;
  others = λ i other. same_at (λ (x : ModelSlot T R). is_free x.kind) st.slots s new unmade_slot refl i ∙ lone.others i other;
}
  where
    new : ModelSlot T R
    new = record (model_slot st s) { batch = values }

own_batch : {T R : Type 0} (s : ℕ) (st : ModelState T R) (values : List (T × R)) → IsLone T R s st → (model_slot (set_slot st s (record (model_slot st s) { batch = values })) s).batch ≡ values
own_batch {T} {R} s st values lone = ap (λ (x : ModelSlot T R). x.batch) (get_or-set_same st.slots s (record (model_slot st s) { batch = values }) unmade_slot lone.made)

-- nothing but the batch counts
lone_beside : {T R : Type 0} (s : ℕ) (st : ModelState T R) (retired : List (List (T × R))) (rest : List (T × R)) → IsLone T R s st → IsLone T R s (record st { retired = retired; rest = rest })
lone_beside s st retired rest lone = record { made = lone.made; off = lone.off; order = lone.order; others = lone.others }

none_kept : {T R : Type 0} (s : ℕ) (st : ModelState T R) → IsLone T R s st → (b : ℕ) → is_kept st b ≡ false
none_kept s st lone b =
    any_counts (waits_for b) st.slots
    ∙ ap (λ (n : ℕ). not (n == 0)) (counts_none (waits_for b) st.slots unmade_slot (λ i. ap (λ (l : List ℕ). list_any (λ x. x == b) l) (lone.order i)))

-- Attempts.

map_none : {X : Type 0} (f : X → X) (xs : List X) (d : X) → ((i : ℕ) → f (get_or xs i d) ≡ get_or xs i d) → (let ys : List X = map f xs in ys ≡ xs)
map_none f [] d h = refl
map_none f (x ∷ xs) d h = ap (λ y. y ∷ map f xs) (h 0) ∙ ap (λ l. x ∷ l) (map_none f xs d (λ i. h (suc i)))

-- the batch of s is gone
abbrev emptied : {T R : Type 0} → ModelState T R → ℕ → ModelState T R
emptied st s = record (set_slot st s (record (model_slot st s) { batch = [] })) { retired = st.retired ++ [] ∷ [] }

lone_attempt : {T R : Type 0} (s : ℕ) (st : ModelState T R) → IsLone T R s st → (length (model_slot st s).batch == 0) ≡ false → attempt st s ≡ (emptied st s, (model_slot st s).batch)
lone_attempt {T} {R} s st lone some =
    if_no (gives_up st s) _ _ goes_on ∙ ap (λ (k : ModelState T R). release k (length st.retired)) none_wait ∙ if_no (is_kept waiting (length st.retired)) _ _ (none_kept s waiting lone_waiting (length st.retired))
    ∙ ap (λ (l : List (List (T × R))). (record waiting { retired = l }, retired_at waiting (length st.retired))) (set-append_seam st.retired (model_slot st s).batch [] [])
    ∙ ap (λ (l : List (T × R)). (emptied st s, l)) (get_or-append_seam st.retired (model_slot st s).batch [] [])
  where
    few : active_slots st ≡ 0
    few = counts_none has_guard st.slots unmade_slot lone.off

    goes_on : gives_up st s ≡ false
    goes_on = at (length (model_slot st s).batch) (active_slots st) some few
      where
        at : (a b : ℕ) → (a == 0) ≡ false → b ≡ 0 → ((a == 0) || nat_lt a b) ≡ false
        at a b e f = grind arith

    set_so : ModelState T R
    set_so = set_slot st s (record (model_slot st s) { batch = [] })

    lone_set : IsLone T R s set_so
    lone_set = lone_batch s st [] lone

    waiting : ModelState T R
    waiting = record set_so { retired = st.retired ++ (model_slot st s).batch ∷ [] }

    lone_waiting : IsLone T R s waiting
    lone_waiting = lone_beside s set_so (st.retired ++ (model_slot st s).batch ∷ []) st.rest lone_set

    none_wait : with_batch_retired st s ≡ waiting
    none_wait = ap (λ (l : List (ModelSlot T R)). record waiting { slots = l }) (map_none (wait_if_active (length st.retired)) set_so.slots unmade_slot (λ i. if_no _ _ _ (lone_set.off i)))

lone_emptied : {T R : Type 0} (s : ℕ) (st : ModelState T R) → IsLone T R s st → IsLone T R s (emptied st s)
lone_emptied s st lone = lone_beside s _ (st.retired ++ [] ∷ []) st.rest (lone_batch s st [] lone)

-- a retirement leaves the batch longer by its value, or empty
lone_put : {T R : Type 0} (s : ℕ) (st : ModelState T R) (v : T × R) → IsLone T R s st
    → (put st s v ≡ (with_batch_value st s v, [])) ⊎ (put st s v ≡ (emptied (with_batch_value st s v) s, (model_slot st s).batch ++ v ∷ []))
lone_put {T} {R} s st v lone = go (is_full st.size (model_slot next s).batch) refl
  where
    batch : List (T × R)
    batch = (model_slot st s).batch ++ v ∷ []

    next : ModelState T R
    next = with_batch_value st s v

    own : (model_slot next s).batch ≡ batch
    own = own_batch s st batch lone

    some : (length (model_slot next s).batch == 0) ≡ false
    some = ap (λ (l : List (T × R)). length l == 0) own ∙ at (length batch) (length-append (model_slot st s).batch (v ∷ []))
      where
        at : (n : ℕ) → n ≡ length (model_slot st s).batch + 1 → (n == 0) ≡ false
        at n e = grind arith

    go : (t : Bool) → is_full st.size (model_slot next s).batch ≡ t
        → ((if t then attempt next s else (next, [])) ≡ (next, [])) ⊎ ((if t then attempt next s else (next, [])) ≡ (emptied next s, batch))
    go true e = inr (lone_attempt s next (lone_batch s st batch lone) some ∙ ap (λ (l : List (T × R)). (emptied next s, l)) own)
    go false e = inl refl

-- Further values: what is gone, and what goes where the batch is given up then, stays the same; and it gets lighter.

pub gone_all : {T R : Type 0} (puts : R → T → List T) (weight : T → ℕ) → Lighter puts weight → (xs queue : List (T × R)) → gone_from puts weight (xs ++ queue) ≡ xs ++ gone_from puts weight (queue ++ further puts xs)
gone_all puts weight lighter [] queue = ap (gone_from puts weight) (sym (append-nil queue))
gone_all {T} {R} puts weight lighter (v ∷ xs) queue =
    gone_from-cons puts weight lighter v (xs ++ queue)
    ∙ ap (λ (l : List (T × R)). v ∷ gone_from puts weight l) (append_assoc xs queue (put_by puts v))
    ∙ ap (λ (l : List (T × R)). v ∷ l) (gone_all puts weight lighter xs (queue ++ put_by puts v))
    ∙ ap (λ (l : List (T × R)). v ∷ xs ++ gone_from puts weight l) (append_assoc queue (put_by puts v) (further puts xs) ∙ ap (λ (l : List (T × R)). queue ++ l) (sym (flat_map-cons (put_by puts) v xs)))

further_lighter : {T R : Type 0} (puts : R → T → List T) (weight : T → ℕ) → Lighter puts weight → (xs queue : List (T × R)) → weighs weight (queue ++ further puts xs) + length xs ≤ weighs weight (xs ++ queue)
further_lighter puts weight lighter [] queue = let same : weighs weight (queue ++ []) ≡ weighs weight queue = ap (weighs weight) (append-nil queue) in omega arith
further_lighter {T} {R} puts weight lighter (v ∷ xs) queue =
    let one : weighs weight ((xs ++ queue) ++ put_by puts v) < weighs weight (v ∷ (xs ++ queue)) = lightens puts weight lighter v (xs ++ queue) in
    let more : weighs weight ((queue ++ put_by puts v) ++ further puts xs) + length xs ≤ weighs weight (xs ++ (queue ++ put_by puts v)) = further_lighter puts weight lighter xs (queue ++ put_by puts v) in
    let ends : weighs weight (queue ++ further puts (v ∷ xs)) ≡ weighs weight ((queue ++ put_by puts v) ++ further puts xs)
    = ap (weighs weight) (ap (λ (l : List (T × R)). queue ++ l) (flat_map-cons (put_by puts) v xs) ∙ sym (append_assoc queue (put_by puts v) (further puts xs))) in
    let same : weighs weight ((xs ++ queue) ++ put_by puts v) ≡ weighs weight (xs ++ (queue ++ put_by puts v)) = ap (weighs weight) (append_assoc xs queue (put_by puts v)) in
    omega arith

-- what comes of a lone slot that had these values to come
pub record Comes {T R : Type 0} (puts : R → T → List T) (weight : T → ℕ) (s : ℕ) (rest to_come : List (T × R)) (o : StateAndGone T R) : Type 0 where
  pub lone : IsLone T R s o.0
  pub same_rest : o.0.rest ≡ rest
  pub all : o.1 ++ gone_from puts weight (model_slot o.0 s).batch ≡ gone_from puts weight to_come
  pub lighter : weighs weight (model_slot o.0 s).batch + length o.1 ≤ weighs weight to_come

comes_after : {T R : Type 0} (puts : R → T → List T) (weight : T → ℕ) → Lighter puts weight → (s : ℕ) (rest gone queue : List (T × R)) (o : StateAndGone T R) → Comes puts weight s rest (queue ++ further puts gone) o
    → Comes puts weight s rest (gone ++ queue) (with_gone gone o)
comes_after {T} {R} puts weight lighter s rest gone queue o c = record {
  lone = c.lone;
  same_rest = c.same_rest;
  all = append_assoc gone o.1 _ ∙ ap (λ (l : List (T × R)). gone ++ l) c.all ∙ sym (gone_all puts weight lighter gone queue);
  lighter = omega (arith, c.lighter, further_lighter puts weight lighter gone queue, length-append gone o.1);
}

comes_at_once : {T R : Type 0} (puts : R → T → List T) (weight : T → ℕ) (st : ModelState T R) (s : ℕ) → IsLone T R s st → Comes puts weight s st.rest ((model_slot st s).batch ++ []) (st, [])
comes_at_once puts weight st s lone =
    let same : (model_slot st s).batch ++ [] ≡ (model_slot st s).batch = append-nil (model_slot st s).batch in
    record { lone = lone; same_rest = refl; all = ap (gone_from puts weight) (sym same); lighter = rw same (omega arith) }

lone_settle : {T R : Type 0} (puts : R → T → List T) (weight : T → ℕ) → Lighter puts weight → (n : ℕ) (st : ModelState T R) (s : ℕ) (queue : List (T × R)) → IsLone T R s st → still_to_come weight (model_slot st s).batch queue ≤ n
    → Comes puts weight s st.rest ((model_slot st s).batch ++ queue) (settle puts n st s queue)
lone_settle puts weight lighter zero st s [] lone le = comes_at_once puts weight st s lone
lone_settle puts weight lighter (suc n) st s [] lone le = comes_at_once puts weight st s lone
lone_settle puts weight lighter zero st s (v ∷ queue) lone le = absurd (omega (arith, falls puts weight lighter st s v queue))
lone_settle {T} {R} puts weight lighter (suc n) st s (v ∷ queue) lone le =
    let batch : List (T × R) = (model_slot st s).batch ++ v ∷ [] in
    let next : ModelState T R = with_batch_value st s v in
    let lone_next : IsLone T R s next = lone_batch s st batch lone in
    let to_come : batch ++ queue ≡ (model_slot st s).batch ++ v ∷ queue = append_assoc (model_slot st s).batch (v ∷ []) queue in
    let less : still_to_come weight (model_slot (put st s v).0 s).batch (queue ++ further puts (put st s v).1) ≤ n = omega (arith, falls puts weight lighter st s v queue) in
    elim (lone_put s st v lone) [
      | inl e ↦
          let fuel : still_to_come weight (model_slot next s).batch (queue ++ []) ≤ n = subst (λ (o : StateAndGone T R). still_to_come weight (model_slot o.0 s).batch (queue ++ further puts o.1) ≤ n) e less in
          let same : (model_slot next s).batch ++ (queue ++ []) ≡ (model_slot st s).batch ++ v ∷ queue = ap (λ (l : List (T × R)). l ++ (queue ++ [])) (own_batch s st batch lone) ∙ ap (λ (l : List (T × R)). batch ++ l) (append-nil queue) ∙ to_come in
          subst (λ (o : StateAndGone T R). Comes puts weight s st.rest ((model_slot st s).batch ++ v ∷ queue) (with_gone o.1 (settle puts n o.0 s (queue ++ further puts o.1)))) (sym e)
          (subst (λ (l : List (T × R)). Comes puts weight s st.rest l (settle puts n next s (queue ++ []))) same (lone_settle puts weight lighter n next s (queue ++ []) lone_next fuel))
      | inr e ↦
          let last : ModelState T R = emptied next s in
          let fuel : still_to_come weight (model_slot last s).batch (queue ++ further puts batch) ≤ n = subst (λ (o : StateAndGone T R). still_to_come weight (model_slot o.0 s).batch (queue ++ further puts o.1) ≤ n) e less in
          let rest_comes : Comes puts weight s st.rest (queue ++ further puts batch) (settle puts n last s (queue ++ further puts batch))
          = subst (λ (l : List (T × R)). Comes puts weight s st.rest (l ++ (queue ++ further puts batch)) (settle puts n last s (queue ++ further puts batch))) (own_batch s next [] lone_next)
          (lone_settle puts weight lighter n last s (queue ++ further puts batch) (lone_emptied s next lone_next) fuel) in
          subst (λ (o : StateAndGone T R). Comes puts weight s st.rest ((model_slot st s).batch ++ v ∷ queue) (with_gone o.1 (settle puts n o.0 s (queue ++ further puts o.1)))) (sym e)
          (subst (λ (l : List (T × R)). Comes puts weight s st.rest l (with_gone batch (settle puts n last s (queue ++ further puts batch)))) to_come
          (comes_after puts weight lighter s st.rest batch queue _ rest_comes))
    ]

-- Rounds.

-- all that was left is gone, and what stays to come is lighter
pub lone_round : {T R : Type 0} (puts : R → T → List T) (weight : T → ℕ) → Lighter puts weight → (st : ModelState T R) (s : ℕ) → IsLone T R s st → (length (rest_and_batch st s) == 0) ≡ false
    → Comes puts weight s [] (rest_and_batch st s) (gathering puts weight st s) × (weighs weight (model_slot (gathering puts weight st s).0 s).batch < weighs weight (rest_and_batch st s))
lone_round {T} {R} puts weight lighter st s lone some =
    subst (λ (o : StateAndGone T R). Comes puts weight s [] gone (with_further puts weight s o) × (weighs weight (model_slot (with_further puts weight s o).0 s).batch < weighs weight gone)) (sym at_once) (comes, lighter_then)
  where
    gone : List (T × R)
    gone = rest_and_batch st s

    all : ModelState T R
    all = with_rest_gathered st s

    lone_all : IsLone T R s all
    lone_all = lone_beside s _ st.retired [] (lone_batch s st gone lone)

    own : (model_slot all s).batch ≡ gone
    own = own_batch s st gone lone

    at_once : attempt all s ≡ (emptied all s, gone)
    at_once = lone_attempt s all lone_all (ap (λ (l : List (T × R)). length l == 0) own ∙ some) ∙ ap (λ (l : List (T × R)). (emptied all s, l)) own

    after : StateAndGone T R
    after = settle puts (still_to_come weight (model_slot (emptied all s) s).batch (further puts gone)) (emptied all s) s (further puts gone)

    settled : Comes puts weight s [] (further puts gone) after
    settled = subst (λ (l : List (T × R)). Comes puts weight s [] (l ++ further puts gone) after) (own_batch s all [] lone_all)
        (lone_settle puts weight lighter _ (emptied all s) s (further puts gone) (lone_emptied s all lone_all) (omega arith))

    comes : Comes puts weight s [] gone (with_gone gone after)
    comes = subst (λ (l : List (T × R)). Comes puts weight s [] l (with_gone gone after)) (append-nil gone) (comes_after puts weight lighter s [] gone [] after settled)

    lighter_then : weighs weight (model_slot after.0 s).batch < weighs weight gone
    lighter_then = omega (arith, comes.lighter, length-append gone after.1, at (length gone) some)
      where
        at : (n : ℕ) → (n == 0) ≡ false → 1 ≤ n
        at n e = grind arith

-- so what is left is lighter
pub round_lighter : {T R : Type 0} (puts : R → T → List T) (weight : T → ℕ) → Lighter puts weight → (st : ModelState T R) (s : ℕ) → IsLone T R s st → (length (rest_and_batch st s) == 0) ≡ false
    → weighs weight (rest_and_batch (gathering puts weight st s).0 s) < weighs weight (rest_and_batch st s)
round_lighter {T} {R} puts weight lighter st s lone left =
    let round = lone_round puts weight lighter st s lone left in
    let same : rest_and_batch (gathering puts weight st s).0 s ≡ (model_slot (gathering puts weight st s).0 s).batch = ap (λ (l : List (T × R)). l ++ (model_slot (gathering puts weight st s).0 s).batch) round.0.same_rest in
    rw same round.1

others_none : {T R : Type 0} (st : ModelState T R) (s : ℕ) → IsLone T R s st → others_in_use st s ≡ false
others_none {T} {R} st s lone =
    any_counts used (set st.slots s unmade_slot) ∙ ap (λ (n : ℕ). not (n == 0)) (counts_none used (set st.slots s unmade_slot) unmade_slot (λ i. at i (or_same i s)))
  where
    used : ModelSlot T R → Bool
    used slot = not (is_free slot.kind)

    at : (i : ℕ) → (i ≡ s) ⊎ (i ≢ s) → used (get_or (set st.slots s unmade_slot) i unmade_slot) ≡ false
    at i (inl same) = ap (λ (k : ℕ). used (get_or (set st.slots s unmade_slot) k unmade_slot)) same ∙ ap used (get_or-set_same st.slots s unmade_slot unmade_slot lone.made)
    at i (inr other) = ap used (get_or-set_other st.slots s i unmade_slot unmade_slot other) ∙ ap (λ (b : Bool). not b) (lone.others i other)

pub no_weight : {T R : Type 0} (puts : R → T → List T) (weight : T → ℕ) → Lighter puts weight → (xs : List (T × R)) → weighs weight xs ≤ 0 → length xs ≡ 0
no_weight puts weight lighter [] le = refl
no_weight puts weight lighter (v ∷ xs) le = absurd (omega (arith, lightens puts weight lighter v xs))

pub none_of : {X : Type 0} (xs : List X) → length xs ≡ 0 → xs ≡ []
none_of [] e = refl
none_of (x ∷ xs) e = absurd (omega arith)

-- in the end nothing is left, and all is gone in turn
pub lone_gathers : {T R : Type 0} (puts : R → T → List T) (weight : T → ℕ) → Lighter puts weight → (n : ℕ) (st : ModelState T R) (s : ℕ) → IsLone T R s st → weighs weight (rest_and_batch st s) ≤ n
    → (rest_and_batch (gathers puts weight n st s).0 s ≡ []) × ((gathers puts weight n st s).1 ≡ gone_from puts weight (rest_and_batch st s))
lone_gathers puts weight lighter zero st s lone le =
    let none : rest_and_batch st s ≡ [] = none_of (rest_and_batch st s) (no_weight puts weight lighter (rest_and_batch st s) le) in
    (none, sym (gone_from-nil puts weight) ∙ ap (gone_from puts weight) (sym none))
lone_gathers {T} {R} puts weight lighter (suc n) st s lone le =
    subst (λ (t : Bool). Ends (if t || (length (rest_and_batch st s) == 0) then (st, []) else (let o : StateAndGone T R = gathering puts weight st s in with_gone o.1 (gathers puts weight n o.0 s))))
    (sym (others_none st s lone))
    (go (length (rest_and_batch st s) == 0) refl (λ some.
    let round : Comes puts weight s [] (rest_and_batch st s) (gathering puts weight st s) × (weighs weight (model_slot (gathering puts weight st s).0 s).batch < weighs weight (rest_and_batch st s))
    = lone_round puts weight lighter st s lone some in
    let batch : rest_and_batch (gathering puts weight st s).0 s ≡ (model_slot (gathering puts weight st s).0 s).batch
    = ap (λ (l : List (T × R)). l ++ (model_slot (gathering puts weight st s).0 s).batch) round.0.same_rest in
    let more : (rest_and_batch (gathers puts weight n (gathering puts weight st s).0 s).0 s ≡ [])
    × ((gathers puts weight n (gathering puts weight st s).0 s).1 ≡ gone_from puts weight (rest_and_batch (gathering puts weight st s).0 s))
    = lone_gathers puts weight lighter n (gathering puts weight st s).0 s round.0.lone (omega (arith, round.1, ap (weighs weight) batch)) in
    (more.0, ap (λ (l : List (T × R)). (gathering puts weight st s).1 ++ l) (more.1 ∙ ap (gone_from puts weight) batch) ∙ round.0.all)))
  where
    Ends : StateAndGone T R → Type 0
    Ends o = (rest_and_batch o.0 s ≡ []) × (o.1 ≡ gone_from puts weight (rest_and_batch st s))

    go : (t : Bool) → (length (rest_and_batch st s) == 0) ≡ t → ((length (rest_and_batch st s) == 0) ≡ false → Ends (let o : StateAndGone T R = gathering puts weight st s in with_gone o.1 (gathers puts weight n o.0 s)))
        → Ends (if t then (st, []) else (let o : StateAndGone T R = gathering puts weight st s in with_gone o.1 (gathers puts weight n o.0 s)))
    go true e on =
        let none : rest_and_batch st s ≡ [] = none_of (rest_and_batch st s) (at (length (rest_and_batch st s)) e) in
        (none, sym (gone_from-nil puts weight) ∙ ap (gone_from puts weight) (sym none))
      where
        at : (k : ℕ) → (k == 0) ≡ true → k ≡ 0
        at k e = grind arith
    go false e on = on e
