-- A batch whose waiting set is empty is gone on both sides, and a batch that is detached waits on both sides.
use Rattle.std.proofs.Common.{◌≡◌, ◌≢◌, ℕ, ◌+◌, ◌<◌, ◌≤◌, ℤ, pos, ◌-ℤ◌, Bool, true, false, not, ◌==◌, if◌then◌else◌, List, [], ◌∷◌, length, get_or, set, Option, refl, sym, ◌∙◌, ap, subst, ◌⊎◌, inl, inr, arith}
use Rattle.std.specs.List.{count_by}
use Rattle.std.proofs.lemmas.Int.{ints}
use Rattle.std.proofs.lemmas.List.{get_or-set_same, get_or-set_other, get_or_past, length-set, set-get_or}
use Rattle.seize_machine.specs.Machine.State as machine
use Rattle.seize_machine.specs.Machine.State.{Head, Batch, has, no_batch}
use Rattle.seize_model.specs.Waiting.State as waiting
use Rattle.seize_model.specs.Waiting.State.{waits_for, is_kept, retired_at}
use Rattle.seize_model.specs.Waiting.Attempt.{StateAndGone, release}
use Rattle.seize_machine.proofs.Facts.{one, occ, has_none}
use Rattle.seize_model.proofs.Simulation.Coupling.{Near, Denote, Naming}
use Rattle.seize_model.proofs.Cases.{in_or_past, or_same}
use Rattle.seize_model.proofs.Counts.{any_counts}

-- the batch in its place
abbrev pub batch_with : List Batch → ℕ → Bool → ℤ → List Batch
batch_with batches b gives_up count = set batches b (record { values = if gives_up then [] else (get_or batches b no_batch).values; count = count })

-- one batch changes on both sides
values_change : {T R X : Type 0} (of : Naming T R X) (xs : List (List (T × R))) (ys : List Batch) (b : ℕ) (new : List (T × R)) (shown : Batch) → b < length xs → length ys ≡ length xs
    → ((i : ℕ) → Denote of (get_or ys i no_batch).values (get_or xs i [])) → Denote of shown.values new
    → (i : ℕ) → Denote of (get_or (set ys b shown) i no_batch).values (get_or (set xs b new) i [])
values_change {T} {R} of xs ys b new shown h e old now i = go (or_same i b)
  where
    go : (i ≡ b) ⊎ (i ≢ b) → Denote of (get_or (set ys b shown) i no_batch).values (get_or (set xs b new) i [])
    go (inl is) =
        let x : get_or (set xs b new) i [] ≡ new = rw is (get_or-set_same xs b new [] h) in
        let y : get_or (set ys b shown) i no_batch ≡ shown = rw is (get_or-set_same ys b shown no_batch (rw e h)) in
        subst (λ (k : Batch). Denote of k.values (get_or (set xs b new) i [])) (sym y) (subst (λ (k : List (T × R)). Denote of shown.values k) (sym x) now)
    go (inr other) =
        let x : get_or (set xs b new) i [] ≡ get_or xs i [] = get_or-set_other xs b i new [] other in
        let y : get_or (set ys b shown) i no_batch ≡ get_or ys i no_batch = get_or-set_other ys b i shown no_batch other in
        subst (λ (k : Batch). Denote of k.values (get_or (set xs b new) i [])) (sym y) (subst (λ (k : List (T × R)). Denote of (get_or ys i no_batch).values k) (sym x) (old i))

counts_change : (ys : List Batch) (b : ℕ) (shown : Batch) (f g : ℕ → ℕ) → ((i : ℕ) → (get_or ys i no_batch).count ≡ pos (f i)) → b < length ys → shown.count ≡ pos (g b) → ((i : ℕ) → i ≢ b → f i ≡ g i)
    → (i : ℕ) → (get_or (set ys b shown) i no_batch).count ≡ pos (g i)
counts_change ys b shown f g old h now others i = go (or_same i b)
  where
    go : (i ≡ b) ⊎ (i ≢ b) → (get_or (set ys b shown) i no_batch).count ≡ pos (g i)
    go (inl is) = rw is (ap (λ (k : Batch). k.count) (get_or-set_same ys b shown no_batch h) ∙ now)
    go (inr other) = ap (λ (k : Batch). k.count) (get_or-set_other ys b i shown no_batch other) ∙ old i ∙ ap (λ (n : ℕ). pos n) (others i other)

-- a batch with a count that is not 0 is there
is_made : (batches : List Batch) (b n : ℕ) → (get_or batches b no_batch).count ≡ pos (n + 1) → b < length batches
is_made batches b n e = go (in_or_past b (length batches))
  where
    go : (b < length batches) ⊎ (length batches ≤ b) → b < length batches
    go (inl h) = h
    go (inr h) =
        let z : pos 0 ≡ pos (n + 1) = sym (ap (λ (k : Batch). k.count) (get_or_past batches b no_batch h)) ∙ e in
        absurd (omega (arith, ints))

-- The first batch of the walk is counted down.
pub near_less : {T R X : Type 0} (of : Naming T R X) (b : ℕ) (walk : List ℕ) (st : waiting.ModelState T R) (slots : List machine.Slot) (heads : List Head) (batches : List Batch) (links : List (Option ℕ)) (rest : List ℕ)
    → Near of (b ∷ walk) st slots heads batches links rest → has b walk ≡ false
    → (b < length batches) × ((get_or batches b no_batch).count -ℤ pos 1 ≡ pos (count_by (waits_for b) st.slots))
    × Near of walk st slots heads (batch_with batches b false (pos (count_by (waits_for b) st.slots))) links rest
near_less {T} {R} of b walk st slots heads batches links rest n first =
    let none : occ b walk ≡ 0 = has_none b walk first in
    let own : one (b == b) ≡ 1 = grind arith in
    let was : count_by (waits_for b) st.slots + occ b (b ∷ walk) ≡ count_by (waits_for b) st.slots + 1 = omega arith in
    let count : (get_or batches b no_batch).count ≡ pos (count_by (waits_for b) st.slots + 1) = n.counts b ∙ ap (λ (k : ℕ). pos k) was in
    let there : b < length batches = is_made batches b (count_by (waits_for b) st.slots) count in
    let shown : Batch = record { values = (get_or batches b no_batch).values; count = pos (count_by (waits_for b) st.slots) } in
    let now : pos (count_by (waits_for b) st.slots) ≡ pos (count_by (waits_for b) st.slots + occ b walk) = ap (λ (k : ℕ). pos k) (omega arith) in (
      there,
      omega (arith, ints),
      record {
        numbers = n.numbers;
        as_many = n.as_many;
        slot = n.slot;
        heads_are = n.heads_are;
        retired = length-set batches b shown ∙ n.retired;
        values = λ i. values_kept batches b shown (λ k. Denote of k (retired_at st i)) refl i (n.values i);
        counts = counts_change batches b shown (λ i. count_by (waits_for i) st.slots + occ i (b ∷ walk)) (λ i. count_by (waits_for i) st.slots + occ i walk) n.counts there now (λ i other. other_count b i walk (count_by (waits_for i) st.slots) other);
        links_are = n.links_are;
        rest_is = n.rest_is;
      },
    )
  where
    other_count : (b i : ℕ) (walk : List ℕ) (k : ℕ) → i ≢ b → k + occ i (b ∷ walk) ≡ k + occ i walk
    other_count b i walk k other = let zero_one : one (b == i) ≡ 0 = grind arith in omega arith

    values_kept : (ys : List Batch) (b : ℕ) (shown : Batch) (P : List ℕ → Type 0) → shown.values ≡ (get_or ys b no_batch).values → (i : ℕ) → P (get_or ys i no_batch).values → P (get_or (set ys b shown) i no_batch).values
    values_kept ys b shown P e i p = go (or_same i b) (in_or_past b (length ys))
      where
        go : (i ≡ b) ⊎ (i ≢ b) → (b < length ys) ⊎ (length ys ≤ b) → P (get_or (set ys b shown) i no_batch).values
        go (inr other) _ = subst (λ (k : Batch). P k.values) (sym (get_or-set_other ys b i shown no_batch other)) p
        go (inl is) (inl h) =
            let same : (get_or (set ys b shown) i no_batch).values ≡ (get_or ys i no_batch).values = rw is (ap (λ (k : Batch). k.values) (get_or-set_same ys b shown no_batch h) ∙ e) in
            subst P (sym same) p
        go (inl is) (inr h) =
            let past : get_or (set ys b shown) i no_batch ≡ no_batch = get_or_past (set ys b shown) i no_batch (rw (length-set ys b shown, is) h) in
            let before : get_or ys i no_batch ≡ no_batch = get_or_past ys i no_batch (rw is h) in
            subst (λ (k : Batch). P k.values) (before ∙ sym past) p

-- what both sides have once batch b with count k was looked at: it is gone where z says so
abbrev pub BothGone : {T R X : Type 0} → Naming T R X → ℕ → List ℕ → List machine.Slot → List Head → List Batch → List (Option ℕ) → List ℕ → ℕ → Bool → StateAndGone T R → Type 0
BothGone {T} {R} of b walk slots heads batches links rest k z o =
    Near of walk o.0 slots heads (batch_with batches b z (pos k)) links rest × Denote of (if z then (get_or batches b no_batch).values else []) o.1

-- A batch that nothing walks is gone if its count is 0.
pub near_release : {T R X : Type 0} (of : Naming T R X) (b : ℕ) (walk : List ℕ) (st : waiting.ModelState T R) (slots : List machine.Slot) (heads : List Head) (batches : List Batch) (links : List (Option ℕ)) (rest : List ℕ)
    → Near of walk st slots heads batches links rest → b < length batches → has b walk ≡ false
    → BothGone of b walk slots heads batches links rest (count_by (waits_for b) st.slots) (count_by (waits_for b) st.slots == 0) (release st b)
near_release {T} {R} of b walk st slots heads batches links rest n there first =
    go (count_by (waits_for b) st.slots == 0) (is_kept st b) (any_counts (waits_for b) st.slots)
  where
    k : ℕ
    k = count_by (waits_for b) st.slots

    same_count : pos k ≡ pos (k + occ b walk)
    same_count = let none : occ b walk ≡ 0 = has_none b walk first in ap (λ (i : ℕ). pos i) (omega arith)

    within : b < length st.retired
    within = rw (← n.retired) there

    as_was : set st.retired b (retired_at st b) ≡ st.retired
    as_was = set-get_or st.retired b []

    go : (z kept : Bool) → kept ≡ not z
        → BothGone of b walk slots heads batches links rest k z (if kept then (st, []) else (record st { retired = set st.retired b [] }, retired_at st b))
    go true false e = (
      record {
        numbers = n.numbers;
        as_many = n.as_many;
        slot = n.slot;
        heads_are = n.heads_are;
        retired = length-set batches b _ ∙ n.retired ∙ sym (length-set st.retired b []);
        values = values_change of st.retired batches b [] (record { values = []; count = pos k }) within n.retired n.values refl;
        counts = counts_change batches b (record { values = []; count = pos k }) (λ i. count_by (waits_for i) st.slots + occ i walk) (λ i. count_by (waits_for i) st.slots + occ i walk) n.counts there same_count (λ i other. refl);
        links_are = n.links_are;
        rest_is = n.rest_is;
      },
      n.values b,
    )
    go false true e = (
      record {
        numbers = n.numbers;
        as_many = n.as_many;
        slot = n.slot;
        heads_are = n.heads_are;
        retired = length-set batches b _ ∙ n.retired;
        values = λ i. subst (λ (l : List (List (T × R))). Denote of (get_or (batch_with batches b false (pos k)) i no_batch).values (get_or l i [])) as_was
            (values_change of st.retired batches b (retired_at st b) (record { values = (get_or batches b no_batch).values; count = pos k }) within n.retired n.values (n.values b) i);
        counts = counts_change batches b (record { values = (get_or batches b no_batch).values; count = pos k }) (λ i. count_by (waits_for i) st.slots + occ i walk) (λ i. count_by (waits_for i) st.slots + occ i walk) n.counts there same_count (λ i other. refl);
        links_are = n.links_are;
        rest_is = n.rest_is;
      },
      refl,
    )
    go true true e = absurd (cc)
    go false false e = absurd (cc)
