-- A detached batch waits for all active slots on both sides.
use Rattle.std.proofs.Common.{◌≡◌, ◌≢◌, ℕ, ◌+◌, pos, Bool, true, false, not, ◌&&◌, if◌then◌else◌, List, [], ◌∷◌, ◌++◌, length, map, get_or, Option, refl, sym, ◌∙◌, ap, subst, ◌⊎◌, inl, inr, arith, length-append}
use Rattle.std.specs.List.{count_by}
use Rattle.std.proofs.lemmas.Grind.{common_steps}
use Rattle.std.proofs.lemmas.Int.{ints}
use Rattle.std.proofs.lemmas.List.{get_or_past, length-map}
use Rattle.std.proofs.Math.ListN.{get_or-map}
use Rattle.std.proofs.Math.Seq.{get_or-append_seam}
use Rattle.seize_machine.specs.Machine.State as machine
use Rattle.seize_machine.specs.Machine.State.{Head, Inactive, Active, Batch, no_batch, are_distinct}
use Rattle.seize_model.specs.Waiting.State as waiting
use Rattle.seize_model.specs.Waiting.State.{model_slot, waits_for}
use Rattle.seize_model.specs.Waiting.Attempt.{wait_if_active}
use Rattle.seize_model.specs.Agreement.Shows.{head_of}
use Rattle.seize_model.proofs.Simulation.Attempts.{actives, with_front}
use Rattle.seize_model.proofs.Simulation.Coupling.{Near, Denote, CoupledSlot, Naming}
use Rattle.seize_model.proofs.Counts.{none_passes, beside}
use Rattle.seize_model.proofs.Cases.{or_same}
use Rattle.seize_model.proofs.WaitingSets.Orders.{by_active, new_count, old_count}

waits_head : {T R : Type 0} (b : ℕ) (slot : waiting.ModelSlot T R) → head_of (wait_if_active b slot) ≡ with_front b (head_of slot)
waits_head {T} {R} b slot = go (waiting.has_guard slot) refl
  where
    go : (t : Bool) → waiting.has_guard slot ≡ t → head_of (if t then record slot { order = b ∷ slot.order } else slot) ≡ with_front b (head_of slot)
    go true e = ap (λ (t : Bool). if t then Active (b ∷ slot.order) else Inactive) e ∙ sym (ap (λ (t : Bool). with_front b (if t then Active slot.order else Inactive)) e)
    go false e = ap (λ (t : Bool). if t then Active slot.order else Inactive) e ∙ sym (ap (λ (t : Bool). with_front b (if t then Active slot.order else Inactive)) e)

pub actives_count : {T R : Type 0} (n : ℕ) (xs : List (waiting.ModelSlot T R)) → length (actives n (map head_of xs)) ≡ count_by waiting.has_guard xs
actives_count n [] = refl
actives_count {T} {R} n (x ∷ xs) = go (waiting.has_guard x) refl (actives_count (n + 1) xs)
  where
    go : (t : Bool) → waiting.has_guard x ≡ t → length (actives (n + 1) (map head_of xs)) ≡ count_by waiting.has_guard xs
        → length (actives n ((if t then Active x.order else Inactive) ∷ map head_of xs)) ≡ count_by waiting.has_guard (x ∷ xs)
    go true e more = grind (arith, common_steps)
    go false e more = grind (arith, common_steps)

heads_wait : {T R : Type 0} (b : ℕ) (xs : List (waiting.ModelSlot T R)) → map (with_front b) (map head_of xs) ≡ map head_of (map (wait_if_active b) xs)
heads_wait b [] = refl
heads_wait b (x ∷ xs) = ap (λ (h : Head). h ∷ map (with_front b) (map head_of xs)) (sym (waits_head b x)) ∙ ap (λ (hs : List Head). head_of (wait_if_active b x) ∷ hs) (heads_wait b xs)

slot_waits : {T R X : Type 0} (of : Naming T R X) (b : ℕ) (slot : waiting.ModelSlot T R) (shown : machine.Slot) → waits_for b slot ≡ false → CoupledSlot of slot shown → CoupledSlot of (wait_if_active b slot) shown
slot_waits {T} {R} of b slot shown none h =
    by_active (λ x t. CoupledSlot of x shown) b slot (λ e. record {
      used = h.used;
      idle = h.idle;
      batch = h.batch;
      free = h.free;
      owned = h.owned;
      inactive = λ f. absurd (let k : true ≡ false = sym e ∙ f in cc);
      once = ap (λ (t : Bool). not t && are_distinct slot.order) none ∙ h.once;
    }) (λ e. h)

-- with one retired batch more, which waits for all active slots
abbrev pub waiting_more : {T R : Type 0} → waiting.ModelState T R → List (T × R) → waiting.ModelState T R
waiting_more st values = record st { slots = map (wait_if_active (length st.retired)) st.slots; retired = st.retired ++ values ∷ [] }

-- no batch that was never retired waits for a slot
unmade : {T R X : Type 0} (of : Naming T R X) (st : waiting.ModelState T R) (slots : List machine.Slot) (heads : List Head) (batches : List Batch) (links : List (Option ℕ)) (rest : List ℕ) → Near of [] st slots heads batches links rest
    → count_by (waits_for (length st.retired)) st.slots ≡ 0
unmade of st slots heads batches links rest n =
    let past : get_or batches (length st.retired) no_batch ≡ no_batch = get_or_past batches (length st.retired) no_batch (omega (arith, n.retired)) in
    let zero_is : pos 0 ≡ pos (count_by (waits_for (length st.retired)) st.slots + 0) = sym (ap (λ (k : Batch). k.count) past) ∙ n.counts (length st.retired) in
    omega (arith, ints)

pub near_waits : {T R X : Type 0} (of : Naming T R X) (numbers : List ℕ) (values : List (T × R)) (st : waiting.ModelState T R) (slots : List machine.Slot) (heads : List Head) (batches : List Batch) (links : List (Option ℕ)) (rest : List ℕ)
    → Near of [] st slots heads batches links rest → Denote of numbers values
    → (count_by (waits_for (length st.retired)) (waiting_more st values).slots ≡ length (actives 0 heads))
    × Near of [] (waiting_more st values) slots (map (with_front (length st.retired)) heads) (batches ++ record { values = numbers; count = pos (length (actives 0 heads)) } ∷ []) links rest
near_waits {T} {R} of numbers values st slots heads batches links rest n stand = (
  won,
  record {
    numbers = rw (length-map st.slots (wait_if_active b)) n.numbers;
    as_many = n.as_many ∙ sym (length-map st.slots (wait_if_active b));
    slot = λ s. subst (λ x. CoupledSlot of x (get_or slots s machine.no_slot)) (sym (get_or-map (wait_if_active b) st.slots s waiting.unmade_slot))
        (slot_waits of b (model_slot st s) (get_or slots s machine.no_slot) (none_passes (waits_for b) st.slots s waiting.unmade_slot none refl) (n.slot s));
    heads_are = ap (λ (l : List Head). map (with_front b) l) n.heads_are ∙ heads_wait b st.slots;
    retired = length-append batches (new ∷ []) ∙ ap (λ (k : ℕ). k + 1) n.retired ∙ sym (length-append st.retired (values ∷ []));
    values = λ i. values_at i (or_same i b);
    counts = λ i. counts_at i (or_same i b);
    links_are = n.links_are;
    rest_is = n.rest_is;
  },
)
  where
    b : ℕ
    b = length st.retired

    none : count_by (waits_for (length st.retired)) st.slots ≡ 0
    none = unmade of st slots heads batches links rest n

    new : Batch
    new = record { values = numbers; count = pos (length (actives 0 heads)) }

    won : count_by (waits_for (length st.retired)) (waiting_more st values).slots ≡ length (actives 0 heads)
    won = new_count (length st.retired) st.slots (unmade of st slots heads batches links rest n) ∙ sym (ap (λ (l : List Head). length (actives 0 l)) n.heads_are ∙ actives_count 0 st.slots)

    values_at : (i : ℕ) → (i ≡ length st.retired) ⊎ (i ≢ length st.retired)
        → Denote of (get_or (batches ++ record { values = numbers; count = pos (length (actives 0 heads)) } ∷ []) i no_batch).values (get_or (st.retired ++ values ∷ []) i [])
    values_at i (inl is) =
        let x : get_or (batches ++ record { values = numbers; count = pos (length (actives 0 heads)) } ∷ []) i no_batch ≡ record { values = numbers; count = pos (length (actives 0 heads)) } = rw (is, ← n.retired) (get_or-append_seam batches _ [] no_batch) in
        let y : get_or (st.retired ++ values ∷ []) i [] ≡ values = rw is (get_or-append_seam st.retired values [] []) in
        subst (λ (k : Batch). Denote of k.values (get_or (st.retired ++ values ∷ []) i [])) (sym x) (subst (λ (k : List (T × R)). Denote of numbers k) (sym y) stand)
    values_at i (inr other) =
        let x : get_or (batches ++ record { values = numbers; count = pos (length (actives 0 heads)) } ∷ []) i no_batch ≡ get_or batches i no_batch = beside batches _ no_batch i (rw n.retired other) in
        let y : get_or (st.retired ++ values ∷ []) i [] ≡ get_or st.retired i [] = beside st.retired values [] i other in
        subst (λ (k : Batch). Denote of k.values (get_or (st.retired ++ values ∷ []) i [])) (sym x) (subst (λ (k : List (T × R)). Denote of (get_or batches i no_batch).values k) (sym y) (n.values i))

    counts_at : (i : ℕ) → (i ≡ length st.retired) ⊎ (i ≢ length st.retired)
        → (get_or (batches ++ record { values = numbers; count = pos (length (actives 0 heads)) } ∷ []) i no_batch).count ≡ pos (count_by (waits_for i) (map (wait_if_active (length st.retired)) st.slots) + 0)
    counts_at i (inl is) =
        let x : get_or (batches ++ record { values = numbers; count = pos (length (actives 0 heads)) } ∷ []) i no_batch ≡ record { values = numbers; count = pos (length (actives 0 heads)) } = rw (is, ← n.retired) (get_or-append_seam batches _ [] no_batch) in
        let w : length (actives 0 heads) ≡ count_by (waits_for i) (map (wait_if_active (length st.retired)) st.slots) = rw is (sym won) in
        ap (λ (k : Batch). k.count) x ∙ ap (λ (k : ℕ). pos k) (omega arith)
    counts_at i (inr other) =
        let x : get_or (batches ++ record { values = numbers; count = pos (length (actives 0 heads)) } ∷ []) i no_batch ≡ get_or batches i no_batch = beside batches _ no_batch i (rw n.retired other) in
        ap (λ (k : Batch). k.count) x ∙ n.counts i ∙ ap (λ (k : ℕ). pos (k + 0)) (sym (old_count (length st.retired) i st.slots other))
