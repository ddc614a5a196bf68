-- Between calls each batch is below the bound, and so is what was left.
use Rattle.std.proofs.Common.{◌≡◌, ◌≢◌, ℕ, zero, suc, ◌+◌, ◌*◌, ◌<◌, ◌≤◌, Bool, true, false, ◌||◌, ◌==◌, if◌then◌else◌, nat_lt, nat_le, max, List, [], ◌∷◌, ◌++◌, length, get_or, set, refl, sym, ◌∙◌, ap, subst, ◌⊎◌, inl, inr, arith}
use Rattle.std.specs.List.{count_by, range_with_len}
use Rattle.std.proofs.Math.Nat.{le-mul_of_pos_right, mul_comm}
use Rattle.std.proofs.lemmas.Nat.{mul-le}
use Rattle.std.proofs.lemmas.List.{length-set, length-map, length-append, get_or-set_same, get_or-set_other, get_or_past}
use Rattle.std.proofs.lemmas.List.Sums.{count_by-le-length}
use Rattle.std.proofs.Math.ListN.{get_or-map}
use Rattle.std.proofs.Math.Seq.{get_or-append_seam}
use Rattle.seize_machine.proofs.Facts.{one}
use Rattle.seize_model.specs.declared.kind.Kind.{Kind}
use Rattle.seize_model.specs.Waiting.State.{ModelSlot, ModelState, model_slot, set_slot, unmade_slot, new, has_guard, is_kept}
use Rattle.seize_model.specs.Waiting.Attempt.{StateAndGone, release, release_all, attempt, gives_up, active_slots, wait_if_active, with_batch_retired, is_full, attempt_if_full, put, with_batch_value, part}
use Rattle.seize_model.specs.Waiting.Calls as calls
use Rattle.seize_model.specs.Waiting.Calls.{is_free, least_unused, with_number_in_use, set_guards, rest_and_batch, with_rest_gathered, with_number_free, part_all}
use Rattle.seize_model.specs.Waiting.Reached.{Reached, largest_size}
use Rattle.seize_model.specs.Waiting.Laws.{BoundLaw}
use Rattle.seize_model.proofs.Cases.{either, in_or_past, or_same}
use Rattle.seize_model.proofs.Counts.{beside, count_same, count_set}
use Rattle.seize_model.proofs.WaitingSets.FurtherValues.{waits_batch}
use Rattle.seize_model.proofs.WaitingSets.Beside.{Ignores, ignores_rest, ignores_many, ignores_count, attempt_beside, put_beside, part_beside}
use Rattle.seize_model.proofs.WaitingSets.Taken.{with_room, taken_slot, taken_is, taken_none}
use Rattle.seize_model.proofs.WaitingSets.Refusals.{IsUsed, in_use}
use Rattle.seize_model.proofs.WaitingSets.Invariants.{Invariant, gives_keep, step_keeps, swap_keeps}
use Rattle.seize_model.proofs.WaitingSets.GoneBatches.{reached_clean}
use Rattle.seize_model.proofs.WaitingSets.Tidy.{AreTidy, unmade_tidy, tidy_set, tidy_put, tidy_gathered, tidy_calls}

-- so many slots, this size, and each batch below the bound
pub record IsBelow {T R : Type 0} (size slots : ℕ) (st : ModelState T R) : Type 0 where
  pub within : st.size ≤ size
  pub many : length st.slots ≡ slots
  pub below : (s : ℕ) → length (model_slot st s).batch < max (max 1 size) slots

abbrev Stays : {T R : Type 0} → ℕ → ℕ → StateAndGone T R → Type 0
Stays size slots o = IsBelow size slots o.0

-- a slot that is written, with a batch below the bound
set_below : {T R : Type 0} (size slots : ℕ) (st : ModelState T R) (s : ℕ) (slot : ModelSlot T R) → st.size ≤ size → length st.slots ≡ slots → ((i : ℕ) → i ≢ s → length (model_slot st i).batch < max (max 1 size) slots) → length slot.batch < max (max 1 size) slots
    → IsBelow size slots (set_slot st s slot)
set_below {T} {R} size slots st s slot e n others own = record {
  within = e;
  many = length-set st.slots s slot ∙ n;
  below = λ i. at i (or_same i s) (in_or_past i (length st.slots));
}
  where
    at : (i : ℕ) → (i ≡ s) ⊎ (i ≢ s) → (i < length st.slots) ⊎ (length st.slots ≤ i) → length (model_slot (set_slot st s slot) i).batch < max (max 1 size) slots
    at i (inr other) h = rw (get_or-set_other st.slots s i slot unmade_slot other) (others i other)
    at i (inl same) (inl h) =
        let is : model_slot (set_slot st s slot) i ≡ slot = ap (λ k. get_or (set st.slots s slot) k unmade_slot) same ∙ get_or-set_same st.slots s slot unmade_slot (rw (← same) h) in
        rw is own
    at i (inl same) (inr h) =
        let is : model_slot (set_slot st s slot) i ≡ unmade_slot = get_or_past (set st.slots s slot) i unmade_slot (rw (length-set st.slots s slot) h) in
        rw is (omega arith)

kept_below : {T R : Type 0} (size slots : ℕ) (st : ModelState T R) (s : ℕ) (slot : ModelSlot T R) → slot.batch ≡ (model_slot st s).batch → IsBelow size slots st → IsBelow size slots (set_slot st s slot)
kept_below size slots st s slot same b = set_below size slots st s slot b.within b.many (λ i other. b.below i) (rw same (b.below s))

release_below : {T R : Type 0} (size slots : ℕ) (st : ModelState T R) (b : ℕ) → IsBelow size slots st → Stays size slots (release st b)
release_below {T} {R} size slots st b h = either (Stays {T = T} {R = R} size slots) (is_kept st b) _ _ h (record { within = h.within; many = h.many; below = h.below })

release_all_below : {T R : Type 0} (size slots : ℕ) (bs : List ℕ) (st : ModelState T R) → IsBelow size slots st → Stays size slots (release_all st bs)
release_all_below size slots [] st h = h
release_all_below size slots (b ∷ bs) st h = release_all_below size slots bs (release st b).0 (release_below size slots st b h)

part_below : {T R : Type 0} (size slots : ℕ) (st : ModelState T R) (s : ℕ) → IsBelow size slots st → Stays size slots (part st s)
part_below size slots st s h = release_all_below size slots (model_slot st s).order (set_slot st s (record (model_slot st s) { order = [] })) (kept_below size slots st s (record (model_slot st s) { order = [] }) refl h)

-- An attempt leaves its own batch empty or below the bound.
detached_below : {T R : Type 0} (size slots : ℕ) (st : ModelState T R) (s : ℕ) → st.size ≤ size → length st.slots ≡ slots → ((i : ℕ) → i ≢ s → length (model_slot st i).batch < max (max 1 size) slots) → IsBelow size slots (with_batch_retired st s)
detached_below {T} {R} size slots st s e n others =
    let emptied : IsBelow size slots (set_slot st s (record (model_slot st s) { batch = [] })) = set_below size slots st s (record (model_slot st s) { batch = [] }) e n others (omega arith) in
    record {
      within = e;
      many = length-map (set st.slots s (record (model_slot st s) { batch = [] })) (wait_if_active (length st.retired)) ∙ emptied.many;
      below = λ i.
          let is : (model_slot (with_batch_retired st s) i).batch ≡ (model_slot (set_slot st s (record (model_slot st s) { batch = [] })) i).batch
          = ap (λ (x : ModelSlot T R). x.batch) (get_or-map (wait_if_active (length st.retired)) (set st.slots s (record (model_slot st s) { batch = [] })) i unmade_slot) ∙ waits_batch (length st.retired) _ in
          rw is (emptied.below i);
    }

attempt_below : {T R : Type 0} (size slots : ℕ) (st : ModelState T R) (s : ℕ) → st.size ≤ size → length st.slots ≡ slots → ((i : ℕ) → i ≢ s → length (model_slot st i).batch < max (max 1 size) slots) → Stays size slots (attempt st s)
attempt_below {T} {R} size slots st s e n others = go (gives_up st s) refl
  where
    few : active_slots st ≤ length st.slots
    few = count_by-le-length has_guard st.slots

    small : (a b c d : ℕ) → ((a == 0) || nat_lt a b) ≡ true → b ≤ c → c ≡ d → a < max (max 1 size) d
    small a b c d t h same = grind arith

    go : (t : Bool) → gives_up st s ≡ t → (let o : StateAndGone T R = if t then (st, []) else release (with_batch_retired st s) (length st.retired) in Stays size slots o)
    go true t = record {
      within = e;
      many = n;
      below = λ i. elim (or_same i s) [
        | inl same ↦ rw same (small (length (model_slot st s).batch) (active_slots st) (length st.slots) slots t (count_by-le-length has_guard st.slots) n)
        | inr other ↦ others i other
      ];
    }
    go false t = release_below size slots (with_batch_retired st s) (length st.retired) (detached_below size slots st s e n others)

full_below : {T R : Type 0} (size slots : ℕ) (st : ModelState T R) (s : ℕ) → st.size ≤ size → length st.slots ≡ slots → ((i : ℕ) → i ≢ s → length (model_slot st i).batch < max (max 1 size) slots) → Stays size slots (attempt_if_full st s)
full_below {T} {R} size slots st s e n others = go (is_full st.size (model_slot st s).batch) refl
  where
    short : (a b : ℕ) → nat_le (max 1 b) a ≡ false → b ≤ size → a < max (max 1 size) slots
    short a b f same = grind arith

    go : (t : Bool) → is_full st.size (model_slot st s).batch ≡ t → (let o : StateAndGone T R = if t then attempt st s else (st, []) in Stays size slots o)
    go true t = attempt_below size slots st s e n others
    go false t = record {
      within = e;
      many = n;
      below = λ i. elim (or_same i s) [
        | inl same ↦ rw same (short (length (model_slot st s).batch) st.size t e)
        | inr other ↦ others i other
      ];
    }

put_below : {T R : Type 0} (size slots : ℕ) (st : ModelState T R) (s : ℕ) (v : T × R) → IsBelow size slots st → Stays size slots (put st s v)
put_below {T} {R} size slots st s v h =
    full_below size slots (with_batch_value st s v) s h.within (length-set st.slots s (record (model_slot st s) { batch = (model_slot st s).batch ++ v ∷ [] }) ∙ h.many)
    (λ i other. rw (get_or-set_other st.slots s i (record (model_slot st s) { batch = (model_slot st s).batch ++ v ∷ [] }) unmade_slot other) (h.below i))

-- Calls. One that takes a number may make a slot.

-- with so many slots or one more
abbrev Grows : {T R : Type 0} → ℕ → ModelState T R → Type 0
Grows size st = IsBelow size (length st.slots) st

grown : {T R : Type 0} (size slots : ℕ) (st : ModelState T R) → IsBelow size slots st → Grows size st
grown size slots st h = subst (λ n. IsBelow size n st) (sym h.many) h

wider : (a b c : ℕ) → a < max (max 1 b) c → a < max (max 1 b) (c + 1)
wider a b c h = grind arith

room_below : {T R : Type 0} (size : ℕ) (st : ModelState T R) (t : Bool) → Grows size st → Grows size (with_room t st)
room_below size st false h = h
room_below {T} {R} size st true h = record {
  within = h.within;
  many = refl;
  below = λ i. at i (or_same i (length st.slots));
}
  where
    at : (i : ℕ) → (i ≡ length st.slots) ⊎ (i ≢ length st.slots) → length (get_or (st.slots ++ unmade_slot ∷ []) i unmade_slot).batch < max (max 1 size) (length (st.slots ++ unmade_slot ∷ []))
    at i (inl same) =
        let is : get_or (st.slots ++ unmade_slot ∷ []) i unmade_slot ≡ unmade_slot = rw same (get_or-append_seam st.slots _ [] unmade_slot) in
        rw is (omega arith)
    at i (inr other) =
        let is : get_or (st.slots ++ unmade_slot ∷ []) i unmade_slot ≡ get_or st.slots i unmade_slot = beside st.slots _ unmade_slot i other in
        let more : length (st.slots ++ unmade_slot ∷ []) ≡ length st.slots + 1 = length-append st.slots _ in
        rw (is, more) (wider (length (model_slot st i).batch) size (length st.slots) (h.below i))

taken_below : {T R : Type 0} (size : ℕ) (st : ModelState T R) (kind : Kind) → Grows size st → Grows size (attempt_if_full (with_number_in_use st (least_unused st.slots) kind) (least_unused st.slots)).0
taken_below {T} {R} size st kind h =
    let n : ℕ = least_unused st.slots in
    let t : Bool = least_unused st.slots == length st.slots in
    let room : Grows size (with_room t st) = room_below size st t h in
    subst (λ (k : ModelState T R). Grows size (attempt_if_full k (least_unused st.slots)).0) (taken_is st kind t refl)
    (grown size (length (with_room t st).slots) _
    (full_below size (length (with_room t st).slots) (record (set_slot (with_room t st) n (taken_slot st kind)) { rest = [] }) n room.within (length-set (with_room t st).slots n (taken_slot st kind))
    (λ i other. rw (get_or-set_other (with_room t st).slots n i (taken_slot st kind) unmade_slot other) (room.below i))))

gathered_below : {T R : Type 0} (size : ℕ) (st : ModelState T R) (s : ℕ) → Grows size st → Grows size (attempt (with_rest_gathered st s) s).0
gathered_below {T} {R} size st s h =
    let new : ModelSlot T R = record (model_slot st s) { batch = rest_and_batch st s } in
    grown size (length st.slots) _
    (attempt_below size (length st.slots) (with_rest_gathered st s) s h.within (length-set st.slots s new) (λ i other. rw (get_or-set_other st.slots s i new unmade_slot other) (h.below i)))

-- What was left: each slot whose number is free has brought fewer values than the bound of a batch.

abbrev free_slot : {T R : Type 0} → ModelSlot T R → Bool
free_slot slot = is_free slot.kind

abbrev frees : {T R : Type 0} → ModelState T R → ℕ
frees st = count_by free_slot st.slots

abbrev RestFits : {T R : Type 0} → ℕ → ModelState T R → Type 0
RestFits size st = length st.rest + frees st ≤ frees st * max (max 1 size) (length st.slots)

none_fits : {T R : Type 0} (size : ℕ) (st : ModelState T R) → st.rest ≡ [] → RestFits size st
none_fits {T} {R} size st none =
    let empty : length st.rest ≡ 0 = ap (λ (l : List (T × R)). length l) none in
    omega (arith, le-mul_of_pos_right {m = max (max 1 size) (length st.slots)} (frees st) (omega arith))

rest_same : {T R : Type 0} (size : ℕ) (st now : ModelState T R) → now.rest ≡ st.rest → frees now ≡ frees st → length now.slots ≡ length st.slots → RestFits size st → RestFits size now
rest_same size st now rest free many h = rw rest (rw free (rw many h))

freed_fits : {T R : Type 0} (size : ℕ) (st : ModelState T R) (s : ℕ) → IsUsed st s → Grows size st → RestFits size st → RestFits size (with_number_free st s)
freed_fits {T} {R} size st s used h fits =
    let b : ℕ = max (max 1 size) (length st.slots) in
    let more : frees (with_number_free st s) ≡ frees st + 1
    = one_more _ _ _ (count_set free_slot st.slots s unmade_slot unmade_slot (in_use st s used)) used in
    let all : length (st.rest ++ (model_slot st s).batch) + (frees st + 1) ≤ (frees st + 1) * b
    = omega (arith, fits, h.below s, length-append st.rest (model_slot st s).batch, times_more (frees st) b) in
    rw more (rw (length-set st.slots s unmade_slot) all)
  where
    one_more : (a c : ℕ) (t : Bool) → a + one t ≡ c + one true → t ≡ false → a ≡ c + 1
    one_more a c true e f = absurd (cc)
    one_more a c false e f = omega arith

    times_more : (f b : ℕ) → (f + 1) * b ≡ f * b + b
    times_more zero b = omega arith
    times_more (suc f) b = omega (arith, times_more f b)

-- both, beside what makes a state tidy
abbrev Fits : {T R : Type 0} → ℕ → ModelState T R → Type 0
Fits size st = AreTidy st × Grows size st × RestFits size st

calls_fit : {T R : Type 0} (puts : R → T → List T) (weight : T → ℕ) (size : ℕ) → Invariant puts weight (λ (st : ModelState T R). Fits size st)
calls_fit {T} {R} puts weight size = record {
  owned = λ st s h. (h.0 s).owned;
  taking = λ st kind used h. (tidy.taking st kind used h.0, taken_below size st kind h.1, none_fits size (attempt_if_full (with_number_in_use st (least_unused st.slots) kind) (least_unused st.slots)).0 (taken_none st kind));
  ending = gives_keep (λ (st : ModelState T R). Fits size st) puts weight retirement
      (λ st s idle h. (tidy_gathered st s idle.0 h.0, gathered_below size st s h.1, none_fits size (attempt (with_rest_gathered st s) s).0 (attempt_beside (λ (k : ModelState T R). k.rest) ignores_rest (with_rest_gathered st s) s)))
      (λ st s idle h. (tidy_set st s unmade_slot h.0 unmade_tidy, grown size (length st.slots) _ (free_below st s h.1), freed_fits size st s idle.0 h.1 h.2));
  guarding = λ st s n used some owned h. (tidy.guarding st s n used some owned h.0, guards_below st s n h.1, guards_fit st s n h.2);
  leaving = λ st s used h. (
    tidy.leaving st s used h.0,
    grown size _ _ (part_below size _ (set_guards st s 0) s (guards_below st s 0 h.1)),
    parted (set_guards st s 0) s (guards_fit st s 0 h.2),
  );
  parting = λ st s used h. (tidy.parting st s used h.0, grown size (length st.slots) _ (part_below size (length st.slots) st s h.1), parted st s h.2);
  attempt_by = λ st s used h. (
    tidy.attempt_by st s used h.0,
    grown size (length st.slots) _ (attempt_below size (length st.slots) st s h.1.within refl (λ i other. h.1.below i)),
    rest_same size st (attempt st s).0 (attempt_beside (λ (k : ModelState T R). k.rest) ignores_rest st s) (attempt_beside (λ (k : ModelState T R). frees k) ignores_free st s) (attempt_beside (λ (k : ModelState T R). length k.slots) ignores_many st s) h.2,
  );
  retirement = retirement;
  link_change = λ st link new h. (h.0, record { within = h.1.within; many = h.1.many; below = h.1.below }, h.2);
}
  where
    tidy : Invariant puts weight (λ (st : ModelState T R). AreTidy st)
    tidy = tidy_calls puts weight

    ignores_free : Ignores (λ (st : ModelState T R). frees st)
    ignores_free = ignores_count free_slot (λ slot batch order. refl)

    retirement : (st : ModelState T R) (s : ℕ) (v : T × R) → IsUsed st s → Fits size st → Fits size (put st s v).0
    retirement st s v used h = (
      tidy_put st s v used h.0,
      grown size (length st.slots) _ (put_below size (length st.slots) st s v h.1),
      rest_same size st (put st s v).0 (put_beside (λ (k : ModelState T R). k.rest) ignores_rest st s v) (put_beside (λ (k : ModelState T R). frees k) ignores_free st s v) (put_beside (λ (k : ModelState T R). length k.slots) ignores_many st s v) h.2,
    )

    parted : (st : ModelState T R) (s : ℕ) → RestFits size st → RestFits size (part st s).0
    parted st s = rest_same size st (part st s).0 (part_beside (λ (k : ModelState T R). k.rest) ignores_rest st s) (part_beside (λ (k : ModelState T R). frees k) ignores_free st s) (part_beside (λ (k : ModelState T R). length k.slots) ignores_many st s)

    guards_below : (st : ModelState T R) (s n : ℕ) → Grows size st → Grows size (set_guards st s n)
    guards_below st s n h = grown size (length st.slots) _ (kept_below size (length st.slots) st s (record (model_slot st s) { guards = n }) refl h)

    guards_fit : (st : ModelState T R) (s n : ℕ) → RestFits size st → RestFits size (set_guards st s n)
    guards_fit st s n = rest_same size st (set_guards st s n) refl (count_same free_slot st.slots s (record (model_slot st s) { guards = n }) unmade_slot refl) (length-set st.slots s (record (model_slot st s) { guards = n }))

    free_below : (st : ModelState T R) (s : ℕ) → Grows size st → IsBelow size (length st.slots) (with_number_free st s)
    free_below st s h =
        let b : IsBelow size (length st.slots) (set_slot st s unmade_slot) = set_below size (length st.slots) st s unmade_slot h.within refl (λ i other. h.below i) (omega arith) in
        record { within = b.within; many = b.many; below = b.below }

-- so what was left is below its bound
rest_below : {T R : Type 0} (size : ℕ) (st : ModelState T R) → RestFits size st → (st.rest ≡ []) ⊎ (length st.rest < max (max 1 size) (length st.slots) * length st.slots)
rest_below {T} {R} size st fits = go st.rest fits
  where
    b : ℕ
    b = max (max 1 size) (length st.slots)

    go : (rest : List (T × R)) → length rest + frees st ≤ frees st * b → (rest ≡ []) ⊎ (length rest < b * length st.slots)
    go [] h = inl refl
    go (v ∷ rest) h =
        let few : frees st ≤ length st.slots = count_by-le-length free_slot st.slots in
        let wide : frees st * b ≤ length st.slots * b = mul-le (frees st) b (length st.slots) b few (omega arith) in
        inr (some (frees st) h wide)
      where
        some : (f : ℕ) → length (v ∷ rest) + f ≤ f * b → f * b ≤ length st.slots * b → length (v ∷ rest) < b * length st.slots
        some zero h wide = absurd (omega arith)
        some (suc f) h wide = omega (arith, mul_comm b (length st.slots))

-- Reached states.

parts_below : {T R : Type 0} (size slots : ℕ) (ss : List ℕ) (st : ModelState T R) → IsBelow size slots st → IsBelow size slots (part_all st ss).0
parts_below size slots [] st h = h
parts_below size slots (s ∷ ss) st h =
    parts_below size slots ss (set_guards (part st s).0 s 0) (kept_below size slots (part st s).0 s (record (model_slot (part st s).0 s) { guards = 0 }) refl (part_below size slots st s h))

resized_fits : {T R : Type 0} (size more : ℕ) (st : ModelState T R) → Fits size st → Fits (max more size) (record st { size = more })
resized_fits size more st h = (
  h.0,
  record { within = omega arith; many = refl; below = λ i. wide (length (model_slot st i).batch) (length st.slots) (h.1.below i) },
  more_fits (length st.rest) (frees st) (length st.slots) h.2,
)
  where
    wide : (a c : ℕ) → a < max (max 1 size) c → a < max (max 1 (max more size)) c
    wide a c h = grind arith

    more_fits : (r f c : ℕ) → r + f ≤ f * max (max 1 size) c → r + f ≤ f * max (max 1 (max more size)) c
    more_fits r f c h = let times = mul-le f (max (max 1 size) c) f (max (max 1 (max more size)) c) (omega arith) (omega arith) in omega (arith, h, times)

reached_fits : {T R : Type 0} (puts : R → T → List T) (weight : T → ℕ) (st : ModelState T R) (reached : Reached puts weight st) → Fits (largest_size reached) st
reached_fits {T} {R} puts weight _ (Reached.made size links) = (λ i. unmade_tidy, record { within = omega arith; many = refl; below = λ i. omega arith }, none_fits {T = T} {R = R} size (new size links) refl)
reached_fits puts weight _ (Reached.resized st size before) = resized_fits (largest_size before) size st (reached_fits puts weight st before)
reached_fits {T} {R} puts weight _ (Reached.called st call before) =
    step_keeps (λ (k : ModelState T R). Fits (largest_size before) k) puts weight (calls_fit puts weight (largest_size before)) st call (reached_fits puts weight st before)
reached_fits {T} {R} puts weight _ (Reached.swapped st s link value before) =
    swap_keeps (λ (k : ModelState T R). Fits (largest_size before) k) puts weight (calls_fit puts weight (largest_size before)) st s link value (reached_fits puts weight st before)
reached_fits {T} {R} puts weight _ (Reached.reclaimed st before) =
    let parted : ModelState T R = (part_all st (range_with_len 0 (length st.slots))).0 in
    let was : IsBelow (largest_size before) (length st.slots) parted = parts_below (largest_size before) (length st.slots) (range_with_len 0 (length st.slots)) st (reached_fits puts weight st before).1 in (
      (reached_clean puts weight _ (Reached.reclaimed st before)).0,
      record {
        within = was.within;
        many = refl;
        below = λ i. let is = ap (λ (x : ModelSlot T R). x.batch) (get_or-map (λ (slot : ModelSlot T R). unmade_slot) parted.slots i unmade_slot) in rw is (omega arith);
      },
      none_fits (largest_size before) (calls.reclaim_all puts weight st).0 refl,
    )

pub batch_bound : {T R : Type 0} (puts : R → T → List T) (weight : T → ℕ) → BoundLaw {T = T} {R = R} puts weight
batch_bound puts weight st reached =
    let h = reached_fits puts weight st reached in
    (h.1.below, rest_below (largest_size reached) st h.2)
