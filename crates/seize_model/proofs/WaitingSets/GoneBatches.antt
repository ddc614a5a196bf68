-- In a reached state a retired batch that waits for no slot has no values left.
use Rattle.std.proofs.Common.{◌≡◌, ◌≢◌, ℕ, zero, suc, Bool, true, false, not, ◌||◌, ◌==◌, if◌then◌else◌, List, [], ◌∷◌, ◌++◌, length, map, get_or, set, refl, sym, ◌∙◌, ap, subst, ◌⊎◌, inl, inr, arith}
use Rattle.std.specs.List.{list_any, range_with_len}
use Rattle.std.proofs.lemmas.List.{get_or-set_other}
use Rattle.std.proofs.Math.ListN.{get_or-map}
use Rattle.seize_machine.specs.Machine.State.{has}
use Rattle.seize_model.specs.declared.kind.Kind.{Kind}
use Rattle.seize_model.specs.Waiting.State.{ModelSlot, ModelState, model_slot, set_slot, unmade_slot, is_kept, waits_for, retired_at}
use Rattle.seize_model.specs.Waiting.Attempt.{StateAndGone, release_all, attempt, gives_up, wait_if_active, with_batch_retired, is_full, attempt_if_full, put, with_batch_value, part}
use Rattle.seize_model.specs.Waiting.Calls.{least_unused, with_number_in_use, set_guards, with_rest_gathered, part_all}
use Rattle.seize_model.specs.Waiting.Reached.{Reached, GoneLaw}
use Rattle.seize_machine.proofs.Facts.{is_true}
use Rattle.seize_model.proofs.Cases.{either, or_same}
use Rattle.seize_model.proofs.Counts.{count_same, any_counts, beside}
use Rattle.seize_model.proofs.WaitingSets.Taken.{with_room, free_room, taken_slot, taken_is}
use Rattle.seize_model.proofs.WaitingSets.Refusals.{IsUsed}
use Rattle.seize_model.proofs.WaitingSets.Invariants.{Invariant, gives_keep, step_keeps, swap_keeps}
use Rattle.seize_model.proofs.WaitingSets.Tidy.{IsTidy, AreTidy, unmade_tidy, tidy_set, tidy_put, tidy_gathered, room_tidy, tidy_calls}
use Rattle.seize_model.proofs.WaitingSets.Orders.{old_count}

abbrev pub IsClean : {T R : Type 0} → ModelState T R → Type 0
IsClean st = (b : ℕ) → is_kept st b ≡ false → retired_at st b ≡ []

-- a change of one slot that leaves what waits for it
any_same : {X : Type 0} (p : X → Bool) (xs : List X) (i : ℕ) (y d : X) → p y ≡ p (get_or xs i d) → list_any p (set xs i y) ≡ list_any p xs
any_same p xs i y d e = any_counts p (set xs i y) ∙ ap (λ (n : ℕ). not (n == 0)) (count_same p xs i y d e) ∙ sym (any_counts p xs)

clean_set : {T R : Type 0} (st : ModelState T R) (s : ℕ) (slot : ModelSlot T R) → slot.order ≡ (model_slot st s).order → IsClean st → IsClean (set_slot st s slot)
clean_set st s slot order clean b e =
    clean b (sym (any_same (waits_for b) st.slots s slot unmade_slot (ap (λ (l : List ℕ). list_any (λ x. x == b) l) order)) ∙ e)

-- Releases.

emptied_at : {X : Type 0} (xs : List (List X)) (b : ℕ) → get_or (set xs b []) b [] ≡ []
emptied_at [] b = refl
emptied_at (x ∷ xs) zero = refl
emptied_at (x ∷ xs) (suc b) = emptied_at xs b

releases_clean : {T R : Type 0} (bs : List ℕ) (st : ModelState T R) → ((b : ℕ) → is_kept st b ≡ false → (has b bs ≡ true) ⊎ (retired_at st b ≡ [])) → IsClean (release_all st bs).0
releases_clean [] st h = λ b e. elim (h b e) [ inl t ↦ absurd (cc) | inr none ↦ none ]
releases_clean {T} {R} (c ∷ cs) st h = go (is_kept st c) refl (releases_clean cs st) (releases_clean cs (record st { retired = set st.retired c [] }))
  where
    later : (b : ℕ) → b ≢ c → has b (c ∷ cs) ≡ true → has b cs ≡ true
    later b other t = let no : (c == b) ≡ false = grind arith in sym (ap (λ (u : Bool). u || has b cs) no) ∙ t

    go : (t : Bool) → is_kept st c ≡ t
        → (((b : ℕ) → is_kept st b ≡ false → (has b cs ≡ true) ⊎ (retired_at st b ≡ [])) → IsClean (release_all st cs).0)
        → (((b : ℕ) → is_kept st b ≡ false → (has b cs ≡ true) ⊎ (get_or (set st.retired c []) b [] ≡ [])) → IsClean (release_all (record st { retired = set st.retired c [] }) cs).0)
        → (let o : StateAndGone T R = if t then (st, []) else (record st { retired = set st.retired c [] }, retired_at st c) in IsClean (release_all o.0 cs).0)
    go true kept same_state emptied = same_state (λ b e. on b e (or_same b c) (h b e))
      where
        on : (b : ℕ) → is_kept st b ≡ false → (b ≡ c) ⊎ (b ≢ c) → (has b (c ∷ cs) ≡ true) ⊎ (retired_at st b ≡ []) → (has b cs ≡ true) ⊎ (retired_at st b ≡ [])
        on b e same (inr none) = inr none
        on b e (inl same) (inl t) = absurd (let k : true ≡ false = sym kept ∙ ap (is_kept st) (sym same) ∙ e in cc)
        on b e (inr other) (inl t) = inl (later b other t)
    go false kept same_state emptied = emptied (λ b e. on b (or_same b c) (h b e))
      where
        on : (b : ℕ) → (b ≡ c) ⊎ (b ≢ c) → (has b (c ∷ cs) ≡ true) ⊎ (retired_at st b ≡ []) → (has b cs ≡ true) ⊎ (get_or (set st.retired c []) b [] ≡ [])
        on b (inl same) m = inr (ap (λ k. get_or (set st.retired c []) k []) same ∙ emptied_at st.retired c)
        on b (inr other) (inl t) = inl (later b other t)
        on b (inr other) (inr none) = inr (get_or-set_other st.retired c b [] [] other ∙ none)

part_clean : {T R : Type 0} (st : ModelState T R) (s : ℕ) → IsClean st → IsClean (part st s).0
part_clean {T} {R} st s clean =
    releases_clean (model_slot st s).order (set_slot st s (record (model_slot st s) { order = [] })) (λ b e. on b e (is_true (has b (model_slot st s).order)))
  where
    on : (b : ℕ) → is_kept (set_slot st s (record (model_slot st s) { order = [] })) b ≡ false → (has b (model_slot st s).order ≡ true) ⊎ (has b (model_slot st s).order ≡ false)
        → (has b (model_slot st s).order ≡ true) ⊎ (retired_at st b ≡ [])
    on b e (inl t) = inl t
    on b e (inr f) = inr (clean b (sym (any_same (waits_for b) st.slots s (record (model_slot st s) { order = [] }) unmade_slot (sym f)) ∙ e))

-- Attempts.

attempt_clean : {T R : Type 0} (st : ModelState T R) (s : ℕ) → IsClean st → IsClean (attempt st s).0
attempt_clean {T} {R} st s clean =
    either (λ (o : StateAndGone T R). IsClean o.0) (gives_up st s) _ _ clean
    (releases_clean (length st.retired ∷ []) (with_batch_retired st s) (λ b e. on b e (or_same b (length st.retired))))
  where
    emptied : ModelState T R
    emptied = set_slot st s (record (model_slot st s) { batch = [] })

    on : (b : ℕ) → is_kept (with_batch_retired st s) b ≡ false → (b ≡ length st.retired) ⊎ (b ≢ length st.retired) → (has b (length st.retired ∷ []) ≡ true) ⊎ (retired_at (with_batch_retired st s) b ≡ [])
    on b e (inl same) = inl (let own : (length st.retired == b) ≡ true = grind arith in ap (λ (t : Bool). t || false) own)
    on b e (inr other) =
        let slots : List (ModelSlot T R) = (set_slot st s (record (model_slot st s) { batch = [] })).slots in
        let before : is_kept (set_slot st s (record (model_slot st s) { batch = [] })) b ≡ false
        = any_counts (waits_for b) slots ∙ ap (λ (n : ℕ). not (n == 0)) (sym (old_count (length st.retired) b slots other)) ∙ sym (any_counts (waits_for b) (map (wait_if_active (length st.retired)) slots)) ∙ e in
        inr (beside st.retired (model_slot st s).batch [] b other ∙ clean_set st s (record (model_slot st s) { batch = [] }) refl clean b before)

full_clean : {T R : Type 0} (st : ModelState T R) (s : ℕ) → IsClean st → IsClean (attempt_if_full st s).0
full_clean {T} {R} st s clean = either (λ (o : StateAndGone T R). IsClean o.0) (is_full st.size (model_slot st s).batch) _ _ (attempt_clean st s clean) clean

put_clean : {T R : Type 0} (st : ModelState T R) (s : ℕ) (v : T × R) → IsClean st → IsClean (put st s v).0
put_clean st s v clean = full_clean (with_batch_value st s v) s (clean_set st s (record (model_slot st s) { batch = (model_slot st s).batch ++ v ∷ [] }) refl clean)

-- Calls.

any_push : {X : Type 0} (p : X → Bool) (xs : List X) (y : X) → p y ≡ false → list_any p (xs ++ y ∷ []) ≡ list_any p xs
any_push p [] y e = ap (λ (t : Bool). t || false) e
any_push p (x ∷ xs) y e = ap (λ (t : Bool). p x || t) (any_push p xs y e)

abbrev pub Clean : {T R : Type 0} → ModelState T R → Type 0
Clean st = AreTidy st × IsClean st

calls_clean : {T R : Type 0} (puts : R → T → List T) (weight : T → ℕ) → Invariant puts weight (λ (st : ModelState T R). Clean st)
calls_clean {T} {R} puts weight = record {
  owned = λ st s h. (h.0 s).owned;
  taking = λ st kind used h. (tidy.taking st kind used h.0, full_clean (with_number_in_use st (least_unused st.slots) kind) (least_unused st.slots) (taking st kind (least_unused st.slots == length st.slots) refl h.0 h.1));
  ending = gives_keep (λ (st : ModelState T R). Clean st) puts weight retirement
      (λ st s idle h. (tidy_gathered st s idle.0 h.0, attempt_clean (with_rest_gathered st s) s (clean_set st s _ refl h.1)))
      (λ st s idle h. (tidy_set st s unmade_slot h.0 unmade_tidy, clean_set st s unmade_slot (sym ((h.0 s).inactive idle.1)) h.1));
  guarding = λ st s n used some owned h. (tidy.guarding st s n used some owned h.0, clean_set st s (record (model_slot st s) { guards = n }) refl h.1);
  leaving = λ st s used h. (tidy.leaving st s used h.0, part_clean (set_guards st s 0) s (clean_set st s (record (model_slot st s) { guards = 0 }) refl h.1));
  parting = λ st s used h. (tidy.parting st s used h.0, part_clean st s h.1);
  attempt_by = λ st s used h. (tidy.attempt_by st s used h.0, attempt_clean st s h.1);
  retirement = retirement;
  link_change = λ st link new h. h;
}
  where
    tidy : Invariant puts weight (λ (st : ModelState T R). AreTidy st)
    tidy = tidy_calls puts weight

    retirement : (st : ModelState T R) (s : ℕ) (v : T × R) → IsUsed st s → Clean st → Clean (put st s v).0
    retirement st s v used h = (tidy_put st s v used h.0, put_clean st s v h.1)

    room_clean : (st : ModelState T R) (t : Bool) → IsClean st → IsClean (with_room t st)
    room_clean st true clean b e = clean b (sym (any_push (waits_for b) st.slots unmade_slot refl) ∙ e)
    room_clean st false clean b e = clean b e

    taking : (st : ModelState T R) (kind : Kind) (t : Bool) → (least_unused st.slots == length st.slots) ≡ t → AreTidy st → IsClean st → IsClean (with_number_in_use st (least_unused st.slots) kind)
    taking st kind t t_is all clean =
        let free : model_slot (with_room t st) (least_unused st.slots) ≡ unmade_slot = (room_tidy st t all (least_unused st.slots)).free (free_room st t t_is).1 in
        subst (λ (k : ModelState T R). IsClean k) (taken_is st kind t t_is)
        (clean_set (with_room t st) (least_unused st.slots) (taken_slot st kind) (sym (ap (λ (x : ModelSlot T R). x.order) free)) (room_clean st t clean))

-- both hold in each reached state
pub reached_clean : {T R : Type 0} (puts : R → T → List T) (weight : T → ℕ) (st : ModelState T R) → Reached puts weight st → Clean st
reached_clean puts weight _ (Reached.made size links) = (λ i. unmade_tidy, λ b e. refl)
reached_clean puts weight _ (Reached.resized st size before) = reached_clean puts weight st before
reached_clean {T} {R} puts weight _ (Reached.called st call before) =
    step_keeps (λ (k : ModelState T R). Clean k) puts weight (calls_clean puts weight) st call (reached_clean puts weight st before)
reached_clean {T} {R} puts weight _ (Reached.swapped st s link value before) =
    swap_keeps (λ (k : ModelState T R). Clean k) puts weight (calls_clean puts weight) st s link value (reached_clean puts weight st before)
reached_clean {T} {R} puts weight _ (Reached.reclaimed st before) =
    let parted : List (ModelSlot T R) = (part_all st (range_with_len 0 (length st.slots))).0.slots in
    (λ i. subst (λ (x : ModelSlot T R). IsTidy x) (sym (get_or-map (λ (slot : ModelSlot T R). unmade_slot) parted i unmade_slot)) unmade_tidy, λ b e. refl)

pub none_left : {T R : Type 0} (puts : R → T → List T) (weight : T → ℕ) → GoneLaw puts weight
none_left puts weight st reached = (reached_clean puts weight st reached).1
