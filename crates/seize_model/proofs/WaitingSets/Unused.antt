-- The last end, and where no number is in use.
use Rattle.std.proofs.Common.{◌≡◌, ℕ, zero, suc, Bool, true, false, not, ◌||◌, ◌==◌, List, [], ◌∷◌, length, get_or, set, refl, sym, ◌∙◌, ap, subst, ◌⊎◌, inl, inr, arith, append-nil}
use Rattle.std.specs.List.{list_any}
use Rattle.seize_machine.proofs.Facts.{is_true}
use Rattle.seize_model.specs.Waiting.State.{ModelSlot, ModelState, model_slot, unmade_slot, has_guard, waits_for, is_kept}
use Rattle.seize_model.specs.Waiting.Attempt.{StateAndGone, attempt, put, part}
use Rattle.seize_model.specs.Waiting.Further.{Lighter, gone_from}
use Rattle.seize_model.specs.Waiting.Calls.{is_free, others_in_use, rest_and_batch, gathers, set_guards, with_number_free, give_back}
use Rattle.seize_model.specs.Waiting.Laws.{LastEndLaw, UnusedLaw}
use Rattle.seize_model.specs.Waiting.Reached.{Reached}
use Rattle.seize_model.proofs.Cases.{if_yes}
use Rattle.seize_model.proofs.Counts.{any_counts, counts_none, same_at}
use Rattle.seize_model.proofs.WaitingSets.Drain.{weighs}
use Rattle.seize_model.proofs.WaitingSets.Beside.{ignores_rest, attempt_beside, put_beside, part_beside}
use Rattle.seize_model.proofs.WaitingSets.Taken.{taken_none}
use Rattle.seize_model.proofs.WaitingSets.Refusals.{IsUsed, IsIdle}
use Rattle.seize_model.proofs.WaitingSets.Invariants.{Invariant, ignores_kind, step_keeps, swap_keeps}
use Rattle.seize_model.proofs.WaitingSets.Tidy.{AreTidy, unmade_tidy, tidy_put, tidy_calls}
use Rattle.seize_model.proofs.WaitingSets.GoneBatches.{Clean, reached_clean}
use Rattle.seize_model.proofs.WaitingSets.LastEnd.{IsLone, lone_of, gone_all, lone_gathers}

tidy_lone : {T R : Type 0} (st : ModelState T R) (s : ℕ) → AreTidy st → IsIdle st s → others_in_use st s ≡ false → IsLone T R s st
tidy_lone {T} {R} st s tidy idle none = lone_of st s idle none (λ i e. ap (λ (x : ModelSlot T R). has_guard x) ((tidy i).free e)) (λ i. (tidy i).inactive)

pub last_end : {T R : Type 0} (puts : R → T → List T) (weight : T → ℕ) → Lighter puts weight → LastEndLaw {T = T} {R = R} puts weight
last_end puts weight lighter st s reached used off none =
    let all : List _ = rest_and_batch st s in
    (lone_gathers puts weight lighter (weighs weight (rest_and_batch st s)) st s (tidy_lone st s (reached_clean puts weight st reached).0 (used, off) none) (omega arith)).1
    ∙ ap (gone_from puts weight) (sym (append-nil all)) ∙ gone_all puts weight lighter all []

-- While something is left, some number is in use.

abbrev Lasts : {T R : Type 0} → ModelState T R → Type 0
Lasts st = (st.rest ≡ []) ⊎ ((s : ℕ) × IsUsed st s)

some_any : {X : Type 0} (p : X → Bool) (xs : List X) (d : X) → list_any p xs ≡ true → (i : ℕ) × (p (get_or xs i d) ≡ true)
some_any p [] d e = absurd (cc)
some_any p (x ∷ xs) d e = go (p x) refl e (λ more. some_any p xs d more)
  where
    go : (t : Bool) → p x ≡ t → (t || list_any p xs) ≡ true → (list_any p xs ≡ true → (i : ℕ) × (p (get_or xs i d) ≡ true)) → (i : ℕ) × (p (get_or (x ∷ xs) i d) ≡ true)
    go true own e rest = (zero, own)
    go false own e rest = let found : (i : ℕ) × (p (get_or xs i d) ≡ true) = rest e in (suc found.0, found.1)

-- the number is given back while another one is in use, or with nothing left
given_lasts : {T R : Type 0} (puts : R → T → List T) (weight : T → ℕ) → Lighter puts weight → (st : ModelState T R) (s : ℕ) → AreTidy st → IsIdle st s → Lasts (give_back puts weight st s).0
given_lasts {T} {R} puts weight lighter st s tidy idle = elim (is_true (others_in_use st s)) [
  | inl some ↦
      let other : (i : ℕ) × (not (is_free (get_or (set st.slots s unmade_slot) i unmade_slot).kind) ≡ true) = some_any (λ slot. not (is_free slot.kind)) (set st.slots s unmade_slot) unmade_slot some in
      subst (λ (k : ModelState T R). Lasts (with_number_free k s)) (stays (weighs weight (rest_and_batch st s)) some) (inr (other.0, used (is_free (get_or (set st.slots s unmade_slot) other.0 unmade_slot).kind) other.1))
  | inr none ↦ inl (lone_gathers puts weight lighter (weighs weight (rest_and_batch st s)) st s (tidy_lone st s tidy idle none) (omega arith)).0
]
  where
    used : (b : Bool) → not b ≡ true → b ≡ false
    used true e = absurd (cc)
    used false e = refl

    stays : (n : ℕ) → others_in_use st s ≡ true → st ≡ (gathers puts weight n st s).0
    stays zero some = refl
    stays (suc n) some = sym (ap (λ (o : StateAndGone T R). o.0) (if_yes _ _ _ (ap (λ (t : Bool). t || (length (rest_and_batch st s) == 0)) some)))

calls_last : {T R : Type 0} (puts : R → T → List T) (weight : T → ℕ) → Lighter puts weight → Invariant puts weight (λ (st : ModelState T R). AreTidy st × Lasts st)
calls_last {T} {R} puts weight lighter = record {
  owned = λ st s h. (h.0 s).owned;
  taking = λ st kind used h. (tidy.taking st kind used h.0, inl (taken_none st kind));
  ending = λ st s idle h. (tidy.ending st s idle h.0, given_lasts puts weight lighter st s h.0 idle);
  guarding = λ st s n used some owned h. (tidy.guarding st s n used some owned h.0, guarded st s n h.1);
  leaving = λ st s used h. (tidy.leaving st s used h.0, parted (set_guards st s 0) s (guarded st s 0 h.1));
  parting = λ st s used h. (tidy.parting st s used h.0, parted st s h.1);
  attempt_by = λ st s used h. (tidy.attempt_by st s used h.0, lasts_same st (attempt st s).0 (attempt_beside (λ (k : ModelState T R). k.rest) ignores_rest st s) (λ i. attempt_beside (λ (k : ModelState T R). is_free (model_slot k i).kind) (ignores_kind i) st s) h.1);
  retirement = λ st s v used h. (tidy_put st s v used h.0, lasts_same st (put st s v).0 (put_beside (λ (k : ModelState T R). k.rest) ignores_rest st s v) (λ i. put_beside (λ (k : ModelState T R). is_free (model_slot k i).kind) (ignores_kind i) st s v) h.1);
  link_change = λ st link new h. h;
}
  where
    tidy : Invariant puts weight (λ (st : ModelState T R). AreTidy st)
    tidy = tidy_calls puts weight

    lasts_same : (st now : ModelState T R) → now.rest ≡ st.rest → ((i : ℕ) → is_free (model_slot now i).kind ≡ is_free (model_slot st i).kind) → Lasts st → Lasts now
    lasts_same st now rest kinds (inl none) = inl (rest ∙ none)
    lasts_same st now rest kinds (inr used) = inr (used.0, kinds used.0 ∙ used.1)

    guarded : (st : ModelState T R) (s n : ℕ) → Lasts st → Lasts (set_guards st s n)
    guarded st s n = lasts_same st (set_guards st s n) refl (same_at (λ (x : ModelSlot T R). is_free x.kind) st.slots s (record (model_slot st s) { guards = n }) unmade_slot refl)

    parted : (st : ModelState T R) (s : ℕ) → Lasts st → Lasts (part st s).0
    parted st s = lasts_same st (part st s).0 (part_beside (λ (k : ModelState T R). k.rest) ignores_rest st s) (λ i. part_beside (λ (k : ModelState T R). is_free (model_slot k i).kind) (ignores_kind i) st s)

reached_lasts : {T R : Type 0} (puts : R → T → List T) (weight : T → ℕ) → Lighter puts weight → (st : ModelState T R) → Reached puts weight st → AreTidy st × Lasts st
reached_lasts puts weight lighter _ (Reached.made size links) = (λ i. unmade_tidy, inl refl)
reached_lasts puts weight lighter _ (Reached.resized st size before) = reached_lasts puts weight lighter st before
reached_lasts {T} {R} puts weight lighter _ (Reached.called st call before) =
    step_keeps (λ (k : ModelState T R). AreTidy k × Lasts k) puts weight (calls_last puts weight lighter) st call (reached_lasts puts weight lighter st before)
reached_lasts {T} {R} puts weight lighter _ (Reached.swapped st s link value before) =
    swap_keeps (λ (k : ModelState T R). AreTidy k × Lasts k) puts weight (calls_last puts weight lighter) st s link value (reached_lasts puts weight lighter st before)
reached_lasts puts weight lighter _ (Reached.reclaimed st before) = ((reached_clean puts weight _ (Reached.reclaimed st before)).0, inl refl)

pub none_in_use : {T R : Type 0} (puts : R → T → List T) (weight : T → ℕ) → Lighter puts weight → UnusedLaw {T = T} {R = R} puts weight
none_in_use {T} {R} puts weight lighter st reached free = (rest (reached_lasts puts weight lighter st reached).1, λ s. ap (λ (x : ModelSlot T R). x.batch) (unmade s), λ b. clean.1 b (none_kept b))
  where
    clean : Clean st
    clean = reached_clean puts weight st reached

    unmade : (s : ℕ) → model_slot st s ≡ unmade_slot
    unmade s = (clean.0 s).free (free s)

    rest : Lasts st → st.rest ≡ []
    rest (inl none) = none
    rest (inr used) = absurd (let c : true ≡ false = sym (free used.0) ∙ used.1 in cc)

    none_kept : (b : ℕ) → is_kept st b ≡ false
    none_kept b = any_counts (waits_for b) st.slots ∙ ap (λ (n : ℕ). not (n == 0)) (counts_none (waits_for b) st.slots unmade_slot (λ i. ap (waits_for b) (unmade i)))
