-- In a reached state a slot whose number is free is as one that was never made, no batch waits for a slot without a guard, and an owned
-- one has one guard at most.
use Rattle.std.proofs.Common.{◌≡◌, ℕ, ◌≤◌, Bool, true, false, not, ◌==◌, List, [], ◌∷◌, ◌++◌, length, get_or, set, refl, sym, ◌∙◌, ap, subst, arith}
use Rattle.std.proofs.lemmas.List.{get_or-set_same}
use Rattle.std.proofs.Math.ListN.{get_or-map}
use Rattle.seize_model.specs.declared.kind.Kind.{Kind}
use Rattle.seize_model.specs.Waiting.State.{ModelSlot, ModelState, model_slot, set_slot, unmade_slot, has_guard}
use Rattle.seize_model.specs.Waiting.Attempt.{StateAndGone, wait_if_active, with_batch_retired, gives_up, attempt, is_full, attempt_if_full, with_batch_value, put, part}
use Rattle.seize_model.specs.Waiting.Calls.{is_free, is_owned, least_unused, with_number_in_use, set_guards, rest_and_batch, with_rest_gathered}
use Rattle.seize_model.proofs.Cases.{either}
use Rattle.seize_model.proofs.Counts.{at_set, at_last, same_at, set_twice}
use Rattle.seize_model.proofs.WaitingSets.Orders.{by_active}
use Rattle.seize_model.proofs.WaitingSets.Beside.{release_beside, releases_beside}
use Rattle.seize_model.proofs.WaitingSets.Taken.{with_room, taken_slot, taken_is, slot_taken}
use Rattle.seize_model.proofs.WaitingSets.Refusals.{IsUsed, in_use}
use Rattle.seize_model.proofs.WaitingSets.Invariants.{Invariant, gives_keep}

pub record IsTidy {T R : Type 0} (slot : ModelSlot T R) : Type 0 where
  pub free : is_free slot.kind ≡ true → slot ≡ unmade_slot
  pub inactive : has_guard slot ≡ false → slot.order ≡ []
  pub owned : is_owned slot.kind ≡ true → slot.guards ≤ 1

abbrev pub AreTidy : {T R : Type 0} → ModelState T R → Type 0
AreTidy st = (i : ℕ) → IsTidy (model_slot st i)

pub unmade_tidy : {T R : Type 0} → IsTidy (unmade_slot {T = T} {R = R})
unmade_tidy = record { free = λ e. refl; inactive = λ e. refl; owned = λ e. omega arith }

used_tidy : {T R : Type 0} (slot : ModelSlot T R) → is_free slot.kind ≡ false → (has_guard slot ≡ false → slot.order ≡ []) → (is_owned slot.kind ≡ true → slot.guards ≤ 1) → IsTidy slot
used_tidy slot used inactive owned = record { free = λ e. absurd (let c : true ≡ false = sym e ∙ used in cc); inactive = inactive; owned = owned }

pub tidy_set : {T R : Type 0} (st : ModelState T R) (s : ℕ) (slot : ModelSlot T R) → AreTidy st → IsTidy slot → AreTidy (set_slot st s slot)
tidy_set {T} {R} st s slot tidy own i = at_set (λ (x : ModelSlot T R). IsTidy x) st.slots s slot i unmade_slot own (tidy i)

-- with another batch of a slot in use
tidy_batch : {T R : Type 0} (st : ModelState T R) (s : ℕ) (values : List (T × R)) → IsUsed st s → AreTidy st → AreTidy (set_slot st s (record (model_slot st s) { batch = values }))
tidy_batch st s values used tidy = tidy_set st s _ tidy (used_tidy _ used (tidy s).inactive (tidy s).owned)

tidy_waits : {T R : Type 0} (b : ℕ) (slot : ModelSlot T R) → IsTidy slot → IsTidy (wait_if_active b slot)
tidy_waits {T} {R} b slot tidy =
    by_active (λ x t. IsTidy x) b slot (λ on. record {
      free = λ e. absurd (let c : false ≡ true = sym (ap (λ (x : ModelSlot T R). has_guard x) (tidy.free e)) ∙ on in cc);
      inactive = λ off. absurd (let c : true ≡ false = sym on ∙ off in cc);
      owned = tidy.owned;
    }) (λ off. tidy)

tidy_attempt : {T R : Type 0} (st : ModelState T R) (s : ℕ) → IsUsed st s → AreTidy st → AreTidy (attempt st s).0
tidy_attempt {T} {R} st s used tidy =
    let emptied : ModelState T R = set_slot st s (record (model_slot st s) { batch = [] }) in
    let waiting : AreTidy (with_batch_retired st s)
    = λ i. subst (λ (x : ModelSlot T R). IsTidy x) (sym (get_or-map (wait_if_active (length st.retired)) emptied.slots i unmade_slot)) (tidy_waits (length st.retired) (model_slot emptied i) (tidy_batch st s [] used tidy i)) in
    either (λ (o : StateAndGone T R). AreTidy o.0) (gives_up st s) _ _ tidy
    (λ i. subst (λ (l : List (ModelSlot T R)). IsTidy (get_or l i unmade_slot)) (sym (release_beside (λ (k : ModelState T R). k.slots) (λ k retired. refl) (with_batch_retired st s) (length st.retired))) (waiting i))

tidy_full : {T R : Type 0} (st : ModelState T R) (s : ℕ) → IsUsed st s → AreTidy st → AreTidy (attempt_if_full st s).0
tidy_full {T} {R} st s used tidy = either (λ (o : StateAndGone T R). AreTidy o.0) (is_full st.size (model_slot st s).batch) _ _ (tidy_attempt st s used tidy) tidy

still_used : {T R : Type 0} (st : ModelState T R) (s : ℕ) (values : List (T × R)) → IsUsed st s → IsUsed (set_slot st s (record (model_slot st s) { batch = values })) s
still_used {T} {R} st s values used = same_at (λ (x : ModelSlot T R). is_free x.kind) st.slots s (record (model_slot st s) { batch = values }) unmade_slot refl s ∙ used

pub tidy_put : {T R : Type 0} (st : ModelState T R) (s : ℕ) (v : T × R) → IsUsed st s → AreTidy st → AreTidy (put st s v).0
tidy_put {T} {R} st s v used tidy =
    let batch : List (T × R) = (model_slot st s).batch ++ v ∷ [] in
    tidy_full (with_batch_value st s v) s (still_used st s batch used) (tidy_batch st s batch used tidy)

-- where no batch waits for s any more
tidy_part : {T R : Type 0} (st : ModelState T R) (s : ℕ) (slots : List (ModelSlot T R)) → (set_slot st s (record (model_slot st s) { order = [] })).slots ≡ slots → ((i : ℕ) → IsTidy (get_or slots i unmade_slot)) → AreTidy (part st s).0
tidy_part {T} {R} st s slots same tidy i =
    subst (λ (l : List (ModelSlot T R)). IsTidy (get_or l i unmade_slot))
    (sym (releases_beside (λ (k : ModelState T R). k.slots) (λ k retired. refl) (set_slot st s (record (model_slot st s) { order = [] })) (model_slot st s).order ∙ same)) (tidy i)

pub room_tidy : {T R : Type 0} (st : ModelState T R) (t : Bool) → AreTidy st → AreTidy (with_room t st)
room_tidy {T} {R} st true tidy i = at_last (λ (x : ModelSlot T R). IsTidy x) st.slots unmade_slot i unmade_slot unmade_tidy unmade_tidy (tidy i)
room_tidy st false tidy i = tidy i

-- where s gathers what was left
pub tidy_gathered : {T R : Type 0} (st : ModelState T R) (s : ℕ) → IsUsed st s → AreTidy st → AreTidy (attempt (with_rest_gathered st s) s).0
tidy_gathered st s used tidy = tidy_attempt (with_rest_gathered st s) s (still_used st s (rest_and_batch st s) used) (tidy_batch st s (rest_and_batch st s) used tidy)

pub tidy_calls : {T R : Type 0} (puts : R → T → List T) (weight : T → ℕ) → Invariant puts weight (λ (st : ModelState T R). AreTidy st)
tidy_calls {T} {R} puts weight = record {
  owned = λ st s tidy. (tidy s).owned;
  taking = taking;
  ending = gives_keep (λ (st : ModelState T R). AreTidy st) puts weight tidy_put
      (λ st s idle tidy. tidy_gathered st s idle.0 tidy)
      (λ st s idle tidy. tidy_set st s unmade_slot tidy unmade_tidy);
  guarding = λ st s n used some owned tidy. tidy_set st s _ tidy (used_tidy _ used (λ off. absurd (let c : true ≡ false = sym (guarded n some) ∙ off in cc)) owned);
  leaving = leaving;
  parting = λ st s used tidy. tidy_part st s _ refl (tidy_set st s _ tidy (used_tidy _ used (λ off. refl) (tidy s).owned));
  attempt_by = tidy_attempt;
  retirement = tidy_put;
  link_change = λ st link new tidy. tidy;
}
  where
    guarded : (n : ℕ) → 1 ≤ n → not (n == 0) ≡ true
    guarded n h = grind arith

    taking : (st : ModelState T R) (kind : Kind) → is_free kind ≡ false → AreTidy st → AreTidy (attempt_if_full (with_number_in_use st (least_unused st.slots) kind) (least_unused st.slots)).0
    taking st kind used tidy =
        let n : ℕ = least_unused st.slots in
        let t : Bool = least_unused st.slots == length st.slots in
        let taken : AreTidy (with_number_in_use st n kind)
        = subst (λ (k : ModelState T R). AreTidy k) (taken_is st kind t refl) (tidy_set (with_room t st) n (taken_slot st kind) (room_tidy st t tidy) (used_tidy (taken_slot st kind) used (λ off. refl) (λ e. omega arith))) in
        tidy_full (with_number_in_use st n kind) n (ap (λ (x : ModelSlot T R). is_free x.kind) (slot_taken st kind) ∙ used) taken

    leaving : (st : ModelState T R) (s : ℕ) → IsUsed st s → AreTidy st → AreTidy (part (set_guards st s 0) s).0
    leaving st s used tidy =
        let own : model_slot (set_guards st s 0) s ≡ record (model_slot st s) { guards = 0 } = get_or-set_same st.slots s (record (model_slot st s) { guards = 0 }) unmade_slot (in_use st s used) in
        let new : ModelSlot T R = record (model_slot st s) { guards = 0; order = [] } in
        tidy_part (set_guards st s 0) s (set st.slots s new)
        (ap (λ (x : ModelSlot T R). set (set st.slots s (record (model_slot st s) { guards = 0 })) s (record x { order = [] })) own ∙ set_twice st.slots s (record (model_slot st s) { guards = 0 }) new)
        (tidy_set st s new tidy (used_tidy new used (λ off. refl) (λ e. omega arith)))
