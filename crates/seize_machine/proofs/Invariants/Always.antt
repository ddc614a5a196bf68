-- What holds before and after every event of a list that began at an opening state.
use Rattle.std.proofs.Common.{◌≡◌, ℕ, zero, suc, ◌+◌, ◌≤◌, true, ◌==◌, List, [], ◌∷◌, length, replicate, Option, Some, refl, sym, ◌∙◌, ap, subst, arith, ◌⊎◌, inl, inr, nat_lt, get_or, ◌<◌, false, Bool}
use Rattle.std.specs.Prelude.{option_to_list}
use Rattle.std.specs.List.{sum_by}
use Rattle.std.proofs.lemmas.Int.{ints}
use Rattle.std.proofs.lemmas.List.{length-set, length_push, length-replicate, get_or-replicate, get_or_past}
use Rattle.std.proofs.lemmas.List.Sums.{sum_by-cons, get_or-le-sum_by}
use Rattle.seize_machine.specs.Machine.State.{no_slot, State, Slot, Head, Inactive, waiting_at, linked_values, are_distinct, opening}
use Rattle.seize_machine.specs.Machine.Event.{Event}
use Rattle.seize_machine.specs.Machine.History.{handed_value}
use Rattle.seize_machine.specs.declared.machine.event.Answer.{Answer}
use Rattle.seize_machine.proofs.Steps.Relation.{Step, some_is, is_true, lt_true}
use Rattle.seize_machine.proofs.Counting.Sums.{one, occ, occ-append, occ-push, distinct_once}
use Rattle.seize_machine.proofs.Invariants.Counts.{CountedIn, counted_step, of_calls, owns, wins, walks, in_range, free_step}
use Rattle.seize_machine.proofs.Invariants.Once.{Once, once_step, in_links, slot_has}
use Rattle.seize_machine.proofs.Invariants.Kept.{Sound, given}

-- what holds before and after every event
pub record Inv (st : State) : Type 0 where
  pub sound : Sound st
  pub once : (v : ℕ) → Once v st

lengths_step : (size : ℕ) (st : State) (event : Event) (d : State × Answer) → Step size st event d → length st.heads ≡ length st.slots → length (d.0).heads ≡ length (d.0).slots
lengths_step size st event _ (Step.added s a won queue d e k) h = subst (λ d. length (d.0).heads ≡ length (d.0).slots) (some_is _ _ k) (omega (arith, length-set {A = Slot}))
lengths_step size st event _ (Step.subtracted s a walk queue d e k) h = subst (λ d. length (d.0).heads ≡ length (d.0).slots) (some_is _ _ k) (omega (arith, length-set {A = Slot}))
lengths_step size st event _ _ h = omega (arith, length-set {A = Slot}, length-set {A = Head}, length_push {X = Slot}, length_push {X = Head})

pub inv_step : (size : ℕ) (st : State) (event : Event) (d : State × Answer) → Step size st event d → Inv st → Inv d.0
inv_step size st event d step i =
    record {
      sound = record { counts = λ b. counted_step b size st event d i.sound.free step (i.sound.counts b); lengths = lengths_step size st event d step i.sound.lengths; free = free_step size st event d step i.sound.free };
      once = λ v. once_step v size st event d i.sound.free step (i.once v);
    }

-- a value that is handed was given up before
pub handed_given : (v size : ℕ) (st : State) (event : Event) (d : State × Answer) → Step size st event d → handed_value d.1 ≡ Some v → 1 ≤ of_calls (given v) st.slots
handed_given v size st event _ (Step.handed s w puts given_on walk queue e new) h =
    let own : one (w == v) + occ v given_on ≤ of_calls (given v) st.slots = rw e at (get_or-le-sum_by (λ slot. given v slot.call) st.slots s no_slot (in_range st s _ e)) in
    let one_is : one (w == v) ≡ 1 = grind arith in
    omega arith
handed_given v size st event _ (Step.added s a won queue d e k) h = absurd (let n : Option.None ≡ Some v = ap (λ d. handed_value d.1) (some_is _ _ k) ∙ h in cc)
handed_given v size st event _ (Step.subtracted s a walk queue d e k) h = absurd (let n : Option.None ≡ Some v = ap (λ d. handed_value d.1) (some_is _ _ k) ∙ h in cc)
handed_given v size st event _ _ h = absurd (cc)

pub handed_gone : (v size : ℕ) (st : State) (event : Event) (d : State × Answer) → Step size st event d → handed_value d.1 ≡ Some v → occ v (d.0).gone ≡ occ v st.gone + 1
handed_gone v size st event _ (Step.handed s w puts given_on walk queue e new) h =
    let one_is : one (w == v) ≡ 1 = grind arith in
    omega (arith, occ-push v st.gone w)
handed_gone v size st event _ (Step.added s a won queue d e k) h = absurd (let n : Option.None ≡ Some v = ap (λ d. handed_value d.1) (some_is _ _ k) ∙ h in cc)
handed_gone v size st event _ (Step.subtracted s a walk queue d e k) h = absurd (let n : Option.None ≡ Some v = ap (λ d. handed_value d.1) (some_is _ _ k) ∙ h in cc)
handed_gone v size st event _ _ h = absurd (cc)

pub gone_grows : (v size : ℕ) (st : State) (event : Event) (d : State × Answer) → Step size st event d → occ v st.gone ≤ occ v (d.0).gone
gone_grows v size st event _ (Step.handed s w puts given_on walk queue e new) = omega (arith, occ-push v st.gone w)
gone_grows v size st event _ (Step.added s a won queue d e k) = subst (λ d. occ v st.gone ≤ occ v (d.0).gone) (some_is _ _ k) (omega arith)
gone_grows v size st event _ (Step.subtracted s a walk queue d e k) = subst (λ d. occ v st.gone ≤ occ v (d.0).gone) (some_is _ _ k) (omega arith)
gone_grows v size st event _ _ = omega arith

-- the opening
pub sum_replicate : {X : Type 0} (f : X → ℕ) (n : ℕ) (x : X) → f x ≡ 0 → sum_by f (replicate n x) ≡ 0
sum_replicate f zero x e = refl
sum_replicate f (suc n) x e = omega (arith, sum_by-cons f x (replicate n x), sum_replicate f n x e)

pub in_links_is : (v : ℕ) (links : List (Option ℕ)) → in_links v links ≡ occ v (linked_values links)
in_links_is v [] = refl
in_links_is v (link ∷ links) = omega (arith, sum_by-cons (λ link. occ v (option_to_list link)) link links, occ-append v (option_to_list link) (linked_values links), in_links_is v links)

pub opening_inv : (slots : ℕ) (links : List (Option ℕ)) → are_distinct (linked_values links) ≡ true → Inv (opening slots links)
opening_inv slots links distinct =
    record {
      sound = record { counts = λ b. counts b; lengths = length-replicate slots Inactive ∙ sym (length-replicate slots no_slot); free = λ s e. none s (is_true (nat_lt s slots)) };
      once = λ v. record { once = omega (arith, sum_replicate (slot_has v) slots no_slot refl, in_links_is v links, distinct_once v (linked_values links) distinct); all = omega (arith, sum_replicate (slot_has v) slots no_slot refl, in_links_is v links) };
    }
  where
    none : (s : ℕ) → (nat_lt s slots ≡ true) ⊎ (nat_lt s slots ≡ false) → get_or (replicate slots no_slot) s no_slot ≡ no_slot
    none s (inl h) = get_or-replicate slots s no_slot no_slot (lt_true _ _ h)
    none s (inr h) = let past : slots ≤ s = grind arith in get_or_past (replicate slots no_slot) s no_slot (omega (arith, length-replicate slots no_slot))

    counts : (b : ℕ) → CountedIn b (opening slots links)
    counts b =
        let x : _ ≡ _ = sum_replicate (λ slot. walks b slot.call) slots no_slot refl in
        let y : _ ≡ _ = sum_replicate (λ slot. owns b slot.call) slots no_slot refl in
        let z : _ ≡ _ = sum_replicate (λ slot. wins b slot.call) slots no_slot refl in
        let l : _ ≡ _ = sum_replicate (λ head. occ b (waiting_at head)) slots Inactive refl in
        record { balance = omega (arith, ints); alone = omega arith; few = omega arith; fresh = omega arith; held = λ h. absurd (omega arith) }
