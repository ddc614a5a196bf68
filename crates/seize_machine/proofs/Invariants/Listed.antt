-- What waits for slots, where no call is under way: a head lists a batch at most once, and the count of a batch is how many heads list it. And
-- a value that waits in a slot's batch or in the rest, or is in a retired batch, is neither out of a link nor in one.
--     IsSettled v st     so it is with the value, which was named
use Rattle.std.proofs.Common.{◌≡◌, ◌≢◌, ℕ, zero, suc, ◌+◌, ◌≤◌, pos, Bool, true, false, ◌==◌, if◌then◌else◌, nat_lt, List, [], ◌∷◌, get_or, replicate, Option, Some, None, refl, sym, ◌∙◌, ap, subst, ◌⊎◌, inl, inr, arith}
use Rattle.std.specs.Prelude.{option_to_list}
use Rattle.std.specs.List.{Contains, sum_by}
use Rattle.std.proofs.lemmas.Int.{ints}
use Rattle.seize_machine.specs.Machine.State.{no_slot, no_batch, State, Slot, Batch, Head, Inactive, Active, slot_at, head_at, batch_at, link_at, waiting_at, has, linked_values, are_distinct, opening}
use Rattle.seize_machine.specs.Machine.Event.{Event}
use Rattle.seize_machine.specs.Machine.History.{IsReached}
use Rattle.seize_machine.specs.declared.machine.event.Answer.{Answer}
use Rattle.seize_machine.proofs.Steps.Relation.{Step, is_true, lt_true, eq_true, some_is}
use Rattle.seize_machine.proofs.Counting.Sums.{one, occ, has_some}
use Rattle.seize_machine.proofs.Counting.Occurrences.{all_zero, contains_some, distinct_if, some_contained}
use Rattle.seize_machine.proofs.Invariants.Counts.{of_calls, walks, wins}
use Rattle.seize_machine.proofs.Invariants.Kept.{at_set, pushed}
use Rattle.seize_machine.proofs.Invariants.Live.{has_if}
use Rattle.seize_machine.proofs.Invariants.Once.{in_batches, in_links, in_slots, slot_has}
use Rattle.seize_machine.proofs.Invariants.Reached.{reached_inv}
use Rattle.seize_machine.proofs.Invariants.States.{reached_holds}
use Rattle.seize_machine.proofs.Invariants.Tried.{part-le-sum, tried_unheld}

-- A head lists a batch at most once.

abbrev ListsOnce : ℕ → ℕ → State → Type 0
ListsOnce b m st = occ b (waiting_at (head_at st m)) ≤ 1

once_step : (b m size : ℕ) (st : State) (event : Event) (d : State × Answer) → IsReached st → Step size st event d → ListsOnce b m st → ListsOnce b m d.0
once_step b m size st event _ r (Step.took_new s e least) c = pushed (λ (head : Head). occ b (waiting_at head) ≤ 1) st.heads m Inactive Inactive (λ same. omega arith) c
once_step b m size st event _ r (Step.entered s e off) c = at_set (λ (head : Head). occ b (waiting_at head) ≤ 1) st.heads s m (Active []) Inactive (λ same within. omega arith) c
once_step b m size st event _ r (Step.inserted s k a won later saw queue waiting e head_is) c =
    at_set (λ (head : Head). occ b (waiting_at head) ≤ 1) st.heads k m (Active (a ∷ waiting)) Inactive (λ same within. go same (is_true (a == b))) c
  where
    was : k ≡ m → occ b (waiting_at (head_at st m)) ≡ occ b waiting
    was same = ap (λ (i : ℕ). occ b (waiting_at (head_at st i))) (sym same) ∙ ap (λ (head : Head). occ b (waiting_at head)) head_is

    go : k ≡ m → ((a == b) ≡ true) ⊎ ((a == b) ≡ false) → one (a == b) + occ b waiting ≤ 1
    go same (inr f) = let none : one (a == b) ≡ 0 = ap one f in omega (arith, was same, c)
    go same (inl t) = none (is_true (nat_lt 0 (occ b waiting)))
      where
        none : (nat_lt 0 (occ b waiting) ≡ true) ⊎ (nat_lt 0 (occ b waiting) ≡ false) → one (a == b) + occ b waiting ≤ 1
        none (inl some) =
            absurd ((tried_unheld st s a won k later saw queue r e).0
            (subst (λ (t : ℕ × ℕ). Contains (waiting_at (head_at st t.0)) t.1) (λ j. (sym same j, sym (eq_true a b t) j)) (contains_some b (waiting_at (head_at st m)) (let few = lt_true 0 (occ b waiting) some in omega (arith, was same, few)))))
        none (inr f) = let own : one (a == b) ≡ 1 = ap one t in let empty : occ b waiting ≤ 0 = (grind arith) in omega (arith, own, empty)
once_step b m size st event _ r (Step.swapped_out s stays queue e) c = at_set (λ (head : Head). occ b (waiting_at head) ≤ 1) st.heads s m (if stays then Active [] else Inactive) Inactive (λ same within. emptied stays) c
  where
    emptied : (stays : Bool) → occ b (waiting_at (if stays then Active [] else Inactive)) ≤ 1
    emptied true = omega arith
    emptied false = omega arith
once_step b m size st event _ r (Step.added s a won queue d e h) c = subst (λ (x : State × Answer). ListsOnce b m x.0) (some_is _ _ h) c
once_step b m size st event _ r (Step.subtracted s a walk queue d e h) c = subst (λ (x : State × Answer). ListsOnce b m x.0) (some_is _ _ h) c
once_step b m size st event _ r _ c = c

reached_once : (st : State) → IsReached st → (b m : ℕ) → ListsOnce b m st
reached_once = reached_holds (λ st. (b m : ℕ) → ListsOnce b m st) begins (λ st t d r step c b m. once_step b m t.size st t.event d r step (c b m))
  where
    empty : (slots b m : ℕ) → occ b (waiting_at (get_or (replicate slots Inactive) m Inactive)) ≤ 1
    empty zero b m = omega arith
    empty (suc slots) b zero = omega arith
    empty (suc slots) b (suc m) = empty slots b m

    begins : (slots : ℕ) (links : List (Option ℕ)) → are_distinct (linked_values links) ≡ true → (b m : ℕ) → ListsOnce b m (opening slots links)
    begins slots links distinct b m = empty slots b m

pub listed_once : (st : State) → IsReached st → (m : ℕ) → are_distinct (waiting_at (head_at st m)) ≡ true
listed_once st r m = distinct_if (waiting_at (head_at st m)) (λ b. reached_once st r b m)

-- Where no call is under way, a batch is held by heads alone.

pub count_listed : (st : State) → IsReached st → ((s : ℕ) → (slot_at st s).call ≡ None) → (b : ℕ) → (batch_at st b).count ≡ pos (sum_by (λ (head : Head). occ b (waiting_at head)) st.heads)
count_listed st r idle b =
    let none : of_calls (wins b) st.slots ≡ 0 = all_zero (λ (slot : Slot). wins b slot.call) st.slots no_slot (λ i. ap (wins b) (idle i)) in
    let no_walk : of_calls (walks b) st.slots ≡ 0 = all_zero (λ (slot : Slot). walks b slot.call) st.slots no_slot (λ i. ap (walks b) (idle i)) in
    let balance = ((reached_inv st r).sound.counts b).balance in omega (arith, ints, none, no_walk, balance)

-- A value stands in one place.

abbrev pub IsSettled : ℕ → State → Type 0
IsSettled v st = (has v st.named ≡ true) × (has v st.loose ≡ false) × ((l : ℕ) → link_at st l ≢ Some v)

settled : (st : State) → IsReached st → (v : ℕ) → 1 ≤ in_slots v st.slots + in_batches v st.batches + occ v st.rest → IsSettled v st
settled st r v some = (has_if v st.named (let all = its.all in let once = its.once in omega (arith, all, once, some)), out (is_true (has v st.loose)), unheld)
  where
    its : Rattle.seize_machine.proofs.Invariants.Once.Once v st
    its = (reached_inv st r).once v

    out : (has v st.loose ≡ true) ⊎ (has v st.loose ≡ false) → has v st.loose ≡ false
    out (inl loose) = absurd (let once = its.once in omega (arith, once, some, has_some v st.loose loose))
    out (inr not_) = not_

    held : (o : Option ℕ) → o ≡ Some v → 1 ≤ occ v (option_to_list o)
    held o is = rw is (let own : one (v == v) ≡ 1 = grind arith in omega (arith, own))

    unheld : (l : ℕ) → link_at st l ≢ Some v
    unheld l is =
        let once = its.once in let one_more = held (link_at st l) is in
        omega (arith, once, some, one_more, part-le-sum (λ (link : Option ℕ). occ v (option_to_list link)) st.links l None refl)

pub waiting_settled : (st : State) → IsReached st → (s v : ℕ) → Contains (slot_at st s).batch v → IsSettled v st
waiting_settled st r s v c =
    settled st r v (let here = some_contained v (slot_at st s).batch c in omega (arith, here, part-le-sum (slot_has v) st.slots s no_slot refl))

pub batched_settled : (st : State) → IsReached st → (b v : ℕ) → Contains (batch_at st b).values v → IsSettled v st
batched_settled st r b v c =
    settled st r v (let here = some_contained v (batch_at st b).values c in omega (arith, here, part-le-sum (λ (batch : Batch). occ v batch.values) st.batches b no_batch refl))

pub rest_settled : (st : State) → IsReached st → (v : ℕ) → Contains st.rest v → IsSettled v st
rest_settled st r v c = settled st r v (let here = some_contained v st.rest c in omega (arith, here))
