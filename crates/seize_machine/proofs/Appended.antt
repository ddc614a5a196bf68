-- A value that was put to a slot's batch was named. This is for callers, as `Facts` is.
use Rattle.std.proofs.Common.{◌≡◌, ℕ, ◌<◌, ◌≤◌, true, false, length, ap, ◌⊎◌, inl, inr, arith}
use Rattle.std.specs.List.{Contains, sum_by}
use Rattle.std.proofs.lemmas.Bool.{cases_lt}
use Rattle.std.proofs.lemmas.List.{get_or_past}
use Rattle.std.proofs.lemmas.List.Sums.{get_or-le-sum_by}
use Rattle.seize_machine.specs.Machine.State.{Slot, State, has, no_slot, slot_at}
use Rattle.seize_machine.specs.Machine.History.{IsReached}
use Rattle.seize_machine.proofs.Steps.Relation.{is_true}
use Rattle.seize_machine.proofs.Counting.Occurrences.{some_contained}
use Rattle.seize_machine.proofs.Counting.Sums.{has_none, occ}
use Rattle.seize_machine.proofs.Invariants.Once.{Once, slot_has}
use Rattle.seize_machine.proofs.Invariants.Reached.{reached_inv}

pub appended_named : (st : State) → IsReached st → (s v : ℕ) → Contains (slot_at st s).batch v → has v st.named ≡ true
appended_named st r s v there = go (is_true (has v st.named))
  where
    some : 1 ≤ occ v (slot_at st s).batch
    some = some_contained v _ there

    within : s < length st.slots
    within = at (cases_lt s (length st.slots))
      where
        at : (s < length st.slots) ⊎ (length st.slots ≤ s) → s < length st.slots
        at (inl less) = less
        at (inr past) =
            let none : occ v (slot_at st s).batch ≡ 0 = ap (λ (slot : Slot). occ v slot.batch) (get_or_past st.slots s no_slot past) in
            absurd (omega (arith, none, some))

    go : (has v st.named ≡ true) ⊎ (has v st.named ≡ false) → has v st.named ≡ true
    go (inl named) = named
    go (inr unnamed) =
        let once : Once v st = (reached_inv st r).once v in
        let here : slot_has v (slot_at st s) ≤ sum_by (slot_has v) st.slots = get_or-le-sum_by (slot_has v) st.slots s no_slot within in
        absurd (omega (arith, some, has_none v st.named unnamed, once.all, here))
