-- The law of whereabouts: each value that was named is in one place, and each value that was retired is in one of those for retired values.
use Rattle.std.proofs.Common.{◌≡◌, ℕ, ◌+◌, ◌≤◌, true, List, [], ◌∷◌, ◌++◌, Option, Some, None, refl, ◌∙◌, ap, arith}
use Rattle.std.specs.Prelude.{◌↔◌}
use Rattle.std.specs.List.{Contains, flat_map}
use Rattle.std.proofs.lemmas.List.Sums.{sum_by-cons}
use Rattle.seize_machine.specs.Machine.State.{State, Slot, Progress, Place, Append, Mark, Look, Try, Add, Out, Rest, has, linked_values, are_distinct, opening}
use Rattle.seize_machine.specs.Machine.History.{Timed, end_of, IsReached, WasNamed, Retired}
use Rattle.seize_machine.specs.Machine.Laws.{Whereabouts, to_retire, before_retirement, given_up, from_retirement, places as all_places}
use Rattle.seize_machine.proofs.Counting.Sums.{occ, occ-append, has_some}
use Rattle.seize_machine.proofs.Counting.Occurrences.{contains_some, some_contained, distinct_if, occ-flat_map}
use Rattle.seize_machine.proofs.Invariants.Kept.{given}
use Rattle.seize_machine.proofs.Invariants.Parts.{parts, kept_in, slot_keeps}
use Rattle.seize_machine.proofs.Invariants.Once.{places, Once, call_has, slot_has, in_slots, in_links}
use Rattle.seize_machine.proofs.Invariants.Always.{opening_inv, in_links_is}
use Rattle.seize_machine.proofs.Invariants.Reached.{reached_inv}
use Rattle.seize_machine.proofs.Invariants.Live.{has_if}
use Rattle.seize_machine.proofs.Lists.Histories.{run}
use Rattle.seize_machine.proofs.Laws.After.{none_retired}
use Rattle.seize_machine.proofs.Lists.Ends.{end_inv, named_if, if_named, retired_if, if_retired}

occ-given : (v : ℕ) (call : Option Progress) → occ v (given_up call) ≡ given v call
occ-given v None = refl
occ-given v (Some call) = go call.place
  where
    go : (place : Place) → occ v (given_up (Some (record { place = place; queue = call.queue }))) ≡ given v (Some (record { place = place; queue = call.queue }))
    go (Append w) = refl
    go (Mark n note marked) = refl
    go (Look b won m later) = refl
    go (Try b won m later saw) = refl
    go (Add b won) = refl
    go (Out stays) = refl
    go (Rest given_on walk) = refl

occ-slots : (v : ℕ) (slots : List Slot) → occ v (flat_map (λ slot. slot.batch) slots) + occ v (flat_map (λ slot. given_up slot.call) slots) ≡ kept_in v slots
occ-slots v [] = refl
occ-slots v (slot ∷ slots) =
    omega (arith, occ-append v slot.batch (flat_map (λ slot. slot.batch) slots), occ-append v (given_up slot.call) (flat_map (λ slot. given_up slot.call) slots), occ-given v slot.call, sum_by-cons (slot_keeps v) slot slots, occ-slots v slots)

occ-four : (v : ℕ) (a b c d : List ℕ) → occ v (a ++ b ++ c ++ d) ≡ occ v a + occ v c + occ v b + occ v d
occ-four v a b c d = omega (arith, occ-append v a b, occ-append v (a ++ b) c, occ-append v (a ++ b ++ c) d)

occ-from : (v : ℕ) (st : State) → occ v (from_retirement st) ≡ parts v st
occ-from v st =
    occ-append v (flat_map (λ slot. slot.batch) st.slots ++ flat_map (λ batch. batch.values) st.batches ++ flat_map (λ slot. given_up slot.call) st.slots ++ st.gone) st.rest
    ∙ omega (
      arith,
      occ-four v (flat_map (λ slot. slot.batch) st.slots) (flat_map (λ batch. batch.values) st.batches) (flat_map (λ slot. given_up slot.call) st.slots) st.gone,
      occ-slots v st.slots,
      occ-flat_map v (λ batch. batch.values) st.batches,
    )

-- what a call has is what it is to retire and what it is to hand
occ-call : (v : ℕ) (call : Option Progress) → occ v (to_retire call) + given v call ≡ call_has v call
occ-call v None = refl
occ-call v (Some call) = go call.place
  where
    at : Place → Option Progress
    at place = Some (record { place = place; queue = call.queue })

    go : (place : Place) → occ v (to_retire (at place)) + given v (at place) ≡ call_has v (at place)
    go (Append w) = omega arith
    go (Mark n note marked) = refl
    go (Look b won m later) = refl
    go (Try b won m later saw) = refl
    go (Add b won) = refl
    go (Out stays) = refl
    go (Rest given_on walk) = refl

occ-calls : (v : ℕ) (slots : List Slot) → occ v (flat_map (λ slot. to_retire slot.call) slots) + kept_in v slots ≡ in_slots v slots
occ-calls v [] = refl
occ-calls v (slot ∷ slots) =
    omega (arith, occ-append v (to_retire slot.call) (flat_map (λ slot. to_retire slot.call) slots), occ-call v slot.call, sum_by-cons (slot_keeps v) slot slots, sum_by-cons (slot_has v) slot slots, occ-calls v slots)

occ-before : (v : ℕ) (st : State) → occ v (before_retirement st) + kept_in v st.slots ≡ in_slots v st.slots + in_links v st.links + occ v st.loose
occ-before v st =
    let calls : List ℕ = flat_map (λ slot. to_retire slot.call) st.slots in
    omega (arith, occ-append v (linked_values st.links) st.loose, occ-append v (linked_values st.links ++ st.loose) calls, in_links_is v st.links, occ-calls v st.slots)

occ-places : (v : ℕ) (st : State) → occ v (all_places st) ≡ places v st
occ-places v st = omega (arith, occ-append v (before_retirement st) (from_retirement st), occ-before v st, occ-from v st)

-- the places of a reached state have just its named values, each once
pub named_placed : (st : State) → IsReached st → (are_distinct (all_places st) ≡ true) × ((v : ℕ) → Contains (all_places st) v ↔ (has v st.named ≡ true))
named_placed st r = (distinct_if (all_places st) once, λ v. (named v, placed v))
  where
    stands : (v : ℕ) → Once v st
    stands v = (reached_inv st r).once v

    once : (v : ℕ) → occ v (all_places st) ≤ 1
    once v = omega (arith, occ-places v st, (stands v).once)

    named : (v : ℕ) → Contains (all_places st) v → has v st.named ≡ true
    named v c = has_if v st.named (omega (arith, occ-places v st, (stands v).all, some_contained v (all_places st) c))

    placed : (v : ℕ) → has v st.named ≡ true → Contains (all_places st) v
    placed v h = contains_some v (all_places st) (omega (arith, occ-places v st, (stands v).all, has_some v st.named h))

pub law_whereabouts : (slots : ℕ) (links : List (Option ℕ)) (ts : List Timed) → are_distinct (linked_values links) ≡ true → Whereabouts (opening slots links) (run (opening slots links) ts)
law_whereabouts slots links ts distinct = (distinct_if (all_places end) once, λ v. (named v, placed v), λ v. (into v, out v))
  where
    st : State
    st = opening slots links

    end : State
    end = end_of st (run st ts)

    stands : (v : ℕ) → Once v end
    stands v = (end_inv ts st (opening_inv slots links distinct)).once v

    once : (v : ℕ) → occ v (all_places end) ≤ 1
    once v = omega (arith, occ-places v end, (stands v).once)

    named : (v : ℕ) → Contains (all_places end) v → WasNamed st (run st ts) v
    named v c = named_if v ts slots links (omega (arith, occ-places v end, (stands v).all, some_contained v (all_places end) c))

    placed : (v : ℕ) → WasNamed st (run st ts) v → Contains (all_places end) v
    placed v n = contains_some v (all_places end) (omega (arith, occ-places v end, (stands v).all, if_named v ts slots links n))

    into : (v : ℕ) → Contains (from_retirement end) v → (q : ℕ) × Retired (run st ts) v q
    into v c = retired_if v ts st (opening_inv slots links distinct).sound.free (none_retired v slots links) (omega (arith, occ-from v end, some_contained v (from_retirement end) c))

    out : (v : ℕ) → (q : ℕ) × Retired (run st ts) v q → Contains (from_retirement end) v
    out v r = contains_some v (from_retirement end) (omega (arith, occ-from v end, if_retired v r.0 ts st (opening_inv slots links distinct).sound.free r.1))
