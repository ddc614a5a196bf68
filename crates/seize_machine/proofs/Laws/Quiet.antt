-- The law of quiet: where no call is under way and no slot is active, a retired value is reclaimed or in a slot's batch.
use Rattle.seize_machine.proofs.Invariants.Rested.{opening_rest_fits, below_rest_bound, opening_off, Lasts}
use Rattle.std.proofs.Common.{◌≡◌, ℕ, zero, suc, ◌<◌, ◌≤◌, max, Bool, true, false, not, nat_lt, List, [], ◌∷◌, length, get_or, Option, Some, None, is_some, refl, ap, ◌⊎◌, inl, inr, arith, ◌&&◌, ◌||◌, map, sym, ◌∙◌}
use Rattle.std.specs.List.{list_all, list_any}
use Rattle.std.proofs.lemmas.List.Sums.{sum_by-cons}
use Rattle.seize_machine.specs.Machine.State.{no_slot, no_batch, State, Slot, Progress, Head, Inactive, Active, slot_at, batch_at, is_active, waiting_at, linked_values, are_distinct, opening}
use Rattle.seize_machine.specs.Machine.History.{Timed, end_of, Reclaimed}
use Rattle.seize_machine.specs.Machine.Laws.{Quiet, bound, IsBatched, IsRested, FillsWithin, Unused}
use Rattle.seize_machine.proofs.Steps.Relation.{and_true, not_true}
use Rattle.seize_machine.proofs.Counting.Sums.{occ}
use Rattle.seize_machine.proofs.Counting.Occurrences.{contains_some, some_part, all_zero}
use Rattle.seize_machine.proofs.Invariants.Counts.{of_calls, owns, walks, listed}
use Rattle.seize_machine.proofs.Invariants.Once.{in_batches}
use Rattle.seize_machine.proofs.Invariants.Kept.{given}
use Rattle.seize_machine.proofs.Invariants.Parts.{parts, slot_keeps}
use Rattle.seize_machine.proofs.Invariants.Fits.{Fits}
use Rattle.seize_machine.proofs.Invariants.Always.{Inv, opening_inv}
use Rattle.seize_machine.proofs.Lists.Histories.{run}
use Rattle.seize_machine.proofs.Lists.Ends.{end_inv, end_fits, opening_fits, if_retired, reclaimed_if, AllFits, end_lasts, end_off}

abbrev NoCalls : List Slot → Type 0
NoCalls slots = list_all (λ slot. not (is_some slot.call)) slots ≡ true

abbrev NoneActive : List Head → Type 0
NoneActive heads = list_all (λ head. not (is_active head)) heads ≡ true

is_none : (o : Option Progress) → not (is_some o) ≡ true → o ≡ None
is_none None e = refl
is_none (Some c) e = absurd (cc)

no_calls : (f : Option Progress → ℕ) (slots : List Slot) → f None ≡ 0 → NoCalls slots → of_calls f slots ≡ 0
no_calls f [] z h = refl
no_calls f (slot ∷ slots) z h =
    let t : (not (is_some slot.call) ≡ true) × NoCalls slots = and_true _ _ h in
    omega (arith, sum_by-cons (λ slot. f slot.call) slot slots, ap f (is_none slot.call t.0), no_calls f slots z t.1)

no_lists : (b : ℕ) (heads : List Head) → NoneActive heads → listed b heads ≡ 0
no_lists b [] h = refl
no_lists b (Inactive ∷ heads) h = omega (arith, sum_by-cons (λ head. occ b (waiting_at head)) Inactive heads, no_lists b heads h)
no_lists b (Active waiting ∷ heads) h = absurd (cc)

idle : (slots : List Slot) → NoCalls slots → (s : ℕ) → (get_or slots s no_slot).call ≡ None
idle [] h s = refl
idle (slot ∷ slots) h zero = is_none slot.call (and_true _ _ h).0
idle (slot ∷ slots) h (suc s) = idle slots (and_true _ _ h).1 s

occ-length : (v : ℕ) (xs : List ℕ) → length xs ≡ 0 → occ v xs ≡ 0
occ-length v [] e = refl
occ-length v (x ∷ xs) e = absurd (omega arith)

occ-long : (v : ℕ) (xs : List ℕ) → 1 ≤ occ v xs → 1 ≤ length xs
occ-long v [] h = absurd (omega arith)
occ-long v (x ∷ xs) h = omega arith

both_true : (a b : Bool) → a ≡ true → b ≡ true → (a && b) ≡ true
both_true a b h k = rw h k

-- every batch is given up
given_up : (v : ℕ) (st : State) → Inv st → NoCalls st.slots → NoneActive st.heads → in_batches v st.batches ≡ 0
given_up v st i calls heads = all_zero (λ batch. occ v batch.values) st.batches no_batch (λ b. occ-length v _ (empty b))
  where
    none : (x y : ℕ) → (1 ≤ x → 1 ≤ y) → y ≡ 0 → x ≡ 0
    none x y h e = grind arith

    empty : (b : ℕ) → length (batch_at st b).values ≡ 0
    empty b =
        let l : listed b st.heads ≡ 0 = no_lists b st.heads heads in
        let w : of_calls (walks b) st.slots ≡ 0 = no_calls (walks b) st.slots refl calls in
        let o : of_calls (owns b) st.slots ≡ 0 = no_calls (owns b) st.slots refl calls in
        none (length (batch_at st b).values) _ (i.sound.counts b).held (omega arith)

quiet_state : (v : ℕ) (st : State) → Inv st → NoCalls st.slots → NoneActive st.heads → 1 ≤ parts v st → (1 ≤ occ v st.gone) ⊎ ((s : ℕ) × (1 ≤ occ v (slot_at st s).batch)) ⊎ (1 ≤ occ v st.rest)
quiet_state v st i calls heads some = go (given_up v st i calls heads) (nat_lt 0 (occ v st.gone)) refl
  where
    go : in_batches v st.batches ≡ 0 → (b : Bool) → nat_lt 0 (occ v st.gone) ≡ b → (1 ≤ occ v st.gone) ⊎ ((s : ℕ) × (1 ≤ occ v (slot_at st s).batch)) ⊎ (1 ≤ occ v st.rest)
    go batches true e = inl (grind arith)
    go batches false e =
        let gone : occ v st.gone ≡ 0 = grind arith in rested (nat_lt 0 (occ v st.rest)) refl gone
      where
        rested : (b : Bool) → nat_lt 0 (occ v st.rest) ≡ b → occ v st.gone ≡ 0 → (1 ≤ occ v st.gone) ⊎ ((s : ℕ) × (1 ≤ occ v (slot_at st s).batch)) ⊎ (1 ≤ occ v st.rest)
        rested true e gone = inr (inr (grind arith))
        rested false e gone =
            let none : occ v st.rest ≡ 0 = grind arith in
            let r : (s : ℕ) × (1 ≤ slot_keeps v (slot_at st s)) = some_part (slot_keeps v) st.slots no_slot (omega arith) in
            let g : given v (slot_at st r.0).call ≡ 0 = ap (given v) (idle st.slots calls r.0) in
            inr (inl (r.0, omega (arith, r.1)))

-- a batch of a slot with no call is below the bound
below_bound : (size s : ℕ) (st : State) → NoCalls st.slots → Fits (max 1 size) st → length (slot_at st s).batch < bound size st
below_bound size s st calls fits = rw (idle st.slots calls s) at (fits s)

pub law_quiet : (slots : ℕ) (links : List (Option ℕ)) (ts : List Timed) → are_distinct (linked_values links) ≡ true → Quiet (opening slots links) (run (opening slots links) ts)
law_quiet slots links ts distinct quiet v q r =
    go (quiet_state v end (end_inv ts st (opening_inv slots links distinct)) both.0 both.1 (if_retired v q ts st (opening_inv slots links distinct).sound.free r))
  where
    st : State
    st = opening slots links

    end : State
    end = end_of st (run st ts)

    both : NoCalls end.slots × NoneActive end.heads
    both = and_true _ _ quiet

    fits : (size : ℕ) → FillsWithin size (run st ts) → AllFits (max 1 size) end
    fits size same = end_fits size ts st same (opening_fits size slots links, opening_rest_fits (max 1 size) slots links (omega arith))

    go : (1 ≤ occ v end.gone) ⊎ ((s : ℕ) × (1 ≤ occ v (slot_at end s).batch)) ⊎ (1 ≤ occ v end.rest) → ((c : ℕ) × Reclaimed (run st ts) v c) ⊎ IsBatched end v (run st ts) ⊎ IsRested end v (run st ts)
    go (inl gone) = inl (reclaimed_if v ts st (opening_inv slots links distinct).sound.free refl gone)
    go (inr (inl b)) = inr (inl (b.0, contains_some v (slot_at end b.0).batch b.1, λ size same. below_bound size b.0 end both.0 (fits size same).0))
    go (inr (inr b)) = inr (inr (contains_some v end.rest b, λ size same. below_rest_bound (max 1 size) end (occ-long v end.rest b) (fits size same).1))

-- The law of what is left where no slot is in use: nothing.

unused_calls : (slots : List Slot) → list_all (λ slot. not slot.used && not (is_some slot.call)) slots ≡ true → NoCalls slots
unused_calls [] h = refl
unused_calls (slot ∷ slots) h =
    let t = and_true _ _ h in let x = and_true _ _ t.0 in both_true _ _ x.1 (unused_calls slots t.1)

none_used : (slots : List Slot) → list_all (λ slot. not slot.used && not (is_some slot.call)) slots ≡ true → list_any (λ u. u) (map (λ slot. slot.used) slots) ≡ false
none_used [] h = refl
none_used (slot ∷ slots) h =
    let t = and_true _ _ h in let x = and_true _ _ t.0 in
    ap (λ (u : Bool). u || list_any (λ u. u) (map (λ slot. slot.used) slots)) (not_true _ x.0) ∙ none_used slots t.1

unused_at : (slots : List Slot) → list_all (λ slot. not slot.used && not (is_some slot.call)) slots ≡ true → (s : ℕ) → (get_or slots s no_slot).used ≡ false
unused_at [] h s = refl
unused_at (slot ∷ slots) h zero = let t = and_true _ _ h in not_true _ (and_true _ _ t.0).0
unused_at (slot ∷ slots) h (suc s) = unused_at slots (and_true _ _ h).1 s

none_active : (heads : List Head) → ((s : ℕ) → is_active (get_or heads s Inactive) ≡ false) → NoneActive heads
none_active [] h = refl
none_active (head ∷ heads) h = both_true _ _ (ap not (h zero)) (none_active heads (λ s. h (suc s)))

batches_empty : (v : ℕ) (slots : List Slot) → ((s : ℕ) → (get_or slots s no_slot).batch ≡ []) → (s : ℕ) → occ v (get_or slots s no_slot).batch ≡ 0
batches_empty v slots h s = ap (occ v) (h s)

pub law_unused : (slots : ℕ) (links : List (Option ℕ)) (ts : List Timed) → are_distinct (linked_values links) ≡ true → Unused (opening slots links) (run (opening slots links) ts)
law_unused slots links ts distinct unused v q r = go (quiet_state v end inv (unused_calls end.slots unused) heads (if_retired v q ts st (opening_inv slots links distinct).sound.free r))
  where
    st : State
    st = opening slots links

    end : State
    end = end_of st (run st ts)

    inv : Inv end
    inv = end_inv ts st (opening_inv slots links distinct)

    heads : NoneActive end.heads
    heads = none_active end.heads (λ s. end_off ts st (opening_inv slots links distinct) (opening_off slots links) s (unused_at end.slots unused s))

    empty : length end.rest ≡ 0
    empty = which (end_lasts ts st (inl refl))
      where
        which : Lasts end → length end.rest ≡ 0
        which (inl e) = e
        which (inr u) = absurd (let n : false ≡ true = sym (none_used end.slots unused) ∙ u in cc)

    go : (1 ≤ occ v end.gone) ⊎ ((s : ℕ) × (1 ≤ occ v (slot_at end s).batch)) ⊎ (1 ≤ occ v end.rest) → (c : ℕ) × Reclaimed (run st ts) v c
    go (inl gone) = reclaimed_if v ts st (opening_inv slots links distinct).sound.free refl gone
    go (inr (inl b)) = absurd (let none : occ v (slot_at end b.0).batch ≡ 0 = ap (λ (slot : Slot). occ v slot.batch) (inv.sound.free b.0 (unused_at end.slots unused b.0)) in let some : 1 ≤ occ v (slot_at end b.0).batch = b.1 in omega arith)
    go (inr (inr b)) = absurd (omega (arith, b, occ-length v end.rest empty))
