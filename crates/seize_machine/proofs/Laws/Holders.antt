-- The law of holders: a retired batch that is not given up is listed, walked, or with the call that detached it.
use Rattle.std.proofs.Common.{◌≡◌, ℕ, ◌<◌, ◌≤◌, Bool, true, false, ◌==◌, nat_lt, List, length, Option, Some, None, refl, inl, inr, arith}
use Rattle.std.specs.List.{Contains}
use Rattle.seize_machine.specs.Machine.State.{no_slot, State, Progress, Inactive, Place, Append, Mark, Look, Try, Add, Out, Rest, slot_at, head_at, batch_at, waiting_at, linked_values, are_distinct, opening}
use Rattle.seize_machine.specs.Machine.Next.{next}
use Rattle.seize_machine.specs.Machine.History.{Timed, end_of}
use Rattle.seize_machine.specs.Machine.Laws.{Holders, IsHeld, walk_of, detached_by}
use Rattle.seize_machine.proofs.Counting.Sums.{one, occ}
use Rattle.seize_machine.proofs.Counting.Occurrences.{contains_some, some_part}
use Rattle.seize_machine.proofs.Invariants.Counts.{Counted, of_calls, owns, walks, listed}
use Rattle.seize_machine.proofs.Invariants.Always.{Inv, opening_inv}
use Rattle.seize_machine.proofs.Lists.Histories.{run}
use Rattle.seize_machine.proofs.Lists.Ends.{end_inv}

in_walk : (b : ℕ) (call : Option Progress) → 1 ≤ walks b call → Contains (walk_of call) b
in_walk b None h = absurd (omega arith)
in_walk b (Some call) h = go call.place h
  where
    go : (place : Place) → 1 ≤ walks b (Some (record { place = place; queue = call.queue })) → Contains (walk_of (Some (record { place = place; queue = call.queue }))) b
    go (Rest given walk) h = contains_some b walk h
    go (Append w) h = absurd (omega arith)
    go (Mark next note marked) h = absurd (omega arith)
    go (Look c won m later) h = absurd (omega arith)
    go (Try c won m later saw) h = absurd (omega arith)
    go (Add c won) h = absurd (omega arith)
    go (Out stays) h = absurd (omega arith)

pub owner_of : (b : ℕ) (call : Option Progress) → 1 ≤ owns b call → detached_by call ≡ Some b
owner_of b None h = absurd (omega arith)
owner_of b (Some call) h = go call.place h
  where
    same : (c : ℕ) → 1 ≤ one (c == b) → Option.Some c ≡ Some b
    same c h = grind arith

    go : (place : Place) → 1 ≤ owns b (Some (record { place = place; queue = call.queue })) → detached_by (Some (record { place = place; queue = call.queue })) ≡ Some b
    go (Look c won m later) h = same c h
    go (Try c won m later saw) h = same c h
    go (Add c won) h = same c h
    go (Rest given walk) h = absurd (omega arith)
    go (Append w) h = absurd (omega arith)
    go (Mark next note marked) h = absurd (omega arith)
    go (Out stays) h = absurd (omega arith)

held : (st : State) → Inv st → (b : ℕ) → 1 ≤ length (batch_at st b).values → IsHeld st b
held st i b full = go (nat_lt 0 (listed b st.heads)) refl (nat_lt 0 (of_calls (walks b) st.slots)) refl
  where
    in_list : (s : ℕ) × (1 ≤ occ b (waiting_at (head_at st s))) → IsHeld st b
    in_list r = inl (r.0, contains_some b (waiting_at (head_at st r.0)) r.1)

    by_walk : (s : ℕ) × (1 ≤ walks b (slot_at st s).call) → IsHeld st b
    by_walk r = inr (inl (r.0, in_walk b (slot_at st r.0).call r.1))

    by_owner : (s : ℕ) × (1 ≤ owns b (slot_at st s).call) → IsHeld st b
    by_owner r = inr (inr (r.0, owner_of b (slot_at st r.0).call r.1))

    go : (x : Bool) → nat_lt 0 (listed b st.heads) ≡ x → (y : Bool) → nat_lt 0 (of_calls (walks b) st.slots) ≡ y → IsHeld st b
    go true x y f = in_list (some_part (λ head. occ b (waiting_at head)) st.heads Inactive (grind arith))
    go false x true y = by_walk (some_part (λ slot. walks b slot.call) st.slots no_slot (grind arith))
    go false x false y =
        let c : Counted b st.slots st.heads st.batches = i.sound.counts b in
        let l : listed b st.heads ≡ 0 = grind arith in
        let w : of_calls (walks b) st.slots ≡ 0 = grind arith in
        by_owner (some_part (λ slot. owns b slot.call) st.slots no_slot (omega (arith, c.held full)))

pub law_holders : (slots : ℕ) (links : List (Option ℕ)) (ts : List Timed) → are_distinct (linked_values links) ≡ true → Holders (opening slots links) (run (opening slots links) ts)
law_holders slots links ts distinct b v c =
    let within : c.0 < length (batch_at (end_of (opening slots links) (run (opening slots links) ts)) b).values = c.1 in
    held _ (end_inv ts (opening slots links) (opening_inv slots links distinct)) b (omega arith)
