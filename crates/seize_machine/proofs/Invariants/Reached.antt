-- The states that a legal list of events reaches: they stay so, and what the code counts with fits.
use Rattle.seize_machine.proofs.Invariants.Rested.{RestFits, opening_rest_fits}
use Rattle.std.proofs.Common.{◌≡◌, ℕ, zero, suc, ◌+◌, ◌<◌, ◌≤◌, max, pos, ◌+ℤ◌, Bool, true, false, not, ◌||◌, ◌==◌, if◌then◌else◌, nat_lt, nat_le, List, [], ◌∷◌, ◌++◌, length, get_or, replicate, Option, Some, None, Result, Ok, Err, IfOk, OnErr, refl, sym, ◌∙◌, ap, subst, ◌⊎◌, inl, inr, arith}
use Rattle.std.proofs.lemmas.Int.{ints}
use Rattle.std.proofs.lemmas.List.{get_or_past}
use Rattle.std.proofs.lemmas.List.Sums.{get_or-le-sum_by}
use Rattle.seize_machine.specs.Machine.State.{no_slot, State, Slot, Progress, Place, Append, Mark, Look, Try, Add, Out, Rest, slot_at, batch_at, linked_values, are_distinct, opening}
use Rattle.seize_machine.specs.Machine.Next.{Outcome, next}
use Rattle.seize_machine.specs.Machine.History.{Timed, or_illegal, done_by, end_of, IsReached}
use Rattle.seize_machine.specs.Machine.Laws.{fills, FillsWithin}
use Rattle.seize_machine.specs.Machine.Code.{HasOutcome, WinsFit, AddFits, SubFits, CountFits, CallCountsFit, CountsFit}
use Rattle.seize_machine.specs.declared.machine.event.Answer.{Answer}
use Rattle.seize_machine.proofs.Steps.Relation.{Stands, is_true, lt_true}
use Rattle.seize_machine.proofs.Counting.Sums.{one, occ, sum_nothing, sum_alone}
use Rattle.seize_machine.proofs.Counting.Occurrences.{some_part}
use Rattle.seize_machine.proofs.Invariants.Counts.{CountedIn, of_calls, owns, wins, place_won, walks, listed, owns-wins, in_call_of, wins_alone, in_range, held_range}
use Rattle.seize_machine.proofs.Invariants.Fits.{Fits, SlotFits, CallFits, PlaceFits}
use Rattle.seize_machine.proofs.Invariants.Always.{Inv, opening_inv}
use Rattle.seize_machine.proofs.Lists.Histories.{run, run_is, from_first}
use Rattle.seize_machine.proofs.Lists.LegalLists.{no_event, one_more}
use Rattle.seize_machine.proofs.Lists.Ends.{AllFits, opening_fits, end_inv, end_fits}

-- a legal list ends where its moments end
pub ends_at : (st : State) (r : IsReached st) → end_of (opening r.slots r.links) (run (opening r.slots r.links) r.events) ≡ st
ends_at st r = ap (end_of (opening r.slots r.links)) (sym (run_is r.events (opening r.slots r.links) r.leads.legal)) ∙ r.leads.end_is

pub reached_inv : (st : State) → IsReached st → Inv st
reached_inv st r = subst Inv (ends_at st r) (end_inv r.events (opening r.slots r.links) (opening_inv r.slots r.links r.distinct))

-- the greatest of the sizes
abbrev largest : List Timed → ℕ
largest [] = 0
largest (t ∷ ts) = max t.size (largest ts)

within : (k : ℕ) (ts : List Timed) (st : State) → largest ts ≤ k → FillsWithin k (run st ts)
within k [] st h = refl
within k (t ∷ ts) st h = go (next t.size st t.event) (λ st. within k ts st (omega arith))
  where
    this : (fills : Bool) → t.size ≤ k → (not fills || nat_le t.size k) ≡ true
    this true le = grind arith
    this false le = refl

    go : (o : Outcome) → ((st : State) → FillsWithin k (run st ts)) → FillsWithin k (from_first o st t ts)
    go None ih = refl
    go (Some d) ih = rw (this (fills st t.event) (omega arith)) (ih d.0)

all_fits : (st : State) → IsReached st → (k : ℕ) × AllFits k st
all_fits st r =
    let k : ℕ = largest r.events in
    let start : State = opening r.slots r.links in
    (max 1 k, subst (AllFits (max 1 k)) (ends_at st r) (end_fits k r.events start (within k r.events start (omega arith)) (opening_fits k r.slots r.links, opening_rest_fits (max 1 k) r.slots r.links (omega arith))))

pub reached_fits : (st : State) → IsReached st → (k : ℕ) × Fits k st
reached_fits st r = let f = all_fits st r in (f.0, (f.1).0)

pub reached_rest_fits : (st : State) → IsReached st → (k : ℕ) × RestFits k st
reached_rest_fits st r = let f = all_fits st r in (f.0, (f.1).1)

-- the insertions won of one batch are those of its one owner, at most one for each slot
pub owner_wins : (k b : ℕ) (st : State) → Fits k st → CountedIn b st → of_calls (wins b) st.slots ≤ length st.slots
owner_wins k b st fits c = go (nat_lt 0 (of_calls (owns b) st.slots)) refl
  where
    place_fits : (place : Place) (l : ℕ) → PlaceFits k (length st.slots) l place → place_won b place ≤ length st.slots
    place_fits (Look a won m later) l f = grind (arith, f.1)
    place_fits (Try a won m later saw) l f = grind (arith, f.1)
    place_fits (Add a won) l f = grind (arith, f.1)
    place_fits (Append v) l f = omega arith
    place_fits (Mark n note marks) l f = omega arith
    place_fits (Out stays) l f = omega arith
    place_fits (Rest given walk) l f = omega arith

    slot_fits : (slot : Slot) → SlotFits k (length st.slots) slot → wins b slot.call ≤ length st.slots
    slot_fits slot f = of slot.call f
      where
        of : (o : Option Progress) → CallFits k (length st.slots) (length slot.batch) o → wins b o ≤ length st.slots
        of None f = omega arith
        of (Some call) f = place_fits call.place (length slot.batch) f

    go : (some : Bool) → nat_lt 0 (of_calls (owns b) st.slots) ≡ some → of_calls (wins b) st.slots ≤ length st.slots
    go true e =
        let i : (i : ℕ) × (1 ≤ owns b (get_or st.slots i no_slot).call) = some_part (λ slot. owns b slot.call) st.slots no_slot (grind arith) in
        alone i.0 i.1 (is_true (nat_lt i.0 (length st.slots)))
      where
        alone : (i : ℕ) → 1 ≤ owns b (get_or st.slots i no_slot).call → (nat_lt i (length st.slots) ≡ true) ⊎ (nat_lt i (length st.slots) ≡ false) → of_calls (wins b) st.slots ≤ length st.slots
        alone i own (inl t) =
            let r : i < length st.slots = lt_true _ _ t in
            let all : of_calls (wins b) st.slots ≡ wins b (get_or st.slots i no_slot).call = sum_alone (λ slot. wins b slot.call) (λ slot. owns b slot.call) (λ slot. owns-wins b slot.call) st.slots i no_slot r (omega (arith, c.alone)) in
            omega (arith, slot_fits (get_or st.slots i no_slot) (fits i))
        alone i own (inr t) =
            let past : length st.slots ≤ i = grind arith in
            let none : owns b (get_or st.slots i no_slot).call ≡ 0 = ap (λ slot. owns b slot.call) (get_or_past st.slots i no_slot past) in
            absurd (omega arith)
    go false e =
        let none : of_calls (owns b) st.slots ≡ 0 = grind arith in
        let zero_wins : of_calls (wins b) st.slots ≡ 0 = sum_nothing (λ slot. wins b slot.call) (λ slot. owns b slot.call) (λ slot. owns-wins b slot.call) st.slots none in
        omega arith

-- what a call that is about to add counts with
pub adds : (k b won s : ℕ) (queue : List ℕ) (st : State) → Fits k st → Inv st → Stands st s (Add b won) queue → AddFits st b won
adds k b won s queue st fits i e =
    let c : CountedIn b st = i.sound.counts b in
    let own : one (b == b) ≡ 1 = grind arith in
    let f : (length (slot_at st s).batch < max k (length st.slots)) × (won ≤ length st.slots) = rw e at (fits s) in
    let owned : one (b == b) ≤ of_calls (owns b) st.slots = in_call_of b st s (Add b won) queue e in
    let all : of_calls (wins b) st.slots ≡ (if b == b then won else 0) = wins_alone b st s (Add b won) queue e c own in
    let won_is : (if b == b then won else 0) ≡ won = grind arith in
    let total : (batch_at st b).count +ℤ pos won ≡ pos (listed b st.heads + of_calls (walks b) st.slots) = omega (arith, ints, c.balance) in
    let few : listed b st.heads + of_calls (walks b) st.slots ≤ won = omega (arith, c.few, c.alone) in
    (held_range b _ _ c.fresh (omega arith), f.1, omega (arith, ints), omega (arith, ints))

-- what a call that is about to subtract counts with
subtracts : (k b s : ℕ) (walk queue : List ℕ) (st : State) → Fits k st → Inv st → Stands st s (Rest [] (b ∷ walk)) queue → SubFits st b
subtracts k b s walk queue st fits i e =
    let c : CountedIn b st = i.sound.counts b in
    let own : one (b == b) ≡ 1 = grind arith in
    let held : one (b == b) + occ b walk ≤ of_calls (walks b) st.slots = rw e at (get_or-le-sum_by (λ slot. walks b slot.call) st.slots s no_slot (in_range st s _ e)) in
    let few : of_calls (wins b) st.slots ≤ length st.slots = owner_wins k b st fits c in
    (held_range b _ _ c.fresh (omega arith), omega (arith, ints, c.balance))

counts_fit : (k : ℕ) (st : State) → Fits k st → Inv st → CountsFit st
counts_fit k st fits i = record { fit = λ s. of_call s (slot_at st s).call refl }
  where
    at : (s : ℕ) (place : Place) (queue : List ℕ) → Stands st s place queue → WinsFit st place × CountFits st place
    at s (Append v) queue e = (tt, tt)
    at s (Mark n note marks) queue e = (tt, tt)
    at s (Look b won m later) queue e = (tt, tt)
    at s (Try b won m later saw) queue e =
        let f : (length (slot_at st s).batch < max k (length st.slots)) × (won + 1 + length later ≤ length st.slots) = rw e at (fits s) in
        (omega (arith, f.1), tt)
    at s (Add b won) queue e = (tt, adds k b won s queue st fits i e)
    at s (Out stays) queue e = (tt, tt)
    at s (Rest [] []) queue e = (tt, tt)
    at s (Rest [] (b ∷ walk)) queue e = (tt, subtracts k b s walk queue st fits i e)
    at s (Rest (v ∷ given) walk) queue e = (tt, tt)

    of_call : (s : ℕ) (o : Option Progress) → (slot_at st s).call ≡ o → CallCountsFit st o
    of_call s None e = tt
    of_call s (Some call) e = at s call.place call.queue e

pub reached_counts : (st : State) → IsReached st → CountsFit st
reached_counts st r = let f : (k : ℕ) × Fits k st = reached_fits st r in counts_fit f.0 st f.1 (reached_inv st r)

-- a reached state, and one legal event
pub reached_next : (st : State) (t : Timed) (d : State × Answer) → IsReached st → next t.size st t.event ≡ Some d → IsReached d.0
reached_next st t d r e =
    record {
      slots = r.slots;
      links = r.links;
      events = r.events ++ t ∷ [];
      answers = r.answers ++ d.1 ∷ [];
      distinct = r.distinct;
      leads = one_more (opening r.slots r.links) st d.0 r.events r.answers t d.1 r.leads e;
    }

-- the machine stays reached, whatever the event
pub reached_more : (st : State) (t : Timed) → IsReached st → IsReached (done_by next st t).0
reached_more st t r = go (next t.size st t.event) refl
  where
    go : (o : Outcome) → next t.size st t.event ≡ o → IsReached (or_illegal st o).0
    go None e = r
    go (Some d) e = reached_next st t d r e

-- what an event did by its outcome is what the machine does
pub does_by : (old new : State) (t : Timed) (answer : Answer) → HasOutcome (next t.size old t.event) old new answer → (new, answer) ≡ done_by next old t
does_by old new t answer = go (next t.size old t.event)
  where
    go : (o : Outcome) → HasOutcome o old new answer → (new, answer) ≡ or_illegal old o
    go None d = ap (λ (st : State). (st, answer)) d.0 ∙ ap (λ (a : Answer). (old, a)) d.1
    go (Some done) d = ap (λ (st : State). (st, answer)) d.0 ∙ ap (λ (a : Answer). (done.0, a)) d.1

pub reached_result : {E : Type 0} (t : Timed) (old new : State) (result : Result Answer E) → IfOk result (λ answer. HasOutcome (next t.size old t.event) old new answer) → OnErr result (new ≡ old) → IsReached old → IsReached new
reached_result t old new (Ok answer) does err r = subst IsReached (ap (λ (x : State × Answer). x.0) (sym (does_by old new t answer does))) (reached_more old t r)
reached_result t old new (Err e) does err r = subst IsReached (sym err) r

-- the opening with no slot made and empty links
pub linked-replicate : (n : ℕ) → linked_values (replicate n None) ≡ []
linked-replicate zero = refl
linked-replicate (suc n) = linked-replicate n

pub opening_reached : (links : ℕ) → IsReached (opening 0 (replicate links None))
opening_reached links =
    record {
      slots = 0;
      links = replicate links None;
      events = [];
      answers = [];
      distinct = ap are_distinct (linked-replicate links);
      leads = no_event (opening 0 (replicate links None));
    }
