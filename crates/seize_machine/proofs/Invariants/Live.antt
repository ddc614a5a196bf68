-- A batch has values as long as it is held, and where each value stands in a reached state.
use Rattle.std.proofs.Common.{◌≡◌, ◌≢◌, ℕ, ◌+◌, ◌<◌, ◌≤◌, ℤ, pos, ◌+ℤ◌, ◌-ℤ◌, Bool, true, false, ◌==◌, if◌then◌else◌, nat_lt, List, [], ◌∷◌, ◌++◌, length, get_or, set, replicate, Option, Some, None, refl, sym, ◌∙◌, ap, subst, ◌⊎◌, inl, inr, arith, ◌&&◌}
use Rattle.std.specs.Prelude.{option_to_list}
use Rattle.std.specs.List.{Contains}
use Rattle.std.proofs.lemmas.Int.{ints}
use Rattle.std.proofs.lemmas.List.{get_or-set_other, get_or_past, get_or_push, get_or_append_left, get_or-replicate, length-set, length_push, length-replicate}
use Rattle.std.proofs.lemmas.List.Sums.{sum_by-set, sum_by_push, get_or-le-sum_by}
use Rattle.seize_machine.specs.Machine.State.{no_slot, no_batch, State, Slot, Batch, Progress, Head, Inactive, Active, Place, Mark, Try, Add, Rest, slot_at, head_at, batch_at, link_at, is_active, waiting_at, has, opening}
use Rattle.seize_machine.specs.Machine.Event.{Event}
use Rattle.seize_machine.specs.Machine.Next.{look, looked, marked_place, is_zero, flushing_at, taken_slot, taken_call, is_empty}
use Rattle.seize_machine.specs.Machine.History.{IsReached}
use Rattle.seize_machine.specs.Machine.Laws.{IsHeld}
use Rattle.seize_machine.specs.declared.machine.event.Answer.{Answer}
use Rattle.seize_machine.specs.declared.machine.event.Job.{Job}
use Rattle.seize_machine.specs.declared.machine.event.Job.TheVariants.{Retire, Flush, Leave, Refresh, Gather}
use Rattle.seize_machine.proofs.Steps.Relation.{Step, Stands, beginning, some_is, is_true, eq_true, lt_true, taken}
use Rattle.seize_machine.proofs.Counting.Sums.{one, occ, has_none, has_some, sum_nothing}
use Rattle.seize_machine.proofs.Counting.Occurrences.{some_contained}
use Rattle.seize_machine.proofs.Invariants.Counts.{CountedIn, of_calls, owns, owns-wins, wins, walks, listed, change, in_range, idle_range, idle_call, in_call_of, wins_alone, place_owns, place_walks, place_quiet, look_walks, look_owns, looked_same, emptied, head_range, get_or_push_other}
use Rattle.seize_machine.proofs.Invariants.Once.{Once, in_batches, in_links}
use Rattle.seize_machine.proofs.Invariants.Kept.{at_set, pushed, starts, unowned_at_zero, zero_is}
use Rattle.seize_machine.proofs.Invariants.Always.{Inv, sum_replicate}
use Rattle.seize_machine.proofs.Invariants.Always as always
use Rattle.seize_machine.proofs.Invariants.Reached.{reached_inv}
use Rattle.seize_machine.proofs.Invariants.States.{reached_holds, no_lists, no_walks, owner_is, owner_range}

-- A call that reads the heads has a batch that is not empty.

abbrev PlaceFull : ℕ → Place → Type 0
PlaceFull l (Mark next note marks) = 1 ≤ l
PlaceFull l _ = Unit {0}

abbrev CallFull : ℕ → Option Progress → Type 0
CallFull l None = Unit {0}
CallFull l (Some call) = PlaceFull l call.place

abbrev SlotFull : Slot → Type 0
SlotFull slot = CallFull (length slot.batch) slot.call

abbrev Marking : State → Type 0
Marking st = (s : ℕ) → SlotFull (slot_at st s)

marking_set : (st : State) (i : ℕ) (new : Slot) → Marking st → SlotFull new → (s : ℕ) → SlotFull (get_or (set st.slots i new) s no_slot)
marking_set st i new c h s = at_set SlotFull st.slots i s new no_slot (λ same r. h) (c s)

look_full : (l b won : ℕ) (marks : List ℕ) → PlaceFull l (look b won marks)
look_full l b won [] = tt
look_full l b won (m ∷ marks) = tt

looked_full : (l b won m : ℕ) (head : Head) (later : List ℕ) → PlaceFull l (looked head b won m later)
looked_full l b won m Inactive later = look_full l b won later
looked_full l b won m (Active waiting) later = tt

marked_full : (l n note : ℕ) (active : Bool) (marks batch : List ℕ) → 1 ≤ l → PlaceFull l (marked_place active n note marks batch)
marked_full l n note false marks batch h = h
marked_full l n note true marks batch h = go (nat_lt (length marks) (length batch))
  where
    go : (b : Bool) → PlaceFull l (if b then Mark (n + 1) note (marks ++ n ∷ []) else Rest [] [])
    go true = h
    go false = tt

flushing_full : (n : ℕ) (batch : List ℕ) → PlaceFull (length batch) (flushing_at n batch)
flushing_full n [] = tt
flushing_full n (v ∷ batch) = omega arith

begun_full : (st : State) (s : ℕ) (job : Job) (place : Place) → beginning st s job ≡ Some place → PlaceFull (length (slot_at st s).batch) place
begun_full st s (Retire v) place e = absurd (cc)
begun_full st s Flush place e = subst (PlaceFull (length (slot_at st s).batch)) (some_is _ _ e) (flushing_full (length st.slots) (slot_at st s).batch)
begun_full st s Gather place e = absurd (cc)
begun_full st s Leave place e = subst (PlaceFull (length (slot_at st s).batch)) (some_is _ _ e) tt
begun_full st s Refresh place e = subst (PlaceFull (length (slot_at st s).batch)) (some_is _ _ e) tt

put_full : (n v : ℕ) (batch : List ℕ) (place : Place) (P : Type 0) → ((place ≡ Rest [] []) × P) ⊎ (place ≡ Mark 0 n []) → PlaceFull (length (batch ++ v ∷ [])) place
put_full n v batch place P (inl e) = subst (PlaceFull (length (batch ++ v ∷ []))) (sym e.0) tt
put_full n v batch place P (inr e) = subst (PlaceFull (length (batch ++ v ∷ []))) (sym e) (omega (arith, length_push batch v))

taken_full : (size n : ℕ) (rest : List ℕ) → SlotFull (taken_slot size n rest)
taken_full size n rest = taken (λ o. SlotFull (record { used = true; batch = rest; call = o })) size n rest (λ h. tt) (λ h. omega arith)

gathered_full : (rest batch : List ℕ) → (is_empty batch && is_empty rest) ≡ false → 1 ≤ length (rest ++ batch)
gathered_full [] [] some = absurd (cc)
gathered_full [] (v ∷ batch) some = omega arith
gathered_full (v ∷ rest) batch some = omega arith

marking_step : (size : ℕ) (st : State) (event : Event) (d : State × Answer) → Step size st event d → Marking st → Marking d.0
marking_step size st event _ (Step.took_new s e least) c = λ t. pushed SlotFull st.slots t (taken_slot size (length st.slots + 1) st.rest) no_slot (λ same. taken_full size (length st.slots + 1) st.rest) (c t)
marking_step size st event _ (Step.took_old s r e least) c = marking_set st s (taken_slot size (length st.slots) st.rest) c (taken_full size (length st.slots) st.rest)
marking_step size st event _ (Step.gave s e off ends) c = marking_set st s no_slot c tt
marking_step size st event _ (Step.gathered s e off lone some) c = marking_set st s _ c (gathered_full st.rest (slot_at st s).batch some)
marking_step size st event _ (Step.entered s e off) c = c
marking_step size st event _ (Step.begun_retire s v e new) c = marking_set st s _ c tt
marking_step size st event _ (Step.begun_other s job place e which exact) c = marking_set st s (record (slot_at st s) { call = Some (record { place = place; queue = [] }) }) c (begun_full st s job place exact.1)
marking_step size st event _ (Step.put s v from before after place e which to after_is) c =
    marking_set st s (record { used = (slot_at st s).used; batch = (slot_at st s).batch ++ v ∷ []; call = Some (record { place = place; queue = after }) }) c (put_full (length st.slots) v (slot_at st s).batch place _ to)
marking_step size st event _ (Step.marked s n next note marks queue e r k) c =
    let f : 1 ≤ length (slot_at st s).batch = rw e at (c s) in
    marking_set st s (record (slot_at st s) { call = Some (record { place = marked_place (is_active (head_at st n)) n note marks (slot_at st s).batch; queue = queue }) }) c (marked_full _ n note (is_active (head_at st n)) marks (slot_at st s).batch f)
marking_step size st event _ (Step.looked_at s a won m later queue e) c =
    marking_set st s (record (slot_at st s) { call = Some (record { place = looked (head_at st m) a won m later; queue = queue }) }) c (looked_full _ a won m (head_at st m) later)
marking_step size st event _ (Step.detached s next note marks queue e le) c =
    marking_set st s (record { used = (slot_at st s).used; batch = []; call = Some (record { place = look (length st.batches) 0 marks; queue = queue }) }) c (look_full 0 (length st.batches) 0 marks)
marking_step size st event _ (Step.inserted s m a won later saw queue waiting e head_is) c =
    marking_set st s (record (slot_at st s) { call = Some (record { place = look a (won + 1) later; queue = queue }) }) c (look_full _ a (won + 1) later)
marking_step size st event _ (Step.lost s m a won later saw queue e differs) c = marking_set st s _ c tt
marking_step size st event _ (Step.added s a won queue d e h) c = subst (λ (d : State × Answer). Marking d.0) (some_is _ _ h) (marking_set st s _ c tt)
marking_step size st event _ (Step.subtracted s a walk queue d e h) c = subst (λ (d : State × Answer). Marking d.0) (some_is _ _ h) (marking_set st s _ c tt)
marking_step size st event _ (Step.swapped_out s stays queue e) c = marking_set st s _ c tt
marking_step size st event _ (Step.handed s v puts given walk queue e new) c = marking_set st s _ c tt
marking_step size st event _ (Step.returned s e) c = marking_set st s _ c tt
marking_step size st event _ (Step.read s l e) c = c
marking_step size st event _ (Step.exchanged s l exchange new e fresh exact) c = c
marking_step size st event _ (Step.compared s l exchange e exact) c = c

pub opening_slot : (slots s : ℕ) (links : List (Option ℕ)) → slot_at (opening slots links) s ≡ no_slot
opening_slot slots s links = none (is_true (nat_lt s slots))
  where
    none : (nat_lt s slots ≡ true) ⊎ (nat_lt s slots ≡ false) → slot_at (opening slots links) s ≡ no_slot
    none (inl h) = get_or-replicate slots s no_slot no_slot (grind arith)
    none (inr h) = let past : slots ≤ s = grind arith in get_or_past (replicate slots no_slot) s no_slot (omega (arith, length-replicate slots no_slot))

reached_marking : (st : State) → IsReached st → Marking st
reached_marking = reached_holds Marking (λ slots links distinct s. subst SlotFull (sym (opening_slot slots s links)) tt) (λ st t d r step c. marking_step t.size st t.event d step c)

pub marking_full : (st : State) (s next note : ℕ) (marks queue : List ℕ) → IsReached st → Stands st s (Mark next note marks) queue → 1 ≤ length (slot_at st s).batch
marking_full st s next note marks queue r e = rw e at (reached_marking st r s)

-- A batch that is held has values.

-- how often b is held
abbrev holders : ℕ → List Slot → List Head → ℕ
holders b slots heads = listed b heads + of_calls (walks b) slots + of_calls (owns b) slots

abbrev Full : ℕ → List Slot → List Head → List Batch → Type 0
Full b slots heads batches = 1 ≤ holders b slots heads → 1 ≤ length (get_or batches b no_batch).values

abbrev FullIn : ℕ → State → Type 0
FullIn b st = Full b st.slots st.heads st.batches

-- a change of one slot's record that makes no holder
same_holders : (b : ℕ) (st : State) (s : ℕ) (new : Slot) (o : Option Progress) → s < length st.slots → (slot_at st s).call ≡ o
    → walks b new.call ≤ walks b o → owns b new.call ≤ owns b o → FullIn b st → Full b (set st.slots s new) st.heads st.batches
same_holders b st s new o r e walk own c = λ h. c (omega (arith, change (walks b) st s new o r e, change (owns b) st s new o r e))

detached_full : (b : ℕ) (st : State) (s next note : ℕ) (marks queue : List ℕ) → Stands st s (Mark next note marks) queue → 1 ≤ length (slot_at st s).batch → FullIn b st
    → Full b (set st.slots s (record { used = (slot_at st s).used; batch = []; call = Some (record { place = look (length st.batches) 0 marks; queue = queue }) })) st.heads (st.batches ++ record { values = (slot_at st s).batch; count = pos 0 } ∷ [])
detached_full b st s next note marks queue e some c = go (is_true (length st.batches == b))
  where
    n : ℕ
    n = length st.batches

    new : Slot
    new = record { used = (slot_at st s).used; batch = []; call = Some (record { place = look n 0 marks; queue = queue }) }

    batch : Batch
    batch = record { values = (slot_at st s).batch; count = pos 0 }

    go : ((n == b) ≡ true) ⊎ ((n == b) ≡ false) → Full b (set st.slots s new) st.heads (st.batches ++ batch ∷ [])
    go (inl t) = λ h. rw (get_or_push st.batches batch no_batch b (eq_true n b t)) some
    go (inr t) =
        let other : length st.batches ≢ b = grind arith in
        let own : one (n == b) ≡ 0 = ap one t in
        let k : Full b (set st.slots s new) st.heads st.batches = same_holders b st s new _ (in_range st s _ e) e (omega (arith, look_walks b n 0 marks)) (omega (arith, look_owns b n 0 marks)) c in
        rw (get_or_push_other st.batches batch no_batch b other) k

inserted_full : (b : ℕ) (st : State) (s m a won : ℕ) (later saw queue waiting : List ℕ) → Stands st s (Try a won m later saw) queue → head_at st m ≡ Active waiting → FullIn b st
    → Full b (set st.slots s (record (slot_at st s) { call = Some (record { place = look a (won + 1) later; queue = queue }) })) (set st.heads m (Active (a ∷ waiting))) st.batches
inserted_full b st s m a won later saw queue waiting e head_is c =
    λ h. c (omega (arith, l, change (walks b) st s new _ r e, change (owns b) st s new _ r e, look_walks b a (won + 1) later, look_owns b a (won + 1) later, in_call_of b st s (Try a won m later saw) queue e))
  where
    new : Slot
    new = record (slot_at st s) { call = Some (record { place = look a (won + 1) later; queue = queue }) }

    r : s < length st.slots
    r = in_range st s _ e

    l : listed b (set st.heads m (Active (a ∷ waiting))) + occ b waiting ≡ listed b st.heads + (one (a == b) + occ b waiting)
    l = rw head_is at (sum_by-set (λ head. occ b (waiting_at head)) st.heads m (Active (a ∷ waiting)) Inactive (head_range st m waiting head_is))

-- a count put anew, where nobody holds the batch any more if it is given up
settled : (b : ℕ) (st : State) (i a : ℕ) (from : Place) (up : Bool) (count : ℤ) (given walk queue : List ℕ) → Stands st i from queue → occ b walk ≤ place_walks b from
    → (up ≡ true → a ≡ b → holders b (set st.slots i (record (slot_at st i) { call = Some (record { place = Rest given walk; queue = queue }) })) st.heads ≡ 0) → FullIn b st
    → Full b (set st.slots i (record (slot_at st i) { call = Some (record { place = Rest given walk; queue = queue }) })) st.heads (set st.batches a (record { values = if up then [] else (batch_at st a).values; count = count }))
settled b st i a from up count given walk queue e walked free c =
    at_set (λ batch. 1 ≤ holders b (set st.slots i new) st.heads → 1 ≤ length batch.values) st.batches a b (record { values = if up then [] else (batch_at st a).values; count = count }) no_batch (λ same r. here up free same) k
  where
    new : Slot
    new = record (slot_at st i) { call = Some (record { place = Rest given walk; queue = queue }) }

    k : Full b (set st.slots i new) st.heads st.batches
    k = same_holders b st i new _ (in_range st i _ e) e walked (omega arith) c

    here : (up : Bool) → (up ≡ true → a ≡ b → holders b (set st.slots i new) st.heads ≡ 0) → a ≡ b → 1 ≤ holders b (set st.slots i new) st.heads → 1 ≤ length (if up then [] else (batch_at st a).values)
    here true free same h = absurd (omega (arith, free refl same))
    here false free same h = subst (λ j. 1 ≤ length (batch_at st j).values) (sym same) (k h)

-- a count that an add brings to 0 leaves no holder
add_frees : (b : ℕ) (st : State) (i a won : ℕ) (given queue : List ℕ) → Stands st i (Add a won) queue → CountedIn b st → is_zero ((batch_at st a).count +ℤ pos won) ≡ true → a ≡ b
    → holders b (set st.slots i (record (slot_at st i) { call = Some (record { place = Rest given []; queue = queue }) })) st.heads ≡ 0
add_frees b st i a won given queue e c z same =
    let t : (a == b) ≡ true = grind arith in
    let own : one (a == b) ≡ 1 = ap one t in
    let won_is : (if a == b then won else 0) ≡ won = ap (λ q. if q then won else 0) t in
    let all : of_calls (wins b) st.slots ≡ won = wins_alone b st i (Add a won) queue e c own ∙ won_is in
    let zero : (batch_at st b).count +ℤ pos won ≡ pos 0 = subst (λ j. (batch_at st j).count +ℤ pos won ≡ pos 0) same (zero_is _ z) in
    omega (arith, ints, c.balance, c.alone, change (walks b) st i new _ (in_range st i _ e) e, change (owns b) st i new _ (in_range st i _ e) e)
  where
    new : Slot
    new = record (slot_at st i) { call = Some (record { place = Rest given []; queue = queue }) }

-- and so does one that a walk brings to 0
sub_frees : (b : ℕ) (st : State) (i a : ℕ) (given walk queue : List ℕ) → Stands st i (Rest [] (a ∷ walk)) queue → Inv st → is_zero ((batch_at st a).count -ℤ pos 1) ≡ true → a ≡ b
    → holders b (set st.slots i (record (slot_at st i) { call = Some (record { place = Rest given walk; queue = queue }) })) st.heads ≡ 0
sub_frees b st i a given walk queue e v z same =
    let t : (a == b) ≡ true = grind arith in
    let own : one (a == b) ≡ 1 = ap one t in
    let c : CountedIn b st = v.sound.counts b in
    let none : of_calls (owns b) st.slots ≡ 0 = subst (λ j. of_calls (owns j) st.slots ≡ 0) same (unowned_at_zero a walk queue st i v.sound e z) in
    let unused : of_calls (wins b) st.slots ≡ 0 = sum_nothing (λ slot. wins b slot.call) (λ slot. owns b slot.call) (λ slot. owns-wins b slot.call) st.slots none in
    let zero : (batch_at st b).count -ℤ pos 1 ≡ pos 0 = subst (λ j. (batch_at st j).count -ℤ pos 1 ≡ pos 0) same (zero_is _ z) in
    omega (arith, ints, c.balance, change (walks b) st i new _ (in_range st i _ e) e, change (owns b) st i new _ (in_range st i _ e) e)
  where
    new : Slot
    new = record (slot_at st i) { call = Some (record { place = Rest given walk; queue = queue }) }

taken_none : (b size n : ℕ) (rest : List ℕ) → (walks b (taken_call size n rest) ≡ 0) × (owns b (taken_call size n rest) ≡ 0)
taken_none b size n rest = taken (λ o. (walks b o ≡ 0) × (owns b o ≡ 0)) size n rest (λ h. (refl, refl)) (λ h. (refl, refl))

full_step : (b size : ℕ) (st : State) (event : Event) (d : State × Answer) → Step size st event d → Inv st → Marking st → FullIn b st → FullIn b d.0
full_step b size st event _ (Step.took_new s e least) v m c =
    let new : Slot = taken_slot size (length st.slots + 1) st.rest in
    let q : (walks b new.call ≡ 0) × (owns b new.call ≡ 0) = taken_none b size (length st.slots + 1) st.rest in
    λ h. c (omega (arith, q.0, q.1, sum_by_push (λ slot. walks b slot.call) st.slots new, sum_by_push (λ slot. owns b slot.call) st.slots new, sum_by_push (λ head. occ b (waiting_at head)) st.heads Inactive))
full_step b size st event _ (Step.took_old s r e least) v m c =
    let q : _ × _ = taken_none b size (length st.slots) st.rest in
    same_holders b st s (taken_slot size (length st.slots) st.rest) (slot_at st s).call r refl (omega (arith, q.0)) (omega (arith, q.1)) c
full_step b size st event _ (Step.gave s e off ends) v m c = same_holders b st s no_slot (slot_at st s).call (idle_range st s e) refl (omega arith) (omega arith) c
full_step b size st event _ (Step.gathered s e off lone some) v m c = same_holders b st s _ (slot_at st s).call (idle_range st s e) refl (omega arith) (omega arith) c
full_step b size st event _ (Step.entered s e off) v m c = λ h. c (omega (arith, emptied b st s (Active []) refl))
full_step b size st event _ (Step.begun_retire s w e new) v m c = same_holders b st s _ None (idle_range st s e) (idle_call (slot_at st s) e) (omega arith) (omega arith) c
full_step b size st event _ (Step.begun_other s job place e which exact) v m c =
    let q : (place_walks b place ≤ 0) × (place_owns b place ≤ 0) = starts (λ place. (place_walks b place ≤ 0) × (place_owns b place ≤ 0)) (length st.slots) (omega arith, omega arith) (omega arith, omega arith) (omega arith, omega arith) (omega arith, omega arith) place which in
    same_holders b st s (record (slot_at st s) { call = Some (record { place = place; queue = [] }) }) None (idle_range st s e) (idle_call (slot_at st s) e) q.0 q.1 c
full_step b size st event _ (Step.put s w from before after place e which to after_is) v m c =
    let q : (place_walks b place ≡ 0) × (place_owns b place ≡ 0) = grind arith in
    same_holders b st s (record { used = (slot_at st s).used; batch = (slot_at st s).batch ++ w ∷ []; call = Some (record { place = place; queue = after }) }) _ (in_range st s _ e) e (omega (arith, q.0)) (omega (arith, q.1)) c
full_step b size st event _ (Step.marked s n next note marks queue e r k) v m c =
    let q : _ × _ × _ = place_quiet b (is_active (head_at st n)) n note marks (slot_at st s).batch in
    same_holders b st s _ _ (in_range st s _ e) e (omega (arith, q.0)) (omega (arith, q.1)) c
full_step b size st event _ (Step.looked_at s a won n later queue e) v m c =
    let q : _ × _ × _ = looked_same b (head_at st n) a won n later in
    same_holders b st s _ _ (in_range st s _ e) e (omega (arith, q.0)) (omega (arith, q.1)) c
full_step b size st event _ (Step.detached s next note marks queue e le) v m c = detached_full b st s next note marks queue e (rw e at (m s)) c
full_step b size st event _ (Step.inserted s n a won later saw queue waiting e head_is) v m c = inserted_full b st s n a won later saw queue waiting e head_is c
full_step b size st event _ (Step.lost s n a won later saw queue e differs) v m c = same_holders b st s _ _ (in_range st s _ e) e (omega arith) (omega arith) c
full_step b size st event _ (Step.added s a won queue d e h) v m c =
    subst (λ (d : State × Answer). FullIn b d.0) (some_is _ _ h) (settled b st s a (Add a won) _ _ _ [] queue e (omega arith) (λ z same. add_frees b st s a won _ queue e (v.sound.counts b) z same) c)
full_step b size st event _ (Step.subtracted s a walk queue d e h) v m c =
    subst (λ (d : State × Answer). FullIn b d.0) (some_is _ _ h) (settled b st s a (Rest [] (a ∷ walk)) _ _ _ walk queue e (omega arith) (λ z same. sub_frees b st s a _ walk queue e v z same) c)
full_step b size st event _ (Step.swapped_out s stays queue e) v m c =
    let new : Slot = record (slot_at st s) { call = Some (record { place = Rest [] (waiting_at (head_at st s)); queue = queue }) } in
    λ h. c (omega (arith, emptied b st s (if stays then Active [] else Inactive) (none_in stays), change (walks b) st s new _ (in_range st s _ e) e, change (owns b) st s new _ (in_range st s _ e) e))
  where
    none_in : (stays : Bool) → occ b (waiting_at (if stays then Active [] else Inactive)) ≡ 0
    none_in true = refl
    none_in false = refl
full_step b size st event _ (Step.handed s w puts given walk queue e new) v m c = same_holders b st s _ _ (in_range st s _ e) e (omega arith) (omega arith) c
full_step b size st event _ (Step.returned s e) v m c = same_holders b st s (record (slot_at st s) { call = None }) _ (in_range st s _ e) e (omega arith) (omega arith) c
full_step b size st event _ (Step.read s l e) v m c = c
full_step b size st event _ (Step.exchanged s l exchange new e fresh exact) v m c = c
full_step b size st event _ (Step.compared s l exchange e exact) v m c = c

opening_full : (slots : ℕ) (links : List (Option ℕ)) (b : ℕ) → FullIn b (opening slots links)
opening_full slots links b =
    let x : _ ≡ _ = sum_replicate (λ slot. walks b slot.call) slots no_slot refl in
    let y : _ ≡ _ = sum_replicate (λ slot. owns b slot.call) slots no_slot refl in
    let l : _ ≡ _ = sum_replicate (λ head. occ b (waiting_at head)) slots Inactive refl in
    λ h. absurd (omega arith)

reached_full : (st : State) → IsReached st → (b : ℕ) → FullIn b st
reached_full = reached_holds (λ st. (b : ℕ) → FullIn b st) (λ slots links distinct b. opening_full slots links b) (λ st t d r step c b. full_step b t.size st t.event d step (reached_inv st r) (reached_marking st r) (c b))

-- who holds b counts
held_counts : (st : State) (b : ℕ) → IsHeld st b → 1 ≤ holders b st.slots st.heads
held_counts st b held = go (is_true (nat_lt 0 (holders b st.slots st.heads)))
  where
    nobody : holders b st.slots st.heads ≡ 0 → IsHeld st b → ⊥
    nobody none (inl h) = no_lists st b h.0 (omega arith) h.1
    nobody none (inr (inl h)) = no_walks st b h.0 (omega arith) h.1
    nobody none (inr (inr h)) =
        let own : 1 ≤ owns b (slot_at st h.0).call = owner_is b _ h.1 in
        omega (arith, get_or-le-sum_by (λ slot. owns b slot.call) st.slots h.0 no_slot (owner_range b h.0 st own))

    go : (nat_lt 0 (holders b st.slots st.heads) ≡ true) ⊎ (nat_lt 0 (holders b st.slots st.heads) ≡ false) → 1 ≤ holders b st.slots st.heads
    go (inl t) = omega (arith, lt_true _ _ t)
    go (inr t) = absurd (nobody (grind arith) held)

pub held_full : (st : State) → IsReached st → (b : ℕ) → IsHeld st b → 1 ≤ length (batch_at st b).values
held_full st r b held = reached_full st r b (held_counts st b held)

pub empty_zero : (st : State) → IsReached st → (b : ℕ) → (batch_at st b).values ≡ [] → (batch_at st b).count ≡ pos 0
empty_zero st r b empty =
    let c : CountedIn b st = (reached_inv st r).sound.counts b in
    let none : holders b st.slots st.heads ≡ 0 = nobody _ (reached_full st r b) in
    let unowned : of_calls (owns b) st.slots ≡ 0 = omega arith in
    let unused : of_calls (wins b) st.slots ≡ 0 = sum_nothing (λ slot. wins b slot.call) (λ slot. owns b slot.call) (λ slot. owns-wins b slot.call) st.slots unowned in
    omega (arith, ints, c.balance)
  where
    nobody : (k : ℕ) → (1 ≤ k → 1 ≤ length (batch_at st b).values) → k ≡ 0
    nobody k full =
        let short : length (batch_at st b).values ≡ 0 = ap (λ (values : List ℕ). length values) empty in
        grind arith

-- What an event does to the values of a batch, and to those reclaimed.

settled_values : (b : ℕ) (st : State) (a : ℕ) (up : Bool) (count : ℤ) → b < length st.batches
    → ((get_or (set st.batches a (record { values = if up then [] else (batch_at st a).values; count = count })) b no_batch).values ≡ (batch_at st b).values)
    ⊎ ((get_or (set st.batches a (record { values = if up then [] else (batch_at st a).values; count = count })) b no_batch).values ≡ [])
settled_values b st a up count r =
    at_set (λ batch. (batch.values ≡ (batch_at st b).values) ⊎ (batch.values ≡ [])) st.batches a b (record { values = if up then [] else (batch_at st a).values; count = count }) no_batch (λ same within. here up same) (inl refl)
  where
    here : (up : Bool) → a ≡ b → ((if up then [] else (batch_at st a).values) ≡ (batch_at st b).values) ⊎ ((if up then [] else (batch_at st a).values) ≡ [])
    here true same = inr refl
    here false same = inl (ap (λ j. (batch_at st j).values) same)

pub values_kept : (b size : ℕ) (st : State) (event : Event) (d : State × Answer) → Step size st event d → b < length st.batches
    → ((batch_at d.0 b).values ≡ (batch_at st b).values) ⊎ ((batch_at d.0 b).values ≡ [])
values_kept b size st event _ (Step.detached s next note marks queue e le) r = inl (ap (λ (batch : Batch). batch.values) (get_or_append_left st.batches _ no_batch b r))
values_kept b size st event _ (Step.added s a won queue d e h) r =
    subst (λ (d : State × Answer). ((batch_at d.0 b).values ≡ (batch_at st b).values) ⊎ ((batch_at d.0 b).values ≡ [])) (some_is _ _ h) (settled_values b st a _ _ r)
values_kept b size st event _ (Step.subtracted s a walk queue d e h) r =
    subst (λ (d : State × Answer). ((batch_at d.0 b).values ≡ (batch_at st b).values) ⊎ ((batch_at d.0 b).values ≡ [])) (some_is _ _ h) (settled_values b st a _ _ r)
values_kept b size st event _ _ r = inl refl

-- whether a value is in a list, by how often it stands there
pub has_if : (v : ℕ) (xs : List ℕ) → 1 ≤ occ v xs → has v xs ≡ true
has_if v xs some = go (is_true (has v xs))
  where
    go : (has v xs ≡ true) ⊎ (has v xs ≡ false) → has v xs ≡ true
    go (inl t) = t
    go (inr t) = absurd (omega (arith, has_none v xs t))

hasnt_if : (v : ℕ) (xs : List ℕ) → occ v xs ≡ 0 → has v xs ≡ false
hasnt_if v xs none = go (is_true (has v xs))
  where
    go : (has v xs ≡ true) ⊎ (has v xs ≡ false) → has v xs ≡ false
    go (inl t) = absurd (omega (arith, has_some v xs t))
    go (inr t) = t

pub gone_grows : (v size : ℕ) (st : State) (event : Event) (d : State × Answer) → Step size st event d → has v st.gone ≡ true → has v (d.0).gone ≡ true
gone_grows v size st event d step h = has_if v (d.0).gone (omega (arith, has_some v st.gone h, always.gone_grows v size st event d step))

-- Where a value stands.

-- a value that stands somewhere was named: k is how often it stands there
named_if : (v k : ℕ) (named : List ℕ) → 1 ≤ k → (occ v named ≡ 0 → k ≡ 0) → has v named ≡ true
named_if v k named some unnamed = go (is_true (has v named))
  where
    go : (has v named ≡ true) ⊎ (has v named ≡ false) → has v named ≡ true
    go (inl t) = t
    go (inr t) = absurd (omega (arith, unnamed (has_none v named t)))

batch_range : (st : State) (b v : ℕ) → 1 ≤ occ v (batch_at st b).values → b < length st.batches
batch_range st b v some = go (is_true (nat_lt b (length st.batches)))
  where
    go : (nat_lt b (length st.batches) ≡ true) ⊎ (nat_lt b (length st.batches) ≡ false) → b < length st.batches
    go (inl t) = lt_true _ _ t
    go (inr t) =
        let past : length st.batches ≤ b = grind arith in
        let none : occ v (batch_at st b).values ≡ 0 = ap (λ (batch : Batch). occ v batch.values) (get_or_past st.batches b no_batch past) in
        absurd (omega arith)

link_range : (st : State) (l v : ℕ) → link_at st l ≡ Some v → l < length st.links
link_range st l v e = grind (arith, get_or_past st.links l None)

-- a value of one retired batch, or of one link, stands in them all together
batched : (st : State) (b v : ℕ) → Contains (batch_at st b).values v → 1 ≤ in_batches v st.batches
batched st b v h =
    let some : 1 ≤ occ v (batch_at st b).values = some_contained v _ h in
    omega (arith, get_or-le-sum_by (λ batch. occ v batch.values) st.batches b no_batch (batch_range st b v some))

in_link : (st : State) (l v : ℕ) → link_at st l ≡ Some v → 1 ≤ in_links v st.links
in_link st l v e =
    let own : one (v == v) ≡ 1 = grind arith in
    let here : occ v (option_to_list (link_at st l)) ≡ one (v == v) + 0 = ap (λ (link : Option ℕ). occ v (option_to_list link)) e in
    omega (arith, get_or-le-sum_by (λ link. occ v (option_to_list link)) st.links l None (link_range st l v e))

pub batched_named : (st : State) → IsReached st → (b v : ℕ) → Contains (batch_at st b).values v → (has v st.named ≡ true) × (has v st.gone ≡ false)
batched_named st r b v h =
    let c : Once v st = (reached_inv st r).once v in
    let some : 1 ≤ in_batches v st.batches = batched st b v h in
    (named_if v _ st.named some (λ none. omega (arith, c.all)), hasnt_if v st.gone (omega (arith, c.once)))

pub linked_named : (st : State) → IsReached st → (l v : ℕ) → link_at st l ≡ Some v → (has v st.named ≡ true) × (has v st.gone ≡ false)
linked_named st r l v e =
    let c : Once v st = (reached_inv st r).once v in
    let some : 1 ≤ in_links v st.links = in_link st l v e in
    (named_if v _ st.named some (λ none. omega (arith, c.all)), hasnt_if v st.gone (omega (arith, c.once)))

pub linked_not_loose : (st : State) → IsReached st → (l v : ℕ) → link_at st l ≡ Some v → has v st.loose ≡ false
linked_not_loose st r l v e = hasnt_if v st.loose (omega (arith, in_link st l v e, ((reached_inv st r).once v).once))

pub loose_named : (st : State) → IsReached st → (v : ℕ) → has v st.loose ≡ true → (has v st.named ≡ true) × (has v st.gone ≡ false)
loose_named st r v h =
    let c : Once v st = (reached_inv st r).once v in
    let some : 1 ≤ occ v st.loose = has_some v st.loose h in
    (named_if v _ st.named some (λ none. omega (arith, c.all)), hasnt_if v st.gone (omega (arith, c.once)))

pub gone_named : (st : State) → IsReached st → (v : ℕ) → has v st.gone ≡ true → has v st.named ≡ true
gone_named st r v h =
    let c : Once v st = (reached_inv st r).once v in
    named_if v _ st.named (has_some v st.gone h) (λ none. omega (arith, c.all))

-- two retired batches with a value are one, since it stands in one place
pub batched_once : (st : State) → IsReached st → (b c v : ℕ) → Contains (batch_at st b).values v → Contains (batch_at st c).values v → b ≡ c
batched_once st r b c v in_b in_c = go (is_true (b == c))
  where
    go : ((b == c) ≡ true) ⊎ ((b == c) ≡ false) → b ≡ c
    go (inl t) = eq_true b c t
    go (inr t) =
        let other : c ≢ b = grind arith in
        let here : 1 ≤ occ v (batch_at st b).values = some_contained v _ in_b in
        let there : 1 ≤ occ v (batch_at st c).values = some_contained v _ in_c in
        let rest : in_batches v (set st.batches b no_batch) + occ v (batch_at st b).values ≡ in_batches v st.batches + 0 = sum_by-set (λ batch. occ v batch.values) st.batches b no_batch no_batch (batch_range st b v here) in
        let same : occ v (get_or (set st.batches b no_batch) c no_batch).values ≡ occ v (batch_at st c).values = ap (λ (batch : Batch). occ v batch.values) (get_or-set_other st.batches b c no_batch no_batch other) in
        let more : occ v (get_or (set st.batches b no_batch) c no_batch).values ≤ in_batches v (set st.batches b no_batch) =
        get_or-le-sum_by (λ batch. occ v batch.values) (set st.batches b no_batch) c no_batch (omega (arith, length-set st.batches b no_batch, batch_range st c v there)) in
        absurd (omega (arith, ((reached_inv st r).once v).once))
