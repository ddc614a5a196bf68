-- What holds in every state that a legal list reaches.
use Rattle.std.proofs.Common.{◌≡◌, ◌≢◌, ℕ, ◌+◌, ◌<◌, ◌≤◌, ℤ, pos, neg_ℤ, ◌+ℤ◌, ◌-ℤ◌, ◌≤ℤ◌, Bool, true, false, ◌==◌, if◌then◌else◌, nat_lt, List, [], ◌∷◌, ◌++◌, length, get_or, set, replicate, Option, Some, None, refl, sym, ◌∙◌, ap, subst, ◌⊎◌, inl, inr, arith}
use Rattle.std.proofs.lemmas.Int.{ints}
use Rattle.std.proofs.lemmas.List.{get_or-set_same, get_or-set_other, get_or_past, get_or_push, get_or_append_left, get_or-replicate, length-set, length_push, length-replicate}
use Rattle.std.proofs.lemmas.List.Sums.{get_or-le-sum_by}
use Rattle.seize_machine.specs.Machine.State.{no_slot, no_batch, State, Slot, Batch, Progress, Head, Inactive, Active, Place, Append, Mark, Look, Try, Add, Out, Rest, slot_at, head_at, batch_at, is_active, waiting_at, linked_values, are_distinct, opening}
use Rattle.seize_machine.specs.Machine.Event.{Event, event_slot}
use Rattle.seize_machine.specs.Machine.Next.{Outcome, next, of_call, walking_at, look, looked, marked_place, is_zero, taken_slot, taken_call}
use Rattle.seize_machine.specs.Machine.Laws.{detached_by, walk_of, Lists, Walks}
use Rattle.seize_machine.specs.Machine.History.{Timed, end_of, IsReached}
use Rattle.seize_machine.specs.Machine.Laws.{added_batch}
use Rattle.seize_machine.specs.Machine.Frames.{changes_slot, is_number, changes_batch}
use Rattle.seize_machine.specs.Machine.Code.{AddFits}
use Rattle.seize_machine.specs.declared.machine.event.Answer.{Answer}
use Rattle.seize_machine.specs.declared.machine.event.Answer.TheVariants.{Count}
use Rattle.seize_machine.proofs.Steps.Relation.{Step, Stands, step_of, some_is, is_true, eq_true, taken}
use Rattle.std.specs.List.{Contains}
use Rattle.seize_machine.proofs.Counting.Sums.{one, occ, occ-push, sum_nothing}
use Rattle.seize_machine.proofs.Counting.Occurrences.{some_contained, distinct_if, some_part}
use Rattle.seize_machine.proofs.Invariants.Counts.{CountedIn, of_calls, owns, place_owns, owns-wins, wins, walks, listed, change, in_range, idle_range, idle_call, in_call_of, held_range}
use Rattle.seize_machine.proofs.Invariants.Kept.{at_set, pushed, starts, unowned_at_zero}
use Rattle.seize_machine.proofs.Invariants.Fits.{Fits}
use Rattle.seize_machine.proofs.Steps.Frames.{slot_frame, active_frame}
use Rattle.seize_machine.proofs.Invariants.Always.{Inv, inv_step}
use Rattle.seize_machine.proofs.Laws.Holders.{owner_of}
use Rattle.seize_machine.proofs.Laws.LaterHolders.{walk_is}
use Rattle.seize_machine.proofs.Lists.Histories.{run, from_first}
use Rattle.seize_machine.proofs.Lists.LegalLists.{no_event}
use Rattle.seize_machine.proofs.Invariants.Reached.{ends_at, reached_inv, reached_fits, reached_next, owner_wins, adds}

-- what holds of each opening and stays so with each legal event holds of each state that is reached
pub reached_holds : (P : State → Type 0) → ((slots : ℕ) (links : List (Option ℕ)) → are_distinct (linked_values links) ≡ true → P (opening slots links))
    → ((st : State) (t : Timed) (d : State × Answer) → IsReached st → Step t.size st t.event d → P st → P d.0) → (st : State) → IsReached st → P st
reached_holds P begins goes st r =
    subst P (ends_at st r) (on r.events (opening r.slots r.links) (record { slots = r.slots; links = r.links; events = []; answers = []; distinct = r.distinct; leads = no_event (opening r.slots r.links) }) (begins r.slots r.links r.distinct))
  where
    on : (ts : List Timed) (now : State) → IsReached now → P now → P (end_of now (run now ts))
    on [] now q p = p
    on (t ∷ ts) now q p = go (next t.size now t.event) refl (λ now. on ts now)
      where
        go : (o : Outcome) → next t.size now t.event ≡ o → ((now : State) → IsReached now → P now → P (end_of now (run now ts))) → P (end_of now (from_first o now t ts))
        go None e ih = p
        go (Some d) e ih = ih d.0 (reached_next now t d q e) (goes now t d q (step_of t.size now t.event d e) p)

-- Owners of a batch.

-- of two slots only one has detached a batch
two_owners : (b i s : ℕ) (st : State) → CountedIn b st → i < length st.slots → i ≢ s → 1 ≤ owns b (slot_at st i).call → 1 ≤ owns b (slot_at st s).call → ⊥
two_owners b i s st c r other mine too =
    let none : Slot = no_slot in
    let rest : of_calls (owns b) (set st.slots i none) + owns b (slot_at st i).call ≡ of_calls (owns b) st.slots + 0 = change (owns b) st i none _ r refl in
    let same : get_or (set st.slots i none) s no_slot ≡ slot_at st s = get_or-set_other st.slots i s none no_slot (λ e. other (sym e)) in
    let less : owns b (get_or (set st.slots i none) s no_slot).call ≤ of_calls (owns b) (set st.slots i none) = at_most (is_true (nat_lt s (length (set st.slots i none)))) in
    let mine_is : owns b (get_or (set st.slots i none) s no_slot).call ≡ owns b (slot_at st s).call = ap (λ (slot : Slot). owns b slot.call) same in
    omega (arith, c.alone)
  where
    at_most : (nat_lt s (length (set st.slots i no_slot)) ≡ true) ⊎ (nat_lt s (length (set st.slots i no_slot)) ≡ false) → owns b (get_or (set st.slots i no_slot) s no_slot).call ≤ of_calls (owns b) (set st.slots i no_slot)
    at_most (inl t) = get_or-le-sum_by (λ slot. owns b slot.call) (set st.slots i no_slot) s no_slot (grind arith)
    at_most (inr t) =
        let past : length (set st.slots i no_slot) ≤ s = grind arith in
        let none : owns b (get_or (set st.slots i no_slot) s no_slot).call ≡ 0 = ap (λ (slot : Slot). owns b slot.call) (get_or_past (set st.slots i no_slot) s no_slot past) in
        omega arith

pub owner_range : (b s : ℕ) (st : State) → 1 ≤ owns b (slot_at st s).call → s < length st.slots
owner_range b s st h = go (is_true (nat_lt s (length st.slots)))
  where
    go : (nat_lt s (length st.slots) ≡ true) ⊎ (nat_lt s (length st.slots) ≡ false) → s < length st.slots
    go (inl t) = grind arith
    go (inr t) =
        let past : length st.slots ≤ s = grind arith in
        let none : owns b (slot_at st s).call ≡ 0 = ap (λ (slot : Slot). owns b slot.call) (get_or_past st.slots s no_slot past) in
        absurd (omega arith)

pub owner_is : (b : ℕ) (call : Option Progress) → detached_by call ≡ Some b → 1 ≤ owns b call
owner_is b None e = absurd (cc)
owner_is b (Some call) e = go call.place e
  where
    same : (c : ℕ) → Option.Some c ≡ Some b → 1 ≤ one (c == b)
    same c e = let c_is : c ≡ b = some_is _ _ e in grind arith

    go : (place : Place) → detached_by (Some (record { place = place; queue = call.queue })) ≡ Some b → 1 ≤ place_owns b place
    go (Look c won m later) e = same c e
    go (Try c won m later saw) e = same c e
    go (Add c won) e = same c e
    go (Append v) e = absurd (cc)
    go (Mark n note marks) e = absurd (cc)
    go (Out stays) e = absurd (cc)
    go (Rest given walk) e = absurd (cc)

-- at most one call detaches a batch
pub one_owner : (b i s : ℕ) (st : State) → IsReached st → detached_by (slot_at st i).call ≡ Some b → detached_by (slot_at st s).call ≡ Some b → i ≡ s
one_owner b i s st r e k = go (owner_is b _ e) (owner_is b _ k) (is_true (i == s))
  where
    go : 1 ≤ owns b (slot_at st i).call → 1 ≤ owns b (slot_at st s).call → ((i == s) ≡ true) ⊎ ((i == s) ≡ false) → i ≡ s
    go mine too (inl t) = eq_true i s t
    go mine too (inr t) = absurd (two_owners b i s st ((reached_inv st r).sound.counts b) (owner_range b i st mine) (λ e. grind arith) mine too)

-- the values of a batch stay while another slot's call has detached it and not yet added
values_stay : (b s size : ℕ) (st : State) (event : Event) (d : State × Answer) → Step size st event d → Inv st → event_slot event ≢ s → 1 ≤ owns b (slot_at st s).call
    → (batch_at d.0 b).values ≡ (batch_at st b).values
values_stay b s size st event _ (Step.detached i n note marks queue e le) v other own =
    let c : CountedIn b st = v.sound.counts b in
    let some : owns b (slot_at st s).call ≤ of_calls (owns b) st.slots = get_or-le-sum_by (λ slot. owns b slot.call) st.slots s no_slot (owner_range b s st own) in
    ap (λ (batch : Batch). batch.values) (get_or_append_left st.batches _ no_batch b (held_range b _ _ c.fresh (omega arith)))
values_stay b s size st event _ (Step.added i a won queue d e h) v other own = subst (λ (x : State × Answer). (batch_at x.0 b).values ≡ (batch_at st b).values) (some_is _ _ h) (go (is_true (a == b)))
  where
    x : Batch
    x = record { values = if is_zero ((batch_at st a).count +ℤ pos won) then [] else (batch_at st a).values; count = (batch_at st a).count +ℤ pos won }

    go : ((a == b) ≡ true) ⊎ ((a == b) ≡ false) → (get_or (set st.batches a x) b no_batch).values ≡ (batch_at st b).values
    go (inl t) =
        let mine : owns b (slot_at st i).call ≡ one (a == b) = ap (owns b) e in
        let one_is : one (a == b) ≡ 1 = ap one t in
        absurd (two_owners b i s st (v.sound.counts b) (in_range st i _ e) other (omega arith) own)
    go (inr t) = ap (λ (batch : Batch). batch.values) (get_or-set_other st.batches a b x no_batch (λ k. grind arith))
values_stay b s size st event _ (Step.subtracted i a walk queue d e h) v other own = subst (λ (x : State × Answer). (batch_at x.0 b).values ≡ (batch_at st b).values) (some_is _ _ h) (go (is_true (a == b)) (is_zero count) refl)
  where
    count : ℤ
    count = (batch_at st a).count -ℤ pos 1

    x : Bool → Batch
    x up = record { values = if up then [] else (batch_at st a).values; count = count }

    some : owns b (slot_at st s).call ≤ of_calls (owns b) st.slots
    some = get_or-le-sum_by (λ slot. owns b slot.call) st.slots s no_slot (owner_range b s st own)

    range : b < length st.batches
    range = held_range b _ _ (v.sound.counts b).fresh (omega (arith, some, own))

    go : ((a == b) ≡ true) ⊎ ((a == b) ≡ false) → (up : Bool) → is_zero count ≡ up → (get_or (set st.batches a (x up)) b no_batch).values ≡ (batch_at st b).values
    go (inl t) true z =
        let a_is : a ≡ b = eq_true a b t in
        let none : of_calls (owns a) st.slots ≡ 0 = unowned_at_zero a walk queue st i v.sound e z in
        let none_b : of_calls (owns b) st.slots ≡ 0 = subst (λ a. of_calls (owns a) st.slots ≡ 0) a_is none in
        absurd (omega (arith, some))
    go (inl t) false z =
        let a_is : a ≡ b = eq_true a b t in
        subst (λ a. (get_or (set st.batches a (record { values = (batch_at st a).values; count = (batch_at st a).count -ℤ pos 1 })) b no_batch).values ≡ (batch_at st b).values) (sym a_is)
        (ap (λ (batch : Batch). batch.values) (get_or-set_same st.batches b _ no_batch range))
    go (inr t) up z = ap (λ (batch : Batch). batch.values) (get_or-set_other st.batches a b (x up) no_batch (λ k. grind arith))
values_stay b s size st event _ _ v other own = refl

-- Where calls stand.

-- what holds of a place: whether its slot is active, the values of each batch, how many values the slot's batch has
abbrev PlaceTidy : Bool → (ℕ → ℕ) → ℕ → Place → Type 0
PlaceTidy active values batch (Mark next note marks) = ((v : ℕ) → (occ v marks ≤ 1) × (1 ≤ occ v marks → v < next)) × (length marks ≤ batch)
PlaceTidy active values batch (Look b won m later) = ((v : ℕ) → occ v (m ∷ later) ≤ 1) × (won + 1 + length later ≤ values b)
PlaceTidy active values batch (Try b won m later saw) = ((v : ℕ) → occ v (m ∷ later) ≤ 1) × (won + 1 + length later ≤ values b)
PlaceTidy active values batch (Add b won) = won ≤ values b
PlaceTidy active values batch (Out stays) = active ≡ true
PlaceTidy active values batch _ = Unit {0}

abbrev CallTidy : Bool → (ℕ → ℕ) → ℕ → Option Progress → Type 0
CallTidy active values batch None = Unit {0}
CallTidy active values batch (Some call) = PlaceTidy active values batch call.place

abbrev values_at : State → ℕ → ℕ
values_at st b = length (batch_at st b).values

abbrev SlotTidy : State → ℕ → Type 0
SlotTidy st s = CallTidy (is_active (head_at st s)) (values_at st) (length (slot_at st s).batch) (slot_at st s).call

abbrev Tidy : State → Type 0
Tidy st = (s : ℕ) → SlotTidy st s

-- the same call, where the batches that it owns have the same values
same_tidy : (active : Bool) (new old : ℕ → ℕ) (batch : ℕ) (call : Option Progress) → ((b : ℕ) → 1 ≤ owns b call → new b ≡ old b) → CallTidy active old batch call → CallTidy active new batch call
same_tidy active new old batch None same t = tt
same_tidy active new old batch (Some call) same t = go call.place same t
  where
    mine : (b : ℕ) → 1 ≤ one (b == b)
    mine b = grind arith

    go : (place : Place) → ((b : ℕ) → 1 ≤ place_owns b place → new b ≡ old b) → PlaceTidy active old batch place → PlaceTidy active new batch place
    go (Append v) same t = tt
    go (Mark n note marks) same t = t
    go (Look b won m later) same t = (t.0, omega (arith, t.1, same b (mine b)))
    go (Try b won m later saw) same t = (t.0, omega (arith, t.1, same b (mine b)))
    go (Add b won) same t = omega (arith, t, same b (mine b))
    go (Out stays) same t = t
    go (Rest given walk) same t = tt

look_tidy : (active : Bool) (values : ℕ → ℕ) (batch b won : ℕ) (marks : List ℕ) → ((v : ℕ) → occ v marks ≤ 1) → won + length marks ≤ values b → PlaceTidy active values batch (look b won marks)
look_tidy active values batch b won [] once few = omega arith
look_tidy active values batch b won (m ∷ marks) once few = (once, omega arith)

looked_tidy : (active : Bool) (values : ℕ → ℕ) (batch b won m : ℕ) (head : Head) (later : List ℕ) → ((v : ℕ) → occ v (m ∷ later) ≤ 1) → won + 1 + length later ≤ values b → PlaceTidy active values batch (looked head b won m later)
looked_tidy active values batch b won m Inactive later once few = look_tidy active values batch b won later (λ v. omega (arith, once v)) (omega arith)
looked_tidy active values batch b won m (Active waiting) later once few = (once, few)

marked_tidy : (active on : Bool) (values : ℕ → ℕ) (n next note : ℕ) (marks batch : List ℕ) → next ≤ n → ((v : ℕ) → (occ v marks ≤ 1) × (1 ≤ occ v marks → v < next)) → length marks ≤ length batch
    → PlaceTidy active values (length batch) (marked_place on n note marks batch)
marked_tidy active false values n next note marks batch le once few = (λ v. ((once v).0, λ h. omega (arith, (once v).1 h)), few)
marked_tidy active true values n next note marks batch le once few = go (nat_lt (length marks) (length batch)) refl
  where
    two : (v k : ℕ) → k ≤ 1 → (1 ≤ k → v < next) → k + one (n == v) ≤ 1
    two v k le1 low = grind arith

    lower : (v k : ℕ) → (1 ≤ k → v < next) → 1 ≤ k + one (n == v) → v < n + 1
    lower v k low some = grind arith

    go : (t : Bool) → nat_lt (length marks) (length batch) ≡ t → PlaceTidy active values (length batch) (if t then Mark (n + 1) note (marks ++ n ∷ []) else Rest [] [])
    go true t = (λ v. rw (occ-push v marks n) (two v (occ v marks) (once v).0 (once v).1, lower v (occ v marks) (once v).1), let short : length marks < length batch = grind arith in omega (arith, length_push marks n))
    go false t = tt

next_at : (n next note : ℕ) → (n ≡ next) ⊎ ((note ≤ next) × (next < n)) → next ≤ n
next_at n next note at = grind arith

-- the slot that makes the event
here : (st : State) (heads : List Head) (batches : List Batch) (s : ℕ) (new : Slot) → s < length st.slots
    → CallTidy (is_active (get_or heads s Inactive)) (λ b. length (get_or batches b no_batch).values) (length new.batch) new.call
    → CallTidy (is_active (get_or heads s Inactive)) (λ b. length (get_or batches b no_batch).values) (length (get_or (set st.slots s new) s no_slot).batch) (get_or (set st.slots s new) s no_slot).call
here st heads batches s new r t = rw (get_or-set_same st.slots s new no_slot r) t

of_place : (place : Place) (queue : List ℕ) (st : State) (s : ℕ) → Stands st s place queue → SlotTidy st s → PlaceTidy (is_active (head_at st s)) (values_at st) (length (slot_at st s).batch) place
of_place place queue st s e t = subst (λ (o : Option Progress). CallTidy (is_active (head_at st s)) (values_at st) (length (slot_at st s).batch) o) e t

start_tidy : (active : Bool) (values : ℕ → ℕ) (batch n : ℕ) (place : Place) → active ≡ true → (place ≡ Rest [] []) ⊎ (place ≡ Mark 0 n []) ⊎ (place ≡ Out true) ⊎ (place ≡ Out false) → PlaceTidy active values batch place
start_tidy active values batch n place on which = starts (PlaceTidy active values batch) n tt (λ v. (omega arith, λ h. absurd (omega arith)), omega arith) on on place which

put_tidy : (active : Bool) (values : ℕ → ℕ) (batch n : ℕ) (place : Place) (P : Type 0) → ((place ≡ Rest [] []) × P) ⊎ (place ≡ Mark 0 n []) → PlaceTidy active values batch place
put_tidy active values batch n place P (inl e) = subst (PlaceTidy active values batch) (sym e.0) tt
put_tidy active values batch n place P (inr e) = subst (PlaceTidy active values batch) (sym e) (λ v. (omega arith, λ h. absurd (omega arith)), omega arith)

taken_tidy : (active : Bool) (values : ℕ → ℕ) (size n : ℕ) (rest : List ℕ) → CallTidy active values (length rest) (taken_call size n rest)
taken_tidy active values size n rest = taken (CallTidy active values (length rest)) size n rest (λ h. tt) (λ h. (λ v. (omega arith, λ h. absurd (omega arith)), omega arith))

tidy_own : (size : ℕ) (st : State) (event : Event) (d : State × Answer) → Step size st event d → SlotTidy st (event_slot event) → SlotTidy d.0 (event_slot event)
tidy_own size st event _ (Step.took_new s e least) t =
    let new : Slot = taken_slot size (length st.slots + 1) st.rest in
    let on : Bool = is_active (get_or (st.heads ++ Inactive ∷ []) s Inactive) in
    subst (λ (slot : Slot). CallTidy on (values_at st) (length slot.batch) slot.call) (sym (get_or_push st.slots new no_slot s (sym e))) (taken_tidy on (values_at st) size (length st.slots + 1) st.rest)
tidy_own size st event _ (Step.took_old s r e least) t = here st st.heads st.batches s (taken_slot size (length st.slots) st.rest) r (taken_tidy _ (values_at st) size (length st.slots) st.rest)
tidy_own size st event _ (Step.gave s e off ends) t = here st st.heads st.batches s no_slot (idle_range st s e) tt
tidy_own size st event _ (Step.gathered s e off lone some) t = here st st.heads st.batches s _ (idle_range st s e) (λ v. (omega arith, λ h. absurd (omega arith)), omega arith)
tidy_own size st event _ (Step.entered s e off) t =
    subst (λ (o : Option Progress). CallTidy (is_active (get_or (set st.heads s (Active [])) s Inactive)) (values_at st) (length (slot_at st s).batch) o) (sym (idle_call (slot_at st s) e)) tt
tidy_own size st event _ (Step.begun_retire s v e new) t = here st st.heads st.batches s (record (slot_at st s) { call = Some (record { place = Append v; queue = [] }) }) (idle_range st s e) tt
tidy_own size st event _ (Step.begun_other s job place e which exact) t =
    here st st.heads st.batches s (record (slot_at st s) { call = Some (record { place = place; queue = [] }) }) (idle_range st s e) (start_tidy _ _ _ (length st.slots) place exact.0 which)
tidy_own size st event _ (Step.put s v from before after place e which to after_is) t =
    here st st.heads st.batches s (record { used = (slot_at st s).used; batch = (slot_at st s).batch ++ v ∷ []; call = Some (record { place = place; queue = after }) }) (in_range st s _ e) (put_tidy _ _ _ (length st.slots) place _ to)
tidy_own size st event _ (Step.marked s n next note marks queue e r k) t =
    let p : ((v : ℕ) → (occ v marks ≤ 1) × (1 ≤ occ v marks → v < next)) × (length marks ≤ length (slot_at st s).batch) = of_place (Mark next note marks) queue st s e t in
    here st st.heads st.batches s (record (slot_at st s) { call = Some (record { place = marked_place (is_active (head_at st n)) n note marks (slot_at st s).batch; queue = queue }) }) (in_range st s _ e)
    (marked_tidy (is_active (head_at st s)) (is_active (head_at st n)) (values_at st) n next note marks (slot_at st s).batch (next_at n next note k) p.0 p.1)
tidy_own size st event _ (Step.looked_at s b won m later queue e) t =
    let p : ((v : ℕ) → occ v (m ∷ later) ≤ 1) × (won + 1 + length later ≤ values_at st b) = of_place (Look b won m later) queue st s e t in
    here st st.heads st.batches s (record (slot_at st s) { call = Some (record { place = looked (head_at st m) b won m later; queue = queue }) }) (in_range st s _ e)
    (looked_tidy (is_active (head_at st s)) (values_at st) (length (slot_at st s).batch) b won m (head_at st m) later p.0 p.1)
tidy_own size st event _ (Step.detached s next note marks queue e le) t =
    let p : ((v : ℕ) → (occ v marks ≤ 1) × (1 ≤ occ v marks → v < next)) × (length marks ≤ length (slot_at st s).batch) = of_place (Mark next note marks) queue st s e t in
    let new : Batch = record { values = (slot_at st s).batch; count = pos 0 } in
    let values : ℕ → ℕ = λ b. length (get_or (st.batches ++ new ∷ []) b no_batch).values in
    let same : values (length st.batches) ≡ length (slot_at st s).batch = ap (λ (batch : Batch). length batch.values) (get_or_push st.batches new no_batch (length st.batches) refl) in
    here st st.heads (st.batches ++ new ∷ []) s (record { used = (slot_at st s).used; batch = []; call = Some (record { place = look (length st.batches) 0 marks; queue = queue }) }) (in_range st s _ e)
    (look_tidy (is_active (head_at st s)) values 0 (length st.batches) 0 marks (λ v. (p.0 v).0) (omega (arith, p.1, same)))
tidy_own size st event _ (Step.inserted s m b won later saw queue waiting e head_is) t =
    let p : ((v : ℕ) → occ v (m ∷ later) ≤ 1) × (won + 1 + length later ≤ values_at st b) = of_place (Try b won m later saw) queue st s e t in
    here st (set st.heads m (Active (b ∷ waiting))) st.batches s (record (slot_at st s) { call = Some (record { place = look b (won + 1) later; queue = queue }) }) (in_range st s _ e)
    (look_tidy _ (values_at st) (length (slot_at st s).batch) b (won + 1) later (λ v. omega (arith, p.0 v)) (omega (arith, p.1)))
tidy_own size st event _ (Step.lost s m b won later saw queue e differs) t =
    here st st.heads st.batches s (record (slot_at st s) { call = Some (record { place = Look b won m later; queue = queue }) }) (in_range st s _ e) (of_place (Try b won m later saw) queue st s e t)
tidy_own size st event _ (Step.added s b won queue d e h) t = subst (λ (x : State × Answer). SlotTidy x.0 s) (some_is _ _ h) (here st st.heads _ s _ (in_range st s _ e) tt)
tidy_own size st event _ (Step.subtracted s b walk queue d e h) t = subst (λ (x : State × Answer). SlotTidy x.0 s) (some_is _ _ h) (here st st.heads _ s _ (in_range st s _ e) tt)
tidy_own size st event _ (Step.swapped_out s stays queue e) t = here st _ st.batches s (record (slot_at st s) { call = Some (record { place = Rest [] (waiting_at (head_at st s)); queue = queue }) }) (in_range st s _ e) tt
tidy_own size st event _ (Step.handed s v puts given walk queue e new) t = here st st.heads st.batches s (record (slot_at st s) { call = Some (record { place = Rest given walk; queue = queue ++ puts }) }) (in_range st s _ e) tt
tidy_own size st event _ (Step.returned s e) t = here st st.heads st.batches s (record (slot_at st s) { call = None }) (in_range st s _ e) tt
tidy_own size st event _ (Step.read s l e) t = t
tidy_own size st event _ (Step.exchanged s l exchange new e fresh exact) t = t
tidy_own size st event _ (Step.compared s l exchange e exact) t = t

-- each other slot
tidy_other : (size s : ℕ) (st : State) (event : Event) (d : State × Answer) → Step size st event d → Inv st → changes_slot s event ≡ false → event_slot event ≢ s → SlotTidy st s → SlotTidy d.0 s
tidy_other size s st event d step v n other t =
    let slot_is : slot_at d.0 s ≡ slot_at st s = slot_frame s size st event d step n in
    let active_is : is_active (head_at d.0 s) ≡ is_active (head_at st s) = active_frame s size st event d step n in
    subst (λ (slot : Slot). CallTidy (is_active (head_at d.0 s)) (values_at d.0) (length slot.batch) slot.call) (sym slot_is)
    (subst (λ (on : Bool). CallTidy on (values_at d.0) (length (slot_at st s).batch) (slot_at st s).call) (sym active_is)
    (same_tidy (is_active (head_at st s)) (values_at d.0) (values_at st) (length (slot_at st s).batch) (slot_at st s).call (λ b own. ap (λ (l : List ℕ). length l) (values_stay b s size st event d step v other own)) t))

unchanged : (s : ℕ) (event : Event) → event_slot event ≢ s → changes_slot s event ≡ false
unchanged s event other = go event (false_of (event_slot event) s other)
  where
    false_of : (a b : ℕ) → a ≢ b → (a == b) ≡ false
    false_of a b h = grind arith

    go : (event : Event) → (event_slot event == s) ≡ false → changes_slot s event ≡ false
    go (Event.ReadLink i l) h = refl
    go (Event.ExchangeLink i l exchange) h = refl
    go _ h = h

tidy_step : (size : ℕ) (st : State) (event : Event) (d : State × Answer) → Step size st event d → Inv st → Tidy st → Tidy d.0
tidy_step size st event d step v t s = go (is_true (event_slot event == s))
  where
    go : ((event_slot event == s) ≡ true) ⊎ ((event_slot event == s) ≡ false) → SlotTidy d.0 s
    go (inl k) = subst (SlotTidy d.0) (eq_true _ _ k) (tidy_own size st event d step (t (event_slot event)))
    go (inr k) =
        let other : event_slot event ≢ s = λ e. grind arith in
        tidy_other size s st event d step v (unchanged s event other) other (t s)

opening_tidy : (slots : ℕ) (links : List (Option ℕ)) → Tidy (opening slots links)
opening_tidy slots links s = subst (λ (slot : Slot). CallTidy (is_active (head_at (opening slots links) s)) (values_at (opening slots links)) (length slot.batch) slot.call) (sym (none (is_true (nat_lt s slots)))) tt
  where
    none : (nat_lt s slots ≡ true) ⊎ (nat_lt s slots ≡ false) → slot_at (opening slots links) s ≡ no_slot
    none (inl h) = get_or-replicate slots s no_slot no_slot (grind arith)
    none (inr h) = let past : slots ≤ s = grind arith in get_or_past (replicate slots no_slot) s no_slot (omega (arith, length-replicate slots no_slot))

reached_tidy : (st : State) → IsReached st → Tidy st
reached_tidy = reached_holds Tidy (λ slots links distinct. opening_tidy slots links) (λ st t d r step p. tidy_step t.size st t.event d step (reached_inv st r) p)

-- a call that is about to swap its head out is one of an active slot
pub out_active : (st : State) (s : ℕ) (stays : Bool) (queue : List ℕ) → IsReached st → Stands st s (Out stays) queue → is_active (head_at st s) ≡ true
out_active st s stays queue r e = of_place (Out stays) queue st s e (reached_tidy st r s)

-- the slots marked are distinct, below the next number, and no more than the values of the batch
pub marks_tidy : (st : State) (s next note : ℕ) (marks queue : List ℕ) → IsReached st → Stands st s (Mark next note marks) queue
    → (are_distinct marks ≡ true) × ((v : ℕ) → Contains marks v → v < next) × (length marks ≤ length (slot_at st s).batch)
marks_tidy st s next note marks queue r e =
    let p : ((v : ℕ) → (occ v marks ≤ 1) × (1 ≤ occ v marks → v < next)) × (length marks ≤ length (slot_at st s).batch) = of_place (Mark next note marks) queue st s e (reached_tidy st r s) in
    (distinct_if marks (λ v. (p.0 v).0), λ v c. (p.0 v).1 (some_contained v marks c), p.1)

-- the slots where a call has still to insert its batch are distinct, and with the insertions won no more than the batch's values
pub looks_tidy : (st : State) (s b won m : ℕ) (later queue : List ℕ) → IsReached st → Stands st s (Look b won m later) queue
    → (are_distinct (m ∷ later) ≡ true) × (won + length (m ∷ later) ≤ length (batch_at st b).values)
looks_tidy st s b won m later queue r e =
    let p : ((v : ℕ) → occ v (m ∷ later) ≤ 1) × (won + 1 + length later ≤ values_at st b) = of_place (Look b won m later) queue st s e (reached_tidy st r s) in
    (distinct_if (m ∷ later) p.0, omega (arith, p.1))

pub tries_tidy : (st : State) (s b won m : ℕ) (later saw queue : List ℕ) → IsReached st → Stands st s (Try b won m later saw) queue
    → (are_distinct (m ∷ later) ≡ true) × (won + length (m ∷ later) ≤ length (batch_at st b).values)
tries_tidy st s b won m later saw queue r e =
    let p : ((v : ℕ) → occ v (m ∷ later) ≤ 1) × (won + 1 + length later ≤ values_at st b) = of_place (Try b won m later saw) queue st s e (reached_tidy st r s) in
    (distinct_if (m ∷ later) p.0, omega (arith, p.1))

pub adds_tidy : (st : State) (s b won : ℕ) (queue : List ℕ) → IsReached st → Stands st s (Add b won) queue → won ≤ length (batch_at st b).values
adds_tidy st s b won queue r e = of_place (Add b won) queue st s e (reached_tidy st r s)

-- Counts.

High : State → Type 0
High st = (b : ℕ) → (batch_at st b).count ≤ℤ pos (length st.slots)

high_step : (st : State) (t : Timed) (d : State × Answer) → IsReached st → Step t.size st t.event d → High st → High d.0
unfolding High
high_step st t _ r (Step.took_new s e least) h b = omega (arith, ints, h b, length_push st.slots (taken_slot t.size (length st.slots + 1) st.rest))
high_step st t _ r (Step.detached s next note marks queue e le) h b =
    pushed (λ batch. batch.count ≤ℤ pos (length (set st.slots s (record { used = (slot_at st s).used; batch = []; call = Some (record { place = look (length st.batches) 0 marks; queue = queue }) })))) st.batches b _ no_batch
    (λ i. omega (arith, ints)) (omega (arith, ints, h b, length-set {A = Slot}))
high_step st t _ r (Step.added s a won queue d e k) h b =
    let f : (k : ℕ) × Fits k st = reached_fits st r in
    let fits : AddFits st a won = adds f.0 a won s queue st f.1 (reached_inv st r) e in
    subst (λ (x : State × Answer). (batch_at x.0 b).count ≤ℤ pos (length (x.0).slots)) (some_is _ _ k)
    (at_set (λ batch. batch.count ≤ℤ pos (length (set st.slots s (record (slot_at st s) { call = Some (record { place = Rest (if is_zero ((batch_at st a).count +ℤ pos won) then (batch_at st a).values else []) []; queue = queue }) })))) st.batches a b _ no_batch
    (λ i l. omega (arith, ints, fits.3, length-set {A = Slot})) (omega (arith, ints, h b, length-set {A = Slot})))
high_step st t _ r (Step.subtracted s a walk queue d e k) h b =
    subst (λ (x : State × Answer). (batch_at x.0 b).count ≤ℤ pos (length (x.0).slots)) (some_is _ _ k)
    (at_set (λ batch. batch.count ≤ℤ pos (length (set st.slots s (record (slot_at st s) { call = Some (record { place = Rest (if is_zero ((batch_at st a).count -ℤ pos 1) then (batch_at st a).values else []) walk; queue = queue }) })))) st.batches a b _ no_batch
    (λ i l. omega (arith, ints, h a, length-set {A = Slot})) (omega (arith, ints, h b, length-set {A = Slot})))
high_step st t _ r step h b = omega (arith, ints, h b, length-set {A = Slot})

-- each count lies between minus and plus the number of slots
pub counts_near : (st : State) → IsReached st → (b : ℕ) → (neg_ℤ (pos (length st.slots)) ≤ℤ (batch_at st b).count) × ((batch_at st b).count ≤ℤ pos (length st.slots))
unfolding High
counts_near st r b =
    let f : (k : ℕ) × Fits k st = reached_fits st r in
    let c : CountedIn b st = (reached_inv st r).sound.counts b in
    (omega (arith, ints, c.balance, owner_wins f.0 b st f.1 c), reached_holds High (λ slots links distinct b. omega (arith, ints)) high_step st r b)

-- Nobody holds a batch whose count is 0, unless a call has still to add to it.

pub no_lists : (st : State) (b s : ℕ) → listed b st.heads ≡ 0 → Lists st s b → ⊥
no_lists st b s none h = omega (arith, some_contained b (waiting_at (head_at st s)) h, at_most (is_true (nat_lt s (length st.heads))))
  where
    at_most : (nat_lt s (length st.heads) ≡ true) ⊎ (nat_lt s (length st.heads) ≡ false) → occ b (waiting_at (head_at st s)) ≤ listed b st.heads
    at_most (inl t) = get_or-le-sum_by (λ head. occ b (waiting_at head)) st.heads s Inactive (grind arith)
    at_most (inr t) =
        let past : length st.heads ≤ s = grind arith in
        let empty : occ b (waiting_at (head_at st s)) ≡ 0 = ap (λ (head : Head). occ b (waiting_at head)) (get_or_past st.heads s Inactive past) in
        omega arith

pub no_walks : (st : State) (b s : ℕ) → of_calls (walks b) st.slots ≡ 0 → Walks st s b → ⊥
no_walks st b s none h = omega (arith, some_contained b (walk_of (slot_at st s).call) h, walk_is b (slot_at st s).call, at_most (is_true (nat_lt s (length st.slots))))
  where
    at_most : (nat_lt s (length st.slots) ≡ true) ⊎ (nat_lt s (length st.slots) ≡ false) → walks b (slot_at st s).call ≤ of_calls (walks b) st.slots
    at_most (inl t) = get_or-le-sum_by (λ slot. walks b slot.call) st.slots s no_slot (grind arith)
    at_most (inr t) =
        let past : length st.slots ≤ s = grind arith in
        let empty : walks b (slot_at st s).call ≡ 0 = ap (λ (slot : Slot). walks b slot.call) (get_or_past st.slots s no_slot past) in
        omega arith

unheld : (st : State) (b : ℕ) → CountedIn b st → (batch_at st b).count ≡ pos 0 → of_calls (owns b) st.slots ≡ 0 → (s : ℕ) → (Lists st s b → ⊥) × (Walks st s b → ⊥)
unheld st b c none_left unowned s =
    let wins_none : of_calls (wins b) st.slots ≡ 0 = sum_nothing (λ slot. wins b slot.call) (λ slot. owns b slot.call) (λ slot. owns-wins b slot.call) st.slots unowned in
    let none : listed b st.heads + of_calls (walks b) st.slots ≡ 0 = omega (arith, ints, c.balance) in
    (no_lists st b s (omega arith), no_walks st b s (omega arith))

no_owner : (st : State) (b : ℕ) → ((s : ℕ) → detached_by (slot_at st s).call ≢ Some b) → of_calls (owns b) st.slots ≡ 0
no_owner st b none = go (nat_lt 0 (of_calls (owns b) st.slots)) refl
  where
    go : (t : Bool) → nat_lt 0 (of_calls (owns b) st.slots) ≡ t → of_calls (owns b) st.slots ≡ 0
    go false e = grind arith
    go true e =
        let i : (i : ℕ) × (1 ≤ owns b (get_or st.slots i no_slot).call) = some_part (λ slot. owns b slot.call) st.slots no_slot (grind arith) in
        absurd (none i.0 (owner_of b (slot_at st i.0).call i.1))

pub zero_unheld : (st : State) → IsReached st → (b : ℕ) → (batch_at st b).count ≡ pos 0 → ((s : ℕ) → detached_by (slot_at st s).call ≢ Some b) → (s : ℕ) → (Lists st s b → ⊥) × (Walks st s b → ⊥)
zero_unheld st r b none_left none = unheld st b ((reached_inv st r).sound.counts b) none_left (no_owner st b none)

-- a count that arrives at 0 has nobody holding the batch, and no call that has still to add to it
pub arrives_unheld : (size : ℕ) (st : State) (event : Event) (d : State × Answer) (b : ℕ) → IsReached st → Step size st event d → d.1 ≡ Count (pos 0) → changes_batch st b event ≡ true
    → (s : ℕ) → (Lists d.0 s b → ⊥) × (Walks d.0 s b → ⊥) × (detached_by (slot_at d.0 s).call ≢ Some b)
arrives_unheld size st event d b r step none_left at s = all (arrives size st event d b (reached_inv st r) step none_left at) ((inv_step size st event d step (reached_inv st r)).sound.counts b)
  where
    all : ((batch_at d.0 b).count ≡ pos 0) × (of_calls (owns b) (d.0).slots ≡ 0) → CountedIn b d.0 → (Lists d.0 s b → ⊥) × (Walks d.0 s b → ⊥) × (detached_by (slot_at d.0 s).call ≢ Some b)
    all a c =
        let u : (Lists d.0 s b → ⊥) × (Walks d.0 s b → ⊥) = unheld d.0 b c a.0 a.1 s in
        (u.0, u.1, λ e. omega (arith, owner_is b (slot_at d.0 s).call e, get_or-le-sum_by (λ slot. owns b slot.call) (d.0).slots s no_slot (owner_range b s d.0 (owner_is b (slot_at d.0 s).call e)), a.1))

    zero_at : (z : ℤ) → Answer.Count z ≡ Count (pos 0) → z ≡ pos 0
    zero_at z e = cc

    arrives : (size : ℕ) (st : State) (event : Event) (d : State × Answer) (b : ℕ) → Inv st → Step size st event d → d.1 ≡ Count (pos 0) → changes_batch st b event ≡ true
        → ((batch_at d.0 b).count ≡ pos 0) × (of_calls (owns b) (d.0).slots ≡ 0)
    arrives size st event _ b v (Step.added i a won queue d e h) none_left at =
        let a_is : a ≡ b = eq_true a b (ap (λ (o : Option Progress). is_number b (added_batch o)) (sym e) ∙ at) in
        let z : (batch_at st a).count +ℤ pos won ≡ pos 0 = zero_at _ (ap (λ (x : State × Answer). x.1) (some_is _ _ h) ∙ none_left) in
        let mine : one (b == b) ≡ 1 = grind arith in
        let own : one (a == b) ≡ 1 = rw a_is mine in
        let owned : one (a == b) ≤ of_calls (owns b) st.slots = in_call_of b st i (Add a won) queue e in
        let range : a < length st.batches = rw a_is (held_range b _ _ (v.sound.counts b).fresh (omega arith)) in
        subst (λ (x : State × Answer). ((batch_at x.0 b).count ≡ pos 0) × (of_calls (owns b) (x.0).slots ≡ 0)) (some_is _ _ h) (
          subst (λ b. (get_or (set st.batches a (record { values = if is_zero ((batch_at st a).count +ℤ pos won) then [] else (batch_at st a).values; count = (batch_at st a).count +ℤ pos won })) b no_batch).count ≡ pos 0) a_is
              (ap (λ (batch : Batch). batch.count) (get_or-set_same st.batches a _ no_batch range) ∙ z),
          omega (arith, change (owns b) st i (record (slot_at st i) { call = Some (record { place = Rest (if is_zero ((batch_at st a).count +ℤ pos won) then (batch_at st a).values else []) []; queue = queue }) }) _ (in_range st i _ e) e, (v.sound.counts b).alone),
        )
    arrives size st event _ b v (Step.subtracted i a walk queue d e h) none_left at =
        let a_is : a ≡ b = eq_true a b (ap (λ (o : Option Progress). is_number b (of_call walking_at o)) (sym e) ∙ at) in
        let z : (batch_at st a).count -ℤ pos 1 ≡ pos 0 = zero_at _ (ap (λ (x : State × Answer). x.1) (some_is _ _ h) ∙ none_left) in
        let mine : one (b == b) ≡ 1 = grind arith in
        let own : one (a == b) ≡ 1 = rw a_is mine in
        let walked : one (a == b) + occ b walk ≤ of_calls (walks b) st.slots = rw e at (get_or-le-sum_by (λ slot. walks b slot.call) st.slots i no_slot (in_range st i _ e)) in
        let range : a < length st.batches = rw a_is (held_range b _ _ (v.sound.counts b).fresh (omega arith)) in
        let unowned_a : of_calls (owns a) st.slots ≡ 0 = unowned_at_zero a walk queue st i v.sound e (ap is_zero z) in
        let unowned : of_calls (owns b) st.slots ≡ 0 = subst (λ a. of_calls (owns a) st.slots ≡ 0) a_is unowned_a in
        subst (λ (x : State × Answer). ((batch_at x.0 b).count ≡ pos 0) × (of_calls (owns b) (x.0).slots ≡ 0)) (some_is _ _ h) (
          subst (λ b. (get_or (set st.batches a (record { values = if is_zero ((batch_at st a).count -ℤ pos 1) then [] else (batch_at st a).values; count = (batch_at st a).count -ℤ pos 1 })) b no_batch).count ≡ pos 0) a_is
              (ap (λ (batch : Batch). batch.count) (get_or-set_same st.batches a _ no_batch range) ∙ z),
          omega (arith, change (owns b) st i (record (slot_at st i) { call = Some (record { place = Rest (if is_zero ((batch_at st a).count -ℤ pos 1) then (batch_at st a).values else []) walk; queue = queue }) }) _ (in_range st i _ e) e, unowned),
        )
    arrives size st event _ b v _ none_left at = absurd (cc)
