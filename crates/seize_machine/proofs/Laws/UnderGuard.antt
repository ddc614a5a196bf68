-- The law of what is kept under a guard: the batch that an active slot detaches goes to the slot's own list, too, before the slot adds to
-- its count. So the count does not come to 0 then.
use Rattle.std.proofs.Common.{◌≡◌, ℕ, zero, suc, ◌+◌, ◌<◌, ◌≤◌, pos, ◌+ℤ◌, Bool, true, false, ◌==◌, if◌then◌else◌, nat_lt, max, List, [], ◌∷◌, ◌++◌, length, get_or, set, Option, Some, None, refl, sym, ◌∙◌, ap, subst, ◌⊎◌, inl, inr, arith}
use Rattle.std.specs.List.{slice_get}
use Rattle.std.proofs.lemmas.Int.{ints}
use Rattle.std.proofs.lemmas.List.{get_or-set_same, get_or_past}
use Rattle.std.proofs.lemmas.List.Sums.{get_or-le-sum_by}
use Rattle.seize_machine.specs.Machine.State.{no_slot, State, Slot, Progress, Head, Inactive, Active, Place, Append, Mark, Look, Try, Add, Out, Rest, slot_at, head_at, batch_at, is_active, waiting_at, linked_values, are_distinct, opening}
use Rattle.seize_machine.specs.Machine.Event.{Event, AddCount}
use Rattle.seize_machine.specs.Machine.Next.{next, look, marked_place, looked, is_zero, taken_slot, taken_call}
use Rattle.seize_machine.specs.Machine.History.{Timed, Moment, IsReached}
use Rattle.seize_machine.specs.Machine.Laws.{given_up, UnderGuard}
use Rattle.seize_machine.specs.declared.machine.event.Answer.{Answer}
use Rattle.seize_machine.proofs.Steps.Relation.{Step, Stands, step_of, some_is, is_true, eq_true, taken}
use Rattle.seize_machine.proofs.Counting.Sums.{one, occ}
use Rattle.seize_machine.proofs.Invariants.Counts.{Counted, of_calls, wins, listed, in_range, idle_range, idle_call, head_range, wins_alone}
use Rattle.seize_machine.proofs.Invariants.Kept.{WillMark, at_set, pushed, starts, marked_marks, zero_is}
use Rattle.seize_machine.proofs.Invariants.Live.{opening_slot}
use Rattle.seize_machine.proofs.Invariants.Always.{Inv, inv_step, opening_inv}
use Rattle.seize_machine.proofs.Invariants.Reached.{reached_inv}
use Rattle.seize_machine.proofs.Invariants.States.{reached_holds}
use Rattle.seize_machine.proofs.Lists.Histories.{run, none_in, at_first, later}

-- a call of slot s, which has this list, will mark s or has marked it; then it inserts its batch there, or has inserted it
abbrev Includes : ℕ → List ℕ → Place → Type 0
Includes s waiting (Mark next note marks) = (s < note) × (s < next → 1 ≤ occ s marks)
Includes s waiting (Look b won m later) = 1 ≤ one (m == s) + occ s later + occ b waiting
Includes s waiting (Try b won m later saw) = 1 ≤ one (m == s) + occ s later + occ b waiting
Includes s waiting (Add b won) = 1 ≤ occ b waiting
Includes s waiting _ = Unit {0}

abbrev OfCall : ℕ → List ℕ → Option Progress → Type 0
OfCall s waiting None = Unit {0}
OfCall s waiting (Some call) = Includes s waiting call.place

-- so it is with each active slot
abbrev Own : State → Type 0
Own st = (s : ℕ) → is_active (head_at st s) ≡ true → OfCall s (waiting_at (head_at st s)) (slot_at st s).call

-- a change of one slot's record
own_set : (st : State) (i : ℕ) (new : Slot) → Own st → (is_active (head_at st i) ≡ true → OfCall i (waiting_at (head_at st i)) new.call)
    → (s : ℕ) → is_active (head_at st s) ≡ true → OfCall s (waiting_at (head_at st s)) (get_or (set st.slots i new) s no_slot).call
own_set st i new c own s on =
    at_set (λ slot. OfCall s (waiting_at (head_at st s)) slot.call) st.slots i s new no_slot
    (λ same r. subst (λ s. is_active (head_at st s) ≡ true → OfCall s (waiting_at (head_at st s)) new.call) same own on) (c s on)

look_includes : (s b won : ℕ) (waiting marks : List ℕ) → 1 ≤ occ s marks + occ b waiting → Includes s waiting (look b won marks)
look_includes s b won waiting [] h = omega (arith, h)
look_includes s b won waiting (m ∷ marks) h = h

-- an active slot is not skipped
looked_includes : (s b won m : ℕ) (heads : List Head) (later : List ℕ) → is_active (get_or heads s Inactive) ≡ true
    → (waiting : List ℕ) → 1 ≤ one (m == s) + occ s later + occ b waiting → Includes s waiting (looked (get_or heads m Inactive) b won m later)
looked_includes s b won m heads later on waiting h = go (get_or heads m Inactive) refl (is_true (m == s))
  where
    go : (head : Head) → get_or heads m Inactive ≡ head → ((m == s) ≡ true) ⊎ ((m == s) ≡ false) → Includes s waiting (looked head b won m later)
    go (Active w) e t = h
    go Inactive e (inl t) =
        absurd (let off : is_active (get_or heads m Inactive) ≡ false = ap is_active e in let same : m ≡ s = eq_true m s t in let on2 : is_active (get_or heads m Inactive) ≡ true = rw same on in cc)
    go Inactive e (inr t) = let none : one (m == s) ≡ 0 = ap one t in look_includes s b won waiting later (omega arith)

-- where a call goes on that has read a head
marked_includes : (s : ℕ) (waiting : List ℕ) (active : Bool) (n note : ℕ) (marks batch : List ℕ) → WillMark s (marked_place active n note marks batch) → Includes s waiting (marked_place active n note marks batch)
marked_includes s waiting false n note marks batch w = w
marked_includes s waiting true n note marks batch w = go (nat_lt (length marks) (length batch)) w
  where
    go : (t : Bool) → WillMark s (if t then Mark (n + 1) note (marks ++ n ∷ []) else Rest [] []) → Includes s waiting (if t then Mark (n + 1) note (marks ++ n ∷ []) else Rest [] [])
    go true w = w
    go false w = tt

-- a longer list has what a shorter one has
longer : (s : ℕ) (before after : List ℕ) (place : Place) → ((b : ℕ) → occ b before ≤ occ b after) → Includes s before place → Includes s after place
longer s before after (Append w) more h = tt
longer s before after (Mark next note marks) more h = h
longer s before after (Look b won m later) more h = omega (arith, more b, h)
longer s before after (Try b won m later saw) more h = omega (arith, more b, h)
longer s before after (Add b won) more h = omega (arith, more b, h)
longer s before after (Out stays) more h = tt
longer s before after (Rest given walk) more h = tt

longer_call : (s : ℕ) (before after : List ℕ) (call : Option Progress) → ((b : ℕ) → occ b before ≤ occ b after) → OfCall s before call → OfCall s after call
longer_call s before after None more h = tt
longer_call s before after (Some call) more h = longer s before after call.place more h

module _ (st : State) (i m b won : ℕ) (later saw queue waiting : List ℕ) (e : Stands st i (Try b won m later saw) queue) (head_is : head_at st m ≡ Active waiting) (c : Own st) where
  abbrev heads : List Head
  heads = set st.heads m (Active (b ∷ waiting))

  -- who is active then was so before, and lists what it listed
  grown : (s : ℕ) → is_active (get_or heads s Inactive) ≡ true → (is_active (head_at st s) ≡ true) × ((a : ℕ) → occ a (waiting_at (head_at st s)) ≤ occ a (waiting_at (get_or heads s Inactive)))
  grown s =
      at_set (λ head. is_active head ≡ true → (is_active (head_at st s) ≡ true) × ((a : ℕ) → occ a (waiting_at (head_at st s)) ≤ occ a (waiting_at head))) st.heads m s (Active (b ∷ waiting)) Inactive
      (λ same r on. subst (λ s. (is_active (head_at st s) ≡ true) × ((a : ℕ) → occ a (waiting_at (head_at st s)) ≤ occ a (b ∷ waiting))) same (rw head_is (refl, λ a. omega arith))) (λ on. (on, λ a. omega arith))

  -- the slot of the insertion lists the batch
  lists_it : m ≡ i → 1 ≤ occ b (waiting_at (get_or heads i Inactive))
  lists_it same =
      let r : m < length st.heads = head_range st m waiting head_is in
      let own : one (b == b) ≡ 1 = grind arith in
      let now : get_or heads m Inactive ≡ Active (b ∷ waiting) = get_or-set_same st.heads m (Active (b ∷ waiting)) Inactive r in
      subst (λ i. 1 ≤ occ b (waiting_at (get_or heads i Inactive))) same (rw now (omega arith))

  goes_on : is_active (get_or heads i Inactive) ≡ true → Includes i (waiting_at (get_or heads i Inactive)) (look b (won + 1) later)
  goes_on on =
      let was = grown i on in let h : 1 ≤ one (m == i) + occ i later + occ b (waiting_at (head_at st i)) = rw e at (c i was.0) in
      look_includes i b (won + 1) (waiting_at (get_or heads i Inactive)) later (go was.1 h (is_true (m == i)))
    where
      go : ((a : ℕ) → occ a (waiting_at (head_at st i)) ≤ occ a (waiting_at (get_or heads i Inactive))) → 1 ≤ one (m == i) + occ i later + occ b (waiting_at (head_at st i))
          → ((m == i) ≡ true) ⊎ ((m == i) ≡ false) → 1 ≤ occ i later + occ b (waiting_at (get_or heads i Inactive))
      go more h (inl t) = omega (arith, lists_it (eq_true m i t))
      go more h (inr t) = let none : one (m == i) ≡ 0 = ap one t in omega (arith, h, more b)

  own_inserted : (s : ℕ) → is_active (get_or heads s Inactive) ≡ true → OfCall s (waiting_at (get_or heads s Inactive)) (get_or (set st.slots i (record (slot_at st i) { call = Some (record { place = look b (won + 1) later; queue = queue }) })) s no_slot).call
  own_inserted s on =
      at_set (λ slot. OfCall s (waiting_at (get_or heads s Inactive)) slot.call) st.slots i s (record (slot_at st i) { call = Some (record { place = look b (won + 1) later; queue = queue }) }) no_slot
      (λ same r. subst (λ s. is_active (get_or heads s Inactive) ≡ true → Includes s (waiting_at (get_or heads s Inactive)) (look b (won + 1) later)) same goes_on on)
      (let was = grown s on in longer_call s (waiting_at (head_at st s)) (waiting_at (get_or heads s Inactive)) (slot_at st s).call was.1 (c s was.0))

taken_includes : (s : ℕ) (waiting : List ℕ) (size n : ℕ) (rest : List ℕ) → s < n → OfCall s waiting (taken_call size n rest)
taken_includes s waiting size n rest r = taken (OfCall s waiting) size n rest (λ h. tt) (λ h. (r, λ h. absurd (omega arith)))

pub own_step : (size : ℕ) (st : State) (event : Event) (d : State × Answer) → Step size st event d → Own st → Own d.0
own_step size st event _ (Step.took_new i e least) c = λ s.
    let new : Slot = taken_slot size (length st.slots + 1) st.rest in
    let same : get_or (st.heads ++ Inactive ∷ []) s Inactive ≡ head_at st s = pushed (λ head. head ≡ head_at st s) st.heads s Inactive Inactive (λ at. sym (get_or_past st.heads s Inactive (omega (arith, at)))) refl in
    subst (λ head. is_active head ≡ true → OfCall s (waiting_at head) (get_or (st.slots ++ new ∷ []) s no_slot).call) (sym same)
    (λ on. pushed (λ slot. OfCall s (waiting_at (head_at st s)) slot.call) st.slots s new no_slot (λ at. taken_includes s (waiting_at (head_at st s)) size (length st.slots + 1) st.rest (omega (arith, at))) (c s on))
own_step size st event _ (Step.took_old i r e least) c = own_set st i (taken_slot size (length st.slots) st.rest) c (λ on. taken_includes i (waiting_at (head_at st i)) size (length st.slots) st.rest r)
own_step size st event _ (Step.gave i e off ends) c = own_set st i no_slot c (λ on. tt)
own_step size st event _ (Step.gathered i e off lone some) c = own_set st i _ c (λ on. (idle_range st i e, λ h. absurd (omega arith)))
own_step size st event _ (Step.entered i e off) c = λ s.
    at_set (λ head. is_active head ≡ true → OfCall s (waiting_at head) (slot_at st s).call) st.heads i s (Active []) Inactive
    (λ same r on. subst (λ s. OfCall s [] (slot_at st s).call) same (subst (λ o. OfCall i [] o) (sym (idle_call (slot_at st i) e)) tt)) (c s)
own_step size st event _ (Step.begun_retire i w e new) c = own_set st i (record (slot_at st i) { call = Some (record { place = Append w; queue = [] }) }) c (λ on. tt)
own_step size st event _ (Step.begun_other i job place e which exact) c =
    own_set st i (record (slot_at st i) { call = Some (record { place = place; queue = [] }) }) c (λ on. starts (Includes i (waiting_at (head_at st i))) (length st.slots) tt (idle_range st i e, λ h. absurd (omega arith)) tt tt place which)
own_step size st event _ (Step.put i w from before after place e which to after_is) c =
    own_set st i (record { used = (slot_at st i).used; batch = (slot_at st i).batch ++ w ∷ []; call = Some (record { place = place; queue = after }) }) c (λ on. goes to)
  where
    goes : ((place ≡ Rest [] []) × (length ((slot_at st i).batch ++ w ∷ []) < max 1 size)) ⊎ (place ≡ Mark 0 (length st.slots) []) → Includes i (waiting_at (head_at st i)) place
    goes (inl at) = subst (Includes i (waiting_at (head_at st i))) (sym at.0) tt
    goes (inr at) = subst (Includes i (waiting_at (head_at st i))) (sym at) (in_range st i _ e, λ h. absurd (omega arith))
own_step size st event _ (Step.marked i n next note marks queue e r k) c =
    own_set st i (record (slot_at st i) { call = Some (record { place = marked_place (is_active (head_at st n)) n note marks (slot_at st i).batch; queue = queue }) }) c
    (λ on. marked_includes i (waiting_at (head_at st i)) (is_active (head_at st n)) n note marks (slot_at st i).batch (marked_marks i n next note st.heads marks (slot_at st i).batch on k (rw e at (c i on))))
own_step size st event _ (Step.looked_at i b won m later queue e) c =
    own_set st i (record (slot_at st i) { call = Some (record { place = looked (head_at st m) b won m later; queue = queue }) }) c
    (λ on. looked_includes i b won m st.heads later on (waiting_at (head_at st i)) (rw e at (c i on)))
own_step size st event _ (Step.detached i next note marks queue e le) c =
    own_set st i (record { used = (slot_at st i).used; batch = []; call = Some (record { place = look (length st.batches) 0 marks; queue = queue }) }) c
    (λ on. let will : (i < note) × (i < next → 1 ≤ occ i marks) = rw e at (c i on) in look_includes i (length st.batches) 0 (waiting_at (head_at st i)) marks (omega (arith, will.1 (omega (arith, will.0, le)))))
own_step size st event _ (Step.inserted i m b won later saw queue waiting e head_is) c = own_inserted st i m b won later saw queue waiting e head_is c
own_step size st event _ (Step.lost i m b won later saw queue e differs) c =
    own_set st i (record (slot_at st i) { call = Some (record { place = Look b won m later; queue = queue }) }) c (λ on. rw e at (c i on))
own_step size st event _ (Step.added i b won queue d e h) c = subst (λ d. Own d.0) (some_is _ _ h) (own_set st i _ c (λ on. tt))
own_step size st event _ (Step.subtracted i b walk queue d e h) c = subst (λ d. Own d.0) (some_is _ _ h) (own_set st i _ c (λ on. tt))
own_step size st event _ (Step.swapped_out i stays queue e) c = λ s.
    at_set (λ slot. is_active (get_or (set st.heads i (if stays then Active [] else Inactive)) s Inactive) ≡ true → OfCall s (waiting_at (get_or (set st.heads i (if stays then Active [] else Inactive)) s Inactive)) slot.call)
    st.slots i s (record (slot_at st i) { call = Some (record { place = Rest [] (waiting_at (head_at st i)); queue = queue }) }) no_slot (λ same r on. tt)
    (at_set (λ head. is_active head ≡ true → OfCall s (waiting_at head) (slot_at st s).call) st.heads i s (if stays then Active [] else Inactive) Inactive
    (λ same r on. subst (λ s. OfCall s (waiting_at (if stays then Active [] else Inactive)) (slot_at st s).call) same (subst (λ o. OfCall i (waiting_at (if stays then Active [] else Inactive)) o) (sym e) tt)) (c s))
own_step size st event _ (Step.handed i w puts given_on walk queue e new) c = own_set st i _ c (λ on. tt)
own_step size st event _ (Step.returned i e) c = own_set st i (record (slot_at st i) { call = None }) c (λ on. tt)
own_step size st event _ (Step.read i l e) c = c
own_step size st event _ (Step.exchanged i l exchange new e fresh exact) c = c
own_step size st event _ (Step.compared i l exchange e exact) c = c

opening_own : (slots : ℕ) (links : List (Option ℕ)) → Own (opening slots links)
opening_own slots links s on = subst (λ (slot : Slot). OfCall s (waiting_at (head_at (opening slots links) s)) slot.call) (sym (opening_slot slots s links)) tt

-- an active slot that adds to a batch lists it, so its count does not come to 0
above_zero : (st : State) (s b won : ℕ) (queue : List ℕ) → Inv st → Own st → Stands st s (Add b won) queue → is_active (head_at st s) ≡ true → is_zero ((batch_at st b).count +ℤ pos won) ≡ false
above_zero st s b won queue i own e on = go (is_true (is_zero ((batch_at st b).count +ℤ pos won)))
  where
    some : 1 ≤ occ b (waiting_at (head_at st s))
    some = rw e at (own s on)

    in_heads : (nat_lt s (length st.heads) ≡ true) ⊎ (nat_lt s (length st.heads) ≡ false) → 1 ≤ listed b st.heads
    in_heads (inl t) = let r : s < length st.heads = grind arith in omega (arith, some, get_or-le-sum_by (λ head. occ b (waiting_at head)) st.heads s Inactive r)
    in_heads (inr t) =
        let past : length st.heads ≤ s = grind arith in
        let none : occ b (waiting_at (head_at st s)) ≡ 0 = ap (λ head. occ b (waiting_at head)) (get_or_past st.heads s Inactive past) in
        absurd (omega (arith, some))

    go : (is_zero ((batch_at st b).count +ℤ pos won) ≡ true) ⊎ (is_zero ((batch_at st b).count +ℤ pos won) ≡ false) → is_zero ((batch_at st b).count +ℤ pos won) ≡ false
    go (inr t) = t
    go (inl t) =
        let c : Counted b st.slots st.heads st.batches = i.sound.counts b in
        let mine : one (b == b) ≡ 1 = grind arith in
        let all : of_calls (wins b) st.slots ≡ (if b == b then won else 0) = wins_alone b st s (Add b won) queue e c mine in
        let won_is : (if b == b then won else 0) ≡ won = grind arith in
        let zero : (batch_at st b).count +ℤ pos won ≡ pos 0 = zero_is _ t in
        absurd (omega (arith, ints, c.balance, in_heads (is_true (nat_lt s (length st.heads)))))

pub reached_above_zero : (st : State) (s b won : ℕ) (queue : List ℕ) → IsReached st → Stands st s (Add b won) queue → is_active (head_at st s) ≡ true → is_zero ((batch_at st b).count +ℤ pos won) ≡ false
reached_above_zero st s b won queue r = above_zero st s b won queue (reached_inv st r) (reached_holds Own (λ slots links distinct. opening_own slots links) (λ st t d r step c. own_step t.size st t.event d step c) st r)

-- what the law says of one moment
abbrev Keeps : Moment → Type 0
Keeps m = (s : ℕ) → m.timed.event ≡ AddCount s → is_active (head_at m.before s) ≡ true → given_up (slot_at m.after s).call ≡ []

keeps_at : (size : ℕ) (st : State) (event : Event) (d : State × Answer) → Step size st event d → Inv st → Own st → (s : ℕ) → event ≡ AddCount s → is_active (head_at st s) ≡ true → given_up (slot_at d.0 s).call ≡ []
keeps_at size st event _ (Step.added i b won queue d e h) inv own s is on =
    let same : i ≡ s = ap (λ event. elim event [ AddCount i ↦ i | _ ↦ 0 ]) is in
    let none : is_zero ((batch_at st b).count +ℤ pos won) ≡ false = above_zero st i b won queue inv own e (subst (λ s. is_active (head_at st s) ≡ true) (sym same) on) in
    let now : Slot = record (slot_at st i) { call = Some (record { place = Rest (if is_zero ((batch_at st b).count +ℤ pos won) then (batch_at st b).values else []) []; queue = queue }) } in
    subst (λ s. given_up (slot_at d.0 s).call ≡ []) same
    (subst (λ (d : State × Answer). given_up (slot_at d.0 i).call ≡ []) (some_is _ _ h)
    (ap (λ (slot : Slot). given_up slot.call) (get_or-set_same st.slots i now no_slot (in_range st i _ e)) ∙ ap (λ t. if t then (batch_at st b).values else []) none))
keeps_at size st event _ _ inv own s is on = absurd (cc)

law_from : (a : ℕ) (ts : List Timed) (st : State) → Inv st → Own st → (m : Moment) → slice_get (run st ts) a ≡ Some m → Keeps m
law_from a [] st inv own m at = none_in a m at
law_from zero (t ∷ ts) st inv own m at = at_first Keeps (next t.size st t.event) st t ts m at (λ d e. keeps_at t.size st t.event d (step_of t.size st t.event d e) inv own)
law_from (suc a) (t ∷ ts) st inv own m at =
    let d = later (next t.size st t.event) st t ts a m at in let step = step_of t.size st t.event d.0 d.1 in
    law_from a ts d.0.0 (inv_step t.size st t.event d.0 step inv) (own_step t.size st t.event d.0 step own) m d.2

pub law_under_guard : (slots : ℕ) (links : List (Option ℕ)) (ts : List Timed) → are_distinct (linked_values links) ≡ true → UnderGuard (opening slots links) (run (opening slots links) ts)
law_under_guard slots links ts distinct a m at = law_from a ts (opening slots links) (opening_inv slots links distinct) (opening_own slots links) m at
