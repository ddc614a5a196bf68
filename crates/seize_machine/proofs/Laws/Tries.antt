-- The law of tries: the insertions that a call lost at one head are at most the changes of that head by other slots.
use Rattle.std.proofs.Common.{◌≡◌, ◌≢◌, ℕ, ◌+◌, ◌<◌, ◌≤◌, Bool, true, false, not, cond, ◌&&◌, ◌==◌, if◌then◌else◌, nat_lt, List, [], ◌∷◌, ◌++◌, length, get_or, set, Option, Some, None, refl, sym, ◌∙◌, ap, subst, arith}
use Rattle.std.specs.List.{count_by}
use Rattle.std.proofs.lemmas.List.{get_or-set_same, get_or-set_other, get_or_push}
use Rattle.std.proofs.lemmas.List.Sums.{sum_by-cons, take_while-cons}
use Rattle.seize_machine.specs.Machine.State.{no_slot, State, Slot, Progress, Head, Inactive, Active, Place, Append, Mark, Look, Try, Add, Out, Rest, slot_at, head_at, is_active, waiting_at, linked_values, are_distinct, opening}
use Rattle.seize_machine.specs.Machine.Event.{Event, event_slot}
use Rattle.seize_machine.specs.Machine.Next.{Outcome, next, look, marked_place, looked, same_list, taken_slot, taken_call}
use Rattle.seize_machine.specs.Machine.History.{Timed, Moment}
use Rattle.seize_machine.specs.Machine.Laws.{Tries, begins, returns, during, same_head, is_lost, changes_head}
use Rattle.seize_machine.specs.declared.machine.event.Answer.{Answer}
use Rattle.seize_machine.proofs.Steps.Relation.{Step, step_of, eq_true, and_true, some_is, same_list-refl, taken}
use Rattle.seize_machine.proofs.Counting.Sums.{one}
use Rattle.seize_machine.proofs.Invariants.Counts.{in_range, idle_range, idle_call, get_or_push_other}
use Rattle.seize_machine.proofs.Invariants.Kept.{starts}
use Rattle.seize_machine.proofs.Lists.Histories.{run, moment_of, from_first}

-- 1 where a call is about to insert at n and the head there is no longer what the call read
abbrev place_stale : ℕ → Head → Place → ℕ
place_stale n head (Try b won m later saw) = if m == n then one (not (same_head head (Active saw))) else 0
place_stale n head _ = 0

abbrev call_stale : ℕ → Head → Option Progress → ℕ
call_stale n head None = 0
call_stale n head (Some call) = place_stale n head call.place

abbrev stale : ℕ → ℕ → State → ℕ
stale s n st = call_stale n (head_at st n) (slot_at st s).call

same_list_true : (xs ys : List ℕ) → same_list xs ys ≡ true → xs ≡ ys
same_list_true [] [] e = refl
same_list_true [] (y ∷ ys) e = absurd (cc)
same_list_true (x ∷ xs) [] e = absurd (cc)
same_list_true (x ∷ xs) (y ∷ ys) e =
    let t : ((x == y) ≡ true) × (same_list xs ys ≡ true) = and_true _ _ e in
    let first : x ≡ y = eq_true x y t.0 in
    let rest : xs ≡ ys = same_list_true xs ys t.1 in
    cc

same_head_true : (a b : Head) → same_head a b ≡ true → a ≡ b
same_head_true Inactive Inactive e = refl
same_head_true (Active xs) (Active ys) e = ap (λ xs. Active xs) (same_list_true xs ys e)
same_head_true Inactive (Active ys) e = absurd (cc)
same_head_true (Active xs) Inactive e = absurd (cc)

stale_small : (n : ℕ) (head : Head) (call : Option Progress) → call_stale n head call ≤ 1
stale_small n head None = omega arith
stale_small n head (Some call) = go call.place
  where
    at_most : (b c : Bool) → (if b then one c else 0) ≤ 1
    at_most true true = omega arith
    at_most true false = omega arith
    at_most false c = omega arith

    go : (place : Place) → place_stale n head place ≤ 1
    go (Try b won m later saw) = at_most (m == n) (not (same_head head (Active saw)))
    go (Append v) = omega arith
    go (Mark next note marked) = omega arith
    go (Look b won m later) = omega arith
    go (Add b won) = omega arith
    go (Out stays) = omega arith
    go (Rest given walk) = omega arith

look_stale : (n : ℕ) (head : Head) (b won : ℕ) (marks : List ℕ) → place_stale n head (look b won marks) ≡ 0
look_stale n head b won [] = refl
look_stale n head b won (m ∷ marks) = refl

mark_stale : (n : ℕ) (head : Head) (active : Bool) (i note : ℕ) (marks batch : List ℕ) → place_stale n head (marked_place active i note marks batch) ≡ 0
mark_stale n head false i note marks batch = refl
mark_stale n head true i note marks batch = go (nat_lt (length marks) (length batch))
  where
    go : (b : Bool) → place_stale n head (if b then Mark (i + 1) note (marks ++ i ∷ []) else Rest [] []) ≡ 0
    go true = refl
    go false = refl

-- what was just read is not stale
looked_stale : (n : ℕ) (heads : List Head) (b won m : ℕ) (later : List ℕ) → place_stale n (get_or heads n Inactive) (looked (get_or heads m Inactive) b won m later) ≡ 0
looked_stale n heads b won m later = go (get_or heads m Inactive) refl (m == n) refl
  where
    go : (head : Head) → get_or heads m Inactive ≡ head → (same : Bool) → (m == n) ≡ same → place_stale n (get_or heads n Inactive) (looked head b won m later) ≡ 0
    go Inactive e same t = look_stale n (get_or heads n Inactive) b won later
    go (Active waiting) e false t = ap (λ k. if k then one (not (same_head (get_or heads n Inactive) (Active waiting))) else 0) t
    go (Active waiting) e true t =
        let here : get_or heads n Inactive ≡ Active waiting = subst (λ k. get_or heads k Inactive ≡ Active waiting) (eq_true m n t) e in
        let fits : same_head (get_or heads n Inactive) (Active waiting) ≡ true = ap (λ head. same_head head (Active waiting)) here ∙ same_list-refl waiting in
        ap (λ k. if k then one (not (same_head (get_or heads n Inactive) (Active waiting))) else 0) t ∙ ap (λ k. one (not k)) fits

lost_stale : (n : ℕ) (heads : List Head) (b won m : ℕ) (later saw : List ℕ) → get_or heads m Inactive ≢ Active saw → one (m == n) ≤ place_stale n (get_or heads n Inactive) (Try b won m later saw)
lost_stale n heads b won m later saw differs = go (m == n) refl (same_head (get_or heads n Inactive) (Active saw)) refl
  where
    go : (same : Bool) → (m == n) ≡ same → (fits : Bool) → same_head (get_or heads n Inactive) (Active saw) ≡ fits → one same ≤ (if same then one (not fits) else 0)
    go false t fits e = omega arith
    go true t false e = omega arith
    go true t true e = absurd (differs (subst (λ k. get_or heads k Inactive ≡ Active saw) (sym (eq_true m n t)) (same_head_true _ _ e)))

-- the call of a slot after its record is set
now : (n : ℕ) (head : Head) (slots : List Slot) (i : ℕ) (new : Slot) → i < length slots → call_stale n head (get_or (set slots i new) i no_slot).call ≡ call_stale n head new.call
now n head slots i new r = ap (λ slot. call_stale n head slot.call) (get_or-set_same slots i new no_slot r)

was : (n : ℕ) (head : Head) (st : State) (s : ℕ) (o : Option Progress) → (slot_at st s).call ≡ o → call_stale n head (slot_at st s).call ≡ call_stale n head o
was n head st s o e = ap (call_stale n head) e

taken_stale : (n : ℕ) (head : Head) (size slots : ℕ) (rest : List ℕ) → call_stale n head (taken_call size slots rest) ≡ 0
taken_stale n head size slots rest = taken (λ o. call_stale n head o ≡ 0) size slots rest (λ h. refl) (λ h. refl)

-- an event of the slot itself
own_step : (n size : ℕ) (st : State) (event : Event) (d : State × Answer) → Step size st event d → one (is_lost (event_slot event) n event) + stale (event_slot event) n d.0 ≤ stale (event_slot event) n st
own_step n size st event _ (Step.took_new s e least) =
    let new : Slot = taken_slot size (length st.slots + 1) st.rest in
    let fresh : call_stale n (get_or (st.heads ++ Inactive ∷ []) n Inactive) (get_or (st.slots ++ new ∷ []) s no_slot).call ≡ 0 =
    ap (λ slot. call_stale n (get_or (st.heads ++ Inactive ∷ []) n Inactive) slot.call) (get_or_push st.slots new no_slot s (sym e)) ∙ taken_stale n _ size (length st.slots + 1) st.rest in
    omega arith
own_step n size st event _ (Step.took_old s r e least) = omega (arith, now n (head_at st n) st.slots s (taken_slot size (length st.slots) st.rest) r, taken_stale n (head_at st n) size (length st.slots) st.rest)
own_step n size st event _ (Step.gave s e off ends) = omega (arith, now n (head_at st n) st.slots s no_slot (idle_range st s e))
own_step n size st event _ (Step.gathered s e off lone some) =
    omega (arith, now n (head_at st n) st.slots s (record { used = true; batch = st.rest ++ (slot_at st s).batch; call = Some (record { place = Mark 0 (length st.slots) []; queue = [] }) }) (idle_range st s e))
own_step n size st event _ (Step.entered s e off) = omega (arith, was n (get_or (set st.heads s (Active [])) n Inactive) st s None (idle_call (slot_at st s) e))
own_step n size st event _ (Step.begun_retire s v e new) = omega (arith, now n (head_at st n) st.slots s (record (slot_at st s) { call = Some (record { place = Append v; queue = [] }) }) (idle_range st s e))
own_step n size st event _ (Step.begun_other s job place e which exact) =
    let k : place_stale n (head_at st n) place ≡ 0 = starts (λ place. place_stale n (head_at st n) place ≡ 0) (length st.slots) refl refl refl refl place which in
    omega (arith, now n (head_at st n) st.slots s (record (slot_at st s) { call = Some (record { place = place; queue = [] }) }) (idle_range st s e))
own_step n size st event _ (Step.put s v from before after place e which to after_is) =
    let k : place_stale n (head_at st n) place ≡ 0 = grind arith in
    omega (arith, now n (head_at st n) st.slots s (record { used = (slot_at st s).used; batch = (slot_at st s).batch ++ v ∷ []; call = Some (record { place = place; queue = after }) }) (in_range st s _ e))
own_step n size st event _ (Step.marked s i index note marks queue e r k) =
    omega (arith, mark_stale n (head_at st n) (is_active (head_at st i)) i note marks (slot_at st s).batch, now n (head_at st n) st.slots s (record (slot_at st s) { call = Some (record { place = marked_place (is_active (head_at st i)) i note marks (slot_at st s).batch; queue = queue }) }) (in_range st s _ e))
own_step n size st event _ (Step.looked_at s b won m later queue e) =
    omega (arith, looked_stale n st.heads b won m later, now n (head_at st n) st.slots s (record (slot_at st s) { call = Some (record { place = looked (head_at st m) b won m later; queue = queue }) }) (in_range st s _ e))
own_step n size st event _ (Step.detached s index note marks queue e le) =
    omega (arith, look_stale n (head_at st n) (length st.batches) 0 marks, now n (head_at st n) st.slots s (record { used = (slot_at st s).used; batch = []; call = Some (record { place = look (length st.batches) 0 marks; queue = queue }) }) (in_range st s _ e))
own_step n size st event _ (Step.inserted s m b won later saw queue waiting e head_is) =
    let head : Head = get_or (set st.heads m (Active (b ∷ waiting))) n Inactive in
    omega (arith, look_stale n head b (won + 1) later, now n head st.slots s (record (slot_at st s) { call = Some (record { place = look b (won + 1) later; queue = queue }) }) (in_range st s _ e))
own_step n size st event _ (Step.lost s m b won later saw queue e differs) =
    let own : (s == s) ≡ true = grind arith in
    let lost_is : one ((s == s) && (m == n)) ≡ one (m == n) = ap (λ k. one (k && (m == n))) own in
    omega (arith, lost_stale n st.heads b won m later saw differs, was n (head_at st n) st s _ e, now n (head_at st n) st.slots s (record (slot_at st s) { call = Some (record { place = Look b won m later; queue = queue }) }) (in_range st s _ e))
own_step n size st event _ (Step.added s b won queue d e h) =
    let none : stale s n d.0 ≡ 0 = subst (λ d. stale s n d.0 ≡ 0) (some_is _ _ h) (now n (head_at st n) st.slots s _ (in_range st s _ e)) in
    omega arith
own_step n size st event _ (Step.subtracted s b walk queue d e h) =
    let none : stale s n d.0 ≡ 0 = subst (λ d. stale s n d.0 ≡ 0) (some_is _ _ h) (now n (head_at st n) st.slots s _ (in_range st s _ e)) in
    omega arith
own_step n size st event _ (Step.swapped_out s stays queue e) =
    let head : Head = get_or (set st.heads s (if stays then Active [] else Inactive)) n Inactive in
    omega (arith, now n head st.slots s (record (slot_at st s) { call = Some (record { place = Rest [] (waiting_at (head_at st s)); queue = queue }) }) (in_range st s _ e))
own_step n size st event _ (Step.handed s v puts given walk queue e new) =
    omega (arith, now n (head_at st n) st.slots s (record (slot_at st s) { call = Some (record { place = Rest given walk; queue = queue ++ puts }) }) (in_range st s _ e))
own_step n size st event _ (Step.returned s e) =
    omega (arith, now n (head_at st n) st.slots s (record (slot_at st s) { call = None }) (in_range st s _ e))
own_step n size st event _ (Step.read s l e) = omega arith
own_step n size st event _ (Step.exchanged s l exchange new e fresh exact) = omega arith
own_step n size st event _ (Step.compared s l exchange e exact) = omega arith

-- an event of another slot leaves the slot's record
set_away : (slots : List Slot) (i s : ℕ) (new : Slot) → (i == s) ≡ false → get_or (set slots i new) s no_slot ≡ get_or slots s no_slot
set_away slots i s new t = let other : s ≢ i = grind arith in get_or-set_other slots i s new no_slot other

other_slot : (s size : ℕ) (st : State) (event : Event) (d : State × Answer) → Step size st event d → (event_slot event == s) ≡ false → slot_at d.0 s ≡ slot_at st s
other_slot s size st event _ (Step.took_new i e least) t = let other : length st.slots ≢ s = grind arith in get_or_push_other st.slots (taken_slot size (length st.slots + 1) st.rest) no_slot s other
other_slot s size st event _ (Step.took_old i r e least) t = set_away st.slots i s _ t
other_slot s size st event _ (Step.gave i e off ends) t = set_away st.slots i s _ t
other_slot s size st event _ (Step.gathered i e off lone some) t = set_away st.slots i s _ t
other_slot s size st event _ (Step.entered i e off) t = refl
other_slot s size st event _ (Step.begun_retire i v e new) t = set_away st.slots i s _ t
other_slot s size st event _ (Step.begun_other i job place e which exact) t = set_away st.slots i s _ t
other_slot s size st event _ (Step.put i v from before after place e which to after_is) t = set_away st.slots i s _ t
other_slot s size st event _ (Step.marked i n index note marks queue e r k) t = set_away st.slots i s _ t
other_slot s size st event _ (Step.looked_at i b won m later queue e) t = set_away st.slots i s _ t
other_slot s size st event _ (Step.detached i index note marks queue e le) t = set_away st.slots i s _ t
other_slot s size st event _ (Step.inserted i m b won later saw queue waiting e head_is) t = set_away st.slots i s _ t
other_slot s size st event _ (Step.lost i m b won later saw queue e differs) t = set_away st.slots i s _ t
other_slot s size st event _ (Step.added i b won queue d e h) t = subst (λ d. slot_at d.0 s ≡ slot_at st s) (some_is _ _ h) (set_away st.slots i s _ t)
other_slot s size st event _ (Step.subtracted i b walk queue d e h) t = subst (λ d. slot_at d.0 s ≡ slot_at st s) (some_is _ _ h) (set_away st.slots i s _ t)
other_slot s size st event _ (Step.swapped_out i stays queue e) t = set_away st.slots i s _ t
other_slot s size st event _ (Step.handed i v puts given walk queue e new) t = set_away st.slots i s _ t
other_slot s size st event _ (Step.returned i e) t = set_away st.slots i s _ t
other_slot s size st event _ (Step.read i l e) t = refl
other_slot s size st event _ (Step.exchanged i l exchange new e fresh exact) t = refl
other_slot s size st event _ (Step.compared i l exchange e exact) t = refl

not_lost : (s n size : ℕ) (st : State) (event : Event) (d : State × Answer) → Step size st event d → (event_slot event == s) ≡ false → is_lost s n event ≡ false
not_lost s n size st event _ (Step.lost i m b won later saw queue e differs) t = ap (λ k. k && (m == n)) t
not_lost s n size st event _ _ t = refl

-- an event of another slot
other_step : (s n size : ℕ) (st : State) (event : Event) (d : State × Answer) → Step size st event d → (event_slot event == s) ≡ false
    → one (is_lost s n event) + stale s n d.0 ≤ one (not (same_head (head_at st n) (head_at d.0 n))) + stale s n st
other_step s n size st event d step t = go (same_head (head_at st n) (head_at d.0 n)) refl
  where
    lost_is : one (is_lost s n event) ≡ 0
    lost_is = ap one (not_lost s n size st event d step t)

    call_is : stale s n d.0 ≡ call_stale n (head_at d.0 n) (slot_at st s).call
    call_is = ap (λ slot. call_stale n (head_at d.0 n) slot.call) (other_slot s size st event d step t)

    go : (same : Bool) → same_head (head_at st n) (head_at d.0 n) ≡ same → one (is_lost s n event) + stale s n d.0 ≤ one (not same) + stale s n st
    go false e = omega (arith, lost_is, call_is, stale_small n (head_at d.0 n) (slot_at st s).call)
    go true e =
        let head_is : call_stale n (head_at st n) (slot_at st s).call ≡ call_stale n (head_at d.0 n) (slot_at st s).call = ap (λ head. call_stale n head (slot_at st s).call) (same_head_true _ _ e) in
        omega (arith, lost_is, call_is)

tries_step : (s n : ℕ) (st : State) (t : Timed) (d : State × Answer) → next t.size st t.event ≡ Some d
    → one (is_lost s n t.event) + stale s n d.0 ≤ one (changes_head s n (moment_of st t d)) + stale s n st
tries_step s n st t d e = go (event_slot t.event == s) refl
  where
    step : Step t.size st t.event d
    step = step_of t.size st t.event d e

    go : (own : Bool) → (event_slot t.event == s) ≡ own → one (is_lost s n t.event) + stale s n d.0 ≤ one (not own && not (same_head (head_at st n) (head_at d.0 n))) + stale s n st
    go false k = other_step s n t.size st t.event d step k
    go true k = subst (λ s. one (is_lost s n t.event) + stale s n d.0 ≤ 0 + stale s n st) (eq_true _ _ k) (omega (arith, own_step n t.size st t.event d step))

tries_run : (s n : ℕ) (ts : List Timed) (st : State) → count_by (λ m. is_lost s n m.timed.event) (during s (run st ts)) ≤ count_by (changes_head s n) (during s (run st ts)) + stale s n st
tries_run s n [] st = omega arith
tries_run s n (t ∷ ts) st = go (next t.size st t.event) refl (tries_run s n ts)
  where
    Bounded : List Moment → State → Type 0
    Bounded ms st = count_by (λ m. is_lost s n m.timed.event) ms ≤ count_by (changes_head s n) ms + stale s n st

    go : (o : Outcome) → next t.size st t.event ≡ o → ((st : State) → Bounded (during s (run st ts)) st) → Bounded (during s (from_first o st t ts)) st
    go None e ih = omega arith
    go (Some d) e ih = subst (λ ms. Bounded ms st) (sym (take_while-cons (λ m. not (returns s m.timed.event)) (moment_of st t d) (run d.0 ts))) (ends (returns s t.event))
      where
        ends : (stop : Bool) → Bounded (cond (not stop) (moment_of st t d ∷ during s (run d.0 ts)) []) st
        ends true = omega arith
        ends false =
            omega (
              arith,
              tries_step s n st t d e,
              ih d.0,
              sum_by-cons (λ m. cond (is_lost s n m.timed.event) 1 0) (moment_of st t d) (during s (run d.0 ts)),
              sum_by-cons (λ m. cond (changes_head s n m) 1 0) (moment_of st t d) (during s (run d.0 ts)),
            )

-- where a call begins, it has read no head
begun_stale : (s n size : ℕ) (st : State) (event : Event) (d : State × Answer) → Step size st event d → begins s event ≡ true → stale s n d.0 ≡ 0
begun_stale s n size st event _ (Step.took_new i e least) own =
    let new : Slot = taken_slot size (length st.slots + 1) st.rest in
    subst (λ s. call_stale n (get_or (st.heads ++ Inactive ∷ []) n Inactive) (get_or (st.slots ++ new ∷ []) s no_slot).call ≡ 0) (eq_true i s own)
    (ap (λ slot. call_stale n (get_or (st.heads ++ Inactive ∷ []) n Inactive) slot.call) (get_or_push st.slots new no_slot i (sym e)) ∙ taken_stale n _ size (length st.slots + 1) st.rest)
begun_stale s n size st event _ (Step.took_old i r e least) own =
    let new : Slot = taken_slot size (length st.slots) st.rest in
    subst (λ s. call_stale n (head_at st n) (get_or (set st.slots i new) s no_slot).call ≡ 0) (eq_true i s own)
    (now n (head_at st n) st.slots i new r ∙ taken_stale n (head_at st n) size (length st.slots) st.rest)
begun_stale s n size st event _ (Step.gathered i e off lone some) own =
    let new : Slot = record { used = true; batch = st.rest ++ (slot_at st i).batch; call = Some (record { place = Mark 0 (length st.slots) []; queue = [] }) } in
    subst (λ s. call_stale n (head_at st n) (get_or (set st.slots i new) s no_slot).call ≡ 0) (eq_true i s own) (now n (head_at st n) st.slots i new (idle_range st i e))
begun_stale s n size st event _ (Step.begun_retire i v e new) own =
    subst (λ s. call_stale n (head_at st n) (get_or (set st.slots i (record (slot_at st i) { call = Some (record { place = Append v; queue = [] }) })) s no_slot).call ≡ 0) (eq_true i s own)
    (now n (head_at st n) st.slots i (record (slot_at st i) { call = Some (record { place = Append v; queue = [] }) }) (idle_range st i e))
begun_stale s n size st event _ (Step.begun_other i job place e which exact) own =
    subst (λ s. call_stale n (head_at st n) (get_or (set st.slots i (record (slot_at st i) { call = Some (record { place = place; queue = [] }) })) s no_slot).call ≡ 0) (eq_true i s own)
    (now n (head_at st n) st.slots i (record (slot_at st i) { call = Some (record { place = place; queue = [] }) }) (idle_range st i e)
    ∙ starts (λ place. place_stale n (head_at st n) place ≡ 0) (length st.slots) refl refl refl refl place which)
begun_stale s n size st event _ _ own = absurd (cc)

-- a moment of a history is a legal event, and what comes after it is a history
abbrev Follows : Moment → List Moment → Type 0
Follows m later = (ts : List Timed) × (later ≡ run m.after ts) × (next m.timed.size m.before m.timed.event ≡ Some (m.after, m.answer))

follows : (earlier : List Moment) (ts : List Timed) (st : State) (m : Moment) (later : List Moment) → run st ts ≡ earlier ++ m ∷ later → Follows m later
follows [] [] st m later e = absurd (cc)
follows (x ∷ earlier) [] st m later e = absurd (cc)
follows [] (t ∷ ts) st m later e = go (next t.size st t.event) refl e
  where
    go : (o : Outcome) → next t.size st t.event ≡ o → from_first o st t ts ≡ m ∷ later → Follows m later
    go None n e = absurd (cc)
    go (Some d) n e =
        let m_is : moment_of st t d ≡ m = cc in
        let rest : run d.0 ts ≡ later = cc in
        (ts, sym rest ∙ ap (λ m. run m.after ts) m_is, subst (λ m. next m.timed.size m.before m.timed.event ≡ Some (m.after, m.answer)) m_is n)
follows (x ∷ earlier) (t ∷ ts) st m later e = go (next t.size st t.event) e (λ st. follows earlier ts st m later)
  where
    go : (o : Outcome) → from_first o st t ts ≡ x ∷ (earlier ++ m ∷ later) → ((st : State) → run st ts ≡ earlier ++ m ∷ later → Follows m later) → Follows m later
    go None e ih = absurd (cc)
    go (Some d) e ih = ih d.0 (cc)

pub law_tries : (slots : ℕ) (links : List (Option ℕ)) (ts : List Timed) → are_distinct (linked_values links) ≡ true → Tries (opening slots links) (run (opening slots links) ts)
law_tries slots links ts distinct s n earlier later begin e own =
    let f : Follows begin later = follows earlier ts (opening slots links) begin later e in
    let fresh : stale s n begin.after ≡ 0 = begun_stale s n begin.timed.size begin.before begin.timed.event (begin.after, begin.answer) (step_of begin.timed.size begin.before begin.timed.event _ f.2) own in
    subst (λ later. count_by (λ m. is_lost s n m.timed.event) (during s later) ≤ count_by (changes_head s n) (during s later)) (sym f.1) (omega (arith, tries_run s n f.0 begin.after))
