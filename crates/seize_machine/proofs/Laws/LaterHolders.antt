-- The law of later holders: after the add of a batch nobody lists it who did not list it then.
use Rattle.std.proofs.Common.{◌≡◌, ℕ, zero, suc, ◌+◌, ◌<◌, ◌≤◌, ℤ, pos, ◌+ℤ◌, Bool, true, false, ◌==◌, if◌then◌else◌, nat_lt, List, [], ◌∷◌, ◌++◌, length, get_or, set, Option, Some, None, refl, sym, ◌∙◌, ap, subst, ◌⊎◌, inl, inr, arith}
use Rattle.std.specs.List.{slice_get}
use Rattle.std.proofs.lemmas.List.{get_or_past, get_or-set_same, get_or-set_other, set_past, length-set, length_push}
use Rattle.std.proofs.lemmas.List.Sums.{sum_by_push}
use Rattle.seize_machine.specs.Machine.State.{no_slot, State, Slot, Batch, Progress, Head, Inactive, Active, Place, Append, Mark, Look, Try, Add, Out, Rest, slot_at, head_at, batch_at, waiting_at, is_active, linked_values, are_distinct, opening}
use Rattle.seize_machine.specs.Machine.Event.{Event}
use Rattle.seize_machine.specs.Machine.Next.{Outcome, next, look, is_zero, taken_slot, taken_call}
use Rattle.seize_machine.specs.Machine.History.{Timed, Moment, end_of, is_swap_out, HasParted}
use Rattle.seize_machine.specs.Machine.Laws.{walk_of, added_batch, added_by, Lists, Walks, NoLaterHolders}
use Rattle.seize_machine.specs.declared.machine.event.Answer.{Answer}
use Rattle.seize_machine.proofs.Steps.Relation.{Step, step_of, some_is, is_true, eq_true, taken}
use Rattle.seize_machine.proofs.Counting.Sums.{one, occ}
use Rattle.seize_machine.proofs.Counting.Occurrences.{contains_some, some_contained}
use Rattle.seize_machine.proofs.Invariants.Counts.{CountedIn, of_calls, owns, place_owns, walks, place_walks, change, in_range, idle_range, idle_call, in_call_of, held_range, place_quiet, look_walks, look_owns, looked_same}
use Rattle.seize_machine.proofs.Invariants.Kept.{at_set, pushed, starts}
use Rattle.seize_machine.proofs.Invariants.Always.{Inv, inv_step, opening_inv}
use Rattle.seize_machine.proofs.Lists.Histories.{run, moment_of, from_first, none_in, at_first, later}
use Rattle.seize_machine.proofs.Lists.Ends.{end_keeps}

-- how often slot s lists b, and how often its call is to walk it
abbrev lists : ℕ → State → ℕ → ℕ
lists b st s = occ b (waiting_at (head_at st s))

abbrev walked : ℕ → State → ℕ → ℕ
walked b st s = walks b (slot_at st s).call

-- no call owns b, which is there, and no slot holds b that did not hold it in the base
record Settled (b : ℕ) (base st : State) : Type 0 where
  lists_less : (s : ℕ) → lists b st s ≤ lists b base s
  held_less : (s : ℕ) → lists b st s + walked b st s ≤ lists b base s + walked b base s
  unowned : of_calls (owns b) st.slots ≡ 0
  there : b < length st.batches

-- a change of one slot's record that adds no walk and no owner of b
slot_settled : (b : ℕ) (base st : State) (i : ℕ) (new : Slot) (o : Option Progress) → i < length st.slots → (slot_at st i).call ≡ o → walks b new.call ≤ walks b o → owns b new.call ≤ owns b o
    → Settled b base st → ((s : ℕ) → walks b (get_or (set st.slots i new) s no_slot).call ≤ walked b st s) × (of_calls (owns b) (set st.slots i new) ≡ 0)
slot_settled b base st i new o r e walk own c = (
  λ s. at_set (λ slot. walks b slot.call ≤ walked b st s) st.slots i s new no_slot
      (λ same r. subst (λ s. walks b new.call ≤ walked b st s) same (omega (arith, ap (walks b) e)))
      (omega arith),
  omega (arith, change (owns b) st i new o r e, c.unowned),
)

-- the same, where no head and no number of batches changes
same_heads : (b : ℕ) (base st : State) (i : ℕ) (new : Slot) (o : Option Progress) (rest loose gone named : List ℕ) → i < length st.slots → (slot_at st i).call ≡ o → walks b new.call ≤ walks b o → owns b new.call ≤ owns b o
    → Settled b base st → (batches : List Batch) → length st.batches ≤ length batches
    → Settled b base (record st { slots = set st.slots i new; batches = batches; rest = rest; loose = loose; gone = gone; named = named })
same_heads b base st i new o rest loose gone named r e walk own c batches more =
    let k = slot_settled b base st i new o r e walk own c in
    record {
      lists_less = c.lists_less;
      held_less = λ s. omega (arith, k.0 s, c.held_less s);
      unowned = k.1;
      there = omega (arith, c.there);
    }

-- where one head becomes another that lists b no more than before
with_head : (b : ℕ) (base st : State) (m : ℕ) (head : Head) (slots : List Slot) → occ b (waiting_at head) ≤ lists b st m
    → ((s : ℕ) → (s ≡ m → ⊥) → walks b (get_or slots s no_slot).call ≤ walked b st s)
    → occ b (waiting_at head) + walks b (get_or slots m no_slot).call ≤ lists b st m + walked b st m
    → of_calls (owns b) slots ≡ 0 → Settled b base st → Settled b base (record st { slots = slots; heads = set st.heads m head })
with_head b base st m head slots fewer others here own c =
    record {
      lists_less = λ s. less s;
      held_less = λ s. held s (is_true (s == m));
      unowned = own;
      there = c.there;
    }
  where
    less : (s : ℕ) → occ b (waiting_at (get_or (set st.heads m head) s Inactive)) ≤ lists b base s
    less s =
        at_set (λ head. occ b (waiting_at head) ≤ lists b base s) st.heads m s head Inactive
        (λ same r. subst (λ s. occ b (waiting_at head) ≤ lists b base s) same (omega (arith, c.lists_less m))) (c.lists_less s)

    same_list : (s : ℕ) → occ b (waiting_at (get_or (set st.heads m head) s Inactive)) ≤ lists b st s
    same_list s =
        at_set (λ head. occ b (waiting_at head) ≤ lists b st s) st.heads m s head Inactive
        (λ same r. subst (λ s. occ b (waiting_at head) ≤ lists b st s) same fewer) (omega arith)

    at_m : (s : ℕ) → s ≡ m → occ b (waiting_at (get_or (set st.heads m head) s Inactive)) + walks b (get_or slots s no_slot).call ≤ lists b base s + walked b base s
    at_m s same = rw same (omega (arith, go (is_true (nat_lt m (length st.heads))), c.held_less m))
      where
        go : (nat_lt m (length st.heads) ≡ true) ⊎ (nat_lt m (length st.heads) ≡ false) → occ b (waiting_at (get_or (set st.heads m head) m Inactive)) + walks b (get_or slots m no_slot).call ≤ lists b st m + walked b st m
        go (inl t) = rw (now t) here
          where
            now : nat_lt m (length st.heads) ≡ true → get_or (set st.heads m head) m Inactive ≡ head
            now t = get_or-set_same st.heads m head Inactive (grind arith)
        go (inr t) = let past : length st.heads ≤ m = grind arith in
            let was : set st.heads m head ≡ st.heads = set_past st.heads m head past in
            let none : lists b st m ≡ 0 = ap (λ head. occ b (waiting_at head)) (get_or_past st.heads m Inactive past) in
            rw was (omega (arith, here, none))

    held : (s : ℕ) → ((s == m) ≡ true) ⊎ ((s == m) ≡ false) → occ b (waiting_at (get_or (set st.heads m head) s Inactive)) + walks b (get_or slots s no_slot).call ≤ lists b base s + walked b base s
    held s (inl t) = at_m s (eq_true s m t)
    held s (inr t) = omega (arith, same_list s, others s (λ e. grind arith), c.held_less s)

-- a place that walks no batch and owns none
abbrev Calm : ℕ → Place → Type 0
Calm b place = (place_walks b place ≤ 0) × (place_owns b place ≤ 0)

calm_start : (b n : ℕ) (place : Place) → (place ≡ Rest [] []) ⊎ (place ≡ Mark 0 n []) ⊎ (place ≡ Out true) ⊎ (place ≡ Out false) → Calm b place
calm_start b n place which = starts (Calm b) n (omega arith, omega arith) (omega arith, omega arith) (omega arith, omega arith) (omega arith, omega arith) place which

calm_put : (b n : ℕ) (place : Place) (P : Type 0) → ((place ≡ Rest [] []) × P) ⊎ (place ≡ Mark 0 n []) → Calm b place
calm_put b n place P (inl e) = calm_start b n place (inl e.0)
calm_put b n place P (inr e) = calm_start b n place (inr (inl e))

other_batch : (a b n : ℕ) → one (a == b) ≤ n → n ≡ 0 → one (a == b) ≡ 0
other_batch a b n le e = omega arith

taken_none : (b size n : ℕ) (rest : List ℕ) → (walks b (taken_call size n rest) ≡ 0) × (owns b (taken_call size n rest) ≡ 0)
taken_none b size n rest = taken (λ o. (walks b o ≡ 0) × (owns b o ≡ 0)) size n rest (λ h. (refl, refl)) (λ h. (refl, refl))

settled_step : (b size : ℕ) (base st : State) (event : Event) (d : State × Answer) → Step size st event d → Settled b base st → Settled b base d.0
settled_step b size base st event _ (Step.took_new s e least) c =
    let new : Slot = taken_slot size (length st.slots + 1) st.rest in
    let q : (walks b new.call ≡ 0) × (owns b new.call ≡ 0) = taken_none b size (length st.slots + 1) st.rest in
    let same : (t : ℕ) → get_or (st.heads ++ Inactive ∷ []) t Inactive ≡ head_at st t =
    λ t. pushed (λ head. head ≡ head_at st t) st.heads t Inactive Inactive (λ i. sym (get_or_past st.heads t Inactive (omega (arith, i)))) refl in
    let walk : (t : ℕ) → walks b (get_or (st.slots ++ new ∷ []) t no_slot).call ≤ walked b st t =
    λ t. pushed (λ slot. walks b slot.call ≤ walked b st t) st.slots t new no_slot (λ i. omega (arith, q.0)) (omega arith) in
    record {
      lists_less = λ t. rw (same t) (c.lists_less t);
      held_less = λ t. rw (same t) (omega (arith, walk t, c.held_less t));
      unowned = omega (arith, sum_by_push (λ slot. owns b slot.call) st.slots new, c.unowned, q.1);
      there = c.there;
    }
settled_step b size base st event _ (Step.took_old s r e least) c =
    let q : _ × _ = taken_none b size (length st.slots) st.rest in
    same_heads b base st s (taken_slot size (length st.slots) st.rest) (slot_at st s).call [] st.loose st.gone st.named r refl (omega (arith, q.0)) (omega (arith, q.1)) c st.batches (omega arith)
settled_step b size base st event _ (Step.gave s e off ends) c = same_heads b base st s no_slot (slot_at st s).call _ st.loose st.gone st.named (idle_range st s e) refl (omega arith) (omega arith) c st.batches (omega arith)
settled_step b size base st event _ (Step.gathered s e off lone some) c = same_heads b base st s _ (slot_at st s).call [] st.loose st.gone st.named (idle_range st s e) refl (omega arith) (omega arith) c st.batches (omega arith)
settled_step b size base st event _ (Step.entered s e off) c = with_head b base st s (Active []) st.slots (omega arith) (λ t other. omega arith) (omega arith) c.unowned c
settled_step b size base st event _ (Step.begun_retire s v e new) c = same_heads b base st s _ None _ _ _ _ (idle_range st s e) (idle_call (slot_at st s) e) (omega arith) (omega arith) c st.batches (omega arith)
settled_step b size base st event _ (Step.begun_other s job place e which exact) c =
    let q : Calm b place = calm_start b (length st.slots) place which in
    same_heads b base st s (record (slot_at st s) { call = Some (record { place = place; queue = [] }) }) None st.rest st.loose st.gone st.named (idle_range st s e) (idle_call (slot_at st s) e) q.0 q.1 c st.batches (omega arith)
settled_step b size base st event _ (Step.put s v from before after place e which to after_is) c =
    let q : Calm b place = calm_put b (length st.slots) place _ to in
    same_heads b base st s (record { used = (slot_at st s).used; batch = (slot_at st s).batch ++ v ∷ []; call = Some (record { place = place; queue = after }) }) _ st.rest st.loose st.gone st.named (in_range st s _ e) e (omega (arith, q.0)) (omega (arith, q.1)) c st.batches (omega arith)
settled_step b size base st event _ (Step.marked s n next note marks queue e r k) c =
    let q = place_quiet b (is_active (head_at st n)) n note marks (slot_at st s).batch in
    same_heads b base st s _ _ st.rest st.loose st.gone st.named (in_range st s _ e) e (omega (arith, q.0)) (omega (arith, q.1)) c st.batches (omega arith)
settled_step b size base st event _ (Step.looked_at s a won m later queue e) c =
    let q = looked_same b (head_at st m) a won m later in
    same_heads b base st s _ _ st.rest st.loose st.gone st.named (in_range st s _ e) e (omega (arith, q.0)) (omega (arith, q.1)) c st.batches (omega arith)
settled_step b size base st event _ (Step.detached s next note marks queue e le) c =
    let own : place_owns b (look (length st.batches) 0 marks) ≡ one (length st.batches == b) = look_owns b (length st.batches) 0 marks in
    let other : one (length st.batches == b) ≡ 0 = (let t : (length st.batches == b) ≡ false = past c.there in ap one t) in
    same_heads b base st s (record { used = (slot_at st s).used; batch = []; call = Some (record { place = look (length st.batches) 0 marks; queue = queue }) }) _ st.rest st.loose st.gone st.named (in_range st s _ e) e
    (omega (arith, look_walks b (length st.batches) 0 marks)) (omega arith) c (st.batches ++ record { values = (slot_at st s).batch; count = pos 0 } ∷ []) (omega (arith, length_push st.batches (record { values = (slot_at st s).batch; count = pos 0 })))
  where
    past : b < length st.batches → (length st.batches == b) ≡ false
    past h = grind arith
settled_step b size base st event _ (Step.inserted s m a won later saw queue waiting e head_is) c =
    let new : Slot = record (slot_at st s) { call = Some (record { place = look a (won + 1) later; queue = queue }) } in
    let other : one (a == b) ≡ 0 = other_batch a b _ (in_call_of b st s (Try a won m later saw) queue e) c.unowned in
    let k = slot_settled b base st s new _ (in_range st s _ e) e (omega (arith, look_walks b a (won + 1) later)) (omega (arith, look_owns b a (won + 1) later)) c in
    let same : lists b st m ≡ occ b waiting = ap (λ head. occ b (waiting_at head)) head_is in
    with_head b base st m (Active (a ∷ waiting)) (set st.slots s new) (omega arith) (λ t o. k.0 t) (omega (arith, k.0 m)) k.1 c
settled_step b size base st event _ (Step.lost s m a won later saw queue e differs) c = same_heads b base st s _ _ st.rest st.loose st.gone st.named (in_range st s _ e) e (omega arith) (omega arith) c st.batches (omega arith)
settled_step b size base st event _ (Step.added s a won queue d e h) c = subst (λ (d : State × Answer). Settled b base d.0) (some_is _ _ h) (same_heads b base st s _ _ st.rest st.loose st.gone st.named (in_range st s _ e) e (omega arith) (omega arith) c _ (omega (arith, length-set {A = Batch})))
settled_step b size base st event _ (Step.subtracted s a walk queue d e h) c = subst (λ (d : State × Answer). Settled b base d.0) (some_is _ _ h) (same_heads b base st s _ _ st.rest st.loose st.gone st.named (in_range st s _ e) e (omega arith) (omega arith) c _ (omega (arith, length-set {A = Batch})))
settled_step b size base st event _ (Step.swapped_out s stays queue e) c =
    let new : Slot = record (slot_at st s) { call = Some (record { place = Rest [] (waiting_at (head_at st s)); queue = queue }) } in
    let r : s < length st.slots = in_range st s _ e in
    let none : (stays : Bool) → occ b (waiting_at (if stays then Active [] else Inactive)) ≡ 0 = λ stays. quiet stays in
    let now : walks b (get_or (set st.slots s new) s no_slot).call ≡ lists b st s = ap (λ (slot : Slot). walks b slot.call) (get_or-set_same st.slots s new no_slot r) in
    with_head b base st s (if stays then Active [] else Inactive) (set st.slots s new) (omega (arith, none stays))
    (λ t o. rw (get_or-set_other st.slots s t new no_slot o) (omega arith)) (omega (arith, none stays))
    (omega (arith, change (owns b) st s new _ r e, c.unowned)) c
  where
    quiet : (stays : Bool) → occ b (waiting_at (if stays then Active [] else Inactive)) ≡ 0
    quiet true = refl
    quiet false = refl
settled_step b size base st event _ (Step.handed s v puts given walk queue e new) c = same_heads b base st s _ _ st.rest st.loose _ _ (in_range st s _ e) e (omega arith) (omega arith) c st.batches (omega arith)
settled_step b size base st event _ (Step.returned s e) c = same_heads b base st s (record (slot_at st s) { call = None }) _ st.rest st.loose st.gone st.named (in_range st s _ e) e (omega arith) (omega arith) c st.batches (omega arith)
settled_step b size base st event _ (Step.read s l e) c = c
settled_step b size base st event _ (Step.exchanged s l exchange new e fresh exact) c = record { lists_less = c.lists_less; held_less = c.held_less; unowned = c.unowned; there = c.there }
settled_step b size base st event _ (Step.compared s l exchange e exact) c = c

-- right after the add
settled_start : (b size : ℕ) (st : State) (event : Event) (d : State × Answer) → Step size st event d → Inv st → added_by st event ≡ Some b → Settled b d.0 d.0
settled_start b size st event _ (Step.added s a won queue d e h) i adds =
    let a_is : a ≡ b = some_is _ _ (sym (ap added_batch e) ∙ adds) in
    let c : CountedIn b st = i.sound.counts b in
    let mine : one (b == b) ≡ 1 = grind arith in
    let owned : one (a == b) ≤ of_calls (owns b) st.slots = in_call_of b st s (Add a won) queue e in
    let own : one (a == b) ≡ 1 = rw a_is mine in
    let r : b < length st.batches = held_range b _ _ c.fresh (omega arith) in
    let count : ℤ = (batch_at st a).count +ℤ pos won in
    let given : List ℕ = if is_zero count then (batch_at st a).values else [] in
    subst (λ (d : State × Answer). Settled b d.0 d.0) (some_is _ _ h)
    (record {
      lists_less = λ s. omega arith;
      held_less = λ s. omega arith;
      unowned = omega (arith, change (owns b) st s (record (slot_at st s) { call = Some (record { place = Rest given []; queue = queue }) }) _ (in_range st s _ e) e, c.alone);
      there = omega (arith, length-set {A = Batch});
    })
settled_start b size st event _ _ i adds = absurd (cc)

-- a batch that is there, and to which no call has still to add, holds nobody who did not hold it
at_rest : (b : ℕ) (st : State) → of_calls (owns b) st.slots ≡ 0 → b < length st.batches → Settled b st st
at_rest b st none r = record { lists_less = λ s. omega arith; held_less = λ s. omega arith; unowned = none; there = r }

-- so much from a settled state on, at any later event
abbrev Since : ℕ → Moment → State → Type 0
Since b m end = Settled b m.after end

since : (b p : ℕ) (ts : List Timed) (st : State) → Settled b st st → (m : Moment) → slice_get (run st ts) p ≡ Some m → Since b m (end_of st (run st ts))
since b p [] st c m at = none_in p m at
since b zero (t ∷ ts) st c m at = go (next t.size st t.event) refl at
  where
    go : (o : Outcome) → next t.size st t.event ≡ o → slice_get (from_first o st t ts) zero ≡ Some m → Since b m (end_of st (from_first o st t ts))
    go None n at = none_in zero m at
    go (Some d) n at =
        let m_is : moment_of st t d ≡ m = some_is _ _ at in
        let k : Settled b st d.0 = settled_step b t.size st st t.event d (step_of t.size st t.event d n) c in
        subst (λ (m : Moment). Since b m (end_of d.0 (run d.0 ts))) m_is (end_keeps (Settled b d.0) (λ size st event e step c. settled_step b size d.0 st event e step c) ts d.0 (at_rest b d.0 k.unowned k.there))
since b (suc p) (t ∷ ts) st c m at = go (next t.size st t.event) refl at (λ st. since b p ts st)
  where
    go : (o : Outcome) → next t.size st t.event ≡ o → slice_get (from_first o st t ts) (suc p) ≡ Some m
        → ((st : State) → Settled b st st → (m : Moment) → slice_get (run st ts) p ≡ Some m → Since b m (end_of st (run st ts))) → Since b m (end_of st (from_first o st t ts))
    go None n at ih = none_in (suc p) m at
    go (Some d) n at ih =
        let k : Settled b st d.0 = settled_step b t.size st st t.event d (step_of t.size st t.event d n) c in
        ih d.0 (at_rest b d.0 k.unowned k.there) m at

-- at the add and at each later event
since_add : (b a p : ℕ) (ts : List Timed) (st : State) → Inv st → (add : Moment) → slice_get (run st ts) a ≡ Some add → added_by add.before add.timed.event ≡ Some b
    → a ≤ p → (m : Moment) → slice_get (run st ts) p ≡ Some m → Since b m (end_of st (run st ts))
since_add b a p [] st i add at adds le m here = none_in a add at
since_add b zero p (t ∷ ts) st i add at adds le m here = go p (next t.size st t.event) refl at here
  where
    go : (p : ℕ) (o : Outcome) → next t.size st t.event ≡ o → slice_get (from_first o st t ts) zero ≡ Some add → slice_get (from_first o st t ts) p ≡ Some m → Since b m (end_of st (from_first o st t ts))
    go p None n at here = none_in zero add at
    go p (Some d) n at here = which p here
      where
        start : Settled b d.0 d.0
        start = settled_start b t.size st t.event d (step_of t.size st t.event d n) i (ap (λ (m : Moment). added_by m.before m.timed.event) (some_is (moment_of st t d) add at) ∙ adds)

        which : (p : ℕ) → slice_get (moment_of st t d ∷ run d.0 ts) p ≡ Some m → Since b m (end_of d.0 (run d.0 ts))
        which zero here = subst (λ (m : Moment). Since b m (end_of d.0 (run d.0 ts))) (some_is (moment_of st t d) m here) (end_keeps (Settled b d.0) (λ size st event e step c. settled_step b size d.0 st event e step c) ts d.0 start)
        which (suc q) here = since b q ts d.0 start m here
since_add b (suc a) zero (t ∷ ts) st i add at adds le m here = absurd (omega arith)
since_add b (suc a) (suc p) (t ∷ ts) st i add at adds le m here = go (next t.size st t.event) refl at here (λ st. since_add b a p ts st)
  where
    go : (o : Outcome) → next t.size st t.event ≡ o → slice_get (from_first o st t ts) (suc a) ≡ Some add → slice_get (from_first o st t ts) (suc p) ≡ Some m
        → ((st : State) → Inv st → (add : Moment) → slice_get (run st ts) a ≡ Some add → added_by add.before add.timed.event ≡ Some b → a ≤ p → (m : Moment) → slice_get (run st ts) p ≡ Some m → Since b m (end_of st (run st ts)))
        → Since b m (end_of st (from_first o st t ts))
    go None n at here ih = none_in (suc a) add at
    go (Some d) n at here ih = ih d.0 (inv_step t.size st t.event d (step_of t.size st t.event d n) i) add at adds (omega arith) m here

-- each moment is a legal event
legal_at : (p : ℕ) (ts : List Timed) (st : State) (m : Moment) → slice_get (run st ts) p ≡ Some m → next m.timed.size m.before m.timed.event ≡ Some (m.after, m.answer)
legal_at p [] st m at = none_in p m at
legal_at zero (t ∷ ts) st m at = at_first (λ m. next m.timed.size m.before m.timed.event ≡ Some (m.after, m.answer)) (next t.size st t.event) st t ts m at (λ d e. e)
legal_at (suc p) (t ∷ ts) st m at = let w = later (next t.size st t.event) st t ts p m at in legal_at p ts (w.0).0 m w.2

-- who swaps its head out lists nothing then
swapped_empty : (b s size : ℕ) (st : State) (event : Event) (d : State × Answer) → Step size st event d → is_swap_out s event ≡ true → lists b d.0 s ≡ 0
swapped_empty b s size st event _ (Step.swapped_out i stays queue e) own =
    subst (λ (j : ℕ). occ b (waiting_at (get_or (set st.heads i (if stays then Active [] else Inactive)) j Inactive)) ≡ 0) (eq_true i s own)
    (go (is_true (nat_lt i (length st.heads))))
  where
    new : Head
    new = if stays then Active [] else Inactive

    quiet : (stays : Bool) → occ b (waiting_at (if stays then Active [] else Inactive)) ≡ 0
    quiet true = refl
    quiet false = refl

    go : (nat_lt i (length st.heads) ≡ true) ⊎ (nat_lt i (length st.heads) ≡ false) → occ b (waiting_at (get_or (set st.heads i new) i Inactive)) ≡ 0
    go (inl t) = let r : i < length st.heads = grind arith in ap (λ (head : Head). occ b (waiting_at head)) (get_or-set_same st.heads i new Inactive r) ∙ quiet stays
    go (inr t) =
        let past : length st.heads ≤ i = grind arith in
        ap (λ (l : List Head). occ b (waiting_at (get_or l i Inactive))) (set_past st.heads i new past) ∙ ap (λ (head : Head). occ b (waiting_at head)) (get_or_past st.heads i Inactive past)
swapped_empty b s size st event _ _ own = absurd (cc)

pub walk_is : (b : ℕ) (o : Option Progress) → occ b (walk_of o) ≡ walks b o
walk_is b None = refl
walk_is b (Some call) = go call.place
  where
    go : (place : Place) → occ b (elim place [ Rest given walk ↦ walk | _ ↦ [] ]) ≡ place_walks b place
    go (Append v) = refl
    go (Mark n note marks) = refl
    go (Look a won m later) = refl
    go (Try a won m later saw) = refl
    go (Add a won) = refl
    go (Out stays) = refl
    go (Rest given walk) = refl

pub law_no_later_holders : (slots : ℕ) (links : List (Option ℕ)) (ts : List Timed) → are_distinct (linked_values links) ≡ true → NoLaterHolders (opening slots links) (run (opening slots links) ts)
law_no_later_holders slots links ts distinct b a add at adds s = (listing, walking)
  where
    start : State
    start = opening slots links

    end : State
    end = end_of (opening slots links) (run (opening slots links) ts)

    c : (p : ℕ) (m : Moment) → a ≤ p → slice_get (run (opening slots links) ts) p ≡ Some m → Settled b m.after end
    c p m le here = since_add b a p ts (opening slots links) (opening_inv slots links distinct) add at adds le m here

    unparted : Lists end s b → ¬ (HasParted (run (opening slots links) ts) s a (length (run (opening slots links) ts)))
    unparted h w =
        let p : ℕ = w.0 in
        let after : a < p = w.1 in
        let m : Moment = (w.3).0 in
        let step : Step m.timed.size m.before m.timed.event (m.after, m.answer) = step_of m.timed.size m.before m.timed.event (m.after, m.answer) (legal_at p ts (opening slots links) m (w.3).1) in
        let none : lists b m.after s ≡ 0 = swapped_empty b s m.timed.size m.before m.timed.event (m.after, m.answer) step (w.3).2 in
        omega (arith, some_contained b _ h, (c p m (omega arith) (w.3).1).lists_less s, none)

    listing : Lists end s b → Lists add.after s b × ¬ (HasParted (run (opening slots links) ts) s a (length (run (opening slots links) ts)))
    listing h = (contains_some b _ (omega (arith, some_contained b _ h, (c a add (omega arith) at).lists_less s)), unparted h)

    walking : Walks end s b → (p : ℕ) (m : Moment) → a ≤ p → slice_get (run (opening slots links) ts) p ≡ Some m → Lists m.after s b ⊎ Walks m.after s b
    walking h p m le here =
        let some : 1 ≤ lists b m.after s + walked b m.after s = omega (arith, some_contained b _ h, walk_is b (slot_at end s).call, (c p m le here).held_less s) in
        which m (nat_lt 0 (lists b m.after s)) refl some
      where
        which : (m : Moment) (t : Bool) → nat_lt 0 (lists b m.after s) ≡ t → 1 ≤ lists b m.after s + walked b m.after s → Lists m.after s b ⊎ Walks m.after s b
        which m true t some = inl (contains_some b _ (grind arith))
        which m false t some =
            let none : lists b m.after s ≡ 0 = grind arith in
            inr (contains_some b _ (omega (arith, walk_is b (slot_at m.after s).call)))
