-- A batch that a call has still to insert at a slot isn't held there yet, and the values of a batch are distinct.
use Rattle.std.proofs.Common.{◌≡◌, ℕ, ◌+◌, ◌<◌, ◌≤◌, Bool, true, false, ◌==◌, if◌then◌else◌, nat_lt, List, [], ◌∷◌, ◌++◌, length, get_or, set, replicate, Option, Some, None, refl, sym, ◌∙◌, ap, subst, ◌⊎◌, inl, inr, arith}
use Rattle.std.specs.List.{sum_by}
use Rattle.std.proofs.lemmas.List.{get_or-set_other, get_or_past}
use Rattle.std.proofs.lemmas.List.Sums.{sum_by_push, get_or-le-sum_by}
use Rattle.seize_machine.specs.Machine.State.{no_slot, no_batch, State, Slot, Progress, Head, Inactive, Active, Place, Mark, Look, Try, Out, Rest, slot_at, head_at, batch_at, is_active, waiting_at, linked_values, are_distinct, opening}
use Rattle.seize_machine.specs.Machine.Event.{Event}
use Rattle.seize_machine.specs.Machine.Next.{look, looked, marked_place, taken_slot, taken_call}
use Rattle.seize_machine.specs.Machine.History.{IsReached}
use Rattle.seize_machine.specs.Machine.Laws.{Lists, Walks}
use Rattle.seize_machine.specs.declared.machine.event.Answer.{Answer}
use Rattle.seize_machine.proofs.Steps.Relation.{Step, Stands, some_is, is_true, eq_true, lt_true, taken}
use Rattle.seize_machine.proofs.Counting.Sums.{one, occ, sum_alone, distinct_once}
use Rattle.seize_machine.proofs.Counting.Occurrences.{some_contained, distinct_if}
use Rattle.seize_machine.proofs.Invariants.Counts.{CountedIn, of_calls, owns, place_owns, walks, place_walks, listed, change, in_range, idle_range, idle_call, place_quiet, look_walks, looked_same}
use Rattle.seize_machine.proofs.Invariants.Kept.{place_left, inserts_left, at_set, pushed, starts}
use Rattle.seize_machine.proofs.Invariants.Always.{sum_replicate}
use Rattle.seize_machine.proofs.Invariants.Reached.{reached_inv}
use Rattle.seize_machine.proofs.Invariants.States.{reached_holds, tries_tidy}
use Rattle.seize_machine.proofs.Laws.LaterHolders.{walk_is}

-- a part of a sum, also one past the end, where there is nothing
pub part-le-sum : {X : Type 0} (f : X → ℕ) (xs : List X) (i : ℕ) (d : X) → f d ≡ 0 → f (get_or xs i d) ≤ sum_by f xs
part-le-sum f xs i d none = go (is_true (nat_lt i (length xs)))
  where
    go : (nat_lt i (length xs) ≡ true) ⊎ (nat_lt i (length xs) ≡ false) → f (get_or xs i d) ≤ sum_by f xs
    go (inl t) = get_or-le-sum_by f xs i d (lt_true _ _ t)
    go (inr t) =
        let past : length xs ≤ i = grind arith in
        let nothing : f (get_or xs i d) ≡ 0 = ap f (get_or_past xs i d past) ∙ none in
        omega arith

-- `inserts_left b m` counts how often a call has still to insert b at m. While one has, m neither lists nor walks b.

abbrev Unheld : ℕ → ℕ → List Slot → List Head → Type 0
Unheld b m slots heads = 1 ≤ of_calls (inserts_left b m) slots → (occ b (waiting_at (get_or heads m Inactive)) ≡ 0) × (walks b (get_or slots m no_slot).call ≡ 0)

abbrev UnheldIn : ℕ → ℕ → State → Type 0
UnheldIn b m st = Unheld b m st.slots st.heads

look_left : (b m c won : ℕ) (marks : List ℕ) → place_left b m (look c won marks) ≡ (if c == b then occ m marks else 0)
look_left b m c won [] = grind arith
look_left b m c won (k ∷ marks) = refl

looked_left : (b m c won k : ℕ) (head : Head) (later : List ℕ) → place_left b m (looked head c won k later) ≤ place_left b m (Look c won k later)
looked_left b m c won k (Active waiting) later = omega arith
looked_left b m c won k Inactive later = rw (look_left b m c won later) (fewer (c == b))
  where
    fewer : (t : Bool) → (if t then occ m later else 0) ≤ (if t then one (k == m) + occ m later else 0)
    fewer true = omega arith
    fewer false = omega arith

marked_left : (b m : ℕ) (active : Bool) (n note : ℕ) (marks batch : List ℕ) → place_left b m (marked_place active n note marks batch) ≡ 0
marked_left b m active n note marks batch = grind arith

-- who has still to insert a batch owns it
owns-left : (b m : ℕ) (call : Option Progress) → owns b call ≡ 0 → inserts_left b m call ≡ 0
owns-left b m None e = refl
owns-left b m (Some call) e = go call.place e
  where
    go : (place : Place) → place_owns b place ≡ 0 → place_left b m place ≡ 0
    go (Look c won k later) e = grind arith
    go (Try c won k later saw) e = grind arith
    go _ e = refl

-- a change of one slot's record that adds neither an insertion nor a walk
same_unheld : (b m : ℕ) (st : State) (i : ℕ) (new : Slot) (o : Option Progress) → i < length st.slots → (slot_at st i).call ≡ o
    → inserts_left b m new.call ≤ inserts_left b m o → walks b new.call ≤ walks b o → UnheldIn b m st → Unheld b m (set st.slots i new) st.heads
same_unheld b m st i new o r e fewer walk c = λ some.
    let old : (occ b (waiting_at (head_at st m)) ≡ 0) × (walks b (slot_at st m).call ≡ 0) = c (omega (arith, change (inserts_left b m) st i new o r e)) in
    (old.0, at_set (λ slot. walks b slot.call ≡ 0) st.slots i m new no_slot (λ same within. here same old.1) old.1)
  where
    here : i ≡ m → walks b (slot_at st m).call ≡ 0 → walks b new.call ≡ 0
    here same none =
        let mine : walks b (slot_at st i).call ≡ 0 = subst (λ k. walks b (slot_at st k).call ≡ 0) (sym same) none in
        let its : walks b (slot_at st i).call ≡ walks b o = ap (walks b) e in
        omega arith

-- a batch that is detached is new, so nobody holds it
detached_unheld : (b m : ℕ) (st : State) (s next note : ℕ) (marks queue : List ℕ) → Stands st s (Mark next note marks) queue → CountedIn b st → UnheldIn b m st
    → Unheld b m (set st.slots s (record { used = (slot_at st s).used; batch = []; call = Some (record { place = look (length st.batches) 0 marks; queue = queue }) })) st.heads
detached_unheld b m st s next note marks queue e counted c = go (is_true (length st.batches == b))
  where
    n : ℕ
    n = length st.batches

    new : Slot
    new = record { used = (slot_at st s).used; batch = []; call = Some (record { place = look n 0 marks; queue = queue }) }

    go : ((n == b) ≡ true) ⊎ ((n == b) ≡ false) → Unheld b m (set st.slots s new) st.heads
    go (inl t) =
        let is : n ≡ b = eq_true n b t in
        let none : listed b st.heads + of_calls (walks b) st.slots + of_calls (owns b) st.slots ≡ 0 = counted.fresh (omega arith) in
        let moved = change (walks b) st s new _ (in_range st s _ e) e in
        let quiet : of_calls (walks b) (set st.slots s new) ≡ 0 = omega (arith, moved, look_walks b n 0 marks) in
        λ some. (omega (arith, part-le-sum (λ head. occ b (waiting_at head)) st.heads m Inactive refl), omega (arith, part-le-sum (λ slot. walks b slot.call) (set st.slots s new) m no_slot refl))
    go (inr t) =
        let none : place_left b m (look n 0 marks) ≡ 0 = look_left b m n 0 marks ∙ ap (λ q. if q then occ m marks else 0) t in
        same_unheld b m st s new _ (in_range st s _ e) e (omega arith) (omega (arith, look_walks b n 0 marks)) c

-- an insertion that is won is one fewer to come
inserted_unheld : (b m : ℕ) (st : State) (s k a won : ℕ) (later saw queue waiting : List ℕ) → IsReached st → Stands st s (Try a won k later saw) queue → head_at st k ≡ Active waiting → CountedIn b st → UnheldIn b m st
    → Unheld b m (set st.slots s (record (slot_at st s) { call = Some (record { place = look a (won + 1) later; queue = queue }) })) (set st.heads k (Active (a ∷ waiting)))
inserted_unheld b m st s k a won later saw queue waiting reached e head_is counted c = go (is_true (a == b)) (is_true (k == m))
  where
    new : Slot
    new = record (slot_at st s) { call = Some (record { place = look a (won + 1) later; queue = queue }) }

    heads : List Head
    heads = set st.heads k (Active (a ∷ waiting))

    moved : of_calls (inserts_left b m) (set st.slots s new) + place_left b m (Try a won k later saw) ≡ of_calls (inserts_left b m) st.slots + place_left b m (look a (won + 1) later)
    moved = change (inserts_left b m) st s new _ (in_range st s _ e) e

    -- at another head, or of another batch: what waits there of b stays
    other : occ b (waiting_at (get_or heads m Inactive)) ≡ occ b (waiting_at (head_at st m)) → place_left b m (look a (won + 1) later) ≤ place_left b m (Try a won k later saw) → Unheld b m (set st.slots s new) heads
    other same fewer = λ some.
        let r : (occ b (waiting_at (head_at st m)) ≡ 0) × (walks b (get_or (set st.slots s new) m no_slot).call ≡ 0) = same_unheld b m st s new _ (in_range st s _ e) e fewer (omega (arith, look_walks b a (won + 1) later)) c some in
        (omega (arith, r.0), r.1)

    -- what waits at the head, where it is of another batch
    more : one (a == b) ≡ 0 → occ b (waiting_at (get_or heads m Inactive)) ≡ occ b (waiting_at (head_at st m))
    more none = at_set (λ head. occ b (waiting_at head) ≡ occ b (waiting_at (head_at st m))) st.heads k m (Active (a ∷ waiting)) Inactive (λ same within. here same) refl
      where
        here : k ≡ m → one (a == b) + occ b waiting ≡ occ b (waiting_at (head_at st m))
        here same = let was : occ b (waiting_at (head_at st m)) ≡ occ b waiting = ap (λ i. occ b (waiting_at (head_at st i))) (sym same) ∙ ap (λ head. occ b (waiting_at head)) head_is in omega arith

    go : ((a == b) ≡ true) ⊎ ((a == b) ≡ false) → ((k == m) ≡ true) ⊎ ((k == m) ≡ false) → Unheld b m (set st.slots s new) heads
    go (inr t) here =
        let new_none : place_left b m (look a (won + 1) later) ≡ 0 = look_left b m a (won + 1) later ∙ ap (λ q. if q then occ m later else 0) t in
        other (more (ap one t)) (omega arith)
    go (inl t) (inr u) =
        let new_left : place_left b m (look a (won + 1) later) ≡ occ m later = look_left b m a (won + 1) later ∙ ap (λ q. if q then occ m later else 0) t in
        let old_left : place_left b m (Try a won k later saw) ≡ one (k == m) + occ m later = ap (λ q. if q then one (k == m) + occ m later else 0) t in
        let same : get_or heads m Inactive ≡ head_at st m = get_or-set_other st.heads k m (Active (a ∷ waiting)) Inactive (λ i. grind arith) in
        other (ap (λ head. occ b (waiting_at head)) same) (omega arith)
    -- the call has no further insertion at m, and no other call has one of this batch
    go (inl t) (inl u) =
        let new_left : place_left b m (look a (won + 1) later) ≡ occ m later = look_left b m a (won + 1) later ∙ ap (λ q. if q then occ m later else 0) t in
        let old_left : place_left b m (Try a won k later saw) ≡ one (k == m) + occ m later = ap (λ q. if q then one (k == m) + occ m later else 0) t in
        let once : one (k == m) + occ m later ≤ 1 = distinct_once m (k ∷ later) (tries_tidy st s a won k later saw queue reached e).0 in
        let here : one (k == m) ≡ 1 = ap one u in
        let mine : owns b (slot_at st s).call ≡ one (a == b) = ap (owns b) e in
        let own : one (a == b) ≡ 1 = ap one t in
        let all : of_calls (inserts_left b m) st.slots ≡ inserts_left b m (slot_at st s).call = sum_alone (λ slot. inserts_left b m slot.call) (λ slot. owns b slot.call) (λ slot. owns-left b m slot.call) st.slots s no_slot (in_range st s _ e) (omega (arith, counted.alone)) in
        let its : inserts_left b m (slot_at st s).call ≡ place_left b m (Try a won k later saw) = ap (inserts_left b m) e in
        λ some. absurd (omega (arith, moved))

-- what was listed is walked
swapped_unheld : (b m : ℕ) (st : State) (s : ℕ) (stays : Bool) (queue : List ℕ) → Stands st s (Out stays) queue → UnheldIn b m st
    → Unheld b m (set st.slots s (record (slot_at st s) { call = Some (record { place = Rest [] (waiting_at (head_at st s)); queue = queue }) })) (set st.heads s (if stays then Active [] else Inactive))
swapped_unheld b m st s stays queue e c = λ some.
    let old : (occ b (waiting_at (head_at st m)) ≡ 0) × (walks b (slot_at st m).call ≡ 0) = c (omega (arith, change (inserts_left b m) st s new _ (in_range st s _ e) e)) in
    (at_set (λ head. occ b (waiting_at head) ≡ 0) st.heads s m _ Inactive (λ same within. emptied stays) old.0, at_set (λ slot. walks b slot.call ≡ 0) st.slots s m new no_slot (λ same within. subst (λ i. occ b (waiting_at (head_at st i)) ≡ 0) (sym same) old.0) old.1)
  where
    new : Slot
    new = record (slot_at st s) { call = Some (record { place = Rest [] (waiting_at (head_at st s)); queue = queue }) }

    emptied : (stays : Bool) → occ b (waiting_at (if stays then Active [] else Inactive)) ≡ 0
    emptied true = refl
    emptied false = refl

taken_none : (b m size n : ℕ) (rest : List ℕ) → (inserts_left b m (taken_call size n rest) ≡ 0) × (walks b (taken_call size n rest) ≡ 0)
taken_none b m size n rest = taken (λ o. (inserts_left b m o ≡ 0) × (walks b o ≡ 0)) size n rest (λ h. (refl, refl)) (λ h. (refl, refl))

unheld_step : (b m size : ℕ) (st : State) (event : Event) (d : State × Answer) → IsReached st → Step size st event d → UnheldIn b m st → UnheldIn b m d.0
unheld_step b m size st event _ r (Step.took_new s e least) c = λ some.
    let new : Slot = taken_slot size (length st.slots + 1) st.rest in
    let q : (inserts_left b m new.call ≡ 0) × (walks b new.call ≡ 0) = taken_none b m size (length st.slots + 1) st.rest in
    let old : (occ b (waiting_at (head_at st m)) ≡ 0) × (walks b (slot_at st m).call ≡ 0) = c (omega (arith, sum_by_push (λ slot. inserts_left b m slot.call) st.slots new, q.0)) in
    (pushed (λ head. occ b (waiting_at head) ≡ 0) st.heads m Inactive Inactive (λ same. refl) old.0, pushed (λ slot. walks b slot.call ≡ 0) st.slots m new no_slot (λ same. q.1) old.1)
unheld_step b m size st event _ r (Step.took_old s within e least) c =
    let q : _ × _ = taken_none b m size (length st.slots) st.rest in
    same_unheld b m st s (taken_slot size (length st.slots) st.rest) (slot_at st s).call within refl (omega (arith, q.0)) (omega (arith, q.1)) c
unheld_step b m size st event _ r (Step.gave s e off ends) c = same_unheld b m st s no_slot (slot_at st s).call (idle_range st s e) refl (omega arith) (omega arith) c
unheld_step b m size st event _ r (Step.gathered s e off lone some) c = same_unheld b m st s _ (slot_at st s).call (idle_range st s e) refl (omega arith) (omega arith) c
unheld_step b m size st event _ r (Step.entered s e off) c = λ some. (at_set (λ head. occ b (waiting_at head) ≡ 0) st.heads s m (Active []) Inactive (λ same within. refl) (c some).0, (c some).1)
unheld_step b m size st event _ r (Step.begun_retire s v e new) c = same_unheld b m st s _ None (idle_range st s e) (idle_call (slot_at st s) e) (omega arith) (omega arith) c
unheld_step b m size st event _ r (Step.begun_other s job place e which exact) c =
    let q : (place_left b m place ≤ 0) × (place_walks b place ≤ 0) = starts (λ place. (place_left b m place ≤ 0) × (place_walks b place ≤ 0)) (length st.slots) (omega arith, omega arith) (omega arith, omega arith) (omega arith, omega arith) (omega arith, omega arith) place which in
    same_unheld b m st s (record (slot_at st s) { call = Some (record { place = place; queue = [] }) }) None (idle_range st s e) (idle_call (slot_at st s) e) q.0 q.1 c
unheld_step b m size st event _ r (Step.put s v from before after place e which to after_is) c =
    let q : (place_left b m place ≡ 0) × (place_walks b place ≡ 0) = grind arith in
    same_unheld b m st s (record { used = (slot_at st s).used; batch = (slot_at st s).batch ++ v ∷ []; call = Some (record { place = place; queue = after }) }) _ (in_range st s _ e) e (omega (arith, q.0)) (omega (arith, q.1)) c
unheld_step b m size st event _ r (Step.marked s n next note marks queue e within turn) c =
    let q : _ × _ × _ = place_quiet b (is_active (head_at st n)) n note marks (slot_at st s).batch in
    same_unheld b m st s _ _ (in_range st s _ e) e (omega (arith, marked_left b m (is_active (head_at st n)) n note marks (slot_at st s).batch)) (omega (arith, q.0)) c
unheld_step b m size st event _ r (Step.looked_at s a won k later queue e) c =
    let q : _ × _ × _ = looked_same b (head_at st k) a won k later in
    same_unheld b m st s _ _ (in_range st s _ e) e (looked_left b m a won k (head_at st k) later) (omega (arith, q.0)) c
unheld_step b m size st event _ r (Step.detached s next note marks queue e le) c = detached_unheld b m st s next note marks queue e ((reached_inv st r).sound.counts b) c
unheld_step b m size st event _ r (Step.inserted s k a won later saw queue waiting e head_is) c = inserted_unheld b m st s k a won later saw queue waiting r e head_is ((reached_inv st r).sound.counts b) c
unheld_step b m size st event _ r (Step.lost s k a won later saw queue e differs) c = same_unheld b m st s _ _ (in_range st s _ e) e (omega arith) (omega arith) c
unheld_step b m size st event _ r (Step.added s a won queue d e h) c =
    subst (λ (d : State × Answer). UnheldIn b m d.0) (some_is _ _ h) (same_unheld b m st s _ _ (in_range st s _ e) e (omega arith) (omega arith) c)
unheld_step b m size st event _ r (Step.subtracted s a walk queue d e h) c =
    subst (λ (d : State × Answer). UnheldIn b m d.0) (some_is _ _ h) (same_unheld b m st s _ _ (in_range st s _ e) e (omega arith) (omega arith) c)
unheld_step b m size st event _ r (Step.swapped_out s stays queue e) c = swapped_unheld b m st s stays queue e c
unheld_step b m size st event _ r (Step.handed s v puts given walk queue e new) c = same_unheld b m st s _ _ (in_range st s _ e) e (omega arith) (omega arith) c
unheld_step b m size st event _ r (Step.returned s e) c = same_unheld b m st s (record (slot_at st s) { call = None }) _ (in_range st s _ e) e (omega arith) (omega arith) c
unheld_step b m size st event _ r (Step.read s l e) c = c
unheld_step b m size st event _ r (Step.exchanged s l exchange new e fresh exact) c = c
unheld_step b m size st event _ r (Step.compared s l exchange e exact) c = c

reached_unheld : (st : State) → IsReached st → (b m : ℕ) → UnheldIn b m st
reached_unheld = reached_holds (λ st. (b m : ℕ) → UnheldIn b m st) begins (λ st t d r step c b m. unheld_step b m t.size st t.event d r step (c b m))
  where
    begins : (slots : ℕ) (links : List (Option ℕ)) → are_distinct (linked_values links) ≡ true → (b m : ℕ) → UnheldIn b m (opening slots links)
    begins slots links distinct b m =
        let none : of_calls (inserts_left b m) (replicate slots no_slot) ≡ 0 = sum_replicate (λ slot. inserts_left b m slot.call) slots no_slot refl in
        λ some. absurd (omega arith)

-- where a call is about to insert its batch at a slot, that slot neither lists nor walks the batch
pub tried_unheld : (st : State) (s b won m : ℕ) (later saw queue : List ℕ) → IsReached st → Stands st s (Try b won m later saw) queue → (Lists st m b → ⊥) × (Walks st m b → ⊥)
tried_unheld st s b won m later saw queue r e = (λ h. omega (arith, some_contained b _ h, none.0), λ h. omega (arith, some_contained b _ h, walk_is b (slot_at st m).call, none.1))
  where
    some : 1 ≤ of_calls (inserts_left b m) st.slots
    some =
        let own : one (b == b) ≡ 1 = grind arith in
        let same : (b == b) ≡ true = grind arith in
        let here : one (m == m) ≡ 1 = grind arith in
        let its : inserts_left b m (slot_at st s).call ≡ one (m == m) + occ m later = ap (inserts_left b m) e ∙ ap (λ q. if q then one (m == m) + occ m later else 0) same in
        omega (arith, part-le-sum (λ slot. inserts_left b m slot.call) st.slots s no_slot refl)

    none : (occ b (waiting_at (head_at st m)) ≡ 0) × (walks b (slot_at st m).call ≡ 0)
    none = reached_unheld st r b m some

-- the values of a batch are distinct, since each value stands in one place
pub batch_distinct : (st : State) → IsReached st → (b : ℕ) → are_distinct (batch_at st b).values ≡ true
batch_distinct st r b = distinct_if (batch_at st b).values (λ v. omega (arith, part-le-sum (λ batch. occ v batch.values) st.batches b no_batch refl, ((reached_inv st r).once v).once))
