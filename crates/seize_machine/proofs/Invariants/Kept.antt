-- While an active slot neither leaves nor refreshes, it keeps back what was not given up when it was active.
pub use Rattle.seize_machine.specs.Machine.Kept.{place_given, given, place_left, inserts_left, WillMark, Marks, KeepsBack, KeptIn}
use Rattle.std.proofs.Common.{◌≡◌, ◌≢◌, ℕ, ◌+◌, ◌<◌, ◌≤◌, ℤ, pos, negsuc, ◌+ℤ◌, ◌-ℤ◌, Bool, true, false, ◌==◌, if◌then◌else◌, nat_lt, List, [], ◌∷◌, ◌++◌, length, get_or, set, Option, Some, None, refl, sym, ◌∙◌, ap, subst, ◌⊎◌, inl, inr, arith}
use Rattle.std.proofs.lemmas.Int.{ints}
use Rattle.std.proofs.lemmas.List.{get_or-set_same, get_or-set_other, get_or_past, get_or_push, get_or_append_left, set_past}
use Rattle.std.proofs.lemmas.List.Sums.{sum_by_push, get_or-le-sum_by}
use Rattle.seize_machine.specs.Machine.State.{no_slot, no_batch, State, Slot, Progress, Head, Inactive, Active, Place, Append, Mark, Look, Try, Add, Out, Rest, slot_at, head_at, batch_at, is_active, waiting_at}
use Rattle.seize_machine.specs.Machine.Event.{Event, SwapOut}
use Rattle.seize_machine.specs.Machine.Next.{look, marked_place, looked, is_zero, taken_slot, taken_call}
use Rattle.seize_machine.specs.declared.machine.event.Answer.{Answer}
use Rattle.seize_machine.proofs.Steps.Relation.{Step, Stands, is_true, eq_true, lt_true, some_is, taken}
use Rattle.seize_machine.proofs.Counting.Sums.{one, occ, occ-push, sum_alone, sum_nothing}
use Rattle.seize_machine.proofs.Invariants.Counts.{Counted, CountedIn, of_calls, owns, place_owns, wins, walks, listed, change, in_range, idle_range, idle_call, get_or_push_other, owns-wins, wins_alone, head_range, Free}

pub record Sound (st : State) : Type 0 where
  pub counts : (b : ℕ) → CountedIn b st
  pub lengths : length st.heads ≡ length st.slots
  pub free : Free st

-- an element after a write
pub at_set : {X : Type 0} (P : X → Type 0) (xs : List X) (i j : ℕ) (y d : X) → (i ≡ j → i < length xs → P y) → P (get_or xs j d) → P (get_or (set xs i y) j d)
at_set P xs i j y d new old = go (is_true (i == j)) (is_true (nat_lt i (length xs)))
  where
    go : ((i == j) ≡ true) ⊎ ((i == j) ≡ false) → (nat_lt i (length xs) ≡ true) ⊎ (nat_lt i (length xs) ≡ false) → P (get_or (set xs i y) j d)
    go (inl t) (inl h) = rw (← eq_true i j t) (rw (get_or-set_same xs i y d (lt_true _ _ h)) (new (eq_true i j t) (lt_true _ _ h)))
    go (inl t) (inr h) = let r : length xs ≤ i = grind arith in rw (set_past xs i y r) old
    go (inr t) h = let other : j ≢ i = grind arith in rw (get_or-set_other xs i j y d other) old

pub pushed : {X : Type 0} (P : X → Type 0) (xs : List X) (j : ℕ) (y d : X) → (length xs ≡ j → P y) → P (get_or xs j d) → P (get_or (xs ++ y ∷ []) j d)
pushed P xs j y d new old = go (is_true (length xs == j))
  where
    go : ((length xs == j) ≡ true) ⊎ ((length xs == j) ≡ false) → P (get_or (xs ++ y ∷ []) j d)
    go (inl t) = rw (get_or_push xs y d j (eq_true _ _ t)) (new (eq_true _ _ t))
    go (inr t) = let other : length xs ≢ j = grind arith in rw (get_or_push_other xs y d j other) old

-- a change of one slot's record
keeps : (s v : ℕ) (st : State) (i : ℕ) (new : Slot) (o : Option Progress) → i < length st.slots → (slot_at st i).call ≡ o
    → given v new.call ≡ given v o → (1 ≤ occ v new.batch → Marks s new.call) → ((b : ℕ) → inserts_left b s new.call ≡ inserts_left b s o) → KeptIn s v st → KeepsBack s v (set st.slots i new) st.heads st.batches st.gone
keeps s v st i new o r e same_given marked same_left c =
    record {
      active = c.active;
      not_given = omega (arith, change (given v) st i new o r e, c.not_given);
      not_gone = c.not_gone;
      marks = λ t. at_set (λ slot. 1 ≤ occ v slot.batch → Marks s slot.call) st.slots i t new no_slot (λ same h. marked) (c.marks t);
      waits = λ b h. omega (arith, change (inserts_left b s) st i new o r e, same_left b, c.waits b h);
    }

in_slots_range : (s : ℕ) (st : State) → Sound st → is_active (head_at st s) ≡ true → s < length st.slots
in_slots_range s st sound h = omega (arith, go (is_true (nat_lt s (length st.heads))), sound.lengths)
  where
    go : (nat_lt s (length st.heads) ≡ true) ⊎ (nat_lt s (length st.heads) ≡ false) → s < length st.heads
    go (inl t) = lt_true _ _ t
    go (inr t) =
        let r : length st.heads ≤ s = grind arith in
        absurd (let off : is_active (head_at st s) ≡ false = ap is_active (get_or_past st.heads s Inactive r) in cc)

look_left : (b s c won : ℕ) (marks : List ℕ) → place_left b s (look c won marks) ≡ (if c == b then occ s marks else 0)
look_left b s c won [] = grind arith
look_left b s c won (m ∷ marks) = refl

pub look_given : (v c won : ℕ) (marks : List ℕ) → place_given v (look c won marks) ≡ 0
look_given v c won [] = refl
look_given v c won (m ∷ marks) = refl

look_marks : (s c won : ℕ) (marks : List ℕ) → WillMark s (look c won marks)
look_marks s c won [] = tt
look_marks s c won (m ∷ marks) = tt

looked_left : (b s : ℕ) (heads : List Head) (c won m : ℕ) (later : List ℕ) → is_active (get_or heads s Inactive) ≡ true
    → place_left b s (looked (get_or heads m Inactive) c won m later) ≡ (if c == b then one (m == s) + occ s later else 0)
looked_left b s heads c won m later on = go (get_or heads m Inactive) refl (is_true (m == s))
  where
    go : (head : Head) → get_or heads m Inactive ≡ head → ((m == s) ≡ true) ⊎ ((m == s) ≡ false) → place_left b s (looked head c won m later) ≡ (if c == b then one (m == s) + occ s later else 0)
    go (Active waiting) e t = refl
    go Inactive e (inl t) = absurd (let off : is_active (get_or heads m Inactive) ≡ false = ap is_active e in let same : m ≡ s = eq_true m s t in let on2 : is_active (get_or heads m Inactive) ≡ true = rw same on in cc)
    go Inactive e (inr t) = let own : one (m == s) ≡ 0 = ap one t in look_left b s c won later ∙ ap (λ k. if c == b then k else 0) (omega arith)

pub looked_given : (v : ℕ) (head : Head) (c won m : ℕ) (later : List ℕ) → place_given v (looked head c won m later) ≡ 0
looked_given v Inactive c won m later = look_given v c won later
looked_given v (Active waiting) c won m later = refl

looked_marks : (s : ℕ) (head : Head) (c won m : ℕ) (later : List ℕ) → WillMark s (looked head c won m later)
looked_marks s Inactive c won m later = look_marks s c won later
looked_marks s (Active waiting) c won m later = tt

marked_left : (b s : ℕ) (active : Bool) (n note : ℕ) (marks batch : List ℕ) → place_left b s (marked_place active n note marks batch) ≡ 0
marked_left b s active n note marks batch = grind arith

pub marked_given : (v : ℕ) (active : Bool) (n note : ℕ) (marks batch : List ℕ) → place_given v (marked_place active n note marks batch) ≡ 0
marked_given v active n note marks batch = grind arith

mark_skip : (s n next note k : ℕ) → (n ≡ next) ⊎ ((note ≤ next) × (next < n)) → s < note → (s < next → 1 ≤ k) → (s ≡ n → ⊥) → s < n + 1 → 1 ≤ k
mark_skip s n next note k at_next will been other h = grind arith

mark_take : (s n next note k here : ℕ) → (n ≡ next) ⊎ ((note ≤ next) × (next < n)) → s < note → (s < next → 1 ≤ k) → (s ≡ n → here ≡ 1) → s < n + 1 → 1 ≤ k + here
mark_take s n next note k here at_next will been same h = grind arith

one_same : (a b : ℕ) → b ≡ a → one (a == b) ≡ 1
one_same a b e = grind arith

-- reading a head keeps the promise to mark s
pub marked_marks : (s n next note : ℕ) (heads : List Head) (marks batch : List ℕ) → is_active (get_or heads s Inactive) ≡ true → (n ≡ next) ⊎ ((note ≤ next) × (next < n))
    → (s < note) × (s < next → 1 ≤ occ s marks) → WillMark s (marked_place (is_active (get_or heads n Inactive)) n note marks batch)
marked_marks s n next note heads marks batch on at_next will = go (is_active (get_or heads n Inactive)) refl
  where
    not_here : is_active (get_or heads n Inactive) ≡ false → s ≡ n → ⊥
    not_here off same = let k : is_active (get_or heads n Inactive) ≡ true = rw (← same) on in cc

    go : (b : Bool) → is_active (get_or heads n Inactive) ≡ b → WillMark s (marked_place b n note marks batch)
    go false off = (will.0, λ h. mark_skip s n next note _ at_next will.0 will.1 (not_here off) h)
    go true e = fits (nat_lt (length marks) (length batch))
      where
        fits : (b : Bool) → WillMark s (if b then Mark (n + 1) note (marks ++ n ∷ []) else Rest [] [])
        fits true = (will.0, λ h. rw occ-push (mark_take s n next note (occ s marks) (one (n == s)) at_next will.0 will.1 (one_same n s) h))
        fits false = tt

-- the values of a batch that nothing holds and no call owns are not kept back
let_go : (s v a : ℕ) (st : State) → KeptIn s v st → of_calls (inserts_left a s) st.slots ≡ 0 → listed a st.heads ≡ 0 → occ v (batch_at st a).values ≡ 0
let_go s v a st c l h =
    let on : occ a (waiting_at (head_at st s)) ≡ 0 = at_most_listed (is_true (nat_lt s (length st.heads))) in
    none_kept (occ v (batch_at st a).values) _ (c.waits a) (omega arith)
  where
    none_kept : (x k : ℕ) → (1 ≤ x → 1 ≤ k) → k ≡ 0 → x ≡ 0
    none_kept x k w e = grind arith

    at_most_listed : (nat_lt s (length st.heads) ≡ true) ⊎ (nat_lt s (length st.heads) ≡ false) → occ a (waiting_at (head_at st s)) ≡ 0
    at_most_listed (inl t) = omega (arith, get_or-le-sum_by (λ head. occ a (waiting_at head)) st.heads s Inactive (lt_true _ _ t))
    at_most_listed (inr t) = let r : length st.heads ≤ s = grind arith in ap (λ head. occ a (waiting_at head)) (get_or_past st.heads s Inactive r)

owns-left : (b s : ℕ) (call : Option Progress) → owns b call ≡ 0 → inserts_left b s call ≡ 0
owns-left b s None e = refl
owns-left b s (Some call) e = go call.place e
  where
    go : (place : Place) → place_owns b place ≡ 0 → place_left b s place ≡ 0
    go (Look c won m later) e = grind arith
    go (Try c won m later saw) e = grind arith
    go _ e = refl

pub zero_is : (z : ℤ) → is_zero z ≡ true → z ≡ pos 0
zero_is (pos n) e = ap (λ n. pos n) (eq_true n 0 e)
zero_is (negsuc n) e = absurd (cc)

-- a batch whose count comes to 0 by an add is not kept back
add_lets_go : (s v a won : ℕ) (queue : List ℕ) (st : State) (i : ℕ) → Sound st → Stands st i (Add a won) queue → KeptIn s v st → is_zero ((batch_at st a).count +ℤ pos won) ≡ true → occ v (batch_at st a).values ≡ 0
add_lets_go s v a won queue st i sound e c z =
    let b : Counted a st.slots st.heads st.batches = sound.counts a in
    let own : one (a == a) ≡ 1 = one_same a a refl in
    let all : of_calls (wins a) st.slots ≡ (if a == a then won else 0) = wins_alone a st i (Add a won) queue e b own in
    let won_is : (if a == a then won else 0) ≡ won = grind arith in
    let l : of_calls (inserts_left a s) st.slots ≡ 0 = rw e at (sum_alone (λ slot. inserts_left a s slot.call) (λ slot. owns a slot.call) (λ slot. owns-left a s slot.call) st.slots i no_slot (in_range st i _ e) (rw e (omega (arith, b.alone)))) in
    let zero : (batch_at st a).count +ℤ pos won ≡ pos 0 = zero_is _ z in
    let h : listed a st.heads ≡ 0 = omega (arith, ints, b.balance) in
    let_go s v a st c l h

-- no call has still to add to a batch whose count comes to 0 by a walk
pub unowned_at_zero : (a : ℕ) (walk queue : List ℕ) (st : State) (i : ℕ) → Sound st → Stands st i (Rest [] (a ∷ walk)) queue → is_zero ((batch_at st a).count -ℤ pos 1) ≡ true → of_calls (owns a) st.slots ≡ 0
unowned_at_zero a walk queue st i sound e z =
    let b : Counted a st.slots st.heads st.batches = sound.counts a in
    let zero : (batch_at st a).count -ℤ pos 1 ≡ pos 0 = zero_is _ z in
    let more : of_calls (wins a) st.slots + 1 ≡ listed a st.heads + of_calls (walks a) st.slots = omega (arith, ints, b.balance) in
    unowned _ _ _ b.alone b.few more
  where
    unowned : (o w h : ℕ) → o ≤ 1 → (o ≡ 1 → h ≤ w) → w + 1 ≡ h → o ≡ 0
    unowned o w h le few more = grind arith

sub_lets_go : (s v a : ℕ) (walk queue : List ℕ) (st : State) (i : ℕ) → Sound st → Stands st i (Rest [] (a ∷ walk)) queue → KeptIn s v st → is_zero ((batch_at st a).count -ℤ pos 1) ≡ true → occ v (batch_at st a).values ≡ 0
sub_lets_go s v a walk queue st i sound e c z =
    let b : Counted a st.slots st.heads st.batches = sound.counts a in
    let own : one (a == a) ≡ 1 = one_same a a refl in
    let k : one (a == a) + occ a walk ≤ of_calls (walks a) st.slots = rw e at (get_or-le-sum_by (λ slot. walks a slot.call) st.slots i no_slot (in_range st i _ e)) in
    let zero : (batch_at st a).count -ℤ pos 1 ≡ pos 0 = zero_is _ z in
    let none : of_calls (owns a) st.slots ≡ 0 = unowned_at_zero a walk queue st i sound e z in
    let l : of_calls (inserts_left a s) st.slots ≡ 0 = sum_nothing (λ slot. inserts_left a s slot.call) (λ slot. owns a slot.call) (λ slot. owns-left a s slot.call) st.slots none in
    let w : of_calls (wins a) st.slots ≡ 0 = sum_nothing (λ slot. wins a slot.call) (λ slot. owns a slot.call) (λ slot. owns-wins a slot.call) st.slots none in
    let h : listed a st.heads ≡ 0 = omega (arith, ints, b.balance) in
    let_go s v a st c l h

-- the count of a batch put anew, where its values are kept back by nobody if it is given up
settled : (s v a : ℕ) (st : State) (i : ℕ) (from : Place) (up : Bool) (count : ℤ) (walk queue : List ℕ) → Stands st i from queue → place_given v from ≡ 0 → ((b : ℕ) → place_left b s from ≡ 0)
    → (up ≡ true → occ v (batch_at st a).values ≡ 0) → KeptIn s v st
    → KeepsBack s v (set st.slots i (record (slot_at st i) { call = Some (record { place = Rest (if up then (batch_at st a).values else []) walk; queue = queue }) })) st.heads (set st.batches a (record { values = if up then [] else (batch_at st a).values; count = count })) st.gone
settled s v a st i from up count walk queue e not_given no_left free c =
    let none : occ v (if up then (batch_at st a).values else []) ≡ 0 = nothing up free in
    let k : KeepsBack s v (set st.slots i new) st.heads st.batches st.gone = keeps s v st i new _ (in_range st i _ e) e (omega (arith, not_given)) (λ h. tt) (λ b. sym (no_left b)) c in
    record {
      active = k.active;
      not_given = k.not_given;
      not_gone = k.not_gone;
      marks = k.marks;
      waits = λ b. at_set (λ batch. 1 ≤ occ v batch.values → 1 ≤ of_calls (inserts_left b s) (set st.slots i new) + occ b (waiting_at (head_at st s))) st.batches a b (record { values = if up then [] else (batch_at st a).values; count = count }) no_batch (λ same r h. k.waits b (rw (← same) (fewer up h))) (k.waits b);
    }
  where
    new : Slot
    new = record (slot_at st i) { call = Some (record { place = Rest (if up then (batch_at st a).values else []) walk; queue = queue }) }

    fewer : (up : Bool) → 1 ≤ occ v (if up then [] else (batch_at st a).values) → 1 ≤ occ v (batch_at st a).values
    fewer true h = absurd (omega arith)
    fewer false h = h

    nothing : (up : Bool) → (up ≡ true → occ v (batch_at st a).values ≡ 0) → occ v (if up then (batch_at st a).values else []) ≡ 0
    nothing true f = f refl
    nothing false f = refl

head_other : (P : Head → Type 0) (heads : List Head) (s m : ℕ) (head : Head) → s ≢ m → P (get_or heads s Inactive) → P (get_or (set heads m head) s Inactive)
head_other P heads s m head other h = rw (get_or-set_other heads m s head Inactive other) h

-- what holds of the places at which a call begins, or goes on after an append
pub starts : (P : Place → Type 0) (n : ℕ) → P (Rest [] []) → P (Mark 0 n []) → P (Out true) → P (Out false) → (place : Place)
    → (place ≡ Rest [] []) ⊎ (place ≡ Mark 0 n []) ⊎ (place ≡ Out true) ⊎ (place ≡ Out false) → P place
starts P n a b c d place (inl e) = subst P (sym e) a
starts P n a b c d place (inr (inl e)) = subst P (sym e) b
starts P n a b c d place (inr (inr (inl e))) = subst P (sym e) c
starts P n a b c d place (inr (inr (inr e))) = subst P (sym e) d

abbrev Silent : ℕ → ℕ → Place → Type 0
Silent s v place = (place_given v place ≡ 0) × WillMark s place × ((b : ℕ) → place_left b s place ≡ 0)

silent_start : (s v n : ℕ) (place : Place) → s < n → (place ≡ Rest [] []) ⊎ (place ≡ Mark 0 n []) ⊎ (place ≡ Out true) ⊎ (place ≡ Out false) → Silent s v place
silent_start s v n place r which = starts (Silent s v) n (refl, tt, λ b. refl) (refl, (r, λ h. absurd (omega arith)), λ b. refl) (refl, tt, λ b. refl) (refl, tt, λ b. refl) place which

silent_from : (s v w : ℕ) (from : Place) (before after : List ℕ) → ((from ≡ Append w) × (before ≡ after)) ⊎ ((from ≡ Rest [] []) × (before ≡ w ∷ after)) → (place_given v from ≡ 0) × ((b : ℕ) → place_left b s from ≡ 0)
silent_from s v w from before after (inl p) = (ap (place_given v) p.0, λ b. ap (place_left b s) p.0)
silent_from s v w from before after (inr p) = (ap (place_given v) p.0, λ b. ap (place_left b s) p.0)

detached_kept : (s v : ℕ) (st : State) (i next note : ℕ) (marks queue : List ℕ) → Stands st i (Mark next note marks) queue → note ≤ next → KeptIn s v st
    → KeepsBack s v (set st.slots i (record { used = (slot_at st i).used; batch = []; call = Some (record { place = look (length st.batches) 0 marks; queue = queue }) })) st.heads (st.batches ++ record { values = (slot_at st i).batch; count = pos 0 } ∷ []) st.gone
detached_kept s v st i next note marks queue e le c =
    record {
      active = c.active;
      not_given = omega (arith, change (given v) st i new _ (in_range st i _ e) e, look_given v (length st.batches) 0 marks, c.not_given);
      not_gone = c.not_gone;
      marks = λ t. at_set (λ slot. 1 ≤ occ v slot.batch → Marks s slot.call) st.slots i t new no_slot (λ same r h. absurd (omega arith)) (c.marks t);
      waits = λ b. pushed (λ batch. 1 ≤ occ v batch.values → 1 ≤ of_calls (inserts_left b s) (set st.slots i new) + occ b (waiting_at (head_at st s))) st.batches b (record { values = (slot_at st i).batch; count = pos 0 }) no_batch
          (λ same h. omega (arith, lefts b, now_left b same, will (rw e at (c.marks i h)))) (λ h. omega (arith, lefts b, c.waits b h));
    }
  where
    new : Slot
    new = record { used = (slot_at st i).used; batch = []; call = Some (record { place = look (length st.batches) 0 marks; queue = queue }) }

    lefts : (b : ℕ) → of_calls (inserts_left b s) (set st.slots i new) + 0 ≡ of_calls (inserts_left b s) st.slots + place_left b s (look (length st.batches) 0 marks)
    lefts b = change (inserts_left b s) st i new _ (in_range st i _ e) e

    now_left : (b : ℕ) → length st.batches ≡ b → place_left b s (look (length st.batches) 0 marks) ≡ occ s marks
    now_left b same = look_left b s (length st.batches) 0 marks ∙ (let t : (length st.batches == b) ≡ true = grind arith in ap (λ q. if q then occ s marks else 0) t)

    will : (s < note) × (s < next → 1 ≤ occ s marks) → 1 ≤ occ s marks
    will w = w.1 (omega arith)

inserted_kept : (s v : ℕ) (st : State) (i m a won : ℕ) (later saw queue waiting : List ℕ) → Stands st i (Try a won m later saw) queue → head_at st m ≡ Active waiting → KeptIn s v st
    → KeepsBack s v (set st.slots i (record (slot_at st i) { call = Some (record { place = look a (won + 1) later; queue = queue }) })) (set st.heads m (Active (a ∷ waiting))) st.batches st.gone
inserted_kept s v st i m a won later saw queue waiting e head_is c =
    record {
      active = at_set (λ head. is_active head ≡ true) st.heads m s (Active (a ∷ waiting)) Inactive (λ same r. refl) c.active;
      not_given = omega (arith, change (given v) st i new _ (in_range st i _ e) e, look_given v a (won + 1) later, c.not_given);
      not_gone = c.not_gone;
      marks = λ t. at_set (λ slot. 1 ≤ occ v slot.batch → Marks s slot.call) st.slots i t new no_slot (λ same r h. look_marks s a (won + 1) later) (c.marks t);
      waits = λ b h. more b (c.waits b h);
    }
  where
    new : Slot
    new = record (slot_at st i) { call = Some (record { place = look a (won + 1) later; queue = queue }) }

    lefts : (b : ℕ) → of_calls (inserts_left b s) (set st.slots i new) + (if a == b then one (m == s) + occ s later else 0) ≡ of_calls (inserts_left b s) st.slots + place_left b s (look a (won + 1) later)
    lefts b = change (inserts_left b s) st i new _ (in_range st i _ e) e

    more : (b : ℕ) → 1 ≤ of_calls (inserts_left b s) st.slots + occ b (waiting_at (head_at st s)) → 1 ≤ of_calls (inserts_left b s) (set st.slots i new) + occ b (waiting_at (get_or (set st.heads m (Active (a ∷ waiting))) s Inactive))
    more b h = go (is_true (a == b)) (is_true (m == s))
      where
        go : ((a == b) ≡ true) ⊎ ((a == b) ≡ false) → ((m == s) ≡ true) ⊎ ((m == s) ≡ false) → 1 ≤ of_calls (inserts_left b s) (set st.slots i new) + occ b (waiting_at (get_or (set st.heads m (Active (a ∷ waiting))) s Inactive))
        go (inl t) (inl u) =
            let x : _ ≡ _ = ap (λ q. if q then one (m == s) + occ s later else 0) t in
            let y : _ ≡ _ = look_left b s a (won + 1) later ∙ ap (λ q. if q then occ s later else 0) t in
            let own : one (a == b) ≡ 1 = ap one t in
            let r : s < length st.heads = rw (← eq_true m s u) (head_range st m waiting head_is) in
            let now : get_or (set st.heads m (Active (a ∷ waiting))) s Inactive ≡ Active (a ∷ waiting) = rw (eq_true m s u) (get_or-set_same st.heads s (Active (a ∷ waiting)) Inactive r) in
            rw now (omega (arith, lefts b))
        go (inr t) (inl u) =
            let x : _ ≡ _ = ap (λ q. if q then one (m == s) + occ s later else 0) t in
            let y : _ ≡ _ = look_left b s a (won + 1) later ∙ ap (λ q. if q then occ s later else 0) t in
            let own : one (a == b) ≡ 0 = ap one t in
            let r : s < length st.heads = rw (← eq_true m s u) (head_range st m waiting head_is) in
            let was : occ b (waiting_at (head_at st s)) ≡ occ b waiting = rw (← eq_true m s u) (ap (λ head. occ b (waiting_at head)) head_is) in
            let now : get_or (set st.heads m (Active (a ∷ waiting))) s Inactive ≡ Active (a ∷ waiting) = rw (eq_true m s u) (get_or-set_same st.heads s (Active (a ∷ waiting)) Inactive r) in
            rw now (omega (arith, lefts b))
        go (inl t) (inr u) =
            let x : _ ≡ _ = ap (λ q. if q then one (m == s) + occ s later else 0) t in
            let y : _ ≡ _ = look_left b s a (won + 1) later ∙ ap (λ q. if q then occ s later else 0) t in
            let none : one (m == s) ≡ 0 = ap one u in
            let other : s ≢ m = grind arith in
            rw (get_or-set_other st.heads m s (Active (a ∷ waiting)) Inactive other) (omega (arith, lefts b))
        go (inr t) (inr u) =
            let x : _ ≡ _ = ap (λ q. if q then one (m == s) + occ s later else 0) t in
            let y : _ ≡ _ = look_left b s a (won + 1) later ∙ ap (λ q. if q then occ s later else 0) t in
            let other : s ≢ m = grind arith in
            rw (get_or-set_other st.heads m s (Active (a ∷ waiting)) Inactive other) (omega (arith, lefts b))

-- a slot that takes a number gives nothing up and inserts nothing, and will mark s if it reads the heads
abbrev Calm : ℕ → ℕ → Option Progress → Type 0
Calm s v o = (given v o ≡ 0) × Marks s o × ((b : ℕ) → inserts_left b s o ≡ 0)

taken_calm : (s v size n : ℕ) (rest : List ℕ) → s < n → Calm s v (taken_call size n rest)
taken_calm s v size n rest r = taken (Calm s v) size n rest (λ h. (refl, tt, λ b. refl)) (λ h. (refl, (r, λ h. absurd (omega arith)), λ b. refl))

pub kept_step : (s v size : ℕ) (st : State) (event : Event) (d : State × Answer) → Step size st event d → event ≢ SwapOut s → Sound st → KeptIn s v st → KeptIn s v d.0
kept_step s v size st event _ (Step.took_new i e least) stays sound c =
    let r : s < length st.heads = omega (arith, sound.lengths, in_slots_range s st sound c.active) in
    let same : get_or (st.heads ++ Inactive ∷ []) s Inactive ≡ get_or st.heads s Inactive = get_or_append_left st.heads (Inactive ∷ []) Inactive s r in
    let new : Slot = taken_slot size (length st.slots + 1) st.rest in
    let q : Calm s v new.call = taken_calm s v size (length st.slots + 1) st.rest (omega (arith, sound.lengths)) in
    record {
      active = rw same c.active;
      not_given = omega (arith, sum_by_push (λ slot. given v slot.call) st.slots new, c.not_given, q.0);
      not_gone = c.not_gone;
      marks = λ t. pushed (λ slot. 1 ≤ occ v slot.batch → Marks s slot.call) st.slots t new no_slot (λ same h. q.1) (c.marks t);
      waits = λ b h. rw same (omega (arith, sum_by_push (λ slot. inserts_left b s slot.call) st.slots new, c.waits b h));
    }
kept_step s v size st event _ (Step.took_old i r e least) stays sound c =
    let q : Calm s v (taken_call size (length st.slots) st.rest) = taken_calm s v size (length st.slots) st.rest (in_slots_range s st sound c.active) in
    keeps s v st i (taken_slot size (length st.slots) st.rest) None r (ap (λ (slot : Slot). slot.call) (sound.free i e)) q.0 (λ h. q.1) q.2 c
kept_step s v size st event _ (Step.gave i e off ends) stays sound c = keeps s v st i no_slot None (idle_range st i e) (idle_call (slot_at st i) e) refl (λ h. tt) (λ b. refl) c
kept_step s v size st event _ (Step.gathered i e off lone some) stays sound c =
    keeps s v st i _ None (idle_range st i e) (idle_call (slot_at st i) e) refl (λ h. (in_slots_range s st sound c.active, λ h. absurd (omega arith))) (λ b. refl) c
kept_step s v size st event _ (Step.entered i e off) stays sound c =
    let other : s ≢ i = λ same. (let on : is_active (head_at st i) ≡ true = rw (← same) c.active in cc) in
    record {
      active = head_other (λ head. is_active head ≡ true) st.heads s i _ other c.active;
      not_given = c.not_given;
      not_gone = c.not_gone;
      marks = c.marks;
      waits = λ b h. head_other (λ head. 1 ≤ of_calls (inserts_left b s) st.slots + occ b (waiting_at head)) st.heads s i _ other (c.waits b h);
    }
kept_step s v size st event _ (Step.begun_retire i w e new) stays sound c = keeps s v st i _ None (idle_range st i e) (idle_call (slot_at st i) e) refl (λ h. tt) (λ b. refl) c
kept_step s v size st event _ (Step.begun_other i job place e which exact) stays sound c =
    let q : Silent s v place = silent_start s v (length st.slots) place (in_slots_range s st sound c.active) which in
    keeps s v st i (record (slot_at st i) { call = Some (record { place = place; queue = [] }) }) None (idle_range st i e) (idle_call (slot_at st i) e) q.0 (λ h. q.1) q.2 c
kept_step s v size st event _ (Step.put i w from before after place e which to after_is) stays sound c =
    let q : Silent s v place = silent_start s v (length st.slots) place (in_slots_range s st sound c.active) (grind arith) in
    let f : (place_given v from ≡ 0) × ((b : ℕ) → place_left b s from ≡ 0) = silent_from s v w from before after which in
    keeps s v st i (record { used = (slot_at st i).used; batch = (slot_at st i).batch ++ w ∷ []; call = Some (record { place = place; queue = after }) }) _ (in_range st i _ e) e (q.0 ∙ sym f.0) (λ h. q.1) (λ b. q.2 b ∙ sym (f.1 b)) c
kept_step s v size st event _ (Step.marked i n next note marks queue e r k) stays sound c =
    keeps s v st i (record (slot_at st i) { call = Some (record { place = marked_place (is_active (head_at st n)) n note marks (slot_at st i).batch; queue = queue }) }) _ (in_range st i _ e) e (marked_given v _ n note marks _)
    (λ h. marked_marks s n next note st.heads marks _ c.active k (rw e at (c.marks i h))) (λ b. marked_left b s _ n note marks _) c
kept_step s v size st event _ (Step.looked_at i a won m later queue e) stays sound c =
    keeps s v st i (record (slot_at st i) { call = Some (record { place = looked (head_at st m) a won m later; queue = queue }) }) _ (in_range st i _ e) e (looked_given v _ a won m later)
    (λ h. looked_marks s _ a won m later) (λ b. looked_left b s st.heads a won m later c.active) c
kept_step s v size st event _ (Step.detached i next note marks queue e le) stays sound c = detached_kept s v st i next note marks queue e le c
kept_step s v size st event _ (Step.inserted i m a won later saw queue waiting e head_is) stays sound c = inserted_kept s v st i m a won later saw queue waiting e head_is c
kept_step s v size st event _ (Step.lost i m a won later saw queue e differs) stays sound c =
    keeps s v st i (record (slot_at st i) { call = Some (record { place = Look a won m later; queue = queue }) }) _ (in_range st i _ e) e refl (λ h. tt) (λ b. refl) c
kept_step s v size st event _ (Step.added i a won queue d e h) stays sound c =
    subst (λ d. KeptIn s v d.0) (some_is _ _ h) (settled s v a st i (Add a won) _ _ [] queue e refl (λ b. refl) (add_lets_go s v a won queue st i sound e c) c)
kept_step s v size st event _ (Step.subtracted i a walk queue d e h) stays sound c =
    subst (λ d. KeptIn s v d.0) (some_is _ _ h) (settled s v a st i (Rest [] (a ∷ walk)) _ _ walk queue e refl (λ b. refl) (sub_lets_go s v a walk queue st i sound e c) c)
kept_step s v size st event _ (Step.swapped_out i leave queue e) stays sound c =
    let other : s ≢ i = λ same. stays (ap SwapOut (sym same)) in
    let k : KeepsBack s v _ st.heads st.batches st.gone = keeps s v st i (record (slot_at st i) { call = Some (record { place = Rest [] (waiting_at (head_at st i)); queue = queue }) }) _ (in_range st i _ e) e refl (λ h. tt) (λ b. refl) c in
    record {
      active = head_other (λ head. is_active head ≡ true) st.heads s i _ other k.active;
      not_given = k.not_given;
      not_gone = k.not_gone;
      marks = k.marks;
      waits = λ b h. head_other (λ head. 1 ≤ of_calls (inserts_left b s) (set st.slots i (record (slot_at st i) { call = Some (record { place = Rest [] (waiting_at (head_at st i)); queue = queue }) })) + occ b (waiting_at head)) st.heads s i _ other (k.waits b h);
    }
kept_step s v size st event _ (Step.handed i w puts given_on walk queue e new) stays sound c =
    let own : one (w == v) + occ v given_on ≤ of_calls (given v) st.slots = rw e at (get_or-le-sum_by (λ slot. given v slot.call) st.slots i no_slot (in_range st i _ e)) in
    let k : KeepsBack s v _ st.heads st.batches st.gone = keeps s v st i (record (slot_at st i) { call = Some (record { place = Rest given_on walk; queue = queue ++ puts }) }) _ (in_range st i _ e) e (omega (arith, c.not_given)) (λ h. tt) (λ b. refl) c in
    record { active = k.active; not_given = k.not_given; not_gone = omega (arith, occ-push v st.gone w, c.not_gone, c.not_given); marks = k.marks; waits = k.waits }
kept_step s v size st event _ (Step.returned i e) stays sound c = keeps s v st i (record (slot_at st i) { call = None }) _ (in_range st i _ e) e refl (λ h. tt) (λ b. refl) c
kept_step s v size st event _ (Step.read i l e) stays sound c = c
kept_step s v size st event _ (Step.exchanged i l exchange new e fresh exact) stays sound c = record { active = c.active; not_given = c.not_given; not_gone = c.not_gone; marks = c.marks; waits = c.waits }
kept_step s v size st event _ (Step.compared i l exchange e exact) stays sound c = c
