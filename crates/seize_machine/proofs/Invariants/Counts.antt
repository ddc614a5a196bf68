-- The count of a batch, with the insertions not yet added to it, is how often the batch is held.
pub use Rattle.seize_machine.specs.Machine.Kept.{of_calls}
use Rattle.std.proofs.Common.{◌≡◌, ◌≢◌, ℕ, zero, suc, ◌+◌, ◌<◌, ◌≤◌, ℤ, pos, ◌+ℤ◌, ◌-ℤ◌, Bool, true, false, ◌==◌, if◌then◌else◌, nat_lt, List, [], ◌∷◌, ◌++◌, length, get_or, set, Option, Some, None, refl, sym, ◌∙◌, ap, subst, ◌⊎◌, inl, inr, arith}
use Rattle.std.specs.List.{sum_by}
use Rattle.std.proofs.lemmas.Int.{ints}
use Rattle.std.proofs.lemmas.List.{get_or-set_same, get_or-set_other, get_or_past, get_or_push, get_or_append_left, set_past, length-set, length_push}
use Rattle.std.proofs.lemmas.List.Sums.{sum_by-set, sum_by_push, get_or-le-sum_by}
use Rattle.seize_machine.specs.Machine.State.{no_slot, no_batch, State, Slot, Batch, Progress, Head, Inactive, Active, Place, Mark, Look, Try, Add, Rest, slot_at, head_at, batch_at, is_active, waiting_at, is_idle}
use Rattle.seize_machine.specs.Machine.Event.{Event}
use Rattle.seize_machine.specs.Machine.Next.{next, look, marked_place, looked, is_zero, taken_slot, taken_call}
use Rattle.seize_machine.specs.declared.machine.event.Answer.{Answer}
use Rattle.seize_machine.proofs.Steps.Relation.{Step, Stands, is_true, eq_true, lt_true, some_is, taken}
use Rattle.seize_machine.proofs.Counting.Sums.{one, occ, sum_alone, sum_nothing}

abbrev pub place_walks : ℕ → Place → ℕ
place_walks b (Rest given walk) = occ b walk
place_walks b _ = 0

abbrev pub place_owns : ℕ → Place → ℕ
place_owns b (Look c won m later) = one (c == b)
place_owns b (Try c won m later saw) = one (c == b)
place_owns b (Add c won) = one (c == b)
place_owns b _ = 0

abbrev pub place_won : ℕ → Place → ℕ
place_won b (Look c won m later) = if c == b then won else 0
place_won b (Try c won m later saw) = if c == b then won else 0
place_won b (Add c won) = if c == b then won else 0
place_won b _ = 0

-- how often b stands in the walk of a call; whether the call has detached b and not yet added; the insertions that it won
abbrev pub walks : ℕ → Option Progress → ℕ
walks b None = 0
walks b (Some call) = place_walks b call.place

abbrev pub owns : ℕ → Option Progress → ℕ
owns b None = 0
owns b (Some call) = place_owns b call.place

abbrev pub wins : ℕ → Option Progress → ℕ
wins b None = 0
wins b (Some call) = place_won b call.place

abbrev pub listed : ℕ → List Head → ℕ
listed b heads = sum_by (λ head. occ b (waiting_at head)) heads

abbrev pub count_at : List Batch → ℕ → ℤ
count_at batches b = (get_or batches b no_batch).count

pub record Counted (b : ℕ) (slots : List Slot) (heads : List Head) (batches : List Batch) : Type 0 where
  pub balance : count_at batches b +ℤ pos (of_calls (wins b) slots) ≡ pos (listed b heads + of_calls (walks b) slots)
  pub alone : of_calls (owns b) slots ≤ 1
  pub few : of_calls (owns b) slots ≡ 1 → listed b heads + of_calls (walks b) slots ≤ of_calls (wins b) slots
  pub fresh : length batches ≤ b → listed b heads + of_calls (walks b) slots + of_calls (owns b) slots ≡ 0
  -- a batch that is not given up is held, or its detaching call has still to add
  pub held : 1 ≤ length (get_or batches b no_batch).values → 1 ≤ listed b heads + of_calls (walks b) slots + of_calls (owns b) slots

abbrev pub CountedIn : ℕ → State → Type 0
CountedIn b st = Counted b st.slots st.heads st.batches

-- a call in range
pub in_range : (st : State) (s : ℕ) (call : Progress) → (slot_at st s).call ≡ Some call → s < length st.slots
in_range st s call e = grind (arith, get_or_past st.slots s no_slot)

pub idle_range : (st : State) (s : ℕ) → is_idle (slot_at st s) ≡ true → s < length st.slots
idle_range st s e = grind (arith, get_or_past st.slots s no_slot)

pub idle_call : (slot : Slot) → is_idle slot ≡ true → slot.call ≡ None
idle_call slot e = grind arith

-- a slot whose number is free has no batch and no call
abbrev pub Free : State → Type 0
Free st = (s : ℕ) → (slot_at st s).used ≡ false → slot_at st s ≡ no_slot

pub change : (f : Option Progress → ℕ) (st : State) (s : ℕ) (new : Slot) (o : Option Progress) → s < length st.slots → (slot_at st s).call ≡ o → of_calls f (set st.slots s new) + f o ≡ of_calls f st.slots + f new.call
change f st s new o h e = rw (← e) (sum_by-set (λ slot. f slot.call) st.slots s new no_slot h)

-- a change of one slot's record that moves no count
same_counts : (b : ℕ) (st : State) (s : ℕ) (new : Slot) (o : Option Progress) → s < length st.slots → (slot_at st s).call ≡ o
    → (walks b new.call ≡ walks b o) → (owns b new.call ≡ owns b o) → (wins b new.call ≡ wins b o) → CountedIn b st → Counted b (set st.slots s new) st.heads st.batches
same_counts b st s new o h e walk own win c =
    let x : _ ≡ _ = change (walks b) st s new o h e in
    let y : _ ≡ _ = change (owns b) st s new o h e in
    let z : _ ≡ _ = change (wins b) st s new o h e in
    record { balance = omega (arith, ints); alone = omega arith; few = omega arith; fresh = omega arith; held = λ h. omega (arith, c.held h) }

pub place_quiet : (b : ℕ) (active : Bool) (n note : ℕ) (marks batch : List ℕ) → (place_walks b (marked_place active n note marks batch) ≡ 0) × (place_owns b (marked_place active n note marks batch) ≡ 0) × (place_won b (marked_place active n note marks batch) ≡ 0)
place_quiet b active n note marks batch = grind arith

pub look_walks : (b c won : ℕ) (marks : List ℕ) → place_walks b (look c won marks) ≡ 0
look_walks b c won [] = refl
look_walks b c won (m ∷ marks) = refl

pub look_owns : (b c won : ℕ) (marks : List ℕ) → place_owns b (look c won marks) ≡ one (c == b)
look_owns b c won [] = refl
look_owns b c won (m ∷ marks) = refl

look_wins : (b c won : ℕ) (marks : List ℕ) → place_won b (look c won marks) ≡ (if c == b then won else 0)
look_wins b c won [] = refl
look_wins b c won (m ∷ marks) = refl

look_none : (b c : ℕ) (marks : List ℕ) → place_won b (look c 0 marks) ≡ 0
look_none b c [] = grind arith
look_none b c (m ∷ marks) = grind arith

pub looked_same : (b : ℕ) (head : Head) (c won m : ℕ) (later : List ℕ) → (place_walks b (looked head c won m later) ≡ 0) × (place_owns b (looked head c won m later) ≡ one (c == b)) × (place_won b (looked head c won m later) ≡ (if c == b then won else 0))
looked_same b Inactive c won m later = (look_walks b c won later, look_owns b c won later, look_wins b c won later)
looked_same b (Active waiting) c won m later = (refl, refl, refl)

pub owns-wins : (b : ℕ) (call : Option Progress) → owns b call ≡ 0 → wins b call ≡ 0
owns-wins b None e = refl
owns-wins b (Some call) e = go call.place e
  where
    go : (place : Place) → place_owns b place ≡ 0 → place_won b place ≡ 0
    go (Look c won m later) e = grind arith
    go (Try c won m later saw) e = grind arith
    go (Add c won) e = grind arith
    go _ e = refl

pub get_or_push_other : {X : Type 0} (xs : List X) (y d : X) (i : ℕ) → length xs ≢ i → get_or (xs ++ y ∷ []) i d ≡ get_or xs i d
get_or_push_other xs y d i other = go (is_true (nat_lt i (length xs)))
  where
    go : (nat_lt i (length xs) ≡ true) ⊎ (nat_lt i (length xs) ≡ false) → get_or (xs ++ y ∷ []) i d ≡ get_or xs i d
    go (inl h) = get_or_append_left xs (y ∷ []) d i (lt_true _ _ h)
    go (inr h) =
        let past : length xs < i = grind arith in
        get_or_past (xs ++ y ∷ []) i d (omega (arith, length_push xs y)) ∙ sym (get_or_past xs i d (omega arith))

pub head_range : (st : State) (m : ℕ) (waiting : List ℕ) → head_at st m ≡ Active waiting → m < length st.heads
head_range st m waiting e = grind (arith, get_or_past st.heads m Inactive)

-- a head that becomes empty
pub emptied : (b : ℕ) (st : State) (s : ℕ) (head : Head) → occ b (waiting_at head) ≡ 0 → listed b (set st.heads s head) + occ b (waiting_at (head_at st s)) ≡ listed b st.heads
emptied b st s head e = go (is_true (nat_lt s (length st.heads)))
  where
    go : (nat_lt s (length st.heads) ≡ true) ⊎ (nat_lt s (length st.heads) ≡ false) → listed b (set st.heads s head) + occ b (waiting_at (head_at st s)) ≡ listed b st.heads
    go (inl h) = let r : s < length st.heads = grind arith in omega (arith, sum_by-set (λ h. occ b (waiting_at h)) st.heads s head Inactive r)
    go (inr h) = let r : length st.heads ≤ s = grind arith in rw (set_past st.heads s head r, get_or_past st.heads s Inactive r) (omega arith)

pub in_call_of : (b : ℕ) (st : State) (s : ℕ) (place : Place) (queue : List ℕ) → Stands st s place queue → place_owns b place ≤ of_calls (owns b) st.slots
in_call_of b st s place queue e = rw e at (get_or-le-sum_by (λ slot. owns b slot.call) st.slots s no_slot (in_range st s _ e))

-- where a call owns b, no other call has won insertions of it
pub wins_alone : (b : ℕ) (st : State) (s : ℕ) (place : Place) (queue : List ℕ) → Stands st s place queue → CountedIn b st → place_owns b place ≡ 1 → of_calls (wins b) st.slots ≡ place_won b place
wins_alone b st s place queue e c own =
    rw e at (sum_alone (λ slot. wins b slot.call) (λ slot. owns b slot.call) (λ slot. owns-wins b slot.call) st.slots s no_slot (in_range st s _ e) (rw e (omega (arith, c.alone))))

same_at : (b a : ℕ) (batches : List Batch) (x : Batch) → b ≢ a → count_at (set batches a x) b ≡ count_at batches b
same_at b a batches x h = ap (λ batch. batch.count) (get_or-set_other batches a b x no_batch h)

new_at : (a : ℕ) (batches : List Batch) (x : Batch) → a < length batches → count_at (set batches a x) a ≡ x.count
new_at a batches x h = ap (λ batch. batch.count) (get_or-set_same batches a x no_batch h)

nonzero : (z : ℤ) (k : ℕ) → is_zero z ≡ false → z ≡ pos k → 1 ≤ k
nonzero z zero h e = absurd (let t : is_zero z ≡ true = ap is_zero e in cc)
nonzero z (suc k) h e = omega arith

pub held_range : (b n k : ℕ) → (n ≤ b → k ≡ 0) → 1 ≤ k → b < n
held_range b n k h le = grind arith

added_count : (b : ℕ) (st : State) (s a won : ℕ) (queue : List ℕ) (given values : List ℕ) → (1 ≤ length values → is_zero ((batch_at st a).count +ℤ pos won) ≡ false) → Stands st s (Add a won) queue → CountedIn b st
    → Counted b (set st.slots s (record (slot_at st s) { call = Some (record { place = Rest given []; queue = queue }) })) st.heads (set st.batches a (record { values = values; count = (batch_at st a).count +ℤ pos won }))
added_count b st s a won queue given values some e c = go (is_true (a == b))
  where
    new : Slot
    new = record (slot_at st s) { call = Some (record { place = Rest given []; queue = queue }) }

    batch : Batch
    batch = record { values = values; count = (batch_at st a).count +ℤ pos won }

    x : of_calls (walks b) (set st.slots s new) + 0 ≡ of_calls (walks b) st.slots + 0
    x = change (walks b) st s new _ (in_range st s _ e) e

    y : of_calls (owns b) (set st.slots s new) + one (a == b) ≡ of_calls (owns b) st.slots + 0
    y = change (owns b) st s new _ (in_range st s _ e) e

    z : of_calls (wins b) (set st.slots s new) + (if a == b then won else 0) ≡ of_calls (wins b) st.slots + 0
    z = change (wins b) st s new _ (in_range st s _ e) e

    go : ((a == b) ≡ true) ⊎ ((a == b) ≡ false) → Counted b (set st.slots s new) st.heads (set st.batches a batch)
    go (inl t) =
        let same : a ≡ b = eq_true a b t in
        let own : one (a == b) ≡ 1 = ap one t in
        let won_is : (if a == b then won else 0) ≡ won = ap (λ q. if q then won else 0) t in
        let all : of_calls (wins b) st.slots ≡ won = wins_alone b st s (Add a won) queue e c own ∙ won_is in
        let r : a < length st.batches = rw same (held_range b _ _ c.fresh (omega (arith, x, y))) in
        let n : count_at (set st.batches a batch) b ≡ count_at st.batches b +ℤ pos won = rw (← same) (new_at a st.batches batch r) in
        let len : _ ≡ _ = length-set st.batches a batch in
        record {
          balance = omega (arith, ints, x, y, z);
          alone = omega (arith, x, y, z);
          few = omega (arith, x, y, z);
          fresh = omega (arith, x, y, z);
          held = λ h.
              let full : 1 ≤ length values = subst (λ k. 1 ≤ length (k.values)) (get_or-set_same st.batches a batch no_batch r) (subst (λ j. 1 ≤ length (get_or (set st.batches a batch) j no_batch).values) (sym same) h) in
              let is : (batch_at st a).count +ℤ pos won ≡ pos (listed b st.heads + of_calls (walks b) st.slots) = rw same (omega (arith, ints, c.balance)) in
              omega (arith, x, y, nonzero _ _ (some full) is);
        }
    go (inr t) =
        let other : b ≢ a = grind arith in
        let own : one (a == b) ≡ 0 = ap one t in
        let won_is : (if a == b then won else 0) ≡ 0 = ap (λ q. if q then won else 0) t in
        let n : count_at (set st.batches a batch) b ≡ count_at st.batches b = same_at b a st.batches batch other in
        let len : _ ≡ _ = length-set st.batches a batch in
        record { balance = omega (arith, ints, x, y, z); alone = omega (arith, x, y, z); few = omega (arith, x, y, z); fresh = omega (arith, x, y, z); held = λ h. (let same : get_or (set st.batches a batch) b no_batch ≡ get_or st.batches b no_batch = get_or-set_other st.batches a b batch no_batch other in omega (arith, x, y, z, c.held (rw (← same) h))) }

subtracted_count : (b : ℕ) (st : State) (s a : ℕ) (walk queue : List ℕ) (given values : List ℕ) → (1 ≤ length values → is_zero ((batch_at st a).count -ℤ pos 1) ≡ false) → Stands st s (Rest [] (a ∷ walk)) queue → CountedIn b st
    → Counted b (set st.slots s (record (slot_at st s) { call = Some (record { place = Rest given walk; queue = queue }) })) st.heads (set st.batches a (record { values = values; count = (batch_at st a).count -ℤ pos 1 }))
subtracted_count b st s a walk queue given values some e c = go (is_true (a == b))
  where
    new : Slot
    new = record (slot_at st s) { call = Some (record { place = Rest given walk; queue = queue }) }

    batch : Batch
    batch = record { values = values; count = (batch_at st a).count -ℤ pos 1 }

    x : of_calls (walks b) (set st.slots s new) + (one (a == b) + occ b walk) ≡ of_calls (walks b) st.slots + occ b walk
    x = change (walks b) st s new _ (in_range st s _ e) e

    y : of_calls (owns b) (set st.slots s new) + 0 ≡ of_calls (owns b) st.slots + 0
    y = change (owns b) st s new _ (in_range st s _ e) e

    z : of_calls (wins b) (set st.slots s new) + 0 ≡ of_calls (wins b) st.slots + 0
    z = change (wins b) st s new _ (in_range st s _ e) e

    owned_or : is_zero ((batch_at st a).count -ℤ pos 1) ≡ false → a ≡ b → (nat_lt 0 (of_calls (owns b) st.slots) ≡ true) ⊎ (nat_lt 0 (of_calls (owns b) st.slots) ≡ false) → 1 ≤ listed b st.heads + of_calls (walks b) (set st.slots s new) + of_calls (owns b) (set st.slots s new)
    owned_or z same (inl t) = omega (arith, y, lt_true _ _ t)
    owned_or z same (inr t) =
        let none : of_calls (owns b) st.slots ≡ 0 = grind arith in
        let unused : of_calls (wins b) st.slots ≡ 0 = sum_nothing (λ slot. wins b slot.call) (λ slot. owns b slot.call) (λ slot. owns-wins b slot.call) st.slots none in
        let own : one (a == b) ≡ 1 = (let k : (a == b) ≡ true = grind arith in ap one k) in
        let is : (batch_at st a).count -ℤ pos 1 ≡ pos (listed b st.heads + of_calls (walks b) (set st.slots s new)) = rw same (omega (arith, ints, c.balance, x)) in
        omega (arith, nonzero _ _ z is)

    go : ((a == b) ≡ true) ⊎ ((a == b) ≡ false) → Counted b (set st.slots s new) st.heads (set st.batches a batch)
    go (inl t) =
        let same : a ≡ b = eq_true a b t in
        let own : one (a == b) ≡ 1 = ap one t in
        let r : a < length st.batches = rw same (held_range b _ _ c.fresh (omega (arith, x, y))) in
        let n : count_at (set st.batches a batch) b ≡ count_at st.batches b -ℤ pos 1 = rw (← same) (new_at a st.batches batch r) in
        let len : _ ≡ _ = length-set st.batches a batch in
        record {
          balance = omega (arith, ints, x, y, z);
          alone = omega (arith, x, y, z);
          few = omega (arith, x, y, z);
          fresh = omega (arith, x, y, z);
          held = λ h.
              let full : 1 ≤ length values = subst (λ k. 1 ≤ length (k.values)) (get_or-set_same st.batches a batch no_batch r) (subst (λ j. 1 ≤ length (get_or (set st.batches a batch) j no_batch).values) (sym same) h) in
              owned_or (some full) same (is_true (nat_lt 0 (of_calls (owns b) st.slots)));
        }
    go (inr t) =
        let other : b ≢ a = grind arith in
        let own : one (a == b) ≡ 0 = ap one t in
        let n : count_at (set st.batches a batch) b ≡ count_at st.batches b = same_at b a st.batches batch other in
        let len : _ ≡ _ = length-set st.batches a batch in
        record { balance = omega (arith, ints, x, y, z); alone = omega (arith, x, y, z); few = omega (arith, x, y, z); fresh = omega (arith, x, y, z); held = λ h. (let same : get_or (set st.batches a batch) b no_batch ≡ get_or st.batches b no_batch = get_or-set_other st.batches a b batch no_batch other in omega (arith, x, y, z, c.held (rw (← same) h))) }

detached_count : (b : ℕ) (st : State) (s next note : ℕ) (marks queue : List ℕ) → Stands st s (Mark next note marks) queue → CountedIn b st
    → Counted b (set st.slots s (record { used = (slot_at st s).used; batch = []; call = Some (record { place = look (length st.batches) 0 marks; queue = queue }) })) st.heads (st.batches ++ record { values = (slot_at st s).batch; count = pos 0 } ∷ [])
detached_count b st s next note marks queue e c = go (is_true (length st.batches == b))
  where
    n : ℕ
    n = length st.batches

    new : Slot
    new = record { used = (slot_at st s).used; batch = []; call = Some (record { place = look n 0 marks; queue = queue }) }

    batch : Batch
    batch = record { values = (slot_at st s).batch; count = pos 0 }

    x : of_calls (walks b) (set st.slots s new) + 0 ≡ of_calls (walks b) st.slots + 0
    x = subst (λ k. of_calls (walks b) (set st.slots s new) + 0 ≡ of_calls (walks b) st.slots + k) (look_walks b n 0 marks) (change (walks b) st s new _ (in_range st s _ e) e)

    y : of_calls (owns b) (set st.slots s new) + 0 ≡ of_calls (owns b) st.slots + one (n == b)
    y = subst (λ k. of_calls (owns b) (set st.slots s new) + 0 ≡ of_calls (owns b) st.slots + k) (look_owns b n 0 marks) (change (owns b) st s new _ (in_range st s _ e) e)

    z : of_calls (wins b) (set st.slots s new) + 0 ≡ of_calls (wins b) st.slots + 0
    z = subst (λ k. of_calls (wins b) (set st.slots s new) + 0 ≡ of_calls (wins b) st.slots + k) (look_none b n marks) (change (wins b) st s new _ (in_range st s _ e) e)

    go : ((n == b) ≡ true) ⊎ ((n == b) ≡ false) → Counted b (set st.slots s new) st.heads (st.batches ++ batch ∷ [])
    go (inl t) =
        let same : length st.batches ≡ b = eq_true n b t in
        let own : one (n == b) ≡ 1 = ap one t in
        let le : length st.batches ≤ b = omega arith in
        let none : of_calls (owns b) st.slots ≡ 0 = omega (arith, c.fresh le) in
        let unused : of_calls (wins b) st.slots ≡ 0 = sum_nothing (λ slot. wins b slot.call) (λ slot. owns b slot.call) (λ slot. owns-wins b slot.call) st.slots none in
        let count : count_at (st.batches ++ batch ∷ []) b ≡ pos 0 = ap (λ batch. batch.count) (get_or_push st.batches batch no_batch b same) in
        let len : _ ≡ _ = length_push st.batches batch in
        record { balance = omega (arith, ints, x, y, z); alone = omega (arith, x, y, z); few = omega (arith, x, y, z); fresh = omega (arith, x, y, z); held = λ h. omega (arith, x, y, z) }
    go (inr t) =
        let other : length st.batches ≢ b = grind arith in
        let own : one (n == b) ≡ 0 = ap one t in
        let count : count_at (st.batches ++ batch ∷ []) b ≡ count_at st.batches b = ap (λ batch. batch.count) (get_or_push_other st.batches batch no_batch b other) in
        let len : _ ≡ _ = length_push st.batches batch in
        record { balance = omega (arith, ints, x, y, z); alone = omega (arith, x, y, z); few = omega (arith, x, y, z); fresh = omega (arith, x, y, z); held = λ h. (let same : get_or (st.batches ++ batch ∷ []) b no_batch ≡ get_or st.batches b no_batch = get_or_push_other st.batches batch no_batch b other in omega (arith, x, y, z, c.held (rw (← same) h))) }

inserted_count : (b : ℕ) (st : State) (s m a won : ℕ) (later saw queue waiting : List ℕ) → Stands st s (Try a won m later saw) queue → head_at st m ≡ Active waiting → CountedIn b st
    → Counted b (set st.slots s (record (slot_at st s) { call = Some (record { place = look a (won + 1) later; queue = queue }) })) (set st.heads m (Active (a ∷ waiting))) st.batches
inserted_count b st s m a won later saw queue waiting e head_is c = go (is_true (a == b))
  where
    new : Slot
    new = record (slot_at st s) { call = Some (record { place = look a (won + 1) later; queue = queue }) }

    l : listed b (set st.heads m (Active (a ∷ waiting))) + occ b waiting ≡ listed b st.heads + (one (a == b) + occ b waiting)
    l = rw head_is at (sum_by-set (λ head. occ b (waiting_at head)) st.heads m (Active (a ∷ waiting)) Inactive (head_range st m waiting head_is))

    x : of_calls (walks b) (set st.slots s new) + 0 ≡ of_calls (walks b) st.slots + 0
    x = subst (λ k. of_calls (walks b) (set st.slots s new) + 0 ≡ of_calls (walks b) st.slots + k) (look_walks b a (won + 1) later) (change (walks b) st s new _ (in_range st s _ e) e)

    y : of_calls (owns b) (set st.slots s new) + one (a == b) ≡ of_calls (owns b) st.slots + one (a == b)
    y = subst (λ k. of_calls (owns b) (set st.slots s new) + one (a == b) ≡ of_calls (owns b) st.slots + k) (look_owns b a (won + 1) later) (change (owns b) st s new _ (in_range st s _ e) e)

    z : of_calls (wins b) (set st.slots s new) + (if a == b then won else 0) ≡ of_calls (wins b) st.slots + (if a == b then won + 1 else 0)
    z = subst (λ k. of_calls (wins b) (set st.slots s new) + (if a == b then won else 0) ≡ of_calls (wins b) st.slots + k) (look_wins b a (won + 1) later) (change (wins b) st s new _ (in_range st s _ e) e)

    go : ((a == b) ≡ true) ⊎ ((a == b) ≡ false) → Counted b (set st.slots s new) (set st.heads m (Active (a ∷ waiting))) st.batches
    go (inl t) =
        let own : one (a == b) ≡ 1 = ap one t in
        let won_is : (if a == b then won else 0) ≡ won = ap (λ q. if q then won else 0) t in
        let more : (if a == b then won + 1 else 0) ≡ won + 1 = ap (λ q. if q then won + 1 else 0) t in
        let owned : one (a == b) ≤ of_calls (owns b) st.slots = in_call_of b st s _ queue e in
        record { balance = omega (arith, ints, l, x, y, z); alone = omega (arith, x, y, z); few = omega (arith, l, x, y, z); fresh = omega (arith, l, x, y, z); held = λ h. omega (arith, l, x, y, z, c.held h) }
    go (inr t) =
        let own : one (a == b) ≡ 0 = ap one t in
        let won_is : (if a == b then won else 0) ≡ 0 = ap (λ q. if q then won else 0) t in
        let more : (if a == b then won + 1 else 0) ≡ 0 = ap (λ q. if q then won + 1 else 0) t in
        record { balance = omega (arith, ints, l, x, y, z); alone = omega (arith, x, y, z); few = omega (arith, l, x, y, z); fresh = omega (arith, l, x, y, z); held = λ h. omega (arith, l, x, y, z, c.held h) }

emptied_values : (up : Bool) (values : List ℕ) → 1 ≤ length (if up then [] else values) → up ≡ false
emptied_values true values h = absurd (omega arith)
emptied_values false values h = refl

off_none : (b : ℕ) (head : Head) → is_active head ≡ false → occ b (waiting_at head) ≡ 0
off_none b Inactive e = refl
off_none b (Active waiting) e = absurd (cc)

taken_counts : (b size n : ℕ) (rest : List ℕ) → (walks b (taken_call size n rest) ≡ 0) × (owns b (taken_call size n rest) ≡ 0) × (wins b (taken_call size n rest) ≡ 0)
taken_counts b size n rest = taken (λ o. (walks b o ≡ 0) × (owns b o ≡ 0) × (wins b o ≡ 0)) size n rest (λ h. (refl, refl, refl)) (λ h. (refl, refl, refl))

pub counted_step : (b size : ℕ) (st : State) (event : Event) (d : State × Answer) → Free st → Step size st event d → CountedIn b st → CountedIn b d.0
counted_step b size st event _ free (Step.took_new s e least) c =
    let new : Slot = taken_slot size (length st.slots + 1) st.rest in
    let q : (walks b new.call ≡ 0) × (owns b new.call ≡ 0) × (wins b new.call ≡ 0) = taken_counts b size (length st.slots + 1) st.rest in
    let x : _ ≡ _ = sum_by_push (λ slot. walks b slot.call) st.slots new in
    let y : _ ≡ _ = sum_by_push (λ slot. owns b slot.call) st.slots new in
    let z : _ ≡ _ = sum_by_push (λ slot. wins b slot.call) st.slots new in
    let l : _ ≡ _ = sum_by_push (λ head. occ b (waiting_at head)) st.heads Inactive in
    record {
      balance = omega (arith, ints, q.0, q.1, q.2);
      alone = omega (arith, q.0, q.1, q.2);
      few = omega (arith, q.0, q.1, q.2);
      fresh = omega (arith, q.0, q.1, q.2);
      held = λ h. omega (arith, c.held h);
    }
counted_step b size st event _ free (Step.took_old s r e least) c =
    let q : _ × _ × _ = taken_counts b size (length st.slots) st.rest in
    same_counts b st s (taken_slot size (length st.slots) st.rest) None r (ap (λ (slot : Slot). slot.call) (free s e)) q.0 q.1 q.2 c
counted_step b size st event _ free (Step.gave s e off ends) c = same_counts b st s no_slot None (idle_range st s e) (idle_call (slot_at st s) e) refl refl refl c
counted_step b size st event _ free (Step.gathered s e off lone some) c = same_counts b st s _ None (idle_range st s e) (idle_call (slot_at st s) e) refl refl refl c
counted_step b size st event _ free (Step.entered s e off) c =
    let l : _ ≡ _ = emptied b st s (Active []) refl in
    let old : occ b (waiting_at (head_at st s)) ≡ 0 = off_none b (head_at st s) off in
    record { balance = omega (arith, ints); alone = omega arith; few = omega arith; fresh = omega arith; held = λ h. omega (arith, c.held h) }
counted_step b size st event _ free (Step.begun_retire s v e new) c = same_counts b st s _ None (idle_range st s e) (idle_call (slot_at st s) e) refl refl refl c
counted_step b size st event _ free (Step.begun_other s job place e which exact) c =
    let q : (place_walks b place ≡ 0) × (place_owns b place ≡ 0) × (place_won b place ≡ 0) = grind arith in
    same_counts b st s _ None (idle_range st s e) (idle_call (slot_at st s) e) q.0 q.1 q.2 c
counted_step b size st event _ free (Step.put s v from before after place e which to after_is) c =
    let p : (place_walks b from ≡ 0) × (place_owns b from ≡ 0) × (place_won b from ≡ 0) = grind arith in
    let q : (place_walks b place ≡ 0) × (place_owns b place ≡ 0) × (place_won b place ≡ 0) = grind arith in
    same_counts b st s _ _ (in_range st s _ e) e (q.0 ∙ sym p.0) (q.1 ∙ sym p.1) (q.2 ∙ sym p.2) c
counted_step b size st event _ free (Step.marked s n next note marks queue e r k) c =
    let q : _ × _ × _ = place_quiet b (is_active (head_at st n)) n note marks (slot_at st s).batch in
    same_counts b st s _ _ (in_range st s _ e) e q.0 q.1 q.2 c
counted_step b size st event _ free (Step.looked_at s a won m later queue e) c =
    let q : _ × _ × _ = looked_same b (head_at st m) a won m later in
    same_counts b st s _ _ (in_range st s _ e) e q.0 q.1 q.2 c
counted_step b size st event _ free (Step.detached s next note marks queue e le) c = detached_count b st s next note marks queue e c
counted_step b size st event _ free (Step.inserted s m a won later saw queue waiting e head_is) c = inserted_count b st s m a won later saw queue waiting e head_is c
counted_step b size st event _ free (Step.lost s m a won later saw queue e differs) c =
    same_counts b st s _ _ (in_range st s _ e) e refl refl refl c
counted_step b size st event _ free (Step.added s a won queue d e h) c = subst (λ d. CountedIn b d.0) (some_is _ _ h) (added_count b st s a won queue _ _ (emptied_values (is_zero ((batch_at st a).count +ℤ pos won)) _) e c)
counted_step b size st event _ free (Step.subtracted s a walk queue d e h) c = subst (λ d. CountedIn b d.0) (some_is _ _ h) (subtracted_count b st s a walk queue _ _ (emptied_values (is_zero ((batch_at st a).count -ℤ pos 1)) _) e c)
counted_step b size st event _ free (Step.swapped_out s stays queue e) c =
    let new : Slot = record (slot_at st s) { call = Some (record { place = Rest [] (waiting_at (head_at st s)); queue = queue }) } in
    let l : _ ≡ _ = emptied b st s (if stays then Active [] else Inactive) (none_in stays) in
    let x : _ ≡ _ = change (walks b) st s new _ (in_range st s _ e) e in
    let y : _ ≡ _ = change (owns b) st s new _ (in_range st s _ e) e in
    let z : _ ≡ _ = change (wins b) st s new _ (in_range st s _ e) e in
    record { balance = omega (arith, ints); alone = omega arith; few = omega arith; fresh = omega arith; held = λ h. omega (arith, c.held h) }
  where
    none_in : (stays : Bool) → occ b (waiting_at (if stays then Active [] else Inactive)) ≡ 0
    none_in true = refl
    none_in false = refl
counted_step b size st event _ free (Step.handed s v puts given walk queue e new) c =
    same_counts b st s _ _ (in_range st s _ e) e refl refl refl c
counted_step b size st event _ free (Step.returned s e) c =
    same_counts b st s _ _ (in_range st s _ e) e refl refl refl c
counted_step b size st event _ free (Step.read s l e) c = c
counted_step b size st event _ free (Step.exchanged s l exchange new e fresh exact) c = c
counted_step b size st event _ free (Step.compared s l exchange e exact) c = c

-- a slot whose number is free stays as it is, and one that is given back has no batch
busy : {A : Type 0} (st : State) (s : ℕ) (place : Place) (queue : List ℕ) → Free st → Stands st s place queue → (slot_at st s).used ≡ false → A
busy st s place queue free e off = absurd (let k : Option.None ≡ Some (record { place = place; queue = queue }) = sym (ap (λ (slot : Slot). slot.call) (free s off)) ∙ e in cc)

idle_used : (slot : Slot) → is_idle slot ≡ true → slot.used ≡ true
idle_used slot e = grind arith

abbrev IsFreed : Slot → Type 0
IsFreed slot = slot.used ≡ false → slot ≡ no_slot

free_set : (st : State) (s : ℕ) (new : Slot) → Free st → (new.used ≡ false → new ≡ no_slot) → (t : ℕ) → IsFreed (get_or (set st.slots s new) t no_slot)
free_set st s new free h t = go (is_true (s == t)) (is_true (nat_lt s (length st.slots)))
  where
    go : ((s == t) ≡ true) ⊎ ((s == t) ≡ false) → (nat_lt s (length st.slots) ≡ true) ⊎ (nat_lt s (length st.slots) ≡ false) → IsFreed (get_or (set st.slots s new) t no_slot)
    go (inl i) (inl r) = rw (← eq_true s t i) (rw (get_or-set_same st.slots s new no_slot (lt_true _ _ r)) h)
    go (inl i) (inr r) = let past : length st.slots ≤ s = grind arith in rw (set_past st.slots s new past) (free t)
    go (inr i) r = let other : t ≢ s = grind arith in rw (get_or-set_other st.slots s t new no_slot other) (free t)

on : (used : Bool) (slot : Slot) → used ≡ true → used ≡ false → slot ≡ no_slot
on used slot e off = absurd (let k : true ≡ false = sym e ∙ off in cc)

pub free_step : (size : ℕ) (st : State) (event : Event) (d : State × Answer) → Step size st event d → Free st → Free d.0
free_step size st event _ (Step.took_new s e least) free = λ t. go t (is_true (length st.slots == t))
  where
    new : Slot
    new = taken_slot size (length st.slots + 1) st.rest

    go : (t : ℕ) → ((length st.slots == t) ≡ true) ⊎ ((length st.slots == t) ≡ false) → IsFreed (get_or (st.slots ++ new ∷ []) t no_slot)
    go t (inl i) = rw (get_or_push st.slots new no_slot t (eq_true _ _ i)) (on true new refl)
    go t (inr i) = let other : length st.slots ≢ t = grind arith in rw (get_or_push_other st.slots new no_slot t other) (free t)
free_step size st event _ (Step.took_old s r e least) free = free_set st s _ free (on true _ refl)
free_step size st event _ (Step.gave s e off ends) free = free_set st s no_slot free (λ h. refl)
free_step size st event _ (Step.gathered s e off lone some) free = free_set st s _ free (on true _ refl)
free_step size st event _ (Step.entered s e off) free = free
free_step size st event _ (Step.begun_retire s v e new) free = free_set st s _ free (on _ _ (idle_used (slot_at st s) e))
free_step size st event _ (Step.begun_other s job place e which exact) free = free_set st s _ free (on _ _ (idle_used (slot_at st s) e))
free_step size st event _ (Step.put s v from before after place e which to after_is) free = free_set st s _ free (busy st s _ _ free e)
free_step size st event _ (Step.marked s n next note marks queue e r k) free = free_set st s _ free (busy st s _ _ free e)
free_step size st event _ (Step.looked_at s a won m later queue e) free = free_set st s _ free (busy st s _ _ free e)
free_step size st event _ (Step.detached s next note marks queue e le) free = free_set st s _ free (busy st s _ _ free e)
free_step size st event _ (Step.inserted s m a won later saw queue waiting e head_is) free = free_set st s _ free (busy st s _ _ free e)
free_step size st event _ (Step.lost s m a won later saw queue e differs) free = free_set st s _ free (busy st s _ _ free e)
free_step size st event _ (Step.added s a won queue d e h) free = subst (λ (x : State × Answer). Free x.0) (some_is _ _ h) (free_set st s _ free (busy st s _ _ free e))
free_step size st event _ (Step.subtracted s a walk queue d e h) free = subst (λ (x : State × Answer). Free x.0) (some_is _ _ h) (free_set st s _ free (busy st s _ _ free e))
free_step size st event _ (Step.swapped_out s stays queue e) free = free_set st s _ free (busy st s _ _ free e)
free_step size st event _ (Step.handed s v puts given walk queue e new) free = free_set st s _ free (busy st s _ _ free e)
free_step size st event _ (Step.returned s e) free = free_set st s _ free (busy st s _ _ free e)
free_step size st event _ (Step.read s l e) free = free
free_step size st event _ (Step.exchanged s l exchange new e fresh exact) free = free
free_step size st event _ (Step.compared s l exchange e exact) free = free
