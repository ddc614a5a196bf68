-- Each value that was named stands in one place, and no other value stands in any.
use Rattle.std.proofs.Common.{◌≡◌, ◌≢◌, ℕ, ◌+◌, ◌<◌, ◌≤◌, ℤ, pos, Bool, true, false, not, ◌==◌, if◌then◌else◌, nat_lt, List, [], ◌∷◌, ◌++◌, length, get_or, set, Option, Some, None, refl, ap, subst, ◌⊎◌, inl, inr, arith}
use Rattle.std.specs.Prelude.{option_to_list}
use Rattle.std.specs.List.{sum_by, filter}
use Rattle.std.proofs.lemmas.List.{get_or_past, set_past}
use Rattle.std.proofs.lemmas.List.Sums.{sum_by-set, sum_by_push}
use Rattle.seize_machine.specs.Machine.State.{no_slot, no_batch, State, Slot, Batch, Progress, Head, Inactive, Active, Place, Append, Look, Add, Rest, slot_at, head_at, batch_at, link_at, is_active, waiting_at, is_idle, has, Mark}
use Rattle.seize_machine.specs.Machine.Event.{Event}
use Rattle.seize_machine.specs.Machine.Next.{look, marked_place, looked, begun, retiring, is_none_or_fresh, taken_slot, taken_call}
use Rattle.seize_machine.specs.declared.machine.event.Answer.{Answer}
use Rattle.seize_machine.proofs.Steps.Relation.{Step, Stands, is_true, eq_true, lt_true, and_true, not_true, some_is, swapped, taken}
use Rattle.seize_machine.proofs.Counting.Sums.{one, occ, occ-append, occ-push, has_none, has_some, occ-filter_other, occ-filter_same, are_fresh-occ}
use Rattle.seize_machine.proofs.Invariants.Counts.{in_range, idle_range, idle_call, Free}

abbrev pub place_has : ℕ → Place → ℕ
place_has v (Append w) = one (w == v)
place_has v (Rest given walk) = occ v given
place_has v _ = 0

abbrev pub call_has : ℕ → Option Progress → ℕ
call_has v None = 0
call_has v (Some call) = occ v call.queue + place_has v call.place

abbrev pub slot_has : ℕ → Slot → ℕ
slot_has v slot = occ v slot.batch + call_has v slot.call

abbrev pub in_slots : ℕ → List Slot → ℕ
in_slots v slots = sum_by (slot_has v) slots

abbrev pub in_batches : ℕ → List Batch → ℕ
in_batches v batches = sum_by (λ batch. occ v batch.values) batches

abbrev pub in_links : ℕ → List (Option ℕ) → ℕ
in_links v links = sum_by (λ link. occ v (option_to_list link)) links

-- where v stands
abbrev pub places : ℕ → State → ℕ
places v st = in_slots v st.slots + in_batches v st.batches + in_links v st.links + occ v st.loose + occ v st.gone + occ v st.rest

pub record Once (v : ℕ) (st : State) : Type 0 where
  pub once : places v st ≤ 1
  pub all : places v st ≡ occ v st.named

move : (v : ℕ) (st : State) (s : ℕ) (new : Slot) → s < length st.slots → in_slots v (set st.slots s new) + slot_has v (slot_at st s) ≡ in_slots v st.slots + slot_has v new
move v st s new h = sum_by-set (slot_has v) st.slots s new no_slot h

same_place : (v : ℕ) (st : State) (s : ℕ) (new : Slot) → s < length st.slots → slot_has v new ≡ slot_has v (slot_at st s) → in_slots v (set st.slots s new) ≡ in_slots v st.slots
same_place v st s new h e = omega (arith, move v st s new h)

had : (v : ℕ) (st : State) (s : ℕ) (o : Option Progress) → (slot_at st s).call ≡ o → slot_has v (slot_at st s) ≡ occ v (slot_at st s).batch + call_has v o
had v st s o e = ap (λ o. occ v (slot_at st s).batch + call_has v o) e

look_has : (v c won : ℕ) (marks : List ℕ) → place_has v (look c won marks) ≡ 0
look_has v c won [] = refl
look_has v c won (m ∷ marks) = refl

looked_has : (v : ℕ) (head : Head) (c won m : ℕ) (later : List ℕ) → place_has v (looked head c won m later) ≡ 0
looked_has v Inactive c won m later = look_has v c won later
looked_has v (Active waiting) c won m later = refl

mark_has : (v : ℕ) (active : Bool) (n note : ℕ) (marks batch : List ℕ) → place_has v (marked_place active n note marks batch) ≡ 0
mark_has v active n note marks batch = grind arith

-- the values of a batch that is given up go over to the call
pub gives : (v : ℕ) (batches : List Batch) (a : ℕ) (up : Bool) (count : ℤ)
    → in_batches v (set batches a (record { values = if up then [] else (get_or batches a no_batch).values; count = count })) + occ v (if up then (get_or batches a no_batch).values else []) ≡ in_batches v batches
gives v batches a up count = go (is_true (nat_lt a (length batches)))
  where
    values : List ℕ
    values = (get_or batches a no_batch).values

    batch : Batch
    batch = record { values = if up then [] else values; count = count }

    split : (up : Bool) → occ v (if up then [] else values) + occ v (if up then values else []) ≡ occ v values
    split true = omega arith
    split false = omega arith

    go : (nat_lt a (length batches) ≡ true) ⊎ (nat_lt a (length batches) ≡ false) → in_batches v (set batches a batch) + occ v (if up then values else []) ≡ in_batches v batches
    go (inl h) = omega (arith, sum_by-set (λ batch. occ v batch.values) batches a batch no_batch (lt_true _ _ h), split up)
    go (inr h) =
        let r : length batches ≤ a = grind arith in
        let none : occ v values ≡ 0 = ap (λ batch. occ v batch.values) (get_or_past batches a no_batch r) in
        rw (set_past batches a batch r) (omega (arith, split up))

-- a call that puts the batch's count anew
settles : (v : ℕ) (st : State) (s a : ℕ) (from : Place) (up : Bool) (count : ℤ) (walk queue : List ℕ) → Stands st s from queue → place_has v from ≡ 0 → Once v st
    → Once v (record st {
      slots = set st.slots s (record (slot_at st s) { call = Some (record { place = Rest (if up then (batch_at st a).values else []) walk; queue = queue }) });
      batches = set st.batches a (record { values = if up then [] else (batch_at st a).values; count = count });
    })
settles v st s a from up count walk queue e none c =
    let g : _ ≡ _ = gives v st.batches a up count in
    let x : _ ≡ _ = move v st s (record (slot_at st s) { call = Some (record { place = Rest (if up then (batch_at st a).values else []) walk; queue = queue }) }) (in_range st s _ e) in
    let y : _ ≡ _ = had v st s _ e in
    record { once = omega (arith, c.once); all = omega (arith, c.all) }

-- a value that joins where it is new
joins : (total more : ℕ) → total ≤ 1 → more ≤ 1 → (1 ≤ more → total ≡ 0) → total + more ≤ 1
joins total more le one new = grind arith

named_after : (v w : ℕ) (named : List ℕ) (b : Bool) → has w named ≡ b → occ v (if b then named else named ++ w ∷ []) ≡ occ v named + (if b then 0 else one (w == v))
named_after v w named true e = omega arith
named_after v w named false e = omega (arith, occ-push v named w)

begun_once : (v : ℕ) (st : State) (s w : ℕ) → is_idle (slot_at st s) ≡ true → (has w st.named ≡ false) ⊎ (has w st.loose ≡ true) → Once v st → Once v (begun (retiring st w) s (Append w))
begun_once v st s w e new c =
    let x : _ ≡ _ = move v st s (record (slot_at st s) { call = Some (record { place = Append w; queue = [] }) }) (idle_range st s e) in
    let y : _ ≡ _ = had v st s None (idle_call (slot_at st s) e) in
    let k : (rest ≡ occ v named) × (occ v named ≤ 1) = go (is_true (w == v)) in
    record { once = omega (arith, k.0, k.1); all = omega (arith, k.0) }
  where
    named : List ℕ
    named = if has w st.named then st.named else st.named ++ w ∷ []

    rest : ℕ
    rest = one (w == v) + occ v (filter (λ x. not (x == w)) st.loose) + in_slots v st.slots + in_batches v st.batches + in_links v st.links + occ v st.gone + occ v st.rest

    go : ((w == v) ≡ true) ⊎ ((w == v) ≡ false) → (rest ≡ occ v named) × (occ v named ≤ 1)
    go (inl t) = from new (is_true (has w st.named))
      where
        own : one (w == v) ≡ 1
        own = ap one t

        gone : occ v (filter (λ x. not (x == w)) st.loose) ≡ 0
        gone = let same : w ≡ v = eq_true w v t in rw same (occ-filter_same v st.loose)

        more : (b : Bool) → has w st.named ≡ b → occ v named ≡ occ v st.named + (if b then 0 else one (w == v))
        more b h = rw h (named_after v w st.named b h)

        none : has w st.named ≡ false → occ v st.named ≡ 0
        none h = subst (λ k. occ k st.named ≡ 0) (eq_true w v t) (has_none w st.named h)

        from : (has w st.named ≡ false) ⊎ (has w st.loose ≡ true) → (has w st.named ≡ true) ⊎ (has w st.named ≡ false) → (rest ≡ occ v named) × (occ v named ≤ 1)
        from (inl n) b = (omega (arith, own, gone, more false n, none n, c.all), omega (arith, own, more false n, none n))
        from (inr n) (inl b) =
            let k : 1 ≤ occ v st.loose = subst (λ k. 1 ≤ occ k st.loose) (eq_true w v t) (has_some w st.loose n) in
            (omega (arith, own, gone, more true b, c.once, c.all), omega (arith, more true b, c.once, c.all))
        from (inr n) (inr b) =
            let k : 1 ≤ occ v st.loose = subst (λ k. 1 ≤ occ k st.loose) (eq_true w v t) (has_some w st.loose n) in
            absurd (omega (arith, none b, c.all))
    go (inr t) = (omega (arith, own, gone, same (has w st.named) refl, c.all), omega (arith, same (has w st.named) refl, c.once, c.all))
      where
        own : one (w == v) ≡ 0
        own = ap one t

        gone : occ v (filter (λ x. not (x == w)) st.loose) ≡ occ v st.loose
        gone = let other : w ≢ v = grind arith in occ-filter_other v w st.loose other

        same : (b : Bool) → has w st.named ≡ b → occ v named ≡ occ v st.named
        same true h = rw h refl
        same false h = rw h (omega (arith, own, occ-push v st.named w))

swapped_once : (v : ℕ) (st : State) (l : ℕ) (new : Option ℕ) → l < length st.links → is_none_or_fresh st new ≡ true → Once v st → Once v (swapped st l new)
swapped_once v st l new r fresh c =
    let x : in_links v (set st.links l new) + occ v (option_to_list (link_at st l)) ≡ in_links v st.links + occ v (option_to_list new) = sum_by-set (λ link. occ v (option_to_list link)) st.links l new None r in
    let y : _ ≡ _ = occ-append v st.loose (option_to_list (link_at st l)) in
    let z : _ ≡ _ = occ-append v st.named (option_to_list new) in
    let n : (occ v (option_to_list new) ≤ 1) × (1 ≤ occ v (option_to_list new) → occ v st.named ≡ 0) = newly new fresh in
    let j : places v st + occ v (option_to_list new) ≤ 1 = joins _ _ c.once n.0 (λ h. omega (arith, c.all, n.1 h)) in
    record { once = omega arith; all = omega (arith, c.all) }
  where
    newly : (new : Option ℕ) → is_none_or_fresh st new ≡ true → (occ v (option_to_list new) ≤ 1) × (1 ≤ occ v (option_to_list new) → occ v st.named ≡ 0)
    newly None fresh = (omega arith, λ h. absurd (omega arith))
    newly (Some w) fresh = go (is_true (w == v))
      where
        go : ((w == v) ≡ true) ⊎ ((w == v) ≡ false) → (one (w == v) + 0 ≤ 1) × (1 ≤ one (w == v) + 0 → occ v st.named ≡ 0)
        go (inl t) = let own : one (w == v) ≡ 1 = ap one t in (omega arith, λ h. subst (λ k. occ k st.named ≡ 0) (eq_true w v t) (has_none w st.named (not_true _ fresh)))
        go (inr t) = let own : one (w == v) ≡ 0 = ap one t in (omega arith, λ h. absurd (omega arith))

taken_has : (v size n : ℕ) (rest : List ℕ) → call_has v (taken_call size n rest) ≡ 0
taken_has v size n rest = taken (λ o. call_has v o ≡ 0) size n rest (λ h. refl) (λ h. refl)

pub once_step : (v size : ℕ) (st : State) (event : Event) (d : State × Answer) → Free st → Step size st event d → Once v st → Once v d.0
once_step v size st event _ free (Step.took_new s e least) c =
    let new : Slot = taken_slot size (length st.slots + 1) st.rest in
    let x : _ ≡ _ = sum_by_push (slot_has v) st.slots new in
    let q : call_has v new.call ≡ 0 = taken_has v size (length st.slots + 1) st.rest in
    record { once = omega (arith, c.once); all = omega (arith, c.all) }
once_step v size st event _ free (Step.took_old s r e least) c =
    let new : Slot = taken_slot size (length st.slots) st.rest in
    let x : _ ≡ _ = move v st s new r in
    let q : call_has v new.call ≡ 0 = taken_has v size (length st.slots) st.rest in
    let y : slot_has v (slot_at st s) ≡ 0 = ap (slot_has v) (free s e) in
    record { once = omega (arith, c.once); all = omega (arith, c.all) }
once_step v size st event _ free (Step.gave s e off ends) c =
    let x : _ ≡ _ = move v st s no_slot (idle_range st s e) in
    let y : _ ≡ _ = had v st s None (idle_call (slot_at st s) e) in
    let p : _ ≡ _ = occ-append v st.rest (slot_at st s).batch in
    record { once = omega (arith, c.once); all = omega (arith, c.all) }
once_step v size st event _ free (Step.gathered s e off lone some) c =
    let x : _ ≡ _ = move v st s (record { used = true; batch = st.rest ++ (slot_at st s).batch; call = Some (record { place = Mark 0 (length st.slots) []; queue = [] }) }) (idle_range st s e) in
    let y : _ ≡ _ = had v st s None (idle_call (slot_at st s) e) in
    let p : _ ≡ _ = occ-append v st.rest (slot_at st s).batch in
    record { once = omega (arith, c.once); all = omega (arith, c.all) }
once_step v size st event _ free (Step.entered s e off) c = record { once = c.once; all = c.all }
once_step v size st event _ free (Step.begun_retire s w e new) c = begun_once v st s w e new c
once_step v size st event _ free (Step.begun_other s job place e which exact) c =
    let k : place_has v place ≡ 0 = grind arith in
    let x : _ ≡ _ = move v st s (record (slot_at st s) { call = Some (record { place = place; queue = [] }) }) (idle_range st s e) in
    let y : _ ≡ _ = had v st s None (idle_call (slot_at st s) e) in
    record { once = omega (arith, c.once); all = omega (arith, c.all) }
once_step v size st event _ free (Step.put s w from before after place e which to after_is) c =
    let k : place_has v place ≡ 0 = grind arith in
    let f : occ v before + place_has v from ≡ occ v after + one (w == v) = grind arith in
    let p : _ ≡ _ = occ-push v (slot_at st s).batch w in
    let x : _ ≡ _ = move v st s (record { used = (slot_at st s).used; batch = (slot_at st s).batch ++ w ∷ []; call = Some (record { place = place; queue = after }) }) (in_range st s _ e) in
    let y : _ ≡ _ = had v st s _ e in
    record { once = omega (arith, c.once); all = omega (arith, c.all) }
once_step v size st event _ free (Step.marked s n next note marks queue e r k) c =
    let q : _ ≡ _ = mark_has v (is_active (head_at st n)) n note marks (slot_at st s).batch in
    let x : _ ≡ _ = move v st s (record (slot_at st s) { call = Some (record { place = marked_place (is_active (head_at st n)) n note marks (slot_at st s).batch; queue = queue }) }) (in_range st s _ e) in
    let y : _ ≡ _ = had v st s _ e in
    record { once = omega (arith, c.once); all = omega (arith, c.all) }
once_step v size st event _ free (Step.looked_at s a won m later queue e) c =
    let q : _ ≡ _ = looked_has v (head_at st m) a won m later in
    let x : _ ≡ _ = move v st s (record (slot_at st s) { call = Some (record { place = looked (head_at st m) a won m later; queue = queue }) }) (in_range st s _ e) in
    let y : _ ≡ _ = had v st s _ e in
    record { once = omega (arith, c.once); all = omega (arith, c.all) }
once_step v size st event _ free (Step.detached s next note marks queue e le) c =
    let q : _ ≡ _ = look_has v (length st.batches) 0 marks in
    let x : _ ≡ _ = move v st s (record { used = (slot_at st s).used; batch = []; call = Some (record { place = look (length st.batches) 0 marks; queue = queue }) }) (in_range st s _ e) in
    let z : _ ≡ _ = sum_by_push (λ batch. occ v batch.values) st.batches (record { values = (slot_at st s).batch; count = pos 0 }) in
    let y : _ ≡ _ = had v st s _ e in
    record { once = omega (arith, c.once); all = omega (arith, c.all) }
once_step v size st event _ free (Step.inserted s m a won later saw queue waiting e head_is) c =
    let q : _ ≡ _ = look_has v a (won + 1) later in
    let x : _ ≡ _ = move v st s (record (slot_at st s) { call = Some (record { place = look a (won + 1) later; queue = queue }) }) (in_range st s _ e) in
    let y : _ ≡ _ = had v st s _ e in
    record { once = omega (arith, c.once); all = omega (arith, c.all) }
once_step v size st event _ free (Step.lost s m a won later saw queue e differs) c =
    let x : _ ≡ _ = move v st s (record (slot_at st s) { call = Some (record { place = Look a won m later; queue = queue }) }) (in_range st s _ e) in
    let y : _ ≡ _ = had v st s _ e in
    record { once = omega (arith, c.once); all = omega (arith, c.all) }
once_step v size st event _ free (Step.added s a won queue d e h) c = subst (λ d. Once v d.0) (some_is _ _ h) (settles v st s a (Add a won) _ _ [] queue e refl c)
once_step v size st event _ free (Step.subtracted s a walk queue d e h) c = subst (λ d. Once v d.0) (some_is _ _ h) (settles v st s a (Rest [] (a ∷ walk)) _ _ walk queue e refl c)
once_step v size st event _ free (Step.swapped_out s stays queue e) c =
    let x : _ ≡ _ = move v st s (record (slot_at st s) { call = Some (record { place = Rest [] (waiting_at (head_at st s)); queue = queue }) }) (in_range st s _ e) in
    let y : _ ≡ _ = had v st s _ e in
    record { once = omega (arith, c.once); all = omega (arith, c.all) }
once_step v size st event _ free (Step.handed s w puts given walk queue e new) c =
    let n : (occ v puts ≤ 1) × (1 ≤ occ v puts → occ v st.named ≡ 0) = are_fresh-occ v st.named puts new in
    let q : _ ≡ _ = occ-append v queue puts in
    let g : _ ≡ _ = occ-push v st.gone w in
    let m : _ ≡ _ = occ-append v st.named puts in
    let x : _ ≡ _ = move v st s (record (slot_at st s) { call = Some (record { place = Rest given walk; queue = queue ++ puts }) }) (in_range st s _ e) in
    let y : _ ≡ _ = had v st s _ e in
    let j : places v st + occ v puts ≤ 1 = joins _ _ c.once n.0 (λ h. omega (arith, c.all, n.1 h)) in
    record { once = omega arith; all = omega (arith, c.all) }
once_step v size st event _ free (Step.returned s e) c =
    let x : _ ≡ _ = move v st s (record (slot_at st s) { call = None }) (in_range st s _ e) in
    let y : _ ≡ _ = had v st s _ e in
    record { once = omega (arith, c.once); all = omega (arith, c.all) }
once_step v size st event _ free (Step.read s l e) c = c
once_step v size st event _ free (Step.exchanged s l exchange new e fresh exact) c = swapped_once v st l new (lt_true _ _ (and_true _ _ e).1) fresh c
once_step v size st event _ free (Step.compared s l exchange e exact) c = c
