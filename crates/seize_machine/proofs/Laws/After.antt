-- The law of after: a value is reclaimed only after each slot that was active at its retirement has parted.
use Rattle.std.proofs.Common.{◌≡◌, ℕ, zero, suc, ◌<◌, ◌≤◌, true, false, nat_lt, List, [], ◌∷◌, length, get_or, Option, Some, refl, sym, ◌∙◌, ap, ◌⊎◌, inl, inr, arith}
use Rattle.std.specs.List.{slice_get, sum_by}
use Rattle.std.proofs.lemmas.List.{get_or_past}
use Rattle.std.proofs.lemmas.List.Sums.{get_or-le-sum_by}
use Rattle.seize_machine.specs.Machine.State.{no_slot, no_batch, State, head_at, is_active, linked_values, are_distinct, opening}
use Rattle.seize_machine.specs.Machine.Event.{Event, Put}
use Rattle.seize_machine.specs.Machine.Next.{next}
use Rattle.seize_machine.specs.Machine.History.{Timed, Moment, handed_value, retired_value, is_swap_out, Reclaimed, Retired, IsActiveAt, HasParted}
use Rattle.seize_machine.specs.Machine.Laws.{After}
use Rattle.seize_machine.specs.declared.machine.event.Answer.{Answer}
use Rattle.seize_machine.proofs.Steps.Relation.{Step, step_of, is_true, lt_true, some_is}
use Rattle.seize_machine.proofs.Counting.Sums.{occ, sum_nothing}
use Rattle.seize_machine.proofs.Invariants.Counts.{of_calls}
use Rattle.seize_machine.proofs.Invariants.Once.{in_batches}
use Rattle.seize_machine.proofs.Invariants.Kept.{KeptIn, kept_step, given}
use Rattle.seize_machine.proofs.Invariants.Parts.{parts, parts_step, parts-le-places, is_value, value_once, value_is, kept_in, slot_keeps}
use Rattle.seize_machine.proofs.Invariants.Always.{Inv, inv_step, handed_given, opening_inv, sum_replicate}
use Rattle.seize_machine.proofs.Lists.Histories.{run, moment_of, none_in, at_first, later, sooner, first_moment, moment_here, not_out}

-- a slot that keeps v back parts before v is handed
pub keeps_until : (s v c : ℕ) (ts : List Timed) (st : State) → Inv st → KeptIn s v st → Reclaimed (run st ts) v c → (p : ℕ) × (p < c) × ((m : Moment) × (slice_get (run st ts) p ≡ Some m) × (is_swap_out s m.timed.event ≡ true))
keeps_until s v c [] st i k r = none_in c r.0 r.1
keeps_until s v zero (t ∷ ts) st i k r =
    let P : Moment → Type 0 = λ m. handed_value m.answer ≡ Some v → ⊥ in
    absurd (at_first P (next t.size st t.event) st t ts r.0 r.1 (λ d e h. omega (arith, handed_given v t.size st t.event d (step_of t.size st t.event d e) h, k.not_given)) r.2)
keeps_until s v (suc c) (t ∷ ts) st i k r = go (later _ st t ts c r.0 r.1) (λ st. keeps_until s v c ts st) (is_true (is_swap_out s t.event))
  where
    go : (w : (d : State × Answer) × (next t.size st t.event ≡ Some d) × (slice_get (run d.0 ts) c ≡ Some r.0))
        → ((st : State) → Inv st → KeptIn s v st → Reclaimed (run st ts) v c → (p : ℕ) × (p < c) × ((m : Moment) × (slice_get (run st ts) p ≡ Some m) × (is_swap_out s m.timed.event ≡ true)))
        → (is_swap_out s t.event ≡ true) ⊎ (is_swap_out s t.event ≡ false)
        → (p : ℕ) × (p < suc c) × ((m : Moment) × (slice_get (run st (t ∷ ts)) p ≡ Some m) × (is_swap_out s m.timed.event ≡ true))
    go w ih (inl out) = (zero, omega arith, (moment_of st t w.0, first_moment st t ts w.0 w.1, out))
    go w ih (inr stays) =
        let step : Step t.size st t.event w.0 = step_of t.size st t.event w.0 w.1 in
        let next_kept : KeptIn s v (w.0).0 = kept_step s v t.size st t.event w.0 step (not_out s t.event stays) i.sound k in
        let x : (p : ℕ) × (p < c) × ((m : Moment) × (slice_get (run (w.0).0 ts) p ≡ Some m) × (is_swap_out s m.timed.event ≡ true)) = ih (w.0).0 (inv_step t.size st t.event w.0 step i) next_kept (r.0, w.2, r.2) in
        let before : x.0 < c = x.1 in
        (suc x.0, omega arith, ((x.2).0, sooner _ w.0 st t ts x.0 (x.2).0 w.1 (x.2).1, (x.2).2))

given_none : (v : ℕ) (st : State) → parts v st ≡ 0 → of_calls (given v) st.slots ≡ 0
given_none v st none = sum_nothing (λ slot. given v slot.call) (slot_keeps v) (λ slot h. omega arith) st.slots (omega arith)

-- where v was not retired, every active slot keeps it back
pub keeps_new : (s v : ℕ) (st : State) → parts v st ≡ 0 → is_active (head_at st s) ≡ true → KeptIn s v st
keeps_new s v st none on =
    let slots : kept_in v st.slots ≡ 0 = omega arith in
    let batches : in_batches v st.batches ≡ 0 = omega arith in
    record {
      active = on;
      not_given = sum_nothing (λ slot. given v slot.call) (slot_keeps v) (λ slot h. omega arith) st.slots slots;
      not_gone = omega arith;
      marks = λ t h. absurd (omega (arith, each_none (slot_keeps v) st.slots t no_slot refl slots));
      waits = λ b h. absurd (omega (arith, each_none (λ batch. occ v batch.values) st.batches b no_batch refl batches));
    }
  where
    each_none : {X : Type 0} (f : X → ℕ) (xs : List X) (i : ℕ) (d : X) → f d ≡ 0 → sum_by f xs ≡ 0 → f (get_or xs i d) ≡ 0
    each_none f xs i d e h = go (is_true (nat_lt i (length xs)))
      where
        go : (nat_lt i (length xs) ≡ true) ⊎ (nat_lt i (length xs) ≡ false) → f (get_or xs i d) ≡ 0
        go (inl t) = omega (arith, get_or-le-sum_by f xs i d (lt_true _ _ t))
        go (inr t) = let r : length xs ≤ i = grind arith in ap f (get_or_past xs i d r) ∙ e

-- a value that is retired stays retired
stays_retired : (v q : ℕ) (ts : List Timed) (st : State) → Inv st → 1 ≤ parts v st → Retired (run st ts) v q → ⊥
stays_retired v q [] st i g r = none_in q r.0 r.1
stays_retired v zero (t ∷ ts) st i g r =
    let P : Moment → Type 0 = λ m. retired_value m.before m.timed.event ≡ Some v → ⊥ in
    at_first P (next t.size st t.event) st t ts r.0 r.1
    (λ d e h.
    let step : Step t.size st t.event d = step_of t.size st t.event d e in
    let j : Inv d.0 = inv_step t.size st t.event d step i in
    omega (arith, parts_step v t.size st t.event d i.sound.free step, value_is v _ h, parts-le-places v d.0, (j.once v).once))
    r.2
stays_retired v (suc q) (t ∷ ts) st i g r =
    let w : (d : State × Answer) × (next t.size st t.event ≡ Some d) × (slice_get (run d.0 ts) q ≡ Some r.0) = later _ st t ts q r.0 r.1 in
    let step : Step t.size st t.event w.0 = step_of t.size st t.event w.0 w.1 in
    stays_retired v q ts (w.0).0 (inv_step t.size st t.event w.0 step i) (omega (arith, parts_step v t.size st t.event w.0 i.sound.free step)) (r.0, w.2, r.2)

-- what the law of after says of a value that is reclaimed
abbrev pub Story : State → List Timed → ℕ → ℕ → Type 0
Story st ts v c = (q : ℕ) × (q < c) × Retired (run st ts) v q × ((r : ℕ) → Retired (run st ts) v r → r ≡ q) × ((s : ℕ) → IsActiveAt (run st ts) s q → HasParted (run st ts) s q c)

no_swap : (s v : ℕ) (st : State) (event : Event) → retired_value st event ≡ Some v → is_swap_out s event ≡ true → ⊥
no_swap s v st (Put i) h e = cc
no_swap s v st _ h e = cc

story_first : (v c : ℕ) (t : Timed) (ts : List Timed) (st : State) → Inv st → parts v st ≡ 0 → Reclaimed (run st (t ∷ ts)) v (suc c) → (d : State × Answer) → next t.size st t.event ≡ Some d → retired_value st t.event ≡ Some v → Story st (t ∷ ts) v (suc c)
story_first v c t ts st i n r d e app =
    (zero, omega arith, (here, here_is, app), only, parted)
  where
    here : Moment
    here = moment_of st t d

    here_is : slice_get (run st (t ∷ ts)) zero ≡ Some here
    here_is = first_moment st t ts d e

    step : Step t.size st t.event d
    step = step_of t.size st t.event d e

    only : (r : ℕ) → Retired (run st (t ∷ ts)) v r → r ≡ zero
    only zero x = refl
    only (suc r) x =
        let w : (d : State × Answer) × (next t.size st t.event ≡ Some d) × (slice_get (run d.0 ts) r ≡ Some x.0) = later _ st t ts r x.0 x.1 in
        let same : d ≡ w.0 = some_is _ _ (sym e ∙ w.1) in
        absurd (stays_retired v r ts d.0 (inv_step t.size st t.event d step i) (omega (arith, parts_step v t.size st t.event d i.sound.free step, value_is v _ app)) (x.0, rw same w.2, x.2))

    parted : (s : ℕ) → IsActiveAt (run st (t ∷ ts)) s zero → HasParted (run st (t ∷ ts)) s zero (suc c)
    parted s a =
        let on : is_active (head_at st s) ≡ true = ap (λ m. is_active (head_at m.before s)) (moment_here st t ts d a.0 e a.1) ∙ a.2 in
        after_zero (keeps_until s v (suc c) (t ∷ ts) st i (keeps_new s v st n on) r)
      where
        after_zero : (p : ℕ) × (p < suc c) × ((m : Moment) × (slice_get (run st (t ∷ ts)) p ≡ Some m) × (is_swap_out s m.timed.event ≡ true)) → HasParted (run st (t ∷ ts)) s zero (suc c)
        after_zero x = go x.0 x.1 x.2
          where
            go : (p : ℕ) → p < suc c → (m : Moment) × (slice_get (run st (t ∷ ts)) p ≡ Some m) × (is_swap_out s m.timed.event ≡ true) → HasParted (run st (t ∷ ts)) s zero (suc c)
            go zero le m = absurd (no_swap s v st t.event app (ap (λ m. is_swap_out s m.timed.event) (moment_here st t ts d m.0 e m.1) ∙ m.2))
            go (suc p) le m = (suc p, omega arith, le, m)

story_later : (v c : ℕ) (t : Timed) (ts : List Timed) (st : State) → (d : State × Answer) → next t.size st t.event ≡ Some d → is_value v (retired_value st t.event) ≡ 0 → Story d.0 ts v c → Story st (t ∷ ts) v (suc c)
story_later v c t ts st d e none x =
    let before : x.0 < c = x.1 in
    (suc x.0, omega arith, ((x.2).0, sooner _ d st t ts x.0 (x.2).0 e (x.2).1, (x.2).2), only, parted)
  where
    only : (r : ℕ) → Retired (run st (t ∷ ts)) v r → r ≡ suc x.0
    only zero y = absurd (let k : is_value v (retired_value st t.event) ≡ 1 = value_is v _ (ap (λ m. retired_value m.before m.timed.event) (moment_here st t ts d y.0 e y.1) ∙ y.2) in omega arith)
    only (suc r) y =
        let w : (d : State × Answer) × (next t.size st t.event ≡ Some d) × (slice_get (run d.0 ts) r ≡ Some y.0) = later _ st t ts r y.0 y.1 in
        let same : d ≡ w.0 = some_is _ _ (sym e ∙ w.1) in
        ap (λ n. suc n) (x.3 r (y.0, rw same w.2, y.2))

    parted : (s : ℕ) → IsActiveAt (run st (t ∷ ts)) s (suc x.0) → HasParted (run st (t ∷ ts)) s (suc x.0) (suc c)
    parted s a =
        let w : (d : State × Answer) × (next t.size st t.event ≡ Some d) × (slice_get (run d.0 ts) x.0 ≡ Some a.0) = later _ st t ts x.0 a.0 a.1 in
        let same : d ≡ w.0 = some_is _ _ (sym e ∙ w.1) in
        let y : HasParted (run d.0 ts) s x.0 c = x.4 s (a.0, rw same w.2, a.2) in
        let low : x.0 < y.0 = y.1 in
        let high : y.0 < c = y.2 in
        (suc y.0, omega arith, omega arith, ((y.3).0, sooner _ d st t ts y.0 (y.3).0 e (y.3).1, (y.3).2))

pub after : (v c : ℕ) (ts : List Timed) (st : State) → Inv st → parts v st ≡ 0 → Reclaimed (run st ts) v c → Story st ts v c
after v c [] st i n r = none_in c r.0 r.1
after v zero (t ∷ ts) st i n r =
    let P : Moment → Type 0 = λ m. handed_value m.answer ≡ Some v → ⊥ in
    absurd (at_first P (next t.size st t.event) st t ts r.0 r.1
    (λ d e h. omega (arith, handed_given v t.size st t.event d (step_of t.size st t.event d e) h, given_none v st n)) r.2)
after v (suc c) (t ∷ ts) st i n r = go (later _ st t ts c r.0 r.1) (λ st. after v c ts st) (value_once v (retired_value st t.event))
  where
    go : (w : (d : State × Answer) × (next t.size st t.event ≡ Some d) × (slice_get (run d.0 ts) c ≡ Some r.0))
        → ((st : State) → Inv st → parts v st ≡ 0 → Reclaimed (run st ts) v c → Story st ts v c)
        → (retired_value st t.event ≡ Some v) ⊎ (is_value v (retired_value st t.event) ≡ 0) → Story st (t ∷ ts) v (suc c)
    go w ih (inl app) = story_first v c t ts st i n r w.0 w.1 app
    go w ih (inr none) =
        let step : Step t.size st t.event w.0 = step_of t.size st t.event w.0 w.1 in
        story_later v c t ts st w.0 w.1 none (ih (w.0).0 (inv_step t.size st t.event w.0 step i) (omega (arith, parts_step v t.size st t.event w.0 i.sound.free step)) (r.0, w.2, r.2))

pub none_retired : (v slots : ℕ) (links : List (Option ℕ)) → parts v (opening slots links) ≡ 0
none_retired v slots links = omega (arith, sum_replicate (slot_keeps v) slots no_slot refl)

pub law_after : (slots : ℕ) (links : List (Option ℕ)) (ts : List Timed) → are_distinct (linked_values links) ≡ true → After (opening slots links) (run (opening slots links) ts)
law_after slots links ts distinct v c r = after v c ts (opening slots links) (opening_inv slots links distinct) (none_retired v slots links) r
