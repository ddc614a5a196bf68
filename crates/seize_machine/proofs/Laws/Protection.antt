-- The law of protection: a value found in a link is retired after that, and the slot that found it parts before it goes.
use Rattle.std.proofs.Common.{◌≡◌, ℕ, zero, suc, ◌+◌, ◌<◌, ◌≤◌, true, ◌==◌, nat_lt, List, [], ◌∷◌, length, Option, Some, None, refl, ◌∙◌, ap, subst, arith}
use Rattle.std.specs.Prelude.{option_to_list}
use Rattle.std.specs.List.{slice_get}
use Rattle.std.proofs.lemmas.List.Sums.{get_or-le-sum_by}
use Rattle.seize_machine.specs.Machine.State.{State, head_at, link_at, is_active, linked_values, are_distinct, opening}
use Rattle.seize_machine.specs.Machine.Event.{Event, Put, SwapOut}
use Rattle.seize_machine.specs.Machine.Next.{Outcome, next, can_link}
use Rattle.seize_machine.specs.Machine.History.{Timed, Moment, retired_value, linked_value, is_link_event, is_swap_out, Found, Retired, Reclaimed, HasParted}
use Rattle.seize_machine.specs.Machine.Laws.{Protection}
use Rattle.seize_machine.specs.declared.machine.event.Answer.{Answer}
use Rattle.seize_machine.proofs.Steps.Relation.{Step, step_of, eq_true, lt_true, and_true, some_is}
use Rattle.seize_machine.proofs.Counting.Sums.{one, occ}
use Rattle.seize_machine.proofs.Invariants.Once.{in_links, places}
use Rattle.seize_machine.proofs.Invariants.Parts.{parts, kept-le-slots}
use Rattle.seize_machine.proofs.Invariants.Always.{Inv, inv_step, opening_inv, gone_grows}
use Rattle.seize_machine.proofs.Lists.Histories.{run, moment_of, from_first, none_in, at_first, later, sooner, after_this}
use Rattle.seize_machine.proofs.Laws.AtMostOnce.{first_gone}
use Rattle.seize_machine.proofs.Laws.After.{Story, after, keeps_until, keeps_new}

-- a slot that may read a link with v is active, and v stands in the links
abbrev pub Sees : ℕ → ℕ → State → Type 0
Sees s v st = (is_active (head_at st s) ≡ true) × (1 ≤ in_links v st.links)

pub seen : (s v : ℕ) (st : State) (i l : ℕ) → can_link st i l ≡ true → (i == s) ≡ true → link_at st l ≡ Some v → Sees s v st
seen s v st i l e own h =
    let t : (is_active (head_at st i) ≡ true) × (nat_lt l (length st.links) ≡ true) = and_true _ _ e in
    let at : occ v (option_to_list (link_at st l)) ≡ one (v == v) + 0 = ap (λ o. occ v (option_to_list o)) h in
    let same : one (v == v) ≡ 1 = grind arith in
    (subst (λ j. is_active (head_at st j) ≡ true) (eq_true i s own) t.0, omega (arith, get_or-le-sum_by (λ link. occ v (option_to_list link)) st.links l None (lt_true _ _ t.1)))

saw : (s v size : ℕ) (st : State) (event : Event) (d : State × Answer) → Step size st event d → is_link_event s event ≡ true → linked_value d.1 ≡ Some v → Sees s v st
saw s v size st event _ (Step.read i l e) own h = seen s v st i l e own h
saw s v size st event _ (Step.exchanged i l exchange new e fresh exact) own h = seen s v st i l e own h
saw s v size st event _ (Step.compared i l exchange e exact) own h = seen s v st i l e own h
saw s v size st event _ _ own h = absurd (cc)

-- the same, of the first moment
saw_first : (s v : ℕ) (t : Timed) (ts : List Timed) (st : State) → Found (run st (t ∷ ts)) s v zero → (is_link_event s t.event ≡ true) × Sees s v st
saw_first s v t ts st f = go (next t.size st t.event) refl f.1
  where
    m : Moment
    m = f.0

    go : (o : Outcome) → next t.size st t.event ≡ o → slice_get (from_first o st t ts) zero ≡ Some m → (is_link_event s t.event ≡ true) × Sees s v st
    go None e k = none_in zero m k
    go (Some d) e k =
        let m_is : moment_of st t d ≡ m = some_is _ _ k in
        let own : is_link_event s t.event ≡ true = ap (λ m. is_link_event s m.timed.event) m_is ∙ f.2 in
        let value : linked_value d.1 ≡ Some v = ap (λ m. linked_value m.answer) m_is ∙ f.3 in
        (own, saw s v t.size st t.event d (step_of t.size st t.event d e) own value)

-- what is gone is in no link
not_found : (s v e : ℕ) (ts : List Timed) (st : State) → Inv st → 1 ≤ occ v st.gone → Found (run st ts) s v e → ⊥
not_found s v e [] st i g f = none_in e f.0 f.1
not_found s v zero (t ∷ ts) st i g f = omega (arith, (saw_first s v t ts st f).1.1, (i.once v).once)
not_found s v (suc e) (t ∷ ts) st i g f =
    let w : (d : State × Answer) × (next t.size st t.event ≡ Some d) × (slice_get (run d.0 ts) e ≡ Some f.0) = later _ st t ts e f.0 f.1 in
    let step : Step t.size st t.event w.0 = step_of t.size st t.event w.0 w.1 in
    not_found s v e ts (w.0).0 (inv_step t.size st t.event w.0 step i) (omega (arith, gone_grows v t.size st t.event w.0 step)) (f.0, w.2, f.2, f.3)

not_retiring : (s v : ℕ) (st : State) (event : Event) → is_link_event s event ≡ true → retired_value st event ≡ Some v → ⊥
not_retiring s v st (Put i) own h = cc
not_retiring s v st _ own h = cc

not_parting : (s : ℕ) (event : Event) → is_link_event s event ≡ true → is_swap_out s event ≡ true → ⊥
not_parting s (SwapOut i) own h = cc
not_parting s _ own h = cc

-- what the law says of an event that found v and one that reclaimed it
abbrev Between : List Moment → ℕ → ℕ → ℕ → ℕ → Type 0
Between ms s v e c = ((q : ℕ) × (e < q) × (q < c) × Retired ms v q) × HasParted ms s e c

pub unretired : (v : ℕ) (st : State) → parts v st + in_links v st.links ≤ places v st
unretired v st = omega (arith, kept-le-slots v st.slots)

between_first : (s v c : ℕ) (t : Timed) (ts : List Timed) (st : State) → Inv st → Found (run st (t ∷ ts)) s v zero → Reclaimed (run st (t ∷ ts)) v c → Between (run st (t ∷ ts)) s v zero c
between_first s v c t ts st i f r =
    let k : (is_link_event s t.event ≡ true) × Sees s v st = saw_first s v t ts st f in
    let none : parts v st ≡ 0 = omega (arith, (i.once v).once, unretired v st, k.1.1) in
    let x : Story st (t ∷ ts) v c = after v c (t ∷ ts) st i none r in
    let y : (p : ℕ) × (p < c) × ((m : Moment) × (slice_get (run st (t ∷ ts)) p ≡ Some m) × (is_swap_out s m.timed.event ≡ true)) = keeps_until s v c (t ∷ ts) st i (keeps_new s v st none k.1.0) r in
    (retired k.0 x.0 x.1 x.2, parted k.0 y.0 y.1 y.2)
  where
    retired : is_link_event s t.event ≡ true → (q : ℕ) → q < c → Retired (run st (t ∷ ts)) v q → (q : ℕ) × (zero < q) × (q < c) × Retired (run st (t ∷ ts)) v q
    retired own zero le m =
        let P : Moment → Type 0 = λ m. retired_value m.before m.timed.event ≡ Some v → ⊥ in
        absurd (at_first P (next t.size st t.event) st t ts m.0 m.1 (λ d e h. not_retiring s v st t.event own h) m.2)
    retired own (suc q) le m = (suc q, omega arith, le, m)

    parted : is_link_event s t.event ≡ true → (p : ℕ) → p < c → (m : Moment) × (slice_get (run st (t ∷ ts)) p ≡ Some m) × (is_swap_out s m.timed.event ≡ true) → HasParted (run st (t ∷ ts)) s zero c
    parted own zero le m =
        let P : Moment → Type 0 = λ m. is_swap_out s m.timed.event ≡ true → ⊥ in
        absurd (at_first P (next t.size st t.event) st t ts m.0 m.1 (λ d e h. not_parting s t.event own h) m.2)
    parted own (suc p) le m = (suc p, omega arith, le, m)

between_later : (s v e c : ℕ) (t : Timed) (ts : List Timed) (st : State) (d : State × Answer) → next t.size st t.event ≡ Some d → Between (run d.0 ts) s v e c → Between (run st (t ∷ ts)) s v (suc e) (suc c)
between_later s v e c t ts st d legal b = (retired b.0, parted b.1)
  where
    retired : (q : ℕ) × (e < q) × (q < c) × Retired (run d.0 ts) v q → (q : ℕ) × (suc e < q) × (q < suc c) × Retired (run st (t ∷ ts)) v q
    retired r =
        let low : e < r.0 = r.1 in
        let high : r.0 < c = r.2 in
        (suc r.0, omega arith, omega arith, ((r.3).0, sooner _ d st t ts r.0 (r.3).0 legal (r.3).1, (r.3).2))

    parted : HasParted (run d.0 ts) s e c → HasParted (run st (t ∷ ts)) s (suc e) (suc c)
    parted p =
        let low : e < p.0 = p.1 in
        let high : p.0 < c = p.2 in
        (suc p.0, omega arith, omega arith, ((p.3).0, sooner _ d st t ts p.0 (p.3).0 legal (p.3).1, (p.3).2))

between : (s v e c : ℕ) (ts : List Timed) (st : State) → Inv st → Found (run st ts) s v e → Reclaimed (run st ts) v c → Between (run st ts) s v e c
between s v e c [] st i f r = none_in e f.0 f.1
between s v zero c (t ∷ ts) st i f r = between_first s v c t ts st i f r
between s v (suc e) zero (t ∷ ts) st i f r =
    let w : (d : State × Answer) × (next t.size st t.event ≡ Some d) × (slice_get (run d.0 ts) e ≡ Some f.0) = later _ st t ts e f.0 f.1 in
    absurd (not_found s v e ts (w.0).0 (inv_step t.size st t.event w.0 (step_of t.size st t.event w.0 w.1) i) (first_gone v t ts st r w.0 w.1) (f.0, w.2, f.2, f.3))
between s v (suc e) (suc c) (t ∷ ts) st i f r =
    let w : (d : State × Answer) × (next t.size st t.event ≡ Some d) × (slice_get (run d.0 ts) e ≡ Some f.0) = later _ st t ts e f.0 f.1 in
    between_later s v e c t ts st w.0 w.1 (between s v e c ts (w.0).0 (inv_step t.size st t.event w.0 (step_of t.size st t.event w.0 w.1) i) (f.0, w.2, f.2, f.3) (r.0, after_this st t ts w.0 c r.0 w.1 r.1, r.2))

pub law_protection : (slots : ℕ) (links : List (Option ℕ)) (ts : List Timed) → are_distinct (linked_values links) ≡ true → Protection (opening slots links) (run (opening slots links) ts)
law_protection slots links ts distinct s v e c f r = between s v e c ts (opening slots links) (opening_inv slots links distinct) f r
