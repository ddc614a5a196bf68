-- The state at the end of a history: what it shows of its moments.
use Rattle.seize_machine.proofs.Invariants.Rested.{RestFits, rest_fits_step, Lasts, lasts_step, Off, off_step}
use Rattle.seize_machine.proofs.Invariants.Counts.{Free, free_step}
use Rattle.std.proofs.Common.{◌≡◌, ℕ, zero, suc, ◌+◌, ◌≤◌, max, Bool, true, false, not, ◌||◌, nat_lt, nat_le, List, [], ◌∷◌, get_or, replicate, Option, Some, None, refl, sym, ◌∙◌, ap, subst, ◌⊎◌, inl, inr, arith}
use Rattle.std.specs.Prelude.{if◌then◌else◌, ◌==◌, ◌++◌, option_to_list}
use Rattle.std.specs.List.{Contains, slice_get, list_all}
use Rattle.std.proofs.lemmas.List.{get_or-replicate, get_or_past, length-replicate}
use Rattle.seize_machine.specs.Machine.State.{no_slot, State, link_at, has, linked_values, opening}
use Rattle.seize_machine.specs.Machine.Event.{Event, Begin, ExchangeLink}
use Rattle.seize_machine.specs.Machine.Next.{Outcome, next}
use Rattle.seize_machine.specs.Machine.History.{Timed, Moment, end_of, named_by, WasNamed, retired_value, handed_value, Retired, Reclaimed}
use Rattle.seize_machine.specs.Machine.Laws.{fills, FillsWithin}
use Rattle.seize_machine.specs.declared.machine.event.Job.{Job}
use Rattle.seize_machine.specs.declared.machine.event.Job.TheVariants.{Retire, Flush, Leave, Refresh, Gather}
use Rattle.seize_machine.specs.declared.machine.event.Answer.{Answer}
use Rattle.seize_machine.specs.declared.machine.event.Answer.TheVariants.{Done, Link}
use Rattle.seize_machine.proofs.Steps.Relation.{Step, beginning, step_of, is_true, eq_true, lt_true, le_true, and_true, some_is}
use Rattle.seize_machine.proofs.Counting.Sums.{one, occ, occ-append, occ-push, has_some}
use Rattle.seize_machine.proofs.Counting.Occurrences.{contains_some, some_contained}
use Rattle.seize_machine.proofs.Invariants.Parts.{parts, parts_step, is_value}
use Rattle.seize_machine.proofs.Invariants.Fits.{Fits, fits_step}
use Rattle.seize_machine.proofs.Invariants.Always.{Inv, inv_step}
use Rattle.seize_machine.proofs.Lists.Histories.{run, moment_of, from_first, none_in}
use Rattle.seize_machine.proofs.Invariants.Parts.{value_once, value_is}

-- what each legal event keeps holds at the end
pub end_keeps : (P : State → Type 0) → ((size : ℕ) (st : State) (event : Event) (d : State × Answer) → Step size st event d → P st → P d.0)
    → (ts : List Timed) (st : State) → P st → P (end_of st (run st ts))
end_keeps P step [] st p = p
end_keeps P step (t ∷ ts) st p = go (next t.size st t.event) refl (λ st. end_keeps P step ts st)
  where
    go : (o : Outcome) → next t.size st t.event ≡ o → ((st : State) → P st → P (end_of st (run st ts))) → P (end_of st (from_first o st t ts))
    go None e ih = p
    go (Some d) e ih = ih d.0 (step t.size st t.event d (step_of t.size st t.event d e) p)

pub end_inv : (ts : List Timed) (st : State) → Inv st → Inv (end_of st (run st ts))
end_inv ts st i = end_keeps Inv inv_step ts st i

-- how long batches and the rest get
abbrev pub AllFits : ℕ → State → Type 0
AllFits k st = Fits k st × RestFits k st

pub end_fits : (k : ℕ) (ts : List Timed) (st : State) → FillsWithin k (run st ts) → AllFits (max 1 k) st → AllFits (max 1 k) (end_of st (run st ts))
end_fits k [] st small fits = fits
end_fits k (t ∷ ts) st small fits = go (next t.size st t.event) refl small (λ st. end_fits k ts st)
  where
    within : (fills : Bool) → (not fills || nat_le t.size k) ≡ true → fills ≡ true → t.size ≤ max 1 k
    within true h e = omega (arith, le_true _ _ h)
    within false h e = absurd (cc)

    go : (o : Outcome) → next t.size st t.event ≡ o → FillsWithin k (from_first o st t ts)
        → ((st : State) → FillsWithin k (run st ts) → AllFits (max 1 k) st → AllFits (max 1 k) (end_of st (run st ts))) → AllFits (max 1 k) (end_of st (from_first o st t ts))
    go None e small ih = fits
    go (Some d) e small ih =
        let w : ((not (fills st t.event) || nat_le t.size k) ≡ true) × (list_all (λ m. not (fills m.before m.timed.event) || nat_le m.timed.size k) (run d.0 ts) ≡ true) = and_true _ _ small in
        let step : Step t.size st t.event d = step_of t.size st t.event d e in
        ih d.0 w.1 (fits_step (max 1 k) t.size st t.event d step (omega arith) (within (fills st t.event) w.0) fits.0, rest_fits_step (max 1 k) t.size st t.event d step (omega arith) fits.0 fits.1)

pub end_lasts : (ts : List Timed) (st : State) → Lasts st → Lasts (end_of st (run st ts))
end_lasts ts st c = end_keeps Lasts lasts_step ts st c

pub end_off : (ts : List Timed) (st : State) → Inv st → Off st → Off (end_of st (run st ts))
end_off ts st i c = (end_keeps (λ st. Inv st × Off st) (λ size st event d step p. (inv_step size st event d step p.0, off_step size st event d p.0.sound.free step p.1)) ts st (i, c)).1

pub opening_fits : (size slots : ℕ) (links : List (Option ℕ)) → Fits (max 1 size) (opening slots links)
opening_fits size slots links t = rw (length-replicate slots no_slot) (rw (same (is_true (nat_lt t slots))) (omega arith))
  where
    same : ((nat_lt t slots) ≡ true) ⊎ ((nat_lt t slots) ≡ false) → get_or (replicate slots no_slot) t no_slot ≡ no_slot
    same (inl h) = get_or-replicate slots t no_slot no_slot (lt_true _ _ h)
    same (inr h) = let past : slots ≤ t = grind arith in get_or_past (replicate slots no_slot) t no_slot (omega (arith, length-replicate slots no_slot))

-- a number that each event raises by one if it brings v, and else leaves
abbrev pub Grows : ℕ → (State → ℕ) → (Moment → Option ℕ) → Type 0
Grows v f value = (st : State) (t : Timed) (d : State × Answer) → Free st → next t.size st t.event ≡ Some d → f d.0 ≡ f st + is_value v (value (moment_of st t d))

freed : (st : State) (t : Timed) (d : State × Answer) → Free st → next t.size st t.event ≡ Some d → Free d.0
freed st t d free e = free_step t.size st t.event d (step_of t.size st t.event d e) free

-- event q brings v
abbrev pub Brings : (Moment → Option ℕ) → List Moment → ℕ → ℕ → Type 0
Brings value ms v q = (m : Moment) × (slice_get ms q ≡ Some m) × (value m ≡ Some v)

never_less : (v : ℕ) (f : State → ℕ) (value : Moment → Option ℕ) → Grows v f value → (ts : List Timed) (st : State) → Free st → f st ≤ f (end_of st (run st ts))
never_less v f value grows [] st free = omega arith
never_less v f value grows (t ∷ ts) st free = go (next t.size st t.event) refl (λ st. never_less v f value grows ts st)
  where
    go : (o : Outcome) → next t.size st t.event ≡ o → ((st : State) → Free st → f st ≤ f (end_of st (run st ts))) → f st ≤ f (end_of st (from_first o st t ts))
    go None e ih = omega arith
    go (Some d) e ih = omega (arith, ih d.0 (freed st t d free e), grows st t d free e)

-- the number counts the events that brought v
brought_if : (v : ℕ) (f : State → ℕ) (value : Moment → Option ℕ) → Grows v f value → (ts : List Timed) (st : State) → Free st → f st ≡ 0 → 1 ≤ f (end_of st (run st ts)) → (q : ℕ) × Brings value (run st ts) v q
brought_if v f value grows [] st free none some = absurd (omega arith)
brought_if v f value grows (t ∷ ts) st free none some = go (next t.size st t.event) refl some (λ st. brought_if v f value grows ts st)
  where
    go : (o : Outcome) → next t.size st t.event ≡ o → 1 ≤ f (end_of st (from_first o st t ts))
        → ((st : State) → Free st → f st ≡ 0 → 1 ≤ f (end_of st (run st ts)) → (q : ℕ) × Brings value (run st ts) v q) → (q : ℕ) × Brings value (from_first o st t ts) v q
    go None e some ih = absurd (omega arith)
    go (Some d) e some ih = here (value_once v (value (moment_of st t d)))
      where
        here : (value (moment_of st t d) ≡ Some v) ⊎ (is_value v (value (moment_of st t d)) ≡ 0) → (q : ℕ) × Brings value (from_first (Some d) st t ts) v q
        here (inl brings) = (zero, (moment_of st t d, refl, brings))
        here (inr other) =
            let r : (q : ℕ) × Brings value (run d.0 ts) v q = ih d.0 (freed st t d free e) (omega (arith, grows st t d free e)) some in
            (suc r.0, r.1)

if_brought : (v : ℕ) (f : State → ℕ) (value : Moment → Option ℕ) → Grows v f value → (q : ℕ) (ts : List Timed) (st : State) → Free st → Brings value (run st ts) v q → 1 ≤ f (end_of st (run st ts))
if_brought v f value grows q [] st free b = none_in q b.0 b.1
if_brought v f value grows q (t ∷ ts) st free b = go (next t.size st t.event) refl b (λ q st. if_brought v f value grows q ts st)
  where
    go : (o : Outcome) → next t.size st t.event ≡ o → Brings value (from_first o st t ts) v q
        → ((q : ℕ) (st : State) → Free st → Brings value (run st ts) v q → 1 ≤ f (end_of st (run st ts))) → 1 ≤ f (end_of st (from_first o st t ts))
    go None e b ih = none_in q b.0 b.1
    go (Some d) e b ih = at q b
      where
        at : (q : ℕ) → Brings value (from_first (Some d) st t ts) v q → 1 ≤ f (end_of d.0 (run d.0 ts))
        at zero b =
            let m_is : moment_of st t d ≡ b.0 = some_is _ _ b.1 in
            let brings : value (moment_of st t d) ≡ Some v = ap value m_is ∙ b.2 in
            omega (arith, never_less v f value grows ts d.0 (freed st t d free e), grows st t d free e, value_is v _ brings)
        at (suc q) b = ih q d.0 (freed st t d free e) b

gone_step : (v size : ℕ) (st : State) (event : Event) (d : State × Answer) → Step size st event d → occ v (d.0).gone ≡ occ v st.gone + is_value v (handed_value d.1)
gone_step v size st event _ (Step.handed s w puts given_on walk queue e new) = omega (arith, occ-push v st.gone w)
gone_step v size st event _ (Step.added s a won queue d e k) = subst (λ d. occ v (d.0).gone ≡ occ v st.gone + is_value v (handed_value d.1)) (some_is _ _ k) (omega arith)
gone_step v size st event _ (Step.subtracted s a walk queue d e k) = subst (λ d. occ v (d.0).gone ≡ occ v st.gone + is_value v (handed_value d.1)) (some_is _ _ k) (omega arith)
gone_step v size st event _ _ = omega arith

parts_grow : (v : ℕ) → Grows v (parts v) (λ m. retired_value m.before m.timed.event)
parts_grow v st t d free e = parts_step v t.size st t.event d free (step_of t.size st t.event d e)

gone_grow : (v : ℕ) → Grows v (λ st. occ v st.gone) (λ m. handed_value m.answer)
gone_grow v st t d free e = gone_step v t.size st t.event d (step_of t.size st t.event d e)

pub retired_if : (v : ℕ) (ts : List Timed) (st : State) → Free st → parts v st ≡ 0 → 1 ≤ parts v (end_of st (run st ts)) → (q : ℕ) × Retired (run st ts) v q
retired_if v = brought_if v (parts v) (λ m. retired_value m.before m.timed.event) (parts_grow v)

pub if_retired : (v q : ℕ) (ts : List Timed) (st : State) → Free st → Retired (run st ts) v q → 1 ≤ parts v (end_of st (run st ts))
if_retired v = if_brought v (parts v) (λ m. retired_value m.before m.timed.event) (parts_grow v)

pub reclaimed_if : (v : ℕ) (ts : List Timed) (st : State) → Free st → occ v st.gone ≡ 0 → 1 ≤ occ v (end_of st (run st ts)).gone → (c : ℕ) × Reclaimed (run st ts) v c
reclaimed_if v = brought_if v (λ st. occ v st.gone) (λ m. handed_value m.answer) (gone_grow v)

-- after an event these are named, as is all that was, and nothing else
abbrev AddsNames : ℕ → State → List ℕ → State → Type 0
AddsNames v st new later = (occ v st.named ≤ occ v later.named) × (occ v new ≤ occ v later.named) × (occ v later.named ≤ occ v st.named + occ v new)

named_step : (v size : ℕ) (st : State) (event : Event) (d : State × Answer) → Step size st event d → AddsNames v st (named_by event d.1) d.0
named_step v size st event _ (Step.begun_retire s w e new) = go (has w st.named) refl
  where
    go : (b : Bool) → has w st.named ≡ b → AddsNames v st (w ∷ []) (record st { named = if b then st.named else st.named ++ w ∷ [] })
    go true h = (omega arith, known (is_true (w == v)), omega arith)
      where
        known : ((w == v) ≡ true) ⊎ ((w == v) ≡ false) → one (w == v) + 0 ≤ occ v st.named
        known (inl t) =
            let own : one (w == v) ≡ 1 = ap one t in
            let k : 1 ≤ occ v st.named = subst (λ k. 1 ≤ occ k st.named) (eq_true w v t) (has_some w st.named h) in
            omega arith
        known (inr t) = let own : one (w == v) ≡ 0 = ap one t in omega arith
    go false h = let more : _ ≡ _ = occ-push v st.named w in (omega arith, omega arith, omega arith)
named_step v size st event _ (Step.begun_other s job place e which exact) = rw (none job exact.1) (omega arith, omega arith, omega arith)
  where
    none : (job : Job) → beginning st s job ≡ Some place → named_by (Begin s job) Done ≡ []
    none (Retire w) h = absurd (cc)
    none Flush h = refl
    none Leave h = refl
    none Refresh h = refl
    none Gather h = refl
named_step v size st event _ (Step.handed s w puts given_on walk queue e new) =
    let more : _ ≡ _ = occ-append v st.named puts in (omega arith, omega arith, omega arith)
named_step v size st event _ (Step.exchanged s l exchange new e fresh exact) =
    let same : named_by (ExchangeLink s l exchange) (Link (link_at st l)) ≡ option_to_list new = rw exact.1 (ap option_to_list (sym exact.0)) in
    let more : _ ≡ _ = occ-append v st.named (option_to_list new) in
    rw same (omega arith, omega arith, omega arith)
named_step v size st event _ (Step.compared s l exchange e exact) =
    let same : named_by (ExchangeLink s l exchange) (Link (link_at st l)) ≡ [] = rw exact.1 refl in
    rw same (omega arith, omega arith, omega arith)
named_step v size st event _ (Step.added s a won queue d e k) = subst (λ d. AddsNames v st [] d.0) (some_is _ _ k) (omega arith, omega arith, omega arith)
named_step v size st event _ (Step.subtracted s a walk queue d e k) = subst (λ d. AddsNames v st [] d.0) (some_is _ _ k) (omega arith, omega arith, omega arith)
named_step v size st event _ _ = (omega arith, omega arith, omega arith)

-- v was named at first, or an event named it: just then it is named at the end
abbrev NamedIn : ℕ → State → List Moment → Type 0
NamedIn v st ms = (1 ≤ occ v st.named) ⊎ ((e : ℕ) × (m : Moment) × (slice_get ms e ≡ Some m) × Contains (named_by m.timed.event m.answer) v)

if_in : (v : ℕ) (ts : List Timed) (st : State) → NamedIn v st (run st ts) → 1 ≤ occ v (end_of st (run st ts)).named
if_in v [] st (inl n) = n
if_in v [] st (inr n) = none_in n.0 n.1 n.2
if_in v (t ∷ ts) st n = go (next t.size st t.event) refl n (λ st. if_in v ts st)
  where
    go : (o : Outcome) → next t.size st t.event ≡ o → NamedIn v st (from_first o st t ts)
        → ((st : State) → NamedIn v st (run st ts) → 1 ≤ occ v (end_of st (run st ts)).named) → 1 ≤ occ v (end_of st (from_first o st t ts)).named
    go None e (inl n) ih = n
    go None e (inr n) ih = none_in n.0 n.1 n.2
    go (Some d) e n ih = ih d.0 (at n)
      where
        step : AddsNames v st (named_by t.event d.1) d.0
        step = named_step v t.size st t.event d (step_of t.size st t.event d e)

        at : NamedIn v st (from_first (Some d) st t ts) → NamedIn v d.0 (run d.0 ts)
        at (inl n) = inl (omega (arith, step.0))
        at (inr (zero, m, here, names)) =
            let m_is : moment_of st t d ≡ m = some_is _ _ here in
            inl (omega (arith, step.1, some_contained v (named_by t.event d.1) (subst (λ (m : Moment). Contains (named_by m.timed.event m.answer) v) (sym m_is) names)))
        at (inr (suc q, m, here, names)) = inr (q, m, here, names)

in_if : (v : ℕ) (ts : List Timed) (st : State) → 1 ≤ occ v (end_of st (run st ts)).named → NamedIn v st (run st ts)
in_if v [] st n = inl n
in_if v (t ∷ ts) st n = go (next t.size st t.event) refl n (λ st. in_if v ts st)
  where
    go : (o : Outcome) → next t.size st t.event ≡ o → 1 ≤ occ v (end_of st (from_first o st t ts)).named
        → ((st : State) → 1 ≤ occ v (end_of st (run st ts)).named → NamedIn v st (run st ts)) → NamedIn v st (from_first o st t ts)
    go None e n ih = inl n
    go (Some d) e n ih = at (ih d.0 n)
      where
        step : AddsNames v st (named_by t.event d.1) d.0
        step = named_step v t.size st t.event d (step_of t.size st t.event d e)

        first : (b : Bool) → nat_lt 0 (occ v st.named) ≡ b → 1 ≤ occ v (d.0).named → NamedIn v st (from_first (Some d) st t ts)
        first true h n = inl (grind arith)
        first false h n =
            let none : occ v st.named ≡ 0 = grind arith in
            inr (zero, moment_of st t d, refl, contains_some v (named_by t.event d.1) (omega (arith, step.2)))

        at : NamedIn v d.0 (run d.0 ts) → NamedIn v st (from_first (Some d) st t ts)
        at (inl n) = first (nat_lt 0 (occ v st.named)) refl n
        at (inr n) = inr (suc n.0, n.1, n.2, n.3)

pub named_if : (v : ℕ) (ts : List Timed) (slots : ℕ) (links : List (Option ℕ)) → 1 ≤ occ v (end_of (opening slots links) (run (opening slots links) ts)).named → WasNamed (opening slots links) (run (opening slots links) ts) v
named_if v ts slots links n = at (in_if v ts (opening slots links) n)
  where
    at : NamedIn v (opening slots links) (run (opening slots links) ts) → WasNamed (opening slots links) (run (opening slots links) ts) v
    at (inl h) = inl (contains_some v (linked_values links) h)
    at (inr h) = inr h

pub if_named : (v : ℕ) (ts : List Timed) (slots : ℕ) (links : List (Option ℕ)) → WasNamed (opening slots links) (run (opening slots links) ts) v → 1 ≤ occ v (end_of (opening slots links) (run (opening slots links) ts)).named
if_named v ts slots links (inl h) = if_in v ts (opening slots links) (inl (some_contained v (linked_values links) h))
if_named v ts slots links (inr h) = if_in v ts (opening slots links) (inr h)
