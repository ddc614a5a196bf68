-- The moments of a legal list of events, from its first event on.
use Rattle.std.proofs.Common.{◌≡◌, ◌≢◌, ℕ, zero, suc, Bool, true, false, ◌==◌, ◌&&◌, ◌||◌, List, [], ◌∷◌, Option, Some, None, refl, sym, ◌∙◌, ap, subst, arith}
use Rattle.std.specs.List.{slice_get, list_any}
use Rattle.seize_machine.specs.Machine.State.{State}
use Rattle.seize_machine.specs.Machine.Event.{Event, SwapOut}
use Rattle.seize_machine.specs.Machine.Next.{Outcome, next}
use Rattle.seize_machine.specs.Machine.History.{Timed, Moment, or_illegal, history, is_legal, are_legal, is_swap_out}
use Rattle.seize_machine.specs.declared.machine.event.Answer.{Answer}
use Rattle.seize_machine.proofs.Steps.Relation.{some_is, and_true}

-- the moments up to the first illegal event, which are all moments of a legal list
abbrev pub run : State → List Timed → List Moment
run st [] = []
run st (t ∷ ts) =
    elim (next t.size st t.event) [ None ↦ [] | Some done ↦ record { before = st; timed = t; answer = done.1; after = done.0 } ∷ run done.0 ts ]

abbrev pub moment_of : State → Timed → State × Answer → Moment
moment_of st t d = record { before = st; timed = t; answer = d.1; after = d.0 }

-- the history of an event and what comes after it, by the event's outcome
abbrev pub from_first : Outcome → State → Timed → List Timed → List Moment
from_first o st t ts = elim o [ None ↦ [] | Some done ↦ record { before = st; timed = t; answer = done.1; after = done.0 } ∷ run done.0 ts ]

pub run_is : (ts : List Timed) (st : State) → are_legal (history next st ts) ≡ true → history next st ts ≡ run st ts
run_is [] st h = refl
run_is (t ∷ ts) st h = go (next t.size st t.event) h (λ st. run_is ts st)
  where
    go : (o : Outcome) → (is_legal (or_illegal st o).1 && are_legal (history next (or_illegal st o).0 ts)) ≡ true
        → ((st : State) → are_legal (history next st ts) ≡ true → history next st ts ≡ run st ts)
        → moment_of st t (or_illegal st o) ∷ history next (or_illegal st o).0 ts ≡ from_first o st t ts
    go None h ih = absurd (cc)
    go (Some d) h ih = ap (λ (ms : List Moment). moment_of st t d ∷ ms) (ih d.0 (and_true _ _ h).1)

-- nothing stands in an empty history
pub none_in : {A : Type 0} (q : ℕ) (m : Moment) → slice_get {X = Moment} [] q ≡ Some m → A
none_in q m e = absurd (let k : Option.None ≡ Some m = e in cc)

-- what holds of the first event where it is legal holds of the first moment
pub at_first : (P : Moment → Type 0) (o : Outcome) (st : State) (t : Timed) (ts : List Timed) (m : Moment) → slice_get (from_first o st t ts) zero ≡ Some m → ((d : State × Answer) → o ≡ Some d → P (moment_of st t d)) → P m
at_first P None st t ts m e k = none_in zero m e
at_first P (Some d) st t ts m e k = subst P (some_is _ _ e) (k d refl)

-- a later moment is one of what comes after the first event
pub later : (o : Outcome) (st : State) (t : Timed) (ts : List Timed) (q : ℕ) (m : Moment) → slice_get (from_first o st t ts) (suc q) ≡ Some m → (d : State × Answer) × (o ≡ Some d) × (slice_get (run d.0 ts) q ≡ Some m)
later None st t ts q m e = none_in (suc q) m e
later (Some d) st t ts q m e = (d, refl, e)

pub sooner : (o : Outcome) (d : State × Answer) (st : State) (t : Timed) (ts : List Timed) (q : ℕ) (m : Moment) → o ≡ Some d → slice_get (run d.0 ts) q ≡ Some m → slice_get (from_first o st t ts) (suc q) ≡ Some m
sooner o d st t ts q m e h = rw e h

pub first_moment : (st : State) (t : Timed) (ts : List Timed) (d : State × Answer) → next t.size st t.event ≡ Some d → slice_get (run st (t ∷ ts)) zero ≡ Some (moment_of st t d)
first_moment st t ts d e = ap (λ o. slice_get (from_first o st t ts) zero) e

pub moment_here : (st : State) (t : Timed) (ts : List Timed) (d : State × Answer) (m : Moment) → next t.size st t.event ≡ Some d → slice_get (run st (t ∷ ts)) zero ≡ Some m → moment_of st t d ≡ m
moment_here st t ts d m e h = some_is _ _ (sym (first_moment st t ts d e) ∙ h)

-- a later moment, where the first event is known
pub after_this : (st : State) (t : Timed) (ts : List Timed) (d : State × Answer) (q : ℕ) (m : Moment) → next t.size st t.event ≡ Some d → slice_get (run st (t ∷ ts)) (suc q) ≡ Some m → slice_get (run d.0 ts) q ≡ Some m
after_this st t ts d q m e h = ap (λ o. slice_get (from_first o st t ts) (suc q)) (sym e) ∙ h

-- a moment that passes a test shows that one does
pub some_moment : (test : Moment → Bool) (ms : List Moment) (q : ℕ) (m : Moment) → slice_get ms q ≡ Some m → test m ≡ true → list_any test ms ≡ true
some_moment test [] q m e h = none_in q m e
some_moment test (n ∷ ms) zero m e h = (let same : n ≡ m = some_is _ _ e in rw same (rw h refl))
some_moment test (n ∷ ms) (suc q) m e h = either (test n) (some_moment test ms q m e h)
  where
    either : (b : Bool) → list_any test ms ≡ true → (b || list_any test ms) ≡ true
    either true k = refl
    either false k = k

pub not_out : (s : ℕ) (event : Event) → is_swap_out s event ≡ false → event ≢ SwapOut s
not_out s event h e = (let k : (s == s) ≡ false = ap (is_swap_out s) (sym e) ∙ h in grind arith)
