-- The law of at most once: no value is reclaimed twice.
use Rattle.std.proofs.Common.{◌≡◌, ℕ, zero, suc, ◌≤◌, true, List, [], ◌∷◌, Option, Some, refl, sym, ◌∙◌, ap, arith}
use Rattle.std.specs.List.{slice_get}
use Rattle.seize_machine.specs.Machine.State.{State, linked_values, are_distinct, opening}
use Rattle.seize_machine.specs.Machine.Next.{next}
use Rattle.seize_machine.specs.Machine.History.{Timed, Moment, handed_value, Reclaimed}
use Rattle.seize_machine.specs.Machine.Laws.{AtMostOnce}
use Rattle.seize_machine.specs.declared.machine.event.Answer.{Answer}
use Rattle.seize_machine.proofs.Steps.Relation.{Step, step_of, some_is}
use Rattle.seize_machine.proofs.Counting.Sums.{occ}
use Rattle.seize_machine.proofs.Invariants.Always.{Inv, inv_step, handed_gone, gone_grows, opening_inv}
use Rattle.seize_machine.proofs.Lists.Histories.{run, moment_of, none_in, at_first, later, moment_here}

-- once gone, never handed again
stays_gone : (v c : ℕ) (ts : List Timed) (st : State) → Inv st → 1 ≤ occ v st.gone → Reclaimed (run st ts) v c → ⊥
stays_gone v c [] st i g r = none_in c r.0 r.1
stays_gone v zero (t ∷ ts) st i g r =
    let P : Moment → Type 0 = λ m. handed_value m.answer ≡ Some v → ⊥ in
    at_first P (next t.size st t.event) st t ts r.0 r.1
    (λ d e h.
    let step : Step t.size st t.event d = step_of t.size st t.event d e in
    let j : Inv d.0 = inv_step t.size st t.event d step i in
    omega (arith, handed_gone v t.size st t.event d step h, (j.once v).once))
    r.2
stays_gone v (suc c) (t ∷ ts) st i g r =
    let w : (d : State × Answer) × (next t.size st t.event ≡ Some d) × (slice_get (run d.0 ts) c ≡ Some r.0) = later _ st t ts c r.0 r.1 in
    let step : Step t.size st t.event w.0 = step_of t.size st t.event w.0 w.1 in
    stays_gone v c ts (w.0).0 (inv_step t.size st t.event w.0 step i) (omega (arith, gone_grows v t.size st t.event w.0 step)) (r.0, w.2, r.2)

pub first_gone : (v : ℕ) (t : Timed) (ts : List Timed) (st : State) → Reclaimed (run st (t ∷ ts)) v zero → (d : State × Answer) → next t.size st t.event ≡ Some d → 1 ≤ occ v (d.0).gone
first_gone v t ts st r d e =
    let P : Moment → Type 0 = λ m. handed_value m.answer ≡ Some v → 1 ≤ occ v m.after.gone in
    let m_is : moment_of st t d ≡ r.0 = moment_here st t ts d r.0 e r.1 in
    let h : handed_value d.1 ≡ Some v = ap (λ m. handed_value m.answer) m_is ∙ r.2 in
    omega (arith, handed_gone v t.size st t.event d (step_of t.size st t.event d e) h)

pub at_most_once : (ts : List Timed) (st : State) → Inv st → AtMostOnce st (run st ts)
at_most_once [] st i v c d r q = none_in c r.0 r.1
at_most_once (t ∷ ts) st i v zero zero r q = refl
at_most_once (t ∷ ts) st i v zero (suc d) r q =
    let w : (d : State × Answer) × (next t.size st t.event ≡ Some d) × _ = later _ st t ts d q.0 q.1 in
    absurd (stays_gone v d ts (w.0).0 (inv_step t.size st t.event w.0 (step_of t.size st t.event w.0 w.1) i) (first_gone v t ts st r w.0 w.1) (q.0, w.2, q.2))
at_most_once (t ∷ ts) st i v (suc c) zero r q =
    let w : (d : State × Answer) × (next t.size st t.event ≡ Some d) × _ = later _ st t ts c r.0 r.1 in
    absurd (stays_gone v c ts (w.0).0 (inv_step t.size st t.event w.0 (step_of t.size st t.event w.0 w.1) i) (first_gone v t ts st q w.0 w.1) (r.0, w.2, r.2))
at_most_once (t ∷ ts) st i v (suc c) (suc d) r q =
    let w : (d : State × Answer) × (next t.size st t.event ≡ Some d) × _ = later _ st t ts c r.0 r.1 in
    let u : (d : State × Answer) × (next t.size st t.event ≡ Some d) × _ = later _ st t ts d q.0 q.1 in
    let same : w.0 ≡ u.0 = some_is _ _ (sym w.1 ∙ u.1) in
    ap (λ n. suc n) (at_most_once ts (w.0).0 (inv_step t.size st t.event w.0 (step_of t.size st t.event w.0 w.1) i) v c d (r.0, w.2, r.2) (q.0, rw same u.2, q.2))

pub law_at_most_once : (slots : ℕ) (links : List (Option ℕ)) (ts : List Timed) → are_distinct (linked_values links) ≡ true → AtMostOnce (opening slots links) (run (opening slots links) ts)
law_at_most_once slots links ts distinct = at_most_once ts (opening slots links) (opening_inv slots links distinct)
