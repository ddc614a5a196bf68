-- A value whose retirement a pass made is retired among the moments that it has seen, since the call returned: between its begin and its
-- return the slot can only put it into its batch.
use Rattle.std.proofs.Common.{◌≡◌, ℕ, zero, suc, ◌<◌, ◌≤◌, Bool, true, false, cond, ◌==◌, ◌⊎◌, List, [], ◌∷◌, ◌++◌, filter, length, map, Option, None, Some, inl, inr, refl, sym, ap, subst, ◌∙◌}
use Rattle.std.proofs.lemmas.List.{get_or-set_same, get_or_past}
use Rattle.std.proofs.lemmas.Bool.{cases_lt, false≢true}
use Rattle.seize_machine.specs.Machine.Event.{Event, Take, Give, Enter, Begin, Put, ReadHead, Detach, Insert, AddCount, SwapOut, SubCount, Hand, Return, ReadLink, ExchangeLink, event_slot}
use Rattle.seize_machine.specs.Machine.Frames.{changes_slot}
use Rattle.seize_machine.specs.Machine.History.{Moment, Retired, Timed, and_then, are_legal, call_value, is_legal, is_link_event, or_illegal, retired_value}
use Rattle.seize_machine.specs.Machine.Next.{Outcome, begun_at, next}
use Rattle.seize_machine.specs.Machine.State.{Append, Slot, State, is_idle, no_slot, slot_at}
use Rattle.seize_machine.specs.declared.machine.event.Answer.{Answer}
use Rattle.seize_machine.specs.declared.machine.event.Answer.TheVariants.{Done}
use Rattle.seize_machine.specs.declared.machine.event.Job.{Job}
use Rattle.seize_machine.specs.declared.machine.event.Job.TheVariants.{Retire}
use Rattle.seize_machine.proofs.Facts.{Stands, Step, and_true, eq_true, forced, slot_frame, step_of}
use Rattle.seize_book.specs.Book.{IsLegalList, moments, with_answers}
use Rattle.seize_book.specs.Entry.{Deed, Entry, Made, Use, Used, maker, timed_deed}
use Rattle.seize_book.specs.Passes.{events_in}
use Rattle.seize_book.specs.Tokens.{start}
use Rattle.seize_book.proofs.Facts.{equal}
use Rattle.seize_book.specs.declared.book.pass.Pass.{Pass}
use Rattle.seize_parts.specs.Laws.{moments_seen}
use Rattle.seize_parts.specs.Makes.{Defers, MakesCall, MakesNone, WasMade, made_with}
use Rattle.seize_parts.proofs.Made.{as_made, then_none, undivided_then}
use Rattle.seize_parts.proofs.Stands.{made_after, picked, rest_of}

-- Events one by one.

-- a legal event does something, and what follows is legal
legal_first : (st : State) (t : Timed) (o : Outcome) (rest : State → List Moment) → are_legal (and_then st t (or_illegal st o) rest) ≡ true
    → (o ≡ Some (or_illegal st o)) × (are_legal (rest (or_illegal st o).0) ≡ true)
legal_first st t None rest legal = absurd (false≢true legal)
legal_first st t (Some done) rest legal = (refl, (and_true (is_legal done.1) (are_legal (rest done.0)) legal).1)

-- an event that changes a slot's record is one of that slot's, and is on no link
of_slot : (s : ℕ) (e : Event) → changes_slot s e ≡ true → (event_slot e ≡ s) × (is_link_event s e ≡ false)
of_slot s (Take i) h = (eq_true i s h, refl)
of_slot s (Give i) h = (eq_true i s h, refl)
of_slot s (Enter i) h = (eq_true i s h, refl)
of_slot s (Begin i job) h = (eq_true i s h, refl)
of_slot s (Put i) h = (eq_true i s h, refl)
of_slot s (ReadHead i n) h = (eq_true i s h, refl)
of_slot s (Detach i) h = (eq_true i s h, refl)
of_slot s (Insert i n ends) h = (eq_true i s h, refl)
of_slot s (AddCount i) h = (eq_true i s h, refl)
of_slot s (SwapOut i) h = (eq_true i s h, refl)
of_slot s (SubCount i) h = (eq_true i s h, refl)
of_slot s (Hand i puts) h = (eq_true i s h, refl)
of_slot s (Return i) h = (eq_true i s h, refl)
of_slot s (ReadLink i l) h = absurd (false≢true h)
of_slot s (ExchangeLink i l exchange) h = absurd (false≢true h)

-- slot s is about to put v into its batch
abbrev Appends : State → ℕ → ℕ → Type 0
Appends st s v = ((slot_at st s).used ≡ true) × Stands st s (Append v) []

there : (st : State) (s : ℕ) → is_idle (slot_at st s) ≡ true → s < length st.slots
there st s idle = go (cases_lt s (length st.slots))
  where
    go : (s < length st.slots) ⊎ (length st.slots ≤ s) → s < length st.slots
    go (inl less) = less
    go (inr past) = absurd (let none : is_idle no_slot ≡ true = sym (ap is_idle (get_or_past st.slots s no_slot past)) ∙ idle in cc)

-- a retirement begins
begins : (size : ℕ) (st : State) (s v : ℕ) (d : State × Answer) → Step size st (Begin s (Retire v)) d → Appends d.0 s v
begins size st _ _ _ (Step.begun_retire s v idle may) =
    let same = get_or-set_same st.slots s (begun_at (slot_at st s) (Append v)) no_slot (there st s idle) in
    (ap (λ (z : Slot). z.used) same ∙ (and_true (slot_at st s).used _ idle).0, ap (λ (z : Slot). z.call) same)
begins size st _ _ _ (Step.begun_other s (Retire v) place idle which may) = absurd (let none : Option.None ≡ Some place = may.1 in cc)

-- what a slot does then is that it puts the value
puts : (size : ℕ) (st : State) (s v : ℕ) (e : Event) (d : State × Answer) → Step size st e d → Appends st s v → changes_slot s e ≡ true → retired_value st e ≡ Some v
puts size st s v e d step about changes =
    let of = of_slot s e changes in let is = forced size st s (Append v) [] e d step of.0 of.1 about.0 about.1 in
    ap (retired_value st) is ∙ ap call_value about.1

-- and else it stays so
stays : (size : ℕ) (st : State) (s v : ℕ) (e : Event) (d : State × Answer) → Step size st e d → Appends st s v → changes_slot s e ≡ false → Appends d.0 s v
stays size st s v e d step about changes =
    let same = slot_frame s size st e d step changes in (ap (λ (z : Slot). z.used) same ∙ about.0, ap (λ (z : Slot). z.call) same ∙ about.1)

-- Lists.

abbrev IsRetiredIn : State → List Entry → ℕ → Type 0
IsRetiredIn st log v = (q : ℕ) × Retired (moments st log) v q

abbrev later : State → Deed → State
later st d = (or_illegal st (next d.size st d.event)).0

one_on : (st : State) (d : Deed) (log : List Entry) (v : ℕ) → IsRetiredIn (later st d) log v → IsRetiredIn st (Made d ∷ log) v
one_on st d log v there = (suc there.0, there.1)

legal_made : (st : State) (d : Deed) (log : List Entry) → IsLegalList st (Made d ∷ log) → Step d.size st d.event (or_illegal st (next d.size st d.event)) × IsLegalList (later st d) log
legal_made st d log legal = let first = legal_first st (timed_deed d) (next d.size st d.event) (λ s. moments s log) legal in (step_of d.size st d.event (or_illegal st (next d.size st d.event)) first.0, first.1)

abbrev first_or : {A : Type 0} → A → List A → A
first_or x [] = x
first_or x (y ∷ ys) = y

-- where the slot is about to put the value, and the list has a return of its call, the value is retired
until_first : (st : State) (d : Deed) (log : List Entry) (s v : ℕ) → IsLegalList st (Made d ∷ log) → Appends st s v → (b : Bool) → changes_slot s d.event ≡ b
    → (Appends (later st d) s v → WasMade (Return s, Done) (map as_made (events_in (with_answers (later st d) log))) → IsRetiredIn (later st d) log v)
    → WasMade (Return s, Done) (map as_made (events_in (with_answers st (Made d ∷ log)))) → IsRetiredIn st (Made d ∷ log) v
until_first st d log s v legal about true changes on made = (zero, (_, refl, puts d.size st s v d.event _ (legal_made st d log legal).0 about changes))
until_first st d log s v legal about false changes on (inl same) = absurd (false≢true (sym changes ∙ ap (λ (x : Event × Answer). changes_slot s x.0) same ∙ equal s s refl))
until_first st d log s v legal about false changes on (inr more) = one_on st d log v (on (stays d.size st s v d.event _ (legal_made st d log legal).0 about changes) more)

until_return : (st : State) (log : List Entry) (s v : ℕ) → IsLegalList st log → Appends st s v → WasMade (Return s, Done) (map as_made (events_in (with_answers st log))) → IsRetiredIn st log v
until_return st [] s v legal about made = absurd made
until_return st (Used u ∷ log) s v legal about made = until_return st log s v legal about made
until_return st (Made d ∷ log) s v legal about made =
    until_first st d log s v legal about (changes_slot s d.event) refl (λ still more. until_return (later st d) log s v (legal_made st d log legal).1 still more) made

-- where what is picked from the list has the begin of a retirement, and a return after it
abbrev Ends : (Entry × Answer → Bool) → State → List Entry → ℕ → ℕ → List (Event × Answer) → List (Event × Answer) → Type 0
Ends test st log s v before after = map as_made (events_in (filter test (with_answers st log))) ≡ before ++ (Begin s (Retire v), Done) ∷ after

from_begin : (test : Entry × Answer → Bool) (st : State) (d : Deed) (log : List Entry) (s v : ℕ) → IsLegalList st (Made d ∷ log) → (after : List (Event × Answer)) → WasMade (Return s, Done) after
    → ((before : List (Event × Answer)) → Ends test (later st d) log s v before after → IsRetiredIn (later st d) log v)
    → (b : Bool) (before : List (Event × Answer))
    → map as_made (events_in (cond b ((Made d, (or_illegal st (next d.size st d.event)).1) ∷ filter test (with_answers (later st d) log)) (filter test (with_answers (later st d) log)))) ≡ before ++ (Begin s (Retire v), Done) ∷ after
    → IsRetiredIn st (Made d ∷ log) v
from_begin test st d log s v legal after made on false before is = one_on st d log v (on before is)
from_begin test st d log s v legal after made on true (x ∷ before) is = one_on st d log v (on before (ap rest_of is))
from_begin test st d log s v legal after made on true [] is =
    let done = or_illegal st (next d.size st d.event) in let first = legal_made st d log legal in
    let begun : Step d.size st (Begin s (Retire v)) done = subst (λ (e : Event). Step d.size st e done) (ap (λ (xs : List (Event × Answer)). (first_or (Begin s (Retire v), Done) xs).0) is) first.0 in
    one_on st d log v (until_return (later st d) log s v first.1 (begins d.size st s v done begun)
    (picked test (with_answers (later st d) log) (Return s, Done) (subst (WasMade (Return s, Done)) (sym (ap rest_of is)) made)))

unused : (b : Bool) (e : Use × Answer) (es : List (Entry × Answer)) (xs : List (Event × Answer)) → map as_made (events_in (cond b ((Used e.0, e.1) ∷ es) es)) ≡ xs → map as_made (events_in es) ≡ xs
unused true e es xs is = is
unused false e es xs is = is

begun_and_returned : (test : Entry × Answer → Bool) (st : State) (log : List Entry) (s v : ℕ) → IsLegalList st log → (before after : List (Event × Answer))
    → Ends test st log s v before after → WasMade (Return s, Done) after → IsRetiredIn st log v
begun_and_returned test st [] s v legal [] after is made = absurd (cc)
begun_and_returned test st [] s v legal (x ∷ before) after is made = absurd (cc)
begun_and_returned test st (Used u ∷ log) s v legal before after is made =
    begun_and_returned test st log s v legal before after (unused (test (Used u, Done)) (u, Done) (filter test (with_answers st log)) (before ++ (Begin s (Retire v), Done) ∷ after) is) made
begun_and_returned test st (Made d ∷ log) s v legal before after is made =
    from_begin test st d log s v legal after made (λ sooner so. begun_and_returned test (later st d) log s v (legal_made st d log legal).1 sooner after so made)
    (test (Made d, (or_illegal st (next d.size st d.event)).1)) before is

-- **A retirement that returned has retired its value.**
pub retired_by : {IsPut : Pass → ℕ → List ℕ → Type 0} (s v : ℕ) {pass pass' : Pass} → MakesCall IsPut s (Retire v) pass pass' → (q : ℕ) × Retired (moments_seen pass') v q
retired_by {IsPut} s v {pass} {pass'} call =
    begun_and_returned (λ a. maker a.0 == pass'.id) (start pass'.name) pass'.seen s v call.made.legal (made_with pass) (call.steps ++ (Return s, Done) ∷ []) call.made.made
    (made_after (Return s, Done) call.steps ((Return s, Done) ∷ []) (inl refl))

-- and a call that hands nothing stays made, while the pass sees more
pub call_still : {s : ℕ} {job : Job} {p q r : Pass} → Defers s job p q → MakesNone q r → Defers s job p r
call_still {s} {job} {p} {q} {r} call none = record { steps = call.steps; its = call.its; made = then_none call.made none; undivided = undivided_then call.undivided none }
