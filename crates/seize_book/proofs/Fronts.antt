-- A batch that is held has the values that it was detached with. The first of them, its front, tells where its count stands.
use Rattle.std.proofs.Common.{◌≡◌, ℕ, ◌<◌, ◌≤◌, List, [], ◌∷◌, ◌++◌, length, get_or, Option, Some, refl, sym, ◌∙◌, ap, subst, ◌⊎◌, inl, inr, arith, append_assoc, append-nil, true, pos}
use Rattle.std.specs.Prelude.{slice_index_or}
use Rattle.std.specs.List.{Contains}
use Rattle.std.proofs.lemmas.List.{get_or_past, get_or_append_left, get_or_push, length_push, length-append}
use Rattle.std.proofs.lemmas.Bool.{cases_lt}
use mathlib.Core.List.{IsPrefix}
use native.Mathlib.Decide.{ℕ_discrete}
use Rattle.seize_machine.specs.Machine.State.{State, Batch, Rest, Add, no_batch, slot_at, batch_at, linked_values, are_distinct}
use Rattle.seize_machine.specs.Machine.Event.{Event}
use Rattle.seize_machine.specs.Machine.Next.{next}
use Rattle.seize_machine.specs.Machine.History.{done_by, first_or_none}
use Rattle.seize_machine.specs.Machine.Laws.{IsHeld, walk_of, detached_by}
use Rattle.seize_machine.specs.declared.machine.event.Answer.{Answer}
use Rattle.seize_machine.proofs.Facts.{Step, Stands, step_of, batches_length, values_kept, held_full}
use Rattle.seize_book.specs.Blocks.{Plan, no_plan, plan_of, planned_by, plans, front_of}
use Rattle.seize_book.specs.Book.{after, IsLegalList}
use Rattle.seize_book.specs.Entry.{Entry, Made, Used, timed_deed}
use Rattle.seize_book.specs.Homes.{home_of, is_home, is_in}
use Rattle.seize_book.specs.Tokens.{Name, start}
use Rattle.seize_book.proofs.Lists.{reached_after, equal}
use Rattle.seize_book.proofs.Lives.{legal_first}
use Rattle.seize_book.proofs.Plans.{planned_many, plan_stays}

-- Each batch has the values of its plan, until it is given up: then it has none.

abbrev AsPlanned : State → List Plan → ℕ → Type 0
AsPlanned st ps b = ((batch_at st b).values ≡ (get_or ps b no_plan).values) ⊎ ((batch_at st b).values ≡ [])

record Planned (st : State) (ps : List Plan) : Type 0 where
  pub many : length ps ≡ length st.batches
  pub each : (b : ℕ) → AsPlanned st ps b

past_none : (batches : List Batch) (b : ℕ) → length batches ≤ b → (get_or batches b no_batch).values ≡ []
past_none batches b le = ap (λ (batch : Batch). batch.values) (get_or_past batches b no_batch le)

planned_step : (size : ℕ) (st : State) (event : Event) (d : State × Answer) (ps : List Plan) → Step size st event d → Planned st ps → Planned d.0 (ps ++ planned_by st event)
planned_step size st event d ps step old =
    let same = length-append ps (planned_by st event) in
    let added = planned_many st event in
    let more = batches_length size st event d step in
    record { many = omega (arith, old.many, same, added, more); each = λ b. each b (cases_lt b (length st.batches)) }
  where
    -- a batch that was there
    goes_on : (b : ℕ) → b < length st.batches → AsPlanned st ps b → ((batch_at d.0 b).values ≡ (batch_at st b).values) ⊎ ((batch_at d.0 b).values ≡ []) → AsPlanned d.0 (ps ++ planned_by st event) b
    goes_on b there was (inr none) = inr none
    goes_on b there (inr none) (inl same) = inr (same ∙ none)
    goes_on b there (inl was) (inl same) = inl (same ∙ was ∙ ap (λ (p : Plan). p.values) (sym (get_or_append_left ps (planned_by st event) no_plan b (omega (arith, there, old.many)))))

    -- one that the event adds, or none
    comes : (event : Event) (d : State × Answer) → Step size st event d → (b : ℕ) → length st.batches ≤ b → AsPlanned d.0 (ps ++ planned_by st event) b
    comes event _ (Step.detached s next note marks queue e le) b past = go (ℕ_discrete (length st.batches) b)
      where
        new : Batch
        new = record { values = (slot_at st s).batch; count = pos 0 }

        go : Dec (length st.batches ≡ b) → ((get_or (st.batches ++ new ∷ []) b no_batch).values ≡ (get_or (ps ++ plan_of (slot_at st s) ∷ []) b no_plan).values) ⊎ ((get_or (st.batches ++ new ∷ []) b no_batch).values ≡ [])
        go (yes is) = inl (ap (λ (batch : Batch). batch.values) (get_or_push st.batches new no_batch b is) ∙ ap (λ (p : Plan). p.values) (sym (get_or_push ps (plan_of (slot_at st s)) no_plan b (old.many ∙ is))))
        go (no other) = inr (past_none (st.batches ++ new ∷ []) b (omega (arith, other, past, length_push st.batches new)))
    comes event d step b past = inr (past_none d.0.batches b (omega (arith, past, batches_length size st event d step)))

    each : (b : ℕ) → (b < length st.batches) ⊎ (length st.batches ≤ b) → AsPlanned d.0 (ps ++ planned_by st event) b
    each b (inl there) = goes_on b there (old.each b) (values_kept b size st event d step there)
    each b (inr past) = comes event d step b past

planned_after : (st : State) (log : List Entry) (ps : List Plan) → IsLegalList st log → Planned st ps → Planned (after st log) (ps ++ plans st log)
planned_after st [] ps l old = subst (Planned st) (sym (append-nil ps)) old
planned_after st (Used u ∷ log) ps l old = planned_after st log ps l old
planned_after st (Made e ∷ log) ps l old =
    let w = legal_first st e log l in
    let now = (done_by next st (timed_deed e)).0 in
    let stepped : Planned now (ps ++ planned_by st e.event) = subst (λ (d : State × Answer). Planned d.0 (ps ++ planned_by st e.event)) (sym w.2) (planned_step e.size st e.event w.0 ps (step_of e.size st e.event w.0 w.1) old) in
    subst (Planned (after now log)) (append_assoc ps (planned_by st e.event) (plans now log)) (planned_after now log (ps ++ planned_by st e.event) (subst (λ (d : State × Answer). IsLegalList d.0 log) (sym w.2) w.3) stepped)

-- A batch that is held was not given up.

pub held_values : (n : Name) (log : List Entry) → are_distinct (linked_values n.links) ≡ true → IsLegalList (start n) log → (b : ℕ) → IsHeld (after (start n) log) b
    → (batch_at (after (start n) log) b).values ≡ (slice_index_or (plans (start n) log) b no_plan).values
held_values n log distinct l b held = go ((planned_after (start n) log [] l (record { many = refl; each = λ b. inr refl })).each b)
  where
    go : AsPlanned (after (start n) log) (plans (start n) log) b → (batch_at (after (start n) log) b).values ≡ (slice_index_or (plans (start n) log) b no_plan).values
    go (inl same) = same
    go (inr none) =
        let full = held_full (after (start n) log) (reached_after n log distinct l) b held in
        let empty : length (batch_at (after (start n) log) b).values ≡ 0 = ap (λ (values : List ℕ). length values) none in
        absurd (omega (arith, full, empty))

pub held_front : (n : Name) (log : List Entry) → are_distinct (linked_values n.links) ≡ true → IsLegalList (start n) log → (b v : ℕ) → IsHeld (after (start n) log) b
    → front_of (start n) log b ≡ Some v → is_in (home_of v) (batch_at (after (start n) log) b) ≡ true
held_front n log distinct l b v held front =
    ap (λ (values : List ℕ). is_home (home_of v) (first_or_none values)) (held_values n log distinct l b held) ∙ ap (is_home (home_of v)) front ∙ equal (home_of v) (home_of v) refl

-- where calls stand that count a batch, it is held

pub added_held : (st : State) (s b won : ℕ) (queue : List ℕ) → Stands st s (Add b won) queue → IsHeld st b
added_held st s b won queue stands = inr (inr (s, ap detached_by stands))

pub walked_held : (st : State) (s b : ℕ) (walk queue : List ℕ) → Stands st s (Rest [] (b ∷ walk)) queue → IsHeld st b
walked_held st s b walk queue stands = inr (inl (s, subst (λ o. Contains (walk_of o) b) (sym stands) (0, omega arith, refl)))

-- the front of a batch stays as the list goes on
pub front_grows : (st : State) (own log : List Entry) (b : ℕ) → IsPrefix own log → b < length (plans st own) → front_of st log b ≡ front_of st own b
front_grows st own log b grows there = ap (λ (p : Plan). first_or_none p.values) (sym (plan_stays st own log b grows there))

-- a batch with a front was detached
pub front_there : (st : State) (own : List Entry) (b v : ℕ) → front_of st own b ≡ Some v → b < length (plans st own)
front_there st own b v front = go (cases_lt b (length (plans st own)))
  where
    go : (b < length (plans st own)) ⊎ (length (plans st own) ≤ b) → b < length (plans st own)
    go (inl less) = less
    go (inr past) = absurd (let none : Option.None ≡ Some v = sym (ap (λ (p : Plan). first_or_none p.values) (get_or_past (plans st own) b no_plan past)) ∙ front in cc)
