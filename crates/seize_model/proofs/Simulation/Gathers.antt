-- A number is given back on both sides: while no other one is in use and something is left, the slot gathers it and attempts it.
use Rattle.std.proofs.Common.{◌≡◌, ℕ, zero, suc, ◌+◌, ◌<◌, ◌≤◌, Bool, true, false, not, ◌&&◌, ◌||◌, ◌==◌, if◌then◌else◌, List, [], ◌∷◌, ◌++◌, length, map, get_or, set, Some, refl, sym, ◌∙◌, ap, subst, arith, length-append}
use Rattle.std.specs.List.{list_any}
use Rattle.std.proofs.lemmas.List.{get_or-set_same}
use Rattle.seize_machine.specs.Machine.State as machine
use Rattle.seize_machine.specs.Machine.State.{State, Active, Inactive, is_active, head_at}
use Rattle.seize_machine.specs.Machine.Event.{Event, Begin, Give}
use Rattle.seize_machine.specs.Machine.Next.{next, is_empty, is_outside, has_others, ends_now, can_gather, after_give, after_gather, scheme}
use Rattle.seize_machine.specs.Machine.History.{handed}
use Rattle.seize_machine.specs.declared.machine.event.Job.TheVariants.{Gather}
use Rattle.seize_machine.specs.declared.machine.event.Answer.{Answer}
use Rattle.seize_machine.specs.declared.machine.event.Answer.TheVariants.{Done as DoneEvent}
use Rattle.seize_machine.proofs.Facts.{Step, next_of, if_some, and_true, not_true}
use Rattle.seize_model.specs.Waiting.State as waiting
use Rattle.seize_model.specs.Waiting.State.{model_slot, set_slot, unmade_slot}
use Rattle.seize_model.specs.Waiting.Attempt.{StateAndGone, attempt, with_gone}
use Rattle.seize_model.specs.Waiting.Further.{Lighter}
use Rattle.seize_model.specs.Waiting.Calls.{is_free, others_in_use, rest_and_batch, with_rest_gathered, gathers, with_number_free, gathering}
use Rattle.seize_model.specs.Agreement.Play.{play}
use Rattle.seize_model.specs.Agreement.Events.{IsJob, IsEnded, ArePutBy}
use Rattle.seize_model.proofs.Cases.{or_false, if_no}
use Rattle.seize_model.proofs.WaitingSets.Drain.{weighs}
use Rattle.seize_model.proofs.WaitingSets.Giving.{gathers_none}
use Rattle.seize_model.proofs.WaitingSets.LastEnd.{IsLone, round_lighter, no_weight, lone_of}
use Rattle.seize_model.proofs.Simulation.Views.{with_reclaimers}
use Rattle.seize_model.proofs.Simulation.Paths.{Carried}
use Rattle.seize_model.proofs.Simulation.Plays.{play_first, First, first_of, Split, split_of}
use Rattle.seize_model.proofs.Simulation.Runs.{Leads, run_carried}
use Rattle.seize_model.proofs.Simulation.Lists.{left_carried}
use Rattle.seize_model.proofs.Simulation.Events.{at_rest}
use Rattle.seize_model.proofs.Simulation.Coupling.{NearAt, near_set, near_rest, CoupledSlot, Naming, no_slot_coupled}
use Rattle.seize_model.proofs.Simulation.Work.{Does, attempt_does, near_batch, denote_append, denote_length}
use Rattle.seize_model.proofs.Simulation.Names.{Names, Holds, HoldsAfter, Always, holds_always, holds_gathered, holds_attempt, holds_settled}
use Rattle.seize_model.proofs.Simulation.Queues.{Ends, settled_ends}
use Rattle.seize_model.proofs.Simulation.Beginnings.{in_machine, near_at_rest, idle_of, Reaches, JobEnds, PieceRun, JobRun, whole_run, whole_list, then_run, then_list, OneEvent, one_of}
use Rattle.seize_model.proofs.Simulation.Jobs.{active_head}
use Rattle.seize_model.proofs.WaitingSets.Refusals.{IsIdle, in_use}

idle_guards : {T R : Type 0} (st : waiting.ModelState T R) (s : ℕ) → IsIdle st s → (model_slot st s).guards ≡ 0
idle_guards st s idle = none (model_slot st s).guards idle.1
  where
    none : (k : ℕ) → not (k == 0) ≡ false → k ≡ 0
    none k e = grind arith

is_off : {T R X : Type 0} (of : Naming T R X) (st : waiting.ModelState T R) (ms : State) (s : ℕ) → NearAt of [] st ms → IsIdle st s → is_active (head_at ms s) ≡ false
is_off of st ms s n idle = active_head of st ms s false n idle.1

-- The number is given back.

pub end_near : {T R X : Type 0} (of : Naming T R X) (st : waiting.ModelState T R) (ms : State) (s : ℕ) → NearAt of [] st ms → IsIdle st s → NearAt of [] (with_number_free st s) (after_give ms s)
end_near of st ms s n idle =
    let own : CoupledSlot of (model_slot st s) (machine.slot_at ms s) = n.slot s in
    near_rest of [] (set_slot st s unmade_slot) (set ms.slots s machine.no_slot) ms.heads ms.batches ms.links ms.rest (ms.rest ++ (machine.slot_at ms s).batch) (rest_and_batch st s)
    (near_set of [] st ms.slots ms.heads ms.batches ms.links ms.rest s unmade_slot machine.no_slot n (in_use st s idle.0) (no_slot_coupled of)
    (sym (ap (λ (t : Bool). if t then Active (model_slot st s).order else Inactive) idle.1))
    (sym (own.inactive idle.1)))
    (denote_append of ms.rest (machine.slot_at ms s).batch st.rest (model_slot st s).batch n.rest_is own.batch)

same_any : {X Y : Type 0} (p : X → Bool) (q : Y → Bool) (xs : List X) (ys : List Y) (d : X) (e : Y) → length xs ≡ length ys → ((i : ℕ) → p (get_or xs i d) ≡ q (get_or ys i e)) → list_any p xs ≡ list_any q ys
same_any p q [] [] d e l h = refl
same_any p q [] (y ∷ ys) d e l h = absurd (omega arith)
same_any p q (x ∷ xs) [] d e l h = absurd (omega arith)
same_any p q (x ∷ xs) (y ∷ ys) d e l h = ap (λ (t : Bool). t || list_any p xs) (h zero) ∙ ap (λ (t : Bool). q y || t) (same_any p q xs ys d e (omega arith) (λ i. h (suc i)))

same_others : {T R X : Type 0} (of : Naming T R X) (st : waiting.ModelState T R) (ms : State) (s : ℕ) → NearAt of [] st ms → IsIdle st s → has_others ms s ≡ others_in_use st s
same_others of st ms s n idle =
    let freed : NearAt of [] (with_number_free st s) (after_give ms s) = end_near of st ms s n idle in
    same_any (λ slot. slot.used) (λ slot. not (is_free slot.kind)) (set ms.slots s machine.no_slot) (set st.slots s unmade_slot) machine.no_slot unmade_slot freed.as_many (λ i. (freed.slot i).used)

-- whether nothing is left
same_left : {T R X : Type 0} (of : Naming T R X) (st : waiting.ModelState T R) (ms : State) (s : ℕ) → NearAt of [] st ms → IsIdle st s → (is_empty (machine.slot_at ms s).batch && is_empty ms.rest) ≡ (length (rest_and_batch st s) == 0)
same_left of st ms s n idle =
    let freed : NearAt of [] (with_number_free st s) (after_give ms s) = end_near of st ms s n idle in
    both (machine.slot_at ms s).batch ms.rest (length (rest_and_batch st s)) (denote_length of (ms.rest ++ (machine.slot_at ms s).batch) (rest_and_batch st s) freed.rest_is)
  where
    some : (a b : ℕ) (c n : ℕ) → c ≡ a + (b + 1) → c ≡ n → false ≡ (n == 0)
    some a b c n e f = grind arith

    both : (batch rest : List ℕ) (n : ℕ) → length (rest ++ batch) ≡ n → (is_empty batch && is_empty rest) ≡ (n == 0)
    both [] [] n e = ap (λ (k : ℕ). k == 0) e
    both [] (x ∷ rest) n e = some 0 (length rest) (length (x ∷ rest ++ [])) n (length-append (x ∷ rest) [] ∙ omega arith) e
    both (x ∷ batch) rest n e = some (length rest) (length batch) (length (rest ++ x ∷ batch)) n (length-append rest (x ∷ batch) ∙ omega arith) e

-- where it may be given back, on both sides
same_ends : {T R X : Type 0} (of : Naming T R X) (st : waiting.ModelState T R) (ms : State) (s : ℕ) → NearAt of [] st ms → IsIdle st s → ends_now (has_others ms s) (machine.slot_at ms s).batch ms.rest ≡ (others_in_use st s || (length (rest_and_batch st s) == 0))
same_ends of st ms s n idle = ap (λ (t : Bool). t || (is_empty (machine.slot_at ms s).batch && is_empty ms.rest)) (same_others of st ms s n idle) ∙ ap (λ (t : Bool). others_in_use st s || t) (same_left of st ms s n idle)

pub end_step : {T R X : Type 0} (of : Naming T R X) (size : ℕ) (st : waiting.ModelState T R) (ms : State) (s : ℕ) → NearAt of [] st ms → IsIdle st s → (others_in_use st s || (length (rest_and_batch st s) == 0)) ≡ true
    → next size ms (Give s) ≡ Some (after_give ms s, DoneEvent)
end_step of size st ms s n idle ends = next_of size ms (Give s) _ (Step.gave s (idle_of of st ms s n idle.0) (is_off of st ms s n idle) (same_ends of st ms s n idle ∙ ends))

-- where the machine gives it back
pub may_end : {T R X : Type 0} (of : Naming T R X) (size : ℕ) (st : waiting.ModelState T R) (ms : State) (s : ℕ) (d : State × Answer) → NearAt of [] st ms → IsIdle st s → next size ms (Give s) ≡ Some d → (others_in_use st s || (length (rest_and_batch st s) == 0)) ≡ true
may_end of size st ms s d n idle gives =
    sym (same_ends of st ms s n idle) ∙ (and_true (is_outside ms s) _ (if_some (is_outside ms s && ends_now (has_others ms s) (machine.slot_at ms s).batch ms.rest) _ _ gives).0).1

-- A gathering.

-- on both sides, all that was left is in the slot's batch
near_gathered : {T R X : Type 0} (of : Naming T R X) (st : waiting.ModelState T R) (ms : State) (s : ℕ) → NearAt of [] st ms → IsIdle st s → NearAt of [] (with_rest_gathered st s) (at_rest (record ms { rest = [] }) s (ms.rest ++ (machine.slot_at ms s).batch))
near_gathered of st ms s n idle =
    let all : List ℕ = ms.rest ++ (machine.slot_at ms s).batch in
    let batch : NearAt of [] (set_slot st s (record (model_slot st s) { batch = rest_and_batch st s })) (at_rest ms s all)
    = near_batch of st ms s (machine.slot_at ms s).batch all (rest_and_batch st s) (near_at_rest of st ms s n idle.0) (in_machine of st ms s n (in_use st s idle.0)) (end_near of st ms s n idle).rest_is in
    near_rest of [] (set_slot st s (record (model_slot st s) { batch = rest_and_batch st s })) (at_rest ms s all).slots ms.heads ms.batches ms.links ms.rest [] [] batch refl

gather_ends : {T R X : Type 0} (puts : R → T → List T) (weight : T → ℕ) → Lighter puts weight → (of : Naming T R X) (P : T × R → Type 0) (K : State → List ℕ → Type 0) (st : waiting.ModelState T R) (ms : State) (s : ℕ) → Carried puts of P s st.size K
    → Holds T R P st → NearAt of [] st ms → IsIdle st s → (length (rest_and_batch st s) == 0) ≡ false → K (after_gather ms s) [] → Ends of K st.size s 0 [] (gathering puts weight st s)
gather_ends {T} {R} puts weight lighter of P K st ms s carried holds n idle left now =
    let held : Holds T R P (with_rest_gathered st s) = holds_gathered P st s holds in
    let within : s < length ms.slots = in_machine of st ms s n (in_use st s idle.0) in
    let long : length (ms.rest ++ (machine.slot_at ms s).batch) ≡ length (rest_and_batch st s) = denote_length of _ (rest_and_batch st s) (end_near of st ms s n idle).rest_is in
    let own : (model_slot (with_rest_gathered st s) s).guards ≡ 0
    = ap (λ (x : waiting.ModelSlot T R). x.guards) (get_or-set_same st.slots s (record (model_slot st s) { batch = rest_and_batch st s }) unmade_slot (in_use st s idle.0)) ∙ idle_guards st s idle in
    settled_ends puts weight lighter of P K st.size s 0 [] (attempt (with_rest_gathered st s) s) carried (holds_attempt P (with_rest_gathered st s) s held)
    (subst (λ (g : ℕ). Does puts of K st.size s g [] [] (attempt (with_rest_gathered st s) s)) own
    (attempt_does puts of P K (with_rest_gathered st s) (record ms { rest = [] }) s (ms.rest ++ (machine.slot_at ms s).batch) [] [] carried held (near_gathered of st ms s n idle) within (some _ _ long left) now))
  where
    some : (a b : ℕ) → a ≡ b → (b == 0) ≡ false → 1 ≤ a
    some a b e f = grind arith

-- no other number is in use, and something is left
abbrev pub WouldGather : {T R : Type 0} → waiting.ModelState T R → ℕ → Type 0
WouldGather st s = (others_in_use st s ≡ false) × ((length (rest_and_batch st s) == 0) ≡ false)

gather_step : {T R X : Type 0} (of : Naming T R X) (size : ℕ) (st : waiting.ModelState T R) (ms : State) (s : ℕ) → NearAt of [] st ms → IsIdle st s → WouldGather st s → next size ms (Begin s Gather) ≡ Some (after_gather ms s, DoneEvent)
gather_step of size st ms s n idle may = next_of size ms (Begin s Gather) _ (Step.gathered s (idle_of of st ms s n idle.0) (is_off of st ms s n idle) (same_others of st ms s n idle ∙ may.0) (same_left of st ms s n idle ∙ may.1))

gather_run : {T R X : Type 0} (puts : R → T → List T) (weight : T → ℕ) → Lighter puts weight → (of : Naming T R X) (P : T × R → Type 0) → Names puts of P → (st : waiting.ModelState T R) (before : State) (s : ℕ) → Holds T R P st → NearAt of [] st before → IsIdle st s → WouldGather st s
    → JobRun puts of st.size s 0 Gather before (gathering puts weight st s)
gather_run puts weight lighter of P names st before s holds n idle may =
    whole_run puts of st.size s 0 (Begin s Gather) before _ (gathering puts weight st s) (gather_step of st.size st before s n idle may)
    (gather_ends puts weight lighter of P _ st before s (run_carried puts of P names st.size s _) holds n idle may.1 (Leads.stays _))

pub gather_job_list : {T R : Type 0} (puts : R → T → List T) (weight : T → ℕ) → Lighter puts weight → (of : ℕ → T) (by : ℕ → R) (st : waiting.ModelState T R) (before : State) (s : ℕ) (events : List Event) (answers : List Answer) (later : State) → NearAt (with_reclaimers of by) [] st before
    → IsIdle st s → WouldGather st s → IsJob s Gather events → play st.size before events ≡ Some (later, answers) → ArePutBy puts of by events answers → JobEnds (with_reclaimers of by) st.size s 0 (gathering puts weight st s) later answers
gather_job_list puts weight lighter of by st before s events answers later n idle may makes legal put =
    whole_list puts of by st.size s 0 (Begin s Gather) before _ later (gathering puts weight st s) events answers (gather_step (with_reclaimers of by) st.size st before s n idle may) makes legal put (λ now.
    gather_ends puts weight lighter (with_reclaimers of by) Always _ st before s (left_carried puts of by st.size s later (handed answers)) (holds_always st) n idle may.1 now)

-- Rounds of it, and then the number is given back.

-- what both sides show makes the slot a lone one, where no other is in use
is_lone : {T R X : Type 0} (of : Naming T R X) (st : waiting.ModelState T R) (ms : State) (s : ℕ) → NearAt of [] st ms → IsIdle st s → others_in_use st s ≡ false → IsLone T R s st
is_lone of st ms s n idle none = lone_of st s idle none (λ i e. ap (λ (k : ℕ). not (k == 0)) ((n.slot i).free e)) (λ i. (n.slot i).inactive)

-- a round leaves less
less_left : {T R : Type 0} (puts : R → T → List T) (weight : T → ℕ) → Lighter puts weight → (n : ℕ) (st : waiting.ModelState T R) (s : ℕ) → IsLone T R s st → (length (rest_and_batch st s) == 0) ≡ false → weighs weight (rest_and_batch st s) ≤ suc n
    → weighs weight (rest_and_batch (gathering puts weight st s).0 s) ≤ n
less_left puts weight lighter n st s lone left le = omega (arith, le, round_lighter puts weight lighter st s lone left)

none_left : {T R : Type 0} (puts : R → T → List T) (weight : T → ℕ) → Lighter puts weight → (st : waiting.ModelState T R) (s : ℕ) → weighs weight (rest_and_batch st s) ≤ 0 → (length (rest_and_batch st s) == 0) ≡ true
none_left puts weight lighter st s le = ap (λ (k : ℕ). k == 0) (no_weight puts weight lighter (rest_and_batch st s) le)

-- with the number given back at the end
abbrev given : {T R : Type 0} → ℕ → StateAndGone T R → StateAndGone T R
given s o = (with_number_free o.0 s, o.1)

pub still_idle : {T R X : Type 0} (of : Naming T R X) (size s : ℕ) (o : StateAndGone T R) (later : State) (answers : List Answer) → JobEnds of size s 0 o later answers → IsIdle o.0 s
still_idle of size s o later answers d = (d.used, ap (λ (k : ℕ). not (k == 0)) d.same_guards)

give_run : {T R X : Type 0} (puts : R → T → List T) (of : Naming T R X) (st : waiting.ModelState T R) (before : State) (s : ℕ) → NearAt of [] st before → IsIdle st s → (others_in_use st s || (length (rest_and_batch st s) == 0)) ≡ true
    → PieceRun puts of st.size (IsEnded s) before (Reaches of (given s (st, [])))
give_run puts of st before s n idle ends = record {
  events = Give s ∷ [];
  answers = DoneEvent ∷ [];
  later = after_give before s;
  makes = IsEnded.gives;
  legal = play_first st.size before (Give s) [] (after_give before s) DoneEvent (end_step of st.size st before s n idle ends);
  ends = (end_near of st before s n idle, refl);
  put = (tt, tt);
}

pub ended_run : {T R X : Type 0} (puts : R → T → List T) (weight : T → ℕ) → Lighter puts weight → (of : Naming T R X) (P : T × R → Type 0) → Names puts of P → (s n : ℕ) (st : waiting.ModelState T R) (before : State) → Holds T R P st → NearAt of [] st before → IsIdle st s
    → weighs weight (rest_and_batch st s) ≤ n → PieceRun puts of st.size (IsEnded s) before (Reaches of (given s (gathers puts weight n st s)))
ended_run puts weight lighter of P names s zero st before holds near idle le =
    give_run puts of st before s near idle (ap (λ (t : Bool). others_in_use st s || t) (none_left puts weight lighter st s le) ∙ or_yes (others_in_use st s))
  where
    or_yes : (b : Bool) → (b || true) ≡ true
    or_yes true = refl
    or_yes false = refl
ended_run {T} {R} puts weight lighter of P names s (suc n) st before holds near idle le =
    go (others_in_use st s || (length (rest_and_batch st s) == 0)) refl (λ may first.
    let held : HoldsAfter P (gathering puts weight st s) = holds_settled puts weight P names.closed s (attempt (with_rest_gathered st s) s) (holds_attempt P (with_rest_gathered st s) s (holds_gathered P st s holds)) in
    ended_run puts weight lighter of P names s n (gathering puts weight st s).0 first.later held.0 first.ends.near (still_idle of st.size s (gathering puts weight st s) first.later first.answers first.ends)
    (less_left puts weight lighter n st s (is_lone of st before s near idle may.0) may.1 le))
  where
    go : (t : Bool) → (others_in_use st s || (length (rest_and_batch st s) == 0)) ≡ t
        → (WouldGather st s → (first : JobRun puts of st.size s 0 Gather before (gathering puts weight st s)) → PieceRun puts of (gathering puts weight st s).0.size (IsEnded s) first.later (Reaches of (given s (gathers puts weight n (gathering puts weight st s).0 s))))
        → PieceRun puts of st.size (IsEnded s) before (Reaches of (given s (if t then (st, []) else (let o = gathering puts weight st s in with_gone o.1 (gathers puts weight n o.0 s)))))
    go true e rounds = give_run puts of st before s near idle e
    go false e rounds =
        let may : WouldGather st s = or_false (others_in_use st s) (length (rest_and_batch st s) == 0) e in
        let first : JobRun puts of st.size s 0 Gather before (gathering puts weight st s) = gather_run puts weight lighter of P names st before s holds near idle may in
        then_run puts of st.size (IsJob s Gather) (IsEnded s) (IsEnded s) before (gathering puts weight st s).1 (given s (gathers puts weight n (gathering puts weight st s).0 s)) (JobEnds of st.size s 0 (gathering puts weight st s))
        (λ es fs job more. IsEnded.gathers es fs job more) first first.ends.gone
        (subst (λ (size : ℕ). PieceRun puts of size (IsEnded s) first.later (Reaches of (given s (gathers puts weight n (gathering puts weight st s).0 s)))) first.ends.same_size (rounds may first))

-- each list of such events

pub may_gather : {T R X : Type 0} (of : Naming T R X) (size : ℕ) (st : waiting.ModelState T R) (ms : State) (s : ℕ) (es : List Event) (later : State) (answers : List Answer) → NearAt of [] st ms → IsIdle st s → IsJob s Gather es → play size ms es ≡ Some (later, answers) → WouldGather st s
may_gather of size st ms s es later answers n idle job legal =
    let first : First size ms (Begin s Gather) job.0 later answers = first_of size ms (Begin s Gather) job.0 later answers (ap (λ (l : List Event). play size ms l) (sym job.1) ∙ legal) in
    let all = and_true (is_outside ms s) _ (if_some (can_gather scheme ms s) _ _ first.step).0 in
    or_false _ _ (sym (same_ends of st ms s n idle) ∙ not_true _ all.1)

begun : {T R : Type 0} (puts : R → T → List T) (of : ℕ → T) (by : ℕ → R) (st : waiting.ModelState T R) (before : State) (s : ℕ) (es fs : List Event) (answers : List Answer) (later : State) → NearAt (with_reclaimers of by) [] st before → IsIdle st s → IsJob s Gather es
    → play st.size before (es ++ fs) ≡ Some (later, answers) → WouldGather st s
begun puts of by st before s es fs answers later near idle job legal =
    let split : Split st.size before es fs later answers = split_of st.size before es fs later answers legal in
    may_gather (with_reclaimers of by) st.size st before s es split.middle split.first near idle job split.begins

pub ended_list : {T R : Type 0} (puts : R → T → List T) (weight : T → ℕ) → Lighter puts weight → (of : ℕ → T) (by : ℕ → R) (s n : ℕ) (st : waiting.ModelState T R) (before : State) (events : List Event) (answers : List Answer) (later : State) → NearAt (with_reclaimers of by) [] st before → IsIdle st s
    → weighs weight (rest_and_batch st s) ≤ n → IsEnded s events → play st.size before events ≡ Some (later, answers) → ArePutBy puts of by events answers → Reaches (with_reclaimers of by) (given s (gathers puts weight n st s)) later answers
ended_list {T} {R} puts weight lighter of by s n st before _ answers later near idle le IsEnded.gives legal put =
    let first : First st.size before (Give s) [] later answers = first_of st.size before (Give s) [] later answers legal in
    let may : (others_in_use st s || (length (rest_and_batch st s) == 0)) ≡ true = may_end (with_reclaimers of by) st.size st before s (first.later, first.answer) near idle first.step in
    let gave : OneEvent (after_give before s) DoneEvent later answers = one_of st.size before (after_give before s) (Give s) DoneEvent later answers (end_step (with_reclaimers of by) st.size st before s near idle may) legal in
    subst (λ (o : StateAndGone T R). Reaches (with_reclaimers of by) (given s o) later answers) (sym (gathers_none puts weight n st s may))
    (subst (λ (k : State). NearAt (with_reclaimers of by) [] (with_number_free st s) k) (sym gave.0) (end_near (with_reclaimers of by) st before s near idle), ap (λ (l : List Answer). map {B = T × R} (λ n. (of n, by n)) (handed l)) gave.1)
ended_list {T} {R} puts weight lighter of by s zero st before _ answers later near idle le (IsEnded.gathers es fs job more) legal put =
    absurd (let none : (length (rest_and_batch st s) == 0) ≡ true = none_left puts weight lighter st s le in
    let some : WouldGather st s = begun puts of by st before s es fs answers later near idle job legal in let c : true ≡ false = sym none ∙ some.1 in cc)
ended_list {T} {R} puts weight lighter of by s (suc n) st before _ answers later near idle le (IsEnded.gathers es fs job more) legal put =
    let may : WouldGather st s = begun puts of by st before s es fs answers later near idle job legal in
    let o : StateAndGone T R = gathering puts weight st s in
    subst (λ (k : StateAndGone T R). Reaches (with_reclaimers of by) (given s k) later answers) (sym (if_no _ _ _ (neither (others_in_use st s) _ may.0 may.1)))
    (then_list puts of by st.size before later es fs answers o.1 (given s (gathers puts weight n o.0 s)) legal put (λ middle first last begins put_first goes_on put_last.
    let d : JobEnds (with_reclaimers of by) st.size s 0 (gathering puts weight st s) middle first = gather_job_list puts weight lighter of by st before s es first middle near idle may job begins put_first in (
      d.gone,
      ended_list puts weight lighter of by s n (gathering puts weight st s).0 middle fs last later d.near (still_idle (with_reclaimers of by) st.size s (gathering puts weight st s) middle first d)
          (less_left puts weight lighter n st s (is_lone (with_reclaimers of by) st before s near idle may.0) may.1 le) more (ap (λ (size : ℕ). play size middle fs) d.same_size ∙ goes_on) put_last,
    )))
  where
    neither : (a b : Bool) → a ≡ false → b ≡ false → (a || b) ≡ false
    neither a b e f = ap (λ (t : Bool). t || b) e ∙ f
