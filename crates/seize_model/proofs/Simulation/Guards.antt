-- The calls that change a slot's guards: leave and enter.
use Rattle.std.proofs.Common.{◌≡◌, ℕ, ◌+◌, ◌-◌, ◌<◌, ◌≤◌, Bool, true, false, not, ◌&&◌, ◌==◌, if◌then◌else◌, List, [], ◌∷◌, ◌++◌, length, set, Some, None, refl, sym, ◌∙◌, ap, subst, arith, append-nil}
use Rattle.std.proofs.lemmas.List.{get_or-set_same, set-get_or}
use Rattle.seize_machine.specs.Machine.State as machine
use Rattle.seize_machine.specs.Machine.State.{State, Slot, Head, Inactive, Active, Out, is_active, head_at}
use Rattle.seize_machine.specs.declared.machine.event.Answer.{Answer}
use Rattle.seize_machine.specs.Machine.Event.{Event, Begin, Enter as EnterHead}
use Rattle.seize_machine.specs.Machine.Next.{next, set_head}
use Rattle.seize_machine.specs.declared.machine.event.Job as job
use Rattle.seize_machine.specs.declared.machine.event.Answer.TheVariants.{Done as DoneEvent}
use Rattle.seize_model.specs.Waiting.State as waiting
use Rattle.seize_model.specs.Waiting.State.{model_slot, set_slot}
use Rattle.seize_model.specs.Waiting.Attempt.{StateAndGone, release_all, part}
use Rattle.seize_model.specs.Waiting.Further.{with_further, Lighter}
use Rattle.seize_model.specs.Waiting.Calls.{first_refusal, no_guard, not_registered, too_many, is_free, is_owned, one_guard_less, rest_and_batch, give_back, given_back_if, set_guards}
use Rattle.seize_model.specs.Waiting.Lists.{Leave, Enter, Done, done_reply, step}
use Rattle.seize_model.specs.Agreement.Shows.{head_of}
use Rattle.seize_model.specs.Agreement.Play.{play}
use Rattle.seize_machine.specs.Machine.History.{handed}
use Rattle.seize_model.specs.Agreement.Events.{IsJob, IsEnded, IsLeft, Where, ArePutBy}
use Rattle.seize_model.specs.Agreement.Statement.{IsOutcome, EachList}
use Rattle.seize_model.proofs.Simulation.Views.{with_reclaimers}
use Rattle.seize_model.proofs.Simulation.Paths.{Carried}
use Rattle.seize_model.proofs.Simulation.Runs.{Leads, run_carried}
use Rattle.seize_model.proofs.Simulation.Lists.{left_carried}
use Rattle.seize_model.proofs.Simulation.Events.{busy, at_rest}
use Rattle.seize_model.proofs.Simulation.Coupling.{Near, NearAt, near_set, near_out, CoupledSlot, Naming}
use Rattle.seize_model.proofs.Simulation.Work.{Does, own_slot}
use Rattle.seize_model.proofs.Simulation.Names.{Names, Holds, HoldsAfter, Always, holds_always, holds_same, holds_part, holds_settled}
use Rattle.seize_model.proofs.Simulation.Queues.{Ends, settled_ends}
use Rattle.seize_model.proofs.Simulation.Beginnings.{begin_leave, in_machine, idle_of, near_at_rest, Reaches, JobEnds, PieceRun, JobRun, whole_run, whole_list, then_run, then_list, names_none, run_of, outcome_of, no_events, no_list, one_event, one_list, run_unless, list_unless, Run}
use Rattle.seize_model.proofs.Simulation.Jobs.{active_head, at_idle, out_does, settled_nothing}
use Rattle.seize_model.proofs.Simulation.Gathers.{still_idle, ended_run, ended_list}
use Rattle.seize_model.proofs.WaitingSets.Drain.{weighs}
use Rattle.seize_model.proofs.Cases.{if_yes}
use Rattle.seize_model.proofs.WaitingSets.Refusals.{in_use, guard_of, none_of_two, registered_of}
use Rattle.seize_model.proofs.Counts.{set_twice}

is_some_guard : (k : ℕ) → 1 ≤ k → not (k == 0) ≡ true
is_some_guard k h = grind arith

-- a slot in use with some number of guards
guards_coupled : {T R X : Type 0} (of : Naming T R X) (slot : waiting.ModelSlot T R) (shown : Slot) (k : ℕ) → CoupledSlot of slot shown
    → is_free slot.kind ≡ false → 1 ≤ k → (is_owned slot.kind ≡ true → k ≤ 1) → CoupledSlot of (record slot { guards = k }) shown
guards_coupled of slot shown k coupled used some owned = record {
  used = coupled.used;
  idle = coupled.idle;
  batch = coupled.batch;
  free = λ e. absurd (let c : true ≡ false = sym e ∙ used in cc);
  owned = owned;
  inactive = λ e. absurd (let c : true ≡ false = sym (is_some_guard k some) ∙ e in cc);
  once = coupled.once;
}

-- An active slot has some other number of guards.
pub near_guards : {T R X : Type 0} (of : Naming T R X) (st : waiting.ModelState T R) (ms : State) (s k : ℕ) → NearAt of [] st ms
    → is_free (model_slot st s).kind ≡ false → waiting.has_guard (model_slot st s) ≡ true → 1 ≤ k → (is_owned (model_slot st s).kind ≡ true → k ≤ 1)
    → NearAt of [] (set_guards st s k) ms
near_guards {T} {R} of st ms s k n used active some owned =
    subst (λ (l : List Slot). Near of [] (set_guards st s k) l ms.heads ms.batches ms.links ms.rest) (set-get_or ms.slots s machine.no_slot)
    (near_set of [] st ms.slots ms.heads ms.batches ms.links ms.rest s (record (model_slot st s) { guards = k }) (machine.slot_at ms s) n (in_use st s used)
    (guards_coupled of (model_slot st s) (machine.slot_at ms s) k (n.slot s) used some owned)
    (ap (λ (t : Bool). if t then Active (model_slot st s).order else Inactive) (is_some_guard k some ∙ sym active))
    refl)

-- Leave.

left_is : {T R : Type 0} (st : waiting.ModelState T R) (s : ℕ) → s < length st.slots → part (set_guards st s 0) s ≡ release_all (set_slot st s (record (model_slot st s) { guards = 0; order = [] })) (model_slot st s).order
left_is {T} {R} st s h =
    let own : model_slot (set_guards st s 0) s ≡ record (model_slot st s) { guards = 0 } = get_or-set_same st.slots s (record (model_slot st s) { guards = 0 }) waiting.unmade_slot h in
    ap (λ (z : waiting.ModelSlot T R). release_all (set_slot (set_guards st s 0) s (record z { order = [] })) z.order) own
    ∙ ap (λ (l : List (waiting.ModelSlot T R)). release_all (record st { slots = l }) (model_slot st s).order) (set_twice st.slots s _ _)

-- a slot that keeps guards is not owned, and only its guards change
one_guard : (k : ℕ) → not (k == 0) ≡ true → (k == 1) ≡ false → k ≤ 1 → ⊥
one_guard k a b c = grind arith

two_guards : (k : ℕ) → not (k == 0) ≡ true → (k == 1) ≡ false → 1 ≤ k - 1
two_guards k a b = grind arith

stays_as : {T R : Type 0} (puts : R → T → List T) (weight : T → ℕ) (st : waiting.ModelState T R) (s : ℕ) → ((model_slot st s).guards == 1) ≡ false → (is_free (model_slot st s).kind ≡ false) × (waiting.has_guard (model_slot st s) ≡ true) → (is_owned (model_slot st s).kind ≡ true → (model_slot st s).guards ≤ 1)
    → given_back_if puts weight (is_owned (model_slot st s).kind) s (with_further puts weight s (set_guards st s ((model_slot st s).guards - 1), [])) ≡ (set_guards st s ((model_slot st s).guards - 1), [])
stays_as puts weight st s more g few = ap (λ o. given_back_if puts weight (is_owned (model_slot st s).kind) s o) (settled_nothing puts weight (set_guards st s ((model_slot st s).guards - 1)) s) ∙ go (is_owned (model_slot st s).kind) refl
  where
    go : (owned : Bool) → is_owned (model_slot st s).kind ≡ owned → given_back_if puts weight owned s (set_guards st s ((model_slot st s).guards - 1), []) ≡ (set_guards st s ((model_slot st s).guards - 1), [])
    go true is = absurd (one_guard (model_slot st s).guards g.1 more (few is))
    go false is = refl

near_stays : {T R X : Type 0} (of : Naming T R X) (st : waiting.ModelState T R) (ms : State) (s : ℕ) → NearAt of [] st ms → ((model_slot st s).guards == 1) ≡ false → (is_free (model_slot st s).kind ≡ false) × (waiting.has_guard (model_slot st s) ≡ true)
    → NearAt of [] (set_guards st s ((model_slot st s).guards - 1)) ms
near_stays of st ms s n more g =
    near_guards of st ms s ((model_slot st s).guards - 1) n g.0 g.1 (two_guards (model_slot st s).guards g.1 more) (λ is. absurd (one_guard (model_slot st s).guards g.1 more ((n.slot s).owned is)))

leave_ends : {T R X : Type 0} (puts : R → T → List T) (weight : T → ℕ) → Lighter puts weight → (of : Naming T R X) (P : T × R → Type 0) (K : State → List ℕ → Type 0) (st : waiting.ModelState T R) (base : State) (s : ℕ) (batch : List ℕ) → Carried puts of P s st.size K
    → Holds T R P st → NearAt of [] st (at_rest base s batch) → s < length base.slots → s < length st.slots → waiting.has_guard (model_slot st s) ≡ true
    → K (busy base s batch (Out false) []) [] → Ends of K st.size s 0 [] (with_further puts weight s (part (set_guards st s 0) s))
leave_ends puts weight lighter of P K st base s batch carried holds rest h within active now =
    let own : CoupledSlot of (model_slot st s) (record { used = true; batch = batch; call = None }) = own_slot of st base s batch rest h in
    settled_ends puts weight lighter of P K st.size s 0 [] (part (set_guards st s 0) s) carried
    (holds_part P (set_guards st s 0) s (holds_same P st s (record (model_slot st s) { guards = 0 }) refl holds))
    (subst (λ o. Does puts of K st.size s 0 [] [] o) (sym (left_is st s within))
    (out_does puts of P K st base s false batch (record (model_slot st s) { guards = 0; order = [] }) carried holds refl rest h active refl refl
    (record { used = own.used; idle = refl; batch = own.batch; free = λ e. refl; owned = λ e. omega arith; inactive = λ e. refl; once = refl }) now))

begins_leave : {T R X : Type 0} (of : Naming T R X) (st : waiting.ModelState T R) (before : State) (s : ℕ) → NearAt of [] st before → is_free (model_slot st s).kind ≡ false → waiting.has_guard (model_slot st s) ≡ true
    → next st.size before (Begin s job.TheVariants.Leave) ≡ Some (busy before s (machine.slot_at before s).batch (Out false) [], DoneEvent)
begins_leave of st before s n used active =
    at_idle of st before st.size s (Begin s job.TheVariants.Leave) _ n used (begin_leave st.size before s _ (in_machine of st before s n (in_use st s used)) (active_head of st before s true n active))

leave_job : {T R X : Type 0} (puts : R → T → List T) (weight : T → ℕ) → Lighter puts weight → (of : Naming T R X) (P : T × R → Type 0) → Names puts of P → (st : waiting.ModelState T R) (before : State) (s : ℕ) → Holds T R P st → NearAt of [] st before
    → is_free (model_slot st s).kind ≡ false → waiting.has_guard (model_slot st s) ≡ true → JobRun puts of st.size s 0 job.TheVariants.Leave before (with_further puts weight s (part (set_guards st s 0) s))
leave_job puts weight lighter of P names st before s holds n used active =
    let within : s < length st.slots = in_use st s used in
    whole_run puts of st.size s 0 (Begin s job.TheVariants.Leave) before _ (with_further puts weight s (part (set_guards st s 0) s)) (begins_leave of st before s n used active)
    (leave_ends puts weight lighter of P _ st before s _ (run_carried puts of P names st.size s _) holds (near_at_rest of st before s n used) (in_machine of st before s n within) within active (Leads.stays _))

-- The number of an owned slot is given back after the return.
left_run : {T R X : Type 0} (puts : R → T → List T) (weight : T → ℕ) → Lighter puts weight → (of : Naming T R X) (P : T × R → Type 0) → Names puts of P → (size s : ℕ) (before : State) (o : StateAndGone T R) → Holds T R P o.0 → JobRun puts of size s 0 job.TheVariants.Leave before o
    → (owned : Bool) → PieceRun puts of size (IsLeft s owned) before (Reaches of (given_back_if puts weight owned s o))
left_run puts weight lighter of P names size s before o holds run false = record {
  events = run.events;
  answers = run.answers;
  later = run.later;
  makes = (run.events, [], sym (append-nil run.events), run.makes, refl);
  legal = run.legal;
  ends = (run.ends.near, run.ends.gone);
  put = run.put;
}
left_run puts weight lighter of P names size s before o holds run true =
    then_run puts of size (IsJob s job.TheVariants.Leave) (IsEnded s) (IsLeft s true) before o.1 (give_back puts weight o.0 s) (JobEnds of size s 0 o) (λ es fs made ended. (es, fs, refl, made, ended)) run run.ends.gone
    (subst (λ (size : ℕ). PieceRun puts of size (IsEnded s) run.later (Reaches of (give_back puts weight o.0 s))) run.ends.same_size
    (ended_run puts weight lighter of P names s (weighs weight (rest_and_batch o.0 s)) o.0 run.later holds run.ends.near (still_idle of size s o run.later run.answers run.ends) (omega arith)))

pub leave_run : {T R X : Type 0} (puts : R → T → List T) (weight : T → ℕ) → Lighter puts weight → (of : Naming T R X) (P : T × R → Type 0) → Names puts of P → (st : waiting.ModelState T R) (before : State) (s : ℕ) → Holds T R P st → NearAt of [] st before
    → Run puts of (Leave s) st before (step puts weight st (Leave s))
leave_run {T} {R} puts weight lighter of P names st before s holds near =
    run_unless puts of (Leave s) st before done_reply None (no_guard st s) tt (given_back_if puts weight (is_owned (model_slot st s).kind) s (with_further puts weight s (one_guard_less st s))) near (λ e. go ((model_slot st s).guards == 1) refl (guard_of st s e))
  where
    held : HoldsAfter P (with_further puts weight s (part (set_guards st s 0) s))
    held = holds_settled puts weight P names.closed s (part (set_guards st s 0) s) (holds_part P (set_guards st s 0) s (holds_same P st s (record (model_slot st s) { guards = 0 }) refl holds))

    go : (t : Bool) → ((model_slot st s).guards == 1) ≡ t → (is_free (model_slot st s).kind ≡ false) × (waiting.has_guard (model_slot st s) ≡ true)
        → Run puts of (Leave s) st before (Done, given_back_if puts weight (is_owned (model_slot st s).kind) s (with_further puts weight s (if t then part (set_guards st s 0) s else (set_guards st s ((model_slot st s).guards - 1), []))))
    go true e g =
        let o : StateAndGone T R = with_further puts weight s (part (set_guards st s 0) s) in
        let run : PieceRun puts of st.size (IsLeft s (is_owned (model_slot st s).kind)) before (Reaches of (given_back_if puts weight (is_owned (model_slot st s).kind) s o))
        = left_run puts weight lighter of P names st.size s before o held.0 (leave_job puts weight lighter of P names st before s holds near g.0 g.1) (is_owned (model_slot st s).kind) in
        run_of puts of (Leave s) st before (IsLeft s (is_owned (model_slot st s).kind)) (Reaches of (given_back_if puts weight (is_owned (model_slot st s).kind) s o)) Done (given_back_if puts weight (is_owned (model_slot st s).kind) s o) run run.ends (subst (λ (b : Bool). Where b (IsLeft s (is_owned (model_slot st s).kind)) run.events) (sym e) run.makes) (names_none {R = R} of.link (Leave s) run.events (λ e. tt)) tt refl
    go false e g = subst (λ (o : StateAndGone T R). Run puts of (Leave s) st before (Done, o)) (sym (stays_as puts weight st s e g (near.slot s).owned))
        (no_events puts of (Leave s) st before Done (set_guards st s ((model_slot st s).guards - 1)) (near_stays of st before s (near) e g)
        (subst (λ (b : Bool). Where b (IsLeft s (is_owned (model_slot st s).kind)) []) (sym e) refl) refl)

-- each list of the job, where the slot leaves with its last guard
pub leave_job_list : {T R : Type 0} (puts : R → T → List T) (weight : T → ℕ) → Lighter puts weight → (of : ℕ → T) (by : ℕ → R) (st : waiting.ModelState T R) (before : State) (s : ℕ) (events : List Event) (answers : List Answer) (later : State) → NearAt (with_reclaimers of by) [] st before
    → is_free (model_slot st s).kind ≡ false → waiting.has_guard (model_slot st s) ≡ true → IsJob s job.TheVariants.Leave events → play st.size before events ≡ Some (later, answers) → ArePutBy puts of by events answers
    → JobEnds (with_reclaimers of by) st.size s 0 (with_further puts weight s (part (set_guards st s 0) s)) later answers
leave_job_list puts weight lighter of by st before s events answers later n used active makes legal put =
    let within : s < length st.slots = in_use st s used in
    whole_list puts of by st.size s 0 (Begin s job.TheVariants.Leave) before _ later (with_further puts weight s (part (set_guards st s 0) s)) events answers (begins_leave (with_reclaimers of by) st before s n used active) makes legal put (λ now.
    leave_ends puts weight lighter (with_reclaimers of by) Always _ st before s _ (left_carried puts of by st.size s later (handed answers)) (holds_always st) (near_at_rest (with_reclaimers of by) st before s n used) (in_machine (with_reclaimers of by) st before s n within) within active now)

left_list : {T R : Type 0} (puts : R → T → List T) (weight : T → ℕ) → Lighter puts weight → (of : ℕ → T) (by : ℕ → R) (size s : ℕ) (before : State) (o : StateAndGone T R)
    → ((events : List Event) (answers : List Answer) (later : State) → IsJob s job.TheVariants.Leave events → play size before events ≡ Some (later, answers) → ArePutBy puts of by events answers → JobEnds (with_reclaimers of by) size s 0 o later answers)
    → (owned : Bool) (events : List Event) (answers : List Answer) (later : State) → IsLeft s owned events → play size before events ≡ Some (later, answers) → ArePutBy puts of by events answers
    → Reaches (with_reclaimers of by) (given_back_if puts weight owned s o) later answers
left_list {T} {R} puts weight lighter of by size s before o ends false events answers later made legal put =
    let same : events ≡ made.0 = made.2 ∙ ap (λ (l : List Event). made.0 ++ l) made.4 ∙ append-nil made.0 in
    let d : JobEnds (with_reclaimers of by) size s 0 o later answers = ends events answers later (subst (λ (l : List Event). IsJob s job.TheVariants.Leave l) (sym same) made.3) legal put in
    (d.near, d.gone)
left_list {T} {R} puts weight lighter of by size s before o ends true events answers later made legal put =
    then_list puts of by size before later made.0 made.1 answers o.1 (give_back puts weight o.0 s) (ap (λ (l : List Event). play size before l) (sym made.2) ∙ legal) (subst (λ (l : List Event). ArePutBy puts of by l answers) made.2 put)
    (λ middle first last begins put_first goes_on put_last.
    let d : JobEnds (with_reclaimers of by) size s 0 o middle first = ends made.0 first middle made.3 begins put_first in (
      d.gone,
      ended_list puts weight lighter of by s (weighs weight (rest_and_batch o.0 s)) o.0 middle made.1 last later d.near (still_idle (with_reclaimers of by) size s o middle first d) (omega arith) made.4
          (ap (λ (k : ℕ). play k middle made.1) d.same_size ∙ goes_on) put_last,
    ))

pub leave_list : {T R : Type 0} (puts : R → T → List T) (weight : T → ℕ) → Lighter puts weight → (of : ℕ → T) (by : ℕ → R) (st : waiting.ModelState T R) (before : State) (s : ℕ) → NearAt (with_reclaimers of by) [] st before
    → EachList puts of by (Leave s) st before (step puts weight st (Leave s))
leave_list {T} {R} puts weight lighter of by st before s n =
    list_unless puts of by (Leave s) st before done_reply None (no_guard st s) tt (given_back_if puts weight (is_owned (model_slot st s).kind) s (with_further puts weight s (one_guard_less st s))) n (λ e events answers later makes legal names with put.
    go ((model_slot st s).guards == 1) refl (guard_of st s e) events answers later makes legal put)
  where
    go : (t : Bool) → ((model_slot st s).guards == 1) ≡ t → (is_free (model_slot st s).kind ≡ false) × (waiting.has_guard (model_slot st s) ≡ true) → (events : List Event) (answers : List Answer) (later : State) → Where t (IsLeft s (is_owned (model_slot st s).kind)) events
        → play st.size before events ≡ Some (later, answers) → ArePutBy puts of by events answers
        → IsOutcome T R of by (Leave s) (Done, given_back_if puts weight (is_owned (model_slot st s).kind) s (with_further puts weight s (if t then part (set_guards st s 0) s else (set_guards st s ((model_slot st s).guards - 1), [])))) events answers later
    go true e g events answers later makes legal put =
        let ends : Reaches (with_reclaimers of by) (given_back_if puts weight (is_owned (model_slot st s).kind) s (with_further puts weight s (part (set_guards st s 0) s))) later answers
        = left_list puts weight lighter of by st.size s before (with_further puts weight s (part (set_guards st s 0) s))
        (λ es told end whole legal_job put_job. leave_job_list puts weight lighter of by st before s es told end n g.0 g.1 whole legal_job put_job)
        (is_owned (model_slot st s).kind) events answers later makes legal put in
        outcome_of of by (Leave s) Done _ events answers later ends.0 ends.1 refl
    go false e g events answers later makes legal put =
        subst (λ (o : StateAndGone T R). IsOutcome T R of by (Leave s) (Done, o) events answers later) (sym (stays_as puts weight st s e g (n.slot s).owned))
        (no_list of by (Leave s) st.size before Done (set_guards st s ((model_slot st s).guards - 1)) events answers later (near_stays (with_reclaimers of by) st before s n e g) makes legal refl)

-- Enter.

-- an inactive slot in use becomes active, with this many guards
pub near_entered : {T R X : Type 0} (of : Naming T R X) (st : waiting.ModelState T R) (ms : State) (s k : ℕ) → NearAt of [] st ms
    → is_free (model_slot st s).kind ≡ false → waiting.has_guard (model_slot st s) ≡ false → 1 ≤ k → (is_owned (model_slot st s).kind ≡ true → k ≤ 1)
    → NearAt of [] (set_guards st s k) (set_head ms s (Active []))
near_entered {T} {R} of st ms s k n used inactive some owned =
    let none : (model_slot st s).order ≡ [] = (n.slot s).inactive inactive in
    let head : head_of (record (model_slot st s) { guards = k }) ≡ Active []
    = ap (λ (t : Bool). if t then Active (model_slot st s).order else Inactive) (is_some_guard k some) ∙ ap (λ (l : List ℕ). Active l) none in
    let out : Near of (model_slot st s).order (set_guards st s k) (set ms.slots s (machine.slot_at ms s)) (set ms.heads s (head_of (record (model_slot st s) { guards = k }))) ms.batches ms.links ms.rest
    = near_out of st ms.slots ms.heads ms.batches ms.links ms.rest s (record (model_slot st s) { guards = k }) (machine.slot_at ms s) n (in_use st s used)
    (guards_coupled of (model_slot st s) (machine.slot_at ms s) k (n.slot s) used some owned) none in
    subst (λ (l : List ℕ). Near of l (set_guards st s k) ms.slots (set ms.heads s (Active [])) ms.batches ms.links ms.rest) none
    (subst (λ (x : Head). Near of (model_slot st s).order (set_guards st s k) ms.slots (set ms.heads s x) ms.batches ms.links ms.rest) head
    (subst (λ (l : List Slot). Near of (model_slot st s).order (set_guards st s k) l (set ms.heads s (head_of (record (model_slot st s) { guards = k }))) ms.batches ms.links ms.rest) (set-get_or ms.slots s machine.no_slot) out))

pub enter_step : {T R X : Type 0} (of : Naming T R X) (size : ℕ) (st : waiting.ModelState T R) (ms : State) (s : ℕ) → NearAt of [] st ms → is_free (model_slot st s).kind ≡ false → waiting.has_guard (model_slot st s) ≡ false
    → next size ms (EnterHead s) ≡ Some (set_head ms s (Active []), DoneEvent)
enter_step of size st ms s n used inactive =
    let off : is_active (head_at ms s) ≡ false = active_head of st ms s false n inactive in
    if_yes _ _ _ (ap (λ (t : Bool). t && not (is_active (head_at ms s))) (idle_of of st ms s n used) ∙ ap (λ (t : Bool). not t) off)

-- a registered slot has one guard more, or its first
near_more : {T R X : Type 0} (of : Naming T R X) (st : waiting.ModelState T R) (ms : State) (s : ℕ) → NearAt of [] st ms → waiting.has_guard (model_slot st s) ≡ true → (is_free (model_slot st s).kind ≡ false) × (is_owned (model_slot st s).kind ≡ false)
    → NearAt of [] (set_guards st s ((model_slot st s).guards + 1)) ms
near_more of st ms s n e g = near_guards of st ms s ((model_slot st s).guards + 1) n g.0 e (omega arith) (λ f. absurd (let c : true ≡ false = sym f ∙ g.1 in cc))

near_first : {T R X : Type 0} (of : Naming T R X) (st : waiting.ModelState T R) (ms : State) (s : ℕ) → NearAt of [] st ms → waiting.has_guard (model_slot st s) ≡ false → (is_free (model_slot st s).kind ≡ false) × (is_owned (model_slot st s).kind ≡ false)
    → NearAt of [] (set_guards st s ((model_slot st s).guards + 1)) (set_head ms s (Active []))
near_first of st ms s n e g = near_entered of st ms s ((model_slot st s).guards + 1) n g.0 e (omega arith) (λ f. absurd (let c : true ≡ false = sym f ∙ g.1 in cc))

pub enter_run : {T R X : Type 0} (puts : R → T → List T) (weight : T → ℕ) (of : Naming T R X) (st : waiting.ModelState T R) (before : State) (s : ℕ) → NearAt of [] st before
    → Run puts of (Enter s) st before (step puts weight st (Enter s))
enter_run {T} {R} puts weight of st before s near =
    run_unless puts of (Enter s) st before done_reply None (first_refusal (not_registered st s) (too_many st s)) tt (set_guards st s ((model_slot st s).guards + 1), []) near (λ e. go (waiting.has_guard (model_slot st s)) refl (registered_of st s (none_of_two _ _ e).0))
  where
    go : (t : Bool) → waiting.has_guard (model_slot st s) ≡ t → (is_free (model_slot st s).kind ≡ false) × (is_owned (model_slot st s).kind ≡ false)
        → Run puts of (Enter s) st before (Done, (set_guards st s ((model_slot st s).guards + 1), []))
    go true e g = no_events puts of (Enter s) st before Done (set_guards st s ((model_slot st s).guards + 1)) (near_more of st before s (near) e g)
        (sym (ap (λ (b : Bool). if b then [] else EnterHead s ∷ []) e)) refl
    go false e g =
        let n : NearAt of [] st before = near in
        one_event puts of (Enter s) st before _ (EnterHead s) DoneEvent Done (set_guards st s ((model_slot st s).guards + 1)) (enter_step of st.size st before s n g.0 e)
        (near_first of st before s n e g) (sym (ap (λ (b : Bool). if b then [] else EnterHead s ∷ []) e)) tt tt refl refl

pub enter_list : {T R : Type 0} (puts : R → T → List T) (weight : T → ℕ) (of : ℕ → T) (by : ℕ → R) (st : waiting.ModelState T R) (before : State) (s : ℕ) → NearAt (with_reclaimers of by) [] st before
    → EachList puts of by (Enter s) st before (step puts weight st (Enter s))
enter_list {T} {R} puts weight of by st before s n =
    list_unless puts of by (Enter s) st before done_reply None (first_refusal (not_registered st s) (too_many st s)) tt (set_guards st s ((model_slot st s).guards + 1), []) n (λ e events answers later makes legal names with put.
    go (waiting.has_guard (model_slot st s)) refl (registered_of st s (none_of_two _ _ e).0) events answers later makes legal)
  where
    go : (t : Bool) → waiting.has_guard (model_slot st s) ≡ t → (is_free (model_slot st s).kind ≡ false) × (is_owned (model_slot st s).kind ≡ false) → (events : List Event) (answers : List Answer) (later : State) → events ≡ (if t then [] else EnterHead s ∷ [])
        → play st.size before events ≡ Some (later, answers) → IsOutcome T R of by (Enter s) (Done, (set_guards st s ((model_slot st s).guards + 1), [])) events answers later
    go true e g events answers later makes legal =
        no_list of by (Enter s) st.size before Done (set_guards st s ((model_slot st s).guards + 1)) events answers later (near_more (with_reclaimers of by) st before s n e g) makes legal refl
    go false e g events answers later makes legal =
        one_list of by (Enter s) st.size before _ (EnterHead s) DoneEvent Done (set_guards st s ((model_slot st s).guards + 1)) events answers later (enter_step (with_reclaimers of by) st.size st before s n g.0 e)
        (near_first (with_reclaimers of by) st before s n e g) makes legal refl refl
