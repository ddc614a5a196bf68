-- The calls that are jobs of the machine: flush, retire, refresh and leave.
use Rattle.std.proofs.Common.{◌≡◌, ℕ, ◌<◌, Bool, true, false, not, ◌&&◌, ◌||◌, ◌==◌, if◌then◌else◌, nat_lt, List, [], ◌∷◌, length, set, Some, None, refl, sym, ◌∙◌, ap, subst, arith}
use Rattle.std.proofs.lemmas.List.{get_or-set_same}
use Rattle.seize_machine.specs.Machine.State as machine
use Rattle.seize_machine.specs.Machine.State.{State, Slot, Head, Inactive, Active, Append, Mark, Out, Rest, has, is_idle, is_active, head_at, waiting_at}
use Rattle.seize_machine.specs.Machine.Event.{Event, Begin, Put, SwapOut}
use Rattle.seize_machine.specs.Machine.Next.{next, set_head, retiring, is_empty}
use Rattle.seize_machine.specs.declared.machine.event.Answer.{Answer}
use Rattle.seize_machine.proofs.Facts.{if_some, and_true}
use Rattle.seize_machine.specs.declared.machine.event.Job as job
use Rattle.seize_machine.specs.declared.machine.event.Answer.TheVariants.{Done as DoneEvent}
use Rattle.seize_model.specs.Waiting.State as waiting
use Rattle.seize_model.specs.Waiting.State.{model_slot, set_slot}
use Rattle.seize_model.specs.Waiting.Attempt.{with_gone, attempt, gives_up, active_slots, release_all, part, put}
use Rattle.seize_model.specs.Waiting.Further.{with_further, Lighter}
use Rattle.seize_model.proofs.WaitingSets.FurtherValues.{afterwards-nil}
use Rattle.seize_model.specs.Waiting.Calls.{no_guard, unused, is_free, is_owned, part_if_alone}
use Rattle.seize_model.specs.Waiting.Lists.{Flush, Retire, Refresh, Done, done_reply, step}
use Rattle.seize_model.specs.Agreement.Shows.{head_of}
use Rattle.seize_model.specs.Agreement.Play.{play}
use Rattle.seize_machine.specs.Machine.History.{handed}
use Rattle.seize_model.specs.Agreement.Events.{IsJob, Where, NamesOwn, RetiresWith, ArePutBy}
use Rattle.seize_model.specs.Agreement.Statement.{IsOutcome, EachList}
use Rattle.seize_model.proofs.Simulation.Views.{with_reclaimers}
use Rattle.seize_model.proofs.Simulation.Paths.{Carried}
use Rattle.seize_model.proofs.Simulation.Determinism.{only_append, only_out}
use Rattle.seize_model.proofs.Simulation.Runs.{Leads, run_carried}
use Rattle.seize_model.proofs.Simulation.Lists.{left_carried}
use Rattle.seize_model.proofs.Simulation.Events.{busy, at_rest, put_step, out_step}
use Rattle.seize_model.proofs.Simulation.Coupling.{Near, NearAt, near_out, Denote, CoupledSlot, Naming}
use Rattle.seize_model.proofs.Simulation.Names.{Names, Holds, holds_always, holds_same, holds_attempt, holds_put, holds_part, Always}
use Rattle.seize_model.proofs.Simulation.Work.{Does, nothing_done, attempt_does, own_slot, in_slots}
use Rattle.seize_model.proofs.Simulation.Walks.{walk_does, after_put}
use Rattle.seize_model.proofs.Simulation.Queues.{Ends, settled_ends}
use Rattle.seize_model.proofs.Simulation.Beginnings.{begin_flush, begin_refresh, begin_retire, in_machine, is_at_rest, near_at_rest, head_is, head_active, JobEnds, JobRun, whole_run, whole_list, names_none, run_of, job_outcome, no_events, no_list, run_unless, list_unless, Run, StartsFor}
use Rattle.seize_model.proofs.Simulation.Plays.{First, first_of}
use Rattle.seize_model.proofs.Cases.{if_yes}
use Rattle.seize_model.proofs.WaitingSets.Refusals.{in_use, used_of, guard_of}
use Rattle.seize_model.proofs.Counts.{set_twice}

-- a call that isn't refused has its slot in use, and a guard
pub active_head : {T R X : Type 0} (of : Naming T R X) (st : waiting.ModelState T R) (ms : State) (s : ℕ) (t : Bool) → NearAt of [] st ms → waiting.has_guard (model_slot st s) ≡ t → is_active (head_at ms s) ≡ t
active_head of st ms s t n e = ap is_active (head_is of st ms.slots ms.heads ms.batches ms.links ms.rest [] s n) ∙ head_active (model_slot st s) ∙ e

-- an event at a slot that is idle, in use
pub at_idle : {T R X : Type 0} (of : Naming T R X) (st : waiting.ModelState T R) (ms : State) (size s : ℕ) (e : Event) (d : State × Answer) → NearAt of [] st ms → is_free (model_slot st s).kind ≡ false
    → next size (at_rest ms s (machine.slot_at ms s).batch) e ≡ Some d → next size ms e ≡ Some d
at_idle of st ms size s e d n used legal = ap (λ (k : State). next size k e) (is_at_rest of st ms s n used) ∙ legal

-- Flush.

flush_does : {T R X : Type 0} (puts : R → T → List T) (of : Naming T R X) (P : T × R → Type 0) (K : State → List ℕ → Type 0) (st : waiting.ModelState T R) (base : State) (s : ℕ) (batch : List ℕ) → Carried puts of P s st.size K
    → Holds T R P st → NearAt of [] st (at_rest base s batch) → s < length base.slots
    → K (busy base s batch (if is_empty batch then Rest [] [] else Mark 0 (length base.slots) []) []) [] → Does puts of K st.size s (model_slot st s).guards [] [] (attempt st s)
flush_does {T} {R} puts of P K st base s [] carried holds n h now =
    let own : CoupledSlot of (model_slot st s) (record { used = true; batch = []; call = None }) = own_slot of st base s [] n h in
    let none : length (model_slot st s).batch ≡ 0 = empty_values (model_slot st s).batch own.batch in
    let gives : gives_up st s ≡ true = gives_none (length (model_slot st s).batch) (active_slots st) none in
    subst (λ o. Does puts of K st.size s (model_slot st s).guards [] [] o) (sym (if_yes (gives_up st s) _ _ gives))
    (nothing_done puts of K st base s [] [] [] n h now)
  where
    empty_values : (values : List (T × R)) → Denote of [] values → length values ≡ 0
    empty_values [] e = refl
    empty_values (v ∷ values) e = absurd (cc)

    gives_none : (a b : ℕ) → a ≡ 0 → ((a == 0) || nat_lt a b) ≡ true
    gives_none a b e = grind arith
flush_does puts of P K st base s (v ∷ batch) carried holds n h now = attempt_does puts of P K st base s (v ∷ batch) [] [] carried holds n h (omega arith) now

flush_ends : {T R X : Type 0} (puts : R → T → List T) (weight : T → ℕ) → Lighter puts weight → (of : Naming T R X) (P : T × R → Type 0) (K : State → List ℕ → Type 0) (st : waiting.ModelState T R) (base : State) (s : ℕ) (batch : List ℕ) → Carried puts of P s st.size K
    → Holds T R P st → NearAt of [] st (at_rest base s batch) → s < length base.slots
    → K (busy base s batch (if is_empty batch then Rest [] [] else Mark 0 (length base.slots) []) []) [] → Ends of K st.size s (model_slot st s).guards [] (with_further puts weight s (attempt st s))
flush_ends puts weight lighter of P K st base s batch carried holds n h now =
    settled_ends puts weight lighter of P K st.size s (model_slot st s).guards [] (attempt st s) carried (holds_attempt P st s holds) (flush_does puts of P K st base s batch carried holds n h now)

-- the flush begins
begins_flush : {T R X : Type 0} (of : Naming T R X) (st : waiting.ModelState T R) (before : State) (s : ℕ) → NearAt of [] st before → is_free (model_slot st s).kind ≡ false → waiting.has_guard (model_slot st s) ≡ true
    → next st.size before (Begin s job.TheVariants.Flush) ≡ Some (busy before s (machine.slot_at before s).batch (if is_empty (machine.slot_at before s).batch then Rest [] [] else Mark 0 (length before.slots) []) [], DoneEvent)
begins_flush of st before s n used active =
    at_idle of st before st.size s (Begin s job.TheVariants.Flush) _ n used (begin_flush st.size before s _ (in_machine of st before s n (in_use st s used)) (active_head of st before s true n active))

pub flush_run : {T R X : Type 0} (puts : R → T → List T) (weight : T → ℕ) → Lighter puts weight → (of : Naming T R X) (P : T × R → Type 0) → Names puts of P → (st : waiting.ModelState T R) (before : State) (s : ℕ) → Holds T R P st → NearAt of [] st before
    → Run puts of (Flush s) st before (step puts weight st (Flush s))
flush_run {T} {R} puts weight lighter of P names st before s holds near =
    run_unless puts of (Flush s) st before done_reply None (no_guard st s) tt (with_further puts weight s (attempt st s)) near (λ e.
    let n : NearAt of [] st before = near in
    let g : (is_free (model_slot st s).kind ≡ false) × (waiting.has_guard (model_slot st s) ≡ true) = guard_of st s e in
    let run : JobRun puts of st.size s (model_slot st s).guards job.TheVariants.Flush before (with_further puts weight s (attempt st s))
    = whole_run puts of st.size s (model_slot st s).guards (Begin s job.TheVariants.Flush) before _ (with_further puts weight s (attempt st s)) (begins_flush of st before s n g.0 g.1)
    (flush_ends puts weight lighter of P _ st before s _ (run_carried puts of P names st.size s _) holds (near_at_rest of st before s n g.0) (in_machine of st before s n (in_use st s g.0)) (Leads.stays _)) in
    run_of puts of (Flush s) st before (IsJob s job.TheVariants.Flush) _ Done (with_further puts weight s (attempt st s)) run (run.ends.near, run.ends.gone) run.makes (names_none {R = R} of.link (Flush s) run.events (λ e. tt)) tt refl)

-- each list of the job
pub flush_job_list : {T R : Type 0} (puts : R → T → List T) (weight : T → ℕ) → Lighter puts weight → (of : ℕ → T) (by : ℕ → R) (st : waiting.ModelState T R) (before : State) (s : ℕ) (events : List Event) (answers : List Answer) (later : State) → NearAt (with_reclaimers of by) [] st before
    → is_free (model_slot st s).kind ≡ false → waiting.has_guard (model_slot st s) ≡ true → IsJob s job.TheVariants.Flush events → play st.size before events ≡ Some (later, answers) → ArePutBy puts of by events answers
    → JobEnds (with_reclaimers of by) st.size s (model_slot st s).guards (with_further puts weight s (attempt st s)) later answers
flush_job_list puts weight lighter of by st before s events answers later n used active makes legal put =
    whole_list puts of by st.size s (model_slot st s).guards (Begin s job.TheVariants.Flush) before _ later (with_further puts weight s (attempt st s)) events answers (begins_flush (with_reclaimers of by) st before s n used active) makes legal put (λ now.
    flush_ends puts weight lighter (with_reclaimers of by) Always _ st before s _ (left_carried puts of by st.size s later (handed answers)) (holds_always st) (near_at_rest (with_reclaimers of by) st before s n used) (in_machine (with_reclaimers of by) st before s n (in_use st s used)) now)

pub flush_list : {T R : Type 0} (puts : R → T → List T) (weight : T → ℕ) → Lighter puts weight → (of : ℕ → T) (by : ℕ → R) (st : waiting.ModelState T R) (before : State) (s : ℕ) → NearAt (with_reclaimers of by) [] st before
    → EachList puts of by (Flush s) st before (step puts weight st (Flush s))
flush_list {T} {R} puts weight lighter of by st before s n =
    list_unless puts of by (Flush s) st before done_reply None (no_guard st s) tt (with_further puts weight s (attempt st s)) n (λ e events answers later makes legal names with put.
    let g : (is_free (model_slot st s).kind ≡ false) × (waiting.has_guard (model_slot st s) ≡ true) = guard_of st s e in
    job_outcome of by (Flush s) st.size s (model_slot st s).guards Done (with_further puts weight s (attempt st s)) events answers later
    (flush_job_list puts weight lighter of by st before s events answers later n g.0 g.1 makes legal put)
    refl)

-- Retire.

retire_ends : {T R X : Type 0} (puts : R → T → List T) (weight : T → ℕ) → Lighter puts weight → (of : Naming T R X) (P : T × R → Type 0) (K : State → List ℕ → Type 0) (st : waiting.ModelState T R) (base : State) (s n : ℕ) (v : T × R) (batch : List ℕ) → Carried puts of P s st.size K
    → Holds T R P st → P v → NearAt of [] st (at_rest base s batch) → s < length base.slots → of.name n ≡ of.view v
    → K (busy (retiring base n) s batch (Append n) []) [] → Ends of K st.size s (model_slot st s).guards [] (with_further puts weight s (put st s v))
retire_ends puts weight lighter of P K st base s n v batch carried holds own near h stands now =
    settled_ends puts weight lighter of P K st.size s (model_slot st s).guards [] (put st s v) carried (holds_put P st s v holds own)
    (after_put puts of P K st (retiring base n) s n v batch [] [] carried holds own near h stands
    (carried.forced _ _ (Put s) _ [] (put_step st.size (retiring base n) s n batch [] h) refl (refl, refl, refl) (only_append st.size (retiring base n) s n batch [] h) now))

begins_retire : {T R X : Type 0} (of : Naming T R X) (st : waiting.ModelState T R) (before : State) (s n : ℕ) → NearAt of [] st before → is_free (model_slot st s).kind ≡ false → (not (has n before.named) || has n before.loose) ≡ true
    → next st.size before (Begin s (job.TheVariants.Retire n)) ≡ Some (busy (retiring before n) s (machine.slot_at before s).batch (Append n) [], DoneEvent)
begins_retire of st before s n near used free =
    at_idle of st before st.size s (Begin s (job.TheVariants.Retire n)) _ near used (begin_retire st.size before s n _ (in_machine of st before s near (in_use st s used)) free)

pub retire_job : {T R X : Type 0} (puts : R → T → List T) (weight : T → ℕ) → Lighter puts weight → (of : Naming T R X) (P : T × R → Type 0) → Names puts of P → (st : waiting.ModelState T R) (before : State) (s n : ℕ) (v : T × R) → Holds T R P st → P v → NearAt of [] st before → is_free (model_slot st s).kind ≡ false
    → (not (has n before.named) || has n before.loose) ≡ true → of.name n ≡ of.view v
    → JobRun puts of st.size s (model_slot st s).guards (job.TheVariants.Retire n) before (with_further puts weight s (put st s v))
retire_job puts weight lighter of P names st before s n v holds own near used free stands =
    whole_run puts of st.size s (model_slot st s).guards (Begin s (job.TheVariants.Retire n)) before _ (with_further puts weight s (put st s v)) (begins_retire of st before s n near used free)
    (retire_ends puts weight lighter of P _ st before s n v _ (run_carried puts of P names st.size s _) holds own (near_at_rest of st before s near used) (in_machine of st before s near (in_use st s used)) stands (Leads.stays _))

pub retire_run : {T R X : Type 0} (puts : R → T → List T) (weight : T → ℕ) → Lighter puts weight → (of : Naming T R X) (P : T × R → Type 0) → Names puts of P → (st : waiting.ModelState T R) (before : State) (s : ℕ) (v : T) (r : R) → Holds T R P st → P (v, r) → NearAt of [] st before
    → Run puts of (Retire s v r) st before (step puts weight st (Retire s v r))
retire_run {T} {R} puts weight lighter of P names st before s v r holds own near =
    run_unless puts of (Retire s v r) st before done_reply (Some v) (unused st s) tt (with_further puts weight s (put st s (v, r))) near (λ e.
    let name : (n : ℕ) × (has n before.named ≡ false) × (of.name n ≡ of.view (v, r)) = names.number (v, r) own before.named in
    let held : of.link name.0 ≡ v = names.link name.0 (v, r) name.2 in
    let run : JobRun puts of st.size s (model_slot st s).guards (job.TheVariants.Retire name.0) before (with_further puts weight s (put st s (v, r)))
    = retire_job puts weight lighter of P names st before s name.0 (v, r) holds own near (used_of st s e) (ap (λ (t : Bool). not t || has name.0 before.loose) name.1) name.2 in
    run_of puts of (Retire s v r) st before (IsJob s (job.TheVariants.Retire name.0)) _ Done (with_further puts weight s (put st s (v, r))) run (run.ends.near, run.ends.gone) (name.0, run.makes)
    (subst (λ (l : List Event). NamesOwn of.link (Retire s v r) l) (sym run.makes.1) held)
    (subst (λ (l : List Event). StartsFor of (Retire s v r) l) (sym run.makes.1) (name.2 ∙ ap (λ (x : T). of.view (x, r)) (sym held))) refl)

-- each list of the job that retires number n
pub retire_job_list : {T R : Type 0} (puts : R → T → List T) (weight : T → ℕ) → Lighter puts weight → (of : ℕ → T) (by : ℕ → R) (st : waiting.ModelState T R) (before : State) (s n : ℕ) (v : T) (r : R) (events : List Event) (answers : List Answer) (later : State) → NearAt (with_reclaimers of by) [] st before
    → is_free (model_slot st s).kind ≡ false → of n ≡ v → IsJob s (job.TheVariants.Retire n) events → play st.size before events ≡ Some (later, answers) → by n ≡ r → ArePutBy puts of by events answers
    → JobEnds (with_reclaimers of by) st.size s (model_slot st s).guards (with_further puts weight s (put st s (v, r))) later answers
retire_job_list {T} {R} puts weight lighter of by st before s n v r events answers later near used stands makes legal with puts_all =
    whole_list puts of by st.size s (model_slot st s).guards (Begin s (job.TheVariants.Retire n)) before _ later (with_further puts weight s (put st s (v, r))) events answers (begins_retire (with_reclaimers of by) st before s n near used free) makes legal puts_all (λ now.
    retire_ends puts weight lighter (with_reclaimers of by) Always _ st before s n (v, r) _ (left_carried puts of by st.size s later (handed answers)) (holds_always st) tt (near_at_rest (with_reclaimers of by) st before s near used) (in_machine (with_reclaimers of by) st before s near (in_use st s used)) pair now)
  where
    begun : First st.size before (Begin s (job.TheVariants.Retire n)) makes.0 later answers
    begun = first_of st.size before (Begin s (job.TheVariants.Retire n)) makes.0 later answers (ap (λ (l : List Event). play st.size before l) (sym makes.1) ∙ legal)

    free : (not (has n before.named) || has n before.loose) ≡ true
    free = (and_true (is_idle (machine.slot_at before s)) (not (has n before.named) || has n before.loose) (if_some (is_idle (machine.slot_at before s) && (not (has n before.named) || has n before.loose)) _ _ begun.step).0).1

    pair : ◌≡◌ {A = T × R} (of n, by n) (v, r)
    pair = ap (λ (x : T). (x, by n)) stands ∙ ap (λ (x : R). (v, x)) with

pub retire_list : {T R : Type 0} (puts : R → T → List T) (weight : T → ℕ) → Lighter puts weight → (of : ℕ → T) (by : ℕ → R) (st : waiting.ModelState T R) (before : State) (s : ℕ) (v : T) (r : R) → NearAt (with_reclaimers of by) [] st before
    → EachList puts of by (Retire s v r) st before (step puts weight st (Retire s v r))
retire_list {T} {R} puts weight lighter of by st before s v r n =
    list_unless puts of by (Retire s v r) st before done_reply (Some v) (unused st s) tt (with_further puts weight s (put st s (v, r))) n (λ e events answers later makes legal names with puts_all.
    job_outcome of by (Retire s v r) st.size s (model_slot st s).guards Done (with_further puts weight s (put st s (v, r))) events answers later
    (retire_job_list puts weight lighter of by st before s makes.0 v r events answers later n (used_of st s e) (subst (λ (l : List Event). NamesOwn of (Retire s v r) l) makes.1.1 names) makes.1 legal (subst (λ (l : List Event). RetiresWith by (Retire s v r) l) makes.1.1 with) puts_all)
    refl)

-- Refresh and leave: the slot parts.

pub out_does : {T R X : Type 0} (puts : R → T → List T) (of : Naming T R X) (P : T × R → Type 0) (K : State → List ℕ → Type 0) (st : waiting.ModelState T R) (base : State) (s : ℕ) (stays : Bool) (batch : List ℕ) (new : waiting.ModelSlot T R) → Carried puts of P s st.size K
    → Holds T R P st → new.batch ≡ (model_slot st s).batch → NearAt of [] st (at_rest base s batch) → s < length base.slots
    → waiting.has_guard (model_slot st s) ≡ true → new.order ≡ [] → head_of new ≡ (if stays then Active [] else Inactive) → CoupledSlot of new (record { used = true; batch = batch; call = None })
    → K (busy base s batch (Out stays) []) [] → Does puts of K st.size s new.guards [] [] (release_all (set_slot st s new) (model_slot st s).order)
out_does {T} {R} puts of P K st base s stays batch new carried holds as_before n h active order head shown now =
    let within : s < length st.slots = rw (← in_slots of st base s batch n) h in
    let out : Near of (model_slot st s).order (set_slot st s new) (set (at_rest base s batch).slots s (record { used = true; batch = batch; call = None })) (set base.heads s (head_of new)) base.batches base.links base.rest
    = near_out of st (at_rest base s batch).slots base.heads base.batches base.links base.rest s new (record { used = true; batch = batch; call = None }) n within shown order in
    let near : NearAt of (model_slot st s).order (set_slot st s new) (at_rest (set_head base s (if stays then Active [] else Inactive)) s batch)
    = subst (λ (x : Head). Near of (model_slot st s).order (set_slot st s new) (at_rest base s batch).slots (set base.heads s x) base.batches base.links base.rest) head
    (subst (λ (l : List Slot). Near of (model_slot st s).order (set_slot st s new) l (set base.heads s (head_of new)) base.batches base.links base.rest) (set_twice base.slots s _ _) out) in
    let walk : waiting_at (head_at base s) ≡ (model_slot st s).order
    = ap waiting_at (head_is of st (at_rest base s batch).slots base.heads base.batches base.links base.rest [] s n) ∙ ap (λ (t : Bool). waiting_at (if t then Active (model_slot st s).order else Inactive)) active in
    let own : model_slot (set_slot st s new) s ≡ new = get_or-set_same st.slots s new waiting.unmade_slot within in
    let swapped : K (busy (set_head base s (if stays then Active [] else Inactive)) s batch (Rest [] (waiting_at (head_at base s))) []) []
    = carried.forced _ _ (SwapOut s) _ [] (out_step st.size base s stays batch [] h) refl (refl, refl, refl) (only_out st.size base s stays batch [] h) now in
    walk_does puts of P K st.size new.guards (set_slot st s new) (set_head base s (if stays then Active [] else Inactive)) s batch (model_slot st s).order [] [] carried (holds_same P st s new as_before holds) near h (n.slot s).once refl (ap (λ (x : waiting.ModelSlot T R). x.guards) own)
    (subst (λ (w : List ℕ). K (busy (set_head base s (if stays then Active [] else Inactive)) s batch (Rest [] w) []) []) walk swapped)

pub settled_nothing : {T R : Type 0} (puts : R → T → List T) (weight : T → ℕ) (st : waiting.ModelState T R) (s : ℕ) → with_further puts weight s (st, []) ≡ (st, [])
settled_nothing puts weight st s = ap (with_gone []) (afterwards-nil puts weight st s)

refresh_ends : {T R X : Type 0} (puts : R → T → List T) (weight : T → ℕ) → Lighter puts weight → (of : Naming T R X) (P : T × R → Type 0) (K : State → List ℕ → Type 0) (st : waiting.ModelState T R) (base : State) (s : ℕ) (batch : List ℕ) → Carried puts of P s st.size K
    → Holds T R P st → NearAt of [] st (at_rest base s batch) → s < length base.slots → waiting.has_guard (model_slot st s) ≡ true
    → K (busy base s batch (Out true) []) [] → Ends of K st.size s (model_slot st s).guards [] (with_further puts weight s (part st s))
refresh_ends puts weight lighter of P K st base s batch carried holds rest h active now =
    let own : CoupledSlot of (model_slot st s) (record { used = true; batch = batch; call = None }) = own_slot of st base s batch rest h in
    settled_ends puts weight lighter of P K st.size s (model_slot st s).guards [] (part st s) carried (holds_part P st s holds)
    (out_does puts of P K st base s true batch (record (model_slot st s) { order = [] }) carried holds refl rest h active refl (ap (λ (t : Bool). if t then Active [] else Inactive) active)
    (record { used = own.used; idle = refl; batch = own.batch; free = own.free; owned = own.owned; inactive = λ e. refl; once = refl }) now)

begins_refresh : {T R X : Type 0} (of : Naming T R X) (st : waiting.ModelState T R) (before : State) (s : ℕ) → NearAt of [] st before → is_free (model_slot st s).kind ≡ false → waiting.has_guard (model_slot st s) ≡ true
    → next st.size before (Begin s job.TheVariants.Refresh) ≡ Some (busy before s (machine.slot_at before s).batch (Out true) [], DoneEvent)
begins_refresh of st before s n used active =
    at_idle of st before st.size s (Begin s job.TheVariants.Refresh) _ n used (begin_refresh st.size before s _ (in_machine of st before s n (in_use st s used)) (active_head of st before s true n active))

pub refresh_run : {T R X : Type 0} (puts : R → T → List T) (weight : T → ℕ) → Lighter puts weight → (of : Naming T R X) (P : T × R → Type 0) → Names puts of P → (st : waiting.ModelState T R) (before : State) (s : ℕ) → Holds T R P st → NearAt of [] st before
    → Run puts of (Refresh s) st before (step puts weight st (Refresh s))
refresh_run {T} {R} puts weight lighter of P names st before s holds near =
    run_unless puts of (Refresh s) st before done_reply None (no_guard st s) tt (with_further puts weight s (part_if_alone st s)) near (λ e. go (is_owned (model_slot st s).kind || ((model_slot st s).guards == 1)) refl (guard_of st s e))
  where
    n : NearAt of [] st before
    n = near

    parts : (is_free (model_slot st s).kind ≡ false) × (waiting.has_guard (model_slot st s) ≡ true) → JobRun puts of st.size s (model_slot st s).guards job.TheVariants.Refresh before (with_further puts weight s (part st s))
    parts g =
        whole_run puts of st.size s (model_slot st s).guards (Begin s job.TheVariants.Refresh) before _ (with_further puts weight s (part st s)) (begins_refresh of st before s (near) g.0 g.1)
        (refresh_ends puts weight lighter of P _ st before s _ (run_carried puts of P names st.size s _) holds (near_at_rest of st before s (near) g.0) (in_machine of st before s (near) (in_use st s g.0)) g.1 (Leads.stays _))

    go : (t : Bool) → (is_owned (model_slot st s).kind || ((model_slot st s).guards == 1)) ≡ t → (is_free (model_slot st s).kind ≡ false) × (waiting.has_guard (model_slot st s) ≡ true) → Run puts of (Refresh s) st before (Done, with_further puts weight s (if t then part st s else (st, [])))
    go true is g =
        let run : JobRun puts of st.size s (model_slot st s).guards job.TheVariants.Refresh before (with_further puts weight s (part st s)) = parts g in
        run_of puts of (Refresh s) st before (IsJob s job.TheVariants.Refresh) _ Done (with_further puts weight s (part st s)) run (run.ends.near, run.ends.gone)
        (subst (λ (b : Bool). Where b (IsJob s job.TheVariants.Refresh) run.events) (sym is) run.makes) (names_none {R = R} of.link (Refresh s) run.events (λ e. tt)) tt refl
    go false is g = subst (λ o. Run puts of (Refresh s) st before (Done, o)) (sym (settled_nothing puts weight st s))
        (no_events puts of (Refresh s) st before Done st (near) (subst (λ (b : Bool). Where b (IsJob s job.TheVariants.Refresh) []) (sym is) refl) refl)

-- each list of the job
pub refresh_job_list : {T R : Type 0} (puts : R → T → List T) (weight : T → ℕ) → Lighter puts weight → (of : ℕ → T) (by : ℕ → R) (st : waiting.ModelState T R) (before : State) (s : ℕ) (events : List Event) (answers : List Answer) (later : State) → NearAt (with_reclaimers of by) [] st before
    → is_free (model_slot st s).kind ≡ false → waiting.has_guard (model_slot st s) ≡ true → IsJob s job.TheVariants.Refresh events → play st.size before events ≡ Some (later, answers) → ArePutBy puts of by events answers
    → JobEnds (with_reclaimers of by) st.size s (model_slot st s).guards (with_further puts weight s (part st s)) later answers
refresh_job_list puts weight lighter of by st before s events answers later n used active makes legal put =
    whole_list puts of by st.size s (model_slot st s).guards (Begin s job.TheVariants.Refresh) before _ later (with_further puts weight s (part st s)) events answers (begins_refresh (with_reclaimers of by) st before s n used active) makes legal put (λ now.
    refresh_ends puts weight lighter (with_reclaimers of by) Always _ st before s _ (left_carried puts of by st.size s later (handed answers)) (holds_always st) (near_at_rest (with_reclaimers of by) st before s n used) (in_machine (with_reclaimers of by) st before s n (in_use st s used)) active now)

pub refresh_list : {T R : Type 0} (puts : R → T → List T) (weight : T → ℕ) → Lighter puts weight → (of : ℕ → T) (by : ℕ → R) (st : waiting.ModelState T R) (before : State) (s : ℕ) → NearAt (with_reclaimers of by) [] st before
    → EachList puts of by (Refresh s) st before (step puts weight st (Refresh s))
refresh_list {T} {R} puts weight lighter of by st before s n =
    list_unless puts of by (Refresh s) st before done_reply None (no_guard st s) tt (with_further puts weight s (part_if_alone st s)) n (λ e events answers later makes legal names with put.
    go (is_owned (model_slot st s).kind || ((model_slot st s).guards == 1)) (guard_of st s e) events answers later makes legal put)
  where
    go : (t : Bool) → (is_free (model_slot st s).kind ≡ false) × (waiting.has_guard (model_slot st s) ≡ true) → (events : List Event) (answers : List Answer) (later : State) → Where t (IsJob s job.TheVariants.Refresh) events
        → play st.size before events ≡ Some (later, answers) → ArePutBy puts of by events answers → IsOutcome T R of by (Refresh s) (Done, with_further puts weight s (if t then part st s else (st, []))) events answers later
    go true g events answers later makes legal put =
        job_outcome of by (Refresh s) st.size s (model_slot st s).guards Done (with_further puts weight s (part st s)) events answers later
        (refresh_job_list puts weight lighter of by st before s events answers later n g.0 g.1 makes legal put)
        refl
    go false g events answers later makes legal put =
        subst (λ o. IsOutcome T R of by (Refresh s) (Done, o) events answers later) (sym (settled_nothing puts weight st s))
        (no_list of by (Refresh s) st.size before Done st events answers later n makes legal refl)
