-- How calls begin and return, what a run of a call is, and what is shown of each list of its events.
use Rattle.std.proofs.Common.{◌≡◌, ℕ, ◌<◌, Bool, true, false, not, ◌&&◌, ◌||◌, if◌then◌else◌, List, [], ◌∷◌, ◌++◌, length, map, get_or, Option, Some, None, Ok, refl, sym, ◌∙◌, ap, subst, option_to_list}
use Rattle.std.proofs.lemmas.List.{length-set, set-get_or}
use Rattle.std.proofs.Math.ListN.{get_or-map}
use Rattle.seize_machine.specs.Machine.State as machine
use Rattle.seize_machine.specs.Machine.State.{State, Slot, Head, Inactive, Active, Append, Mark, Out, Rest, has, is_idle, is_active, head_at, no_slot}
use Rattle.seize_machine.specs.Machine.Event.{Event, Begin}
use Rattle.seize_machine.specs.Machine.Next.{next, slot_set, retiring, is_empty}
use Rattle.seize_machine.specs.declared.machine.event.Job.{Job}
use Rattle.seize_machine.specs.declared.machine.event.Job.TheVariants.{Retire, Flush, Leave, Refresh}
use Rattle.seize_machine.specs.declared.machine.event.Answer.{Answer}
use Rattle.seize_machine.specs.declared.machine.event.Answer.TheVariants.{Done}
use Rattle.seize_table.specs.declared.refusal.Refusal.{Refusal}
use Rattle.seize_model.specs.Waiting.State as waiting
use Rattle.seize_model.specs.Waiting.State.{model_slot}
use Rattle.seize_model.specs.Waiting.Attempt.{StateAndGone, with_gone}
use Rattle.seize_model.specs.Waiting.Calls.{unless, is_free}
use Rattle.seize_model.specs.Waiting.Lists.{Call, Reply, Refused, Effect, reply}
use Rattle.seize_model.specs.Waiting.Lists as calls
use Rattle.seize_model.specs.Agreement.Shows.{ShowsReclaimers, ShowsState, head_of}
use Rattle.seize_model.specs.Agreement.Play.{play, with_answer}
use Rattle.seize_model.specs.Agreement.Events.{IsToReturn, IsJob, MakesFor, NamesValue, NamesOwn, ArePutBy}
use Rattle.seize_model.specs.Agreement.Statement.{IsReply, IsOutcome, EachList}
use Rattle.seize_model.proofs.Simulation.Views.{with_reclaimers, shows_with, stand_of}
use Rattle.seize_model.proofs.Simulation.Runs.{Leads, Returns, to_return, ArePutFor, put_none, put_append}
use Rattle.seize_model.proofs.Simulation.Lists.{Left, left_returns}
use Rattle.seize_model.proofs.Simulation.Events.{busy, at_rest, there, twice, return_step}
use Rattle.seize_model.proofs.Simulation.Coupling.{Near, NearAt, Denote, CoupledSlot, Naming}
use Rattle.seize_model.proofs.Simulation.Work.{own_slot, denote_append}
use Rattle.seize_model.proofs.Simulation.Queues.{Ends}
use Rattle.seize_model.proofs.Cases.{if_yes}
use Rattle.seize_model.proofs.Simulation.Plays.{First, first_of, both_same, play_none, play_first, handed_first, play_append, handed_append, Split, split_of, put_parts}
use Rattle.seize_machine.specs.Machine.History.{handed_value, handed}

-- an event of a slot that is in use and between calls, where a test allows it, changes the slot
change_at_rest : (base : State) (s : ℕ) (batch : List ℕ) (test : Bool) (change : Slot → Slot) → s < length base.slots → test ≡ true
    → (let o : Option (State × Answer) = if is_idle (machine.slot_at (at_rest base s batch) s) && test
    then Some (slot_set (at_rest base s batch) s (change (machine.slot_at (at_rest base s batch) s)), Done)
    else None in o ≡ Some (slot_set base s (change (record { used = true; batch = batch; call = None })), Done))
change_at_rest base s batch test change h passes =
    ap {B = Option (State × Answer)} (λ (slot : Slot). if is_idle slot && test then Some (slot_set (at_rest base s batch) s (change slot), Done) else None)
    (there base s (record { used = true; batch = batch; call = None }) h)
    ∙ if_yes _ _ _ passes
    ∙ ap (λ (k : State). Some (k, Done)) (twice base s _ _)

pub begin_flush : (size : ℕ) (base : State) (s : ℕ) (batch : List ℕ) → s < length base.slots → is_active (head_at base s) ≡ true
    → next size (at_rest base s batch) (Begin s Flush)
    ≡ Some (busy base s batch (if is_empty batch then Rest [] [] else Mark 0 (length base.slots) []) [], Done)
begin_flush size base s batch h active =
    change_at_rest base s batch (is_active (head_at base s))
    (λ (slot : Slot). record slot { call = Some (record { place = if is_empty slot.batch then Rest [] [] else Mark 0 (length (at_rest base s batch).slots) []; queue = [] }) }) h active
    ∙ ap (λ (n : ℕ). Some (busy base s batch (if is_empty batch then Rest [] [] else Mark 0 n []) [], Done))
    (length-set base.slots s (record { used = true; batch = batch; call = None }))

pub begin_leave : (size : ℕ) (base : State) (s : ℕ) (batch : List ℕ) → s < length base.slots → is_active (head_at base s) ≡ true
    → next size (at_rest base s batch) (Begin s Leave) ≡ Some (busy base s batch (Out false) [], Done)
begin_leave size base s batch h active =
    change_at_rest base s batch (is_active (head_at base s))
    (λ (slot : Slot). record slot { call = Some (record { place = Out false; queue = [] }) }) h active

pub begin_refresh : (size : ℕ) (base : State) (s : ℕ) (batch : List ℕ) → s < length base.slots → is_active (head_at base s) ≡ true
    → next size (at_rest base s batch) (Begin s Refresh) ≡ Some (busy base s batch (Out true) [], Done)
begin_refresh size base s batch h active =
    change_at_rest base s batch (is_active (head_at base s))
    (λ (slot : Slot). record slot { call = Some (record { place = Out true; queue = [] }) }) h active

pub begin_retire : (size : ℕ) (base : State) (s v : ℕ) (batch : List ℕ) → s < length base.slots
    → (not (has v base.named) || has v base.loose) ≡ true
    → next size (at_rest base s batch) (Begin s (Retire v)) ≡ Some (busy (retiring base v) s batch (Append v) [], Done)
begin_retire size base s v batch h free =
    change_at_rest (retiring base v) s batch (not (has v base.named) || has v base.loose)
    (λ (slot : Slot). record slot { call = Some (record { place = Append v; queue = [] }) }) h free

-- A slot in use between calls.

pub in_machine : {T R X : Type 0} (of : Naming T R X) (st : waiting.ModelState T R) (ms : State) (s : ℕ) → NearAt of [] st ms → s < length st.slots → s < length ms.slots
in_machine of st ms s n h = rw n.as_many h

at_rest_is : {T R X : Type 0} (of : Naming T R X) (st : waiting.ModelState T R) (ms : State) (s : ℕ) → NearAt of [] st ms → is_free (model_slot st s).kind ≡ false → machine.slot_at ms s ≡ record { used = true; batch = (machine.slot_at ms s).batch; call = None }
at_rest_is of st ms s n used =
    let shown : CoupledSlot of (model_slot st s) (machine.slot_at ms s) = n.slot s in
    let yes_used : (machine.slot_at ms s).used ≡ true = shown.used ∙ ap (λ (t : Bool). not t) used in
    ap (λ (u : Bool). record { used = u; batch = (machine.slot_at ms s).batch; call = (machine.slot_at ms s).call }) yes_used
    ∙ ap (λ (c : Option machine.Progress). record { used = true; batch = (machine.slot_at ms s).batch; call = c }) shown.idle

pub is_at_rest : {T R X : Type 0} (of : Naming T R X) (st : waiting.ModelState T R) (ms : State) (s : ℕ) → NearAt of [] st ms → is_free (model_slot st s).kind ≡ false → ms ≡ at_rest ms s (machine.slot_at ms s).batch
is_at_rest of st ms s n used =
    sym (ap (λ (l : List Slot). record ms { slots = l }) (set-get_or ms.slots s no_slot)) ∙ ap (λ (x : Slot). slot_set ms s x) (at_rest_is of st ms s n used)

pub idle_of : {T R X : Type 0} (of : Naming T R X) (st : waiting.ModelState T R) (ms : State) (s : ℕ) → NearAt of [] st ms → is_free (model_slot st s).kind ≡ false → is_idle (machine.slot_at ms s) ≡ true
idle_of of st ms s n used = ap is_idle (at_rest_is of st ms s n used)

pub near_at_rest : {T R X : Type 0} (of : Naming T R X) (st : waiting.ModelState T R) (ms : State) (s : ℕ) → NearAt of [] st ms → is_free (model_slot st s).kind ≡ false → NearAt of [] st (at_rest ms s (machine.slot_at ms s).batch)
near_at_rest of st ms s n used = subst (λ (k : State). NearAt of [] st k) (is_at_rest of st ms s n used) n

pub head_is : {T R X : Type 0} (of : Naming T R X) (st : waiting.ModelState T R) (slots : List Slot) (heads : List Head) (batches : List machine.Batch) (links : List (Option ℕ)) (rest : List ℕ) (walk : List ℕ) (s : ℕ) → Near of walk st slots heads batches links rest → get_or heads s Inactive ≡ head_of (model_slot st s)
head_is of st slots heads batches links rest walk s n = ap (λ (l : List Head). get_or l s Inactive) n.heads_are ∙ get_or-map head_of st.slots s waiting.unmade_slot

pub head_active : {T R : Type 0} (slot : waiting.ModelSlot T R) → is_active (head_of slot) ≡ waiting.has_guard slot
head_active {T} {R} slot = go (waiting.has_guard slot)
  where
    go : (t : Bool) → is_active (if t then Active slot.order else Inactive) ≡ t
    go true = refl
    go false = refl

-- Pieces of calls.

-- what a piece of a call comes to: the two sides show each other, and what it handed is gone
abbrev pub Reaches : {T R X : Type 0} → Naming T R X → StateAndGone T R → State → List Answer → Type 0
Reaches of o later answers = NearAt of [] o.0 later × Denote of (handed answers) o.1

-- where a job ends, whose slot is in use still
pub record JobEnds {T R X : Type 0} (of : Naming T R X) (size s guards : ℕ) (o : StateAndGone T R) (later : State) (answers : List Answer) : Type 0 where
  pub near : NearAt of [] o.0 later
  pub gone : Denote of (handed answers) o.1
  pub used : is_free (model_slot o.0 s).kind ≡ false
  pub same_size : o.0.size ≡ size
  pub same_guards : (model_slot o.0 s).guards ≡ guards

-- a run of such events, which ends so
pub record PieceRun {T R X : Type 0} (puts : R → T → List T) (of : Naming T R X) (size : ℕ) (makes_such : List Event → Type 0) (before : State) (ends_so : State → List Answer → Type 0) : Type 0 where
  pub events : List Event
  pub answers : List Answer
  pub later : State
  pub makes : makes_such events
  pub legal : play size before events ≡ Some (later, answers)
  pub ends : ends_so later answers
  pub put : ArePutFor puts of events answers

abbrev pub JobRun : {T R X : Type 0} → (R → T → List T) → Naming T R X → ℕ → ℕ → ℕ → Job → State → StateAndGone T R → Type 0
JobRun puts of size s guards j before o = PieceRun puts of size (IsJob s j) before (JobEnds of size s guards o)

job_ends : {T R X : Type 0} (of : Naming T R X) (K : State → List ℕ → Type 0) (size s guards : ℕ) (o : StateAndGone T R) (ends : Ends of K size s guards [] o) (later : State) (answers : List Answer) → later ≡ at_rest ends.base s ends.batch → handed answers ≡ ends.handed
    → JobEnds of size s guards o later answers
job_ends of K size s guards o ends later answers is told = record {
  near = subst (λ (k : State). NearAt of [] o.0 k) (sym is) ends.near;
  gone = ap (λ (hs : List ℕ). map of.name hs) told ∙ ends.gone;
  used = not_free (is_free (model_slot o.0 s).kind) (own_slot of o.0 ends.base s ends.batch ends.near ends.within).used;
  same_size = ends.same_size;
  same_guards = ends.same_guards;
}
  where
    not_free : (b : Bool) → true ≡ not b → b ≡ false
    not_free true e = absurd (cc)
    not_free false e = refl

-- an event with which a call of s begins, and then the events of the call
abbrev pub Whole : ℕ → Event → List Event → Type 0
Whole s e events = (es : List Event) × (events ≡ e ∷ es) × IsToReturn s es

pub whole_run : {T R X : Type 0} (puts : R → T → List T) (of : Naming T R X) (size s guards : ℕ) (e : Event) (before start : State) (o : StateAndGone T R) → next size before e ≡ Some (start, Done)
    → Ends of (λ st hs. Leads puts of size s start hs st) size s guards [] o → PieceRun puts of size (Whole s e) before (JobEnds of size s guards o)
whole_run puts of size s guards e before start o begin ends =
    let run : Returns puts of size s start ends.handed (at_rest ends.base s ends.batch) = to_return puts of size s start ends.handed _ (at_rest ends.base s ends.batch) (return_step size ends.base s ends.batch ends.within) ends.comes in
    record {
      events = e ∷ run.events;
      answers = Done ∷ run.answers;
      later = at_rest ends.base s ends.batch;
      makes = (run.events, refl, run.own);
      legal = play_first size before e run.events start Done begin ∙ ap (λ (r : Option (State × List Answer)). with_answer Done r) run.legal;
      ends = job_ends of _ size s guards o ends (at_rest ends.base s ends.batch) (Done ∷ run.answers) refl run.handed_are;
      put = (put_none puts of e Done refl, run.put);
    }

-- each list of such events
pub whole_list : {T R : Type 0} (puts : R → T → List T) (of : ℕ → T) (by : ℕ → R) (size s guards : ℕ) (e : Event) (before start later : State) (o : StateAndGone T R) (events : List Event) (answers : List Answer) → next size before e ≡ Some (start, Done)
    → Whole s e events → play size before events ≡ Some (later, answers) → ArePutBy puts of by events answers
    → (Left puts of by size s later (handed answers) start [] → Ends (with_reclaimers of by) (Left puts of by size s later (handed answers)) size s guards [] o)
    → JobEnds (with_reclaimers of by) size s guards o later answers
whole_list {T} {R} puts of by size s guards e before start later o events answers begin job legal put work =
    let whole : play size before (e ∷ job.0) ≡ Some (later, answers) = ap (λ (l : List Event). play size before l) (sym job.1) ∙ legal in
    let first : First size before e job.0 later answers = first_of size before e job.0 later answers whole in
    let both : (first.later ≡ start) × (first.answer ≡ Done) = both_same (first.later, first.answer) (start, Done) (sym first.step ∙ begin) in
    let none : handed answers ≡ handed first.rest = ap handed (first.all ∙ ap (λ (a : Answer). a ∷ first.rest) both.1) in
    let put_all : ArePutBy puts of by (e ∷ job.0) (first.answer ∷ first.rest) = subst (λ (l : List Answer). ArePutBy puts of by (e ∷ job.0) l) first.all (subst (λ (l : List Event). ArePutBy puts of by l answers) job.1 put) in
    let ends : Ends (with_reclaimers of by) (Left puts of by size s later (handed answers)) size s guards [] o
    = work (record { events = job.0; answers = first.rest; own = job.2; legal = ap (λ (k : State). play size k job.0) (sym both.0) ∙ first.legal; put = put_all.1; all = sym none }) in
    let last : (later ≡ at_rest ends.base s ends.batch) × (ends.handed ≡ handed answers) = left_returns puts of by size s later (handed answers) ends.base ends.batch ends.handed ends.within ends.comes in
    job_ends (with_reclaimers of by) _ size s guards o ends later answers last.0 (sym last.1)

-- A piece after another one.

pub then_run : {T R X : Type 0} (puts : R → T → List T) (of : Naming T R X) (size : ℕ) (makes_first makes_last makes_all : List Event → Type 0) (before : State) (gone : List (T × R)) (o : StateAndGone T R) (ends_so : State → List Answer → Type 0)
    → ((es fs : List Event) → makes_first es → makes_last fs → makes_all (es ++ fs))
    → (first : PieceRun puts of size makes_first before ends_so) → Denote of (handed first.answers) gone → PieceRun puts of size makes_last first.later (Reaches of o)
    → PieceRun puts of size makes_all before (Reaches of (with_gone gone o))
then_run puts of size makes_first makes_last makes_all before gone o ends_so joins first stand last = record {
  events = first.events ++ last.events;
  answers = first.answers ++ last.answers;
  later = last.later;
  makes = joins first.events last.events first.makes last.makes;
  legal = play_append size before first.later last.later first.events last.events first.answers last.answers first.legal last.legal;
  ends = (last.ends.0, ap (λ (hs : List ℕ). map of.name hs) (handed_append first.answers last.answers) ∙ denote_append of (handed first.answers) (handed last.answers) gone o.1 stand last.ends.1);
  put = put_append puts of size before first.later first.events last.events first.answers last.answers first.legal first.put last.put;
}

pub then_list : {T R : Type 0} (puts : R → T → List T) (of : ℕ → T) (by : ℕ → R) (size : ℕ) (before later : State) (es fs : List Event) (answers : List Answer) (gone : List (T × R)) (o : StateAndGone T R)
    → play size before (es ++ fs) ≡ Some (later, answers) → ArePutBy puts of by (es ++ fs) answers
    → ((middle : State) (first last : List Answer) → play size before es ≡ Some (middle, first) → ArePutBy puts of by es first → play size middle fs ≡ Some (later, last) → ArePutBy puts of by fs last
    → Denote (with_reclaimers of by) (handed first) gone × Reaches (with_reclaimers of by) o later last)
    → Reaches (with_reclaimers of by) (with_gone gone o) later answers
then_list {T} {R} puts of by size before later es fs answers gone o legal put parts =
    let split : Split size before es fs later answers = split_of size before es fs later answers legal in
    let both : ArePutBy puts of by es split.first × ArePutBy puts of by fs split.last
    = put_parts puts of by size before split.middle es fs split.first split.last split.begins (subst (λ (l : List Answer). ArePutBy puts of by (es ++ fs) l) split.all put) in
    let ends : Denote (with_reclaimers of by) (handed split.first) gone × Reaches (with_reclaimers of by) o later split.last
    = parts split.middle split.first split.last split.begins both.0 split.goes_on both.1 in (
      ends.1.0,
      ap (λ (hs : List ℕ). map {B = T × R} (λ n. (of n, by n)) hs) (ap handed split.all ∙ handed_append split.first split.last)
          ∙ denote_append (with_reclaimers of by) (handed split.first) (handed split.last) gone o.1 ends.0 ends.1.1,
    )

-- Calls.

-- a call that names no value at its first event
pub names_none : {T R : Type 0} (of : ℕ → T) (call : Call T R) (events : List Event) → ((e : Event) → NamesValue of call e) → NamesOwn of call events
names_none of call [] h = tt
names_none of call (e ∷ es) h = h e

-- the number that the call retires stands for its value with the reclaimer that the call names
abbrev pub RetiresFor : {T R X : Type 0} → Naming T R X → R → Event → Type 0
RetiresFor of r (Begin i (Retire n)) = of.name n ≡ of.view (of.link n, r)
RetiresFor of r e = Unit {0}

abbrev pub StartsFor : {T R X : Type 0} → Naming T R X → Call T R → List Event → Type 0
StartsFor of (calls.Retire s v r) (e ∷ es) = RetiresFor of r e
StartsFor of (calls.Swap s l new r) (swap ∷ e ∷ es) = RetiresFor of r e
StartsFor of call events = Unit {0}

-- A run of a call.
pub record Run {T R X : Type 0} (puts : R → T → List T) (of : Naming T R X) (call : Call T R) (st : waiting.ModelState T R) (before : State) (told : Effect T R) : Type 0 where
  pub events : List Event
  pub answers : List Answer
  pub later : State
  pub makes : MakesFor told.0 st before call events
  pub names : NamesOwn of.link call events
  pub starts : StartsFor of call events
  pub legal : play st.size before events ≡ Some (later, answers)
  pub near : NearAt of [] told.1.0 later
  pub gone : Denote of (handed answers) told.1.1
  pub reply : IsReply call events answers told.0
  pub put : ArePutFor puts of events answers

pub run_of : {T R X : Type 0} (puts : R → T → List T) (of : Naming T R X) (call : Call T R) (st : waiting.ModelState T R) (before : State) (makes_such : List Event → Type 0) (ends_so : State → List Answer → Type 0) (told : Reply T) (o : StateAndGone T R)
    → (run : PieceRun puts of st.size makes_such before ends_so) → Reaches of o run.later run.answers → MakesFor told st before call run.events → NamesOwn of.link call run.events → StartsFor of call run.events → IsReply call run.events run.answers told → Run puts of call st before (told, o)
run_of puts of call st before makes_such ends_so told o run ends makes names starts r = record {
  events = run.events;
  answers = run.answers;
  later = run.later;
  makes = makes;
  names = names;
  starts = starts;
  legal = run.legal;
  near = ends.0;
  gone = ends.1;
  reply = r;
  put = run.put;
}

pub outcome_of : {T R : Type 0} (of : ℕ → T) (by : ℕ → R) (call : Call T R) (told : Reply T) (o : StateAndGone T R) (events : List Event) (answers : List Answer) (later : State)
    → NearAt (with_reclaimers of by) [] o.0 later → Denote (with_reclaimers of by) (handed answers) o.1 → IsReply call events answers told → IsOutcome T R of by call (told, o) events answers later
outcome_of {T} {R} of by call told o events answers later near gone r =
    let both : ShowsState T R of o.0 later × ShowsReclaimers T R of by o.0 later = shows_with of by o.0 later near in
    record { shows = both.0; reclaimers = both.1; gone = stand_of of by (handed answers) o.1 gone; reply = r }

pub job_outcome : {T R : Type 0} (of : ℕ → T) (by : ℕ → R) (call : Call T R) (size s guards : ℕ) (told : Reply T) (o : StateAndGone T R) (events : List Event) (answers : List Answer) (later : State)
    → JobEnds (with_reclaimers of by) size s guards o later answers → IsReply call events answers told → IsOutcome T R of by call (told, o) events answers later
job_outcome of by call size s guards told o events answers later d r = outcome_of of by call told o events answers later d.near d.gone r

-- a call without events
starts_none : {T R X : Type 0} (of : Naming T R X) (call : Call T R) → StartsFor of call []
starts_none of (calls.Retire s v r) = tt
starts_none of (calls.Swap s l new r) = tt
starts_none of call = tt

pub no_events : {T R X : Type 0} (puts : R → T → List T) (of : Naming T R X) (call : Call T R) (st : waiting.ModelState T R) (before : State) (told : Reply T) (later : waiting.ModelState T R) → NearAt of [] later before → MakesFor told st before call [] → IsReply call [] [] told
    → Run puts of call st before (told, (later, []))
no_events puts of call st before told later n makes r = record {
  events = [];
  answers = [];
  later = before;
  makes = makes;
  names = tt;
  starts = starts_none of call;
  legal = refl;
  near = n;
  gone = refl;
  reply = r;
  put = tt;
}

pub no_list : {T R : Type 0} (of : ℕ → T) (by : ℕ → R) (call : Call T R) (size : ℕ) (before : State) (told : Reply T) (st : waiting.ModelState T R) (events : List Event) (answers : List Answer) (later : State) → NearAt (with_reclaimers of by) [] st before
    → events ≡ [] → play size before events ≡ Some (later, answers) → IsReply call [] [] told → IsOutcome T R of by call (told, (st, [])) events answers later
no_list {T} {R} of by call size before told st events answers later n none legal r =
    let ends : (later ≡ before) × (answers ≡ []) = play_none size before later answers (ap (λ (l : List Event). play size before l) (sym none) ∙ legal) in
    subst (λ (l : List Event). IsOutcome T R of by call (told, (st, [])) l answers later) (sym none)
    (subst (λ (l : List Answer). IsOutcome T R of by call (told, (st, [])) [] l later) (sym ends.1)
    (outcome_of of by call told (st, []) [] [] later (subst (λ (k : State). NearAt (with_reclaimers of by) [] st k) (sym ends.0) n) refl r))

-- a call of one event that hands nothing
abbrev pub OneEvent : State → Answer → State → List Answer → Type 0
OneEvent end answer later answers = (later ≡ end) × (answers ≡ answer ∷ [])

pub one_of : (size : ℕ) (before end : State) (e : Event) (answer : Answer) (later : State) (answers : List Answer) → next size before e ≡ Some (end, answer) → play size before (e ∷ []) ≡ Some (later, answers) → OneEvent end answer later answers
one_of size before end e answer later answers is legal =
    let first : First size before e [] later answers = first_of size before e [] later answers legal in
    let both : (first.later ≡ end) × (first.answer ≡ answer) = both_same (first.later, first.answer) (end, answer) (sym first.step ∙ is) in
    let none : (later ≡ first.later) × (first.rest ≡ []) = play_none size first.later later first.rest first.legal in
    (none.0 ∙ both.0, first.all ∙ ap (λ (a : Answer). a ∷ first.rest) both.1 ∙ ap (λ (l : List Answer). answer ∷ l) none.1)

pub one_event : {T R X : Type 0} (puts : R → T → List T) (of : Naming T R X) (call : Call T R) (st : waiting.ModelState T R) (before later : State) (e : Event) (answer : Answer) (told : Reply T) (after : waiting.ModelState T R) → next st.size before e ≡ Some (later, answer) → NearAt of [] after later
    → MakesFor told st before call (e ∷ []) → NamesValue of.link call e → StartsFor of call (e ∷ []) → handed_value answer ≡ None → IsReply call (e ∷ []) (answer ∷ []) told → Run puts of call st before (told, (after, []))
one_event puts of call st before later e answer told after n near makes names starts none r = record {
  events = e ∷ [];
  answers = answer ∷ [];
  later = later;
  makes = makes;
  names = names;
  starts = starts;
  legal = play_first st.size before e [] later answer n;
  near = near;
  gone = ap (λ (hs : List ℕ). map of.name hs) (handed_first answer [] ∙ ap (λ (o : Option ℕ). option_to_list o ++ handed []) none);
  reply = r;
  put = (put_none puts of e answer none, tt);
}

pub one_list : {T R : Type 0} (of : ℕ → T) (by : ℕ → R) (call : Call T R) (size : ℕ) (before end : State) (e : Event) (answer : Answer) (told : Reply T) (after : waiting.ModelState T R) (events : List Event) (answers : List Answer) (later : State) → next size before e ≡ Some (end, answer)
    → NearAt (with_reclaimers of by) [] after end → events ≡ e ∷ [] → play size before events ≡ Some (later, answers) → handed (answer ∷ []) ≡ [] → IsReply call (e ∷ []) (answer ∷ []) told
    → IsOutcome T R of by call (told, (after, [])) events answers later
one_list {T} {R} of by call size before end e answer told after events answers later n near one legal none r =
    let ends : OneEvent end answer later answers = one_of size before end e answer later answers n (ap (λ (l : List Event). play size before l) (sym one) ∙ legal) in
    subst (λ (l : List Event). IsOutcome T R of by call (told, (after, [])) l answers later) (sym one)
    (subst (λ (l : List Answer). IsOutcome T R of by call (told, (after, [])) (e ∷ []) l later) (sym ends.1)
    (outcome_of of by call told (after, []) (e ∷ []) (answer ∷ []) later (subst (λ (k : State). NearAt (with_reclaimers of by) [] after k) (sym ends.0) near)
    (ap (λ (hs : List ℕ). map {B = T × R} (λ n. (of n, by n)) hs) none) r))

-- a refused call has no events
pub run_unless : {A T R X : Type 0} (puts : R → T → List T) (of : Naming T R X) (call : Call T R) (st : waiting.ModelState T R) (before : State) (f : A → Reply T) (back : Option T) (refusal : Option Refusal) (a : A) (o : StateAndGone T R) → NearAt of [] st before
    → (refusal ≡ None → Run puts of call st before (f a, o)) → Run puts of call st before (reply f back (unless refusal st (Ok a, o)))
run_unless puts of call st before f back None a o n on = on refl
run_unless puts of call st before f back (Some r) a o n on = no_events puts of call st before (Refused r back) st n refl refl

pub list_unless : {A T R : Type 0} (puts : R → T → List T) (of : ℕ → T) (by : ℕ → R) (call : Call T R) (st : waiting.ModelState T R) (before : State) (f : A → Reply T) (back : Option T) (refusal : Option Refusal) (a : A) (o : StateAndGone T R) → NearAt (with_reclaimers of by) [] st before
    → (refusal ≡ None → EachList puts of by call st before (f a, o)) → EachList puts of by call st before (reply f back (unless refusal st (Ok a, o)))
list_unless puts of by call st before f back None a o n on = on refl
list_unless puts of by call st before f back (Some r) a o n on = λ events answers later makes legal names with put.
    no_list of by call st.size before (Refused r back) st events answers later n makes legal refl
