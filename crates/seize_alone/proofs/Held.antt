-- Whole calls that are made alone lead the hands from the state that they hold to the state that the model says.
use Rattle.std.proofs.Common.{◌≡◌, ◌≢◌, ℕ, ◌==◌, ◌-◌, Bool, true, false, not, if◌then◌else◌, List, [], ◌∷◌, ◌++◌, length, map, Option, Some, None, inl, refl, sym, ap, subst, ◌∙◌}
use Rattle.std.specs.Prelude.{Ok}
use Rattle.std.proofs.lemmas.List.{length-map}
use base.Stored.{Coded}
use Rattle.seize_table.specs.declared.refusal.Refusal.{Refusal}
use Rattle.seize_table.specs.declared.refusal.Refusal.TheVariants.{NotActive, NotInUse}
use Rattle.seize_table.specs.Place.{all_numbers}
use Rattle.seize_machine.specs.Machine.Event.{Begin, Event, Take}
use Rattle.seize_machine.specs.Machine.State as machine
use Rattle.seize_machine.specs.Machine.History.{handed as handed_by}
use Rattle.seize_machine.specs.declared.machine.event.Answer.{Answer}
use Rattle.seize_machine.specs.declared.machine.event.Job.TheVariants.{Flush as FlushJob, Gather as GatherJob, Leave as LeaveJob, Refresh as RefreshJob, Retire as RetireJob}
use Rattle.seize_model.specs.declared.kind.Kind.{Kind}
use Rattle.seize_model.specs.Waiting.State as waiting
use Rattle.seize_model.specs.Waiting.Attempt.{StateAndGone, attempt, attempt_if_full, is_full, part, put}
use Rattle.seize_model.specs.Waiting.Calls.{Response, first_refusal, flush, gathering, given_back_if, is_free, is_owned, least_unused, leave, no_guard, one_guard_less, others_in_use, part_if_alone, refresh, rest_and_batch, retire, set_guards, taking, unless, unused, with_number_in_use, with_rest_gathered}
use Rattle.seize_model.specs.Waiting.Further.{Lighter, with_further}
use Rattle.seize_model.specs.Agreement.Events.{ArePutBy, IsTaken}
use Rattle.seize_model.specs.Agreement.Play.{play}
use Rattle.seize_model.specs.Agreement.Shows.{ShowsReclaimers, ShowsState, StandFor}
use Rattle.seize_model.proofs.Simulation.Beginnings.{JobEnds}
use Rattle.seize_model.proofs.Simulation.Coupling.{NearAt}
use Rattle.seize_model.proofs.Simulation.Gathers.{gather_job_list, may_gather}
use Rattle.seize_model.proofs.Simulation.Guards.{leave_job_list}
use Rattle.seize_model.proofs.Simulation.Jobs.{flush_job_list, refresh_job_list, retire_job_list}
use Rattle.seize_model.proofs.Simulation.Numbers.{take_list, taken_few}
use Rattle.seize_model.proofs.Simulation.Plays.{first_of}
use Rattle.seize_model.proofs.Simulation.Views.{near_with, shows_with, stand_for, with_reclaimers}
use Rattle.seize_model.proofs.WaitingSets.Refusals.{IsIdle}
use Rattle.seize_book.specs.Book.{after}
use Rattle.seize_book.specs.Slots.{slot_number}
use Rattle.seize_book.specs.Tokens.{start}
use Rattle.seize_book.specs.declared.book.pass.Pass.{Pass}
use Rattle.seize_calls.specs.Handing.{AreTheirs, Had, values_handed}
use Rattle.seize_alone.specs.Calls.{CallsAlone, FlushesHeld, GathersHeld, LeavesHeld, PartsHeld, RefreshesHeld, RetiresHeld, TakesFullHeld}
use Rattle.seize_alone.specs.Holding.{AreLent, AreOfKinds, HoldsThen, found, some_slot, some_state, some_value, with_gone_below}
use Rattle.seize_alone.proofs.Below.{active_below, attempt_below, below_out, further_below, gathering_below, guards_below, least_below, left_below, off_below, others_below, part_below, put_below, slot_below, taking_below, used_below}
use Rattle.seize_alone.proofs.Found.{Knows, all_later, found_lent, found_told, has_first, has_left, has_right, lent_append, reclaimers_on, shows_on, told_append}
use Rattle.seize_alone.proofs.Mapped.{attempt_same, full_same, gathered_same, guards_same, least_same, left_same, long_same, others_same, part_same, put_same, slot_same, some_out, use_same, with_further_same}
use Rattle.seize_alone.proofs.Names.{are_had, its_kinds, its_names, kinds_told, names_lent, puts_some, serve_all, some_lighter, weight_some}
use Rattle.seize_alone.proofs.Whole.{Whole, all_made, begin_said, flushed_whole, gathered_whole, left_whole, retired_whole, taken_whole, whole_events, whole_handed, whole_played, whole_put, whole_said}
use Rattle.seize_alone.proofs.Work.{answers_made, events_made}

module _ {T : Type 0} (c : Coded T) (puts : ℕ → T → List T) (st : waiting.ModelState T ℕ) (names : List (ℕ × T)) (kinds : List (ℕ × ℕ)) {pass pass' : Pass} {s : ℕ} {event : Event} {words : List ℕ} {had' : Had}
    (w : Whole pass pass' s event words [] had') (a : CallsAlone c puts st names kinds pass pass' had') (own : List (ℕ × T)) (own_lent : AreLent c.code own) (own_kinds : List (ℕ × ℕ)) (own_told : AreOfKinds pass'.seen own_kinds) where
  abbrev before : machine.State
  before = after (start pass.name) pass.seen

  abbrev later : machine.State
  later = after (start pass'.name) pass'.seen

  abbrev theirs : AreTheirs w.handed w.kepts had'
  theirs = subst (λ (more : Had). AreTheirs w.handed w.kepts more) (sym w.has_had.after) w.has_had.theirs

  abbrev names_then : List (ℕ × T)
  names_then = names ++ (own ++ its_names c puts w.handed had' a.put)

  abbrev kinds_then : List (ℕ × ℕ)
  kinds_then = kinds ++ (own_kinds ++ its_kinds w.handed had')

  pub lent_then : AreLent c.code names_then
  lent_then =
      lent_append c names (own ++ its_names c puts w.handed had' a.put) a.holds.all.lent
      (lent_append c own (its_names c puts w.handed had' a.put) own_lent (names_lent c puts w.handed w.kepts had' a.put theirs))

  pub told_then : AreOfKinds pass'.seen kinds_then
  told_then =
      told_append pass'.seen kinds (own_kinds ++ its_kinds w.handed had') (all_later pass.seen pass'.seen w.grows kinds a.holds.all.told)
      (told_append pass'.seen own_kinds (its_kinds w.handed had') own_told (kinds_told c puts pass'.seen w.handed w.kepts had' a.put theirs w.told (whole_said w)))

  pub own_there : Knows own names_then
  own_there = λ m has. has_right names (own ++ its_names c puts w.handed had' a.put) m (has_left own (its_names c puts w.handed had' a.put) m has)

  pub own_kinds_there : Knows own_kinds kinds_then
  own_kinds_there = λ m has. has_right kinds (own_kinds ++ its_kinds w.handed had') m (has_left own_kinds (its_kinds w.handed had') m has)

  its_there : Knows (its_names c puts w.handed had' a.put) names_then
  its_there = λ m has. has_right names (own ++ its_names c puts w.handed had' a.put) m (has_right own (its_names c puts w.handed had' a.put) m has)

  kinds_there : Knows (its_kinds w.handed had') kinds_then
  kinds_there = λ m has. has_right kinds (own_kinds ++ its_kinds w.handed had') m (has_right own_kinds (its_kinds w.handed had') m has)

  -- where the call begins, and its events

  pub near_before : NearAt (with_reclaimers (found names_then) (found kinds_then)) [] (some_state (with_gone_below a.holds.gone st)) before
  near_before =
      let whole : waiting.ModelState T ℕ = with_gone_below a.holds.gone st in
      near_with (found names_then) (found kinds_then) (some_state whole) before
      (shows_on names (own ++ its_names c puts w.handed had' a.put) kinds (own_kinds ++ its_kinds w.handed had') whole before a.holds.all.shows)
      (reclaimers_on names (own ++ its_names c puts w.handed had' a.put) kinds (own_kinds ++ its_kinds w.handed had') whole before a.holds.all.reclaimers)

  pub legal : play st.size before (events_made (all_made w)) ≡ Some (later, answers_made (all_made w))
  legal = subst (λ (size : ℕ). play size before (events_made (all_made w)) ≡ Some (later, answers_made (all_made w))) (sym a.size) (whole_played w a.sole a.legal)

  pub put_so : ArePutBy (puts_some puts) (found names_then) (found kinds_then) (events_made (all_made w)) (answers_made (all_made w))
  put_so =
      whole_put w (puts_some puts) (found names_then) (found kinds_then)
      (serve_all c puts pass'.name pass'.seen a.distinct a.legal names_then kinds_then lent_then told_then w.handed w.kepts had' a.put theirs w.told (whole_said w) its_there kinds_there)

  -- where it ends

  pub held_then : (size t guards : ℕ) (o : StateAndGone T ℕ) (o' : StateAndGone (Option T) (Option ℕ)) → o' ≡ some_out (below_out a.holds.gone o) → JobEnds (with_reclaimers (found names_then) (found kinds_then)) size t guards o' later (answers_made (all_made w)) → HoldsThen c.code o had' pass'
  held_then size t guards o o' is ends =
      let whole : waiting.ModelState T ℕ = with_gone_below a.holds.gone o.0 in
      let d : JobEnds (with_reclaimers (found names_then) (found kinds_then)) size t guards (some_out (below_out a.holds.gone o)) later (answers_made (all_made w)) =
      subst (λ (x : StateAndGone (Option T) (Option ℕ)). JobEnds (with_reclaimers (found names_then) (found kinds_then)) size t guards x later (answers_made (all_made w))) is ends in
      let both : ShowsState (Option T) (Option ℕ) (found names_then) (some_state whole) later × ShowsReclaimers (Option T) (Option ℕ) (found names_then) (found kinds_then) (some_state whole) later =
      shows_with (found names_then) (found kinds_then) (some_state whole) later d.near in
      let gone : StandFor (found names_then) (found kinds_then) (values_handed w.handed) (map some_value o.1) =
      subst (λ (vs : List ℕ). StandFor (found names_then) (found kinds_then) vs (map some_value o.1)) (whole_handed w) (stand_for (found names_then) (found kinds_then) (handed_by (answers_made (all_made w))) (map some_value o.1) d.gone) in (
        (names_then, kinds_then, record { gone = a.holds.gone; all = record { shows = both.0; reclaimers = both.1; lent = lent_then; told = told_then } }),
        are_had c puts pass'.name pass'.seen a.distinct a.legal names_then kinds_then lent_then told_then w.handed w.kepts had' a.put theirs w.told its_there kinds_there o.1 gone,
      )

-- the slot is the same with `Some` of each value

pub some_used : {T : Type 0} (st : waiting.ModelState T ℕ) (s : ℕ) → is_free (waiting.model_slot st s).kind ≡ false → is_free (waiting.model_slot (some_state st) s).kind ≡ false
some_used {T} st s used = ap (λ (slot : waiting.ModelSlot (Option T) (Option ℕ)). is_free slot.kind) (slot_same st s) ∙ used

pub some_active : {T : Type 0} (st : waiting.ModelState T ℕ) (s : ℕ) → waiting.has_guard (waiting.model_slot st s) ≡ true → waiting.has_guard (waiting.model_slot (some_state st) s) ≡ true
some_active {T} st s active = ap (λ (slot : waiting.ModelSlot (Option T) (Option ℕ)). waiting.has_guard slot) (slot_same st s) ∙ active

pub some_inactive : {T : Type 0} (st : waiting.ModelState T ℕ) (s : ℕ) → waiting.has_guard (waiting.model_slot st s) ≡ false → waiting.has_guard (waiting.model_slot (some_state st) s) ≡ false
some_inactive {T} st s off = ap (λ (slot : waiting.ModelSlot (Option T) (Option ℕ)). waiting.has_guard slot) (slot_same st s) ∙ off

-- where a job ended that left no guard, the slot is in use still

abbrev Rested : {T : Type 0} → waiting.ModelState T ℕ → ℕ → Type 0
Rested st s = (is_free (waiting.model_slot st s).kind ≡ false) × (waiting.has_guard (waiting.model_slot st s) ≡ false)

rested : {T : Type 0} (o : StateAndGone T ℕ) (o' : StateAndGone (Option T) (Option ℕ)) → o' ≡ some_out o → (of : ℕ → Option T) (by : ℕ → Option ℕ) (size s : ℕ) (later : machine.State) (answers : List Answer) → JobEnds (with_reclaimers of by) size s 0 o' later answers → Rested o.0 s
rested {T} o o' is of by size s later answers ends =
    let d : JobEnds (with_reclaimers of by) size s 0 (some_out o) later answers = subst (λ (x : StateAndGone (Option T) (Option ℕ)). JobEnds (with_reclaimers of by) size s 0 x later answers) is ends in
    let slot : waiting.model_slot (some_state o.0) s ≡ some_slot (waiting.model_slot o.0 s) = slot_same o.0 s in (
      ap (λ (k : waiting.ModelSlot (Option T) (Option ℕ)). is_free k.kind) (sym slot) ∙ d.used,
      ap (λ (k : waiting.ModelSlot (Option T) (Option ℕ)). waiting.has_guard k) (sym slot) ∙ ap (λ (n : ℕ). not (n == 0)) d.same_guards,
    )

-- no such call is refused

pub guarded : {T : Type 0} (st : waiting.ModelState T ℕ) (s : ℕ) → is_free (waiting.model_slot st s).kind ≡ false → waiting.has_guard (waiting.model_slot st s) ≡ true → no_guard st s ≡ None
guarded st s used active = λ i. first_refusal (if used i then Some NotInUse else None) (if active i then None else Some NotActive)

pub not_refused : {T : Type 0} (st : waiting.ModelState T ℕ) (refusal : Option Refusal) (o : StateAndGone T ℕ) → refusal ≡ None → unless {A = Unit {0}} refusal st (Ok tt, o) ≡ (Ok tt, o)
not_refused {T} st refusal o none = ap (λ (r : Option Refusal). unless {A = Unit {0}} r st (Ok tt, o)) none

pub answered : {T : Type 0} (c : Coded T) (had' : Had) (pass' : Pass) (o : StateAndGone T ℕ) (told : Response (Unit {0}) T ℕ) → told ≡ (Ok tt, o) → HoldsThen c.code o had' pass' → (told.0 ≡ Ok tt) × HoldsThen c.code told.1 had' pass'
answered {T} c had' pass' o told is held = (ap (λ (r : Response (Unit {0}) T ℕ). r.0) is, subst (λ (r : Response (Unit {0}) T ℕ). HoldsThen c.code r.1 had' pass') (sym is) held)

rested_below : {T : Type 0} (n : ℕ) (st : waiting.ModelState T ℕ) (s : ℕ) → Rested (with_gone_below n st) s → Rested st s
rested_below {T} n st s = subst (λ (slot : waiting.ModelSlot T ℕ). (is_free slot.kind ≡ false) × (waiting.has_guard slot ≡ false)) (slot_below n st s)

module _ {T : Type 0} (c : Coded T) (puts : ℕ → T → List T) (weight : T → ℕ) (lighter : Lighter puts weight) where
  some_lighter_so : Lighter (puts_some puts) (weight_some weight)
  some_lighter_so = some_lighter puts weight lighter

  further_some : (s : ℕ) (o : StateAndGone T ℕ) → with_further (puts_some puts) (weight_some weight) s (some_out o) ≡ some_out (with_further puts weight s o)
  further_some s o = with_further_same puts (puts_some puts) (λ r v. refl) weight (weight_some weight) (λ v. refl) s o

  -- with retired batches below that are gone
  further_so : (n s : ℕ) (o o' : StateAndGone T ℕ) → o ≡ below_out n o' → with_further (puts_some puts) (weight_some weight) s (some_out o) ≡ some_out (below_out n (with_further puts weight s o'))
  further_so n s o o' is = further_some s o ∙ ap some_out (ap (with_further puts weight s) is ∙ further_below n puts weight s o')

  pub retires_held : RetiresHeld c puts weight
  retires_held st names kinds v kind x retired key pass keys key' pass' keys' had' r a lent used =
      let s = slot_number key in let w : Whole pass pass' s (Begin s (RetireJob v)) (kind ∷ []) [] had' = retired_whole r in
      let n = a.holds.gone in let whole : waiting.ModelState T ℕ = with_gone_below a.holds.gone st in
      let own : List (ℕ × T) = (v, x) ∷ [] in let own_kinds : List (ℕ × ℕ) = (v, kind) ∷ [] in
      let own_lent : AreLent c.code own = (lent, tt) in let own_told : AreOfKinds pass'.seen own_kinds = (begin_said w v kind (inl (refl, refl)), tt) in
      let named = found_lent c _ (lent_then c puts st names kinds w a own own_lent own_kinds own_told) v x lent (own_there c puts st names kinds w a own own_lent own_kinds own_told v (has_first (v, x) [])) in
      let of_kind = found_told pass'.name pass'.seen a.distinct a.legal _ (told_then c puts st names kinds w a own own_lent own_kinds own_told) v kind own_told.0 (own_kinds_there c puts st names kinds w a own own_lent own_kinds own_told v (has_first (v, kind) [])) in
      let o = with_further puts weight s (put st s (x, kind)) in
      answered c had' pass' o (retire puts weight st s x kind) (not_refused st (unused st s) o (λ i. if used i then Some NotInUse else None))
      (held_then c puts st names kinds w a own own_lent own_kinds own_told _ _ _ o _
      (ap (with_further (puts_some puts) (weight_some weight) s) (put_same whole s (x, kind)) ∙ further_so n s (put whole s (x, kind)) (put st s (x, kind)) (put_below n st s (x, kind)))
      (retire_job_list (puts_some puts) (weight_some weight) some_lighter_so _ _ (some_state whole) _ s v (Some x) (Some kind) (events_made (all_made w)) (answers_made (all_made w)) _
      (near_before c puts st names kinds w a own own_lent own_kinds own_told) (some_used whole s (used_below n st s used)) named (whole_events w) (legal c puts st names kinds w a own own_lent own_kinds own_told) of_kind (put_so c puts st names kinds w a own own_lent own_kinds own_told)))

  pub flushes_held : FlushesHeld c puts weight
  flushes_held st names kinds retired key pass keys key' pass' keys' had' r a used active =
      let s = slot_number key in let w : Whole pass pass' s (Begin s FlushJob) [] [] had' = flushed_whole r in
      let n = a.holds.gone in let whole : waiting.ModelState T ℕ = with_gone_below a.holds.gone st in
      let o = with_further puts weight s (attempt st s) in
      answered c had' pass' o (flush puts weight st s) (not_refused st (no_guard st s) o (guarded st s used active))
      (held_then c puts st names kinds w a [] tt [] tt _ _ _ o _
      (ap (with_further (puts_some puts) (weight_some weight) s) (attempt_same whole s) ∙ further_so n s (attempt whole s) (attempt st s) (attempt_below n st s))
      (flush_job_list (puts_some puts) (weight_some weight) some_lighter_so _ _ (some_state whole) _ s (events_made (all_made w)) (answers_made (all_made w)) _
      (near_before c puts st names kinds w a [] tt [] tt) (some_used whole s (used_below n st s used)) (some_active whole s (active_below n st s active)) (whole_events w)
      (legal c puts st names kinds w a [] tt [] tt) (put_so c puts st names kinds w a [] tt [] tt)))

  pub parts_held : PartsHeld c puts weight
  parts_held st names kinds key pass keys key' pass' keys' had' r a used guards =
      let s = slot_number key in let w : Whole pass pass' s (Begin s LeaveJob) [] [] had' = left_whole r (refl, refl) in
      let n = a.holds.gone in let whole : waiting.ModelState T ℕ = with_gone_below a.holds.gone st in
      let active : waiting.has_guard (waiting.model_slot st s) ≡ true = ap (λ (n : ℕ). not (n == 0)) guards in
      let o = with_further puts weight s (part (set_guards st s 0) s) in
      let less : one_guard_less st s ≡ part (set_guards st s 0) s = ap (λ (n : ℕ). if n == 1 then part (set_guards st s 0) s else (set_guards st s (n - 1), [])) guards in
      let same : with_further (puts_some puts) (weight_some weight) s (part (set_guards (some_state whole) s 0) s) ≡ some_out (below_out n o) =
      ap (λ (now : waiting.ModelState (Option T) (Option ℕ)). with_further (puts_some puts) (weight_some weight) s (part now s)) (guards_same whole s 0)
      ∙ ap (with_further (puts_some puts) (weight_some weight) s) (part_same (set_guards whole s 0) s)
      ∙ further_so n s (part (set_guards whole s 0) s) (part (set_guards st s 0) s) (ap (λ (now : waiting.ModelState T ℕ). part now s) (guards_below n st s 0) ∙ part_below n (set_guards st s 0) s) in
      let ends = leave_job_list (puts_some puts) (weight_some weight) some_lighter_so _ _ (some_state whole) _ s (events_made (all_made w)) (answers_made (all_made w)) _
      (near_before c puts st names kinds w a [] tt [] tt) (some_used whole s (used_below n st s used)) (some_active whole s (active_below n st s active)) (whole_events w)
      (legal c puts st names kinds w a [] tt [] tt) (put_so c puts st names kinds w a [] tt [] tt) in
      let rests : Rested o.0 s = rested_below n o.0 s (rested (below_out n o) _ same _ _ _ s _ _ ends) in
      subst (λ (now : StateAndGone T ℕ). HoldsThen c.code now had' pass' × (is_free (waiting.model_slot now.0 s).kind ≡ false) × (waiting.has_guard (waiting.model_slot now.0 s) ≡ false)) (ap (with_further puts weight s) (sym less))
      (held_then c puts st names kinds w a [] tt [] tt _ _ _ o _ same ends, rests.0, rests.1)

  pub leaves_held : LeavesHeld c puts weight
  leaves_held st names kinds key pass keys key' pass' keys' had' r a kind guards =
      let s = slot_number key in let used : is_free (waiting.model_slot st s).kind ≡ false = ap is_free kind in
      let o = with_further puts weight s (one_guard_less st s) in
      answered c had' pass' o (leave puts weight st s)
      (not_refused st (no_guard st s) (given_back_if puts weight (is_owned (waiting.model_slot st s).kind) s o) (guarded st s used (ap (λ (n : ℕ). not (n == 0)) guards)) ∙ ap (λ (k : Kind). (Ok tt, given_back_if puts weight (is_owned k) s o)) kind)
      (parts_held st names kinds key pass keys key' pass' keys' had' r a used guards).0

  pub refreshes_held : RefreshesHeld c puts weight
  refreshes_held st names kinds life key pass keys key' pass' keys' had' r a used active parts =
      let s = slot_number key in let w : Whole pass pass' s (Begin s RefreshJob) [] [] had' = left_whole r (refl, refl) in
      let n = a.holds.gone in let whole : waiting.ModelState T ℕ = with_gone_below a.holds.gone st in
      let o = with_further puts weight s (part st s) in
      answered c had' pass' o (refresh puts weight st s)
      (not_refused st (no_guard st s) (with_further puts weight s (part_if_alone st s)) (guarded st s used active) ∙ ap (λ (b : Bool). (Ok tt, with_further puts weight s (if b then part st s else (st, [])))) parts)
      (held_then c puts st names kinds w a [] tt [] tt _ _ _ o _ (ap (with_further (puts_some puts) (weight_some weight) s) (part_same whole s) ∙ further_so n s (part whole s) (part st s) (part_below n st s))
      (refresh_job_list (puts_some puts) (weight_some weight) some_lighter_so _ _ (some_state whole) _ s (events_made (all_made w)) (answers_made (all_made w)) _
      (near_before c puts st names kinds w a [] tt [] tt) (some_used whole s (used_below n st s used)) (some_active whole s (active_below n st s active)) (whole_events w)
      (legal c puts st names kinds w a [] tt [] tt) (put_so c puts st names kinds w a [] tt [] tt)))

  -- A number is taken, or what was left is gathered.

  taking_some : (st : waiting.ModelState T ℕ) (n : ℕ) (kind : Kind) → taking (puts_some puts) (weight_some weight) (some_state st) n kind ≡ some_out (taking puts weight st n kind)
  taking_some st n kind =
      ap (λ (now : waiting.ModelState (Option T) (Option ℕ)). with_further (puts_some puts) (weight_some weight) n (attempt_if_full now n)) (use_same st n kind)
      ∙ ap (with_further (puts_some puts) (weight_some weight) n) (full_same (with_number_in_use st n kind) n) ∙ further_some n (attempt_if_full (with_number_in_use st n kind) n)

  gathering_some : (st : waiting.ModelState T ℕ) (s : ℕ) → gathering (puts_some puts) (weight_some weight) (some_state st) s ≡ some_out (gathering puts weight st s)
  gathering_some st s =
      ap (λ (now : waiting.ModelState (Option T) (Option ℕ)). with_further (puts_some puts) (weight_some weight) s (attempt now s)) (gathered_same st s)
      ∙ ap (with_further (puts_some puts) (weight_some weight) s) (attempt_same (with_rest_gathered st s) s) ∙ further_some s (attempt (with_rest_gathered st s) s)

  pub takes_full : (st : waiting.ModelState T ℕ) (names : List (ℕ × T)) (kinds : List (ℕ × ℕ)) (kind : Kind) (s : ℕ) (pass pass' : Pass) (had' : Had) → Whole pass pass' s (Take s) [] [] had' → CallsAlone c puts st names kinds pass pass' had' → is_free kind ≡ false → is_full st.size st.rest ≡ true
      → (s ≡ least_unused st.slots) × ((s == all_numbers) ≡ false) × HoldsThen c.code (taking puts weight st s kind) had' pass'
  takes_full st names kinds kind s pass pass' had' w a used full =
      let n = a.holds.gone in let whole : waiting.ModelState T ℕ = with_gone_below n st in
      let near = near_before c puts st names kinds w a [] tt [] tt in let played = legal c puts st names kinds w a [] tt [] tt in
      let events : IsTaken s (is_full st.size (map some_value st.rest)) (events_made (all_made w)) = subst (λ (b : Bool). IsTaken s b (events_made (all_made w))) (sym (long_same st.size st.rest ∙ full)) (whole_events w) in
      let took = take_list (puts_some puts) (weight_some weight) some_lighter_so _ _ (some_state whole) _ s kind (events_made (all_made w)) (answers_made (all_made w)) _ near used events played (put_so c puts st names kinds w a [] tt [] tt) in
      let few : (s == all_numbers) ≡ false = taken_few st.size _ s _ (first_of st.size (after (start pass.name) pass.seen) (Take s) (whole_events w).0 _ _ (ap (λ (l : List Event). play st.size (after (start pass.name) pass.seen) l) (sym (whole_events w).1) ∙ played)).step in
      let ends = took.1 (ap (λ (k : ℕ). k == all_numbers) (sym took.0) ∙ few) in (
        took.0 ∙ least_same whole.slots ∙ least_below n st.slots,
        few,
        held_then c puts st names kinds w a [] tt [] tt _ _ _ (taking puts weight st s kind) _
            (ap (λ (k : ℕ). taking (puts_some puts) (weight_some weight) (some_state whole) k kind) (sym took.0) ∙ taking_some whole s kind ∙ ap some_out (taking_below n puts weight st s kind)) ends,
      )

  pub takes_full_held : TakesFullHeld c puts weight
  takes_full_held st names kinds kind key pass took taken keys key' pass' keys' had' adds r a used full = takes_full st names kinds kind (slot_number key) pass pass' had' (taken_whole {key = key} adds r) a used full

  pub gathers : (st : waiting.ModelState T ℕ) (names : List (ℕ × T)) (kinds : List (ℕ × ℕ)) (s : ℕ) (pass pass' : Pass) (had' : Had) → Whole pass pass' s (Begin s GatherJob) [] [] had' → CallsAlone c puts st names kinds pass pass' had'
      → is_free (waiting.model_slot st s).kind ≡ false → waiting.has_guard (waiting.model_slot st s) ≡ false → HoldsThen c.code (gathering puts weight st s) had' pass' × (others_in_use st s ≡ false) × (rest_and_batch st s ≢ [])
  gathers st names kinds s pass pass' had' w a used off =
      let n = a.holds.gone in let whole : waiting.ModelState T ℕ = with_gone_below n st in
      let near = near_before c puts st names kinds w a [] tt [] tt in let played = legal c puts st names kinds w a [] tt [] tt in
      let idle : IsIdle (some_state whole) s = (some_used whole s (used_below n st s used), some_inactive whole s (off_below n st s off)) in
      let may = may_gather _ st.size (some_state whole) _ s (events_made (all_made w)) _ (answers_made (all_made w)) near idle (whole_events w) played in
      let left : (length (rest_and_batch st s) == 0) ≡ false = ap (λ (k : ℕ). k == 0) (sym (ap length (left_same whole s ∙ ap (map some_value) (left_below n st s)) ∙ length-map (rest_and_batch st s) some_value)) ∙ may.1 in (
        held_then c puts st names kinds w a [] tt [] tt _ _ _ (gathering puts weight st s) _ (gathering_some whole s ∙ ap some_out (gathering_below n puts weight st s))
            (gather_job_list (puts_some puts) (weight_some weight) some_lighter_so _ _ (some_state whole) _ s (events_made (all_made w)) (answers_made (all_made w)) _ near idle may (whole_events w) played (put_so c puts st names kinds w a [] tt [] tt)),
        sym (others_same whole s ∙ others_below n st s) ∙ may.0,
        λ none. let c : true ≡ false = sym (ap (λ (l : List (T × ℕ)). length l == 0) none) ∙ left in absurd (cc),
      )

  pub gathers_held : GathersHeld c puts weight
  gathers_held st names kinds key pass begun began keys key' pass' keys' had' adds r a used off = gathers st names kinds (slot_number key) pass pass' had' (gathered_whole {key = key} adds r) a used off
