-- Each list of calls has a naming under which each call in turn is a list of events, whatever the values are.
use Rattle.std.proofs.Common.{◌≡◌, ℕ, zero, suc, ◌+◌, ◌≤◌, List, [], ◌∷◌, ◌++◌, length, get_or, Option, Some, None, option_to_list, refl, sym, ◌∙◌, ap, arith}
use Rattle.std.specs.List.{All, slice_get}
use Rattle.std.proofs.lemmas.List.{length-map}
use Rattle.seize_machine.specs.Machine.State as machine
use Rattle.seize_machine.specs.Machine.Event.{Event, Begin, ExchangeLink}
use Rattle.seize_machine.specs.declared.machine.event.Job.TheVariants.{Retire as RetireJob}
use Rattle.seize_machine.specs.declared.machine.event.Exchange.TheVariants.{Swap as SwapLink}
use Rattle.seize_model.specs.Agreement.Events.{NamesOwn}
use Rattle.seize_model.specs.Waiting.State as waiting
use Rattle.seize_model.specs.Waiting.State.{model_slot, retired_at}
use Rattle.seize_model.specs.Waiting.Calls.{model_link}
use Rattle.seize_model.specs.Waiting.Lists.{Call, Retire, Protect, Swap, step}
use Rattle.seize_model.specs.Agreement.Shows.{held_value, ShowsState}
use Rattle.seize_machine.specs.Machine.History.{handed}
use Rattle.seize_model.specs.Agreement.Statement.{HasLink, IsRun, AreRuns, AgreementAnew}
use Rattle.seize_model.proofs.Simulation.Names.{Holds}
use Rattle.seize_model.proofs.Simulation.Calls.{HoldsOwn, agrees_where}
use Rattle.seize_model.proofs.Simulation.Pairs.{pair_of, number_of}
use Rattle.seize_model.proofs.Simulation.Renaming.{AgreeBelow, past, past_state, map_same, stand_same, shows_same}
use Rattle.seize_model.proofs.Simulation.Descendants.{Comes, all_at, new_naming, new_naming_below, new_naming_names}
use Rattle.seize_model.specs.Waiting.Further.{Lighter}
use Rattle.seize_model.proofs.Simulation.Plays.{played_links}

-- The roots of a call: the values that wait or are retired, and those that the call retires or puts into a link.

-- what a link holds, to be reclaimed by this reclaimer
abbrev pub with_reclaimer : {T R : Type 0} → R → Option T → List (T × R)
with_reclaimer r None = []
with_reclaimer r (Some v) = (v, r) ∷ []

-- what a call retires or puts into a link, or takes out of one
abbrev pub own_values : {T R : Type 0} → waiting.ModelState T R → Call T R → List (T × R)
own_values st (Retire s v r) = (v, r) ∷ []
own_values st (Swap s l new r) = with_reclaimer r new ++ with_reclaimer r (model_link st l)
own_values st _ = []

-- the roots of four kinds: the call's own, what was left, those of a slot's batch and those of a retired batch
abbrev pub root_of : {T R : Type 0} → waiting.ModelState T R → List (T × R) → ℕ → ℕ → Option (T × R)
root_of st own zero i = slice_get own i
root_of st own (suc zero) i = slice_get st.rest i
root_of st own (suc (suc zero)) i = slice_get (model_slot st (pair_of i).0).batch (pair_of i).1
root_of st own (suc (suc (suc kind))) i = slice_get (retired_at st (pair_of i).0) (pair_of i).1

abbrev pub roots : {T R : Type 0} → waiting.ModelState T R → List (T × R) → ℕ → Option (T × R)
roots st own n = root_of st own (pair_of n).0 (pair_of n).1

root_comes : {T R : Type 0} (puts : R → T → List T) (st : waiting.ModelState T R) (own : List (T × R)) (kind i : ℕ) (v : T × R) → root_of st own kind i ≡ Some v → Comes puts (roots st own) v
root_comes puts st own kind i v e = (0, (number_of kind i).0, ap (λ (p : ℕ × ℕ). root_of st own p.0 p.1) (number_of kind i).1 ∙ e)

roots_hold : {T R : Type 0} (puts : R → T → List T) (st : waiting.ModelState T R) (own : List (T × R)) → Holds T R (Comes puts (roots st own)) st
roots_hold {T} {R} puts st own = record {
  batches = λ s. all_at (Comes puts (roots st own)) (model_slot st s).batch (λ i v e. root_comes puts st own 2 (number_of s i).0 v (ap (λ (p : ℕ × ℕ). slice_get (model_slot st p.0).batch p.1) (number_of s i).1 ∙ e));
  retired = λ b. all_at (Comes puts (roots st own)) (retired_at st b) (λ i v e. root_comes puts st own 3 (number_of b i).0 v (ap (λ (p : ℕ × ℕ). slice_get (retired_at st p.0) p.1) (number_of b i).1 ∙ e));
  rest = all_at (Comes puts (roots st own)) st.rest (λ i v e. root_comes puts st own 1 i v e);
}

own_holds : {T R : Type 0} (puts : R → T → List T) (st : waiting.ModelState T R) (call : Call T R) → HoldsOwn (Comes puts (roots st (own_values st call))) st call
own_holds puts st (Retire s v r) = root_comes puts st ((v, r) ∷ []) 0 0 (v, r) refl
own_holds {T} {R} puts st (Swap s l new r) = (
  λ v e. root_comes puts st (with_reclaimer r new ++ with_reclaimer r (model_link st l)) 0 0 (v, r) (first new v e),
  λ v e. root_comes puts st (with_reclaimer r new ++ with_reclaimer r (model_link st l)) 0 (place new) (v, r) (second new (model_link st l) v e),
)
  where
    place : Option T → ℕ
    place None = 0
    place (Some x) = 1

    first : (x : Option T) (v : T) → x ≡ Some v → slice_get (with_reclaimer r x ++ with_reclaimer r (model_link st l)) 0 ≡ Some (v, r)
    first x v e = ap (λ (y : Option T). slice_get (with_reclaimer r y ++ with_reclaimer r (model_link st l)) 0) e

    second : (x y : Option T) (v : T) → y ≡ Some v → slice_get (with_reclaimer r x ++ with_reclaimer r y) (place x) ≡ Some (v, r)
    second None y v e = ap (λ (z : Option T). slice_get (with_reclaimer r z) 0) e
    second (Some x) y v e = ap (λ (z : Option T). slice_get (with_reclaimer r z) 0) e
own_holds puts st call = tt

-- one call is a run under a naming that is as before below a bound
pub call_anew : {T R : Type 0} (puts : R → T → List T) (weight : T → ℕ) → Lighter puts weight → (bound : ℕ) (of : ℕ → T) (st : waiting.ModelState T R) (before : machine.State) (call : Call T R) → HasLink st call → ShowsState T R of st before → past_state before ≤ bound
    → (other : ℕ → T) × AgreeBelow bound of other × IsRun T R other call st before (step puts weight st call)
call_anew {T} {R} puts weight lighter bound of st before call link shows h =
    let same : AgreeBelow bound of (new_naming puts (roots st (own_values st call)) bound of) = new_naming_below puts (roots st (own_values st call)) bound of in (
      new_naming puts (roots st (own_values st call)) bound of,
      same,
      agrees_where puts weight (new_naming puts (roots st (own_values st call)) bound of) (Comes puts (roots st (own_values st call))) lighter (new_naming_names puts (roots st (own_values st call)) bound of) st before call link
          (roots_hold puts st (own_values st call)) (own_holds puts st call) (shows_same bound of (new_naming puts (roots st (own_values st call)) bound of) st before same h shows),
    )

-- a link that is there stays there
still_linked : {T R : Type 0} (st later : waiting.ModelState T R) (call : Call T R) → length later.links ≡ length st.links → HasLink st call → HasLink later call
still_linked st later (Protect s l) e h = omega arith
still_linked st later (Swap s l new r) e h = omega arith
still_linked st later call e h = tt

-- past the number with which a call begins
abbrev pub number_in : Event → List ℕ
number_in (Begin s (RetireJob n)) = n ∷ []
number_in (ExchangeLink s l (SwapLink n)) = option_to_list n
number_in e = []

abbrev pub past_first : List Event → ℕ
past_first [] = 0
past_first (e ∷ es) = past (number_in e)

-- that number stands for the same
names_same : {T R : Type 0} (bound : ℕ) (of other : ℕ → T) (call : Call T R) (events : List Event) → AgreeBelow bound of other → past_first events ≤ bound → NamesOwn of call events → NamesOwn other call events
names_same bound of other call [] same h names = tt
names_same bound of other (Retire s v r) (Begin i (RetireJob n) ∷ es) same h names = same n (omega arith) ∙ names
names_same bound of other (Swap s l new r) (ExchangeLink i k (SwapLink None) ∷ es) same h names = names
names_same bound of other (Swap s l new r) (ExchangeLink i k (SwapLink (Some n)) ∷ es) same h names = ap (λ x. Some x) (same n (omega arith)) ∙ names
names_same bound of other call (e ∷ es) same h names = names

-- Each call of a list is a run, all under one naming: a later naming is as before on the numbers that stand in the state at which a
-- call was made and on those that it handed.
pub calls_anew : {T R : Type 0} (puts : R → T → List T) (weight : T → ℕ) → Lighter puts weight → (bound : ℕ) (of : ℕ → T) (st : waiting.ModelState T R) (before : machine.State) (calls : List (Call T R)) → All (HasLink st) calls → ShowsState T R of st before
    → (other : ℕ → T) × AgreeBelow bound of other × ShowsState T R other st before × AreRuns puts weight other st before calls
calls_anew puts weight lighter bound of st before [] links shows = (of, λ n h. refl, shows, tt)
calls_anew {T} {R} puts weight lighter bound of st before (call ∷ calls) links shows =
    let one : (other : ℕ → T) × AgreeBelow (bound + past_state before) of other × IsRun T R other call st before (step puts weight st call)
    = call_anew puts weight lighter (bound + past_state before) of st before call (links 0 call (omega arith)) shows (omega arith) in
    let run : IsRun T R one.0 call st before (step puts weight st call) = one.2 in
    let many : length (step puts weight st call).1.0.links ≡ length st.links
    = ap length (sym run.shows.links) ∙ length-map run.later.links (held_value one.0) ∙ played_links st.size run.events before run.later run.answers run.legal
    ∙ sym (length-map before.links (held_value of)) ∙ ap length shows.links in
    let rest : (other : ℕ → T) × AgreeBelow (bound + past_state before + past (handed run.answers) + past_first run.events) one.0 other × ShowsState T R other (step puts weight st call).1.0 run.later × AreRuns puts weight other (step puts weight st call).1.0 run.later calls
    = calls_anew puts weight lighter (bound + past_state before + past (handed run.answers) + past_first run.events) one.0 (step puts weight st call).1.0 run.later calls
    (λ k d h. still_linked st (step puts weight st call).1.0 (get_or calls k d) many (links (suc k) d (omega arith))) run.shows in
    let same : AgreeBelow (bound + past_state before) of rest.0 = λ n h. rest.1 n (omega arith) ∙ one.1 n h in (
      rest.0,
      λ n h. same n (omega arith),
      shows_same (bound + past_state before) of rest.0 st before same (omega arith) shows,
      (
        record {
          events = run.events;
          answers = run.answers;
          later = run.later;
          makes = run.makes;
          names = names_same (bound + past_state before + past (handed run.answers) + past_first run.events) one.0 rest.0 call run.events rest.1 (omega arith) run.names;
          legal = run.legal;
          shows = rest.2;
          gone = stand_same (bound + past_state before + past (handed run.answers) + past_first run.events) one.0 rest.0 (handed run.answers) (step puts weight st call).1.1 rest.1 (omega arith) run.gone;
          reply = run.reply;
        },
        rest.3,
      ),
    )

-- the same of any numbers that are to be kept
pub agrees_anew : {T R : Type 0} (puts : R → T → List T) (weight : T → ℕ) → Lighter puts weight → AgreementAnew puts weight
agrees_anew {T} {R} puts weight lighter of kept st before calls links shows =
    let found : (other : ℕ → T) × AgreeBelow (past kept) of other × ShowsState T R other st before × AreRuns puts weight other st before calls = calls_anew puts weight lighter (past kept) of st before calls links shows in
    (found.0, map_same (past kept) of found.0 kept found.1 (omega arith), found.2, found.3)
