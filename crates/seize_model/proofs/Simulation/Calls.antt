-- The two models agree.
use Rattle.std.proofs.Common.{◌≡◌, ℕ, false, List, [], ◌∷◌, Option, Some, None, refl, sym, ◌∙◌, ap}
use Rattle.seize_machine.specs.Machine.State as machine
use Rattle.seize_machine.specs.Machine.State.{has}
use Rattle.seize_machine.specs.Machine.Event.{Event, Begin, Hand}
use Rattle.seize_machine.specs.declared.machine.event.Job.TheVariants.{Retire as RetireJob}
use Rattle.seize_machine.specs.declared.machine.event.Answer.{Answer}
use Rattle.seize_machine.specs.declared.machine.event.Answer.TheVariants.{Handed}
use Rattle.seize_model.specs.Waiting.State as waiting
use Rattle.seize_model.specs.Waiting.Calls.{model_link}
use Rattle.seize_model.specs.Waiting.Further.{put_by, Lighter}
use Rattle.seize_model.specs.Waiting.Lists.{Call, Register, EnterOwned, Enter, Leave, End, Refresh, Flush, Retire, Protect, Swap, step}
use Rattle.seize_model.specs.Agreement.Shows.{ShowsState}
use Rattle.seize_machine.specs.Machine.History.{handed}
use Rattle.seize_model.specs.Agreement.Events.{IsRetiredWith, RetiresWith, IsPutBy, ArePutBy}
use Rattle.seize_model.specs.Agreement.Statement.{HasNames, HasNamesFor, HasLink, IsHeldFor, HoldsFor, IsRun, Agreement, AgreementWith, EachList, AgreementOnLists}
use Rattle.seize_model.proofs.Simulation.Names.{Names, Holds, Always, all_always, holds_always}
use Rattle.seize_model.proofs.Simulation.Coupling.{Naming, NearAt}
use Rattle.seize_model.proofs.Simulation.Views.{contents, with_reclaimers, near_of, near_with, shows_of, shows_with, stand_of, stand_for}
use Rattle.seize_model.proofs.Simulation.Runs.{PutFor, ArePutFor}
use Rattle.seize_model.proofs.Simulation.Beginnings.{Run, RetiresFor, StartsFor}
use Rattle.seize_model.proofs.Simulation.Links as links
use Rattle.seize_model.proofs.Simulation.Jobs.{flush_run, flush_list, retire_run, retire_list, refresh_run, refresh_list}
use Rattle.seize_model.proofs.Simulation.Guards.{leave_run, leave_list, enter_run, enter_list}
use Rattle.seize_model.proofs.Simulation.Links.{end_run, end_list, protect_run, protect_list, swap_run, swap_list}
use Rattle.seize_model.proofs.Simulation.Numbers.{register_run, register_list, owned_run, owned_list}

-- the values that a call retires or puts into a link have the property
abbrev pub HoldsOwn : {T R : Type 0} → (T × R → Type 0) → waiting.ModelState T R → Call T R → Type 0
HoldsOwn P st (Retire s v r) = P (v, r)
HoldsOwn {T} P st (Swap s l new r) = ((v : T) → new ≡ Some v → P (v, r)) × ((v : T) → model_link st l ≡ Some v → P (v, r))
HoldsOwn P st _ = Unit {0}

-- and what a link holds is to be retired as the call says
abbrev pub HeldFor : {T R X : Type 0} → Naming T R X → machine.State → Call T R → Type 0
HeldFor of before (Swap s l new r) = links.IsHeldFor of r (machine.link_at before l)
HeldFor of before call = Unit {0}

-- where the values with a property have names, and those of the state and the call have it
runs_where : {T R X : Type 0} (puts : R → T → List T) (weight : T → ℕ) (of : Naming T R X) (P : T × R → Type 0) → Lighter puts weight → Names puts of P → (st : waiting.ModelState T R) (before : machine.State) (call : Call T R) → HasLink st call
    → Holds T R P st → HoldsOwn P st call → HeldFor of before call → NearAt of [] st before → Run puts of call st before (step puts weight st call)
runs_where puts weight of P lighter names st before Register link holds own for near = register_run puts weight lighter of P names st before holds near
runs_where puts weight of P lighter names st before EnterOwned link holds own for near = owned_run puts weight lighter of P names st before holds near
runs_where puts weight of P lighter names st before (Enter s) link holds own for near = enter_run puts weight of st before s near
runs_where puts weight of P lighter names st before (Leave s) link holds own for near = leave_run puts weight lighter of P names st before s holds near
runs_where puts weight of P lighter names st before (End s) link holds own for near = end_run puts weight lighter of P names st before s holds near
runs_where puts weight of P lighter names st before (Refresh s) link holds own for near = refresh_run puts weight lighter of P names st before s holds near
runs_where puts weight of P lighter names st before (Flush s) link holds own for near = flush_run puts weight lighter of P names st before s holds near
runs_where puts weight of P lighter names st before (Retire s v r) link holds own for near = retire_run puts weight lighter of P names st before s v r holds own near
runs_where puts weight of P lighter names st before (Protect s l) link holds own for near = protect_run puts weight of st before s l link near
runs_where puts weight of P lighter names st before (Swap s l new r) link holds own for near = swap_run puts weight lighter of P names st before s l new r link holds own.0 own.1 for near

-- Runs where numbers stand for what values hold.

held_for : {T R : Type 0} (of : ℕ → T) (before : machine.State) (call : Call T R) → HeldFor (contents of) before call
held_for {T} {R} of before (Swap s l new r) = go (machine.link_at before l)
  where
    go : (found : Option ℕ) → links.IsHeldFor {R = R} (contents of) r found
    go None = tt
    go (Some n) = refl
held_for of before call = tt

pub agrees_where : {T R : Type 0} (puts : R → T → List T) (weight : T → ℕ) (of : ℕ → T) (P : T × R → Type 0) → Lighter puts weight → Names puts (contents of) P → (st : waiting.ModelState T R) (before : machine.State) (call : Call T R) → HasLink st call
    → Holds T R P st → HoldsOwn P st call → ShowsState T R of st before → IsRun T R of call st before (step puts weight st call)
agrees_where puts weight of P lighter names st before call link holds own shows =
    let run : Run puts (contents of) call st before (step puts weight st call) = runs_where puts weight (contents of) P lighter names st before call link holds own (held_for of before call) (near_of of st before shows) in
    record {
      events = run.events;
      answers = run.answers;
      later = run.later;
      makes = run.makes;
      names = run.names;
      legal = run.legal;
      shows = shows_of of (step puts weight st call).1.0 run.later run.near;
      gone = run.gone;
      reply = run.reply;
    }

own_always : {T R : Type 0} (st : waiting.ModelState T R) (call : Call T R) → HoldsOwn Always st call
own_always st (Swap s l new r) = (λ v e. tt, λ v e. tt)
own_always st call = tt

pub agrees : {T R : Type 0} (puts : R → T → List T) (weight : T → ℕ) (of : ℕ → T) → Lighter puts weight → HasNames of → Agreement puts weight of
agrees {T} {R} puts weight of lighter names st before call link shows =
    agrees_where puts weight of Always lighter
    (record { number = λ v k named. names v.0 named; closed = λ v k. all_always (put_by puts v); link = λ n v e. e })
    st before call link (holds_always st) (own_always st call) shows

-- Runs where numbers stand for values with their reclaimers.

pair_same : {T R : Type 0} (a c : T) (b d : R) → ◌≡◌ {A = T × R} (a, b) (c, d) → b ≡ d
pair_same {T} {R} a c b d e = ap (λ (p : T × R). p.1) e

retires_with : {T R : Type 0} (of : ℕ → T) (by : ℕ → R) (r : R) (e : Event) → RetiresFor (with_reclaimers of by) r e → IsRetiredWith by r e
retires_with of by r (Begin i (RetireJob n)) h = pair_same (of n) (of n) (by n) r h
retires_with of by r e h = tt

starts_with : {T R : Type 0} (of : ℕ → T) (by : ℕ → R) (call : Call T R) (events : List Event) → StartsFor (with_reclaimers of by) call events → RetiresWith by call events
starts_with of by (Retire s v r) (e ∷ es) h = retires_with of by r e h
starts_with of by (Swap s l new r) (swap ∷ e ∷ es) h = retires_with of by r e h
starts_with of by call events h = tt

put_with : {T R : Type 0} (puts : R → T → List T) (of : ℕ → T) (by : ℕ → R) (e : Event) (answer : Answer) → PutFor puts (with_reclaimers of by) e answer → IsPutBy puts of by e answer
put_with puts of by (Hand s ns) (Handed v) h = stand_for of by ns (put_by puts h.0) h.2 ∙ ap (put_by puts) (sym h.1)
put_with puts of by e answer h = tt

puts_with : {T R : Type 0} (puts : R → T → List T) (of : ℕ → T) (by : ℕ → R) (events : List Event) (answers : List Answer) → ArePutFor puts (with_reclaimers of by) events answers → ArePutBy puts of by events answers
puts_with puts of by (e ∷ es) (answer ∷ answers) h = (put_with puts of by e answer h.0, puts_with puts of by es answers h.1)
puts_with puts of by events answers h = tt

held_with : {T R : Type 0} (of : ℕ → T) (by : ℕ → R) (before : machine.State) (call : Call T R) → HoldsFor by before call → HeldFor (with_reclaimers of by) before call
held_with {T} {R} of by before (Swap s l new r) h = go (machine.link_at before l) h
  where
    go : (found : Option ℕ) → IsHeldFor by r found → links.IsHeldFor (with_reclaimers of by) r found
    go None k = tt
    go (Some n) k = ap (λ (x : R). (of n, x)) k
held_with of by before call h = tt

pub agrees_with : {T R : Type 0} (puts : R → T → List T) (weight : T → ℕ) (of : ℕ → T) (by : ℕ → R) → Lighter puts weight → HasNamesFor of by → AgreementWith puts weight of by
agrees_with {T} {R} puts weight of by lighter names st before call link held shows reclaimers =
    let run : Run puts (with_reclaimers of by) call st before (step puts weight st call)
    = runs_where puts weight (with_reclaimers of by) Always lighter
    (record {
      number = λ v k named.
          let name : (n : ℕ) × (has n named ≡ false) × (of n ≡ v.0) × (by n ≡ v.1) = names v.0 v.1 named in
          (name.0, name.1, ap (λ (x : T). (x, by name.0)) name.2 ∙ ap (λ (x : R). (v.0, x)) name.3);
      closed = λ v k. all_always (put_by puts v);
      link = λ n v e. ap (λ (p : T × R). p.0) e;
    })
    st before call link (holds_always st) (own_always st call) (held_with of by before call held) (near_with of by st before shows reclaimers) in
    record {
      run = record {
        events = run.events;
        answers = run.answers;
        later = run.later;
        makes = run.makes;
        names = run.names;
        legal = run.legal;
        shows = (shows_with of by (step puts weight st call).1.0 run.later run.near).0;
        gone = stand_of of by (handed run.answers) (step puts weight st call).1.1 run.gone;
        reply = run.reply;
      };
      retires = starts_with of by call run.events run.starts;
      put = puts_with puts of by run.events run.answers run.put;
    }

-- each list of events goes as the call
lists_agree : {T R : Type 0} (puts : R → T → List T) (weight : T → ℕ) → Lighter puts weight → (of : ℕ → T) (by : ℕ → R) (st : waiting.ModelState T R) (before : machine.State) (call : Call T R) → HasLink st call → NearAt (with_reclaimers of by) [] st before
    → EachList puts of by call st before (step puts weight st call)
lists_agree puts weight lighter of by st before Register link n = register_list puts weight lighter of by st before n
lists_agree puts weight lighter of by st before EnterOwned link n = owned_list puts weight lighter of by st before n
lists_agree puts weight lighter of by st before (Enter s) link n = enter_list puts weight of by st before s n
lists_agree puts weight lighter of by st before (Leave s) link n = leave_list puts weight lighter of by st before s n
lists_agree puts weight lighter of by st before (End s) link n = end_list puts weight lighter of by st before s n
lists_agree puts weight lighter of by st before (Refresh s) link n = refresh_list puts weight lighter of by st before s n
lists_agree puts weight lighter of by st before (Flush s) link n = flush_list puts weight lighter of by st before s n
lists_agree puts weight lighter of by st before (Retire s v r) link n = retire_list puts weight lighter of by st before s v r n
lists_agree puts weight lighter of by st before (Protect s l) link n = protect_list puts weight of by st before s l link n
lists_agree puts weight lighter of by st before (Swap s l new r) link n = swap_list puts weight lighter of by st before s l new r link n

pub all_lists_agree : {T R : Type 0} (puts : R → T → List T) (weight : T → ℕ) → Lighter puts weight → AgreementOnLists puts weight
all_lists_agree puts weight lighter of by st before call link shows reclaimers = lists_agree puts weight lighter of by st before call link (near_with of by st before shows reclaimers)
