-- The calls of one event: end, protect and swap, which may go on with a retirement.
use Rattle.std.proofs.Common.{◌≡◌, ℕ, ◌<◌, Bool, true, false, not, ◌&&◌, ◌||◌, if◌then◌else◌, nat_lt, List, [], ◌∷◌, ◌++◌, length, map, get_or, set, Option, Some, None, Ok, is_some, option_to_list, refl, sym, ◌∙◌, ap, subst, arith}
use Rattle.std.proofs.lemmas.List.{length-map, map-set}
use Rattle.std.proofs.Math.ListN.{get_or-map}
use Rattle.seize_machine.specs.Machine.State as machine
use Rattle.seize_machine.specs.Machine.State.{State, has}
use Rattle.seize_machine.specs.Machine.Event.{Event, ReadLink, ExchangeLink}
use Rattle.seize_machine.specs.Machine.Next.{next, is_none_or_fresh}
use Rattle.seize_machine.specs.Machine.Next as machine_next
use Rattle.seize_machine.specs.declared.machine.event.Job as job
use Rattle.seize_machine.specs.declared.machine.event.Exchange.TheVariants.{Swap as SwapLink}
use Rattle.seize_machine.proofs.Facts.{swapped as link_swapped, if_some, and_true}
use Rattle.seize_machine.specs.declared.machine.event.Answer.{Answer}
use Rattle.seize_machine.specs.declared.machine.event.Answer.TheVariants.{Link}
use Rattle.seize_table.specs.declared.refusal.Refusal.{Refusal}
use Rattle.seize_table.specs.declared.refusal.Refusal.TheVariants.{NotInUse}
use Rattle.seize_model.specs.Waiting.State as waiting
use Rattle.seize_model.specs.Waiting.State.{model_slot}
use Rattle.seize_model.specs.Waiting.Attempt.{put}
use Rattle.seize_model.specs.Waiting.Further.{with_further, Lighter}
use Rattle.seize_model.specs.Waiting.Calls.{no_guard, not_registered, unless, is_free, model_link, rest_and_batch, give_back}
use Rattle.seize_model.specs.Waiting.Lists.{End, Protect, Swap, Reply, Done, Kept, Found, Refused, done_reply, end_reply, reply, retire_old, step}
use Rattle.seize_model.specs.Agreement.Shows.{held_value}
use Rattle.seize_model.specs.Agreement.Play.{play, with_answer, was_given}
use Rattle.seize_machine.specs.Machine.History.{handed}
use Rattle.seize_model.specs.Agreement.Events.{AreEventsOf, MakesFor, NamesOwn, IsEnded, Where, IsRetiredFrom, RetiresWith, ArePutBy}
use Rattle.seize_model.specs.Agreement.Statement.{IsOutcome, EachList}
use Rattle.seize_model.proofs.Simulation.Views.{with_reclaimers}
use Rattle.seize_model.proofs.Simulation.Plays.{play_first, both_same, First, first_of}
use Rattle.seize_model.proofs.Simulation.Events.{lt_yes}
use Rattle.seize_model.proofs.Simulation.Coupling.{NearAt, Naming}
use Rattle.seize_model.proofs.Simulation.Names.{Names, Holds}
use Rattle.seize_model.proofs.Simulation.Beginnings.{Reaches, JobEnds, PieceRun, JobRun, names_none, run_of, outcome_of, no_events, no_list, one_event, one_list, run_unless, list_unless, Run, StartsFor}
use Rattle.seize_model.proofs.Simulation.Jobs.{active_head, retire_job, retire_job_list}
use Rattle.seize_model.proofs.Simulation.Gathers.{ended_run, ended_list}
use Rattle.seize_model.proofs.WaitingSets.Drain.{weighs}
use Rattle.seize_model.proofs.Cases.{if_yes}
use Rattle.seize_model.proofs.WaitingSets.Refusals.{guard_of, registered_of}

-- a number was given back
was_ended : {T : Type 0} (s : ℕ) (events : List Event) → IsEnded s events → ◌≡◌ {A = Reply T} Done (was_given events)
was_ended s _ IsEnded.gives = refl
was_ended {T} s _ (IsEnded.gathers es fs made more) = ap {B = Reply T} (λ (l : List Event). was_given (l ++ fs)) (sym made.1)

pub end_run : {T R X : Type 0} (puts : R → T → List T) (weight : T → ℕ) → Lighter puts weight → (of : Naming T R X) (P : T × R → Type 0) → Names puts of P → (st : waiting.ModelState T R) (before : State) (s : ℕ) → Holds T R P st → NearAt of [] st before
    → Run puts of (End s) st before (step puts weight st (End s))
end_run {T} {R} puts weight lighter of P names st before s holds near = go (waiting.has_guard (model_slot st s)) refl
  where
    go : (t : Bool) → waiting.has_guard (model_slot st s) ≡ t → Run puts of (End s) st before (reply end_reply None (unless (not_registered st s) st (if t then (Ok false, (st, [])) else (Ok true, give_back puts weight st s))))
    go true e = run_unless puts of (End s) st before end_reply None (not_registered st s) false (st, []) near (λ f.
        no_events puts of (End s) st before Kept st near (subst (λ (b : Bool). Where (not b) (IsEnded s) []) (sym e) refl) refl)
    go false e = run_unless puts of (End s) st before end_reply None (not_registered st s) true (give_back puts weight st s) near (λ f.
        let run : PieceRun puts of st.size (IsEnded s) before (Reaches of (give_back puts weight st s))
        = ended_run puts weight lighter of P names s (weighs weight (rest_and_batch st s)) st before holds near ((registered_of st s f).0, e) (omega arith) in
        run_of puts of (End s) st before (IsEnded s) (Reaches of (give_back puts weight st s)) Done (give_back puts weight st s) run run.ends (subst (λ (b : Bool). Where (not b) (IsEnded s) run.events) (sym e) run.makes) (names_none {R = R} of.link (End s) run.events (λ e. tt)) tt (was_ended s run.events run.makes))

pub end_list : {T R : Type 0} (puts : R → T → List T) (weight : T → ℕ) → Lighter puts weight → (of : ℕ → T) (by : ℕ → R) (st : waiting.ModelState T R) (before : State) (s : ℕ) → NearAt (with_reclaimers of by) [] st before
    → EachList puts of by (End s) st before (step puts weight st (End s))
end_list {T} {R} puts weight lighter of by st before s n = go (waiting.has_guard (model_slot st s)) refl
  where
    go : (t : Bool) → waiting.has_guard (model_slot st s) ≡ t → EachList puts of by (End s) st before (reply end_reply None (unless (not_registered st s) st (if t then (Ok false, (st, [])) else (Ok true, give_back puts weight st s))))
    go true e = list_unless puts of by (End s) st before end_reply None (not_registered st s) false (st, []) n (λ f events answers later makes legal names with put.
        no_list of by (End s) st.size before Kept st events answers later n (subst (λ (b : Bool). Where (not b) (IsEnded s) events) e makes) legal refl)
    go false e = list_unless puts of by (End s) st before end_reply None (not_registered st s) true (give_back puts weight st s) n (λ f events answers later makes legal names with put.
        let made : IsEnded s events = subst (λ (b : Bool). Where (not b) (IsEnded s) events) e makes in
        let ends : Reaches (with_reclaimers of by) (give_back puts weight st s) later answers
        = ended_list puts weight lighter of by s (weighs weight (rest_and_batch st s)) st before events answers later n ((registered_of st s f).0, e) (omega arith) made legal put in
        outcome_of of by (End s) Done (give_back puts weight st s) events answers later ends.0 ends.1 (was_ended s events made))

-- what both sides find in a link
pub same_link : {T R X : Type 0} (of : Naming T R X) (st : waiting.ModelState T R) (ms : State) (l : ℕ) → NearAt of [] st ms → model_link st l ≡ held_value of.link (machine.link_at ms l)
same_link of st ms l n = sym (ap (λ k. get_or k l None) n.links_are) ∙ get_or-map (held_value of.link) ms.links l None

link_there : {T R X : Type 0} (of : Naming T R X) (st : waiting.ModelState T R) (ms : State) (s l : ℕ) → NearAt of [] st ms → waiting.has_guard (model_slot st s) ≡ true → l < length st.links → machine_next.can_link ms s l ≡ true
link_there of st ms s l n active h =
    let many : length ms.links ≡ length st.links = sym (length-map ms.links (held_value of.link)) ∙ ap length n.links_are in
    ap (λ (t : Bool). t && nat_lt l (length ms.links)) (active_head of st ms s true n active) ∙ lt_yes l (length ms.links) (omega arith)

pub reads : {T R X : Type 0} (of : Naming T R X) (st : waiting.ModelState T R) (before : State) (s l : ℕ) → NearAt of [] st before → waiting.has_guard (model_slot st s) ≡ true → l < length st.links
    → next st.size before (ReadLink s l) ≡ Some (before, Link (machine.link_at before l))
reads of st before s l n active h = if_yes _ _ _ (link_there of st before s l n active h)

found_both : {T : Type 0} (of : ℕ → T) (x : Option ℕ) → is_some (held_value of x) ≡ is_some x
found_both of None = refl
found_both of (Some v) = refl

found_reply : {T R X : Type 0} (of : Naming T R X) (st : waiting.ModelState T R) (before : State) (l : ℕ) → NearAt of [] st before → ◌≡◌ {A = Reply T} (Found (is_some (model_link st l))) (Found (is_some (machine.link_at before l)))
found_reply {T} {R} of st before l n = ap {B = Reply T} (λ (x : Option T). Found (is_some x)) (same_link of st before l n) ∙ ap {B = Reply T} (λ (b : Bool). Found b) (found_both of.link (machine.link_at before l))

pub protect_run : {T R X : Type 0} (puts : R → T → List T) (weight : T → ℕ) (of : Naming T R X) (st : waiting.ModelState T R) (before : State) (s l : ℕ) → l < length st.links → NearAt of [] st before
    → Run puts of (Protect s l) st before (step puts weight st (Protect s l))
protect_run {T} {R} puts weight of st before s l h near =
    run_unless puts of (Protect s l) st before (λ found. Found (is_some found)) None (no_guard st s) (model_link st l) (st, []) near (λ e.
    let n : NearAt of [] st before = near in
    one_event puts of (Protect s l) st before before (ReadLink s l) (Link (machine.link_at before l)) (Found (is_some (model_link st l))) st
    (reads of st before s l n (guard_of st s e).1 h) n refl tt tt refl (found_reply of st before l n))

pub protect_list : {T R : Type 0} (puts : R → T → List T) (weight : T → ℕ) (of : ℕ → T) (by : ℕ → R) (st : waiting.ModelState T R) (before : State) (s l : ℕ) → l < length st.links → NearAt (with_reclaimers of by) [] st before
    → EachList puts of by (Protect s l) st before (step puts weight st (Protect s l))
protect_list {T} {R} puts weight of by st before s l h n =
    list_unless puts of by (Protect s l) st before (λ found. Found (is_some found)) None (no_guard st s) (model_link st l) (st, []) n (λ e events answers later makes legal names with put.
    one_list of by (Protect s l) st.size before before (ReadLink s l) (Link (machine.link_at before l)) (Found (is_some (model_link st l))) st events answers later
    (reads (with_reclaimers of by) st before s l n (guard_of st s e).1 h) n makes legal refl (found_reply (with_reclaimers of by) st before l n))

-- a fresh number for what a link is to hold
new_number : {T R X : Type 0} (puts : R → T → List T) (of : Naming T R X) (P : T × R → Type 0) → Names puts of P → (ms : State) (new : Option T) (r : R) → ((v : T) → new ≡ Some v → P (v, r)) → (n : Option ℕ) × (is_none_or_fresh ms n ≡ true) × (held_value of.link n ≡ new)
new_number puts of P names ms None r holds = (None, refl, refl)
new_number {T} {R} puts of P names ms (Some v) r holds =
    let name : (n : ℕ) × (has n ms.named ≡ false) × (of.name n ≡ of.view (v, r)) = names.number (v, r) (holds v refl) ms.named in
    (Some name.0, ap (λ (t : Bool). not t) name.1, ap {B = Option T} (λ (x : T). Some x) (names.link name.0 (v, r) name.2))

has_last : (v : ℕ) (xs : List ℕ) → has v (xs ++ v ∷ []) ≡ true
has_last v [] = grind arith
has_last v (x ∷ xs) = grind (arith, has_last v xs)

-- The exchange of a link.

pub swaps : {T R X : Type 0} (of : Naming T R X) (st : waiting.ModelState T R) (before : State) (s l : ℕ) (number : Option ℕ) → NearAt of [] st before → waiting.has_guard (model_slot st s) ≡ true → l < length st.links → is_none_or_fresh before number ≡ true
    → next st.size before (ExchangeLink s l (SwapLink number)) ≡ Some (link_swapped before l number, Link (machine.link_at before l))
swaps of st before s l number n active h fresh = if_yes _ _ _ (ap (λ (t : Bool). t && is_none_or_fresh before number) (link_there of st before s l n active h) ∙ fresh)

pub swapped_near : {T R X : Type 0} (of : Naming T R X) (st : waiting.ModelState T R) (before : State) (l : ℕ) (number : Option ℕ) (new : Option T) → NearAt of [] st before → held_value of.link number ≡ new
    → NearAt of [] (record st { links = set st.links l new }) (link_swapped before l number)
swapped_near of st before l number new n is = record {
  numbers = n.numbers;
  as_many = n.as_many;
  slot = n.slot;
  heads_are = n.heads_are;
  retired = n.retired;
  values = n.values;
  counts = n.counts;
  rest_is = n.rest_is;
  links_are = map-set (held_value of.link) before.links l number ∙ ap (λ k. set k l (held_value of.link number)) n.links_are ∙ ap (λ x. set st.links l x) is;
}

-- The number in a link is to be retired with this reclaimer.
abbrev pub IsHeldFor : {T R X : Type 0} → Naming T R X → R → Option ℕ → Type 0
IsHeldFor of r None = Unit {0}
IsHeldFor of r (Some n) = of.name n ≡ of.view (of.link n, r)

pub swap_run : {T R X : Type 0} (puts : R → T → List T) (weight : T → ℕ) → Lighter puts weight → (of : Naming T R X) (P : T × R → Type 0) → Names puts of P → (st : waiting.ModelState T R) (before : State) (s l : ℕ) (new : Option T) (r : R) → l < length st.links → Holds T R P st
    → ((v : T) → new ≡ Some v → P (v, r)) → ((v : T) → model_link st l ≡ Some v → P (v, r)) → IsHeldFor of r (machine.link_at before l) → NearAt of [] st before
    → Run puts of (Swap s l new r) st before (step puts weight st (Swap s l new r))
swap_run {T} {R} puts weight lighter of P names st before s l new r h holds new_holds old_holds held_for near = go (no_guard st s) refl
  where
    after_swap : (found : Option ℕ) → machine.link_at before l ≡ found → IsHeldFor of r found → (name : (n : Option ℕ) × (is_none_or_fresh before n ≡ true) × (held_value of.link n ≡ new)) → no_guard st s ≡ None
        → Run puts of (Swap s l new r) st before (retire_old puts weight s new r (Ok (held_value of.link found)) (record st { links = set st.links l new }, []))
    after_swap None is own name e =
        one_event puts of (Swap s l new r) st before _ (ExchangeLink s l (SwapLink name.0)) (Link (machine.link_at before l)) Done (record st { links = set st.links l new })
        (swaps of st before s l name.0 near (guard_of st s e).1 h name.1) (swapped_near of st before l name.0 new near name.2)
        (name.0, [], refl, subst (λ (x : Option ℕ). IsRetiredFrom s x []) (sym is) refl) name.2 tt refl refl
    after_swap (Some old) is own name e =
        let used : is_free (model_slot st s).kind ≡ false = (guard_of st s e).0 in
        let loose : has old (link_swapped before l name.0).loose ≡ true = ap (λ (x : Option ℕ). has old (before.loose ++ option_to_list x)) is ∙ has_last old before.loose in
        let run : JobRun puts of st.size s (model_slot st s).guards (job.TheVariants.Retire old) (link_swapped before l name.0) (with_further puts weight s (put (record st { links = set st.links l new }) s (of.link old, r)))
        = retire_job puts weight lighter of P names (record st { links = set st.links l new }) (link_swapped before l name.0) s old (of.link old, r)
        (record { batches = holds.batches; retired = holds.retired; rest = holds.rest }) (old_holds (of.link old) (same_link of st before l near ∙ ap (held_value of.link) is))
        (swapped_near of st before l name.0 new near name.2) used (is_free_name (has old (link_swapped before l name.0).named) _ loose) own in
        subst (λ (x : Option Refusal). Run puts of (Swap s l new r) st before (reply done_reply (Some (of.link old)) (unless x (record st { links = set st.links l new }) (Ok tt, with_further puts weight s (put (record st { links = set st.links l new }) s (of.link old, r))))))
        (sym (ap (λ (t : Bool). if t then Some NotInUse else None) used))
        (record {
          events = ExchangeLink s l (SwapLink name.0) ∷ run.events;
          answers = Link (machine.link_at before l) ∷ run.answers;
          later = run.later;
          makes = (name.0, run.events, refl, subst (λ (x : Option ℕ). IsRetiredFrom s x run.events) (sym is) run.makes);
          names = name.2;
          starts = subst (λ (k : List Event). StartsFor of (Swap s l new r) (ExchangeLink s l (SwapLink name.0) ∷ k)) (sym run.makes.1) own;
          legal = play_first st.size before (ExchangeLink s l (SwapLink name.0)) run.events _ _ (swaps of st before s l name.0 near (guard_of st s e).1 h name.1)
              ∙ ap (λ (o : Option (State × List Answer)). with_answer (Link (machine.link_at before l)) o) run.legal;
          near = run.ends.near;
          gone = run.ends.gone;
          reply = refl;
          put = (tt, run.put);
        })
      where
        is_free_name : (a b : Bool) → b ≡ true → (not a || b) ≡ true
        is_free_name true b e = e
        is_free_name false b e = refl

    go : (refusal : Option Refusal) → no_guard st s ≡ refusal
        → (let a = unless refusal st (Ok (model_link st l), (record st { links = set st.links l new }, [])) in Run puts of (Swap s l new r) st before (retire_old puts weight s new r a.0 a.1))
    go None e = subst (λ x. Run puts of (Swap s l new r) st before (retire_old puts weight s new r (Ok x) (record st { links = set st.links l new }, []))) (sym (same_link of st before l near))
        (after_swap (machine.link_at before l) refl held_for (new_number puts of P names before new r new_holds) e)
    go (Some f) e = no_events puts of (Swap s l new r) st before (Refused f new) st near refl refl

pub swap_list : {T R : Type 0} (puts : R → T → List T) (weight : T → ℕ) → Lighter puts weight → (of : ℕ → T) (by : ℕ → R) (st : waiting.ModelState T R) (before : State) (s l : ℕ) (new : Option T) (r : R) → l < length st.links → NearAt (with_reclaimers of by) [] st before
    → EachList puts of by (Swap s l new r) st before (step puts weight st (Swap s l new r))
swap_list {T} {R} puts weight lighter of by st before s l new r h n = go (no_guard st s) refl
  where
    after_swap : (found : Option ℕ) → machine.link_at before l ≡ found → no_guard st s ≡ None → (events : List Event) (answers : List Answer) (later : State) (number : Option ℕ) (es : List Event) → held_value of number ≡ new → events ≡ ExchangeLink s l (SwapLink number) ∷ es
        → IsRetiredFrom s found es → play st.size before events ≡ Some (later, answers) → RetiresWith by (Swap s l new r) events → ArePutBy puts of by events answers
        → IsOutcome T R of by (Swap s l new r) (retire_old puts weight s new r (Ok (held_value of found)) (record st { links = set st.links l new }, [])) events answers later
    after_swap None is e events answers later number es name made more legal with put_all =
        let first : First st.size before (ExchangeLink s l (SwapLink number)) es later answers = first_of st.size before (ExchangeLink s l (SwapLink number)) es later answers (ap (λ (k : List Event). play st.size before k) (sym made) ∙ legal) in
        let fresh : is_none_or_fresh before number ≡ true = (and_true (machine_next.can_link before s l) _ (if_some (machine_next.can_link before s l && is_none_or_fresh before number) _ _ first.step).0).1 in
        one_list of by (Swap s l new r) st.size before _ (ExchangeLink s l (SwapLink number)) (Link (machine.link_at before l)) Done (record st { links = set st.links l new }) events answers later
        (swaps (with_reclaimers of by) st before s l number n (guard_of st s e).1 h fresh) (swapped_near (with_reclaimers of by) st before l number new n name)
        (made ∙ ap (λ (k : List Event). ExchangeLink s l (SwapLink number) ∷ k) more) legal refl refl
    after_swap (Some old) is e events answers later number es name made more legal with put_all =
        let used : is_free (model_slot st s).kind ≡ false = (guard_of st s e).0 in
        let first : First st.size before (ExchangeLink s l (SwapLink number)) es later answers = first_of st.size before (ExchangeLink s l (SwapLink number)) es later answers (ap (λ (k : List Event). play st.size before k) (sym made) ∙ legal) in
        let fresh : is_none_or_fresh before number ≡ true = (and_true (machine_next.can_link before s l) _ (if_some (machine_next.can_link before s l && is_none_or_fresh before number) _ _ first.step).0).1 in
        let both : (first.later ≡ link_swapped before l number) × (first.answer ≡ Link (machine.link_at before l))
        = both_same (first.later, first.answer) (link_swapped before l number, Link (machine.link_at before l)) (sym first.step ∙ swaps (with_reclaimers of by) st before s l number n (guard_of st s e).1 h fresh) in
        let with_old : by old ≡ r = subst (λ (k : List Event). RetiresWith by (Swap s l new r) k) (made ∙ ap (λ (k : List Event). ExchangeLink s l (SwapLink number) ∷ k) more.1) with in
        let put_rest : ArePutBy puts of by (ExchangeLink s l (SwapLink number) ∷ es) (first.answer ∷ first.rest) = subst (λ (k : List Answer). ArePutBy puts of by (ExchangeLink s l (SwapLink number) ∷ es) k) first.all (subst (λ (k : List Event). ArePutBy puts of by k answers) made put_all) in
        let none : handed answers ≡ handed first.rest = ap handed (first.all ∙ ap (λ (a : Answer). a ∷ first.rest) both.1) in
        let ends : JobEnds (with_reclaimers of by) st.size s (model_slot st s).guards (with_further puts weight s (put (record st { links = set st.links l new }) s (of old, r))) later first.rest
        = retire_job_list puts weight lighter of by (record st { links = set st.links l new }) (link_swapped before l number) s old (of old) r es first.rest later
        (swapped_near (with_reclaimers of by) st before l number new n name) used refl more (ap (λ (k : State). play st.size k es) (sym both.0) ∙ first.legal) with_old put_rest.1 in
        subst (λ (x : Option Refusal). IsOutcome T R of by (Swap s l new r) (reply done_reply (Some (of old)) (unless x (record st { links = set st.links l new }) (Ok tt, with_further puts weight s (put (record st { links = set st.links l new }) s (of old, r))))) events answers later)
        (sym (ap (λ (t : Bool). if t then Some NotInUse else None) used))
        (outcome_of of by (Swap s l new r) Done (with_further puts weight s (put (record st { links = set st.links l new }) s (of old, r))) events answers later
        ends.near
        (ap (λ (hs : List ℕ). map {B = T × R} (λ n. (of n, by n)) hs) none ∙ ends.gone) refl)

    not_refused : (found : Option ℕ) (events : List Event) → MakesFor (retire_old puts weight s new r (Ok (held_value of found)) (record st { links = set st.links l new }, [])).0 st before (Swap s l new r) events → no_guard st s ≡ None → AreEventsOf st before (Swap s l new r) events
    not_refused None events makes e = makes
    not_refused (Some old) events makes e =
        subst (λ (x : Option Refusal). MakesFor (reply done_reply (Some (of old)) (unless x (record st { links = set st.links l new }) (Ok tt, with_further puts weight s (put (record st { links = set st.links l new }) s (of old, r))))).0 st before (Swap s l new r) events)
        (ap (λ (t : Bool). if t then Some NotInUse else None) (guard_of st s e).0) makes

    go : (refusal : Option Refusal) → no_guard st s ≡ refusal
        → (let a = unless refusal st (Ok (model_link st l), (record st { links = set st.links l new }, [])) in EachList puts of by (Swap s l new r) st before (retire_old puts weight s new r a.0 a.1))
    go None e = subst (λ x. EachList puts of by (Swap s l new r) st before (retire_old puts weight s new r (Ok x) (record st { links = set st.links l new }, []))) (sym (same_link (with_reclaimers of by) st before l n))
        (λ events answers later makes legal names with put_all.
        let made : AreEventsOf st before (Swap s l new r) events = not_refused (machine.link_at before l) events makes e in
        after_swap (machine.link_at before l) refl e events answers later made.0 made.1 (subst (λ (k : List Event). NamesOwn of (Swap s l new r) k) made.2 names) made.2 made.3 legal with put_all)
    go (Some f) e = λ events answers later makes legal names with put_all. no_list of by (Swap s l new r) st.size before (Refused f new) st events answers later n makes legal refl
