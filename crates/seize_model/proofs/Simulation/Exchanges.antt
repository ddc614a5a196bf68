-- A link's read, and its exchange without the retirement of what it held.
use Rattle.std.proofs.Common.{◌≡◌, ℕ, Bool, true, false, not, ◌&&◌, List, [], ◌∷◌, set, Option, Some, None, Ok, refl, sym, ap, subst}
use Rattle.seize_table.specs.declared.refusal.Refusal.{Refusal}
use Rattle.seize_machine.specs.Machine.State as machine
use Rattle.seize_machine.specs.Machine.State.{State}
use Rattle.seize_machine.specs.Machine.Event.{ReadLink, ExchangeLink}
use Rattle.seize_machine.specs.Machine.Next.{is_none_or_fresh}
use Rattle.seize_machine.specs.Machine.Next as machine_next
use Rattle.seize_machine.specs.declared.machine.event.Exchange.TheVariants.{Swap as SwapLink}
use Rattle.seize_machine.specs.declared.machine.event.Answer.{Answer}
use Rattle.seize_machine.specs.declared.machine.event.Answer.TheVariants.{Link}
use Rattle.seize_machine.proofs.Facts.{swapped as link_swapped, if_some, and_true}
use Rattle.seize_model.specs.Waiting.State as waiting
use Rattle.seize_model.specs.Waiting.Calls as calls
use Rattle.seize_model.specs.Waiting.Calls.{no_guard, unless, model_link}
use Rattle.seize_model.specs.Agreement.Shows.{held_value, ShowsState, ShowsReclaimers}
use Rattle.seize_model.specs.Agreement.Play.{play}
use Rattle.seize_model.specs.Agreement.Statement.{HasNames}
use Rattle.seize_model.specs.Agreement.Links.{read_events, ReadAgreement, exchange_events, IsFoundInLink, IsExchanged, ExchangeAgreement, ExchangeOnLists}
use Rattle.seize_model.proofs.Simulation.Coupling.{Naming, NearAt}
use Rattle.seize_model.proofs.Simulation.Views.{contents, with_reclaimers, near_of, near_with, shows_of, shows_with}
use Rattle.seize_model.proofs.Simulation.Plays.{play_first, play_none, First, first_of}
use Rattle.seize_model.proofs.Simulation.Beginnings.{OneEvent, one_of}
use Rattle.seize_model.proofs.Simulation.Links.{reads, swaps, swapped_near, same_link}
use Rattle.seize_model.proofs.WaitingSets.Refusals.{guard_of}

-- what the exchange answers
abbrev pub exchange_answer : {T R : Type 0} → waiting.ModelState T R → ℕ → Option T → Option Refusal → calls.Response (Option T) T R
exchange_answer st l new refusal = unless refusal st (Ok (model_link st l), (record st { links = set st.links l new }, []))

found_link : {T R X : Type 0} (of : Naming T R X) (st : waiting.ModelState T R) (before : State) (l : ℕ) → NearAt of [] st before → held_value of.link (machine.link_at before l) ≡ model_link st l
found_link of st before l n = sym (same_link of st before l n)

pub each_read : {T : Type 0} (R : Type 0) (of : ℕ → T) → ReadAgreement R of
each_read {T} R of st before s l h shows = go (no_guard st s) refl
  where
    go : (refusal : Option Refusal) → no_guard st s ≡ refusal
        → (let told = unless {A = Option T} {T = T} {R = R} refusal st (Ok (model_link st l), (st, [])) in (answers : List Answer) × (play st.size before (read_events told.0 s l) ≡ Some (before, answers)) × IsFoundInLink of told.0 answers)
    go None e =
        let n : NearAt (contents of) [] st before = near_of of st before shows in (
          Link (machine.link_at before l) ∷ [],
          play_first st.size before (ReadLink s l) [] _ _ (reads (contents of) st before s l n (guard_of st s e).1 h),
          (machine.link_at before l, refl, found_link (contents of) st before l n),
        )
    go (Some r) e = ([], refl, refl)

-- a fresh number for what the link is to hold
fresh_number : {T : Type 0} (of : ℕ → T) → HasNames of → (before : State) (new : Option T) → (n : Option ℕ) × (is_none_or_fresh before n ≡ true) × (held_value of n ≡ new)
fresh_number of names before None = (None, refl, refl)
fresh_number {T} of names before (Some v) =
    let one : (n : ℕ) × (machine.has n before.named ≡ false) × (of n ≡ v) = names v before.named in
    (Some one.0, ap (λ (t : Bool). not t) one.1, ap {B = Option T} (λ (x : T). Some x) one.2)

pub exchanges : {T : Type 0} (R : Type 0) (of : ℕ → T) → HasNames of → ExchangeAgreement R of
exchanges {T} R of names st before s l new h shows =
    let made : Made (no_guard st s) = go (no_guard st s) refl in
    record { number = made.0; answers = made.1; later = made.2; names = made.3; legal = made.4; exchanged = made.5 }
  where
    Made : Option Refusal → Type 0
    Made refusal =
        (number : Option ℕ) × (answers : List Answer) × (later : State) × (held_value of number ≡ new)
        × (play st.size before (exchange_events (exchange_answer st l new refusal).0 s l number) ≡ Some (later, answers)) × IsExchanged T R of (exchange_answer st l new refusal) answers later

    go : (refusal : Option Refusal) → no_guard st s ≡ refusal → Made refusal
    go None e =
        let n : NearAt (contents of) [] st before = near_of of st before shows in
        let name : (n : Option ℕ) × (is_none_or_fresh before n ≡ true) × (held_value of n ≡ new) = fresh_number of names before new in (
          name.0,
          Link (machine.link_at before l) ∷ [],
          link_swapped before l name.0,
          name.2,
          play_first st.size before (ExchangeLink s l (SwapLink name.0)) [] _ _ (swaps (contents of) st before s l name.0 n (guard_of st s e).1 h name.1),
          record { shows = shows_of of _ _ (swapped_near (contents of) st before l name.0 new n name.2); found = (machine.link_at before l, refl, found_link (contents of) st before l n) },
        )
    go (Some r) e =
        let name : (n : Option ℕ) × (is_none_or_fresh before n ≡ true) × (held_value of n ≡ new) = fresh_number of names before new in
        (name.0, [], before, name.2, refl, record { shows = shows; found = refl })

pub each_exchange : {T R : Type 0} → ExchangeOnLists T R
each_exchange {T} {R} of by st before later s l new n answers h shows reclaimers names legal = go (no_guard st s) refl legal
  where
    near : NearAt (with_reclaimers of by) [] st before
    near = near_with of by st before shows reclaimers

    go : (refusal : Option Refusal) → no_guard st s ≡ refusal → play st.size before (exchange_events (exchange_answer st l new refusal).0 s l n) ≡ Some (later, answers)
        → IsExchanged T R of (exchange_answer st l new refusal) answers later × ShowsReclaimers T R of by (exchange_answer st l new refusal).1.0 later
    go None e with_answer =
        let near : NearAt (with_reclaimers of by) [] st before = near_with of by st before shows reclaimers in
        let first : First st.size before (ExchangeLink s l (SwapLink n)) [] later answers = first_of st.size before (ExchangeLink s l (SwapLink n)) [] later answers with_answer in
        let fresh : is_none_or_fresh before n ≡ true = (and_true (machine_next.can_link before s l) _ (if_some (machine_next.can_link before s l && is_none_or_fresh before n) _ _ first.step).0).1 in
        let ends : OneEvent _ _ later answers = one_of st.size before (link_swapped before l n) (ExchangeLink s l (SwapLink n)) (Link (machine.link_at before l)) later answers (swaps (with_reclaimers of by) st before s l n near (guard_of st s e).1 h fresh) with_answer in
        let both : ShowsState T R of (record st { links = set st.links l new }) later × ShowsReclaimers T R of by (record st { links = set st.links l new }) later
        = shows_with of by (record st { links = set st.links l new }) later (subst (λ (k : State). NearAt (with_reclaimers of by) [] (record st { links = set st.links l new }) k) (sym ends.0) (swapped_near (with_reclaimers of by) st before l n new near names)) in
        (record { shows = both.0; found = (machine.link_at before l, ends.1, found_link (with_reclaimers of by) st before l near) }, both.1)
    go (Some r) e with_answer =
        let none : (later ≡ before) × (answers ≡ []) = play_none st.size before later answers with_answer in
        (record { shows = subst (λ (k : State). ShowsState T R of st k) (sym none.0) shows; found = none.1 }, subst (λ (k : State). ShowsReclaimers T R of by st k) (sym none.0) reclaimers)
