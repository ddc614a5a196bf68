-- What a slot's calls and events leave of all others, and of the links, where the pass is alone.
use Rattle.std.proofs.Common.{◌≡◌, ℕ, ◌==◌, is_some, Bool, true, false, cond, filter, List, [], ◌∷◌, ◌++◌, map, Option, None, Some, refl, sym, ap, subst, ◌∙◌, append-nil, append_assoc}
use Rattle.std.proofs.lemmas.List.{append_cancel_left}
use Rattle.std.proofs.lemmas.List.Elements.{filter-append}
use native.Mathlib.Decide.{ℕ_discrete}
use base.Growing.{prefix_refl, prefix_trans}
use mathlib.Core.List.{IsPrefix}
use Rattle.seize_machine.proofs.Facts.{Step, active_frame, and_true, eq_true, head_frame, link_frame, not_true, slot_frame, step_of}
use Rattle.seize_machine.specs.Machine.Event.{AddCount, Begin, Detach, Enter, Event, ExchangeLink, Give, Hand, Insert, Put, ReadHead, ReadLink, Return, SubCount, SwapOut, Take, event_slot}
use Rattle.seize_machine.specs.Machine.Frames.{changes_head_of, changes_link, changes_slot}
use Rattle.seize_machine.specs.Machine.History.{done_by, or_illegal}
use Rattle.seize_machine.specs.Machine.Next.{Outcome, next}
use Rattle.seize_machine.specs.Machine.State.{Progress, Slot as Record, State, head_at, is_active, is_idle, slot_at}
use Rattle.seize_machine.specs.declared.machine.event.Answer.{Answer}
use Rattle.seize_machine.specs.declared.machine.event.Answer.TheVariants.{Count, Done, Handed, Head, Illegal, Link}
use Rattle.seize_machine.specs.declared.machine.event.Job.{Job}
use Rattle.seize_machine.specs.declared.machine.event.Job.TheVariants.{Flush, Leave}
use Rattle.seize_book.specs.Book.{after, mine, with_answers}
use Rattle.seize_book.specs.Entry.{Deed, Entry, Made, Used, maker, timed_deed}
use Rattle.seize_book.specs.Homesteads.{state_seen}
use Rattle.seize_book.specs.Passes.{IsSamePass, LooksOn, events_by, events_in}
use Rattle.seize_book.specs.Slots.{slot_number}
use Rattle.seize_book.specs.Tokens.{AddsEntry, IsSole, Name, start}
use Rattle.seize_book.specs.declared.book.pass.Pass.{Pass}
use Rattle.seize_book.proofs.Facts.{same_twice, unequal}
use Rattle.seize_calls.proofs.Alone.{alone_none, alone_noted, alone_twice, answered_append, made_added, made_there}
use Rattle.seize_calls.specs.Alone.{AddsAlone}
use Rattle.seize_calls.specs.Handing.{Had}
use Rattle.seize_calls.specs.Settling.{done_event}
use Rattle.seize_calls.specs.Slots.{IsOfWords, IsPassOf, Prepares, SlotEnters, SlotFlushes, SlotLeaves, SlotLooks, SlotResumes, its_number}
use Rattle.seize_calls.specs.declared.slot.Slot.{Slot}
use Rattle.seize_words.specs.declared.activation.Activation.{Activation}
use Rattle.seize_words.specs.declared.words.Words.{Words}
use Rattle.seize_alone.specs.Events.{MakesAlone}
use Rattle.seize_alone.proofs.Singles.{made_next}
use Rattle.seize_parts.specs.Makes.{AreStepsOf, IsStepOf, Makes, MakesCall, made_with}
use Rattle.seize_parts.specs.Places.{IsUnmoved}
use Rattle.seize_parts.specs.Sweeps.{IsLedBy, IsOff, KeepsActive, KeepsIdle, KeepsOn, KeepsOthers}
use Rattle.seize_parts.proofs.Made.{as_made, made_grew, one_added, step_added}
use Rattle.seize_parts.proofs.Steps.{any_put, any_puts, goes_drained, goes_settled, goes_then}
use Rattle.seize_parts.proofs.Stilled.{same_pass}
use Rattle.seize_parts.proofs.Wholly.{slot_flushes, slot_leaves}

-- One event of the slot that is on no link.

abbrev pub IsOf : ℕ → Event → Type 0
IsOf s event = ((t : ℕ) → ¬ (t ≡ s) → changes_slot t event ≡ false) × ((l : ℕ) → changes_link l event ≡ false)

abbrev pub AreOf : ℕ → List (Event × Answer) → Type 0
AreOf s [] = Unit {0}
AreOf s (e ∷ es) = IsOf s e.0 × AreOf s es

pub leads_same : (s : ℕ) (st : State) → KeepsOthers s st st
leads_same s st = record { slots = λ t other. refl; active = λ t other. refl; links = λ l. refl }

pub leads_then : (s : ℕ) (a b c : State) → KeepsOthers s a b → KeepsOthers s b c → KeepsOthers s a c
leads_then s a b c one two = record {
  slots = λ t other. two.slots t other ∙ one.slots t other;
  active = λ t other. two.active t other ∙ one.active t other;
  links = λ l. two.links l ∙ one.links l;
}

leads_step : (s size : ℕ) (st : State) (event : Event) (d : State × Answer) → Step size st event d → IsOf s event → KeepsOthers s st d.0
leads_step s size st event d step is = record {
  slots = λ t other. slot_frame t size st event d step (is.0 t other);
  active = λ t other. active_frame t size st event d step (is.0 t other);
  links = λ l. link_frame l size st event d step (is.1 l);
}

leads_one : (s : ℕ) (st : State) (d : Deed) → IsOf s d.event → KeepsOthers s st (done_by next st (timed_deed d)).0
leads_one s st d is = go (next d.size st d.event) refl
  where
    go : (o : Outcome) → next d.size st d.event ≡ o → KeepsOthers s st (or_illegal st o).0
    go None none = leads_same s st
    go (Some done) some = leads_step s d.size st d.event done (step_of d.size st d.event done some) is

leads_after : (s : ℕ) (st : State) (log : List Entry) → AreOf s (map as_made (events_in (with_answers st log))) → KeepsOthers s st (after st log)
leads_after s st [] are = leads_same s st
leads_after s st (Made d ∷ log) are =
    let done : State × Answer = done_by next st (timed_deed d) in leads_then s st done.0 (after done.0 log) (leads_one s st d are.0) (leads_after s done.0 log are.1)
leads_after s st (Used u ∷ log) are = leads_after s st log are

after_both : (st : State) (a b : List Entry) → after st (a ++ b) ≡ after (after st a) b
after_both st [] b = refl
after_both st (Made d ∷ a) b = after_both (done_by next st (timed_deed d)).0 a b
after_both st (Used u ∷ a) b = after_both st a b

-- where the list leads that a pass has seen which is alone
pub later_by : (pass pass' : Pass) → IsSamePass pass pass' → (adds : AddsAlone pass pass') (sole : IsSole pass.id) → state_seen pass' ≡ after (state_seen pass) (adds sole).0
later_by pass pass' same adds sole =
    ap (λ (n : Name). after (start n) pass'.seen) same.0
    ∙ ap (λ (log : List Entry). after (start pass.name) log) (adds sole).1
    ∙ after_both (start pass.name) pass.seen (adds sole).0

-- what was added is what was made
added_is : (pass pass' : Pass) (es : List (Event × Answer)) → IsSamePass pass pass' → made_with pass' ≡ made_with pass ++ es → (adds : AddsAlone pass pass') (sole : IsSole pass.id)
    → map as_made (events_in (with_answers (state_seen pass) (adds sole).0)) ≡ es
added_is pass pass' es same made adds sole =
    let log = events_in (with_answers (state_seen pass) (adds sole).0) in
    append_cancel_left (made_with pass) (map as_made log) es (sym (made_grew pass pass' log (made_added pass pass' same adds sole)) ∙ made)

led_events : (s : ℕ) (pass pass' : Pass) (es : List (Event × Answer)) → IsSamePass pass pass' → IsPrefix pass.seen pass'.seen → made_with pass' ≡ made_with pass ++ es → AddsAlone pass pass' → IsSole pass.id → AreOf s es → IsLedBy s pass pass'
led_events s pass pass' es same grows made adds sole are = record {
  same = same;
  grows = grows;
  adds = adds;
  leads = subst (λ (st : State). KeepsOthers s (state_seen pass) st) (sym (later_by pass pass' same adds sole))
      (leads_after s (state_seen pass) (adds sole).0 (subst (AreOf s) (sym (added_is pass pass' es same made adds sole)) are));
}

pub led_by : (s : ℕ) (pass pass' : Pass) (es : List (Event × Answer)) → Makes pass pass' es → AddsAlone pass pass' → IsSole pass.id → AreOf s es → IsLedBy s pass pass'
led_by s pass pass' es makes adds sole are = led_events s pass pass' es makes.same makes.grows makes.made adds sole are

-- the same, where the entries that were made are known
pub led_made : (s : ℕ) (pass pass' : Pass) (made : List (Deed × Answer)) → IsSamePass pass pass' → AddsAlone pass pass' → IsSole pass.id → events_by pass' ≡ events_by pass ++ made → AreOf s (map as_made made)
    → KeepsOthers s (state_seen pass) (state_seen pass')
led_made s pass pass' made same adds sole events are =
    subst (λ (st : State). KeepsOthers s (state_seen pass) st) (sym (later_by pass pass' same adds sole))
    (leads_after s (state_seen pass) (adds sole).0 (subst (λ (log : List (Deed × Answer)). AreOf s (map as_made log)) (sym (made_there pass pass' made same adds sole events)) are))

-- Which events are of a slot.

pub other : (s t k : ℕ) → k ≡ s → ¬ (t ≡ s) → (k == t) ≡ false
other s t k same differs = unequal k t (λ e. differs (sym e ∙ same))

of_step : (IsPut : ℕ → List ℕ → Type 0) (s : ℕ) (event : Event) (answer : Answer) → IsStepOf IsPut s (event, answer) → IsOf s event
of_step IsPut s (Put k) answer is = ((λ t differs. other s t k is differs), λ l. refl)
of_step IsPut s (ReadHead k n) answer is = ((λ t differs. other s t k is differs), λ l. refl)
of_step IsPut s (Detach k) answer is = ((λ t differs. other s t k is differs), λ l. refl)
of_step IsPut s (Insert k n end) answer is = ((λ t differs. other s t k is differs), λ l. refl)
of_step IsPut s (AddCount k) answer is = ((λ t differs. other s t k is differs), λ l. refl)
of_step IsPut s (SwapOut k) answer is = ((λ t differs. other s t k is differs), λ l. refl)
of_step IsPut s (SubCount k) answer is = ((λ t differs. other s t k is differs), λ l. refl)
of_step IsPut s (Hand k vs) (Handed v) is = ((λ t differs. other s t k is.0 differs), λ l. refl)
of_step IsPut s (Hand k vs) Done is = absurd is
of_step IsPut s (Hand k vs) (Head h) is = absurd is
of_step IsPut s (Hand k vs) (Count c) is = absurd is
of_step IsPut s (Hand k vs) (Link l) is = absurd is
of_step IsPut s (Hand k vs) Illegal is = absurd is
of_step IsPut s (Take k) answer is = absurd is
of_step IsPut s (Give k) answer is = absurd is
of_step IsPut s (Enter k) answer is = absurd is
of_step IsPut s (Begin k job) answer is = absurd is
of_step IsPut s (Return k) answer is = absurd is
of_step IsPut s (ReadLink k l) answer is = absurd is
of_step IsPut s (ExchangeLink k l exchange) answer is = absurd is

of_steps : (IsPut : ℕ → List ℕ → Type 0) (s : ℕ) (es : List (Event × Answer)) → AreStepsOf IsPut s es → AreOf s es
of_steps IsPut s [] are = tt
of_steps IsPut s (e ∷ es) are = (of_step IsPut s e.0 e.1 are.0, of_steps IsPut s es are.1)

of_append : (s : ℕ) (a b : List (Event × Answer)) → AreOf s a → AreOf s b → AreOf s (a ++ b)
of_append s [] b one two = two
of_append s (x ∷ a) b one two = (one.0, of_append s a b one.1 two)

enter_off : (size s : ℕ) (st : State) (o : State × Answer) → Step size st (Enter s) o → is_active (head_at st s) ≡ false
enter_off size s st _ (Step.entered _ idle off) = off

-- One after the other.

pub led_none : (s : ℕ) (pass pass' : Pass) → IsSamePass pass pass' → pass'.seen ≡ pass.seen → IsLedBy s pass pass'
led_none s pass pass' same seen = record {
  same = same;
  grows = subst (IsPrefix pass.seen) (sym seen) (prefix_refl pass.seen);
  adds = λ sole. ([], seen ∙ sym (append-nil pass.seen), tt);
  leads = subst (λ (st : State). KeepsOthers s (state_seen pass) st) (λ j. after (start (sym same.0 j)) (sym seen j)) (leads_same s (state_seen pass));
}

pub led_then : (s : ℕ) (a b c : Pass) → IsLedBy s a b → IsLedBy s b c → IsLedBy s a c
led_then s a b c one two = record {
  same = same_twice a b c one.same two.same;
  grows = prefix_trans a.seen b.seen c.seen one.grows two.grows;
  adds = alone_twice a b c one.same one.adds two.adds;
  leads = leads_then s (state_seen a) (state_seen b) (state_seen c) one.leads two.leads;
}

-- of a slot with the same number
pub led_as : (s t : ℕ) (pass pass' : Pass) → t ≡ s → IsLedBy t pass pass' → IsLedBy s pass pass'
led_as s t pass pass' same led = subst (λ (k : ℕ). IsLedBy k pass pass') same led

pub keeps_on : (s : ℕ) (pass pass' : Pass) → IsLedBy s pass pass' → KeepsOn pass pass'
keeps_on s pass pass' led = (led.same, led.grows, led.leads.links, led.adds)

pub keeps_none : (pass : Pass) → KeepsOn pass pass
keeps_none pass = ((refl, refl, refl), prefix_refl pass.seen, (λ l. refl), alone_none pass)

pub keeps_then : (a b c : Pass) → KeepsOn a b → KeepsOn b c → KeepsOn a c
keeps_then a b c one two = (same_twice a b c one.0 two.0, prefix_trans a.seen b.seen c.seen one.1 two.1, (λ l. two.2 l ∙ one.2 l), alone_twice a b c one.0 one.3 two.3)

pub still_sole : (pass pass' : Pass) → IsSamePass pass pass' → IsSole pass.id → IsSole pass'.id
still_sole pass pass' same sole = subst IsSole (sym same.1) sole

-- A slot's calls.

module _ {T : Type 0} (slot : Slot T) (pass ready : Pass) (prepares : Prepares slot pass ready) (sole : IsSole pass.id) where
  pub prepared_same : state_seen ready ≡ state_seen pass
  prepared_same = λ j. after (start (prepares.same.0 j)) (prepares.alone sole j)

  pub prepared_sole : IsSole ready.id
  prepared_sole = still_sole pass ready prepares.same sole

  pub prepared_alone : AddsAlone pass ready
  prepared_alone = λ alone. ([], prepares.alone alone ∙ sym (append-nil pass.seen), tt)

  pub led_prepared : (s : ℕ) → IsLedBy s pass ready
  led_prepared s = led_none s pass ready prepares.same (prepares.alone sole)

  -- one event
  pub led_deed : (s : ℕ) (pass' : Pass) (d : Deed) → d.pass ≡ ready.id → IsSamePass ready pass' → AddsEntry ready.name ready.id ready.seen pass'.seen (Made d) → IsOf s d.event → IsLedBy s pass pass'
  led_deed s pass' d by same noted is =
      led_then s pass ready pass' (led_prepared s)
      (led_by s ready pass' ((d.event, noted.answer) ∷ []) (one_added ready pass' d same noted) (alone_noted ready pass' (Made d) by noted) prepared_sole (is, tt))

  -- a whole call
  pub led_call : {IsPut : Pass → ℕ → List ℕ → Type 0} (s : ℕ) (job : Job) (pass' : Pass) → MakesCall IsPut s job pass pass' → AddsAlone ready pass' → IsLedBy s pass pass'
  led_call {IsPut} s job pass' makes adds =
      led_by s pass pass' _ makes.made (alone_twice pass ready pass' prepares.same prepared_alone adds) sole
      (((λ t differs. other s t s refl differs), λ l. refl), of_append s makes.steps _ (of_steps (IsPut pass') s makes.steps makes.its) (((λ t differs. other s t s refl differs), λ l. refl), tt))

pub looked_same : (pass pass' : Pass) → LooksOn pass pass' → IsSole pass.id → pass'.seen ≡ pass.seen
looked_same pass pass' looks sole = looks.alone sole

module _ {T : Type 0} (slot : Slot T) (pass : Pass) (slot' : Slot T) (pass' : Pass) (sole : IsSole pass.id) where
  pub enters : (a : Activation) → SlotEnters slot pass a slot' pass' → IsLedBy (its_number slot) pass pass'
  enters a e = led_deed slot pass e.ready e.prepares sole (its_number slot) pass' _ refl e.does.0 e.does.2.0 ((λ t differs. other (its_number slot) t (its_number slot) refl differs), λ l. refl)

  pub looks : (s : ℕ) → SlotLooks slot pass slot' pass' → IsLedBy s pass pass'
  looks s e = let c = e.0 in
      led_then s pass c.ready pass' (led_prepared slot pass c.ready c.prepares sole s)
      (led_none s c.ready pass' c.does.on.same (c.does.on.alone (prepared_sole slot pass c.ready c.prepares sole)))

  -- where a slot enters it was not active
  pub entered_off : (a : Activation) → SlotEnters slot pass a slot' pass' → IsOff pass (its_number slot)
  entered_off a e =
      ap (λ (st : State). is_active (head_at st (its_number slot))) (sym (ap (λ (log : List Entry). after (start e.ready.name) log) (e.does.2.0.alone (prepared_sole slot pass e.ready e.prepares sole)) ∙ prepared_same slot pass e.ready e.prepares sole))
      ∙ enter_off e.ready.size (its_number slot) (after (start e.ready.name) e.does.2.0.before) _ (step_added e.ready pass' _ e.does.2.0)

  module _ (words : Words T) (of : IsOfWords words slot') (for : IsPassOf words pass) (before ended : Had) where
    pub flushes : (retired : Bool) → SlotFlushes slot pass before slot' pass' ended retired → IsLedBy (its_number slot) pass pass'
    flushes retired e =
        led_call slot pass e.ready e.prepares sole (its_number slot) Flush pass' (slot_flushes (λ _ _ _. Unit {0}) pass' (any_puts pass'.seen) words slot pass slot' of for before ended (any_put pass'.seen ended) retired e).0 e.does.rests.alone

    pub leaves : SlotLeaves slot pass before slot' pass' ended → IsLedBy (its_number slot) pass pass'
    leaves e = led_call slot pass e.ready e.prepares sole (its_number slot) Leave pass' (slot_leaves (λ _ _ _. Unit {0}) pass' (any_puts pass'.seen) words slot pass slot' of for before ended (any_put pass'.seen ended) e) e.does.rests.alone

    -- what goes on from where a call began
    pub resumes : SlotResumes slot pass before slot' pass' ended → IsLedBy (its_number slot) pass pass'
    resumes e =
        let r = e.does in let final = pass'.seen in let gives = any_puts final in let ready = e.ready in let last = r.ends.drained in let s = slot_number slot.holder.key in
        let drains = goes_drained gives r.settled last r.ends.drains.drains (any_put final last.had) r.ends.returns.keeps.on.grows in
        let goes = goes_then gives (goes_settled gives 0 _ r.settled r.retired r.settles drains.before (prefix_trans r.settled.pass.seen last.pass.seen final drains.grows r.ends.returns.keeps.on.grows)) drains in
        let made = made_grew last.pass pass' (done_event last.pass (Return (slot_number last.key))) r.ends.returns.made ∙ ap (λ (es : List (Event × Answer)). es ++ (Return (slot_number last.key), Done) ∷ []) goes.runs.made
        ∙ append_assoc (made_with ready) goes.runs.steps ((Return (slot_number last.key), Done) ∷ []) in
        led_then (its_number slot) pass ready pass' (led_prepared slot pass ready e.prepares sole (its_number slot))
        (led_as (its_number slot) s ready pass' slot.together.numbered
        (led_events s ready pass' (goes.runs.steps ++ (Return (slot_number last.key), Done) ∷ []) r.rests.same r.rests.grows made r.rests.alone (prepared_sole slot pass ready e.prepares sole)
        (of_append s goes.runs.steps _ (of_steps (λ _ _. Unit {0}) s goes.runs.steps goes.runs.its) (((λ t differs. other s t (slot_number last.key) goes.its differs), λ l. refl), tt))))

-- What stays of slots that are not active, or have no call.

pub kept_off : (s t : ℕ) (pass pass' : Pass) → IsLedBy s pass pass' → IsOff pass' s → IsOff pass t → IsOff pass' t
kept_off s t pass pass' led off was = go (ℕ_discrete t s)
  where
    go : Dec (t ≡ s) → IsOff pass' t
    go (yes e) = subst (IsOff pass') (sym e) off
    go (no differs) = led.leads.active t differs ∙ was

pub active_led : (s : ℕ) (pass pass' : Pass) → IsLedBy s pass pass' → is_active (head_at (state_seen pass') s) ≡ is_active (head_at (state_seen pass) s) → KeepsActive pass pass'
active_led s pass pass' led own t = go (ℕ_discrete t s)
  where
    go : Dec (t ≡ s) → is_active (head_at (state_seen pass') t) ≡ is_active (head_at (state_seen pass) t)
    go (yes e) = subst (λ (k : ℕ). is_active (head_at (state_seen pass') k) ≡ is_active (head_at (state_seen pass) k)) (sym e) own
    go (no differs) = led.leads.active t differs

pub idle_led : (s : ℕ) (pass pass' : Pass) → IsLedBy s pass pass' → (slot_at (state_seen pass') s).call ≡ None → KeepsIdle pass pass'
idle_led s pass pass' led own t was = go (ℕ_discrete t s)
  where
    go : Dec (t ≡ s) → (slot_at (state_seen pass') t).call ≡ None
    go (yes e) = subst (λ (k : ℕ). (slot_at (state_seen pass') k).call ≡ None) (sym e) own
    go (no differs) = ap (λ (x : Record). x.call) (led.leads.slots t differs) ∙ was

pub idle_call : (slot : Record) → is_idle slot ≡ true → slot.call ≡ None
idle_call slot idle = none slot.call (not_true (is_some slot.call) (and_true slot.used _ idle).1)
  where
    none : (o : Option Progress) → is_some o ≡ false → o ≡ None
    none None is = refl
    none (Some call) is = absurd (cc)

-- A look with a pass that is alone.

pub looked_pass : (p q : Pass) → LooksOn p q → IsSole p.id → q ≡ p
looked_pass p q looks sole = let still : IsUnmoved p q = record { same = looks.same; alone = looks.alone } in same_pass sole still

pub keeps_looked : (pass pass' : Pass) → LooksOn pass pass' → IsSole pass.id → KeepsOn pass pass'
keeps_looked pass pass' looks sole = keeps_on 0 pass pass' (led_none 0 pass pass' looks.same (looks.alone sole))

-- One event of a pass that is alone.

-- an event by which another slot is as it was
pub event_of : (s : ℕ) (event : Event) → event_slot event ≡ s → ((t : ℕ) → changes_slot t event ≡ (event_slot event == t)) → ((l : ℕ) → changes_link l event ≡ false) → IsOf s event
event_of s event its slot link = ((λ t differs. slot t ∙ other s t (event_slot event) its differs), link)

module _ {pass pass' : Pass} {event : Event} {answer : Answer} (makes : MakesAlone pass pass' event answer) where
  abbrev its_answer : Answer
  its_answer = (done_by next (state_seen pass) (timed_deed makes.deed)).1

  -- it was made with this pass
  by_pass : makes.deed.pass ≡ pass.id
  by_pass = go (makes.deed.pass == pass.id) refl
      (append_cancel_left (mine (start pass.name) pass.id pass.seen) _ _
      (sym (filter-append (λ a. maker a.0 == pass.id) (with_answers (start pass.name) pass.seen) ((Made makes.deed, its_answer) ∷ []))
      ∙ ap (filter (λ a. maker a.0 == pass.id)) (sym (answered_append (start pass.name) pass.seen (Made makes.deed ∷ [])))
      ∙ ap (λ (log : List Entry). mine (start pass.name) pass.id log) (ap (λ (log : List Entry). log ++ Made makes.deed ∷ []) (sym (makes.noted.alone makes.sole)) ∙ sym makes.noted.appended)
      ∙ makes.noted.made))
    where
      go : (b : Bool) → (makes.deed.pass == pass.id) ≡ b → cond {A = List (Entry × Answer)} b ((Made makes.deed, its_answer) ∷ []) [] ≡ (Made makes.deed, makes.noted.answer) ∷ [] → makes.deed.pass ≡ pass.id
      go true is same = eq_true makes.deed.pass pass.id is
      go false is same = absurd (cc)

  pub alone_led : (s : ℕ) → IsOf s event → IsLedBy s pass pass'
  alone_led s is =
      led_by s pass pass' ((makes.deed.event, makes.noted.answer) ∷ []) (one_added pass pass' makes.deed makes.same makes.noted) (alone_noted pass pass' (Made makes.deed) by_pass makes.noted) makes.sole
      (subst (IsOf s) (sym makes.is) is, tt)

  -- where it leads to
  pub alone_step : Step makes.deed.size (state_seen pass) event (state_seen pass', answer)
  alone_step = step_of makes.deed.size (state_seen pass) event (state_seen pass', answer) (made_next makes)

  -- it changes no head
  pub alone_heads : ((t : ℕ) → changes_head_of t event ≡ false) → KeepsActive pass pass'
  alone_heads none t = ap is_active (head_frame t makes.deed.size (state_seen pass) event (state_seen pass', answer) alone_step (none t))
