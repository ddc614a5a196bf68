-- A whole call of a slot, whose reclaimer put such blocks, as users see it: it began, made steps, and returned.
use Rattle.std.proofs.Common.{◌≡◌, ℕ, Bool, true, false, List, [], ◌∷◌, ◌++◌, map, refl, sym, ap, subst, ◌∙◌, append_assoc}
use Rattle.std.proofs.lemmas.Bool.{false≢true}
use base.Growing.{prefix_trans}
use mathlib.Core.List.{IsPrefix}
use Rattle.seize_machine.specs.Machine.Event.{Begin, Event, Return, SwapOut, Take}
use Rattle.seize_machine.specs.Machine.Frames.{changes_slot}
use Rattle.seize_machine.specs.declared.machine.event.Answer.{Answer}
use Rattle.seize_machine.specs.declared.machine.event.Answer.TheVariants.{Done}
use Rattle.seize_machine.specs.declared.machine.event.Job.{Job}
use Rattle.seize_machine.specs.declared.machine.event.Job.TheVariants.{Flush, Gather, Leave, Refresh, Retire}
use Rattle.seize_book.specs.Adding.{deed_with_words, private}
use Rattle.seize_book.specs.Book.{IsLegalList}
use Rattle.seize_book.specs.Entry.{Deed, Entry, Made}
use Rattle.seize_book.specs.Passes.{IsSamePass, events_by}
use Rattle.seize_book.specs.Slots.{AddsEvent, active_of, acts_of, slot_number}
use Rattle.seize_book.specs.Tokens.{Name, start}
use Rattle.seize_book.specs.declared.book.pass.Pass.{Pass}
use Rattle.seize_book.specs.declared.book.slot_key.SlotKey.{SlotKey}
use Rattle.seize_book.specs.declared.book.value_keys.ValueKeys.{ValueKeys}
use Rattle.seize_book.proofs.Facts.{equal}
use Rattle.seize_words.specs.Reservations.{beginning}
use Rattle.seize_words.specs.declared.activation.Activation.{Activation}
use Rattle.seize_words.specs.declared.words.Words.{Words}
use Rattle.seize_book.proofs.Facts.{equal, same_twice}
use Rattle.seize_calls.specs.Alone.{AddsOwn, AllMadeBy}
use Rattle.seize_calls.specs.Batches.{keys_in}
use Rattle.seize_calls.specs.Calls.{BeginsSo, Flushes, Leaves, Rests, Resumes, RetiresOne, Returns}
use Rattle.seize_calls.specs.Handing.{Had}
use Rattle.seize_calls.specs.Settling.{CallState, Drains, done_event}
use Rattle.seize_calls.specs.Slots.{CallsWith, IsOfWords, IsPassOf, SlotFlushes, SlotGathers, SlotLeaves, SlotRefreshes, SlotResumes, SlotRetires, SlotTakes, its_number, its_value}
use Rattle.seize_calls.specs.Walking.{handed_in, steps}
use Rattle.seize_calls.specs.declared.slot.Loose.{Loose}
use Rattle.seize_calls.specs.declared.slot.Slot.{Slot}
use Rattle.seize_calls.proofs.Leaving.{left_made}
use Rattle.seize_parts.specs.Makes.{AreStepsOf, Defers, MakesCall, MakesNone, MakesOne, MakesWhole, made_with, whole_call}
use Rattle.seize_parts.proofs.Made.{as_made, key_begins, key_takes, made_grew, none_prepared, none_then, then_none, undivided_after}
use Rattle.seize_parts.proofs.Own.{MadeAll, own_undivided, undivided_call}
use Rattle.seize_parts.proofs.Steps.{AllHad, Gives, Goes, HandSo, HandsNone, Runs, any_steps, goes_drained, goes_round, goes_settled, goes_then, had_so, hands_none_append, held_back, steps_of_append, walk_said, walk_steps}

-- a call, when no event was made before it
pub call_after : {IsPut : Pass → ℕ → List ℕ → Type 0} (s t : ℕ) (job : Job) (pass ready pass' : Pass) → s ≡ t → MakesNone pass ready → MakesCall IsPut s job ready pass' → MakesCall IsPut t job pass pass'
call_after {IsPut} s t job pass ready pass' same none call =
    subst (λ (k : ℕ). MakesCall IsPut k job pass pass') same (record { steps = call.steps; its = call.its; made = none_then none call.made; undivided = undivided_after none call.undivided })

-- A whole call, in which an active slot handed nothing.
abbrev pub Whole : (Pass → ℕ → List ℕ → Type 0) → Bool → ℕ → Event → Pass → Pass → Type 0
Whole IsPut active s first pass pass' = (call : MakesWhole IsPut s first pass pass') × (active ≡ true → HandsNone call.steps)

any_call : {IsPut : Pass → ℕ → List ℕ → Type 0} {s : ℕ} {first : Event} {p q : Pass} → MakesWhole IsPut s first p q → Whole IsPut false s first p q
any_call call = (call, λ on. absurd (false≢true on))

module _ (IsPut : Pass → ℕ → List ℕ → Type 0) (pass' : Pass) (gives : Gives (IsPut pass') pass'.seen) where
  -- a call has begun by this event, and made these steps; an active slot handed nothing
  record Opened (active : Bool) (s : ℕ) (first : Event) (pass now : Pass) : Type 0 where
    pub steps : List (Event × Answer)
    pub its : AreStepsOf (IsPut pass') s steps
    pub under_guard : active ≡ true → HandsNone steps
    pub made : made_with now ≡ made_with pass ++ (first, Done) ∷ steps

  opened_then : {active : Bool} {s : ℕ} {first : Event} {p q r : Pass} → Opened active s first p q → Runs gives active s q r → Opened active s first p r
  opened_then {active} {s} {first} {p} {q} {r} one two = record {
    steps = one.steps ++ two.steps;
    its = steps_of_append gives s one.steps two.steps one.its two.its;
    under_guard = λ on. hands_none_append one.steps two.steps (one.under_guard on) (two.under_guard on);
    made = two.made ∙ ap (λ (made : List (Event × Answer)). made ++ two.steps) one.made ∙ append_assoc (made_with p) ((first, Done) ∷ one.steps) two.steps;
  }

  -- and returns
  closed : (active : Bool) (s : ℕ) (first : Event) → changes_slot s first ≡ true → (pass two : Pass) → Opened active s first pass two → made_with pass' ≡ made_with two ++ (Return s, Done) ∷ [] → IsSamePass pass pass' → IsPrefix pass.seen pass'.seen
      → IsLegalList (start pass'.name) pass'.seen → MadeAll s pass pass' → Whole IsPut active s first pass pass'
  closed active s first its pass two opened ended same grows legal own = (
    record {
      steps = opened.steps;
      its = opened.its;
      made = record {
        same = same;
        grows = grows;
        legal = legal;
        made = all_made;
      };
      undivided = undivided_call own (IsPut pass') first its opened.steps opened.its all_made;
    },
    opened.under_guard,
  )
    where
      all_made : made_with pass' ≡ made_with pass ++ whole_call s first opened.steps
      all_made = ended ∙ ap (λ (made : List (Event × Answer)). made ++ (Return s, Done) ∷ []) opened.made ∙ append_assoc (made_with pass) ((first, Done) ∷ opened.steps) ((Return s, Done) ∷ [])

  -- where it is not said that the slot is active, nothing is said of what was handed
  any_slot : {active : Bool} {s : ℕ} {p q : Pass} → Runs gives active s p q → Runs gives false s p q
  any_slot runs = record { steps = runs.steps; its = runs.its; under_guard = λ on. absurd (false≢true on); made = runs.made }

  -- The calls of a slot, by its key. What the pass has seen is a legal list then.

  module _ (key : SlotKey) (pass : Pass) (values : ValueKeys) (had : Had) (key' : SlotKey) (values' : ValueKeys) (had' : Had) (all : AllHad gives had') (legal : IsLegalList (start pass'.name) pass'.seen) (own : MadeAll (slot_number key) pass pass') where
    abbrev s : ℕ
    s = slot_number key

    abbrev active : Bool
    active = active_of key

    began : (job : Job) (kepts : List ℕ) (a : CallState) → BeginsSo key pass job kepts values had a → Opened active s (Begin s job) pass a.pass
    began job kepts a begins = record { steps = []; its = tt; under_guard = λ on. tt; made = made_grew pass a.pass ((deed_with_words pass (Begin s job) kepts, Done) ∷ []) begins.begins.made }

    returned : (on : Bool) (job : Job) (a : CallState) → Opened on s (Begin s job) pass a.pass → slot_number a.key ≡ s → Returns a key' pass' values' had' → Rests key pass key' pass' values' → Whole IsPut on s (Begin s job) pass pass'
    returned on job a opened its returns rests =
        closed on s (Begin s job) (equal s s refl) pass a.pass opened
        (made_grew a.pass pass' (done_event a.pass (Return (slot_number a.key))) returns.made ∙ ap (λ (k : ℕ). made_with a.pass ++ (Return k, Done) ∷ []) its)
        rests.same rests.grows legal own

    drained : (a b : CallState) → Drains a b → Returns b key' pass' values' had' → Goes gives a b
    drained a b drains returns = goes_drained gives a b drains (subst (AllHad gives) returns.had_none all) returns.keeps.on.grows

    -- what goes on from where the call began
    goes_on : (job : Job) (kepts : List ℕ) (a b : CallState) → BeginsSo key pass job kepts values had a → Goes gives a b → Returns b key' pass' values' had' → Rests key pass key' pass' values' → Whole IsPut active s (Begin s job) pass pass'
    goes_on job kepts a b begins goes returns rests =
        let its = begins.begins.keeps.on.its.1 in
        returned active job b (opened_then (began job kepts a begins) (subst (λ (t : Bool × ℕ). Runs gives t.0 t.1 a.pass b.pass) (λ j. (begins.begins.keeps.on.active j, its j)) goes.runs)) (goes.its ∙ its) returns rests

    pub key_retires : (v kept : ℕ) (retired : Bool) → RetiresOne key pass v kept values had key' pass' values' had' retired → Whole IsPut active s (Begin s (Retire v)) pass pass'
    key_retires v kept retired r =
        let drains = drained r.settled r.ends.drained r.ends.drains.drains r.ends.returns in let known = prefix_trans r.settled.pass.seen r.ends.drained.pass.seen pass'.seen drains.grows r.ends.returns.keeps.on.grows in
        goes_on (Retire v) (kept ∷ []) r.begun r.ends.drained r.begins (goes_then gives (goes_round gives r.begun v kept r.settled retired r.drains_one drains.before known) drains) r.ends.returns r.rests

    pub key_flushes : (retired : Bool) → Flushes key pass values had key' pass' values' had' retired → Whole IsPut active s (Begin s Flush) pass pass'
    key_flushes retired r =
        let drains = drained r.settled r.ends.drained r.ends.drains.drains r.ends.returns in let known = prefix_trans r.settled.pass.seen r.ends.drained.pass.seen pass'.seen drains.grows r.ends.returns.keeps.on.grows in
        goes_on Flush [] r.begun r.ends.drained r.begins (goes_then gives (goes_settled gives 1 r.begun r.settled retired r.settles drains.before known) drains) r.ends.returns r.rests

    pub key_leaves : (job : Job) (stays : Bool) (swap : Deed) → swap.event ≡ SwapOut s → Leaves job stays swap key pass values had key' pass' values' had' → MakesCall IsPut s job pass pass'
    key_leaves job stays swap swaps r = (returned false job r.ends.drained (opened_then opened (subst (λ (k : ℕ). Runs gives false k r.behind.pass r.ends.drained.pass) behind (any_slot drains.runs))) its r.ends.returns r.rests).0
      where
        drains : Goes gives r.behind r.ends.drained
        drains = drained r.behind r.ends.drained r.ends.drains.drains r.ends.returns

        its : slot_number r.ends.drained.key ≡ s
        its = sym r.ends.returns.keeps.on.its.1 ∙ r.rests.its.1

        behind : slot_number r.behind.key ≡ s
        behind = sym drains.its ∙ its

        begin : List (Deed × Answer)
        begin = done_event pass (Begin s job)

        walk : List (Deed × Answer)
        walk = steps pass s r.walked

        handed : HandSo (IsPut pass') (handed_in r.walked) × AllHad gives had
        handed = had_so gives r.behind.pass.seen (handed_in r.walked) r.kepts had r.behind.had r.has_had drains.before
            (prefix_trans r.behind.pass.seen r.ends.drained.pass.seen pass'.seen drains.grows r.ends.returns.keeps.on.grows) r.told (walk_said r.behind.pass pass s ((events_by pass ++ begin) ++ (swap, Done) ∷ []) r.walked (left_made r))

        opened : Opened false s (Begin s job) pass r.behind.pass
        opened = record {
          under_guard = λ on. absurd (false≢true on);
          steps = (SwapOut s, Done) ∷ map as_made walk;
          its = (refl, walk_steps gives pass s r.walked handed.0);
          made = made_grew pass r.behind.pass (begin ++ ((swap, Done) ∷ walk)) (left_made r ∙ append_assoc (events_by pass ++ begin) ((swap, Done) ∷ []) walk ∙ append_assoc (events_by pass) begin ((swap, Done) ∷ walk))
              ∙ ap (λ (e : Event). made_with pass ++ (Begin s job, Done) ∷ (e, Done) ∷ map as_made walk) swaps;
        }

  -- A call that another event of the slot began goes on to its return.
  key_resumes : (s : ℕ) (first : Event) → changes_slot s first ≡ true → (p : Pass) (key : SlotKey) (pass : Pass) (values : ValueKeys) (had : Had) (key' : SlotKey) (values' : ValueKeys) (had' : Had) → AllHad gives had' → slot_number key ≡ s
      → Resumes key pass values had key' pass' values' had' → made_with pass ≡ made_with p ++ (first, Done) ∷ [] → IsSamePass p pass' → IsPrefix p.seen pass'.seen → IsLegalList (start pass'.name) pass'.seen → MadeAll s p pass'
      → MakesWhole IsPut s first p pass'
  key_resumes s first of p key pass values had key' values' had' all its r began same grows legal own = (closed false s first of p r.ends.drained.pass opened ended same grows legal own).0
    where
      drains : Goes gives r.settled r.ends.drained
      drains = goes_drained gives r.settled r.ends.drained r.ends.drains.drains (subst (AllHad gives) r.ends.returns.had_none all) r.ends.returns.keeps.on.grows

      goes : Goes gives (record { key = key; pass = pass; batch = values; queue = r.queue; had = had }) r.ends.drained
      goes = goes_then gives
          (goes_settled gives 0 (record { key = key; pass = pass; batch = values; queue = r.queue; had = had }) r.settled r.retired r.settles drains.before
          (prefix_trans r.settled.pass.seen r.ends.drained.pass.seen pass'.seen drains.grows r.ends.returns.keeps.on.grows)) drains

      opened : Opened false s first p r.ends.drained.pass
      opened = opened_then (record { steps = []; its = tt; under_guard = λ on. tt; made = began }) (subst (λ (k : ℕ). Runs gives false k pass r.ends.drained.pass) its (any_slot goes.runs))

      ended : made_with pass' ≡ made_with r.ends.drained.pass ++ (Return s, Done) ∷ []
      ended = made_grew r.ends.drained.pass pass' (done_event r.ends.drained.pass (Return (slot_number r.ends.drained.key))) r.ends.returns.made
          ∙ ap (λ (k : ℕ). made_with r.ends.drained.pass ++ (Return k, Done) ∷ []) (goes.its ∙ its)

  -- The calls of a slot as one value, with the reclaimer of a collector.

  module _ {T : Type 0} (words : Words T) (slot : Slot T) (pass : Pass) (slot' : Slot T) (of : IsOfWords words slot') (for : IsPassOf words pass) where
    -- what the pass has seen is a legal list then, since it is what the slot has seen
    seen_legal : (Does : Pass → Type 0) (calls : CallsWith slot pass slot' pass' Does) → IsSamePass calls.ready pass' → IsLegalList (start pass'.name) pass'.seen
    seen_legal Does calls same =
        subst (λ (t : Name × List Entry). IsLegalList (start t.0) t.1) (λ j. ((of.book ∙ for.0 ∙ sym calls.prepares.same.0 ∙ sym same.0) j, calls.seen j)) of.knows.legal

    -- what the slot made with the pass is all that it made
    made_all : (Does : Pass → Type 0) (calls : CallsWith slot pass slot' pass' Does) → Rests slot.holder.key calls.ready slot'.holder.key pass' (keys_in slot'.holder.batch) → MadeAll (slot_number slot.holder.key) calls.ready pass'
    made_all Does calls rests =
        own_undivided slot.holder.key slot'.holder.key calls.ready pass' rests.same
        calls.prepares.legal (seen_legal Does calls rests.same) calls.knew rests.grows rests.sees rests.its rests.own

    whole : (active : Bool) (job : Job) (Does : Pass → Type 0) (calls : CallsWith slot pass slot' pass' Does) → Whole IsPut active (slot_number slot.holder.key) (Begin (slot_number slot.holder.key) job) calls.ready pass' → Whole IsPut active (its_number slot) (Begin (its_number slot) job) pass pass'
    whole active job Does calls makes =
        let call = makes.0 in let none = none_prepared slot pass calls.ready calls.prepares in
        subst (λ (k : ℕ). Whole IsPut active k (Begin k job) pass pass') slot.together.numbered (record { steps = call.steps; its = call.its; made = none_then none call.made; undivided = undivided_after none call.undivided }, makes.1)

    module _ (had : Had) (had' : Had) (all : AllHad gives had') where
      pub slot_retires : (loose : Loose) (kept : ℕ) (retired : Bool) → SlotRetires slot pass loose kept had slot' pass' had' retired → Whole IsPut (active_of slot.holder.key) (its_number slot) (Begin (its_number slot) (Retire (its_value loose))) pass pass'
      slot_retires loose kept retired calls =
          whole (active_of slot.holder.key) (Retire (its_value loose)) _ calls
          (key_retires slot.holder.key calls.ready (keys_in slot.holder.batch) had slot'.holder.key (keys_in slot'.holder.batch) had' all (seen_legal _ calls calls.does.rests.same) (made_all _ calls calls.does.rests) (its_value loose) kept retired calls.does)

      pub slot_flushes : (retired : Bool) → SlotFlushes slot pass had slot' pass' had' retired → Whole IsPut (active_of slot.holder.key) (its_number slot) (Begin (its_number slot) Flush) pass pass'
      slot_flushes retired calls =
          whole (active_of slot.holder.key) Flush _ calls (key_flushes slot.holder.key calls.ready (keys_in slot.holder.batch) had slot'.holder.key (keys_in slot'.holder.batch) had' all (seen_legal _ calls calls.does.rests.same) (made_all _ calls calls.does.rests) retired calls.does)

      pub slot_leaves : SlotLeaves slot pass had slot' pass' had' → MakesCall IsPut (its_number slot) Leave pass pass'
      slot_leaves calls =
          (whole false Leave _ calls
          (any_call (key_leaves slot.holder.key calls.ready (keys_in slot.holder.batch) had slot'.holder.key (keys_in slot'.holder.batch) had' all (seen_legal _ calls calls.does.rests.same) (made_all _ calls calls.does.rests) Leave false
          (private calls.ready (SwapOut (slot_number slot.holder.key))) refl calls.does))).0

      pub slot_refreshes : (a : Activation) → SlotRefreshes slot pass a had slot' pass' had' → MakesCall IsPut (its_number slot) Refresh pass pass'
      slot_refreshes a calls =
          (whole false Refresh _ calls
          (any_call (key_leaves slot.holder.key calls.ready (keys_in slot.holder.batch) had slot'.holder.key (keys_in slot'.holder.batch) had' all (seen_legal _ calls calls.does.rests.same) (made_all _ calls calls.does.rests) Refresh true
          (beginning calls.ready a.life (SwapOut (slot_number slot.holder.key))) refl calls.does))).0

  -- A slot's number is taken again, or the slot begins to gather; and then its call goes on.
  module _ {T : Type 0} (words : Words T) (before : Slot T) (p : Pass) (slot : Slot T) (mid : Pass) (slot' : Slot T) (of : IsOfWords words slot') (for : IsPassOf words p) (had : Had) (had' : Had) (all : AllHad gives had') where
    resumed : (first : Event) → changes_slot (its_number before) first ≡ true → (begins : CallsWith before p slot mid (λ q. AddsEvent before.holder.key q slot.holder.key mid first))
        → ((q : Pass) → AddsEvent before.holder.key q slot.holder.key mid first → MakesOne q mid first Done) → SlotResumes slot mid had slot' pass' had' → MakesWhole IsPut (its_number before) first p pass'
    resumed first changes begins one resumes = record { steps = call.steps; its = call.its; made = none_then none call.made; undivided = undivided_after none call.undivided }
      where
        none : MakesNone p begins.ready
        none = none_prepared before p begins.ready begins.prepares

        began : MakesOne begins.ready resumes.ready first Done
        began = then_none (one begins.ready begins.does) (none_prepared slot mid resumes.ready resumes.prepares)

        same : IsSamePass begins.ready pass'
        same = same_twice begins.ready resumes.ready pass' began.same resumes.does.rests.same

        grows : IsPrefix begins.ready.seen pass'.seen
        grows = prefix_trans begins.ready.seen resumes.ready.seen pass'.seen began.grows resumes.does.rests.grows

        legal : IsLegalList (start pass'.name) pass'.seen
        legal = subst (λ (t : Name × List Entry). IsLegalList (start t.0) t.1) (λ j. ((of.book ∙ for.0 ∙ sym begins.prepares.same.0 ∙ sym same.0) j, resumes.seen j)) of.knows.legal

        its : (slot'.holder.key.keys.name ≡ before.holder.key.keys.name) × (slot_number slot'.holder.key ≡ slot_number before.holder.key)
        its = (resumes.does.rests.its.0 ∙ begins.does.1.0, resumes.does.rests.its.1 ∙ begins.does.1.1)

        own : AddsOwn before.holder.key begins.ready slot'.holder.key
        own = (
          (Made (private begins.ready first), begins.does.2.0.answer) ∷ resumes.does.rests.own.0,
          resumes.does.rests.own.1 ∙ ap (λ (acts : List (Entry × Answer)). acts ++ resumes.does.rests.own.0) begins.does.2.1.acts ∙ append_assoc (acts_of before.holder.key) ((Made (private begins.ready first), begins.does.2.0.answer) ∷ []) resumes.does.rests.own.0,
          (refl, subst (λ (k : ℕ). AllMadeBy k resumes.does.rests.own.0) began.same.1 resumes.does.rests.own.2),
        )

        number : slot_number before.holder.key ≡ its_number before
        number = before.together.numbered

        all_of : MadeAll (its_number before) begins.ready pass'
        all_of = subst (λ (k : ℕ). MadeAll k begins.ready pass') number (own_undivided before.holder.key slot'.holder.key begins.ready pass' same begins.prepares.legal legal begins.knew grows resumes.does.rests.sees its own)

        call : MakesWhole IsPut (its_number before) first begins.ready pass'
        call = key_resumes (its_number before) first changes begins.ready slot.holder.key resumes.ready (keys_in slot.holder.batch) had slot'.holder.key (keys_in slot'.holder.batch) had' all (begins.does.1.1 ∙ number) resumes.does began.made same grows legal all_of

    pub slot_takes_whole : SlotTakes before p slot mid → SlotResumes slot mid had slot' pass' had' → MakesWhole IsPut (its_number before) (Take (its_number before)) p pass'
    slot_takes_whole takes = resumed (Take (its_number before)) (equal _ _ refl) takes (λ q does. key_takes before.holder.key q slot.holder.key mid (its_number before) does)

    pub slot_gathers_whole : SlotGathers before p slot mid → SlotResumes slot mid had slot' pass' had' → MakesCall IsPut (its_number before) Gather p pass'
    slot_gathers_whole gathers = resumed (Begin (its_number before) Gather) (equal _ _ refl) gathers (λ q does. key_begins before.holder.key q slot.holder.key mid (its_number before) Gather does)

-- A call in which nothing was handed.
pub held_whole : {IsPut : Pass → ℕ → List ℕ → Type 0} {active : Bool} {s : ℕ} {job : Job} {p q : Pass} → Whole IsPut active s (Begin s job) p q → active ≡ true → Defers s job p q
held_whole {IsPut} {active} {s} {job} {p} {q} call on = record { steps = call.0.steps; its = held_back (IsPut q) s call.0.steps call.0.its (call.1 on); made = call.0.made; undivided = call.0.undivided }

pub any_reclaimer : (IsPut : Pass → ℕ → List ℕ → Type 0) {s : ℕ} {job : Job} {p q : Pass} → Defers s job p q → MakesCall IsPut s job p q
any_reclaimer IsPut {s} {job} {p} {q} call = record { steps = call.steps; its = any_steps (IsPut q) s call.steps call.its; made = call.made; undivided = call.undivided }
