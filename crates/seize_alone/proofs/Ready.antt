-- What callers of the laws know: which events are made alone, the pass that is ready for a call, and what the model's calls answer where
-- these laws speak of their states.
--     entry_alone, made_alone      an event that a slot's holder added, at the pass's size;  the number of a slot that was just made is taken
--     swapped_alone                a link was exchanged
--     ready_holds, ready_sole      the pass that was made ready for a call has seen what it had seen, where it is alone
--     nothing_further, nothing_flushed     what a call does where the reclaimer puts nothing
--     least_is                     which number is taken
--     entered, ended, kept, protected, exchanged, left_beside, refreshed_beside, taken     what the model's calls answer
--     used_slot, taken_slot        the slot of a number that was taken, before what was left is attempted and after that
--     taking_short, taking_full    what is done as a number is taken, where less was left than a full batch, and where that was full
use Rattle.std.proofs.Common.{◌≡◌, ℕ, ◌<◌, ◌==◌, ◌||◌, ◌+◌, ◌-◌, ◌^◌, ◌≤◌, Bool, true, false, not, ◌&&◌, if◌then◌else◌, List, [], ◌∷◌, length, get_or, set, Option, Some, None, refl, sym, ap, subst, ◌∙◌, arith}
use Rattle.std.specs.Prelude.{Err, Ok}
use Rattle.std.proofs.lemmas.List.{append-nil}
use Rattle.std.proofs.lemmas.List.Concat.{flat_map-cons}
use Rattle.std.proofs.lemmas.List.Sums.{position_or_len_is}
use base.Stored.{Coded}
use Rattle.seize_table.specs.Place.{all_numbers}
use Rattle.seize_table.specs.declared.refusal.Refusal.{Refusal}
use Rattle.seize_table.specs.declared.refusal.Refusal.TheVariants.{NoNumbers, NotInUse, TooManyGuards, WrongKind}
use Rattle.seize_machine.specs.Machine.State as machine
use Rattle.seize_machine.specs.Machine.Event.{Event, ExchangeLink, Take}
use Rattle.seize_machine.specs.Machine.Next.{can_link, is_none_or_fresh}
use Rattle.seize_machine.specs.declared.machine.event.Answer.{Answer}
use Rattle.seize_machine.specs.declared.machine.event.Answer.TheVariants.{Link}
use Rattle.seize_machine.specs.declared.machine.event.Exchange.TheVariants.{Swap}
use Rattle.seize_machine.proofs.Facts.{if_some, swapped}
use Rattle.seize_model.specs.declared.kind.Kind.{Kind}
use Rattle.seize_model.specs.declared.kind.Kind.TheVariants.{Registered}
use Rattle.seize_model.specs.Waiting.State as waiting
use Rattle.seize_model.specs.Waiting.Attempt.{StateAndGone, attempt, attempt_if_full, is_full, part, with_gone}
use Rattle.seize_model.specs.Waiting.Calls.{Response, end_slot, enter, first_refusal, flush, give_back, given_back_if, is_free, is_owned, leave, least_unused, model_link, not_registered, one_guard_less, part_if_alone, protect, refresh, set_guards, swap, take_number, taking, unless, with_number_in_use}
use Rattle.seize_model.specs.Waiting.Further.{Lighter, afterwards, further, put_by, with_further}
use Rattle.seize_model.proofs.WaitingSets.FurtherValues.{afterwards-nil}
use Rattle.seize_model.proofs.Simulation.Jobs.{settled_nothing}
use Rattle.seize_model.proofs.Simulation.Plays.{both_same}
use Rattle.seize_model.proofs.WaitingSets.Beside.{Steady, full_beside, ignores_of, settled_beside}
use Rattle.seize_model.proofs.WaitingSets.Taken.{none_more, slot_taken}
use Rattle.seize_book.specs.Adding.{private}
use Rattle.seize_book.specs.Book.{after}
use Rattle.seize_book.specs.Entry.{Deed, Entry}
use Rattle.seize_book.specs.Slots.{AddsDeed, slot_number}
use Rattle.seize_book.specs.Tokens.{IsSole, Name, start}
use Rattle.seize_book.specs.declared.book.numbers_key.NumbersKey.{NumbersKey}
use Rattle.seize_book.specs.declared.book.pass.Pass.{Pass}
use Rattle.seize_book.specs.declared.book.slot_key.SlotKey.{SlotKey}
use Rattle.seize_words.specs.LinkWords.{ActsOnLink}
use Rattle.seize_words.specs.Totals.{MakesSlot}
use Rattle.seize_words.specs.declared.activation.Activation.{Activation}
use Rattle.seize_words.specs.declared.link.Link.{Link as SharedLink}
use Rattle.seize_calls.specs.Slots.{Prepares}
use Rattle.seize_calls.specs.declared.slot.Slot.{Slot}
use Rattle.seize_alone.specs.Events.{MakesAlone}
use Rattle.seize_alone.specs.Holding.{Holds}
use Rattle.seize_alone.proofs.Held.{guarded}

-- Which events are made alone.

pub entry_alone : {key key' : SlotKey} {pass pass' : Pass} {d : Deed} → IsSole pass.id → (adds : AddsDeed key pass key' pass' d) → d.size ≡ pass.size → MakesAlone pass pass' d.event adds.2.0.answer
entry_alone {key} {key'} {pass} {pass'} {d} sole adds sized = record { sole = sole; same = adds.0; deed = d; is = refl; sized = sized; noted = adds.2.0; answers = refl }

pub made_alone : {numbers numbers' : NumbersKey} {key key' : SlotKey} {pass pass' : Pass} → IsSole pass.id → (makes : MakesSlot numbers key pass numbers' key' pass') → MakesAlone pass pass' (Take (slot_number key)) makes.noted.answer
made_alone {numbers} {numbers'} {key} {key'} {pass} {pass'} sole makes = record { sole = sole; same = makes.same; deed = private pass (Take (slot_number key)); is = refl; sized = refl; noted = makes.noted; answers = refl }

-- on a link
module _ {link : SharedLink} {a : Activation} {pass pass' : Pass} {event : Event} {v : ℕ} (sole : IsSole pass.id) (t : ActsOnLink link a pass pass' event v) where
  on_link : (answer : Answer) → t.noted.answer ≡ answer → MakesAlone pass pass' event answer
  on_link answer is = record { sole = sole; same = t.same; deed = private pass event; is = refl; sized = refl; noted = t.noted; answers = is }

pub swapped_alone : {link : SharedLink} {a : Activation} {pass pass' : Pass} {s l v : ℕ} {number : Option ℕ} → IsSole pass.id → (t : ActsOnLink link a pass pass' (ExchangeLink s l (Swap number)) v)
    → MakesAlone pass pass' (ExchangeLink s l (Swap number)) (Link (machine.link_at (after (start pass.name) t.before) l))
swapped_alone {link} {a} {pass} {pass'} {s} {l} {v} {number} sole t =
    let before = after (start pass.name) t.noted.before in
    let done = if_some (can_link before s l && is_none_or_fresh before number) (swapped before l number, Link (machine.link_at before l)) (t.noted.later, t.noted.answer) t.noted.does in
    let ends = both_same (swapped before l number, Link (machine.link_at before l)) (t.noted.later, t.noted.answer) (ap Some done.1) in
    on_link sole t (Link (machine.link_at (after (start pass.name) t.before) l)) (sym ends.1 ∙ ap (λ (log : List Entry). Link (machine.link_at (after (start pass.name) log) l)) t.is_before)

-- The pass that was made ready.

pub ready_sole : {U : Type 0} {slot : Slot U} {pass ready : Pass} → Prepares slot pass ready → IsSole pass.id → IsSole ready.id
ready_sole prepares sole = subst IsSole (sym prepares.same.1) sole

pub ready_holds : {T U : Type 0} {slot : Slot U} {pass ready : Pass} → Prepares slot pass ready → IsSole pass.id → (c : Coded T) (st : waiting.ModelState T ℕ) (names : List (ℕ × T)) (kinds : List (ℕ × ℕ)) → Holds c.code st names kinds pass.name pass.seen
    → Holds c.code st names kinds ready.name ready.seen
ready_holds prepares sole c st names kinds holds = subst (λ (t : Name × List Entry). Holds c.code st names kinds t.0 t.1) (λ i. (sym prepares.same.0 i, sym (prepares.alone sole) i)) holds

-- What the model's calls answer.

module _ {T : Type 0} (st : waiting.ModelState T ℕ) (s : ℕ) where
  registered : (waiting.model_slot st s).kind ≡ Registered → not_registered st s ≡ None
  registered kind = λ i. first_refusal (if is_free (kind i) then Some NotInUse else None) (if is_owned (kind i) then Some WrongKind else None)

  pub entered : (waiting.model_slot st s).kind ≡ Registered → ((waiting.model_slot st s).guards == 2 ^ 64 - 1) ≡ false → enter st s ≡ (Ok tt, (set_guards st s ((waiting.model_slot st s).guards + 1), []))
  entered kind few = λ i. unless (first_refusal (registered kind i) (if few i then Some TooManyGuards else None)) st (Ok tt, (set_guards st s ((waiting.model_slot st s).guards + 1), []))

  pub protected : (l : ℕ) → is_free (waiting.model_slot st s).kind ≡ false → waiting.has_guard (waiting.model_slot st s) ≡ true → protect st s l ≡ (Ok (model_link st l), (st, []))
  protected l used on = ap (λ (r : Option Refusal). unless r st (Ok (model_link st l), (st, []))) (guarded st s used on)

  pub exchanged : (l : ℕ) (new : Option T) → is_free (waiting.model_slot st s).kind ≡ false → waiting.has_guard (waiting.model_slot st s) ≡ true → swap st s l new ≡ (Ok (model_link st l), (record st { links = set st.links l new }, []))
  exchanged l new used on = ap (λ (r : Option Refusal). unless r st (Ok (model_link st l), (record st { links = set st.links l new }, []))) (guarded st s used on)

  module _ (puts : ℕ → T → List T) (weight : T → ℕ) where
    pub ended : (waiting.model_slot st s).kind ≡ Registered → waiting.has_guard (waiting.model_slot st s) ≡ false → end_slot puts weight st s ≡ (Ok true, give_back puts weight st s)
    ended kind off = λ i. unless (registered kind i) st (if off i then (Ok false, (st, [])) else (Ok true, give_back puts weight st s))

    -- a guard keeps the number
    pub kept : (waiting.model_slot st s).kind ≡ Registered → waiting.has_guard (waiting.model_slot st s) ≡ true → end_slot puts weight st s ≡ (Ok false, (st, []))
    kept kind on = λ i. unless (registered kind i) st (if on i then (Ok false, (st, [])) else (Ok true, give_back puts weight st s))

    some_guards : (n : ℕ) → 2 ≤ n → (n == 1) ≡ false
    some_guards n many = grind arith

    has_some : (n : ℕ) → 2 ≤ n → not (n == 0) ≡ true
    has_some n many = grind arith

    -- with guards besides
    pub left_beside : (waiting.model_slot st s).kind ≡ Registered → 2 ≤ (waiting.model_slot st s).guards → leave puts weight st s ≡ (Ok tt, (set_guards st s ((waiting.model_slot st s).guards - 1), []))
    left_beside kind many =
        let less : one_guard_less st s ≡ (set_guards st s ((waiting.model_slot st s).guards - 1), []) =
        ap (λ (b : Bool). if b then part (set_guards st s 0) s else (set_guards st s ((waiting.model_slot st s).guards - 1), [])) (some_guards (waiting.model_slot st s).guards many) in
        ap (λ (r : Option Refusal). unless r st (Ok tt, given_back_if puts weight (is_owned (waiting.model_slot st s).kind) s (with_further puts weight s (one_guard_less st s)))) (guarded st s (ap is_free kind) (has_some (waiting.model_slot st s).guards many))
        ∙ ap (λ (k : Kind). (Ok tt, given_back_if puts weight (is_owned k) s (with_further puts weight s (one_guard_less st s)))) kind
        ∙ ap (λ (o : StateAndGone T ℕ). (Ok tt, with_further puts weight s o)) less ∙ ap (λ (o : StateAndGone T ℕ). (Ok tt, o)) (settled_nothing puts weight (set_guards st s ((waiting.model_slot st s).guards - 1)) s)

    pub refreshed_beside : (waiting.model_slot st s).kind ≡ Registered → 2 ≤ (waiting.model_slot st s).guards → refresh puts weight st s ≡ (Ok tt, (st, []))
    refreshed_beside kind many =
        ap (λ (r : Option Refusal). unless r st (Ok tt, with_further puts weight s (part_if_alone st s))) (guarded st s (ap is_free kind) (has_some (waiting.model_slot st s).guards many))
        ∙ (λ i. (Ok tt, with_further puts weight s (if is_owned (kind i) || some_guards (waiting.model_slot st s).guards many i then part st s else (st, []))))
        ∙ ap (λ (o : StateAndGone T ℕ). (Ok tt, o)) (settled_nothing puts weight st s)

-- Taking a number.

module _ {T : Type 0} (st : waiting.ModelState T ℕ) (n : ℕ) (kind : Kind) (least : n ≡ least_unused st.slots) where
  -- the slot whose number was taken
  pub used_slot : waiting.model_slot (with_number_in_use st n kind) n ≡ record { kind = kind; guards = 0; batch = st.rest; order = [] }
  used_slot = ap (λ (k : ℕ). waiting.model_slot (with_number_in_use st k kind) k) least ∙ slot_taken st kind

  module _ (puts : ℕ → T → List T) (weight : T → ℕ) where
    pub taken : (guards : ℕ) → (n == all_numbers) ≡ false → take_number puts weight st kind guards ≡ (Ok n, (set_guards (taking puts weight st n kind).0 n guards, (taking puts weight st n kind).1))
    taken guards few =
        let said : ℕ → Bool → Response ℕ T ℕ = λ k b. if b then (Err NoNumbers, (st, [])) else (Ok k, (set_guards (taking puts weight st k kind).0 k guards, (taking puts weight st k kind).1)) in
        ap (λ (k : ℕ). said k (k == all_numbers)) (sym least) ∙ ap (said n) few

    -- and once what was left was attempted, where it is a full batch
    pub taken_slot : ((waiting.model_slot (taking puts weight st n kind).0 n).kind ≡ kind) × ((waiting.model_slot (taking puts weight st n kind).0 n).guards ≡ 0)
    taken_slot = (stays (λ (slot : waiting.ModelSlot T ℕ). slot.kind) (λ slot batch order. refl), stays (λ (slot : waiting.ModelSlot T ℕ). slot.guards) (λ slot batch order. refl))
      where
        stays : {X : Type 0} (g : waiting.ModelSlot T ℕ → X) → Steady g → g (waiting.model_slot (taking puts weight st n kind).0 n) ≡ g (record { kind = kind; guards = 0; batch = st.rest; order = [] })
        stays g steady =
            settled_beside puts weight (λ (k : waiting.ModelState T ℕ). g (waiting.model_slot k n)) (ignores_of g steady n) n (attempt_if_full (with_number_in_use st n kind) n)
            ∙ full_beside (λ (k : waiting.ModelState T ℕ). g (waiting.model_slot k n)) (ignores_of g steady n) (with_number_in_use st n kind) n ∙ ap g used_slot

    -- it has no guard, so it stays the same with none
    pub taken_as : (set_guards (taking puts weight st n kind).0 n 0, (taking puts weight st n kind).1) ≡ taking puts weight st n kind
    taken_as = ap (λ (k : waiting.ModelState T ℕ). (k, (taking puts weight st n kind).1)) (none_more (taking puts weight st n kind).0 n taken_slot.1)

    full_so : is_full st.size (waiting.model_slot (with_number_in_use st n kind) n).batch ≡ is_full st.size st.rest
    full_so = ap (λ (slot : waiting.ModelSlot T ℕ). is_full st.size slot.batch) used_slot

    pub taking_short : is_full st.size st.rest ≡ false → taking puts weight st n kind ≡ (with_number_in_use st n kind, [])
    taking_short short =
        ap (λ (b : Bool). with_further puts weight n (if b then attempt (with_number_in_use st n kind) n else (with_number_in_use st n kind, []))) (full_so ∙ short)
        ∙ settled_nothing puts weight (with_number_in_use st n kind) n

    pub taking_full : is_full st.size st.rest ≡ true → taking puts weight st n kind ≡ with_further puts weight n (attempt (with_number_in_use st n kind) n)
    taking_full full = ap (λ (b : Bool). with_further puts weight n (if b then attempt (with_number_in_use st n kind) n else (with_number_in_use st n kind, []))) (full_so ∙ full)

-- Where a reclaimer puts nothing, nothing is done besides.

abbrev pub nothing : {T R : Type 0} → R → T → List T
nothing r v = []

pub nothing_lighter : {T R : Type 0} → Lighter {T = T} {R = R} nothing (λ v. 1)
nothing_lighter r v = omega arith

module _ {T R : Type 0} (weight : T → ℕ) where
  no_further : (gone : List (T × R)) → further nothing gone ≡ []
  no_further [] = refl
  no_further (v ∷ gone) = flat_map-cons (put_by nothing) v gone ∙ no_further gone

  pub nothing_further : (s : ℕ) (o : StateAndGone T R) → with_further nothing weight s o ≡ o
  nothing_further s o =
      ap (λ (q : List (T × R)). with_gone o.1 (afterwards nothing weight o.0 s q)) (no_further o.1)
      ∙ ap (λ (p : StateAndGone T R). with_gone o.1 p) (afterwards-nil nothing weight o.0 s)
      ∙ (λ i. (o.0, append-nil o.1 i))

-- a flush is its attempt, where the reclaimer puts nothing
pub nothing_flushed : {T : Type 0} (st : waiting.ModelState T ℕ) (s : ℕ) (weight : T → ℕ) → is_free (waiting.model_slot st s).kind ≡ false → waiting.has_guard (waiting.model_slot st s) ≡ true → flush nothing weight st s ≡ (Ok tt, attempt st s)
nothing_flushed {T} st s weight used on =
    ap (λ (r : Option Refusal). unless {A = Unit {0}} r st (Ok tt, with_further nothing weight s (attempt st s))) (guarded st s used on)
    ∙ ap (λ (o : StateAndGone T ℕ). (Ok tt, o)) (nothing_further weight s (attempt st s))

-- The least number that is not in use, where those below are in use.

pub least_is : {T R : Type 0} (slots : List (waiting.ModelSlot T R)) (s : ℕ) → s < length slots → ((i : ℕ) → i < s → is_free (get_or slots i waiting.unmade_slot).kind ≡ false) → is_free (get_or slots s waiting.unmade_slot).kind ≡ true → least_unused slots ≡ s
least_is {T} {R} slots s h used free = position_or_len_is (λ (slot : waiting.ModelSlot T R). is_free slot.kind) slots s waiting.unmade_slot (omega (arith, h)) used (λ within. free)
