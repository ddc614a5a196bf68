-- The slot of the least number that is not in use takes it, with what was left, where its pass is alone; and it attempts that, where it is
-- enough. What its reclaimer puts waits apart, so the state is the one that the model has where nothing is put.
--     rest_shown                 as many values are left as the hands hold
--     taken_record, taken_off    the slot's record when it took its number;  no slot is active that was not
--     taken_key                  as its key knows it
--     took_goes, took_led        it took its number, and no call has begun;  what stays then
--     resumed_goes, resumed_led     a call has begun, and the slot went on with it;  what stays then
use Rattle.std.proofs.Common.{◌≡◌, ℕ, ◌+◌, max, nat_le, Bool, true, false, if◌then◌else◌, List, [], length, None, Some, is_some, refl, sym, ap, subst, ◌∙◌}
use Rattle.std.proofs.lemmas.List.{get_or-set_same, get_or_push, length-map}
use base.Stored.{Coded}
use Rattle.seize_machine.proofs.Facts.{Step}
use Rattle.seize_machine.specs.Machine.Event.{Take}
use Rattle.seize_machine.specs.Machine.Next.{taken_call, taken_slot}
use Rattle.seize_machine.specs.Machine.State.{Mark, Progress, Slot as Record, State, are_distinct, head_at, is_active, linked_values, no_slot, slot_at}
use Rattle.seize_machine.specs.declared.machine.event.Answer.{Answer}
use Rattle.seize_model.specs.declared.kind.Kind.TheVariants.{Registered}
use Rattle.seize_model.specs.Waiting.Attempt.{StateAndGone, attempt, attempt_if_full}
use Rattle.seize_model.specs.Waiting.Calls.{least_unused, with_number_in_use}
use Rattle.seize_model.specs.Waiting.State.{ModelState}
use Rattle.seize_book.specs.Book.{after}
use Rattle.seize_book.specs.Homesteads.{state_seen}
use Rattle.seize_book.specs.Passes.{IsSamePass}
use Rattle.seize_book.specs.Slots.{active_of, slot_number, slot_of}
use Rattle.seize_book.specs.Tokens.{IsSole, Name, start}
use Rattle.seize_book.specs.declared.book.pass.Pass.{Pass}
use Rattle.seize_book.proofs.Facts.{same_twice}
use Rattle.seize_words.specs.declared.words.Words.{Words}
use Rattle.seize_calls.specs.Aparts.{without_puts}
use Rattle.seize_calls.specs.Furthers.{further_in}
use Rattle.seize_calls.specs.Handing.{Had, IsServed}
use Rattle.seize_calls.specs.Slots.{IsInUse, IsInactive, IsOfWords, IsPassOf, IsToAttempt, SlotLooks, SlotResumes, seen_book, its_number}
use Rattle.seize_calls.specs.declared.further.Further.{Further}
use Rattle.seize_calls.specs.declared.slot.Slot.{Slot}
use Rattle.seize_calls.proofs.Current.{looked_active, shown}
use Rattle.seize_alone.specs.Calls.{CallsAlone}
use Rattle.seize_alone.specs.Events.{MakesAlone}
use Rattle.seize_alone.specs.Gone.{PutAs}
use Rattle.seize_alone.specs.Holding.{Holds, HoldsThen}
use Rattle.seize_alone.proofs.Nothing.{had_with, put_nothing}
use Rattle.seize_alone.proofs.Ready.{nothing, nothing_further, nothing_lighter}
use Rattle.seize_alone.proofs.Singles.{takes_held}
use Rattle.seize_alone.proofs.Slots.{slot_takes_full}
use Rattle.seize_parts.specs.Aparts.{Fits, Goes, WaitsBehind}
use Rattle.seize_parts.specs.Numbers.{TookAgain}
use Rattle.seize_parts.specs.Sweeps.{IsLedBy, KeepsActive, KeepsIdle, KeepsOn}
use Rattle.seize_parts.specs.Told.{HasTold}
use Rattle.seize_parts.proofs.Called.{legal_then}
use Rattle.seize_parts.proofs.Going.{waits_as, waits_none}
use Rattle.seize_parts.proofs.Outlined.{use_batch}
use Rattle.seize_parts.proofs.Placed.{still_for}
use Rattle.seize_parts.proofs.Stilled.{same_pass, still_looked}
use Rattle.seize_parts.proofs.Swept.{active_led, alone_heads, alone_led, alone_step, event_of, idle_call, idle_led, keeps_on, led_as, led_then, looks, resumes, still_sole}

-- as many values are left
pub rest_shown : {T : Type 0} (c : Coded T) (st : ModelState T ℕ) (names : List (ℕ × T)) (kinds : List (ℕ × ℕ)) (pass : Pass) → Holds c.code st names kinds pass.name pass.seen → length (state_seen pass).rest ≡ length st.rest
rest_shown c st names kinds pass holds = sym (length-map (state_seen pass).rest _) ∙ ap (λ l. length l) holds.all.shows.rest ∙ length-map _ _ ∙ length-map _ _

-- a number is taken
abbrev IsFull : ℕ → List ℕ → Bool
IsFull size rest = nat_le (max 1 size) (length rest)

taken_row : (size s : ℕ) (st : State) (o : State × Answer) → Step size st (Take s) o → (slots : ℕ) × (slot_at o.0 s ≡ taken_slot size slots st.rest)
taken_row size s st _ (Step.took_new _ is least) = (length st.slots + 1, get_or_push st.slots (taken_slot size (length st.slots + 1) st.rest) no_slot s (sym is))
taken_row size s st _ (Step.took_old _ there free least) = (length st.slots, get_or-set_same st.slots s (taken_slot size (length st.slots) st.rest) no_slot there)

is_begun : (size slots : ℕ) (rest : List ℕ) → is_some (taken_call size slots rest) ≡ IsFull size rest
is_begun size slots rest = by (IsFull size rest)
  where
    by : (full : Bool) → is_some {T = Progress} (if full then Some (record { place = Mark 0 slots []; queue = [] }) else None) ≡ full
    by true = refl
    by false = refl

module _ {T : Type 0} (c : Coded T) (n : ℕ) (p0 p1 : Pass) (answer : Answer) (makes : MakesAlone p0 p1 (Take n) answer) where
  -- whether a call has begun is whether what was left is a full batch
  full_begun : is_some (slot_at (state_seen p1) n).call ≡ IsFull p0.size (state_seen p0).rest
  full_begun =
      let row = taken_row makes.deed.size n (state_seen p0) _ (alone_step makes) in
      ap (λ (x : Record). is_some x.call) row.1 ∙ is_begun makes.deed.size row.0 (state_seen p0).rest ∙ ap (λ (k : ℕ). IsFull k (state_seen p0).rest) makes.sized

  -- as the hands know it
  pub begun_held : {st : ModelState T ℕ} {names : List (ℕ × T)} {kinds : List (ℕ × ℕ)} → Fits p0 st → Holds c.code st names kinds p0.name p0.seen → is_some (slot_at (state_seen p1) n).call ≡ nat_le (max 1 st.size) (length st.rest)
  begun_held {st} {names} {kinds} fits holds = full_begun ∙ (λ j. nat_le (max 1 (sym fits.0 j)) (rest_shown c st names kinds p0 holds j))

  pub taken_active : KeepsActive p0 p1
  taken_active = alone_heads makes (λ t. refl)

  pub taken_led : IsLedBy n p0 p1
  taken_led = alone_led makes n (event_of n (Take n) refl (λ t. refl) (λ l. refl))

  -- the attempt is one where it is full
  attempt_full : (st : ModelState T ℕ) (full : Bool) → n ≡ least_unused st.slots → nat_le (max 1 st.size) (length st.rest) ≡ full
      → attempt_if_full (with_number_in_use st n Registered) n ≡ (if full then attempt (with_number_in_use st n Registered) n else (with_number_in_use st n Registered, []))
  attempt_full st full least is =
      ap (λ (b : Bool). if b then attempt (with_number_in_use st n Registered) n else (with_number_in_use st n Registered, []))
      (ap (λ (vs : List (T × ℕ)). nat_le (max 1 st.size) (length vs)) (use_batch st n Registered least) ∙ is)

  -- No call has begun. The slot looks at the list.
  module _ (words : Words T) (slot1 slot2 : Slot T) (p2 : Pass) (at : its_number slot1 ≡ n) (book : seen_book slot1 ≡ p1.name) (looked : SlotLooks slot1 p1 slot2 p2) (idle : IsInUse slot2) (off : IsInactive slot1) where
    sole1 : IsSole p1.id
    sole1 = still_sole p0 p1 makes.same makes.sole

    at_end : (slot_at (state_seen p2) n ≡ slot_of slot2.holder.key) × (is_active (head_at (state_seen p2) n) ≡ active_of slot2.holder.key)
    at_end = subst (λ (k : ℕ). (slot_at (state_seen p2) k ≡ slot_of slot2.holder.key) × (is_active (head_at (state_seen p2) k) ≡ active_of slot2.holder.key)) at (shown slot1 slot2 p1 p2 looked book)

    same2 : p2 ≡ p1
    same2 = same_pass sole1 (still_looked slot1 slot2 looked)

    led : IsLedBy n p0 p2
    led = led_then n p0 p1 p2 taken_led (looks slot1 p1 slot2 p2 sole1 n looked)

    none : (slot_at (state_seen p2) n).call ≡ None
    none = ap (λ (x : Record). x.call) at_end.0 ∙ idle_call (slot_of slot2.holder.key) idle

    pub took_on : KeepsOn p0 p2 × KeepsActive p0 p2 × KeepsIdle p0 p2
    took_on = (keeps_on n p0 p2 led, subst (KeepsActive p0) (sym same2) taken_active, idle_led n p0 p2 led none)

    module _ {Seen : Type 0} (puts : ℕ → T → List T) (told : Seen → T → Seen) where
      pub took_goes : (seen : Seen) (queue : Further) → IsServed (further_in queue) p0.name → Goes c.code puts told (Fits p0) (λ st. attempt_if_full (with_number_in_use st n Registered) n) p0 p2 seen seen queue queue
      took_goes seen queue served = record {
        same = led.same;
        had = [];
        put = tt;
        tells = ([], tt, refl);
        waits = waits_none p0.name queue served;
        holds = λ st names kinds fits holds.
            let short : nat_le (max 1 st.size) (length st.rest) ≡ false = sym (begun_held fits holds) ∙ ap (λ (p : Pass). is_some (slot_at (state_seen p) n).call) (sym same2) ∙ ap is_some none in
            let took = takes_held c st names kinds n Registered answer p0 p1 makes holds refl fits.0 short in
            subst (λ (t : StateAndGone T ℕ × Pass). HoldsThen c.code t.0 [] t.1) (λ j. (sym (attempt_full st false took.0 short) j, sym same2 j)) ((names, kinds, took.2), tt);
      }

  -- A call has begun. The slot goes on with it, and looks at the list.
  module _ (words : Words T) (for : IsPassOf words p0) (slot1 slot2 slot3 : Slot T) (p2 p3 : Pass) (at : its_number slot1 ≡ n) (its : IsOfWords words slot1) (begun : IsToAttempt slot1) (took : TookAgain p0 slot1 p1) (had : Had) (of2 : IsOfWords words slot2)
      (resumed : SlotResumes slot1 p1 [] slot2 p2 (without_puts had)) (looked : SlotLooks slot2 p2 slot3 p3) (idle : IsInUse slot3) (off : active_of slot2.holder.key ≡ false) (off1 : IsInactive slot1) where
    sole1' : IsSole p1.id
    sole1' = still_sole p0 p1 makes.same makes.sole

    for1 : IsPassOf words p1
    for1 = still_for words p0 p1 for makes.same

    -- the slot's record, as its key knows it
    key_seen : (slot_at (state_seen p1) n ≡ slot_of slot1.holder.key) × (is_active (head_at (state_seen p1) n) ≡ active_of slot1.holder.key)
    key_seen =
        let book : slot1.holder.key.keys.name ≡ p1.name = slot1.together.book ∙ its.book ∙ for1.0 in let number : slot_number slot1.holder.key ≡ n = slot1.together.numbered ∙ at in let own = took.3.does.1.2 in (
          (λ j. slot_at (after (start (sym book j)) (sym own j)) (sym number j)),
          (λ j. is_active (head_at (after (start (sym book j)) (sym own j)) (sym number j))),
        )

    led2 : IsLedBy n p1 p2
    led2 = led_as n (its_number slot1) p1 p2 at (resumes slot1 p1 slot2 p2 sole1' words of2 for1 [] (without_puts had) resumed)

    sole2 : IsSole p2.id
    sole2 = still_sole p1 p2 led2.same sole1'

    for2 : IsPassOf words p2
    for2 = still_for words p1 p2 for1 led2.same

    at2 : its_number slot2 ≡ n
    at2 = resumed.same.0 ∙ at

    led' : IsLedBy n p0 p3
    led' = led_then n p0 p1 p3 taken_led (led_then n p1 p2 p3 led2 (looks slot2 p2 slot3 p3 sole2 n looked))

    at_last : (slot_at (state_seen p3) n ≡ slot_of slot3.holder.key) × (is_active (head_at (state_seen p3) n) ≡ active_of slot3.holder.key)
    at_last = subst (λ (k : ℕ). (slot_at (state_seen p3) k ≡ slot_of slot3.holder.key) × (is_active (head_at (state_seen p3) k) ≡ active_of slot3.holder.key)) at2 (shown slot2 slot3 p2 p3 looked (of2.book ∙ for2.0))

    same3 : p3 ≡ p2
    same3 = same_pass sole2 (still_looked slot2 slot3 looked)

    pub resumed_on : KeepsOn p0 p3 × KeepsActive p0 p3 × KeepsIdle p0 p3
    resumed_on = (
      keeps_on n p0 p3 led',
      active_led n p0 p3 led' (at_last.1 ∙ looked_active _ _ _ _ looked.0.does ∙ off ∙ sym (sym (taken_active n) ∙ key_seen.1 ∙ off1)),
      idle_led n p0 p3 led' (ap (λ (x : Record). x.call) at_last.0 ∙ idle_call (slot_of slot3.holder.key) idle),
    )

    module _ {Seen : Type 0} (puts : ℕ → T → List T) (told : Seen → T → Seen) (put : PutAs c.code puts had) where
      held : (st : ModelState T ℕ) (names : List (ℕ × T)) (kinds : List (ℕ × ℕ)) → Fits p0 st → Holds c.code st names kinds p0.name p0.seen → HoldsThen c.code (attempt_if_full (with_number_in_use st n Registered) n) had p3
      held st names kinds fits holds =
          let before = took.0 in let s = slot_number before.holder.key in let number : s ≡ n = before.together.numbered ∙ took.2 ∙ at in
          let full : nat_le (max 1 st.size) (length st.rest) ≡ true = sym (begun_held fits holds) ∙ ap (λ (x : Record). is_some x.call) key_seen.0 ∙ ap is_some begun.1.0.marking in
          let same : IsSamePass p0 p2 = same_twice p0 p1 p2 makes.same led2.same in
          let alone : CallsAlone c nothing st names kinds p0 p2 (without_puts had) = record {
            sole = makes.sole;
            legal = legal_then words slot1 slot2 p1 p2 _ resumed of2 for1 resumed.does.rests.same;
            distinct = ap (λ (m : Name). are_distinct (linked_values m.links)) same.0 ∙ fits.1;
            size = fits.0;
            holds = holds;
            put = put_nothing c.code puts had put;
          } in
          let gone = slot_takes_full c st names kinds before slot1 slot2 p0 p1 p2 nothing (λ (x : T). 1) nothing_lighter (without_puts had) alone Registered took.3 resumed refl full in
          let now = attempt (with_number_in_use st n Registered) n in
          let then_held : HoldsThen c.code now (without_puts had) p2 =
          subst (λ (k : ℕ). HoldsThen c.code (attempt (with_number_in_use st k Registered) k) (without_puts had) p2) number
          (subst (λ (o : StateAndGone T ℕ). HoldsThen c.code o (without_puts had) p2) (nothing_further (λ (x : T). 1) s (attempt (with_number_in_use st s Registered) s)) gone.2) in
          subst (λ (t : StateAndGone T ℕ × Pass). HoldsThen c.code t.0 had t.1) (λ j. (sym (attempt_full st true (sym number ∙ gone.0) full) j, sym same3 j)) (then_held.0, had_with c.code had now.1 then_held.1)

      pub resumed_goes : (seen seen' : Seen) (queue queue' : Further) (name : Name) → p0.name ≡ name → HasTold c.code told seen seen' had → WaitsBehind name had queue queue'
          → Goes c.code puts told (Fits p0) (λ st. attempt_if_full (with_number_in_use st n Registered) n) p0 p3 seen seen' queue queue'
      resumed_goes seen seen' queue queue' name same tells waits = record {
        same = led'.same;
        had = had;
        put = put;
        tells = tells;
        waits = waits_as name p0.name had queue queue' same waits;
        holds = held;
      }
