-- Whole calls of a slot, made where its pass is alone: each is the model's. `c` is the code of values, and `puts` and `weight` say what
-- their reclaimer puts, which weighs less.
--     CallsAlone c puts st names kinds pass pass' had'     the pass of a call is alone, and what it has seen then is legal; what it had
--                         seen shows the state, which has the size of the pass; and with what the reclaimer had since it put as `puts`
--                         says
--     RetiresHeld         a retirement by a slot in use, whether its batch goes or not: the answer is the model's, and so are the state and
--                         the values gone
--     FlushesHeld         a flush of a slot with a guard
--     PartsHeld           a leave with the slot's last guard, before the number of an owned slot goes back: it is in use, without a guard
--     LeavesHeld          a leave with the last guard of a registered slot
--     RefreshesHeld       a refresh of an owned slot, or of one with one guard
--     TakesFullHeld       a number is taken for a slot of this kind, and what was left, which is a full batch, is attempted
--     GathersHeld         a slot in use without a guard gathers, so that what was left and its batch are attempted: no other slot is in
--                         use, and this is something
--     SizeStays           none of them changes the size, nor does a number that is taken, or a gathering
--     SameOutline st now  each slot has the kind and the number of guards that it had, and each link holds what it held
--     OutlineStays        that is so after a refresh, a flush, a retirement and a gathering, and after the attempt as a number is taken
use Rattle.std.specs.Prelude.{◌≡◌, ◌≢◌, ◌||◌, ◌==◌, ℕ, Bool, true, false, List, [], Ok}
use Rattle.std.specs.Coded.{Coded}
use Rattle.seize_table.specs.Place.{all_numbers}
use Rattle.seize_machine.specs.Machine.Event.{Begin, SwapOut, Take}
use Rattle.seize_machine.specs.Machine.State.{are_distinct, linked_values}
use Rattle.seize_machine.specs.declared.machine.event.Job.TheVariants.{Gather, Leave as LeaveJob, Refresh as RefreshJob}
use Rattle.seize_model.specs.declared.kind.Kind.{Kind}
use Rattle.seize_model.specs.declared.kind.Kind.TheVariants.{Registered}
use Rattle.seize_model.specs.Waiting.State.{ModelState, has_guard, model_slot}
use Rattle.seize_model.specs.Waiting.Attempt.{is_full}
use Rattle.seize_model.specs.Waiting.Calls.{flush, gathering, is_free, is_owned, least_unused, leave, one_guard_less}
use Rattle.seize_model.specs.Waiting.Calls.{others_in_use, refresh, rest_and_batch, retire, taking, with_number_in_use}
use Rattle.seize_model.specs.Waiting.Further.{with_further}
use Rattle.seize_book.specs.Adding.{private}
use Rattle.seize_book.specs.Book.{IsLegalList}
use Rattle.seize_book.specs.Slots.{AddsEvent, slot_number}
use Rattle.seize_book.specs.Tokens.{IsSole, start}
use Rattle.seize_book.specs.declared.book.pass.Pass.{Pass}
use Rattle.seize_book.specs.declared.book.slot_key.SlotKey.{SlotKey}
use Rattle.seize_book.specs.declared.book.value_keys.ValueKeys.{ValueKeys}
use Rattle.seize_words.specs.Chunks.{IsLentAs}
use Rattle.seize_words.specs.Reservations.{beginning}
use Rattle.seize_calls.specs.Calls.{Flushes, Leaves, Resumes, RetiresOne}
use Rattle.seize_calls.specs.Handing.{Had}
use Rattle.seize_alone.specs.Gone.{PutAs}
use Rattle.seize_alone.specs.Holding.{Holds, HoldsThen}

pub record CallsAlone {T : Type 0} (c : Coded T) (puts : ℕ → T → List T) (st : ModelState T ℕ) (names : List (ℕ × T)) (kinds : List (ℕ × ℕ))
    (pass pass' : Pass) (had' : Had) : Type 0 where
  pub sole : IsSole pass.id
  pub legal : IsLegalList (start pass'.name) pass'.seen
  pub distinct : are_distinct (linked_values pass'.name.links) ≡ true
  pub size : st.size ≡ pass.size
  pub holds : Holds c.code st names kinds pass.name pass.seen
  pub put : PutAs c.code puts had'

abbrev pub RetiresHeld : {T : Type 0} → Coded T → (ℕ → T → List T) → (T → ℕ) → Type 0
RetiresHeld {T} c puts weight =
    (st : ModelState T ℕ) (names : List (ℕ × T)) (kinds : List (ℕ × ℕ)) (v kind : ℕ) (x : T) (retired : Bool) (key : SlotKey) (pass : Pass)
    (values : ValueKeys) (key' : SlotKey) (pass' : Pass) (values' : ValueKeys) (had' : Had)
    → RetiresOne key pass v kind values [] key' pass' values' had' retired → CallsAlone c puts st names kinds pass pass' had'
    → IsLentAs v (c.code x) → is_free (model_slot st (slot_number key)).kind ≡ false
    → let told = retire puts weight st (slot_number key) x kind in (told.0 ≡ Ok tt) × HoldsThen c.code told.1 had' pass'

abbrev pub FlushesHeld : {T : Type 0} → Coded T → (ℕ → T → List T) → (T → ℕ) → Type 0
FlushesHeld {T} c puts weight =
    (st : ModelState T ℕ) (names : List (ℕ × T)) (kinds : List (ℕ × ℕ)) (retired : Bool) (key : SlotKey) (pass : Pass) (values : ValueKeys)
    (key' : SlotKey) (pass' : Pass) (values' : ValueKeys) (had' : Had)
    → Flushes key pass values [] key' pass' values' had' retired → CallsAlone c puts st names kinds pass pass' had'
    → is_free (model_slot st (slot_number key)).kind ≡ false → has_guard (model_slot st (slot_number key)) ≡ true
    → let told = flush puts weight st (slot_number key) in (told.0 ≡ Ok tt) × HoldsThen c.code told.1 had' pass'

abbrev pub PartsHeld : {T : Type 0} → Coded T → (ℕ → T → List T) → (T → ℕ) → Type 0
PartsHeld {T} c puts weight =
    (st : ModelState T ℕ) (names : List (ℕ × T)) (kinds : List (ℕ × ℕ)) (key : SlotKey) (pass : Pass) (values : ValueKeys) (key' : SlotKey)
    (pass' : Pass) (values' : ValueKeys) (had' : Had) → let s = slot_number key in
    Leaves LeaveJob false (private pass (SwapOut s)) key pass values [] key' pass' values' had'
    → CallsAlone c puts st names kinds pass pass' had' → is_free (model_slot st s).kind ≡ false → (model_slot st s).guards ≡ 1
    → let now = with_further puts weight s (one_guard_less st s) in
    HoldsThen c.code now had' pass' × (is_free (model_slot now.0 s).kind ≡ false) × (has_guard (model_slot now.0 s) ≡ false)

abbrev pub LeavesHeld : {T : Type 0} → Coded T → (ℕ → T → List T) → (T → ℕ) → Type 0
LeavesHeld {T} c puts weight =
    (st : ModelState T ℕ) (names : List (ℕ × T)) (kinds : List (ℕ × ℕ)) (key : SlotKey) (pass : Pass) (values : ValueKeys) (key' : SlotKey)
    (pass' : Pass) (values' : ValueKeys) (had' : Had) → let s = slot_number key in
    Leaves LeaveJob false (private pass (SwapOut s)) key pass values [] key' pass' values' had'
    → CallsAlone c puts st names kinds pass pass' had' → (model_slot st s).kind ≡ Registered → (model_slot st s).guards ≡ 1
    → let told = leave puts weight st s in (told.0 ≡ Ok tt) × HoldsThen c.code told.1 had' pass'

abbrev pub RefreshesHeld : {T : Type 0} → Coded T → (ℕ → T → List T) → (T → ℕ) → Type 0
RefreshesHeld {T} c puts weight =
    (st : ModelState T ℕ) (names : List (ℕ × T)) (kinds : List (ℕ × ℕ)) (life : ℕ) (key : SlotKey) (pass : Pass) (values : ValueKeys)
    (key' : SlotKey) (pass' : Pass) (values' : ValueKeys) (had' : Had) → let s = slot_number key in
    Leaves RefreshJob true (beginning pass life (SwapOut s)) key pass values [] key' pass' values' had'
    → CallsAlone c puts st names kinds pass pass' had' → is_free (model_slot st s).kind ≡ false → has_guard (model_slot st s) ≡ true
    → (is_owned (model_slot st s).kind || ((model_slot st s).guards == 1)) ≡ true
    → let told = refresh puts weight st s in (told.0 ≡ Ok tt) × HoldsThen c.code told.1 had' pass'

abbrev pub TakesFullHeld : {T : Type 0} → Coded T → (ℕ → T → List T) → (T → ℕ) → Type 0
TakesFullHeld {T} c puts weight =
    (st : ModelState T ℕ) (names : List (ℕ × T)) (kinds : List (ℕ × ℕ)) (kind : Kind) (key : SlotKey) (pass : Pass) (took : SlotKey)
    (taken : Pass) (values : ValueKeys) (key' : SlotKey) (pass' : Pass) (values' : ValueKeys) (had' : Had) → let s = slot_number key in
    AddsEvent key pass took taken (Take s) → Resumes took taken values [] key' pass' values' had'
    → CallsAlone c puts st names kinds pass pass' had' → is_free kind ≡ false → is_full st.size st.rest ≡ true
    → (s ≡ least_unused st.slots) × ((s == all_numbers) ≡ false)
    × HoldsThen c.code (taking puts weight st s kind) had' pass'

abbrev pub GathersHeld : {T : Type 0} → Coded T → (ℕ → T → List T) → (T → ℕ) → Type 0
GathersHeld {T} c puts weight =
    (st : ModelState T ℕ) (names : List (ℕ × T)) (kinds : List (ℕ × ℕ)) (key : SlotKey) (pass : Pass) (begun : SlotKey) (began : Pass)
    (values : ValueKeys) (key' : SlotKey) (pass' : Pass) (values' : ValueKeys) (had' : Had) → let s = slot_number key in
    AddsEvent key pass begun began (Begin s Gather) → Resumes begun began values [] key' pass' values' had'
    → CallsAlone c puts st names kinds pass pass' had' → is_free (model_slot st s).kind ≡ false → has_guard (model_slot st s) ≡ false
    → HoldsThen c.code (gathering puts weight st s) had' pass'
    × (others_in_use st s ≡ false) × (rest_and_batch st s ≢ [])

abbrev pub SizeStays : {T : Type 0} → (ℕ → T → List T) → (T → ℕ) → Type 0
SizeStays {T} puts weight =
    (st : ModelState T ℕ) (s : ℕ) → ((leave puts weight st s).1.0.size ≡ st.size) × ((refresh puts weight st s).1.0.size ≡ st.size)
    × ((flush puts weight st s).1.0.size ≡ st.size) × ((x : T) (kind : ℕ) → (retire puts weight st s x kind).1.0.size ≡ st.size)
    × ((kind : Kind) → (taking puts weight st s kind).0.size ≡ st.size) × ((gathering puts weight st s).0.size ≡ st.size)

abbrev pub SameOutline : {T : Type 0} → ModelState T ℕ → ModelState T ℕ → Type 0
SameOutline st now =
    ((t : ℕ) → ((model_slot now t).kind ≡ (model_slot st t).kind) × ((model_slot now t).guards ≡ (model_slot st t).guards))
    × (now.links ≡ st.links)

abbrev pub OutlineStays : {T : Type 0} → (ℕ → T → List T) → (T → ℕ) → Type 0
OutlineStays {T} puts weight =
    (st : ModelState T ℕ) (s : ℕ) → SameOutline st (refresh puts weight st s).1.0 × SameOutline st (flush puts weight st s).1.0
    × ((x : T) (kind : ℕ) → SameOutline st (retire puts weight st s x kind).1.0)
    × SameOutline st (gathering puts weight st s).0
    × ((kind : Kind) → SameOutline (with_number_in_use st s kind) (taking puts weight st s kind).0)
