-- The laws for a slot as one value: a call of it makes its pass ready first, and where the pass is alone that changes nothing of what the
-- hands hold.
use Rattle.std.proofs.Common.{◌≡◌, ◌≢◌, ◌⊎◌, ℕ, ◌==◌, ◌||◌, Bool, true, false, List, [], append-nil, refl, sym, ap, subst, ◌∙◌}
use Rattle.std.specs.Prelude.{Ok}
use base.Stored.{Coded}
use Rattle.seize_table.specs.Place.{all_numbers}
use Rattle.seize_machine.specs.Machine.Event.{Begin, Take}
use Rattle.seize_machine.specs.declared.machine.event.Job.TheVariants.{Gather}
use Rattle.seize_model.specs.declared.kind.Kind.{Kind}
use Rattle.seize_model.specs.declared.kind.Kind.TheVariants.{Registered}
use Rattle.seize_model.specs.Waiting.State.{ModelState, has_guard, model_slot}
use Rattle.seize_model.specs.Waiting.Attempt.{StateAndGone, attempt, is_full}
use Rattle.seize_model.specs.Waiting.Calls.{flush, gathering, is_free, is_owned, least_unused, leave, one_guard_less, others_in_use, refresh, rest_and_batch, retire, set_guards, taking, with_number_free, with_number_in_use}
use Rattle.seize_model.specs.Waiting.Further.{Lighter, with_further}
use Rattle.seize_book.specs.Passes.{events_in}
use Rattle.seize_book.specs.Slots.{AddsEvent, slot_number}
use Rattle.seize_book.specs.Tokens.{IsSole}
use Rattle.seize_book.specs.declared.book.pass.Pass.{Pass}
use Rattle.seize_words.specs.Chunks.{IsLentAs}
use Rattle.seize_words.specs.declared.activation.Activation.{Activation}
use Rattle.seize_calls.specs.Handing.{Had}
use Rattle.seize_calls.specs.Slots.{Prepares, SlotEnters, SlotFlushes, SlotGathers, SlotGives, SlotLeaves, SlotRefreshes, SlotResumes, SlotRetires, SlotTakes, its_number, its_value}
use Rattle.seize_calls.specs.declared.slot.Loose.{Loose}
use Rattle.seize_calls.specs.declared.slot.Slot.{Slot}
use Rattle.seize_alone.specs.Calls.{CallsAlone}
use Rattle.seize_alone.specs.Holding.{Holds, HoldsThen}
use Rattle.seize_alone.proofs.Held.{flushes_held, gathers, leaves_held, parts_held, refreshes_held, retires_held, takes_full}
use Rattle.seize_alone.proofs.Ready.{entry_alone, ready_holds, ready_sole, taking_full}
use Rattle.seize_alone.proofs.Singles.{enters_held, gives_held, takes_held}
use Rattle.seize_alone.proofs.Whole.{StaysReady, gathered_ready, taken_ready}

pub slot_ready : {T U : Type 0} {c : Coded T} {puts : ℕ → T → List T} {st : ModelState T ℕ} {names : List (ℕ × T)} {kinds : List (ℕ × ℕ)} {slot : Slot U} {pass ready pass' : Pass} {had' : Had} → Prepares slot pass ready → CallsAlone c puts st names kinds pass pass' had'
    → CallsAlone c puts st names kinds ready pass' had'
slot_ready {c = c} {st = st} {names = names} {kinds = kinds} prepares a = record {
  sole = ready_sole prepares a.sole;
  legal = a.legal;
  distinct = a.distinct;
  size = a.size ∙ sym prepares.same.2;
  holds = ready_holds prepares a.sole c st names kinds a.holds;
  put = a.put;
}

module _ {T U : Type 0} (c : Coded T) (st : ModelState T ℕ) (names : List (ℕ × T)) (kinds : List (ℕ × ℕ)) (slot slot' : Slot U) (pass pass' : Pass) where
  -- Whole calls.

  module _ (puts : ℕ → T → List T) (weight : T → ℕ) (lighter : Lighter puts weight) (had' : Had) (a : CallsAlone c puts st names kinds pass pass' had') where
    abbrev s : ℕ
    s = slot_number slot.holder.key

    pub slot_retires : (loose : Loose) (kind : ℕ) (x : T) (retired : Bool) → SlotRetires slot pass loose kind [] slot' pass' had' retired → IsLentAs (its_value loose) (c.code x) → is_free (model_slot st s).kind ≡ false
        → ((retire puts weight st s x kind).0 ≡ Ok tt) × HoldsThen c.code (retire puts weight st s x kind).1 had' pass'
    slot_retires loose kind x retired r lent used = retires_held c puts weight lighter st names kinds (its_value loose) kind x retired slot.holder.key r.ready _ slot'.holder.key pass' _ had' r.does (slot_ready r.prepares a) lent used

    pub slot_flushes : (retired : Bool) → SlotFlushes slot pass [] slot' pass' had' retired → is_free (model_slot st s).kind ≡ false → has_guard (model_slot st s) ≡ true
        → ((flush puts weight st s).0 ≡ Ok tt) × HoldsThen c.code (flush puts weight st s).1 had' pass'
    slot_flushes retired r used active = flushes_held c puts weight lighter st names kinds retired slot.holder.key r.ready _ slot'.holder.key pass' _ had' r.does (slot_ready r.prepares a) used active

    pub slot_leaves : SlotLeaves slot pass [] slot' pass' had' → (model_slot st s).kind ≡ Registered → (model_slot st s).guards ≡ 1 → ((leave puts weight st s).0 ≡ Ok tt) × HoldsThen c.code (leave puts weight st s).1 had' pass'
    slot_leaves r kind guards = leaves_held c puts weight lighter st names kinds slot.holder.key r.ready _ slot'.holder.key pass' _ had' r.does (slot_ready r.prepares a) kind guards

    pub slot_parts : SlotLeaves slot pass [] slot' pass' had' → is_free (model_slot st s).kind ≡ false → (model_slot st s).guards ≡ 1
        → HoldsThen c.code (with_further puts weight s (one_guard_less st s)) had' pass' × (is_free (model_slot (with_further puts weight s (one_guard_less st s)).0 s).kind ≡ false) × (has_guard (model_slot (with_further puts weight s (one_guard_less st s)).0 s) ≡ false)
    slot_parts r used guards = parts_held c puts weight lighter st names kinds slot.holder.key r.ready _ slot'.holder.key pass' _ had' r.does (slot_ready r.prepares a) used guards

    pub slot_refreshes : (activation : Activation) → SlotRefreshes slot pass activation [] slot' pass' had' → is_free (model_slot st s).kind ≡ false → has_guard (model_slot st s) ≡ true → (is_owned (model_slot st s).kind || ((model_slot st s).guards == 1)) ≡ true
        → ((refresh puts weight st s).0 ≡ Ok tt) × HoldsThen c.code (refresh puts weight st s).1 had' pass'
    slot_refreshes activation r used active parts = refreshes_held c puts weight lighter st names kinds activation.life slot.holder.key r.ready _ slot'.holder.key pass' _ had' r.does (slot_ready r.prepares a) used active parts

  -- Single events.

  module _ (sole : IsSole pass.id) (holds : Holds c.code st names kinds pass.name pass.seen) where
    abbrev m : ℕ
    m = its_number slot

    pub slot_enters : (activation : Activation) → SlotEnters slot pass activation slot' pass' → is_free (model_slot st m).kind ≡ false → has_guard (model_slot st m) ≡ false → Holds c.code (set_guards st m 1) names kinds pass'.name pass'.seen
    slot_enters activation r used off = enters_held c st names kinds m _ r.ready pass' (entry_alone (ready_sole r.prepares sole) r.does refl) (ready_holds r.prepares sole c st names kinds holds) used off

    pub slot_gives : SlotGives slot pass slot' pass' → is_free (model_slot st m).kind ≡ false → has_guard (model_slot st m) ≡ false
        → Holds c.code (with_number_free st m) names kinds pass'.name pass'.seen × ((others_in_use st m ≡ true) ⊎ (rest_and_batch st m ≡ []))
    slot_gives r used off = gives_held c st names kinds m _ r.ready pass' (entry_alone (ready_sole r.prepares sole) r.does refl) (ready_holds r.prepares sole c st names kinds holds) used off

    pub slot_takes : (kind : Kind) → SlotTakes slot pass slot' pass' → is_free kind ≡ false → st.size ≡ pass.size → is_full st.size st.rest ≡ false → (m ≡ least_unused st.slots) × ((m == all_numbers) ≡ false) × Holds c.code (with_number_in_use st m kind) names kinds pass'.name pass'.seen
    slot_takes kind r used size short = takes_held c st names kinds m kind _ r.ready pass' (entry_alone (ready_sole r.prepares sole) r.does refl) (ready_holds r.prepares sole c st names kinds holds) used (size ∙ sym r.prepares.same.2) short

-- A number is taken, or all that was left is gathered, and what is attempted then goes on to its return.

ready_stays : {U : Type 0} {slot : Slot U} {pass ready : Pass} → Prepares slot pass ready → StaysReady pass ready
ready_stays {pass = pass} prepares = record { same = prepares.same; none = ap events_in prepares.none_made; grows = prepares.grows.0; alone = λ sole. ([], prepares.alone sole ∙ sym (append-nil pass.seen), tt) }

module _ {T U : Type 0} (c : Coded T) (st : ModelState T ℕ) (names : List (ℕ × T)) (kinds : List (ℕ × ℕ)) (slot begun slot' : Slot U) (pass began pass' : Pass) (puts : ℕ → T → List T) (weight : T → ℕ) (lighter : Lighter puts weight) (had' : Had)
    (a : CallsAlone c puts st names kinds pass pass' had') where
  abbrev n : ℕ
  n = slot_number slot.holder.key

  pub slot_taking : (kind : Kind) → SlotTakes slot pass begun began → SlotResumes begun began [] slot' pass' had' → is_free kind ≡ false → is_full st.size st.rest ≡ true → (n ≡ least_unused st.slots) × ((n == all_numbers) ≡ false) × HoldsThen c.code (taking puts weight st n kind) had' pass'
  slot_taking kind takes resumes used full =
      takes_full c puts weight lighter st names kinds kind n takes.ready pass' had'
      (taken_ready {key = slot.holder.key} (subst (λ (k : ℕ). AddsEvent slot.holder.key takes.ready begun.holder.key began (Take k)) (sym slot.together.numbered) takes.does) (ready_stays resumes.prepares) resumes.does) (slot_ready takes.prepares a) used full

  -- the same, by the attempt
  pub slot_takes_full : (kind : Kind) → SlotTakes slot pass begun began → SlotResumes begun began [] slot' pass' had' → is_free kind ≡ false → is_full st.size st.rest ≡ true
      → (n ≡ least_unused st.slots) × ((n == all_numbers) ≡ false) × HoldsThen c.code (with_further puts weight n (attempt (with_number_in_use st n kind) n)) had' pass'
  slot_takes_full kind takes resumes used full =
      let took = slot_taking kind takes resumes used full in
      (took.0, took.1, subst (λ (o : StateAndGone T ℕ). HoldsThen c.code o had' pass') (taking_full st n kind took.0 puts weight full) took.2)

  pub slot_gathers : SlotGathers slot pass begun began → SlotResumes begun began [] slot' pass' had' → is_free (model_slot st n).kind ≡ false → has_guard (model_slot st n) ≡ false → HoldsThen c.code (gathering puts weight st n) had' pass' × (others_in_use st n ≡ false) × (rest_and_batch st n ≢ [])
  slot_gathers goes resumes used off =
      gathers c puts weight lighter st names kinds n goes.ready pass' had'
      (gathered_ready {key = slot.holder.key} (subst (λ (k : ℕ). AddsEvent slot.holder.key goes.ready begun.holder.key began (Begin k Gather)) (sym slot.together.numbered) goes.does) (ready_stays resumes.prepares) resumes.does) (slot_ready goes.prepares a) used off
