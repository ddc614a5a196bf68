-- A call by which values may be gone, made where its pass is alone: the hands hold what the model says then, and the watch was told of the
-- values gone, in order.
use Rattle.std.proofs.Common.{◌≡◌, ℕ, ◌==◌, ◌||◌, ◌⊎◌, inl, inr, ◌<◌, ◌≤◌, Bool, true, false, if◌then◌else◌, List, [], ◌∷◌, Option, Some, None, refl, sym, ap, subst, ◌∙◌, arith}
use Rattle.std.specs.Prelude.{Err, Ok, Result}
use base.Stored.{Coded, Gv}
use Rattle.seize_table.specs.declared.refusal.Refusal.{Refusal}
use Rattle.seize_table.specs.declared.refusal.Refusal.TheVariants.{NotActive, NotInUse}
use Rattle.seize_machine.specs.Machine.State.{are_distinct, linked_values}
use Rattle.seize_model.specs.declared.kind.Kind.{Kind}
use Rattle.seize_model.specs.declared.kind.Kind.TheVariants.{Registered}
use Rattle.seize_model.specs.Waiting.Attempt.{StateAndGone}
use Rattle.seize_model.specs.Waiting.Calls.{Response, first_refusal, flush, given_back_if, is_free, is_owned, leave, no_guard, one_guard_less, refresh, retire, unless}
use Rattle.seize_model.specs.Waiting.Further.{Lighter, with_further}
use Rattle.seize_model.specs.Waiting.State.{ModelState, has_guard, model_slot}
use Rattle.seize_book.specs.Entry.{Entry}
use Rattle.seize_book.specs.Slots.{slot_number}
use Rattle.seize_book.specs.Tokens.{Name}
use Rattle.seize_book.specs.declared.book.pass.Pass.{Pass}
use Rattle.seize_words.specs.Chunks.{IsLentAs}
use Rattle.seize_words.specs.declared.activation.Activation.{Activation}
use Rattle.seize_words.specs.declared.words.Words.{Words}
use Rattle.seize_calls.specs.Handing.{Had}
use Rattle.seize_calls.specs.Slots.{SlotFlushes, SlotLeaves, SlotRefreshes, SlotRetires, its_number, its_value}
use Rattle.seize_calls.specs.declared.slot.Loose.{Loose}
use Rattle.seize_calls.specs.declared.slot.Slot.{Slot}
use Rattle.seize_alone.specs.Calls.{CallsAlone}
use Rattle.seize_alone.specs.Holding.{Holds, HoldsThen}
use Rattle.seize_alone.proofs.Shown.{owned_shown}
use Rattle.seize_alone.proofs.Slots.{slot_flushes, slot_parts, slot_refreshes, slot_retires}
use Rattle.seize_parts.specs.Kinds.{kind_if_owned}
use Rattle.seize_parts.specs.Places.{CallsSlot}
use Rattle.seize_parts.specs.Told.{Answers, HasTold, told_of}
use Rattle.seize.specs.declared.alone.hands.Hands.{Hands}
use Rattle.seize_parts.specs.declared.reservation.Reservation.{Reservation}
use Rattle.seize_parts.proofs.Called.{sole_still}
use Rattle.seize_parts.proofs.Aparts.{told_gone}
use Rattle.seize.specs.Alones.{ShowsHands}

-- what a call asks that needs a guard of the slot
pub may_act : {T : Type 0} (st : ModelState T ℕ) (s : ℕ) → no_guard st s ≡ None → (is_free (model_slot st s).kind ≡ false) × (has_guard (model_slot st s) ≡ true)
may_act st s none = go (is_free (model_slot st s).kind) (has_guard (model_slot st s)) none
  where
    go : (free on : Bool) → first_refusal (if free then Some NotInUse else None) (if on then None else Some NotActive) ≡ None → (free ≡ false) × (on ≡ true)
    go true on e = absurd (cc)
    go false true e = (refl, refl)
    go false false e = absurd (cc)

-- an owned slot has one guard at most
pub owned_one : {T : Type 0} {code : T → Gv} {st : ModelState T ℕ} {names : List (ℕ × T)} {kinds : List (ℕ × ℕ)} {n : Name} {seen : List Entry} → Holds code st names kinds n seen → (s : ℕ) → is_owned (model_slot st s).kind ≡ true → (model_slot st s).guards ≤ 1
owned_one holds s owned = owned_shown holds s owned

-- an owned slot parts, and so does one with one guard
pub alone_so : {T : Type 0} (st : ModelState T ℕ) (s : ℕ) (owned : Bool) (guards : ℕ) → (model_slot st s).kind ≡ kind_if_owned owned → (model_slot st s).guards ≡ guards → (owned ≡ true) ⊎ ((owned ≡ false) × (guards ≡ 1)) → (is_owned (model_slot st s).kind || ((model_slot st s).guards == 1)) ≡ true
alone_so st s owned guards kind are (inl is) = ap (λ (k : Kind). is_owned k || ((model_slot st s).guards == 1)) (kind ∙ ap kind_if_owned is)
alone_so st s owned guards kind are (inr is) = ap (λ (m : ℕ). is_owned (model_slot st s).kind || (m == 1)) (are ∙ is.1) ∙ or_true (is_owned (model_slot st s).kind)
  where
    or_true : (b : Bool) → (b || true) ≡ true
    or_true true = refl
    or_true false = refl

-- it has more than one, then
pub many_so : (m guards : ℕ) → m ≡ guards → 0 < guards → (guards ≡ 1 → ⊥) → 2 ≤ m
many_so m guards are some other = grind arith

-- the model's call did nothing, and no watch was told
pub answered_none : {T Seen : Type 0} (told : Seen → T → Seen) (st : ModelState T ℕ) (seen : Seen) (result : Result (Unit {0}) Refusal) (a : Response (Unit {0}) T ℕ) → a ≡ (result, (st, [])) → Answers told a result st seen seen
answered_none {T} told st seen result a is = subst (λ (x : Response (Unit {0}) T ℕ). Answers told x result st seen seen) (sym is) ((refl, refl), refl)

-- it answered so
pub answered_so : {T Seen : Type 0} (told : Seen → T → Seen) (now new : ModelState T ℕ) (gone : List (T × ℕ)) (seen seen' : Seen) (result : Result (Unit {0}) Refusal) (a : Response (Unit {0}) T ℕ) → a ≡ (result, (now, gone)) → new ≡ now → seen' ≡ told_of told seen gone
    → Answers told a result new seen seen'
answered_so {T} told now new gone seen seen' result a is same hears = subst (λ (x : Response (Unit {0}) T ℕ). Answers told x result new seen seen') (sym is) ((refl, same), hears)

-- a slot with guards besides is registered
pub beside_so : {T : Type 0} (st : ModelState T ℕ) (s : ℕ) (owned : Bool) (guards : ℕ) → (model_slot st s).kind ≡ kind_if_owned owned → (model_slot st s).guards ≡ guards → 1 < guards → (is_owned (model_slot st s).kind ≡ true → (model_slot st s).guards ≤ 1) → (model_slot st s).kind ≡ Registered
beside_so st s true guards kind are many one = let few = one (ap is_owned kind) in absurd (omega (arith, are, many, few))
beside_so st s false guards kind are many one = kind

-- what a leave with the last guard answers
pub left_last : {T : Type 0} (puts : ℕ → T → List T) (weight : T → ℕ) (st : ModelState T ℕ) (s : ℕ) (owned : Bool) → no_guard st s ≡ None → (model_slot st s).kind ≡ kind_if_owned owned
    → leave puts weight st s ≡ (Ok tt, given_back_if puts weight owned s (with_further puts weight s (one_guard_less st s)))
left_last {T} puts weight st s owned none kind =
    let o : StateAndGone T ℕ = with_further puts weight s (one_guard_less st s) in
    ap (λ (r : Option Refusal). unless {A = Unit {0}} r st (Ok tt, given_back_if puts weight (is_owned (model_slot st s).kind) s o)) none
    ∙ ap (λ (k : Kind). (Ok tt, given_back_if puts weight (is_owned k) s o)) kind ∙ ap (λ (b : Bool). (Ok tt, given_back_if puts weight b s o)) (same owned)
  where
    same : (b : Bool) → is_owned (kind_if_owned b) ≡ b
    same true = refl
    same false = refl

-- it is refused without a guard
pub refused_none : {T : Type 0} (st : ModelState T ℕ) (s : ℕ) (refusal : Refusal) (a : Response (Unit {0}) T ℕ) → no_guard st s ≡ Some refusal → unless (no_guard st s) st a ≡ (Err refusal, (st, []))
refused_none {T} st s refusal a is = ap (λ (r : Option Refusal). unless r st a) is

-- what the hands hold after a call with this outcome, and what the watch was told
pub record Turned {T Seen : Type 0} (c : Coded T) (told : Seen → T → Seen) (o : StateAndGone T ℕ) (pass : Pass) (seen seen' : Seen) : Type 0 where
  pub names : List (ℕ × T)
  pub kinds : List (ℕ × ℕ)
  pub holds : Holds c.code o.0 names kinds pass.name pass.seen
  pub hears : seen' ≡ told_of told seen o.1

pub turned : {T Seen : Type 0} (c : Coded T) (told : Seen → T → Seen) (o : StateAndGone T ℕ) (pass : Pass) (seen seen' : Seen) (had : Had) → HoldsThen c.code o had pass → HasTold c.code told seen seen' had → Turned c told o pass seen seen'
turned c told o pass seen seen' had then_held tells = record {
  names = then_held.0.0;
  kinds = then_held.0.1;
  holds = then_held.0.2;
  hears = tells.2 ∙ told_gone c told seen tells.0 had o.1 tells.1 then_held.1;
}

module _ {T Seen : Type 0} (c : Coded T) (puts : ℕ → T → List T) (weight : T → ℕ) (lighter : Lighter puts weight) (told : Seen → T → Seen) {words : Words T} {hands : Hands T} {pass : Pass} (k : ShowsHands c.code words hands pass) (r r' : Reservation T)
    (pass' : Pass) (seen seen' : Seen) where
  abbrev st : ModelState T ℕ
  st = hands.state

  -- the pass is alone, once it was ready
  called_alone : {Does : Slot T → Pass → Slot T → Pass → Had → Type 0} (calls : CallsSlot c.code puts told r pass r' pass' seen seen' Does) → CallsAlone c puts st hands.names hands.kinds calls.ready pass' calls.had
  called_alone calls = record {
    sole = sole_still calls.still k.sole;
    legal = calls.legal;
    distinct = ap (λ (n : Name). are_distinct (linked_values n.links)) calls.same.0 ∙ k.distinct;
    size = k.size ∙ sym calls.still.same.2;
    holds = subst (λ (t : Name × List Entry). Holds c.code st hands.names hands.kinds t.0 t.1) (λ j. (sym calls.still.same.0 j, sym (calls.still.alone k.sole) j)) k.holds;
    put = calls.put;
  }

  -- it is the slot that lies in the place
  its_slot : {Does : Slot T → Pass → Slot T → Pass → Had → Type 0} (calls : CallsSlot c.code puts told r pass r' pass' seen seen' Does) (s : ℕ) → its_number r.slot ≡ s → slot_number calls.slot.holder.key ≡ s
  its_slot calls s at = calls.slot.together.numbered ∙ calls.its ∙ at

  -- a leave with the last guard
  pub parted : (s : ℕ) → its_number r.slot ≡ s → CallsSlot c.code puts told r pass r' pass' seen seen' (λ slot ready slot' p had. SlotLeaves slot ready [] slot' p had) → is_free (model_slot st s).kind ≡ false → (model_slot st s).guards ≡ 1
      → let now = with_further puts weight s (one_guard_less st s) in Turned c told now pass' seen seen' × (is_free (model_slot now.0 s).kind ≡ false) × (has_guard (model_slot now.0 s) ≡ false)
  parted s at calls =
      subst
      (λ (s : ℕ). is_free (model_slot st s).kind ≡ false → (model_slot st s).guards ≡ 1
      → Turned c told (with_further puts weight s (one_guard_less st s)) pass' seen seen' × (is_free (model_slot (with_further puts weight s (one_guard_less st s)).0 s).kind ≡ false) × (has_guard (model_slot (with_further puts weight s (one_guard_less st s)).0 s) ≡ false))
      (its_slot calls s at)
      (λ used guards.
      let done = slot_parts c st hands.names hands.kinds calls.slot r'.slot calls.ready pass' puts weight lighter calls.had (called_alone calls) calls.does used guards in
      (turned c told (with_further puts weight (slot_number calls.slot.holder.key) (one_guard_less st (slot_number calls.slot.holder.key))) pass' seen seen' calls.had done.0 calls.tells, done.1, done.2))

  -- a refresh
  pub refreshed : (s : ℕ) → its_number r.slot ≡ s → CallsSlot c.code puts told r pass r' pass' seen seen' (λ slot ready slot' p had. (a : Activation) × SlotRefreshes slot ready a [] slot' p had) → is_free (model_slot st s).kind ≡ false
      → has_guard (model_slot st s) ≡ true → (is_owned (model_slot st s).kind || ((model_slot st s).guards == 1)) ≡ true → let now = refresh puts weight st s in (now.0 ≡ Ok tt) × Turned c told now.1 pass' seen seen'
  refreshed s at calls =
      subst
      (λ (s : ℕ). is_free (model_slot st s).kind ≡ false → has_guard (model_slot st s) ≡ true → (is_owned (model_slot st s).kind || ((model_slot st s).guards == 1)) ≡ true
      → ((refresh puts weight st s).0 ≡ Ok tt) × Turned c told (refresh puts weight st s).1 pass' seen seen')
      (its_slot calls s at)
      (λ used active parts.
      let done = slot_refreshes c st hands.names hands.kinds calls.slot r'.slot calls.ready pass' puts weight lighter calls.had (called_alone calls) calls.does.0 calls.does.1 used active parts in
      (done.0, turned c told (refresh puts weight st (slot_number calls.slot.holder.key)).1 pass' seen seen' calls.had done.1 calls.tells))

  -- a flush
  pub flushed : (s : ℕ) → its_number r.slot ≡ s → CallsSlot c.code puts told r pass r' pass' seen seen' (λ slot ready slot' p had. (retired : Bool) × SlotFlushes slot ready [] slot' p had retired) → is_free (model_slot st s).kind ≡ false
      → has_guard (model_slot st s) ≡ true → let now = flush puts weight st s in (now.0 ≡ Ok tt) × Turned c told now.1 pass' seen seen'
  flushed s at calls =
      subst
      (λ (s : ℕ). is_free (model_slot st s).kind ≡ false → has_guard (model_slot st s) ≡ true → ((flush puts weight st s).0 ≡ Ok tt) × Turned c told (flush puts weight st s).1 pass' seen seen')
      (its_slot calls s at)
      (λ used active.
      let done = slot_flushes c st hands.names hands.kinds calls.slot r'.slot calls.ready pass' puts weight lighter calls.had (called_alone calls) calls.does.0 calls.does.1 used active in
      (done.0, turned c told (flush puts weight st (slot_number calls.slot.holder.key)).1 pass' seen seen' calls.had done.1 calls.tells))

  -- a retirement
  pub retired : (s : ℕ) (loose : Loose) (kind : ℕ) (x : T) → its_number r.slot ≡ s
      → CallsSlot c.code puts told r pass r' pass' seen seen' (λ slot ready slot' p had. (went : Bool) × SlotRetires slot ready loose kind [] slot' p had went) → IsLentAs (its_value loose) (c.code x) → is_free (model_slot st s).kind ≡ false
      → let now = retire puts weight st s x kind in (now.0 ≡ Ok tt) × Turned c told now.1 pass' seen seen'
  retired s loose kind x at calls lent =
      subst (λ (s : ℕ). is_free (model_slot st s).kind ≡ false → ((retire puts weight st s x kind).0 ≡ Ok tt) × Turned c told (retire puts weight st s x kind).1 pass' seen seen') (its_slot calls s at)
      (λ used.
      let done = slot_retires c st hands.names hands.kinds calls.slot r'.slot calls.ready pass' puts weight lighter calls.had (called_alone calls) loose kind x calls.does.0 calls.does.1 lent used in
      (done.0, turned c told (retire puts weight st (slot_number calls.slot.holder.key) x kind).1 pass' seen seen' calls.had done.1 calls.tells))
