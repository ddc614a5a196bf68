-- A slot in use attempts its batch, where its pass is alone: it enters, flushes and leaves. What its reclaimer puts waits apart, so the state
-- is the one that the model has where nothing is put.
use Rattle.std.proofs.Common.{◌≡◌, ℕ, true, false, Bool, List, [], ◌++◌, sym, ap, subst, ◌∙◌}
use base.Stored.{Coded}
use Rattle.seize_machine.specs.Machine.State.{are_distinct, linked_values}
use Rattle.seize_model.specs.Waiting.Attempt.{StateAndGone, attempt}
use Rattle.seize_model.specs.Waiting.Calls.{is_free, one_guard_less, set_guards}
use Rattle.seize_model.specs.Waiting.State.{ModelSlot as WaitingSlot, ModelState, has_guard, model_slot}
use Rattle.seize_book.specs.Book.{IsLegalList}
use Rattle.seize_book.specs.Passes.{IsSamePass}
use Rattle.seize_book.specs.Slots.{slot_number}
use Rattle.seize_book.specs.Tokens.{IsSole, Name, start}
use Rattle.seize_book.specs.declared.book.pass.Pass.{Pass}
use Rattle.seize_book.proofs.Facts.{same_twice}
use Rattle.seize_words.specs.declared.activation.Activation.{Activation}
use Rattle.seize_words.specs.declared.words.Words.{Words}
use Rattle.seize_calls.specs.Aparts.{without_puts}
use Rattle.seize_calls.specs.Handing.{Had}
use Rattle.seize_calls.specs.declared.further.Further.{Further}
use Rattle.seize_calls.specs.Slots.{IsOfWords, IsPassOf, Prepares, SlotEnters, SlotFlushes, SlotLeaves, its_number}
use Rattle.seize_calls.specs.declared.slot.Slot.{Slot}
use Rattle.seize_alone.specs.Calls.{CallsAlone}
use Rattle.seize_alone.specs.Gone.{PutAs}
use Rattle.seize_alone.specs.Holding.{Holds, HoldsThen}
use Rattle.seize_alone.specs.Reclaiming.{batch_in_turn}
use Rattle.seize_alone.proofs.Nothing.{had_append, had_with, put_nothing}
use Rattle.seize_alone.proofs.Outlines.{attempt_frame, guards_in, kind_in}
use Rattle.seize_alone.proofs.Ready.{nothing, nothing_flushed, nothing_further, nothing_lighter, ready_holds}
use Rattle.seize_alone.proofs.Sizes.{attempt_size}
use Rattle.seize_alone.proofs.Slots.{slot_enters, slot_flushes, slot_parts}
use Rattle.seize_parts.specs.Aparts.{Fits, Goes, WaitsBehind}
use Rattle.seize_parts.specs.Places.{IsUnmoved}
use Rattle.seize_parts.specs.Told.{HasTold}
use Rattle.seize_parts.proofs.Called.{legal_then}
use Rattle.seize_parts.proofs.Given.{put_more}
use Rattle.seize_parts.proofs.Going.{told_then, waits_as, waits_then}
use Rattle.seize_parts.proofs.Lying.{slot_there}
use Rattle.seize_parts.proofs.Outlined.{batch_used, guarded_slot, one_guard}
use Rattle.seize_parts.proofs.Placed.{still_for}
use Rattle.seize_parts.proofs.Stilled.{same_pass}

-- Steps, by the number of the slot.

module _ {T : Type 0} (c : Coded T) (words : Words T) (n : ℕ) where
  -- what is known of a call of the slot
  pub record Calls (slot slot' : Slot T) (pass pass' : Pass) (st : ModelState T ℕ) (names : List (ℕ × T)) (kinds : List (ℕ × ℕ)) : Type 0 where
    pub at : its_number slot ≡ n
    pub sole : IsSole pass.id
    pub for : IsPassOf words pass
    pub of : IsOfWords words slot'
    pub distinct : are_distinct (linked_values pass.name.links) ≡ true
    pub size : st.size ≡ pass.size
    pub holds : Holds c.code st names kinds pass.name pass.seen

  alone_so : {slot slot' : Slot T} {pass pass' : Pass} {st : ModelState T ℕ} {names : List (ℕ × T)} {kinds : List (ℕ × ℕ)} → Calls slot slot' pass pass' st names kinds → (had : Had) → PutAs c.code nothing had → pass'.name ≡ pass.name → IsLegalList (start pass'.name) pass'.seen
      → CallsAlone c nothing st names kinds pass pass' had
  alone_so k had put same legal = record { sole = k.sole; legal = legal; distinct = ap (λ (m : Name). are_distinct (linked_values m.links)) same ∙ k.distinct; size = k.size; holds = k.holds; put = put }

  pub flush_same : {slot slot' : Slot T} {pass pass' : Pass} {had : Had} {retired : Bool} → SlotFlushes slot pass [] slot' pass' had retired → IsSamePass pass pass'
  flush_same {pass = pass} {pass'} e = same_twice pass e.ready pass' e.prepares.same e.does.rests.same

  pub leave_same : {slot slot' : Slot T} {pass pass' : Pass} {had : Had} → SlotLeaves slot pass [] slot' pass' had → IsSamePass pass pass'
  leave_same {pass = pass} {pass'} e = same_twice pass e.ready pass' e.prepares.same e.does.rests.same

  pub enter_same : {slot slot' : Slot T} {pass pass' : Pass} (a : Activation) → SlotEnters slot pass a slot' pass' → IsSamePass pass pass'
  enter_same {pass = pass} {pass'} a e = same_twice pass e.ready pass' e.prepares.same e.does.0

  pub flush_step : {slot slot' : Slot T} {pass pass' : Pass} {st : ModelState T ℕ} {names : List (ℕ × T)} {kinds : List (ℕ × ℕ)} → Calls slot slot' pass pass' st names kinds → (had : Had) → PutAs c.code nothing had → (retired : Bool) → SlotFlushes slot pass [] slot' pass' had retired
      → is_free (model_slot st n).kind ≡ false → has_guard (model_slot st n) ≡ true → HoldsThen c.code (attempt st n) had pass'
  flush_step {slot} {slot'} {pass} {pass'} {st} {names} {kinds} k had put retired e =
      let legal = legal_then words slot slot' pass pass' _ e k.of k.for e.does.rests.same in let a = alone_so k had put (flush_same e).0 legal in
      subst (λ (m : ℕ). is_free (model_slot st m).kind ≡ false → has_guard (model_slot st m) ≡ true → HoldsThen c.code (attempt st m) had pass') (slot.together.numbered ∙ k.at)
      (λ used on.
      ap_then (nothing_flushed st _ (λ (x : T). 1) used on) (slot_flushes c st names kinds slot slot' pass pass' nothing (λ (x : T). 1) nothing_lighter had a retired e used on).1)
    where
      ap_then : {A : Type 0} {r s : A × StateAndGone T ℕ} → r ≡ s → HoldsThen c.code r.1 had pass' → HoldsThen c.code s.1 had pass'
      ap_then {A} e x = subst (λ (r : A × StateAndGone T ℕ). HoldsThen c.code r.1 had pass') e x

  pub leave_step : {slot slot' : Slot T} {pass pass' : Pass} {st : ModelState T ℕ} {names : List (ℕ × T)} {kinds : List (ℕ × ℕ)} → Calls slot slot' pass pass' st names kinds → (had : Had) → PutAs c.code nothing had → SlotLeaves slot pass [] slot' pass' had
      → is_free (model_slot st n).kind ≡ false → (model_slot st n).guards ≡ 1
      → HoldsThen c.code (one_guard_less st n) had pass' × (is_free (model_slot (one_guard_less st n).0 n).kind ≡ false) × (has_guard (model_slot (one_guard_less st n).0 n) ≡ false)
  leave_step {slot} {slot'} {pass} {pass'} {st} {names} {kinds} k had put e =
      let legal = legal_then words slot slot' pass pass' _ e k.of k.for e.does.rests.same in let a = alone_so k had put (leave_same e).0 legal in
      subst (λ (m : ℕ). is_free (model_slot st m).kind ≡ false → (model_slot st m).guards ≡ 1 → Left (one_guard_less st m) m) (slot.together.numbered ∙ k.at)
      (λ used one. let m = slot_number slot.holder.key in subst (λ (o : StateAndGone T ℕ). Left o m) (nothing_further (λ (x : T). 1) m (one_guard_less st m)) (slot_parts c st names kinds slot slot' pass pass' nothing (λ (x : T). 1) nothing_lighter had a e used one))
    where
      Left : StateAndGone T ℕ → ℕ → Type 0
      Left o m = HoldsThen c.code o had pass' × (is_free (model_slot o.0 m).kind ≡ false) × (has_guard (model_slot o.0 m) ≡ false)

  module _ {slot slot' : Slot T} {pass pass' : Pass} {st : ModelState T ℕ} {names : List (ℕ × T)} {kinds : List (ℕ × ℕ)} (at : its_number slot ≡ n) (sole : IsSole pass.id) (holds : Holds c.code st names kinds pass.name pass.seen) where
    pub enter_step : (a : Activation) → SlotEnters slot pass a slot' pass' → is_free (model_slot st n).kind ≡ false → has_guard (model_slot st n) ≡ false → Holds c.code (set_guards st n 1) names kinds pass'.name pass'.seen
    enter_step a e =
        subst (λ (m : ℕ). is_free (model_slot st m).kind ≡ false → has_guard (model_slot st m) ≡ false → Holds c.code (set_guards st m 1) names kinds pass'.name pass'.seen) at
        (λ used off. slot_enters c st names kinds slot slot' pass pass' sole holds a e used off)

-- The pass is there, the slot enters, flushes and leaves, and the pass looks.
module _ {T Seen : Type 0} (c : Coded T) (puts : ℕ → T → List T) (told : Seen → T → Seen) (words : Words T) (n : ℕ) where
  module _ (slot0 slot2 slot3 slot4 : Slot T) (p0 p1 p2 p3 p4 p5 : Pass) (a : Activation) (retired : Bool) (had1 had2 : Had) (at : its_number slot0 ≡ n) (for : IsPassOf words p0) (sole : IsSole p0.id)
      (prepares : Prepares slot0 p0 p1) (enters : SlotEnters slot0 p1 a slot2 p2) (of3 : IsOfWords words slot3) (flushes : SlotFlushes slot2 p2 [] slot3 p3 (without_puts had1) retired)
      (of4 : IsOfWords words slot4) (leaves : SlotLeaves slot3 p3 [] slot4 p4 (without_puts had2)) (still : IsUnmoved p4 p5) where
    same2 : IsSamePass p0 p2
    same2 = same_twice p0 p1 p2 prepares.same (enter_same c words n a enters)

    same3 : IsSamePass p0 p3
    same3 = same_twice p0 p2 p3 same2 (flush_same c words n flushes)

    same4 : IsSamePass p0 p4
    same4 = same_twice p0 p3 p4 same3 (leave_same c words n leaves)

    sole_then : (q : Pass) → IsSamePass p0 q → IsSole q.id
    sole_then q same = subst IsSole (sym same.1) sole

    at2 : its_number slot2 ≡ n
    at2 = enters.same.0 ∙ at

    at3 : its_number slot3 ≡ n
    at3 = flushes.same.0 ∙ at2

    module _ (put1 : PutAs c.code puts had1) (put2 : PutAs c.code puts had2) where
      held : (st : ModelState T ℕ) (names : List (ℕ × T)) (kinds : List (ℕ × ℕ)) → Fits p0 st → is_free (model_slot st n).kind ≡ false → has_guard (model_slot st n) ≡ false → Holds c.code st names kinds p0.name p0.seen
          → HoldsThen c.code (batch_in_turn st n) (had1 ++ had2) p5
      held st names kinds fits used off holds =
          let st2 : ModelState T ℕ = set_guards st n 1 in
          let holds1 = ready_holds prepares sole c st names kinds holds in
          let holds2 = enter_step c words n at (sole_then p1 prepares.same) holds1 a enters used off in
          let slot = guarded_slot st n (slot_there st n used) in
          let used2 : is_free (model_slot st2 n).kind ≡ false = ap (λ (x : WaitingSlot T ℕ). is_free x.kind) slot ∙ used in let one2 : (model_slot st2 n).guards ≡ 1 = ap (λ (x : WaitingSlot T ℕ). x.guards) slot in
          let flushed = flush_step c words n (record { at = at2; sole = sole_then p2 same2; for = still_for words p0 p2 for same2; of = of3; distinct = ap (λ (m : Name). are_distinct (linked_values m.links)) same2.0 ∙ fits.1; size = fits.0 ∙ sym same2.2; holds = holds2 })
          (without_puts had1) (put_nothing c.code puts had1 put1) retired flushes used2 (one_guard _ one2) in
          let o : StateAndGone T ℕ = attempt st2 n in let outline = ap (λ (f : _). f.0) (attempt_frame st2 n) in
          let used3 : is_free (model_slot o.0 n).kind ≡ false = ap is_free (kind_in o.0 st2 outline n) ∙ used2 in let one3 : (model_slot o.0 n).guards ≡ 1 = guards_in o.0 st2 outline n ∙ one2 in
          let left = leave_step c words n (record { at = at3; sole = sole_then p3 same3; for = still_for words p0 p3 for same3; of = of4; distinct = ap (λ (m : Name). are_distinct (linked_values m.links)) same3.0 ∙ fits.1; size = attempt_size st2 n ∙ fits.0 ∙ sym same3.2; holds = flushed.0.2 })
          (without_puts had2) (put_nothing c.code puts had2 put2) leaves used3 one3 in
          subst (λ (t : StateAndGone T ℕ × Pass). HoldsThen c.code t.0 (had1 ++ had2) t.1) (λ j. (sym (batch_used st n used) j, sym (same_pass (sole_then p4 same4) still) j))
          (left.0.0, had_append c.code had1 had2 o.1 (one_guard_less o.0 n).1 (had_with c.code had1 o.1 flushed.1) (had_with c.code had2 (one_guard_less o.0 n).1 left.0.1))

      pub attempt_goes : (seen seen' seen'' : Seen) (queue queue' queue'' : Further) (name : Name) → p0.name ≡ name → HasTold c.code told seen seen' had1 → WaitsBehind name had1 queue queue' → HasTold c.code told seen' seen'' had2 → WaitsBehind name had2 queue' queue''
          → Goes c.code puts told (λ st. Fits p0 st × (is_free (model_slot st n).kind ≡ false) × (has_guard (model_slot st n) ≡ false)) (λ st. batch_in_turn st n) p0 p5 seen seen'' queue queue''
      attempt_goes seen seen' seen'' queue queue' queue'' name same tells1 waits1 tells2 waits2 = record {
        same = same_twice p0 p4 p5 same4 still.same;
        had = had1 ++ had2;
        put = put_more c.code puts had1 had2 put1 put2;
        tells = told_then c.code told seen seen' seen'' had1 had2 tells1 tells2;
        waits = waits_as name p0.name (had1 ++ had2) queue queue'' same (waits_then name had1 had2 queue queue' queue'' waits1 waits2);
        holds = λ st names kinds may. held st names kinds may.0 may.1 may.2;
      }
