-- A slot in one caller's hands gathers, and goes on with what it gathered: what the hands hold then.
--     looked_off             a slot without a guard is inactive, and a look at the list changes nothing
--     idle_none, lies_again  it has none in its place, where it lies again after the call
--     Gathers, gathers       what is so then: the pass, the hands, and what the watch was told
use Rattle.std.proofs.Common.{◌≡◌, ℕ, zero, suc, ◌+◌, false, List, [], option_map, refl, sym, ap, subst, ◌∙◌, arith}
use Rattle.std.proofs.lemmas.Bool.{false≢true}
use base.Growing.{prefix_trans}
use base.Stored.{Coded, Gv}
use mathlib.Core.List.{IsPrefix}
use Rattle.seize_machine.specs.Machine.State.{are_distinct, head_at, is_active, linked_values}
use Rattle.seize_model.specs.Waiting.Calls.{gathering, is_free}
use Rattle.seize_model.specs.Waiting.Further.{Lighter}
use Rattle.seize_model.specs.Waiting.Laws.{GathersFirst}
use Rattle.seize_model.specs.Waiting.State.{ModelState, has_guard, model_slot}
use Rattle.seize_book.proofs.Facts.{same_twice}
use Rattle.seize_book.specs.Entry.{Entry}
use Rattle.seize_book.specs.Homesteads.{state_seen}
use Rattle.seize_book.specs.Passes.{IsSamePass}
use Rattle.seize_book.specs.Slots.{active_of, slot_number}
use Rattle.seize_book.specs.Tokens.{Name}
use Rattle.seize_book.specs.declared.book.pass.Pass.{Pass}
use Rattle.seize_words.specs.Joined.{words_book}
use Rattle.seize_words.specs.declared.activation.Activation.{Activation}
use Rattle.seize_words.specs.declared.words.Words.{Words}
use Rattle.seize_calls.specs.Handing.{Had}
use Rattle.seize_calls.proofs.Current.{looked_active, shown}
use Rattle.seize_calls.specs.Slots.{IsInactive, IsPassOf, IsSlotOf, SlotLooks, SlotResumes, its_number, seen_book}
use Rattle.seize_calls.specs.declared.slot.Slot.{Slot}
use Rattle.seize_alone.specs.Calls.{CallsAlone}
use Rattle.seize_alone.specs.Gone.{PutAs}
use Rattle.seize_alone.specs.Holding.{Holds}
use Rattle.seize_alone.proofs.Ready.{entry_alone, ready_sole}
use Rattle.seize_alone.proofs.Slots.{slot_gathers}
use Rattle.seize_parts.specs.Numbers.{HasGathered}
use Rattle.seize_parts.specs.Places.{IsUnmoved, LiesThen}
use Rattle.seize_parts.specs.Placing.{Lies, unit_in}
use Rattle.seize_parts.specs.declared.alone.place.Place.{Place}
use Rattle.seize_parts.specs.Reservations.{IsAt}
use Rattle.seize_parts.specs.Told.{HasTold}
use Rattle.seize_parts.proofs.Called.{legal_then, sole_still}
use Rattle.seize_parts.proofs.Lying.{head_held}
use Rattle.seize_parts.proofs.Placed.{at_none, label_same, may_still, placed, still_for}
use Rattle.seize_parts.proofs.Stilled.{same_pass, still_looked}
use Rattle.seize.specs.Alones.{ShowsHands}
use Rattle.seize.specs.declared.alone.hands.Hands.{Hands}
use Rattle.seize.proofs.Lone.{made_grows}
use Rattle.seize.proofs.Reclaimed.{Turned, turned}

idle_none : {T : Type 0} (slot : Slot T) (rest : Activation) (guards : ℕ) → IsInactive slot → IsAt slot rest guards → guards ≡ 0
idle_none slot rest zero off at = refl
idle_none slot rest (suc n) off at = absurd (false≢true (sym off ∙ at.active))

pub looked_off : {T : Type 0} {code : T → Gv} {words : Words T} {hands : Hands T} {pass pass' : Pass} → ShowsHands code words hands pass → (slot slot' : Slot T) → SlotLooks slot pass slot' pass' → seen_book slot ≡ words_book words → (s : ℕ) → its_number slot ≡ s
    → has_guard (model_slot hands.state s) ≡ false → IsUnmoved pass pass' × IsInactive slot × IsInactive slot'
looked_off {hands = hands} {pass = pass} {pass' = pass'} k slot slot' looks book s at off =
    let still = still_looked slot slot' looks in
    let seen : is_active (head_at (state_seen pass') (its_number slot)) ≡ active_of slot'.holder.key = (shown slot slot' pass pass' looks (book ∙ k.for.0)).1 in
    let none : is_active (head_at (state_seen pass) (its_number slot)) ≡ false = head_held k.holds (its_number slot) ∙ ap (λ (t : ℕ). has_guard (model_slot hands.state t)) at ∙ off in
    let then : active_of slot'.holder.key ≡ false = sym seen ∙ ap (λ (p : Pass). is_active (head_at (state_seen p) (its_number slot))) (same_pass k.sole still) ∙ none in
    (still, sym (looked_active _ _ _ _ looks.0.does) ∙ then, then)

pub lies_again : {T : Type 0} (words : Words T) (place : Place T) (lies : Lies) → LiesThen place lies → (slot : Slot T) → IsSlotOf words slot → (slot.number ≡ place.reservation.slot.number) × (slot.seen.name ≡ place.reservation.slot.seen.name)
    → IsInactive place.reservation.slot → IsInactive slot → LiesThen (record place { reservation = record place.reservation { slot = slot; guards = 0 } }) lies
lies_again words place lies is slot of same off then =
    let r = place.reservation in let none = idle_none r.slot r.rest r.guards off is.1.at in (
      (λ j. (place.owned, (place.guards, (label_same r.slot slot r.most same j, (option_map unit_in place.unit, place.shelf))))) ∙ is.0,
      placed words slot r.rest 0 r.most of
          (may_still r.slot slot r.rest (slot.together.book ∙ same.1 ∙ sym r.slot.together.book, slot.together.numbered ∙ same.0 ∙ sym r.slot.together.numbered) (then ∙ sym off) (at_none r.slot r.rest r.guards none is.1.at))
          (ap (λ (n : ℕ). r.rest.units + n) (sym none) ∙ is.1.units) (omega arith),
    )

pub record Gathers {T Seen : Type 0} (c : Coded T) (puts : ℕ → T → List T) (weight : T → ℕ) (told : Seen → T → Seen) (st : ModelState T ℕ) (s : ℕ) (pass pass' : Pass) (seen seen' : Seen) : Type 0 where
  pub same : IsSamePass pass pass'
  pub grows : IsPrefix pass.seen pass'.seen
  pub first : GathersFirst st s
  pub now : Turned c told (gathering puts weight st s) pass' seen seen'

module _ {T Seen : Type 0} (c : Coded T) (puts : ℕ → T → List T) (weight : T → ℕ) (lighter : Lighter puts weight) (told : Seen → T → Seen) {words : Words T} {hands : Hands T} {pass : Pass} (k : ShowsHands c.code words hands pass)
    (slot1 begun slot2 : Slot T) (p1 p2 p3 : Pass) (seen seen' : Seen) where
  abbrev st : ModelState T ℕ
  st = hands.state

  pub gathers : (s : ℕ) → IsUnmoved pass p1 → HasGathered words slot1 p1 begun p2 → IsSlotOf words slot2 → ((had : Had) × SlotResumes begun p2 [] slot2 p3 had × PutAs c.code puts had × HasTold c.code told seen seen' had) → its_number slot1 ≡ s
      → is_free (model_slot st s).kind ≡ false → has_guard (model_slot st s) ≡ false → Gathers c puts weight told st s pass p3 seen seen'
  gathers s still gath of2 r at used off =
      let goes = gath.gathers in let resumed = r.1 in let sole1 = sole_still still k.sole in
      let makes = entry_alone (ready_sole goes.prepares sole1) goes.does refl in
      let number : slot_number slot1.holder.key ≡ s = slot1.together.numbered ∙ at in
      let same2 : IsSamePass p1 p2 = same_twice p1 goes.ready p2 goes.prepares.same makes.same in
      let for2 : IsPassOf words p2 = still_for words p1 p2 (still_for words pass p1 k.for still.same) same2 in
      let same3 : IsSamePass p1 p3 = same_twice p1 p2 p3 same2 (same_twice p2 resumed.ready p3 resumed.prepares.same resumed.does.rests.same) in
      let same : IsSamePass pass p3 = same_twice pass p1 p3 still.same same3 in
      let alone : CallsAlone c puts st hands.names hands.kinds p1 p3 r.0 = record {
        sole = sole1;
        legal = legal_then words begun slot2 p2 p3 _ resumed of2.0 for2 resumed.does.rests.same;
        distinct = ap (λ (m : Name). are_distinct (linked_values m.links)) same.0 ∙ k.distinct;
        size = k.size ∙ sym still.same.2;
        holds = subst (λ (t : Name × List Entry). Holds c.code st hands.names hands.kinds t.0 t.1) (λ j. (sym still.same.0 j, sym (still.alone k.sole) j)) k.holds;
        put = r.2;
      } in
      let gone = slot_gathers c st hands.names hands.kinds slot1 begun slot2 p1 p2 p3 puts weight lighter r.0 alone goes resumed
      (subst (λ (t : ℕ). is_free (model_slot st t).kind ≡ false) (sym number) used) (subst (λ (t : ℕ). has_guard (model_slot st t) ≡ false) (sym number) off) in
      record {
        same = same;
        grows = subst (λ (x : List Entry). IsPrefix x p3.seen) (still.alone k.sole)
            (prefix_trans p1.seen goes.ready.seen p3.seen goes.prepares.grows.0 (prefix_trans goes.ready.seen p2.seen p3.seen (made_grows makes) (prefix_trans p2.seen resumed.ready.seen p3.seen resumed.prepares.grows.0 resumed.does.rests.grows)));
        first = subst (λ (t : ℕ). GathersFirst st t) number (gone.1, gone.2);
        now = subst (λ (t : ℕ). Turned c told (gathering puts weight st t) p3 seen seen') number (turned c told (gathering puts weight st (slot_number slot1.holder.key)) p3 seen seen' r.0 gone.0 r.3);
      }
