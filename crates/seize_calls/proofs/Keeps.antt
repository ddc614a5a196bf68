-- What an event of a slot's call leaves as it was, and what it makes.
use Rattle.std.proofs.Common.{◌≡◌, ℕ, ◌<◌, ◌≤◌, false, List, [], ◌∷◌, ◌++◌, length, get_or, set, Some, refl, sym, ap, subst, ◌∙◌, ◌⊎◌, inl, inr, arith}
use Rattle.std.proofs.lemmas.List.{get_or-set_same, get_or-set_other, get_or_past}
use Rattle.std.proofs.lemmas.Bool.{cases_lt}
use base.Growing.{prefix_trans}
use mathlib.Core.List.{IsPrefix}
use native.Mathlib.Decide.{ℕ_discrete}
use Rattle.seize_machine.specs.Machine.State.{State, Slot, Progress, Head, Inactive, Active, Place, Look, Mark, no_slot, slot_at, head_at, is_active}
use Rattle.seize_machine.specs.Machine.Event.{Event, Insert, ReadHead}
use Rattle.seize_machine.specs.Machine.Next.{looked_on, lost_on, scheme, won_on}
use Rattle.seize_machine.specs.declared.machine.event.Answer.{Answer}
use Rattle.seize_machine.specs.declared.machine.event.Answer.TheVariants.{Done, Head as HeadRead}
use Rattle.seize_machine.specs.declared.machine.event.Try.TheVariants.{Won, Lost}
use Rattle.seize_machine.proofs.Facts.{Step, some_is, step_of}
use Rattle.seize_book.specs.Adding.{deed_with_words, private}
use Rattle.seize_book.specs.Book.{after}
use Rattle.seize_book.specs.Entry.{Made}
use Rattle.seize_words.specs.Headers.{Uses, using}
use Rattle.seize_book.specs.Laws.{starts}
use Rattle.seize_book.specs.Passes.{IsSamePass, LooksOn, events_by, events_in}
use Rattle.seize_book.specs.Slots.{AddsDeed, IsKeyOfBook, own_list, slot_number, slot_of, start_of}
use Rattle.seize_book.specs.Tokens.{Name, start}
use Rattle.seize_book.specs.declared.book.pass.Pass.{Pass}
use Rattle.seize_book.specs.declared.book.slot_key.SlotKey.{SlotKey}
use Rattle.seize_words.proofs.Facts.{deeds_grew, more_seen, more_slots, seen_grows}
use Rattle.seize_calls.specs.Inserts.{Continues}
use Rattle.seize_calls.proofs.Alone.{alone_noted, onward_event, onward_looked, onward_none, onward_twice, own_one}
use Rattle.seize_calls.proofs.Marks.{within}

-- The machine makes an event for a call: it goes on so, and nothing else of its slot changes.
abbrev pub goes : (Place → Place) → Progress → Progress
goes on call = record { place = on call.place; queue = call.queue }

pub record Goes (st : State) (s : ℕ) (call : Progress) (on : Place → Place) (d : State × Answer) (answer : Answer) : Type 0 where
  pub stands : (slot_at d.0 s).call ≡ Some (goes on call)
  pub batch : (slot_at d.0 s).batch ≡ (slot_at st s).batch
  pub used : (slot_at d.0 s).used ≡ (slot_at st s).used
  pub active : is_active (head_at d.0 s) ≡ is_active (head_at st s)
  pub told : d.1 ≡ answer

-- its record alone was written
written : (st later : State) (s : ℕ) (call : Progress) (on : Place → Place) (new : Slot) (answer : Answer) → (slot_at st s).call ≡ Some call → later.slots ≡ set st.slots s new
    → new.call ≡ Some (goes on call) → new.batch ≡ (slot_at st s).batch → new.used ≡ (slot_at st s).used → is_active (head_at later s) ≡ is_active (head_at st s) → Goes st s call on (later, answer) answer
written st later s call on new answer is slots stands batch used active =
    let same : slot_at later s ≡ new = ap (λ (xs : List Slot). get_or xs s no_slot) slots ∙ get_or-set_same st.slots s new no_slot (within st s call is) in
    record {
      stands = ap (λ (z : Slot). z.call) same ∙ stands;
      batch = ap (λ (z : Slot). z.batch) same ∙ batch;
      used = ap (λ (z : Slot). z.used) same ∙ used;
      active = active;
      told = refl;
    }

-- the head of a marked slot is read again
pub looked_again : (size : ℕ) (st : State) (s m b won : ℕ) (later queue : List ℕ) (d : State × Answer) → Step size st (ReadHead s m) d → (slot_at st s).call ≡ Some (record { place = Look b won m later; queue = queue })
    → Goes st s (record { place = Look b won m later; queue = queue }) (looked_on scheme (head_at st m)) d (HeadRead (is_active (head_at st m)))
looked_again size st _ _ b won later queue _ (Step.looked_at s _ _ m _ _ e) is =
    written st _ s _ _ _ _ is refl (ap (λ (c : Progress). Some (goes (looked_on scheme (head_at st m)) c)) (some_is _ _ (sym e ∙ is))) refl refl refl
looked_again size st _ _ b won later queue _ (Step.marked s m next note marks q e less turn) is =
    absurd (let other : Mark next note marks ≡ Look b won m later = ap (λ (c : Progress). c.place) (some_is _ _ (sym e ∙ is)) in cc)

-- and the heads stay
pub heads_read : (size : ℕ) (st : State) (s m : ℕ) (d : State × Answer) → Step size st (ReadHead s m) d → d.0.heads ≡ st.heads
heads_read size st _ _ _ (Step.looked_at s b won m later queue e) = refl
heads_read size st _ _ _ (Step.marked s m next note marks q e less turn) = refl

-- a slot stays active where another batch waits for it
still_active : (heads : List Head) (m s b : ℕ) (waiting : List ℕ) → get_or heads m Inactive ≡ Active waiting → is_active (get_or (set heads m (Active (b ∷ waiting))) s Inactive) ≡ is_active (get_or heads s Inactive)
still_active heads m s b waiting is = go (ℕ_discrete s m) (cases_lt m (length heads))
  where
    go : Dec (s ≡ m) → (m < length heads) ⊎ (length heads ≤ m) → is_active (get_or (set heads m (Active (b ∷ waiting))) s Inactive) ≡ is_active (get_or heads s Inactive)
    go (yes same) (inl less) =
        subst (λ (k : ℕ). is_active (get_or (set heads m (Active (b ∷ waiting))) k Inactive) ≡ is_active (get_or heads k Inactive)) (sym same)
        (ap is_active (get_or-set_same heads m (Active (b ∷ waiting)) Inactive less) ∙ sym (ap is_active is))
    go (yes same) (inr past) = absurd (let none : Inactive ≡ Active waiting = sym (get_or_past heads m Inactive past) ∙ is in cc)
    go (no other) there = ap is_active (get_or-set_other heads m s (Active (b ∷ waiting)) Inactive other)

pub insert_won : (size : ℕ) (st : State) (s m : ℕ) (call : Progress) (d : State × Answer) → Step size st (Insert s m Won) d → (slot_at st s).call ≡ Some call → Goes st s call won_on d Done
insert_won size st _ _ call _ (Step.inserted s m b won later saw queue waiting e head_is) is =
    written st _ s _ _ _ _ is refl (ap (λ (c : Progress). Some (goes won_on c)) (some_is _ _ (sym e ∙ is))) refl refl (still_active st.heads m s b waiting head_is)

pub insert_lost : (size : ℕ) (st : State) (s m : ℕ) (call : Progress) (d : State × Answer) → Step size st (Insert s m Lost) d → (slot_at st s).call ≡ Some call → Goes st s call lost_on d Done
insert_lost size st _ _ call _ (Step.lost s m b won later saw queue e other) is =
    written st _ s _ _ _ _ is refl (ap (λ (c : Progress). Some (goes lost_on c)) (some_is _ _ (sym e ∙ is))) refl refl refl

-- What the slot's key knows of it.
module _ (key key' : SlotKey) (pass pass' : Pass) (event : Event) (kepts : List ℕ) (notes : AddsDeed key pass key' pass' (deed_with_words pass event kepts)) where
  abbrev pub state_before : State
  state_before = after (start_of key) notes.2.0.before

  abbrev pub outcome : State × Answer
  outcome = (notes.2.0.later, notes.2.0.answer)

  pub step_noted : Step pass.size state_before event outcome
  step_noted = step_of pass.size state_before event outcome notes.2.1.legal

  pub call_before : (call : Progress) → (slot_of key).call ≡ Some call → (slot_at state_before (slot_number key)).call ≡ Some call
  call_before call is = ap (λ (z : Slot). z.call) notes.2.1.was ∙ is

  pub keeps_from : ((slot_at outcome.0 (slot_number key)).batch ≡ (slot_at state_before (slot_number key)).batch) → ((slot_at outcome.0 (slot_number key)).used ≡ (slot_at state_before (slot_number key)).used)
      → (is_active (head_at outcome.0 (slot_number key)) ≡ is_active (head_at state_before (slot_number key))) → starts (slot_number key) event ≡ false → Continues key pass key' pass'
  keeps_from batch used active none = record {
    on = onward_event key key' pass pass' (deed_with_words pass event kepts) notes refl none (ap (λ (z : Slot). z.used) notes.2.1.is ∙ used ∙ ap (λ (z : Slot). z.used) notes.2.1.was)
        (notes.2.1.is_now_active ∙ active ∙ notes.2.1.was_active);
    batch = ap (λ (z : Slot). z.batch) notes.2.1.is ∙ batch ∙ ap (λ (z : Slot). z.batch) notes.2.1.was;
    seen =
        subst (λ (z : Name). length (after (start pass.name) pass.seen).slots ≤ length (after (start z) pass'.seen).slots) (sym notes.0.0)
        (more_slots pass.name pass.seen pass'.seen (seen_grows pass.name pass.id pass.seen pass'.seen _ notes.2.0) notes.2.0.legal);
  }

  -- it knows all that it knew
  pub own_grows : IsPrefix (own_list key) (own_list key')
  own_grows = subst (IsPrefix (own_list key)) (sym notes.1.2) (prefix_trans (own_list key) notes.2.0.before pass'.seen notes.2.1.knew (Made (deed_with_words pass event kepts) ∷ [], sym notes.2.0.appended))

  module _ (call : Progress) (on : Place → Place) (answer : Answer) (goes_so : Goes state_before (slot_number key) call on outcome answer) where
    pub keeps_noted : starts (slot_number key) event ≡ false → Continues key pass key' pass'
    keeps_noted none = keeps_from goes_so.batch goes_so.used goes_so.active none

    pub call_after : (slot_of key').call ≡ Some (goes on call)
    call_after = ap (λ (z : Slot). z.call) notes.2.1.is ∙ goes_so.stands

    pub made_noted : events_by pass' ≡ events_by pass ++ (deed_with_words pass event kepts, answer) ∷ []
    made_noted = deeds_grew pass pass' (deed_with_words pass event kepts) notes.0 notes.2.0 ∙ ap (λ (a : Answer). events_by pass ++ (deed_with_words pass event kepts, a) ∷ []) goes_so.told

pub keeps_used : (key key' : SlotKey) (pass pass' : Pass) (f v : ℕ) → Uses key pass key' pass' f v → Continues key pass key' pass'
keeps_used key key' pass pass' f v uses = record {
  on = record {
    same = uses.same;
    its = (uses.seen_by.0, uses.seen_by.1);
    used = ap (λ (z : Slot). z.used) uses.slot;
    active = uses.active;
    life = uses.life;
    grows = seen_grows pass.name pass.id pass.seen pass'.seen _ uses.noted;
    alone = alone_noted pass pass' (using key pass f v) refl uses.noted;
    own = own_one key pass key' (using key pass f v) uses.noted.answer refl uses.acts;
  };
  batch = ap (λ (z : Slot). z.batch) uses.slot;
  seen =
      subst (λ (z : Name). length (after (start pass.name) pass.seen).slots ≤ length (after (start z) pass'.seen).slots) (sym uses.same.0)
      (more_slots pass.name pass.seen pass'.seen (seen_grows pass.name pass.id pass.seen pass'.seen _ uses.noted) uses.noted.legal);
}

abbrev pub keeps_none : (key : SlotKey) (pass : Pass) → Continues key pass key pass
keeps_none key pass = record { on = onward_none key pass; batch = refl; seen = omega arith }

pub keeps_looked : (key : SlotKey) (pass pass' : Pass) → LooksOn pass pass' → Continues key pass key pass'
keeps_looked key pass pass' looks = record { on = onward_looked key pass pass' looks; batch = refl; seen = more_seen pass pass' looks }

pub keeps_twice : (key one two : SlotKey) (pass pass1 pass2 : Pass) → Continues key pass one pass1 → Continues one pass1 two pass2 → Continues key pass two pass2
keeps_twice key one two pass pass1 pass2 first second =
    record { on = onward_twice key one two pass pass1 pass2 first.on second.on; batch = second.batch ∙ first.batch; seen = let a = first.seen in let b = second.seen in omega (arith, a, b) }

pub keeps_book : (key key' : SlotKey) (pass pass' : Pass) → Continues key pass key' pass' → IsKeyOfBook key pass → IsKeyOfBook key' pass'
keeps_book key key' pass pass' keeps book = keeps.on.its.0 ∙ book ∙ sym keeps.on.same.0

-- the entry of an event is the same with a pass as it was before
pub same_telling : (pass pass' : Pass) → IsSamePass pass pass' → (event : Event) (kepts : List ℕ) → deed_with_words pass' event kepts ≡ deed_with_words pass event kepts
same_telling pass pass' same event kepts =
    ap (λ (p : ℕ). record { pass = p; size = pass'.size; event = event; life = 0; kepts = kepts }) same.1
    ∙ ap (λ (k : ℕ). record { pass = pass.id; size = k; event = event; life = 0; kepts = kepts }) same.2

pub same_private : (pass pass' : Pass) → IsSamePass pass pass' → (event : Event) → private pass' event ≡ private pass event
same_private pass pass' same event = same_telling pass pass' same event []

pub looked_same : (pass pass' : Pass) → LooksOn pass pass' → events_by pass' ≡ events_by pass
looked_same pass pass' looks = ap events_in looks.none_made
