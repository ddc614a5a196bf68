-- What a pass knows of a slot that learned what the slot had seen, and what the slot's parts have to do with one another after a call.
use Rattle.std.proofs.Common.{◌≡◌, ℕ, ◌<◌, ◌≤◌, true, false, ◌&&◌, List, [], length, append-nil, not, is_some, Some, inl, inr, sym, ap, subst, ◌∙◌, arith}
use base.Growing.{prefix_refl, prefix_trans}
use mathlib.Core.List.{IsPrefix}
use Rattle.seize_machine.proofs.Facts.{Step, next_of}
use Rattle.seize_machine.specs.Machine.Event.{Enter}
use Rattle.seize_machine.specs.Machine.Next.{next, set_head}
use Rattle.seize_machine.specs.Machine.State.{State, are_distinct, head_at, is_active, is_idle, linked_values}
use Rattle.seize_machine.specs.Machine.State.{Slot as Record}
use Rattle.seize_machine.specs.Machine.State.{Active as Entered}
use Rattle.seize_machine.specs.declared.machine.event.Answer.{Answer}
use Rattle.seize_machine.specs.declared.machine.event.Answer.TheVariants.{Done}
use Rattle.seize_store.specs.Named.{AreOfStore}
use Rattle.seize_table.specs.Place.{all_numbers}
use Rattle.seize_book.specs.Book.{IsLegalList, after}
use Rattle.seize_book.specs.Books.{Learns}
use Rattle.seize_book.specs.Entry.{Deed, Entry}
use Rattle.seize_book.specs.Kept.{AreTold, AreToldIn}
use Rattle.seize_book.specs.Ledger.{HeldKey}
use Rattle.seize_book.specs.Others.{MayTakeNumber, first_false, use_flags}
use Rattle.seize_book.specs.Passes.{Longer, LooksOn}
use Rattle.seize_book.specs.Laws.{life}
use Rattle.seize_book.specs.Slots.{AddsDeed, LooksWithSlotKey, Moves, active_of, life_of, own_list, slot_number, slot_of, start_of}
use Rattle.seize_book.specs.Private.{labels_of}
use Rattle.seize_book.specs.Tokens.{Name, start}
use Rattle.seize_book.specs.Values.{IsEmpty}
use Rattle.seize_book.specs.declared.book.numbers_key.NumbersKey.{NumbersKey}
use Rattle.seize_book.specs.declared.book.pass.Pass.{Pass}
use Rattle.seize_book.specs.declared.book.slot_key.SlotKey.{SlotKey}
use Rattle.seize_book.specs.declared.book.seen.Seen.{Seen}
use Rattle.seize_book.specs.declared.book.value_keys.ValueKeys.{ValueKeys}
use Rattle.seize_words.specs.Joined.{IsHolder, IsInAt}
use Rattle.seize_words.specs.Reservations.{IsActivationOf, IsLastOf, beginning}
use Rattle.seize_words.specs.Walks.{Knows}
use Rattle.seize_words.specs.declared.activation.Activation.{Activation}
use Rattle.seize_words.specs.declared.words.Words.{Words}
use Rattle.seize_book.proofs.Facts.{same_twice}
use Rattle.seize_words.proofs.Facts.{all_told_later, knows_noted, may_take_by, more_slots, moved, seen_grows}
use Rattle.seize_calls.specs.Batches.{keys_in}
use Rattle.seize_calls.specs.Calls.{HasBegun, Rests}
use Rattle.seize_calls.specs.Settling.{HasBatch}
use Rattle.seize_calls.specs.Slots.{CallsWith, HasActivation, IsInUse, IsInactive, IsOfList, IsOfWords, IsPassOf, KeepsActivation, Prepares}
use Rattle.seize_calls.specs.Together.{BelongTogether, IsHolderFor, what_saw}
use Rattle.seize_calls.specs.declared.batch.Batch.{Batch}
use Rattle.seize_calls.specs.declared.holder.Holder.{Holder}
use Rattle.seize_calls.specs.declared.slot.Slot.{Slot}

pub longer_right : (a b c : List Entry) → Longer a b c → IsPrefix b c
longer_right a b c (inl t) = subst (IsPrefix b) (sym t.1) (prefix_refl b)
longer_right a b c (inr t) = subst (IsPrefix b) (sym t.1) t.0

pub longer_left : (a b c : List Entry) → Longer a b c → IsPrefix a c
longer_left a b c (inl t) = subst (IsPrefix a) (sym t.1) t.0
longer_left a b c (inr t) = subst (IsPrefix a) (sym t.1) (prefix_refl a)

-- what has begun has begun for each pass that has seen no less
pub begun_later : (a : Activation) (pass pass' : Pass) → pass'.name ≡ pass.name → IsPrefix pass.seen pass'.seen → HasBegun a pass → HasBegun a pass'
begun_later a pass pass' same grows begun = record {
  book = begun.book ∙ sym same;
  active = begun.active;
  its = begun.its;
  known = prefix_trans a.since pass.seen pass'.seen begun.known grows;
}

-- there are no fewer slots in a longer list
slots_of : (n m : Name) (seen seen' : List Entry) → m ≡ n → IsPrefix seen seen' → IsLegalList (start m) seen' → length (after (start n) seen).slots ≤ length (after (start m) seen').slots
slots_of n m seen seen' same grows legal =
    subst (λ (z : Name). length (after (start z) seen).slots ≤ length (after (start m) seen').slots) same (more_slots m seen seen' grows legal)

-- a slot is idle after a call, as it was before
pub idle_after : {key : SlotKey} {pass : Pass} {key' : SlotKey} {pass' : Pass} {values' : ValueKeys} → Rests key pass key' pass' values' → (slot_of key).used ≡ true → is_idle (slot_of key') ≡ true
idle_after rests used = λ j. (rests.used ∙ used) j && not (is_some (rests.call j))

pub used_in : (slot : Record) → is_idle slot ≡ true → slot.used ≡ true
used_in slot idle = grind arith

knows_as : (key : SlotKey) (pass : Pass) (seen : Seen) → seen.name ≡ pass.name → seen.seen ≡ pass.seen → Knows key pass → Knows key (what_saw seen)
knows_as key pass seen name saw knows = record {
  seen = subst (IsPrefix (own_list key)) (sym saw) knows.seen;
  legal = subst (λ (t : Name × List Entry). IsLegalList (start t.0) t.1) (λ j. (sym name j, sym saw j)) knows.legal;
  distinct = ap (λ (n : Name). are_distinct (linked_values n.links)) name ∙ knows.distinct;
}

-- a pass that has seen what the slot had
pub record Ready (seen : Seen) (p : Pass) : Type 0 where
  pub named : seen.name ≡ p.name
  pub grows : IsPrefix seen.seen p.seen
  pub legal : IsLegalList (start p.name) p.seen

pub ready_learned : (seen : Seen) (pass p : Pass) → seen.name ≡ pass.name → Learns pass seen p → Ready seen p
ready_learned seen pass p book learns = record {
  named = book ∙ sym learns.0.0;
  grows = longer_right pass.seen seen.seen p.seen learns.2;
  legal = subst (λ (n : Name). IsLegalList (start n) p.seen) (sym learns.0.0) learns.4;
}

pub ready_looked : (seen : Seen) (p q : Pass) → Ready seen p → LooksOn p q → Ready seen q
ready_looked seen p q ready looks = record {
  named = ready.named ∙ sym looks.same.0;
  grows = prefix_trans seen.seen p.seen q.seen ready.grows looks.grows;
  legal = subst (λ (n : Name). IsLegalList (start n) q.seen) (sym looks.same.0) looks.legal;
}

module _ {T : Type 0} (s : Slot T) (p : Pass) (ready : Ready s.seen p) where
  pub holder : IsHolder s.holder.key p s.number
  holder =
      let there = s.together.there in let more = slots_of s.seen.name p.name s.seen.seen p.seen (sym ready.named) ready.grows ready.legal in
      (s.together.book ∙ ready.named, s.together.numbered, omega (arith, there, more))

-- so the slot's holder may make calls with the pass
pub holds_ready : {T : Type 0} (words : Words T) (s : Slot T) (pass p : Pass) → IsOfWords words s → IsPassOf words pass → Learns pass s.seen p → IsHolderFor words s.holder p
holds_ready words s pass p of for learns =
    let ready = ready_learned s.seen pass p (of.book ∙ for.0) learns in
    record {
      keyed = record {
        of = (for.0 ∙ sym learns.0.0, for.1 ∙ sym learns.0.2);
        its = (holder s p ready).0;
        knows = record {
          seen = prefix_trans (own_list s.holder.key) s.seen.seen p.seen of.knows.seen ready.grows;
          legal = ready.legal;
          distinct = ap (λ (n : Name). are_distinct (linked_values n.links)) (sym ready.named) ∙ of.knows.distinct;
        };
      };
      batch = (s.together.batch_is.0 ∙ ready.named, s.together.batch_is.1, all_told_later s.seen.seen p.seen (keys_in s.holder.batch).keys.held ready.grows of.told);
      spots = subst (λ (n : Name). AreOfStore s.holder.spots n.store) of.book s.together.spots_in;
    }

-- what the slot's holder has after a call, which leaves no call under way
pub record IsAfter {T : Type 0} (s : Slot T) (p : Pass) (holder' : Holder T) (pass' : Pass) : Type 0 where
  pub name : pass'.name ≡ p.name
  pub grows : IsPrefix p.seen pass'.seen
  pub its : (holder'.key.keys.name ≡ s.holder.key.keys.name) × (slot_number holder'.key ≡ slot_number s.holder.key)
  pub knows : Knows holder'.key pass'
  pub batch : HasBatch holder'.key pass' (keys_in holder'.batch)
  pub spots : AreOfStore holder'.spots s.seen.name.store

module _ {T : Type 0} (s : Slot T) (p : Pass) (ready : Ready s.seen p) (holder' : Holder T) (pass' : Pass) (is : IsAfter s p holder' pass') where
  pub together : (seen' : Seen) → seen'.name ≡ s.seen.name → seen'.seen ≡ pass'.seen → BelongTogether s.number holder' seen'
  together seen' same saw =
      let there = (holder s p ready).2 in let more = slots_of p.name pass'.name p.seen pass'.seen is.name is.grows is.knows.legal in let named : seen'.name ≡ pass'.name = same ∙ ready.named ∙ sym is.name in
      record {
        book = is.its.0 ∙ s.together.book ∙ sym same;
        numbered = is.its.1 ∙ s.together.numbered;
        there = subst (λ (t : Name × List Entry). s.number < length (after (start t.0) t.1).slots) (λ j. (sym named j, sym saw j)) (omega (arith, there, more));
        batch_is = (is.batch.0 ∙ sym named, is.batch.1);
        spots_in = subst (λ (n : Name). AreOfStore holder'.spots n.store) (sym same) is.spots;
      }

  module _ (slot' : Slot T) (its : slot'.holder ≡ holder') (same : slot'.seen.name ≡ s.seen.name) (saw : slot'.seen.seen ≡ pass'.seen) where
    pub of_list : (n : Name) → IsOfList n s → IsOfList n slot'
    of_list n of = record {
      book = same ∙ of.book;
      knows = subst (λ (h : Holder T). Knows h.key (what_saw slot'.seen)) (sym its) (knows_as holder'.key pass' slot'.seen (same ∙ ready.named ∙ sym is.name) saw is.knows);
      told = subst (λ (t : Holder T × List Entry). AreTold (keys_in t.0.batch) (record (what_saw slot'.seen) { seen = t.1 })) (λ j. (sym its j, sym saw j)) is.batch.2;
    }

    -- where it keeps the slot active, and its last activation, it keeps the slot in it
    pub keeps_in : slot'.number ≡ s.number → active_of holder'.key ≡ active_of s.holder.key → life_of holder'.key ≡ life_of s.holder.key → KeepsActivation s slot'
    keeps_in number active life_ a in_it = record {
      active = ap (λ (h : Holder T). active_of h.key) its ∙ active ∙ in_it.active;
      its = (
        in_it.its.0 ∙ s.together.book ∙ sym same ∙ sym slot'.together.book,
        in_it.its.1 ∙ s.together.numbered ∙ sym number ∙ sym slot'.together.numbered,
        in_it.its.2 ∙ sym life_ ∙ sym (ap (λ (h : Holder T). life_of h.key) its),
      );
      begun = begun_later a (what_saw s.seen) (what_saw slot'.seen) same (subst (IsPrefix s.seen.seen) (sym saw) (prefix_trans s.seen.seen p.seen pass'.seen ready.grows is.grows)) in_it.begun;
    }

pub after_call : {T : Type 0} (words : Words T) (s : Slot T) (p : Pass) (holder' : Holder T) (pass' : Pass) → IsOfWords words s → Rests s.holder.key p holder'.key pass' (keys_in holder'.batch) → IsHolderFor words holder' pass' → IsAfter s p holder' pass'
after_call words s p holder' pass' of rests is = record {
  name = rests.same.0;
  grows = rests.grows;
  its = rests.its;
  knows = is.keyed.knows;
  batch = is.batch;
  spots = subst (λ (n : Name). AreOfStore holder'.spots n.store) (sym of.book) is.spots;
}

-- Entering leaves the slot's record.
pub entered_so : (key key' : SlotKey) (log : List Entry) (pass : Pass) (its : ℕ) (later : State) (answer : Answer) → Moves key key' log (beginning pass its (Enter (slot_number key))) later answer → is_idle (slot_of key) ≡ true → active_of key ≡ false → slot_of key' ≡ slot_of key
entered_so key key' log pass its later answer moves idle off =
    let s = slot_number key in let st = after (start_of key) log in let d : State × Answer = (set_head st s (Entered []), Done) in
    let is : next pass.size st (Enter s) ≡ Some d = next_of pass.size st (Enter s) d (Step.entered s (ap is_idle moves.was ∙ idle) (moves.was_active ∙ off)) in
    moved key key' log (beginning pass its (Enter s)) later answer moves d is ∙ moves.was

-- A batch that stays is the slot's; and so is one of no values, where the slot has none.

pub same_batch : {T : Type 0} (s : Slot T) (p : Pass) → Ready s.seen p → AreTold (keys_in s.holder.batch) (what_saw s.seen) → (key' : SlotKey) (pass' : Pass) → pass'.name ≡ p.name → IsPrefix p.seen pass'.seen
    → (slot_of key').batch ≡ (slot_of s.holder.key).batch → HasBatch key' pass' (keys_in s.holder.batch)
same_batch s p ready told key' pass' name grows batch = (
  s.together.batch_is.0 ∙ ready.named ∙ sym name,
  s.together.batch_is.1 ∙ sym batch,
  all_told_later s.seen.seen pass'.seen (keys_in s.holder.batch).keys.held (prefix_trans s.seen.seen p.seen pass'.seen ready.grows grows) told,
)

pub no_batch : (key' : SlotKey) (pass' : Pass) (values : ValueKeys) → IsEmpty values pass' → (slot_of key').batch ≡ [] → HasBatch key' pass' values
no_batch key' pass' values empty none =
    (empty.0, ap labels_of empty.1 ∙ sym none, subst (λ (held : List (HeldKey Entry)). AreToldIn pass'.seen held) (sym empty.1) tt)

-- After an event of the slot by itself, with the batch that it has then, and after a look at the list.
module _ {T : Type 0} (s : Slot T) (p : Pass) (ready : Ready s.seen p) (key' : SlotKey) (pass' : Pass) where
  abbrev with_batch : Batch → Holder T
  with_batch batch' = record { key = key'; batch = batch'; spots = s.holder.spots }

  is_after : (batch' : Batch) → HasBatch key' pass' (keys_in batch') → pass'.name ≡ p.name → IsPrefix p.seen pass'.seen → (key'.keys.name ≡ s.holder.key.keys.name) × (slot_number key' ≡ slot_number s.holder.key) → Knows key' pass'
      → IsAfter s p (with_batch batch') pass'
  is_after batch' has name grows its knows = record { name = name; grows = grows; its = its; knows = knows; batch = has; spots = s.together.spots_in }

  pub after_event : (batch' : Batch) → HasBatch key' pass' (keys_in batch') → (d : Deed) → AddsDeed s.holder.key p key' pass' d → IsAfter s p (with_batch batch') pass'
  after_event batch' has d notes = is_after batch' has notes.0.0 (seen_grows p.name p.id p.seen pass'.seen _ notes.2.0) (notes.1.0, notes.1.1) (knows_noted s.holder.key key' p pass' d notes)

  module _ (told : AreTold (keys_in s.holder.batch) (what_saw s.seen)) (same : slot_of key' ≡ slot_of s.holder.key) where
    pub still_event : (d : Deed) → AddsDeed s.holder.key p key' pass' d → IsAfter s p (with_batch s.holder.batch) pass'
    still_event d notes =
        after_event s.holder.batch
        (same_batch s p ready told key' pass' notes.0.0 (seen_grows p.name p.id p.seen pass'.seen _ notes.2.0) (ap (λ (z : Record). z.batch) same)) d notes

    pub still_look : LooksWithSlotKey s.holder.key p key' pass' → IsAfter s p (with_batch s.holder.batch) pass'
    still_look looks =
        is_after s.holder.batch (same_batch s p ready told key' pass' looks.on.same.0 looks.on.grows (ap (λ (z : Record). z.batch) same)) looks.on.same.0 looks.on.grows (looks.seen_by.0, looks.seen_by.1)
        (record { seen = ([], append-nil (own_list key') ∙ looks.seen_by.2); legal = subst (λ (n : Name). IsLegalList (start n) pass'.seen) (sym looks.on.same.0) looks.on.legal; distinct = ap (λ (n : Name). are_distinct (linked_values n.links)) looks.on.same.0 ∙ looks.on.distinct })

-- entering leaves the slot's record
pub stays_entered : {T : Type 0} (s : Slot T) (p : Pass) (key' : SlotKey) (pass' : Pass) (a : Activation) → AddsDeed s.holder.key p key' pass' (beginning p a.life (Enter (slot_number s.holder.key))) → IsInUse s → IsInactive s → slot_of key' ≡ slot_of s.holder.key
stays_entered s p key' pass' a notes used off =
    let n = notes.2.0 in
    entered_so s.holder.key key' n.before p a.life n.later n.answer notes.2.1 used off

-- the pass is ready when it has learned of the slot, and when it has looked at the list then
module _ {T : Type 0} (slot : Slot T) (pass p : Pass) (book : slot.seen.name ≡ pass.name) (learns : Learns pass slot.seen p) where
  pub learned : Prepares slot pass p
  learned = record {
    same = learns.0;
    none_made = learns.1;
    grows = (longer_left pass.seen slot.seen.seen p.seen learns.2, longer_right pass.seen slot.seen.seen p.seen learns.2);
    alone = learns.3;
    legal = (ready_learned slot.seen pass p book learns).legal;
  }

  pub looked : (q : Pass) → LooksOn p q → Prepares slot pass q
  looked q looks = record {
    same = same_twice pass p q learns.0 looks.same;
    none_made = looks.none_made ∙ learns.1;
    grows = (prefix_trans pass.seen p.seen q.seen learned.grows.0 looks.grows, prefix_trans slot.seen.seen p.seen q.seen learned.grows.1 looks.grows);
    alone = λ sole. looks.alone (learns.0.1 ∙ sole) ∙ learns.3 sole;
    legal = (ready_looked slot.seen p q (ready_learned slot.seen pass p book learns) looks).legal;
  }

-- then it has seen what the slot's key knew
pub knew_ready : {T : Type 0} (slot : Slot T) (pass ready : Pass) → Prepares slot pass ready → Knows slot.holder.key (what_saw slot.seen) → IsPrefix (own_list slot.holder.key) ready.seen
knew_ready slot pass ready prepares knows = prefix_trans (own_list slot.holder.key) slot.seen.seen ready.seen knows.seen prepares.grows.1

-- so a call was made with it
pub calls_with : {T : Type 0} (slot : Slot T) (n : Name) (pass p : Pass) → IsOfList n slot → n ≡ pass.name → Learns pass slot.seen p → (slot' : Slot T) (pass' one : Pass) → slot'.number ≡ slot.number
    → (slot'.seen.name ≡ slot.seen.name) × (slot'.seen.seen ≡ one.seen) × (pass' ≡ one) → (Does : Pass → Pass → Type 0) → Does p one → CallsWith slot pass slot' pass' (λ q. Does q pass')
calls_with slot n pass p of named learns slot' pass' one number seen Does does =
    let prepares = learned slot pass p (of.book ∙ named) learns in
    record { same = (number, seen.0); ready = p; prepares = prepares; knew = knew_ready slot pass p prepares of.knows; does = subst (Does p) (sym seen.2) does; seen = seen.1 ∙ sym (ap (λ (q : Pass). q.seen) seen.2) }

-- An activation that has begun may step on each link.
pub begun_at : (a : Activation) (pass : Pass) (l : ℕ) → HasBegun a pass → l < length pass.name.links → IsInAt a pass l
begun_at a pass l begun is = (
  begun.book,
  record {
    active = subst (λ (n : Name). is_active (head_at (after (start n) a.since) a.slot) ≡ true) begun.book begun.active;
    its = begun.its;
    known = begun.known;
    is_link = is;
  },
)

-- the slot's last activation, as calls ask for it
pub last_of : {T : Type 0} (slot : Slot T) (a : Activation) → HasActivation slot a → IsLastOf slot.holder.key a
last_of slot a has = ((has.0.its.0, has.0.its.1, has.1), has.0.its.2)

-- an activation has begun with what the slot's key knows
pub begins_in : {T : Type 0} (slot' : Slot T) (a : Activation) → IsActivationOf slot'.holder.key a → own_list slot'.holder.key ≡ slot'.seen.seen → HasActivation slot' a
begins_in slot' a is own = let of_slot = is.of_slot in (
  record {
    active = (λ i. is_active (head_at (after (start (sym of_slot.0 i)) (sym is.since i)) (sym of_slot.1 i))) ∙ is.active;
    its = (of_slot.0, of_slot.1, sym is.its ∙ (λ i. life (of_slot.1 i) (is.since i)));
    begun = record {
      book = of_slot.0 ∙ slot'.together.book;
      active = is.active;
      its = is.its;
      known = subst (λ (log : List Entry). IsPrefix log slot'.seen.seen) (sym (is.since ∙ own)) (prefix_refl slot'.seen.seen);
    };
  },
  of_slot.2,
)

-- after a refresh it is in its new activation
pub inside_after : {T : Type 0} (slot' : Slot T) (a : Activation) (pass' : Pass) → active_of slot'.holder.key ≡ true → IsLastOf slot'.holder.key a × HasBegun a pass' → slot'.seen.seen ≡ pass'.seen → HasActivation slot' a
inside_after slot' a pass' active is saw = let of = is.0.0 in let begun = is.1 in (
  record {
    active = active;
    its = (of.0, of.1, is.0.1);
    begun = record { book = of.0 ∙ slot'.together.book; active = begun.active; its = begun.its; known = subst (IsPrefix a.since) (sym saw) begun.known };
  },
  of.2,
)

-- which numbers a slot may take again, by which are in use
pub may_take_slot : {T : Type 0} (numbers : NumbersKey) (slot : Slot T) → slot.number ≡ first_false (use_flags numbers) → slot.number < length (use_flags numbers) → slot.number < all_numbers
    → MayTakeNumber numbers slot.holder.key
may_take_slot numbers slot least below few =
    let its = slot.together.numbered in may_take_by numbers slot.holder.key (its ∙ least) (subst (λ (k : ℕ). k < length (use_flags numbers)) (sym its) below) (subst (λ (k : ℕ). k < all_numbers) (sym its) few)
