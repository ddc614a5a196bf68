-- A number is taken, of a collector in one caller's hands, and what was left is attempted where it is enough: what the hands hold then.
--     Takes                  what is so then: which number it is, the pass, the hands, and what the watch was told
--     key_seen, begun_so     the slot's record is as its key knows it;  whether a call has begun is whether what was left is a full batch
--     takes                  so it is
use Rattle.std.proofs.Common.{◌≡◌, ℕ, ◌==◌, Bool, true, false, List, [], length, is_some, refl, sym, ap, subst, ◌∙◌}
use base.Growing.{prefix_trans}
use base.Stored.{Coded}
use mathlib.Core.List.{IsPrefix}
use Rattle.seize_table.specs.Place.{all_numbers}
use Rattle.seize_machine.specs.Machine.Event.{Take}
use Rattle.seize_machine.specs.Machine.State.{Slot as Record, are_distinct, linked_values, slot_at}
use Rattle.seize_machine.specs.declared.machine.event.Answer.{Answer}
use Rattle.seize_model.specs.declared.kind.Kind.{Kind}
use Rattle.seize_model.specs.Waiting.Attempt.{StateAndGone, is_full}
use Rattle.seize_model.specs.Waiting.Calls.{is_free, least_unused, taking}
use Rattle.seize_model.specs.Waiting.Further.{Lighter}
use Rattle.seize_model.specs.Waiting.State.{ModelState}
use Rattle.seize_book.proofs.Facts.{same_twice}
use Rattle.seize_book.specs.Book.{after}
use Rattle.seize_book.specs.Entry.{Entry}
use Rattle.seize_book.specs.Homesteads.{state_seen}
use Rattle.seize_book.specs.Passes.{IsSamePass}
use Rattle.seize_book.specs.Slots.{slot_number, slot_of}
use Rattle.seize_book.specs.Tokens.{Name, start}
use Rattle.seize_book.specs.declared.book.pass.Pass.{Pass}
use Rattle.seize_words.specs.declared.words.Words.{Words}
use Rattle.seize_calls.specs.Handing.{Had}
use Rattle.seize_calls.specs.Slots.{IsOfWords, IsPassOf, IsSlotOf, SlotResumes, its_number}
use Rattle.seize_calls.specs.declared.slot.Slot.{Slot}
use Rattle.seize_alone.specs.Calls.{CallsAlone}
use Rattle.seize_alone.specs.Events.{MakesAlone}
use Rattle.seize_alone.specs.Gone.{PutAs}
use Rattle.seize_alone.proofs.Ready.{taking_short}
use Rattle.seize_alone.proofs.Singles.{takes_held}
use Rattle.seize_alone.proofs.Slots.{slot_taking}
use Rattle.seize_parts.specs.Numbers.{HasTaken}
use Rattle.seize_parts.specs.Told.{HasTold}
use Rattle.seize_parts.proofs.Called.{legal_then}
use Rattle.seize_parts.proofs.Placed.{still_for}
use Rattle.seize_parts.proofs.Resumed.{begun_held}
use Rattle.seize_parts.proofs.Swept.{idle_call}
use Rattle.seize.specs.Alones.{ShowsHands}
use Rattle.seize.specs.declared.alone.hands.Hands.{Hands}
use Rattle.seize.proofs.Lone.{made_grows}
use Rattle.seize.proofs.Reclaimed.{Turned, turned}

pub record Takes {T Seen : Type 0} (c : Coded T) (puts : ℕ → T → List T) (weight : T → ℕ) (told : Seen → T → Seen) (st : ModelState T ℕ) (kind : Kind) (n : ℕ) (pass pass' : Pass) (seen seen' : Seen) : Type 0 where
  pub least : n ≡ least_unused st.slots
  pub few : (n == all_numbers) ≡ false
  pub same : IsSamePass pass pass'
  pub grows : IsPrefix pass.seen pass'.seen
  pub now : Turned c told (taking puts weight st n kind) pass' seen seen'

module _ {T Seen : Type 0} (c : Coded T) (puts : ℕ → T → List T) (weight : T → ℕ) (lighter : Lighter puts weight) (told : Seen → T → Seen) {words : Words T} {hands : Hands T} {pass : Pass} (k : ShowsHands c.code words hands pass) (kind : Kind) (used : is_free kind ≡ false)
    (slot1 slot2 : Slot T) (p1 p2 : Pass) (seen seen' : Seen) where
  abbrev st : ModelState T ℕ
  st = hands.state

  abbrev n : ℕ
  n = its_number slot1

  abbrev Resumed : Type 0
  Resumed = (had : Had) × SlotResumes slot1 p1 [] slot2 p2 had × PutAs c.code puts had × HasTold c.code told seen seen' had

  module _ (begun : Bool) (taken : HasTaken words pass p1 slot1 begun) (its : IsOfWords words slot1) where
    made : (answer : Answer) × MakesAlone pass p1 (Take n) answer
    made = taken.alone k.sole

    for1 : IsPassOf words p1
    for1 = still_for words pass p1 k.for made.1.same

    key_seen : slot_at (state_seen p1) n ≡ slot_of slot1.holder.key
    key_seen =
        let book : slot1.holder.key.keys.name ≡ p1.name = slot1.together.book ∙ its.book ∙ for1.0 in
        (λ j. slot_at (after (start (sym book j)) (sym taken.sees j)) (sym slot1.together.numbered j))

    begun_so : is_full st.size st.rest ≡ is_some (slot_of slot1.holder.key).call
    begun_so = sym (begun_held c n pass p1 made.0 made.1 (k.size, k.distinct) k.holds) ∙ ap (λ (x : Record). is_some x.call) key_seen

  -- no call has begun
  short_takes : HasTaken words pass p1 slot1 false → Takes c puts weight told st kind n pass p1 seen seen
  short_takes taken =
      let makes = (made false taken taken.its.0).1 in
      let short : is_full st.size st.rest ≡ false = begun_so false taken taken.its.0 ∙ ap is_some (idle_call (slot_of slot1.holder.key) taken.its.1) in
      let took = takes_held c st hands.names hands.kinds n kind _ pass p1 makes k.holds used k.size short in
      record {
        least = took.0;
        few = took.1;
        same = makes.same;
        grows = made_grows makes;
        now = subst (λ (o : StateAndGone T ℕ). Turned c told o p1 seen seen) (sym (taking_short st n kind took.0 puts weight short)) (record { names = hands.names; kinds = hands.kinds; holds = took.2; hears = refl });
      }

  -- a call has begun, and went on
  full_takes : HasTaken words pass p1 slot1 true → IsOfWords words slot2 → Resumed → Takes c puts weight told st kind n pass p2 seen seen'
  full_takes taken of2 r =
      let makes = (made true taken taken.its.0).1 in let resumed = r.1 in let took = taken.took refl in let before = took.0 in
      let number : slot_number before.holder.key ≡ n = before.together.numbered ∙ took.2 in
      let full : is_full st.size st.rest ≡ true = begun_so true taken taken.its.0 ∙ ap is_some taken.its.1.1.0.marking in
      let same : IsSamePass pass p2 = same_twice pass p1 p2 makes.same (same_twice p1 resumed.ready p2 resumed.prepares.same resumed.does.rests.same) in
      let alone : CallsAlone c puts st hands.names hands.kinds pass p2 r.0 = record {
        sole = k.sole;
        legal = legal_then words slot1 slot2 p1 p2 _ resumed of2 (for1 true taken taken.its.0) resumed.does.rests.same;
        distinct = ap (λ (m : Name). are_distinct (linked_values m.links)) same.0 ∙ k.distinct;
        size = k.size;
        holds = k.holds;
        put = r.2;
      } in
      let gone = slot_taking c st hands.names hands.kinds before slot1 slot2 pass p1 p2 puts weight lighter r.0 alone kind took.3 resumed used full in
      record {
        least = sym number ∙ gone.0;
        few = ap (λ (t : ℕ). t == all_numbers) (sym number) ∙ gone.1;
        same = same;
        grows = prefix_trans pass.seen p1.seen p2.seen (made_grows makes) (prefix_trans p1.seen resumed.ready.seen p2.seen resumed.prepares.grows.0 resumed.does.rests.grows);
        now = subst (λ (t : ℕ). Turned c told (taking puts weight st t kind) p2 seen seen') number (turned c told (taking puts weight st (slot_number before.holder.key) kind) p2 seen seen' r.0 gone.2 r.3);
      }

  so_takes : (begun : Bool) → HasTaken words pass p1 slot1 begun → IsSlotOf words slot2 → (begun ≡ true → Resumed) → (begun ≡ false → (slot2 ≡ slot1) × (p2 ≡ p1) × (seen' ≡ seen)) → Takes c puts weight told st kind n pass p2 seen seen' × (its_number slot2 ≡ n)
  so_takes true taken of2 went none = (full_takes taken of2.0 (went refl), (went refl).1.same.0)
  so_takes false taken of2 went none =
      let is = none refl in (subst (λ (t : Pass × Seen). Takes c puts weight told st kind n pass t.0 seen t.1) (λ j. (sym is.1 j, sym is.2 j)) (short_takes taken), ap (λ (slot : Slot T). its_number slot) is.0)

  pub takes : (begun : Bool) (m : ℕ) → HasTaken words pass p1 slot1 begun → IsSlotOf words slot2 → m ≡ its_number slot2 → (begun ≡ true → Resumed) → (begun ≡ false → (slot2 ≡ slot1) × (p2 ≡ p1) × (seen' ≡ seen)) → Takes c puts weight told st kind m pass p2 seen seen'
  takes begun m taken of2 number went none =
      let done = so_takes begun taken of2 went none in subst (λ (t : ℕ). Takes c puts weight told st kind t pass p2 seen seen') (sym (number ∙ done.1)) done.0
