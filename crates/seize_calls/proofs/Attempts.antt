-- What a call knows that marks, detaches its batch, inserts it and adds.
use Rattle.std.proofs.Common.{◌≡◌, ℕ, zero, suc, ◌+◌, ◌<◌, ◌≤◌, ◌==◌, ◌||◌, Bool, true, false, not, if◌then◌else◌, List, [], ◌∷◌, ◌++◌, length, take, get_or, Option, Some, refl, sym, ap, subst, ◌∙◌, unwrap_or, arith}
use Rattle.std.specs.List.{Contains}
use Rattle.std.specs.Prelude.{slice_index_or}
use Rattle.std.proofs.lemmas.List.{get_or-set_same, length_push}
use Rattle.seize_machine.specs.Machine.State.{Add, Progress, Head, Inactive, Mark, Rest, Slot, State, are_distinct, has, is_active, no_slot, slot_at}
use Rattle.seize_machine.specs.Machine.Event.{AddCount, Detach, Event}
use Rattle.seize_machine.specs.Machine.History.{first_or_none}
use Rattle.seize_machine.specs.Machine.Laws.{detached_by}
use Rattle.seize_machine.specs.Machine.Next.{detached_on, look, of_call}
use Rattle.seize_machine.specs.declared.machine.event.Answer.{Answer}
use Rattle.seize_machine.specs.declared.machine.event.Answer.TheVariants.{Count as Counted, Done}
use Rattle.seize_machine.proofs.Facts.{Step, and_true, eq_true, marking_full, marks_tidy, not_true, some_is, step_of}
use Rattle.seize_book.specs.Adding.{private}
use Rattle.seize_book.specs.Batches.{Detaches}
use Rattle.seize_book.specs.Blocks.{Plan, block_number, marked_at, no_plan, plan_value, plans}
use Rattle.seize_book.specs.Book.{after}
use Rattle.seize_words.specs.Chunks.{IsHeaderOf}
use Rattle.seize_words.specs.Counts.{Counts, GivesUp, LeavesKeys, MayCountUp, values_in}
use Rattle.seize_book.specs.Entry.{Deed, Entry as Logged}
use Rattle.seize_words.specs.Headers.{IsFrontBlock}
use Rattle.seize_book.specs.Homesteads.{HasNumber, state_seen}
use Rattle.seize_book.specs.Ledger.{HeldKey}
use Rattle.seize_book.specs.Private.{labels_of}
use Rattle.seize_book.specs.Passes.{IsSamePass, LooksOn, events_by}
use Rattle.seize_book.specs.Slots.{active_of, AddsEvent, IsKeyOfBook, own_list, slot_number, slot_of, start_of}
use Rattle.seize_book.specs.Tokens.{Name, start}
use Rattle.seize_words.specs.Totals.{slots_seen}
use Rattle.seize_words.specs.Walks.{Knows}
use Rattle.seize_book.specs.Values.{values_of}
use Rattle.seize_book.specs.declared.book.pass.Pass.{Pass}
use Rattle.seize_book.specs.declared.book.slot_key.SlotKey.{SlotKey}
use Rattle.seize_book.specs.declared.book.value_keys.ValueKeys.{ValueKeys}
use Rattle.seize_words.specs.declared.chunk.Header.{Header}
use Rattle.seize_book.proofs.Facts.{equal}
use Rattle.seize_words.proofs.Facts.{alike_told, all_told_later, detached_named, events_grew, knows_still, more_slots, own_reached, seen_grows}
use Rattle.seize_calls.proofs.Alone.{onward_event, onward_looked, onward_twice}
use Rattle.seize_calls.specs.Alone.{Onward}
use Rattle.seize_calls.specs.Attempts.{Retires}
use Rattle.seize_book.specs.Kept.{AreTold}
use Rattle.seize_calls.proofs.Batches.{remarked_kepts, remarked_labels}
use Rattle.seize_calls.specs.Batches.{AreRemarked, SlotMark, keys_in, marked_slots, slot_marks_in, slot_marks_of}
use Rattle.seize_calls.specs.Inserts.{ArePlanned, InsertsAtEach, IsInserting, all_insert_events, plan_in}
use Rattle.seize_calls.specs.Marks.{BeginsToMark, EndsMarks, actives, readings}
use Rattle.seize_calls.specs.Numbered.{starts_at}
use Rattle.seize_calls.specs.declared.batch.Batch.{Batch}
use Rattle.seize_calls.specs.declared.marking.MarkOutcome.TheVariants.{Ready, TooMany}
use Rattle.seize_calls.proofs.Keeps.{keeps_book, looked_same, same_private}
use Rattle.seize_calls.proofs.Marks.{within}
use Rattle.seize_calls.proofs.Tries.{front_same}
use Rattle.seize_calls.proofs.Turns.{same_turns}

-- The marks, and the blocks that stand for them.

abbrev pub AllBelow : ℕ → List ℕ → Type 0
AllBelow n [] = Unit {0}
AllBelow n (m ∷ ms) = (m < n) × AllBelow n ms

pub more_below : (n k : ℕ) (ms : List ℕ) → n ≤ k → AllBelow n ms → AllBelow k ms
more_below n k [] le all = tt
more_below n k (m ∷ ms) le all = (omega (arith, le, all.0), more_below n k ms le all.1)

pub actives_below : (n : ℕ) (finds : List Bool) → AllBelow (n + length finds) (actives n finds)
actives_below n [] = tt
actives_below n (true ∷ finds) = (omega arith, more_below (suc n + length finds) (n + suc (length finds)) (actives (suc n) finds) (omega arith) (actives_below (suc n) finds))
actives_below n (false ∷ finds) = more_below (suc n + length finds) (n + suc (length finds)) (actives (suc n) finds) (omega arith) (actives_below (suc n) finds)

abbrev Keys : Type 0
Keys = List (HeldKey Logged)

-- these are the blocks of the first of these values
abbrev pub AreFirst : List SlotMark → List ℕ → Type 0
AreFirst [] values = Unit {0}
AreFirst (mark ∷ marks) [] = ⊥
AreFirst (mark ∷ marks) (v ∷ values) = (mark.block ≡ block_number v) × AreFirst marks values

pub are_first : (held : Keys) (k : ℕ) → AreFirst (take k (slot_marks_of held)) (labels_of held)
are_first [] zero = tt
are_first [] (suc k) = tt
are_first (h ∷ held) zero = tt
are_first (h ∷ held) (suc k) = (refl, are_first held k)

both_false : (a b : Bool) → (a || b) ≡ false → (a ≡ false) × (b ≡ false)
both_false false b e = (refl, e)
both_false true b e = absurd (cc)

planned_later : (k v seen : ℕ) (slots values : List ℕ) (marks : List SlotMark) → has k (marked_slots marks) ≡ false → ArePlanned (record { slots = slots; values = values }) seen marks
    → ArePlanned (record { slots = k ∷ slots; values = v ∷ values }) seen marks
planned_later k v seen slots values [] none are = tt
planned_later k v seen slots values (mark ∷ marks) none are =
    let other = both_false (mark.slot == k) (has k (marked_slots marks)) none in
    let apart : (k == mark.slot) ≡ false = turned k mark.slot other.0 in
    ((are.0.0 ∙ ap (λ (b : Bool). block_number (if b then v else plan_value mark.slot slots values)) (sym apart), are.0.1), planned_later k v seen slots values marks other.1 are.1)
  where
    turned : (a b : ℕ) → (b == a) ≡ false → (a == b) ≡ false
    turned a b e = grind arith

pub planned_all : (marks : List SlotMark) (values : List ℕ) (seen : ℕ) → AreFirst marks values → are_distinct (marked_slots marks) ≡ true → AllBelow seen (marked_slots marks)
    → ArePlanned (record { slots = marked_slots marks; values = values }) seen marks
planned_all [] values seen are distinct below = tt
planned_all (mark ∷ marks) [] seen are distinct below = absurd are
planned_all (mark ∷ marks) (v ∷ values) seen are distinct below =
    let parts = and_true (not (has mark.slot (marked_slots marks))) (are_distinct (marked_slots marks)) distinct in (
      (are.0 ∙ ap (λ (b : Bool). block_number (if b then v else plan_value mark.slot (marked_slots marks) values)) (sym (equal mark.slot mark.slot refl)), below.0),
      planned_later mark.slot v seen (marked_slots marks) values marks (not_true _ parts.0) (planned_all marks values seen are.1 parts.1 below.1),
    )

-- the number of the batch's first block
pub first_block : (n : ℕ) (values : List ℕ) → starts_at n values ≡ true → 1 ≤ length values → (v : ℕ) × (first_or_none values ≡ Some v) × (n ≡ block_number v)
first_block n [] starts full = absurd (omega (arith, full))
first_block n (v ∷ values) starts full = (v, refl, eq_true n (block_number v) starts)

first_in : (values : List ℕ) (v : ℕ) → first_or_none values ≡ Some v → Contains values v
first_in [] v e = absurd (let none : Option.None ≡ Some v = e in cc)
first_in (x ∷ values) v e = (zero, omega arith, ap (λ (o : Option ℕ). unwrap_or o 0) e)

-- The machine detaches.

after_detach : (size : ℕ) (st : State) (s : ℕ) (d : State × Answer) (next note : ℕ) (marks queue : List ℕ) → Step size st (Detach s) d → (slot_at st s).call ≡ Some (record { place = Mark next note marks; queue = queue })
    → ((slot_at d.0 s).call ≡ Some (record { place = look (length st.batches) 0 marks; queue = queue })) × ((slot_at d.0 s).batch ≡ []) × ((slot_at d.0 s).used ≡ (slot_at st s).used) × (d.0.heads ≡ st.heads)
    × (length d.0.batches ≡ length st.batches + 1) × (d.1 ≡ Done)
after_detach size st _ _ next note marks queue (Step.detached s _ _ _ _ e le) is =
    let same = get_or-set_same st.slots s _ no_slot (within st s _ is) in (
      ap (λ (z : Slot). z.call) same ∙ ap (λ (c : Progress). Some (record { place = detached_on (length st.batches) c.place; queue = c.queue })) (some_is _ _ (sym e ∙ is)),
      ap (λ (z : Slot). z.batch) same,
      ap (λ (z : Slot). z.used) same,
      refl,
      length_push st.batches _,
      refl,
    )

abbrev answered : Deed → Answer → Deed × Answer
answered deed answer = (deed, answer)

-- And it adds.

after_add : (size : ℕ) (st : State) (s : ℕ) (d : State × Answer) → Step size st (AddCount s) d → ((slot_at d.0 s).batch ≡ (slot_at st s).batch) × ((slot_at d.0 s).used ≡ (slot_at st s).used) × (d.0.heads ≡ st.heads)
after_add size st _ d (Step.added s b won queue _ stands is) =
    let same = get_or-set_same st.slots s _ no_slot (within st s _ stands) in
    let eq = some_is _ _ is in (
      ap (λ (x : State × Answer). (slot_at x.0 s).batch) (sym eq) ∙ ap (λ (z : Slot). z.batch) same,
      ap (λ (x : State × Answer). (slot_at x.0 s).used) (sym eq) ∙ ap (λ (z : Slot). z.used) same,
      ap (λ (x : State × Answer). x.0.heads) (sym eq),
    )

-- What is known when the marks were made, and the batch was detached then.
pub record Detached {key0 : SlotKey} (at : BeginsToMark key0) (pass0 : Pass) (key : SlotKey) (pass : Pass) (its : Batch) (marked : ℕ) (key1 : SlotKey) (pass1 : Pass) : Type 0 where
  pub ends : EndsMarks at pass0 key pass (slot_marks_in its) (Ready marked)
  pub book : IsKeyOfBook key pass
  pub knows : Knows key pass
  pub are : values_of (keys_in its) ≡ (slot_of key0).batch
  pub notes : AddsEvent key pass key1 pass1 (Detach (slot_number key))
  pub detaches : Detaches key pass1

module _ {key0 : SlotKey} {at : BeginsToMark key0} {pass0 : Pass} {key : SlotKey} {pass : Pass} {its : Batch} {marked : ℕ} {key1 : SlotKey} {pass1 : Pass} (detached : Detached at pass0 key pass its marked key1 pass1) where
  abbrev ends : EndsMarks at pass0 key pass (slot_marks_in its) (Ready marked)
  ends = detached.ends

  abbrev notes : AddsEvent key pass key1 pass1 (Detach (slot_number key))
  notes = detached.notes

  abbrev held : Keys
  held = (keys_in its).keys.held

  abbrev marks : List ℕ
  marks = actives 0 ends.finds

  abbrev batch : List ℕ
  batch = (slot_of key0).batch

  abbrev first : List SlotMark
  first = take marked (slot_marks_of held)

  pub full : 1 ≤ length batch
  full =
      let some = marking_full (after (start_of key) (own_list key)) (slot_number key) (length ends.finds) at.note marks at.queue (own_reached key pass detached.book detached.knows) ends.stands.1 in
      subst (λ (vs : List ℕ). 1 ≤ length vs) ends.batch some

  pub distinct : are_distinct marks ≡ true
  distinct = (marks_tidy (after (start_of key) (own_list key)) (slot_number key) (length ends.finds) at.note marks at.queue (own_reached key pass detached.book detached.knows) ends.stands.1).0

  abbrev st : State
  st = after (start_of key) notes.2.0.before

  abbrev d : State × Answer
  d = (notes.2.0.later, notes.2.0.answer)

  abbrev b : ℕ
  b = detached.detaches.0

  pub done : ((slot_at d.0 (slot_number key)).call ≡ Some (record { place = look (length st.batches) 0 marks; queue = at.queue })) × ((slot_at d.0 (slot_number key)).batch ≡ [])
      × ((slot_at d.0 (slot_number key)).used ≡ (slot_at st (slot_number key)).used) × (d.0.heads ≡ st.heads) × (length d.0.batches ≡ length st.batches + 1) × (d.1 ≡ Done)
  done =
      after_detach pass.size st (slot_number key) d (length ends.finds) at.note marks at.queue (step_of pass.size st (Detach (slot_number key)) d notes.2.1.legal)
      (ap (λ (z : Slot). z.call) notes.2.1.was ∙ ends.stands.1)

  pub is_newest : length st.batches ≡ b
  is_newest =
      let later : length (after (start_of key) pass1.seen).batches ≡ length d.0.batches = ap (λ (n : Name). length (after (start n) pass1.seen).batches) detached.book ∙ ap (λ (x : State). length x.batches) notes.2.0.leads in
      let long = detached.detaches.1 in omega (arith, long, later, done.4)

  pub plan_is : plan_in key1 b ≡ record { slots = marks; values = batch }
  plan_is =
      ap (λ (t : Name × List Logged). slice_index_or (plans (start t.0) t.1) b no_plan) (λ i. (notes.1.0 i, notes.1.2 i))
      ∙ detached.detaches.3
      ∙ ap (λ (o : Option Progress). record { slots = unwrap_or (of_call marked_at o) []; values = (slot_of key).batch }) ends.stands.1
      ∙ ap (λ (vs : List ℕ). record { slots = marks; values = vs }) ends.batch

  pub seen_one : slots_seen pass ≤ slots_seen pass1
  seen_one =
      subst (λ (z : Name). slots_seen pass ≤ length (after (start z) pass1.seen).slots) (sym notes.0.0)
      (more_slots pass.name pass.seen pass1.seen (seen_grows pass.name pass.id pass.seen pass1.seen _ notes.2.0) notes.2.0.legal)

  pub on_one : Onward key0 pass0 key1 pass1
  on_one =
      onward_twice key0 key key1 pass0 pass pass1 ends.on
      (onward_event key key1 pass pass1 (private pass (Detach (slot_number key))) notes refl refl (ap (λ (z : Slot). z.used) notes.2.1.is ∙ done.2 ∙ ap (λ (z : Slot). z.used) notes.2.1.was)
      (notes.2.1.is_now_active ∙ ap (λ (hs : List Head). is_active (get_or hs (slot_number key) Inactive)) done.3 ∙ notes.2.1.was_active))

  pub book_one : IsKeyOfBook key1 pass1
  book_one = notes.1.0 ∙ detached.book ∙ sym notes.0.0

  pub front_one : IsFrontBlock key1 b its.first
  front_one = let its_first = first_block its.first batch (subst (λ (vs : List ℕ). starts_at its.first vs ≡ true) detached.are its.front) full in (its_first.0, ap (λ (plan : Plan). first_or_none plan.values) plan_is ∙ its_first.1, its_first.2)

  abbrev pub inserts : IsInserting key1 pass1 first its.first (labels_of held)
  inserts = record {
    batch = b;
    won = 0;
    queue = at.queue;
    stands =
        ap (λ (z : Slot). z.call) notes.2.1.is ∙ done.0 ∙ ap (λ (n : ℕ). Some (record { place = look n 0 marks; queue = at.queue })) is_newest
        ∙ ap (λ (ms : List ℕ). Some (record { place = look b 0 ms; queue = at.queue })) (sym ends.stands.3);
    planned =
        subst (λ (plan : Plan). ArePlanned plan (slots_seen pass1) first) (ap (λ (ms : List ℕ). record { slots = ms; values = batch }) ends.stands.3 ∙ sym plan_is)
        (planned_all first batch (slots_seen pass1) (subst (AreFirst first) detached.are (are_first held marked)) (subst (λ (ms : List ℕ). are_distinct ms ≡ true) (sym ends.stands.3) distinct)
        (subst (AllBelow (slots_seen pass1)) (sym ends.stands.3)
        (more_below (0 + length ends.finds) (slots_seen pass1) marks (let within = ends.within in let more = seen_one in omega (arith, within, more)) (actives_below 0 ends.finds))));
    its_front = front_one;
    its_values = detached.are ∙ ap (λ (plan : Plan). plan.values) (sym plan_is);
  }

  -- The insertions were made.
  module _ {key2 : SlotKey} {pass2 : Pass} {won : ℕ} (all : InsertsAtEach inserts key2 pass2 won) (knows2 : Knows key2 pass2) where
    pub book_two : IsKeyOfBook key2 pass2
    book_two = keeps_book key1 key2 pass1 pass2 all.keeps book_one

    abbrev stands_two : (slot_of key2).call ≡ Some (record { place = Add b (0 + won); queue = at.queue })
    stands_two = all.stands

    pub front_two : IsFrontBlock key2 b its.first
    front_two = front_same key1 key2 b its.first all.planned front_one

    -- the first block is found by its number
    pub named_two : (pass' : Pass) → IsKeyOfBook key2 pass' → Knows key2 pass' → has front_two.0 (state_seen pass').named ≡ true
    named_two pass' book' knows' =
        detached_named key2 pass' book' knows' b front_two.0 (ap detached_by stands_two) (first_in (plan_in key2 b).values front_two.0 front_two.1)

    pub has_front : HasNumber its.first (state_seen pass2)
    has_front = (front_two.0, named_two pass2 book_two knows2, sym front_two.2)

    module _ (pass3 : Pass) (header : Header) (looks : LooksOn pass2 pass3) (is : IsHeaderOf header its.first pass3) where
      pub book_three : IsKeyOfBook key2 pass3
      book_three = book_two ∙ sym looks.same.0

      pub on_three : Onward key0 pass0 key2 pass3
      on_three = onward_twice key0 key2 key2 pass0 pass2 pass3 (onward_twice key0 key1 key2 pass0 pass1 pass2 on_one all.keeps.on) (onward_looked key2 pass2 pass3 looks)

      abbrev pub adds : MayCountUp key2 header.count won
      adds = record {
        batch = b;
        front = front_two.0;
        queue = at.queue;
        adding = stands_two ∙ ap (λ (n : ℕ). Some (record { place = Add b n; queue = at.queue })) (let none : 0 + won ≡ won = omega arith in none);
        its_front = front_two.1;
        its_home = is.1 front_two.0 (named_two pass3 book_three (knows_still key2 pass2 pass3 knows2 looks)) (sym front_two.2);
      }

      pub values_are : values_in key2 b ≡ batch
      values_are = ap (λ (plan : Plan). plan.values) (all.planned ∙ plan_is)

      -- the list says what is kept of each value, whatever slots were noted
      pub told_three : (before values : ValueKeys) → AreRemarked before values → AreTold before pass0 → AreTold values pass3
      told_three before values remarked told =
          (alike_told pass3.seen before.keys.held values.keys.held (sym (remarked_labels values.keys.held before.keys.held remarked.1)) (sym (remarked_kepts values.keys.held before.keys.held remarked.1))
          (all_told_later pass0.seen pass3.seen before.keys.held on_three.grows told))

      -- The insertions were added.
      module _ (before values : ValueKeys) (remarked : AreRemarked before values) (values' : ValueKeys) (key' : SlotKey) (pass' : Pass) (zero' : Bool) (counts : Counts key2 pass3 key' pass' (AddCount (slot_number key2)) zero')
          (gives : GivesUp key2 key' b [] at.queue zero') (leaves : LeavesKeys values pass' values' zero') where
        abbrev added : AddsEvent key2 pass3 key' pass' (AddCount (slot_number key2))
        added = counts.0

        abbrev here : State
        here = after (start_of key2) added.2.0.before

        kept : ((slot_at added.2.0.later (slot_number key2)).batch ≡ (slot_at here (slot_number key2)).batch) × ((slot_at added.2.0.later (slot_number key2)).used ≡ (slot_at here (slot_number key2)).used) × (added.2.0.later.heads ≡ here.heads)
        kept = after_add pass3.size here (slot_number key2) (added.2.0.later, added.2.0.answer) (step_of pass3.size here (AddCount (slot_number key2)) (added.2.0.later, added.2.0.answer) added.2.1.legal)

        abbrev s : ℕ
        s = slot_number key0

        one_deed : (event : ℕ → Event) (key'' : SlotKey) (pass'' : Pass) (answer : Answer) → IsSamePass pass0 pass'' → slot_number key'' ≡ s → answered (private pass'' (event (slot_number key''))) answer ≡ answered (private pass0 (event s)) answer
        one_deed event key'' pass'' answer same'' its'' =
            ap (λ (x : Deed). (x, answer)) (same_private pass0 pass'' same'' (event (slot_number key''))) ∙ ap (λ (k : ℕ). (private pass0 (event k), answer)) its''

        abbrev events : List (Deed × Answer)
        events = events_by pass0 ++ readings pass0 s 0 ends.finds

        made_one : events_by pass1 ≡ events ++ (private pass0 (Detach s), Done) ∷ []
        made_one =
            events_grew pass pass1 (Detach (slot_number key)) notes.0 notes.2.0
            ∙ ap (λ (log : List (Deed × Answer)). log ++ (private pass (Detach (slot_number key)), notes.2.0.answer) ∷ []) ends.made
            ∙ ap (λ (a : Answer). events ++ (private pass (Detach (slot_number key)), a) ∷ []) done.5
            ∙ ap (λ (x : Deed × Answer). events ++ x ∷ []) (one_deed Detach key pass Done ends.on.same ends.on.its.1)

        made_two : events_by pass2 ≡ (events ++ (private pass0 (Detach s), Done) ∷ []) ++ all_insert_events pass0 s marks all.turns
        made_two =
            all.made
            ∙ ap (λ (log : List (Deed × Answer)). log ++ all_insert_events pass1 (slot_number key1) (marked_slots first) all.turns) made_one
            ∙ ap (λ (log : List (Deed × Answer)). (events ++ (private pass0 (Detach s), Done) ∷ []) ++ log)
            (same_turns pass0 pass1 on_one.same (slot_number key1) (marked_slots first) all.turns ∙ ap (λ (k : ℕ). all_insert_events pass0 k (marked_slots first) all.turns) on_one.its.1
            ∙ ap (λ (ms : List ℕ). all_insert_events pass0 s ms all.turns) ends.stands.3)

        made_all : events_by pass' ≡ ((events ++ (private pass0 (Detach s), Done) ∷ []) ++ all_insert_events pass0 s marks all.turns) ++ (private pass0 (AddCount s), Counted counts.1.0) ∷ []
        made_all =
            events_grew pass3 pass' (AddCount (slot_number key2)) added.0 added.2.0
            ∙ ap (λ (log : List (Deed × Answer)). log ++ (private pass3 (AddCount (slot_number key2)), added.2.0.answer) ∷ []) (looked_same pass2 pass3 looks ∙ made_two)
            ∙ ap (λ (a : Answer). ((events ++ (private pass0 (Detach s), Done) ∷ []) ++ all_insert_events pass0 s marks all.turns) ++ (private pass3 (AddCount (slot_number key2)), a) ∷ []) counts.1.1
            ∙ ap (λ (x : Deed × Answer). ((events ++ (private pass0 (Detach s), Done) ∷ []) ++ all_insert_events pass0 s marks all.turns) ++ x ∷ [])
            (one_deed AddCount key2 pass3 (Counted counts.1.0) on_three.same on_three.its.1)

        pub retires : (active_of key2 ≡ true → zero' ≡ false) → Retires at pass0 before key' pass' values' zero'
        retires above = record {
          finds = ends.finds;
          turns = all.turns;
          each = all.each ∙ sym (many_slots first) ∙ ap (λ (ms : List ℕ). length ms) ends.stands.3;
          count = counts.1.0;
          is_count = counts.1.2;
          under_guard = λ active. above (on_three.active ∙ active);
          on = onward_twice key0 key2 key' pass0 pass3 pass' on_three
              (onward_event key2 key' pass3 pass' (private pass3 (AddCount (slot_number key2))) added refl refl (ap (λ (z : Slot). z.used) added.2.1.is ∙ kept.1 ∙ ap (λ (z : Slot). z.used) added.2.1.was)
              (added.2.1.is_now_active ∙ ap (λ (hs : List Head). is_active (get_or hs (slot_number key2) Inactive)) kept.2 ∙ added.2.1.was_active));
          made = made_all;
          batch = ap (λ (z : Slot). z.batch) added.2.1.is ∙ kept.0 ∙ ap (λ (z : Slot). z.batch) added.2.1.was ∙ all.keeps.batch ∙ ap (λ (z : Slot). z.batch) notes.2.1.is ∙ done.1;
          stands = gives ∙ ap (λ (vs : List ℕ). Some (record { place = Rest (if zero' then vs else []) []; queue = at.queue })) values_are;
          marked = values;
          remarked = remarked;
          keys = leaves;
        }
          where
            many_slots : (es : List SlotMark) → length (marked_slots es) ≡ length es
            many_slots [] = refl
            many_slots (e ∷ es) = ap suc (many_slots es)

-- A call that has given up says nothing of its blocks.
pub stays_so : {key : SlotKey} (at : BeginsToMark key) (pass : Pass) (key' : SlotKey) (pass' : Pass) (marks : List SlotMark) → EndsMarks at pass key' pass' marks TooMany → EndsMarks at pass key' pass' [] TooMany
stays_so at pass key' pass' marks e = record { finds = e.finds; within = e.within; on = e.on; made = e.made; batch = e.batch; stands = e.stands }
