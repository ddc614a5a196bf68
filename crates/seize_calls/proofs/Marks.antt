-- What is known while a call marks, and what one more head read adds to it.
use Rattle.std.proofs.Common.{◌≡◌, ◌≢◌, ℕ, suc, zero, ◌+◌, ◌^◌, ◌<◌, ◌≤◌, Bool, true, false, if◌then◌else◌, nat_le, nat_lt, List, [], ◌∷◌, ◌++◌, length, get_or, map, take, Option, Some, refl, sym, ap, subst, ◌∙◌, append_assoc, append-nil, unwrap_or, ◌⊎◌, inl, inr, arith}
use Rattle.std.proofs.lemmas.List.{get_or-set_same, get_or_past, length_push}
use Rattle.std.proofs.lemmas.Bool.{cases_lt}
use base.Growing.{prefix_trans}
use base.Stored.{Gv}
use Rattle.std.specs.List.{Contains}
use mathlib.Core.List.{IsPrefix}
use Rattle.seize_machine.specs.Machine.State.{State, Slot, Progress, Head, Inactive, Active, Place, Mark, Look, Rest, no_slot, slot_at, head_at, is_active, are_distinct, linked_values}
use Rattle.seize_machine.specs.Machine.Event.{ReadHead}
use Rattle.seize_machine.specs.Machine.Next.{can_detach_at, is_due, marked_place, of_call}
use Rattle.seize_machine.specs.declared.machine.event.Answer.{Answer}
use Rattle.seize_machine.specs.declared.machine.event.Answer.TheVariants.{Head as HeadRead}
use Rattle.seize_machine.proofs.Facts.{Step, Stands, some_is, step_of}
use Rattle.seize_book.specs.Adding.{private}
use Rattle.seize_book.specs.Blocks.{block_for, block_number, word_of}
use Rattle.seize_book.specs.Book.{IsLegalList, after}
use Rattle.seize_book.specs.Entry.{Deed, Entry as Logged}
use Rattle.seize_book.specs.Ledger.{HeldKey}
use Rattle.seize_book.specs.Private.{labels_of}
use Rattle.seize_words.specs.Heads.{reads_at}
use Rattle.seize_book.specs.Passes.{LooksOn, events_by, events_in}
use Rattle.seize_words.specs.Reservations.{MayRead, ShowsHead, slot}
use Rattle.seize_book.specs.Slots.{AddsEvent, IsKeyOfBook, own_list, slot_number, slot_of, start_of}
use Rattle.seize_book.specs.Tokens.{Name, start}
use Rattle.seize_words.specs.Totals.{slots_seen}
use Rattle.seize_words.specs.Walks.{Knows}
use Rattle.seize_book.specs.declared.book.pass.Pass.{Pass}
use Rattle.seize_book.specs.declared.book.slot_key.SlotKey.{SlotKey}
use Rattle.seize_words.specs.declared.reservation.Head.{Head as Word}
use Rattle.seize_words.proofs.Facts.{events_grew, knows_noted, knows_still, more_seen, more_slots, note_seen, seen_grows}
use Rattle.seize_calls.specs.Alone.{Onward}
use Rattle.seize_calls.proofs.Alone.{onward_event, onward_looked, onward_none, onward_twice}
use Rattle.seize_calls.proofs.Batches.{counted_is}
use Rattle.seize_calls.proofs.Named.{batch_named}
use Rattle.seize_calls.specs.Batches.{SlotMark, marked_slots, slot_in, slot_marks_of, without_slot, without_slots}
use Rattle.seize_calls.specs.Marks.{BeginsToMark, EndsMarks, actives, reading, readings}
use Rattle.seize_calls.specs.Numbered.{is_count_of}
use Rattle.seize_calls.specs.Rounds.{HasNextValue, IsRoundOf, Remarks, all_in, book_at, done_in, rest_in, with_slot}
use Rattle.seize_calls.specs.declared.marking.MarkOutcome.{MarkOutcome}
use Rattle.seize_calls.specs.declared.round.Round.{Round}
use Rattle.seize_calls.specs.declared.marking.MarkOutcome.TheVariants.{Ready, TooMany}

-- Lists of what was found.

pub readings_push : (pass : Pass) (s n : ℕ) (finds : List Bool) (found : Bool) → readings pass s n (finds ++ found ∷ []) ≡ readings pass s n finds ++ reading pass s (n + length finds) found ∷ []
readings_push pass s n [] found = ap (λ (k : ℕ). reading pass s k found ∷ []) (let same : n ≡ n + 0 = omega arith in same)
readings_push pass s n (first ∷ finds) found =
    ap (λ (made : List (Deed × Answer)). reading pass s n first ∷ made)
    (readings_push pass s (suc n) finds found ∙ ap (λ (k : ℕ). readings pass s (suc n) finds ++ reading pass s k found ∷ []) (let same : suc n + length finds ≡ n + suc (length finds) = omega arith in same))

pub actives_on : (n : ℕ) (finds : List Bool) → actives n (finds ++ true ∷ []) ≡ actives n finds ++ (n + length finds) ∷ []
actives_on n [] = ap (λ (k : ℕ). k ∷ []) (let same : n ≡ n + 0 = omega arith in same)
actives_on n (true ∷ finds) =
    ap (λ (ms : List ℕ). n ∷ ms) (actives_on (suc n) finds ∙ ap (λ (k : ℕ). actives (suc n) finds ++ k ∷ []) (let same : suc n + length finds ≡ n + suc (length finds) = omega arith in same))
actives_on n (false ∷ finds) = actives_on (suc n) finds ∙ ap (λ (k : ℕ). actives (suc n) finds ++ k ∷ []) (let same : suc n + length finds ≡ n + suc (length finds) = omega arith in same)

pub actives_off : (n : ℕ) (finds : List Bool) → actives n (finds ++ false ∷ []) ≡ actives n finds
actives_off n [] = refl
actives_off n (true ∷ finds) = ap (λ (ms : List ℕ). n ∷ ms) (actives_off (suc n) finds)
actives_off n (false ∷ finds) = actives_off (suc n) finds

pub actives_few : (n : ℕ) (finds : List Bool) → length (actives n finds) ≤ length finds
actives_few n [] = omega arith
actives_few n (true ∷ finds) = let rest = actives_few (suc n) finds in omega (arith, rest)
actives_few n (false ∷ finds) = let rest = actives_few (suc n) finds in omega (arith, rest)

-- A round goes past a value whose block is noted anew.

abbrev Keys : Type 0
Keys = List (HeldKey Logged)

all_same : {B : Type 0} (f : HeldKey Logged → B) (done rest : Keys) (x y : HeldKey Logged) → f x ≡ f y → map f ((done ++ x ∷ []) ++ rest) ≡ map f (done ++ y ∷ rest)
all_same f [] rest x y e = ap (λ b. b ∷ map f rest) e
all_same f (h ∷ done) rest x y e = ap (λ bs. f h ∷ bs) (all_same f done rest x y e)

slots_push : (done : Keys) (x : HeldKey Logged) → marked_slots (slot_marks_of (done ++ x ∷ [])) ≡ marked_slots (slot_marks_of done) ++ slot_in x.note ∷ []
slots_push [] x = refl
slots_push (h ∷ done) x = ap (λ (ms : List ℕ). slot_in h.note ∷ ms) (slots_push done x)

many_slots : (held : Keys) → length (marked_slots (slot_marks_of held)) ≡ length held
many_slots [] = refl
many_slots (h ∷ held) = ap suc (many_slots held)

pub take_done : (done rest : Keys) (k : ℕ) → length done ≡ k → take k (slot_marks_of (done ++ rest)) ≡ slot_marks_of done
take_done [] rest zero e = refl
take_done [] rest (suc k) e = absurd (omega (arith, e))
take_done (h ∷ done) rest zero e = absurd (omega (arith, e))
take_done (h ∷ done) rest (suc k) e = ap (λ (marks : List SlotMark). record { block = block_number h.label; slot = slot_in h.note } ∷ marks) (take_done done rest k (omega (arith, e)))

done_within : (done rest : Keys) → length done ≤ length (slot_marks_of (done ++ rest))
done_within [] rest = omega arith
done_within (h ∷ done) rest = let less = done_within done rest in omega (arith, less)

next_of : (done rest : Keys) (batch : List ℕ) → labels_of (done ++ rest) ≡ batch → length done < length batch → (v : ℕ) × (vs : List ℕ) × (labels_of rest ≡ v ∷ vs) × Contains batch v
next_of done [] batch e less = absurd (let long = none_more done in let same = ap (λ (vs : List ℕ). length vs) e in omega (arith, long, same, less))
  where
    none_more : (done : Keys) → length (labels_of (done ++ [])) ≡ length done
    none_more [] = refl
    none_more (h ∷ done) = ap suc (none_more done)
next_of done (h ∷ rest) batch e less = (h.label, labels_of rest, refl, subst (λ (vs : List ℕ). Contains vs h.label) e (there done))
  where
    there : (done : Keys) → Contains (labels_of (done ++ h ∷ rest)) h.label
    there [] = (0, omega arith, refl)
    there (x ∷ done) = let more = there done in (suc more.0, omega (arith, more.1), more.2)

-- so many heads were read, and so many slots marked
pub record IsReading {key : SlotKey} (at : BeginsToMark key) (end : ℕ) (pass : Pass) (held : List (HeldKey Logged)) (count marked : ℕ) (key' : SlotKey) (pass' : Pass) (round : Round) : Type 0 where
  pub on : Onward key pass key' pass'
  pub knows : Knows key' pass'
  pub there : end ≤ slots_seen pass'
  pub batch : (slot_of key').batch ≡ (slot_of key).batch
  pub finds : List Bool
  pub read : length finds ≡ count
  pub many : length (actives 0 finds) ≡ marked
  pub few : marked ≤ length (slot_of key).batch
  pub stands : (slot_of key').call ≡ Some (record { place = Mark count at.note (actives 0 finds); queue = at.queue })
  pub made : events_by pass' ≡ events_by pass ++ readings pass (slot_number key) 0 finds
  pub book : book_at round ≡ pass.name
  pub values : labels_of (all_in round) ≡ (slot_of key).batch
  pub remarked : without_slots (all_in round) ≡ without_slots held
  pub slots : marked_slots (slot_marks_of (done_in round)) ≡ actives 0 finds

-- none was read
abbrev pub none_read : (key : SlotKey) (at : BeginsToMark key) (end : ℕ) (pass : Pass) (round : Round) → Knows key pass → end ≤ slots_seen pass → book_at round ≡ pass.name → IsRoundOf round (slot_of key).batch
    → IsReading at end pass (rest_in round) 0 0 key pass round
none_read key at end pass round knows there book is =
    let all = ap (λ (held : Keys). held ++ rest_in round) is.0 in
    record {
      on = onward_none key pass;
      knows = knows;
      there = there;
      batch = refl;
      finds = [];
      read = refl;
      many = refl;
      few = omega arith;
      stands = at.marking;
      made = sym (append-nil (events_by pass));
      book = book;
      values = ap labels_of all ∙ is.1;
      remarked = ap without_slots all;
      slots = ap (λ (held : Keys). marked_slots (slot_marks_of held)) is.0;
    }

-- a slot with a call is there
pub within : (st : State) (s : ℕ) (call : Progress) → (slot_at st s).call ≡ Some call → s < length st.slots
within st s call is = go (cases_lt s (length st.slots))
  where
    go : (s < length st.slots) ⊎ (length st.slots ≤ s) → s < length st.slots
    go (inl less) = less
    go (inr past) = absurd (let none : Option.None ≡ Some call = sym (ap (λ (z : Slot). z.call) (get_or_past st.slots s no_slot past)) ∙ is in cc)

-- where a call goes on that marks
abbrev goes : Bool → ℕ → List ℕ → Progress → Progress
goes active n batch call = record { place = on call.place; queue = call.queue }
  where
    on : Place → Place
    on (Mark next note marks) = marked_place active n note marks batch
    on place = place

-- the machine reads a head for a call that marks
after_read : (size : ℕ) (st : State) (s n : ℕ) (d : State × Answer) (next note : ℕ) (marks queue : List ℕ) → Step size st (ReadHead s n) d → Stands st s (Mark next note marks) queue
    → Stands d.0 s (marked_place (is_active (head_at st n)) n note marks (slot_at st s).batch) queue × ((slot_at d.0 s).batch ≡ (slot_at st s).batch) × ((slot_at d.0 s).used ≡ (slot_at st s).used)
    × (d.0.heads ≡ st.heads) × (d.1 ≡ HeadRead (is_active (head_at st n)))
after_read size st _ _ _ next note marks queue (Step.marked s n _ _ _ _ e r at) is =
    let same = get_or-set_same st.slots s _ no_slot (within st s _ is) in (
      ap (λ (z : Slot). z.call) same ∙ ap (λ (c : Progress). Some (goes (is_active (head_at st n)) n (slot_at st s).batch c)) (some_is _ _ (sym e ∙ is)),
      ap (λ (z : Slot). z.batch) same,
      ap (λ (z : Slot). z.used) same,
      refl,
      refl,
    )
after_read size st _ _ _ next note marks queue (Step.looked_at s b won m later others e) is =
    absurd (let other : Look b won m later ≡ Mark next note marks = ap (λ (c : Progress). c.place) (some_is _ _ (sym e ∙ is)) in cc)

-- a head is inactive where its word is 0
pub word_none : (block : ℕ → ℕ) (h : Head) → word_of block h ≡ 0 → is_active h ≡ false
word_none block Inactive e = refl
word_none block (Active []) e = absurd (omega (arith, e))
word_none block (Active (b ∷ waiting)) e = absurd (omega (arith, e))

pub word_some : (block : ℕ → ℕ) (h : Head) → word_of block h ≢ 0 → is_active h ≡ true
word_some block Inactive n = absurd (n refl)
word_some block (Active waiting) n = refl

-- The next head is read.
module _ {key0 : SlotKey} {at : BeginsToMark key0} {end : ℕ} {pass0 : Pass} {held : Keys} {i k : ℕ} {key : SlotKey} {pass : Pass} {round : Round} (r : IsReading at end pass0 held i k key pass round) (head : Word)
    (head_is : (head.word.name ≡ pass0.name) × (slot head ≡ i)) (less : i < end) (book : IsKeyOfBook key0 pass0) where
  is_head : head.word.name ≡ pass.name
  is_head = head_is.0 ∙ sym r.on.same.0

  pub may_read : IsKeyOfBook key pass × (head.word.name ≡ pass.name)
  may_read = (r.on.its.0 ∙ book ∙ sym r.on.same.0, is_head)

  pub reads_next : MayRead key head pass
  reads_next = (
    ap (λ (o : Option Progress). unwrap_or (of_call (reads_at (slot head)) o) false) r.stands ∙ ap (is_due i at.note) head_is.1 ∙ in_turn_now i at.note,
    subst (λ (n : Name). slot head < length (after (start n) pass.seen).slots) (sym is_head) (subst (λ (m : ℕ). m < slots_seen pass) (sym head_is.1) (omega (arith, less, r.there))),
  )
    where
      in_turn_now : (i note : ℕ) → is_due i note i ≡ true
      in_turn_now i note = grind arith

  module _ {key' : SlotKey} {pass' : Pass} {v : ℕ} (noted : AddsEvent key pass key' pass' (ReadHead (slot_number key) (slot head))) (shows : ShowsHead head pass'.seen v) where
    abbrev st : State
    st = after (start_of key) noted.2.0.before

    abbrev batch : List ℕ
    batch = (slot_of key0).batch

    abbrev d : State × Answer
    d = (noted.2.0.later, noted.2.0.answer)

    read : Stands d.0 (slot_number key) (marked_place (is_active (head_at st (slot head))) (slot head) at.note (actives 0 r.finds) (slot_at st (slot_number key)).batch) at.queue
        × ((slot_at d.0 (slot_number key)).batch ≡ (slot_at st (slot_number key)).batch) × ((slot_at d.0 (slot_number key)).used ≡ (slot_at st (slot_number key)).used)
        × (d.0.heads ≡ st.heads) × (d.1 ≡ HeadRead (is_active (head_at st (slot head))))
    read =
        after_read pass.size st (slot_number key) (slot head) d i at.note (actives 0 r.finds) at.queue (step_of pass.size st (ReadHead (slot_number key) (slot head)) d noted.2.1.legal) (ap (λ (z : Slot). z.call) noted.2.1.was ∙ r.stands)

    -- what the word showed is what the machine read
    abbrev block : ℕ → ℕ
    block b = block_for (start head.word.name) pass'.seen b (slot head)

    word : v ≡ word_of block (head_at st (slot head))
    word = shows ∙ ap (word_of block) (ap (λ (n : Name). head_at (after (start n) pass'.seen) (slot head)) is_head ∙ ap (λ (now : State). head_at now (slot head)) noted.2.0.leads ∙ ap (λ (hs : List Head). get_or hs (slot head) Inactive) read.3)

    pub same_batch : (slot_of key').batch ≡ batch
    same_batch = ap (λ (z : Slot). z.batch) noted.2.1.is ∙ read.1 ∙ ap (λ (z : Slot). z.batch) noted.2.1.was ∙ r.batch

    pub read_on : Onward key0 pass0 key' pass'
    read_on =
        onward_twice key0 key key' pass0 pass pass' r.on
        (onward_event key key' pass pass' (private pass (ReadHead (slot_number key) (slot head))) noted refl refl (ap (λ (z : Slot). z.used) noted.2.1.is ∙ read.2 ∙ ap (λ (z : Slot). z.used) noted.2.1.was)
        (noted.2.1.is_now_active ∙ ap (λ (hs : List Head). is_active (get_or hs (slot_number key) Inactive)) read.3 ∙ noted.2.1.was_active))

    goes_on : (active : Bool) → is_active (head_at st (slot head)) ≡ active → (slot_of key').call ≡ Some (record { place = marked_place active i at.note (actives 0 r.finds) batch; queue = at.queue })
    goes_on active e =
        ap (λ (z : Slot). z.call) noted.2.1.is ∙ read.0
        ∙ ap (λ (b : Bool). Some (record { place = marked_place b (slot head) at.note (actives 0 r.finds) (slot_at st (slot_number key)).batch; queue = at.queue })) e
        ∙ ap (λ (m : ℕ). Some (record { place = marked_place active m at.note (actives 0 r.finds) (slot_at st (slot_number key)).batch; queue = at.queue })) head_is.1
        ∙ ap (λ (vs : List ℕ). Some (record { place = marked_place active i at.note (actives 0 r.finds) vs; queue = at.queue })) (ap (λ (z : Slot). z.batch) noted.2.1.was ∙ r.batch)

    pub knows : Knows key' pass'
    knows = knows_noted key key' pass pass' (private pass (ReadHead (slot_number key) (slot head))) noted

    pub there : end ≤ slots_seen pass'
    there =
        let n = pass.name in
        subst (λ (z : Name). end ≤ length (after (start z) pass'.seen).slots) (sym noted.0.0)
        (omega (arith, r.there, more_slots n pass.seen pass'.seen (seen_grows n pass.id pass.seen pass'.seen _ noted.2.0) noted.2.0.legal))

    made : (active : Bool) → is_active (head_at st (slot head)) ≡ active → events_by pass' ≡ events_by pass0 ++ readings pass0 (slot_number key0) 0 (r.finds ++ active ∷ [])
    made active e =
        let event = ReadHead (slot_number key) (slot head) in let before = events_by pass0 in let s0 = slot_number key0 in
        events_grew pass pass' event noted.0 noted.2.0
        ∙ ap (λ (log : List (Deed × Answer)). log ++ (private pass event, noted.2.0.answer) ∷ []) r.made
        ∙ append_assoc before (readings pass0 s0 0 r.finds) ((private pass event, noted.2.0.answer) ∷ [])
        ∙ ap (λ (x : Deed × Answer). before ++ (readings pass0 s0 0 r.finds ++ x ∷ [])) is
        ∙ ap (λ (log : List (Deed × Answer)). before ++ log) (sym (readings_push pass0 s0 0 r.finds active))
      where
        is : (private pass (ReadHead (slot_number key) (slot head)), noted.2.0.answer) ≡ reading pass0 (slot_number key0) (0 + length r.finds) active
        is = ap (λ (p : ℕ). (record { pass = p; size = pass.size; event = ReadHead (slot_number key) (slot head); life = 0; kepts = [] }, noted.2.0.answer)) r.on.same.1
            ∙ ap (λ (k : ℕ). (record { pass = pass0.id; size = k; event = ReadHead (slot_number key) (slot head); life = 0; kepts = [] }, noted.2.0.answer)) r.on.same.2
            ∙ ap (λ (s : ℕ). (private pass0 (ReadHead s (slot head)), noted.2.0.answer)) r.on.its.1
            ∙ ap (λ (m : ℕ). (private pass0 (ReadHead (slot_number key0) m), noted.2.0.answer)) (head_is.1 ∙ sym r.read ∙ zero_plus (length r.finds))
            ∙ ap (λ (a : Answer). (private pass0 (ReadHead (slot_number key0) (0 + length r.finds)), a)) (read.4 ∙ ap HeadRead e)
          where
            zero_plus : (n : ℕ) → n ≡ 0 + n
            zero_plus n = omega arith

    long : (found : Bool) → length (r.finds ++ found ∷ []) ≡ i + 1
    long found = omega (arith, length_push r.finds found, r.read)

    -- an inactive slot is passed over
    pub passed_over : v ≡ 0 → IsReading at end pass0 held (i + 1) k key' pass' round
    passed_over none =
        let off = word_none block (head_at st (slot head)) (sym word ∙ none) in let marks = actives_off 0 r.finds in
        record {
          on = read_on;
          knows = knows;
          there = there;
          batch = same_batch;
          finds = r.finds ++ false ∷ [];
          read = long false;
          many = ap (λ (ms : List ℕ). length ms) marks ∙ r.many;
          few = r.few;
          stands = goes_on false off ∙ ap (λ (ms : List ℕ). Some (record { place = Mark (i + 1) at.note ms; queue = at.queue })) (sym marks);
          made = made false off;
          book = r.book;
          values = r.values;
          remarked = r.remarked;
          slots = r.slots ∙ sym marks;
        }

    is_on : v ≢ 0 → is_active (head_at st (slot head)) ≡ true
    is_on some = word_some block (head_at st (slot head)) (λ e. some (word ∙ e))

    abbrev after_test : Bool → Option Progress
    after_test short = Some (record { place = if short then Mark (i + 1) at.note (actives 0 r.finds ++ i ∷ []) else Rest [] []; queue = at.queue })

    one_on : actives 0 (r.finds ++ true ∷ []) ≡ actives 0 r.finds ++ i ∷ []
    one_on = actives_on 0 r.finds ∙ ap (λ (k : ℕ). actives 0 r.finds ++ k ∷ []) (let same : 0 + length r.finds ≡ i = omega (arith, r.read) in same)

    many_done : length (done_in round) ≡ k
    many_done = sym (many_slots (done_in round)) ∙ ap (λ (ms : List ℕ). length ms) r.slots ∙ r.many

    -- an active one is marked while there is a value for it
    module _ (some : v ≢ 0) (len : ℕ) (counts : is_count_of len batch ≡ true) (room : k < len) where
      short : k + 1 ≤ length batch
      short = let is = counted_is len batch counts in omega (arith, room, is)

      pub has_next : HasNextValue round pass'
      has_next =
          let next = next_of (done_in round) (rest_in round) batch r.values (omega (arith, many_done, short)) in
          (next.0, next.1, next.2, batch_named key' pass' (read_on.its.0 ∙ book ∙ sym read_on.same.0) knows next.0 (subst (λ (vs : List ℕ). Contains vs next.0) (sym same_batch) next.3))

      module _ {round' : Round} (marks : Remarks round i round') {pass'' : Pass} (looks : LooksOn pass' pass'') where
        now : all_in round' ≡ (done_in round ++ with_slot i marks.note marks.first ∷ []) ++ rest_in round'
        now = ap (λ (held : Keys). held ++ rest_in round') marks.now

        was : all_in round ≡ done_in round ++ marks.first ∷ rest_in round'
        was = ap (λ (held : Keys). done_in round ++ held) marks.was

        pub one_marked : IsReading at end pass0 held (i + 1) (k + 1) key' pass'' round'
        one_marked = record {
          on = onward_twice key0 key' key' pass0 pass' pass'' read_on (onward_looked key' pass' pass'' looks);
          knows = knows_still key' pass' pass'' knows looks;
          there = let more = more_seen pass' pass'' looks in omega (arith, there, more);
          batch = same_batch;
          finds = r.finds ++ true ∷ [];
          read = long true;
          many = ap (λ (ms : List ℕ). length ms) one_on ∙ length_push (actives 0 r.finds) i ∙ ap (λ (n : ℕ). n + 1) r.many;
          few = short;
          stands = goes_on true (is_on some) ∙ ap after_test (is_short (length (actives 0 r.finds)) (length batch) (omega (arith, r.many, short)))
              ∙ ap (λ (ms : List ℕ). Some (record { place = Mark (i + 1) at.note ms; queue = at.queue })) (sym one_on);
          made = ap events_in looks.none_made ∙ made true (is_on some);
          book = marks.book ∙ r.book;
          values = ap labels_of now ∙ all_same (λ h. h.label) (done_in round) (rest_in round') (with_slot i marks.note marks.first) marks.first refl ∙ ap labels_of (sym was) ∙ r.values;
          remarked = ap without_slots now
              ∙ all_same plain (done_in round) (rest_in round') (with_slot i marks.note marks.first) marks.first (ap (λ (g : Gv). plain (anew g)) (sym marks.noted))
              ∙ ap without_slots (sym was) ∙ r.remarked;
          slots = ap (λ (held : Keys). marked_slots (slot_marks_of held)) marks.now ∙ slots_push (done_in round) (with_slot i marks.note marks.first) ∙ ap (λ (ms : List ℕ). ms ++ i ∷ []) r.slots ∙ sym one_on;
        }
          where
            is_short : (a b : ℕ) → a < b → nat_lt a b ≡ true
            is_short a b l = grind arith

            plain : HeldKey Logged → HeldKey Logged
            plain h = record { kind = h.kind; key = h.key; own = h.own; label = h.label; note = without_slot h.note }

            anew : Gv → HeldKey Logged
            anew g = record { kind = marks.first.kind; key = marks.first.key; own = marks.first.own; label = marks.first.label; note = g }

    -- and else the call gives up
    pub stops : v ≢ 0 → (len : ℕ) → is_count_of len batch ≡ true → len ≤ k → end < 2 ^ 64 → (others : List SlotMark) → EndsMarks at pass0 key' pass' others TooMany
    stops some len counts full bounded others =
        let all : k ≡ length batch = let is = counted_is len batch counts in let fewer = actives_few 0 r.finds in omega (arith, is, fewer, full, bounded, less, r.read, r.many, r.few) in
        record {
          finds = r.finds ++ true ∷ [];
          within = omega (arith, less, there, long true);
          on = read_on;
          made = made true (is_on some);
          batch = same_batch;
          stands = (
            goes_on true (is_on some) ∙ ap after_test (not_short (length (actives 0 r.finds)) (length batch) (omega (arith, r.many, all))),
            ap (λ (ms : List ℕ). length ms) one_on ∙ length_push (actives 0 r.finds) i ∙ (let more : length (actives 0 r.finds) + 1 ≡ suc (length batch) = omega (arith, r.many, all) in more),
          );
        }
      where
        not_short : (a b : ℕ) → a ≡ b → nat_lt a b ≡ false
        not_short a b e = grind arith

-- All heads were read.
pub all_read : {key0 : SlotKey} {at : BeginsToMark key0} {end : ℕ} {pass0 : Pass} {held : Keys} {i k : ℕ} {key : SlotKey} {pass : Pass} {round : Round} → IsReading at end pass0 held i k key pass round → i ≡ end → at.note ≤ end
    → EndsMarks at pass0 key pass (slot_marks_of (all_in round)) (Ready k)
all_read {key0} {at} {i} {k} {round} r all le = record {
  finds = r.finds;
  within = let there = r.there in let read = r.read in omega (arith, all, there, read);
  on = r.on;
  made = r.made;
  batch = r.batch;
  stands = (
    ap (λ (o : Option Progress). unwrap_or (of_call can_detach_at o) false) r.stands ∙ is_le at.note i (omega (arith, all, le)),
    r.stands ∙ ap (λ (n : ℕ). Some (record { place = Mark n at.note (actives 0 r.finds); queue = at.queue })) (sym r.read),
    (let within = done_within (done_in round) (rest_in round) in omega (arith, within, many)),
    ap marked_slots (take_done (done_in round) (rest_in round) k many) ∙ r.slots,
  );
}
  where
    is_le : (a b : ℕ) → a ≤ b → nat_le a b ≡ true
    is_le a b l = grind arith

    many : length (done_in round) ≡ k
    many = sym (many_slots (done_in round)) ∙ ap (λ (ms : List ℕ). length ms) r.slots ∙ r.many

-- The same is so from before a look on.
pub ends_before : {key0 : SlotKey} (at : BeginsToMark key0) (pass0 pass1 : Pass) (key : SlotKey) (pass : Pass) (marks : List SlotMark) (ends : MarkOutcome) → LooksOn pass0 pass1 → EndsMarks at pass1 key pass marks ends → EndsMarks at pass0 key pass marks ends
ends_before {key0} at pass0 pass1 key pass marks ends looks e =
    record {
      finds = e.finds;
      within = e.within;
      on = onward_twice key0 key0 key pass0 pass1 pass (onward_looked key0 pass0 pass1 looks) e.on;
      made = e.made ∙ ap (λ (log : List (Deed × Answer)). log ++ readings pass1 (slot_number key0) 0 e.finds) (ap events_in looks.none_made)
          ∙ ap (λ (log : List (Deed × Answer)). events_by pass0 ++ log) (same_readings (slot_number key0) 0 e.finds);
      batch = e.batch;
      stands = e.stands;
    }
  where
    same_readings : (s n : ℕ) (finds : List Bool) → readings pass1 s n finds ≡ readings pass0 s n finds
    same_readings s n [] = refl
    same_readings s n (found ∷ finds) =
        ap (λ (log : List (Deed × Answer)). reading pass1 s n found ∷ log) (same_readings s (suc n) finds)
        ∙ ap (λ (p : ℕ). (record { pass = p; size = pass1.size; event = ReadHead s n; life = 0; kepts = [] }, HeadRead found) ∷ readings pass0 s (suc n) finds) looks.same.1
        ∙ ap (λ (k : ℕ). (record { pass = pass0.id; size = k; event = ReadHead s n; life = 0; kepts = [] }, HeadRead found) ∷ readings pass0 s (suc n) finds) looks.same.2

-- A pass that has looked knows of no fewer slots than the slot's call has to read.
pub note_seen_then : (key : SlotKey) (at : BeginsToMark key) (pass pass' : Pass) → IsKeyOfBook key pass → IsPrefix (own_list key) pass.seen → LooksOn pass pass' → at.note ≤ slots_seen pass'
note_seen_then key at pass pass' book knows looks =
    let here = sym looks.same.0 in
    note_seen key pass' 0 at.note [] at.queue (book ∙ here) (prefix_trans (own_list key) pass.seen pass'.seen knows looks.grows) (subst (λ (n : Name). IsLegalList (start n) pass'.seen) here looks.legal)
    (subst (λ (n : Name). are_distinct (linked_values n.links) ≡ true) here looks.distinct) at.marking
