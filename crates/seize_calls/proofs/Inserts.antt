-- A call inserts its batch at one slot after the other.
use Rattle.std.proofs.Common.{◌≡◌, ℕ, zero, suc, ◌+◌, ◌<◌, ◌≤◌, Bool, true, false, if◌then◌else◌, List, [], ◌∷◌, ◌++◌, length, take, drop, get_or, Some, refl, sym, ap, subst, ◌∙◌, append_assoc, append-nil, arith}
use Rattle.std.specs.List.{Contains}
use Rattle.std.proofs.lemmas.List.{length-take-le, length_push}
use Rattle.seize_machine.specs.Machine.State.{has}
use Rattle.seize_machine.specs.Machine.Laws.{detached_by}
use Rattle.seize_machine.specs.Machine.Next.{look}
use Rattle.seize_machine.specs.declared.machine.event.Answer.{Answer}
use Rattle.seize_book.specs.Blocks.{Plan, block_in, block_number}
use Rattle.seize_book.specs.Entry.{Deed, Entry}
use Rattle.seize_book.specs.Ledger.{HeldKey}
use Rattle.seize_book.specs.Private.{labels_of}
use Rattle.seize_book.specs.Homesteads.{state_seen}
use Rattle.seize_book.specs.Passes.{events_by}
use Rattle.seize_book.specs.Slots.{IsKeyOfBook, slot_number, slot_of}
use Rattle.seize_words.specs.Walks.{Knows}
use Rattle.seize_words.proofs.Facts.{detached_named}
use Rattle.seize_words.specs.Totals.{slots_seen}
use Rattle.seize_book.specs.declared.book.pass.Pass.{Pass}
use Rattle.seize_book.specs.declared.book.slot_key.SlotKey.{SlotKey}
use Rattle.seize_calls.specs.Batches.{SlotMark, marked_slots, slot_in, slot_marks_of}
use Rattle.seize_calls.specs.Inserts.{ArePlanned, GoesPast, IsAtNext, InsertsAtSlot, InsertsAtEach, IsAtSlot, IsInserting, Continues, InsertTries, plan_in, insert_events, all_insert_events, won_in}
use Rattle.seize_calls.specs.Rounds.{done_in, rest_in}
use Rattle.seize_calls.specs.declared.round.Round.{Round}
use Rattle.seize_calls.proofs.Keeps.{keeps_none, keeps_twice}
use Rattle.seize_calls.proofs.Tries.{front_same}
use Rattle.seize_calls.proofs.Turns.{same_turn}

-- Lists of turns.

pub turns_push : (pass : Pass) (s : ℕ) (ms : List ℕ) (turns : List InsertTries) (m : ℕ) (turn : InsertTries) → length turns ≡ length ms → all_insert_events pass s (ms ++ m ∷ []) (turns ++ turn ∷ []) ≡ all_insert_events pass s ms turns ++ insert_events pass s m turn
turns_push pass s [] [] m turn long = append-nil (insert_events pass s m turn)
turns_push pass s [] (t ∷ turns) m turn long = absurd (omega (arith, long))
turns_push pass s (k ∷ ms) [] m turn long = absurd (omega (arith, long))
turns_push pass s (k ∷ ms) (t ∷ turns) m turn long =
    ap (λ (log : List (Deed × Answer)). insert_events pass s k t ++ log) (turns_push pass s ms turns m turn (omega (arith, long)))
    ∙ sym (append_assoc (insert_events pass s k t) (all_insert_events pass s ms turns) (insert_events pass s m turn))

pub won_push : (turns : List InsertTries) (turn : InsertTries) → won_in (turns ++ turn ∷ []) ≡ won_in turns + (if turn.won then 1 else 0)
won_push [] turn = let n : ℕ = if turn.won then 1 else 0 in let e : n + 0 ≡ 0 + n = omega arith in e
won_push (t ∷ turns) turn =
    let e = won_push turns turn in let a : ℕ = if t.won then 1 else 0 in let b : ℕ = if turn.won then 1 else 0 in
    ap (λ (n : ℕ). a + n) e ∙ (let same : a + (won_in turns + b) ≡ (a + won_in turns) + b = omega arith in same)

-- Spots at which the call has been, and those to come.

pub slots_more : (marks : List SlotMark) (i : ℕ) (d : SlotMark) → i < length marks → marked_slots (take (i + 1) marks) ≡ marked_slots (take i marks) ++ (get_or marks i d).slot ∷ []
slots_more [] i d less = absurd (omega (arith, less))
slots_more (mark ∷ marks) zero d less = refl
slots_more (mark ∷ marks) (suc i) d less =
    ap (λ (k : ℕ). marked_slots (take k (mark ∷ marks))) (let same : suc i + 1 ≡ suc (i + 1) = omega arith in same) ∙ ap (λ (ms : List ℕ). mark.slot ∷ ms) (slots_more marks i d (omega (arith, less)))

pub slots_left : (marks : List SlotMark) (i : ℕ) (d : SlotMark) → i < length marks → marked_slots (drop i marks) ≡ (get_or marks i d).slot ∷ marked_slots (drop (i + 1) marks)
slots_left [] i d less = absurd (omega (arith, less))
slots_left (mark ∷ marks) zero d less = refl
slots_left (mark ∷ marks) (suc i) d less =
    slots_left marks i d (omega (arith, less)) ∙ ap (λ (k : ℕ). (get_or marks i d).slot ∷ marked_slots (drop k (mark ∷ marks))) (let same : suc (i + 1) ≡ suc i + 1 = omega arith in same)

pub none_left : (marks : List SlotMark) (i : ℕ) → length marks ≤ i → marked_slots (drop i marks) ≡ []
none_left [] zero le = refl
none_left [] (suc i) le = refl
none_left (mark ∷ marks) zero le = absurd (omega (arith, le))
none_left (mark ∷ marks) (suc i) le = none_left marks i (omega (arith, le))

pub all_taken : (marks : List SlotMark) (i : ℕ) → length marks ≤ i → take i marks ≡ marks
all_taken [] zero le = refl
all_taken [] (suc i) le = refl
all_taken (mark ∷ marks) zero le = absurd (omega (arith, le))
all_taken (mark ∷ marks) (suc i) le = ap (λ (es : List SlotMark). mark ∷ es) (all_taken marks i (omega (arith, le)))

pub planned_at : (plan : Plan) (seen : ℕ) (marks : List SlotMark) (i : ℕ) (d : SlotMark) → ArePlanned plan seen marks → i < length marks
    → ((get_or marks i d).block ≡ block_in plan (get_or marks i d).slot) × ((get_or marks i d).slot < seen)
planned_at plan seen [] i d are less = absurd (omega (arith, less))
planned_at plan seen (mark ∷ marks) zero d are less = are.0
planned_at plan seen (mark ∷ marks) (suc i) d are less = planned_at plan seen marks i d are.1 (omega (arith, less))

-- The keys through which the round goes.

abbrev Keys : Type 0
Keys = List (HeldKey Entry)

pub round_step : (held : Keys) (k i : ℕ) (d : SlotMark) → i < k → k ≤ length (slot_marks_of held)
    → (h : HeldKey Entry) × (drop i held ≡ h ∷ drop (i + 1) held) × (take (i + 1) held ≡ take i held ++ h ∷ []) × (get_or (take k (slot_marks_of held)) i d ≡ record { block = block_number h.label; slot = slot_in h.note }) × Contains (labels_of held) h.label
round_step [] k i d less le = absurd (omega (arith, less, le))
round_step (h ∷ held) zero i d less le = absurd (omega (arith, less))
round_step (h ∷ held) (suc k) zero d less le = (h, refl, refl, refl, (0, omega arith, refl))
round_step (h ∷ held) (suc k) (suc i) d less le =
    let rest = round_step held k i d (omega (arith, less)) (omega (arith, le)) in let same : suc i + 1 ≡ suc (i + 1) = omega arith in (
      rest.0,
      rest.1 ∙ ap (λ (n : ℕ). rest.0 ∷ drop n (h ∷ held)) (sym same),
      ap (λ (n : ℕ). take n (h ∷ held)) same ∙ ap (λ (hs : Keys). h ∷ hs) rest.2,
      rest.3,
      (suc rest.4.0, omega (arith, rest.4.1), rest.4.2),
    )

-- the call has taken a turn at so many of them, and won so many insertions
pub record HasTurned {key : SlotKey} {pass : Pass} {marks : List SlotMark} {front : ℕ} {values : List ℕ} (at : IsInserting key pass marks front values) (count won : ℕ) (key' : SlotKey) (pass' : Pass) : Type 0 where
  pub keeps : Continues key pass key' pass'
  pub turns : List InsertTries
  pub each : length turns ≡ count
  pub within : count ≤ length marks
  pub made : events_by pass' ≡ events_by pass ++ all_insert_events pass (slot_number key) (marked_slots (take count marks)) turns
  pub many : won ≡ won_in turns
  pub few : won ≤ count
  pub planned : plan_in key' at.batch ≡ plan_in key at.batch
  pub stands : (slot_of key').call ≡ Some (record { place = look at.batch (at.won + won) (marked_slots (drop count marks)); queue = at.queue })

abbrev pub none_turned : {key : SlotKey} {pass : Pass} {marks : List SlotMark} {front : ℕ} {values : List ℕ} (at : IsInserting key pass marks front values) → HasTurned at 0 0 key pass
none_turned {key} {pass} {marks} at = record {
  keeps = keeps_none key pass;
  turns = [];
  each = refl;
  within = omega arith;
  made = sym (append-nil (events_by pass)) ∙ ap (λ (log : List (Deed × Answer)). events_by pass ++ log) (sym (no_turns (marked_slots (take 0 marks))));
  many = refl;
  few = omega arith;
  planned = refl;
  stands = at.stands ∙ ap (λ (w : ℕ). Some (record { place = look at.batch w (marked_slots marks); queue = at.queue })) (let same : at.won ≡ at.won + 0 = omega arith in same);
}
  where
    no_turns : (ms : List ℕ) → all_insert_events pass (slot_number key) ms [] ≡ []
    no_turns [] = refl
    no_turns (m ∷ ms) = refl

module _ {key : SlotKey} {pass : Pass} {marks : List SlotMark} {front : ℕ} {values : List ℕ} {at : IsInserting key pass marks front values} {i won : ℕ} {now : SlotKey} {pass1 : Pass} (r : HasTurned at i won now pass1) (d : SlotMark) (less : i < length marks) where
  abbrev mark : SlotMark
  mark = get_or marks i d

  abbrev later : List ℕ
  later = marked_slots (drop (i + 1) marks)

  -- the next turn
  abbrev pub at_next : IsAtSlot now mark.slot mark.block front
  at_next =
      let its = planned_at (plan_in key at.batch) (slots_seen pass) marks i d at.planned less in
      record {
        batch = at.batch;
        won = at.won + won;
        later = later;
        queue = at.queue;
        looking = r.stands ∙ ap (λ (ms : List ℕ). Some (record { place = look at.batch (at.won + won) ms; queue = at.queue })) (slots_left marks i d less);
        its_block = its.0 ∙ ap (λ (plan : Plan). block_in plan mark.slot) (sym r.planned);
        its_front = front_same key now at.batch front r.planned at.its_front;
      }

  pub next_seen : mark.slot < slots_seen pass1
  next_seen = let its = planned_at (plan_in key at.batch) (slots_seen pass) marks i d at.planned less in let more = r.keeps.seen in omega (arith, its.1, more)

  module _ {key' : SlotKey} {pass' : Pass} {one : Bool} (turned : InsertsAtSlot at_next pass1 key' pass' one) where
    abbrev turn : InsertTries
    turn = record { lost = turned.lost; won = one }

    abbrev more : ℕ
    more = if one then 1 else 0

    plus : (b : Bool) (n : ℕ) → (if b then n + 1 else n) ≡ n + (if b then 1 else 0)
    plus true n = refl
    plus false n = let e : n ≡ n + 0 = omega arith in e

    few : (b : Bool) → (if b then 1 else 0) ≤ 1
    few true = omega arith
    few false = omega arith

    pub turned_next : HasTurned at (i + 1) (won + more) key' pass'
    turned_next =
        let before = events_by pass in let s = slot_number key in let ms = marked_slots (take i marks) in
        record {
          keeps = keeps_twice key now key' pass pass1 pass' r.keeps turned.keeps;
          turns = r.turns ++ turn ∷ [];
          each = length_push r.turns turn ∙ ap (λ (n : ℕ). n + 1) r.each;
          within = omega (arith, less);
          made = turned.made
              ∙ ap (λ (log : List (Deed × Answer)). log ++ insert_events pass1 (slot_number now) mark.slot turn) r.made
              ∙ ap (λ (log : List (Deed × Answer)). (before ++ all_insert_events pass s ms r.turns) ++ log)
              (same_turn pass pass1 r.keeps.on.same (slot_number now) mark.slot turn ∙ ap (λ (k : ℕ). insert_events pass k mark.slot turn) r.keeps.on.its.1)
              ∙ append_assoc before (all_insert_events pass s ms r.turns) (insert_events pass s mark.slot turn)
              ∙ ap (λ (log : List (Deed × Answer)). before ++ log)
              (sym (turns_push pass s ms r.turns mark.slot turn (r.each ∙ sym (many_taken marks i less)))
              ∙ ap (λ (slots : List ℕ). all_insert_events pass s slots (r.turns ++ turn ∷ [])) (sym (slots_more marks i d less)));
          many = ap (λ (n : ℕ). n + more) r.many ∙ sym (won_push r.turns turn);
          few = let a = few one in let b = r.few in omega (arith, a, b);
          planned = turned.planned ∙ r.planned;
          stands = turned.stands ∙ ap (λ (w : ℕ). Some (record { place = look at.batch w later; queue = at.queue })) (plus one (at.won + won) ∙ (let same : (at.won + won) + more ≡ at.won + (won + more) = omega arith in same));
        }
      where
        many_taken : (es : List SlotMark) (k : ℕ) → k < length es → length (marked_slots (take k es)) ≡ k
        many_taken [] k l = absurd (omega (arith, l))
        many_taken (e ∷ es) zero l = refl
        many_taken (e ∷ es) (suc k) l = ap suc (many_taken es k (omega (arith, l)))

pub all_turned : {key : SlotKey} {pass : Pass} {marks : List SlotMark} {front : ℕ} {values : List ℕ} {at : IsInserting key pass marks front values} {i won : ℕ} {key' : SlotKey} {pass' : Pass} → HasTurned at i won key' pass' → length marks ≤ i → InsertsAtEach at key' pass' won
all_turned {key} {pass} {marks} {at} {i} {won} r past = record {
  keeps = r.keeps;
  turns = r.turns;
  each = let each = r.each in let within = r.within in omega (arith, each, within, past);
  made = r.made ∙ ap (λ (es : List SlotMark). events_by pass ++ all_insert_events pass (slot_number key) (marked_slots es) r.turns) (all_taken marks i past);
  many = r.many;
  planned = r.planned;
  stands = r.stands ∙ ap (λ (ms : List ℕ). Some (record { place = look at.batch (at.won + won) ms; queue = at.queue })) (none_left marks i past);
}

-- The round comes to the next block, at which the call is to insert its batch next.

pub detached_look : (b won : ℕ) (ms queue : List ℕ) → detached_by (Some (record { place = look b won ms; queue = queue })) ≡ Some b
detached_look b won [] queue = refl
detached_look b won (m ∷ ms) queue = refl

module _ {key : SlotKey} {pass : Pass} (held : Keys) (k : ℕ) {front : ℕ} {at : IsInserting key pass (take k (slot_marks_of held)) front (labels_of held)} (enough : k ≤ length (slot_marks_of held))
    {i won : ℕ} {now : SlotKey} {pass1 : Pass} (r : HasTurned at i won now pass1) (less : i < k) (book : IsKeyOfBook now pass1) (knows : Knows now pass1) (round : Round) (rest_is : rest_in round ≡ drop i held) where
  abbrev none : SlotMark
  none = record { block = 0; slot = 0 }

  abbrev step : (h : HeldKey Entry) × (drop i held ≡ h ∷ drop (i + 1) held) × (take (i + 1) held ≡ take i held ++ h ∷ []) × (get_or (take k (slot_marks_of held)) i none ≡ record { block = block_number h.label; slot = slot_in h.note }) × Contains (labels_of held) h.label
  step = round_step held k i none less enough

  pub within : i < length (take k (slot_marks_of held))
  within = let long = length-take-le k (slot_marks_of held) enough in omega (arith, long, less)

  pub next_named : has step.0.label (state_seen pass1).named ≡ true
  next_named =
      detached_named now pass1 book knows at.batch step.0.label (ap detached_by r.stands ∙ detached_look at.batch (at.won + won) (marked_slots (drop i (take k (slot_marks_of held)))) at.queue)
      (subst (λ (vs : List ℕ). Contains vs step.0.label) (at.its_values ∙ ap (λ (plan : Plan). plan.values) (sym r.planned)) step.4)

  abbrev pub with_at : IsAtSlot now (slot_in step.0.note) (block_number step.0.label) front → IsAtNext now pass1 round front
  with_at a = record {
    first = step.0;
    others = drop (i + 1) held;
    is_first = rest_is ∙ step.1;
    at = a;
    seen = subst (λ (s : SlotMark). s.slot < slots_seen pass1) step.3 (next_seen r none within);
    named = next_named;
  }

  abbrev pub round_next : IsAtNext now pass1 round front
  round_next = with_at (subst (λ (s : SlotMark). IsAtSlot now s.slot s.block front) step.3 (at_next r none within))

  pub round_turned : {key' : SlotKey} {pass' : Pass} {one : Bool} → ((next : IsAtNext now pass1 round front) → InsertsAtSlot next.at pass1 key' pass' one) → HasTurned at (i + 1) (won + (if one then 1 else 0)) key' pass'
  round_turned {key'} {pass'} {one} all =
      turned_next r none within
      (subst (λ (s : SlotMark). (a : IsAtSlot now s.slot s.block front) → InsertsAtSlot a pass1 key' pass' one) (sym step.3) (λ a. all (with_at a)) (at_next r none within))

  pub round_done : (round' : Round) → GoesPast round_next round' → done_in round ≡ take i held → (done_in round' ≡ take (i + 1) held) × (rest_in round' ≡ drop (i + 1) held)
  round_done round' past is = (past.1 ∙ ap (λ (hs : Keys). hs ++ step.0 ∷ []) is ∙ sym step.2, past.2)

-- A round that was begun with the keys of a batch, by the pass as it was, took the batch's turns.
pub turns_of_batch : {key key' : SlotKey} {pass pass1 pass' : Pass} {held held1 : Keys} (k : ℕ) {front won : ℕ} → pass1 ≡ pass → held1 ≡ held
    → ((at : IsInserting key pass1 (take k (slot_marks_of held1)) front (labels_of held1)) → InsertsAtEach at key' pass' won)
    → (at : IsInserting key pass (take k (slot_marks_of held)) front (labels_of held)) → InsertsAtEach at key' pass' won
turns_of_batch {key} {key'} {pass'} k {front} {won} same are =
    subst (λ (t : Pass × Keys). (at : IsInserting key t.0 (take k (slot_marks_of t.1)) front (labels_of t.1)) → InsertsAtEach at key' pass' won) (λ i. (same i, are i))
