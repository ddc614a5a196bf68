-- Steps on a count's word by a slot's holder meet what is asked of a step.
use Rattle.std.proofs.Common.{◌≡◌, ◌≢◌, ℕ, zero, suc, ◌<◌, ◌≤◌, ℤ, pos, ◌+ℤ◌, ◌-ℤ◌, Bool, true, false, not, ◌==◌, List, [], ◌∷◌, ◌++◌, length, Option, Some, None, refl, sym, ◌∙◌, ap, subst, ◌⊎◌, inl, inr, arith}
use Rattle.std.specs.Prelude.{if◌then◌else◌, slice_index_or, slice_set}
use Rattle.std.proofs.lemmas.Bool.{cases_lt}
use Rattle.std.proofs.lemmas.List.{get_or-set_same, get_or_past}
use Rattle.seize_machine.specs.Machine.State.{State, Batch, Place, Add, Rest, no_batch, no_slot, slot_at, batch_at, linked_values, are_distinct}
use Rattle.seize_machine.specs.Machine.Event.{Event, AddCount, SubCount}
use Rattle.seize_machine.specs.Machine.Next.{is_zero, of_call, walking_at}
use Rattle.seize_machine.specs.Machine.History.{IsReached, first_or_none}
use Rattle.seize_machine.specs.Machine.Laws.{IsHeld, added_batch}
use Rattle.seize_machine.specs.Machine.Frames.{changes_slot, changes_numbers, changes_head_of, changes_link}
use Rattle.seize_machine.specs.declared.machine.event.Answer.{Answer}
use Rattle.seize_machine.specs.declared.machine.event.Answer.TheVariants.{Count as Counted}
use Rattle.seize_machine.proofs.Facts.{Step, Stands, eq_true, next_of, reached_next, step_of}
use Rattle.seize_words.specs.Atomic.{minus, plus}
use Rattle.seize_book.specs.Blocks.{IsNear, Plan, count_word, front_of, no_plan, plans}
use Rattle.seize_book.specs.Book.{HolderKnows, TheSlot, Does, IsLegalList, after, births, counts, rules, slots}
use Rattle.seize_words.specs.Counts.{IsAdding, IsWalking}
use Rattle.seize_book.specs.Chains.{field_value}
use Rattle.seize_book.specs.Deposits.{deposit}
use Rattle.seize_book.specs.Entry.{Entry, Made, Deed, timed_deed}
use Rattle.seize_book.specs.Fair.{Covers, NamesHeld, pass_key}
use Rattle.seize_book.specs.Homes.{IsSound, changes_count, changes_home, count_in, home_of, is_batch_in, is_home, is_in}
use Rattle.seize_book.specs.Ledger.{HeldKey, HoldersKnow, Beside, Rules, with_list}
use Rattle.seize_book.specs.Private.{Tag, is_one, key_of, tag_of, own_of, AreKeysOf, are_of_blocks, labels_of}
use Rattle.seize_words.specs.Stepping.{EndsAmong, FoundAs, IsStep, MayStep, in_step}
use Rattle.seize_book.specs.Tokens.{Name, start}
use Rattle.seize_words.specs.Words.{Site}
use Rattle.seize_book.proofs.Pairs.{needs_none}
use Rattle.seize_book.proofs.Facts.{unled, all_told_later, all_told_renewed, batch_near, count_added, count_alone, count_near, count_subtracted, in_range, word_added, word_subtracted, word_zero, deposit_added, deposit_subtracted, added_held, front_grows, front_there, held_front, held_values, walked_held, after_push, reached_after, plan_stays, differ, only_is, makes_none, no_place, no_labels, none_named, says_none, sound_push, blocks_within, keys_later, none_of}
use Rattle.seize_book.specs.Kept.{AreToldIn}

abbrev pub at_count : Name → ℕ → Site
at_count n k = record { name = n; kind = counts; number = k }

-- an event of slot s that changes its record and a count, and nothing else
pub record IsCounting (s : ℕ) (event : Event) : Type 1 where
  pub slot : (j : ℕ) → changes_slot j event ≡ (s == j)
  pub numbers : changes_numbers event ≡ false
  pub head : (j : ℕ) → changes_head_of j event ≡ false
  pub link : (j : ℕ) → changes_link j event ≡ false
  pub home : (st : State) (j : ℕ) → changes_home st j event ≡ false
  pub births : (st : State) → births st event ≡ []

adds_count : (s : ℕ) → IsCounting s (AddCount s)
adds_count s = record { slot = λ j. refl; numbers = refl; head = λ j. refl; link = λ j. refl; home = λ st j. refl; births = λ st. refl }

subtracts_count : (s : ℕ) → IsCounting s (SubCount s)
subtracts_count s = record { slot = λ j. refl; numbers = refl; head = λ j. refl; link = λ j. refl; home = λ st j. refl; births = λ st. refl }

-- a batch of one block is of no other
other_block : (k j : ℕ) (batch : Batch) → is_in k batch ≡ true → j ≢ k → is_in j batch ≡ false
other_block k j batch h other = go (first_or_none batch.values) h
  where
    go : (o : Option ℕ) → is_home k o ≡ true → is_home j o ≡ false
    go None e = absurd (cc)
    go (Some v) e = let home : home_of v ≡ k = eq_true (home_of v) k e in differ (home_of v) j (λ i. other (i ∙ home))

-- a slot with a call is there
pub in_slots : (st : State) (s : ℕ) (place : Place) (queue : List ℕ) → Stands st s place queue → s < length st.slots
in_slots st s place queue is = go (cases_lt s (length st.slots))
  where
    go : (s < length st.slots) ⊎ (length st.slots ≤ s) → s < length st.slots
    go (inl less) = less
    go (inr past) = absurd (let none : Option.None ≡ Some (record { place = place; queue = queue }) = sym (ap (λ slot. slot.call) (get_or_past st.slots s no_slot past)) ∙ is in cc)

-- a key after others
beside_past : (vs : List (HeldKey Entry)) (h : HeldKey Entry) (more : List (HeldKey Entry)) (r j : ℕ) → Beside (vs ++ h ∷ more) r j → ¬ ((r ≡ h.kind) × (j ≡ h.key))
beside_past [] h more r j beside = beside.0
beside_past (x ∷ vs) h more r j beside = beside_past vs h more r j beside.1

pub kept_past : (rules : Rules Entry) (vs : List (HeldKey Entry)) (h : HeldKey Entry) (more : List (HeldKey Entry)) (log : List Entry) → HoldersKnow rules (vs ++ h ∷ more) log → rules.Knows h.kind h.key h.own log
kept_past rules [] h more log kept = kept.0
kept_past rules (x ∷ vs) h more log kept = kept_past rules vs h more log kept.1

-- the one or the other keys
pub either_told : (log : List Entry) (b : Bool) (more vs : List (HeldKey Entry)) → AreToldIn log more → AreToldIn log vs → AreToldIn log (if b then more else vs)
either_told log true more vs ours theirs = ours
either_told log false more vs ours theirs = theirs

module _ (n : Name) (k : ℕ) where
  abbrev st : State
  st = start n

  abbrev At : Type 0
  At = List Entry × List (HeldKey Entry)

  abbrev key : ℕ → Tag → List Entry → List (HeldKey Entry)
  key s x own = record { kind = slots; key = s; own = own; label = x.0; note = x.1 } ∷ []

  -- the count that the word shows, and the keys that stand beside it
  pub same : (v p : ℕ) (seen : List Entry) (held : List (HeldKey Entry)) (t : At) (log : List Entry) → FoundAs (at_count n k) v p seen held [] t log → v ≡ count_word (count_in (after st log) k)
  same v p seen held t log found = found.shows ∙ ap count_word found.before.kept.0.1.0

  pub deposited : (v p : ℕ) (seen : List Entry) (held : List (HeldKey Entry)) (t : At) (log : List Entry) → FoundAs (at_count n k) v p seen held [] t log → AreKeysOf (deposit (after st log) k) t.1
  deposited v p seen held t log found = let stands = found.stands.0 in (stands.0 ∙ found.before.kept.0.1.1, stands.1, stands.2, stands.3)

  pub told_then : (v p : ℕ) (seen : List Entry) (held : List (HeldKey Entry)) (t : At) (log : List Entry) → FoundAs (at_count n k) v p seen held [] t log → AreToldIn log t.1
  told_then v p seen held t log found = all_told_later t.0 log t.1 found.before.kept.0.0 found.stands.1

  -- One event of the slot that counts batch b, which is of this block. The holder has other keys after the slot's, and others stand beside
  -- the count.
  module _ (p s : ℕ) (x : Tag) (b : ℕ) (slots_own own since log : List Entry) (vs more : List (HeldKey Entry)) (w : ℕ) (e : Deed) (pe : e.pass ≡ p) (c : IsCounting s e.event) (d : State × Answer)
      (touched : (j : ℕ) → changes_count (after st log) j e.event ≡ is_in j (batch_at (after st log) b)) (here : is_in k (batch_at (after st log) b) ≡ true) where
    not_here : (j : ℕ) → j ≢ k → changes_count (after st log) j e.event ≡ false
    not_here j other = touched j ∙ other_block k j (batch_at (after st log) b) here other

    abbrev held_all : List (HeldKey Entry)
    held_all = key s x slots_own ++ more

    covers : Covers st (pass_key p own ∷ in_step (at_count n k) held_all (since, vs)) log (Made e)
    covers zero j beside there = differ e.pass j (λ i. beside.0 (refl, i ∙ pe))
    covers (suc zero) j beside there = c.numbers
    covers (suc (suc zero)) j beside there = c.slot j ∙ differ s j (λ i. beside_past vs _ more slots j beside.1.1 (refl, i))
    covers (suc (suc (suc zero))) j beside there = c.head j
    covers (suc (suc (suc (suc zero)))) j beside there = c.link j
    covers (suc (suc (suc (suc (suc zero))))) j beside there = not_here j (λ i. beside.1.0 (refl, i))
    covers (suc (suc (suc (suc (suc (suc zero)))))) j beside there = c.home (after st log) j
    covers (suc (suc (suc (suc (suc (suc (suc zero))))))) j beside there = refl
    covers (suc (suc (suc (suc (suc (suc (suc (suc zero)))))))) j beside there = makes_none (after st log) e.event c.numbers
    covers (suc (suc (suc (suc (suc (suc (suc (suc (suc r))))))))) j beside there = refl

    names : NamesHeld st (pass_key p own ∷ in_step (at_count n k) held_all (since, vs)) log (Made e)
    names many was there = (
      subst (λ (z : ℕ). z < many 0) (sym pe) there.0,
      (λ j le. not_here j (λ i. let less : k < many counts = there.1.0 in omega (arith, i, le, less))),
      (λ j le. c.home (after st log) j),
      λ f le. refl,
    )

    made : (trades : Bool) → Does st log (Made e) d → EndsAmong [] log (Made e) → w ≡ count_word (count_in (after st (log ++ Made e ∷ [])) k)
        → AreKeysOf (deposit (after st (log ++ Made e ∷ [])) k) (with_list (if trades then more else vs) (log ++ Made e ∷ []))
        → AreToldIn (log ++ Made e ∷ []) (with_list (if trades then more else vs) (log ++ Made e ∷ []))
        → IsStep (at_count n k) p held_all [] w (Made e) trades (since, vs) own log
    made trades does ends shows stands theirs = record {
      fair = record { done = d; legal = does; covers = covers; names = names; one = none_named e.size (after st log) e.event d (step_of _ _ _ _ does) (λ j. c.home (after st log) j); leads = unled (after st log) (plans st log) (field_value log) e.event (λ j. c.head j); labels = no_labels (pass_key p own ∷ in_step (at_count n k) held_all (since, vs)) e.size (after st log) e.event d (step_of _ _ _ _ does) (λ j. c.home (after st log) j); says = says_none (after st log) e (λ j. c.home (after st log) j); places = no_place (after st log) (pass_key p own ∷ in_step (at_count n k) held_all (since, vs)) (Made e) (makes_none (after st log) e.event c.numbers) };
      its = pe;
      bears = c.births (after st log);
      ends = ends;
      covered = needs_none (after st log) e c.link;
      shows = shows;
      stands = (stands, theirs);
    }

  -- it is enough to see it for the slot's key, with others after it
  MayStepAs : (p s : ℕ) (x : Tag) (seen slots_own : List Entry) (more : List (HeldKey Entry)) (f : ℕ → ℕ) (e : Deed) (trades : ℕ → Bool) → Type 0
  MayStepAs p s x seen slots_own more f e trades =
      (v : ℕ) (t : At) (own log : List Entry) → FoundAs (at_count n k) v p seen (key s x slots_own ++ more) [] t log → HolderKnows st TheSlot s slots_own log
      → v ≡ count_word (count_in (after st log) k) → AreKeysOf (deposit (after st log) k) t.1 → AreToldIn log t.1
      → IsStep (at_count n k) p (key s x slots_own ++ more) [] (f v) (Made e) (trades v) t own log

  may_step : (p : ℕ) (seen : List Entry) (held more : List (HeldKey Entry)) (f : ℕ → ℕ) (e : Deed) (trades : ℕ → Bool) → is_one slots held ≡ true → are_of_blocks more ≡ true → MayStepAs p (key_of held) (tag_of held) seen (own_of held) more f e trades
      → MayStep (at_count n k) p seen (held ++ more) [] [] f (λ v log. Made e) trades
  unfolding MayStepAs
  may_step p seen held more f e trades one are steps =
      subst (λ (hs : List (HeldKey Entry)). MayStep (at_count n k) p seen (hs ++ more) [] [] f (λ v log. Made e) trades) (sym (only_is slots held one)) (
        (omega arith, blocks_within more are),
        (λ v t own log found.
            let hs = key (key_of held) (tag_of held) (own_of held) ++ more in
            steps v t own log found (kept_past (rules st) t.1 _ more log found.before.kept.1) (same v p seen hs t log found) (deposited v p seen hs t log found) (told_then v p seen hs t log found)),
      )

  -- the state after the batch came to this count
  abbrev pub come : State → ℕ → ℕ → ℤ → List ℕ → List ℕ → State × Answer
  come now s b count walk queue =
      let gives_up = is_zero count in let values = (batch_at now b).values in (
        record now {
          slots = slice_set now.slots s (record (slot_at now s) { call = Some (record { place = Rest (if gives_up then values else []) walk; queue = queue }) });
          batches = slice_set now.batches b (record { values = if gives_up then [] else values; count = count });
        },
        Counted count,
      )

  -- Slot s counts batch b, where the word holds v: its call goes on with this walk and queue.
  pub record Counting (s : ℕ) (own log : List Entry) (e : Deed) (f : ℕ → ℕ) (v b : ℕ) (walk queue : List ℕ) : Type 1 where
    pub count : ℤ
    pub counts_it : IsCounting s e.event
    pub touched : (j : ℕ) → changes_count (after st log) j e.event ≡ is_in j (batch_at (after st log) b)
    pub in_it : is_in k (batch_at (after st log) b) ≡ true
    pub held : IsHeld (after st log) b
    pub planned : b < length (plans st own)
    pub there : s < length (after st log).slots
    pub does : Does st log (Made e) (come (after st log) s b count walk queue)
    pub near : IsNear count
    pub is_count : count_in (come (after st log) s b count walk queue).0 k ≡ count
    pub word : f v ≡ count_word count

  module _ (s : ℕ) (own log : List Entry) (distinct : are_distinct (linked_values n.links) ≡ true) (legal : IsLegalList st log) (sound : IsSound (after st log)) (kept : HolderKnows st TheSlot s own log) where
    abbrev now : State
    now = after st log

    reached : IsReached now
    reached = reached_after n log distinct legal

    -- the batch, which is held, is of this block
    here : (b v : ℕ) → IsHeld now b → front_of st own b ≡ Some v → home_of v ≡ k → is_in k (batch_at now b) ≡ true
    here b v held front home =
        subst (λ (j : ℕ). is_in j (batch_at now b) ≡ true) home (held_front n log distinct legal b v held (front_grows st own log b kept.0 (front_there st own b v front) ∙ front))

    -- a count to which a batch comes is near, as that of each batch
    near_come : (e : Deed) (b : ℕ) (count : ℤ) (walk queue : List ℕ) → IsCounting s e.event → b < length now.batches → Does st log (Made e) (come now s b count walk queue) → IsNear count
    near_come e b count walk queue c less does =
        let d : State × Answer = come now s b count walk queue in
        let later = subst IsSound (after_push st log (Made e) d legal does) (sound_push st log (Made e) d legal does (none_named e.size now e.event d (step_of _ _ _ _ does) (c.home now)) sound) in
        subst IsNear (ap (λ (batch : Batch). batch.count) (get_or-set_same now.batches b (record { values = if is_zero count then [] else (batch_at now b).values; count = count }) no_batch less))
        (batch_near d.0 (reached_next now (timed_deed e) d reached does) later b)

    stands : (place : Place) (queue : List ℕ) → Stands (after st own) s place queue → Stands now s place queue
    stands place queue is = ap (λ slot. slot.call) (sym kept.1.1) ∙ is

    pub adding : (p size won v : ℕ) → v ≡ count_word (count_in now k) → (a : IsAdding st s own k won) → Counting s own log (record { pass = p; size = size; event = AddCount s; life = 0; kepts = [] }) (plus won) v a.batch [] a.queue
    adding p size won v word a =
        let b = a.batch in let e : Deed = record { pass = p; size = size; event = AddCount s; life = 0; kepts = [] } in let is = stands (Add b won) a.queue a.adding in
        let held = added_held now s b won a.queue is in let in_it = here b a.front held a.its_front a.its_home in
        let count : ℤ = (batch_at now b).count +ℤ pos won in let d : State × Answer = come now s b count [] a.queue in
        let does : Does st log (Made e) d = next_of size now (AddCount s) d (Step.added s b won a.queue d is refl) in
        let so = count_added size now s b won a.queue d k reached sound.one is does in_it in
        let near = near_come e b count [] a.queue (adds_count s) (in_range now k b in_it) does in
        record {
          count = count;
          counts_it = adds_count s;
          touched = λ j. ap (λ o. is_batch_in now j (added_batch o)) is;
          in_it = in_it;
          held = held;
          planned = front_there st own b a.front a.its_front;
          there = in_slots now s (Add b won) a.queue is;
          does = does;
          near = near;
          is_count = so.1 ∙ ap (λ (c : ℤ). c +ℤ pos won) so.0;
          word = ap (plus won) word ∙ word_added (count_in now k) won (count_near now reached sound k b in_it) (subst (λ (c : ℤ). IsNear (c +ℤ pos won)) (sym so.0) near) ∙ ap (λ (c : ℤ). count_word (c +ℤ pos won)) so.0;
        }

    pub subtracting : (p size v : ℕ) → v ≡ count_word (count_in now k) → (a : IsWalking st s own k) → Counting s own log (record { pass = p; size = size; event = SubCount s; life = 0; kepts = [] }) (minus 1) v a.batch a.walk a.queue
    subtracting p size v word a =
        let b = a.batch in let e : Deed = record { pass = p; size = size; event = SubCount s; life = 0; kepts = [] } in let is = stands (Rest [] (b ∷ a.walk)) a.queue a.walking in
        let held = walked_held now s b a.walk a.queue is in let in_it = here b a.front held a.its_front a.its_home in
        let count : ℤ = (batch_at now b).count -ℤ pos 1 in let d : State × Answer = come now s b count a.walk a.queue in
        let does : Does st log (Made e) d = next_of size now (SubCount s) d (Step.subtracted s b a.walk a.queue d is refl) in
        let so = count_subtracted size now s b a.walk a.queue d k reached sound.one is does in_it in
        let near = near_come e b count a.walk a.queue (subtracts_count s) (in_range now k b in_it) does in
        record {
          count = count;
          counts_it = subtracts_count s;
          touched = λ j. ap (λ o. is_batch_in now j (of_call walking_at o)) is;
          in_it = in_it;
          held = held;
          planned = front_there st own b a.front a.its_front;
          there = in_slots now s (Rest [] (b ∷ a.walk)) a.queue is;
          does = does;
          near = near;
          is_count = so.1 ∙ ap (λ (c : ℤ). c -ℤ pos 1) so.0;
          word = ap (minus 1) word ∙ word_subtracted (count_in now k) (count_near now reached sound k b in_it) (subst (λ (c : ℤ). IsNear (c -ℤ pos 1)) (sym so.0) near) ∙ ap (λ (c : ℤ). count_word (c -ℤ pos 1)) so.0;
        }

  -- whoever counts may take the step
  counting_step : (p : ℕ) (x : Tag) (v b : ℕ) (own mine since log : List Entry) (vs more : List (HeldKey Entry)) (f : ℕ → ℕ) (s : ℕ) (e : Deed) (walk queue : List ℕ) (trades : Bool) → e.pass ≡ p → IsLegalList st log → EndsAmong [] log (Made e)
      → (c : Counting s own log e f v b walk queue) → AreKeysOf (deposit (come (after st log) s b c.count walk queue).0 k) (if trades then more else vs)
      → AreToldIn log (if trades then more else vs)
      → IsStep (at_count n k) p (key s x own ++ more) [] (f v) (Made e) trades (since, vs) mine log
  counting_step p x v b own mine since log vs more f s e walk queue trades pe legal ends c stands field_value =
      let d : State × Answer = come (after st log) s b c.count walk queue in let push = after_push st log (Made e) d legal c.does in
      made p s x b own mine since log vs more (f v) e pe c.counts_it d c.touched c.in_it trades c.does ends
      (c.word ∙ ap count_word (sym c.is_count) ∙ ap (λ (z : State). count_word (count_in z k)) (sym push))
      (keys_later (deposit (after st (log ++ Made e ∷ [])) k) (if trades then more else vs) (log ++ Made e ∷ []) (subst (λ (z : State). AreKeysOf (deposit z k) (if trades then more else vs)) (sym push) stands))
      (all_told_renewed (log ++ Made e ∷ []) (if trades then more else vs) (log ++ Made e ∷ []) (all_told_later log (log ++ Made e ∷ []) (if trades then more else vs) (Made e ∷ [], refl) field_value))

  module _ (s : ℕ) (own log : List Entry) (distinct : are_distinct (linked_values n.links) ≡ true) (legal : IsLegalList st log) (sound : IsSound (after st log)) (kept : HolderKnows st TheSlot s own log) where
    abbrev before : State
    before = after st log

    added_keys : (p size won v : ℕ) (a : IsAdding st s own k won) (c : Counting s own log (record { pass = p; size = size; event = AddCount s; life = 0; kepts = [] }) (plus won) v a.batch [] a.queue) (vs more : List (HeldKey Entry)) → AreKeysOf (deposit before k) vs → AreKeysOf (slice_index_or (plans st own) a.batch no_plan).values more
        → AreKeysOf (deposit (come before s a.batch c.count [] a.queue).0 k) (if not (plus won v == 0) then more else vs)
    added_keys p size won v a c vs more are these =
        let b = a.batch in let r = reached_after n log distinct legal in let stands : Stands before s (Add b won) a.queue = ap (λ slot. slot.call) (sym kept.1.1) ∙ a.adding in
        let so = deposit_added size before s b won a.queue (come before s b c.count [] a.queue) k r sound.one stands c.does c.in_it in
        let count_is : (batch_at before b).count +ℤ pos won ≡ c.count = ap (λ (x : ℤ). x +ℤ pos won) (sym (count_alone before r sound.one k b c.in_it)) ∙ sym (count_added size before s b won a.queue (come before s b c.count [] a.queue) k r sound.one stands c.does c.in_it).1 ∙ c.is_count in
        let values : (batch_at before b).values ≡ (slice_index_or (plans st own) b no_plan).values =
        held_values n log distinct legal b c.held ∙ ap (λ (plan : Plan). plan.values) (sym (plan_stays st own log b kept.0 c.planned)) in
        let zero : (plus won v == 0) ≡ is_zero c.count = ap (λ (x : ℕ). x == 0) c.word ∙ word_zero c.count c.near in
        let none : vs ≡ [] = none_of vs (are.0 ∙ so.0) in
        subst (λ (z : Bool). AreKeysOf (deposit (come before s b c.count [] a.queue).0 k) (if not z then more else vs)) (sym zero)
        (subst (λ (values' : List ℕ). AreKeysOf values' (if not (is_zero c.count) then more else vs)) (sym (so.1 ∙ ap (λ (x : ℤ). if is_zero x then [] else (batch_at before b).values) count_is ∙ ap (λ (vals : List ℕ). if is_zero c.count then [] else vals) values))
        (either (is_zero c.count) none))
      where
        either : (z : Bool) → vs ≡ [] → AreKeysOf (if z then [] else (slice_index_or (plans st own) a.batch no_plan).values) (if not z then more else vs)
        either true none = (ap labels_of none, are.1, are.2, are.3)
        either false none = these

    taken_keys : (p size v : ℕ) (a : IsWalking st s own k) (c : Counting s own log (record { pass = p; size = size; event = SubCount s; life = 0; kepts = [] }) (minus 1) v a.batch a.walk a.queue) (vs : List (HeldKey Entry)) → AreKeysOf (deposit before k) vs
        → AreKeysOf (deposit (come before s a.batch c.count a.walk a.queue).0 k) (if minus 1 v == 0 then [] else vs)
    taken_keys p size v a c vs are =
        let b = a.batch in let r = reached_after n log distinct legal in let stands : Stands before s (Rest [] (b ∷ a.walk)) a.queue = ap (λ slot. slot.call) (sym kept.1.1) ∙ a.walking in
        let so = deposit_subtracted size before s b a.walk a.queue (come before s b c.count a.walk a.queue) k r sound.one stands c.does c.in_it in
        let count_is : (batch_at before b).count -ℤ pos 1 ≡ c.count = ap (λ (x : ℤ). x -ℤ pos 1) (sym (count_alone before r sound.one k b c.in_it)) ∙ sym (count_subtracted size before s b a.walk a.queue (come before s b c.count a.walk a.queue) k r sound.one stands c.does c.in_it).1 ∙ c.is_count in
        let zero : (minus 1 v == 0) ≡ is_zero c.count = ap (λ (x : ℕ). x == 0) c.word ∙ word_zero c.count c.near in
        subst (λ (z : Bool). AreKeysOf (deposit (come before s b c.count a.walk a.queue).0 k) (if z then [] else vs)) (sym zero)
        (subst (λ (values : List ℕ). AreKeysOf values (if is_zero c.count then [] else vs)) (sym (so.0 ∙ ap (λ (x : ℤ). if is_zero x then [] else deposit before k) count_is)) (either (is_zero c.count)))
      where
        either : (z : Bool) → AreKeysOf (if z then [] else deposit before k) (if z then [] else vs)
        either true = (refl, refl, refl, refl)
        either false = are

  pub may_add_count : (p size won : ℕ) (seen : List Entry) (held more : List (HeldKey Entry)) → is_one slots held ≡ true → (a : IsAdding st (key_of held) (own_of held) k won) → AreKeysOf (slice_index_or (plans st (own_of held)) a.batch no_plan).values more → AreToldIn seen more
      → MayStep (at_count n k) p seen (held ++ more) [] [] (plus won) (λ v log. Made (record { pass = p; size = size; event = AddCount (key_of held); life = 0; kepts = [] })) (λ v. not (plus won v == 0))
  unfolding MayStepAs
  may_add_count p size won seen held more one a these its =
      may_step p seen held more (plus won) (record { pass = p; size = size; event = AddCount (key_of held); life = 0; kepts = [] }) (λ v. not (plus won v == 0)) one these.1 (λ v t own log found kept word are field_value.
      let c = adding (key_of held) (own_of held) log found.distinct found.before.legal found.before.sound kept p size won v word a in
      counting_step p (tag_of held) v a.batch (own_of held) own t.0 log t.1 more (plus won) (key_of held) (record { pass = p; size = size; event = AddCount (key_of held); life = 0; kepts = [] }) [] a.queue (not (plus won v == 0)) refl found.before.legal (λ q i. absurd i) c
      (added_keys (key_of held) (own_of held) log found.distinct found.before.legal found.before.sound kept p size won v a c t.1 more are these)
      (either_told log (not (plus won v == 0)) more t.1 (all_told_later seen log more found.before.grows its) field_value))

  pub may_subtract_count : (p size : ℕ) (seen : List Entry) (held : List (HeldKey Entry)) → is_one slots held ≡ true → IsWalking st (key_of held) (own_of held) k
      → MayStep (at_count n k) p seen (held ++ []) [] [] (minus 1) (λ v log. Made (record { pass = p; size = size; event = SubCount (key_of held); life = 0; kepts = [] })) (λ v. minus 1 v == 0)
  unfolding MayStepAs
  may_subtract_count p size seen held one a =
      may_step p seen held [] (minus 1) (record { pass = p; size = size; event = SubCount (key_of held); life = 0; kepts = [] }) (λ v. minus 1 v == 0) one refl (λ v t own log found kept word are field_value.
      let c = subtracting (key_of held) (own_of held) log found.distinct found.before.legal found.before.sound kept p size v word a in
      counting_step p (tag_of held) v a.batch (own_of held) own t.0 log t.1 [] (minus 1) (key_of held) (record { pass = p; size = size; event = SubCount (key_of held); life = 0; kepts = [] }) a.walk a.queue (minus 1 v == 0) refl found.before.legal (λ q i. absurd i) c
      (taken_keys (key_of held) (own_of held) log found.distinct found.before.legal found.before.sound kept p size v a c t.1 are)
      (either_told log (minus 1 v == 0) [] t.1 tt field_value))
