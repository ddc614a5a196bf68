-- Steps on a head's word by a slot's holder meet what is asked of a step.
use Rattle.std.proofs.Common.{◌≡◌, ◌≢◌, ℕ, zero, suc, ◌+◌, ◌<◌, ◌≤◌, Bool, true, false, ◌==◌, ◌&&◌, ◌||◌, nat_le, nat_lt, unwrap_or, if◌then◌else◌, List, [], ◌∷◌, ◌++◌, length, get_or, set, Option, Some, None, refl, sym, ◌∙◌, ap, subst, ◌⊎◌, inl, inr, arith}
use Rattle.std.proofs.lemmas.List.{get_or-set_same, get_or_past}
use Rattle.std.proofs.lemmas.Bool.{cases_lt}
use mathlib.Core.List.{IsPrefix}
use base.Growing.{prefix_trans}
use Rattle.atomic_table.proofs.Lists as kit
use Rattle.seize_machine.specs.Machine.State.{State, Slot, Progress, Place, Head, Inactive, Active, Mark, Look, Try, Out, Rest, no_slot, slot_at, head_at, is_active, is_idle, waiting_at, linked_values, are_distinct}
use Rattle.seize_machine.specs.Machine.Event.{Event, Enter, Insert, ReadHead, SwapOut}
use Rattle.seize_machine.specs.Machine.Next.{is_due, look, next, of_call, set_head}
use Rattle.seize_machine.specs.Machine.History.{IsReached, done_by, first_or_none}
use Rattle.seize_machine.specs.Machine.Frames.{changes_slot, changes_numbers, changes_head_of, changes_link, slots_added}
use Rattle.seize_machine.specs.declared.machine.event.Answer.{Answer}
use Rattle.seize_machine.specs.declared.machine.event.Answer.TheVariants.{Done}
use Rattle.seize_machine.specs.declared.machine.event.Try.{Try as Insertion}
use Rattle.seize_machine.specs.declared.machine.event.Try.TheVariants.{Won, Lost}
use Rattle.seize_machine.proofs.Facts.{Step, Stands, and_true, eq_true, go_on, head_frame, heads_length, is_true, next_of, slots_length, some_is, step_of}
use Rattle.seize_words.specs.Atomic.{after_exchange}
use Rattle.seize_book.specs.Blocks.{Plan, block_for, block_number, head_word, list_word, plans, word_of}
use Rattle.seize_book.specs.Chains.{FieldsLeadOn, Leads, field_value, first_field, front_block, insertion_fields, insertion_value, next_field, written_at}
use Rattle.seize_book.specs.Book.{HolderKnows, TheSlot, Does, IsLegalList, after, births, heads, rules, slots}
use Rattle.seize_book.specs.Entry.{Entry, Made, Used, Deed, timed_deed}
use Rattle.seize_book.specs.Fair.{Covers, pass_key}
use Rattle.seize_words.specs.Heads.{IsTrying, found_end, reads, reads_at}
use Rattle.seize_book.specs.Homes.{changes_count, changes_home, home_of}
use Rattle.seize_book.specs.Laws.{IsAmong, life}
use Rattle.seize_book.specs.Ledger.{HeldKey, HoldersKnow}
use Rattle.seize_book.specs.Private.{Tag, is_one, key_of, tag_of, own_of}
use Rattle.seize_words.specs.Stepping.{EndsAmong, FoundAs, IsStep, MayStep, in_step}
use Rattle.seize_book.specs.Tokens.{Name, start}
use Rattle.seize_words.specs.Words.{Site}
use Rattle.seize_book.proofs.Lives.{legal_first, life_kept}
use Rattle.seize_book.proofs.Pairs.{needs_none}
use Rattle.seize_book.proofs.Facts.{equal, unequal, after_push, legal_push, reached_after, AllLess, block_stays, blocks_stay, head_stays, legal_prefix, plan_stays, plans_long, saw_there, tried_there, differ, only_is, makes_none, no_place, no_labels, none_named, says_none}

abbrev pub at_head : Name → ℕ → Site
at_head n m = record { name = n; kind = heads; number = m }

-- What an event of slot s may change that is a step on the head of slot m.
record Touches (s m : ℕ) (event : Event) : Type 1 where
  pub slot : (k : ℕ) → k ≢ s → changes_slot k event ≡ false
  pub numbers : changes_numbers event ≡ false
  pub head : (k : ℕ) → k ≢ m → changes_head_of k event ≡ false
  pub link : (k : ℕ) → changes_link k event ≡ false
  pub others : (st : State) (k : ℕ) → (changes_count st k event ≡ false) × (changes_home st k event ≡ false)
  pub births : (st : State) → births st event ≡ []

in_use : (st : State) (s : ℕ) → (slot_at st s ≡ no_slot → ⊥) → s < length st.slots
in_use st s there = go (cases_lt s (length st.slots))
  where
    go : (s < length st.slots) ⊎ (length st.slots ≤ s) → s < length st.slots
    go (inl l) = l
    go (inr le) = absurd (there (get_or_past st.slots s no_slot le))

pub slots_grow : (st : State) (a b : List Entry) → IsPrefix a b → IsLegalList st b → length (after st a).slots ≤ length (after st b).slots
slots_grow st a b p l = subst (λ (z : List Entry). length (after st a).slots ≤ length (after st z).slots) p.1 (from st a p.0 (subst (IsLegalList st) (sym p.1) l))
  where
    more : (st : State) (log : List Entry) → IsLegalList st log → length st.slots ≤ length (after st log).slots
    more st [] l = omega arith
    more st (Used u ∷ log) l = more st log l
    more st (Made e ∷ log) l =
        let w = legal_first st e log l in
        let one : length (w.0).0.slots ≡ length st.slots + slots_added st e.event = slots_length e.size st e.event w.0 (step_of _ _ _ _ w.1) in
        let rest : length (w.0).0.slots ≤ length (after (w.0).0 log).slots = more (w.0).0 log w.3 in
        let same : length (after (done_by next st (timed_deed e)).0 log).slots ≡ length (after (w.0).0 log).slots = ap (λ (d : State × Answer). length (after d.0 log).slots) w.2 in
        omega (arith, one, rest, same)

    from : (st : State) (a more_ : List Entry) → IsLegalList st (a ++ more_) → length (after st a).slots ≤ length (after st (a ++ more_)).slots
    from st [] more_ l = more st more_ l
    from st (Used u ∷ a) more_ l = from st a more_ l
    from st (Made e ∷ a) more_ l = from (done_by next st (timed_deed e)).0 a more_ (and_true _ _ l).1

prefix_push : (log : List Entry) (e : Entry) → IsPrefix log (log ++ e ∷ [])
prefix_push log e = (e ∷ [], refl)

module _ (n : Name) (m : ℕ) where
  abbrev st : State
  st = start n

  abbrev At : Type 0
  At = List Entry × List (HeldKey Entry)

  -- a head that the event leaves shows the same
  unchanged : (log : List Entry) (e : Deed) (d : State × Answer) → are_distinct (linked_values n.links) ≡ true → IsLegalList st log → Does st log (Made e) d → changes_head_of m e.event ≡ false
      → head_word st log m ≡ head_word st (log ++ Made e ∷ []) m
  unchanged log e d distinct legal does same =
      head_stays n m log (log ++ Made e ∷ []) distinct (legal_push st log (Made e) d legal does)
      (prefix_push log (Made e), sym (ap (λ (z : State). head_at z m) (after_push st log (Made e) d legal does) ∙ head_frame m e.size (after st log) e.event d (step_of e.size (after st log) e.event d does) same))

  -- what the word holds is what the head shows
  shown : (v p : ℕ) (seen : List Entry) (held : List (HeldKey Entry)) (t : At) (log : List Entry) → FoundAs (at_head n m) v p seen held [] t log → v ≡ head_word st log m
  shown v p seen held t log found = found.shows ∙ head_stays n m t.0 log found.distinct found.before.legal found.before.kept.0

  abbrev key : ℕ → Tag → List Entry → List (HeldKey Entry)
  key s x own = record { kind = slots; key = s; own = own; label = x.0; note = x.1 } ∷ []

  -- One event of the slot, with the slot's key.
  module _ (p s : ℕ) (x : Tag) (slots_own own since log : List Entry) (lives : List ℕ) (w : ℕ) (e : Deed) (pe : e.pass ≡ p) (t : Touches s m e.event) (d : State × Answer) where
    covers : Covers st (pass_key p own ∷ in_step (at_head n m) (key s x slots_own) (since, [])) log (Made e)
    covers zero k b there = differ e.pass k (λ i. b.0 (refl, i ∙ pe))
    covers (suc zero) k b there = t.numbers
    covers (suc (suc zero)) k b there = t.slot k (λ i. b.1.1.0 (refl, i))
    covers (suc (suc (suc zero))) k b there = t.head k (λ i. b.1.0 (refl, i))
    covers (suc (suc (suc (suc zero)))) k b there = t.link k
    covers (suc (suc (suc (suc (suc zero))))) k b there = (t.others (after st log) k).0
    covers (suc (suc (suc (suc (suc (suc zero)))))) k b there = (t.others (after st log) k).1
    covers (suc (suc (suc (suc (suc (suc (suc zero))))))) k b there = refl
    covers (suc (suc (suc (suc (suc (suc (suc (suc zero)))))))) k b there = makes_none (after st log) e.event t.numbers
    covers (suc (suc (suc (suc (suc (suc (suc (suc (suc r))))))))) k b there = refl

    made : Does st log (Made e) d → Leads (after st log) (plans st log) (field_value log) e.event → EndsAmong lives log (Made e) → w ≡ head_word st (log ++ Made e ∷ []) m → IsStep (at_head n m) p (key s x slots_own) lives w (Made e) false (since, []) own log
    made does leads ends shows = record {
      fair = record { done = d; legal = does; covers = covers; names = λ many was there. (subst (λ (z : ℕ). z < many 0) (sym pe) there.0, (λ k le. (t.others (after st log) k).0), (λ k le. (t.others (after st log) k).1), λ f le. refl); leads = leads; one = none_named e.size (after st log) e.event d (step_of _ _ _ _ does) (λ k. (t.others (after st log) k).1); labels = no_labels (pass_key p own ∷ in_step (at_head n m) (key s x slots_own) (since, [])) e.size (after st log) e.event d (step_of _ _ _ _ does) (λ k. (t.others (after st log) k).1); says = says_none (after st log) e (λ k. (t.others (after st log) k).1); places = no_place (after st log) (pass_key p own ∷ in_step (at_head n m) (key s x slots_own) (since, [])) (Made e) (makes_none (after st log) e.event t.numbers) };
      its = pe;
      bears = t.births (after st log);
      ends = ends;
      covered = needs_none (after st log) e t.link;
      shows = shows;
      stands = refl;
    }

  -- it is enough to see it for the slot's key alone, and with no key beside the head's
  MayStepAs : (p s : ℕ) (x : Tag) (seen slots_own : List Entry) (lives : List ℕ) (f : ℕ → ℕ) (entry : ℕ → List Entry → Entry) → Type 0
  MayStepAs p s x seen slots_own lives f entry =
      (v : ℕ) (t : At) (own log : List Entry) → FoundAs (at_head n m) v p seen (key s x slots_own) [] t log → HolderKnows st TheSlot s slots_own log → v ≡ head_word st log m
      → IsStep (at_head n m) p (key s x slots_own) lives (f v) (entry v log) false (t.0, []) own log

  may_step : (p : ℕ) (seen : List Entry) (held : List (HeldKey Entry)) (lives : List ℕ) (f : ℕ → ℕ) (entry : ℕ → List Entry → Entry) → is_one slots held ≡ true
      → MayStepAs p (key_of held) (tag_of held) seen (own_of held) lives f entry → MayStep (at_head n m) p seen held [] lives f entry (λ v. false)
  unfolding MayStepAs
  may_step p seen held lives f entry one steps =
      subst (λ (hs : List (HeldKey Entry)). MayStep (at_head n m) p seen hs [] lives f entry (λ v. false)) (sym (only_is slots held one)) (
        (omega arith, tt),
        (λ v t own log found.
            let kept = subst (λ (vs : List (HeldKey Entry)). HoldersKnow (rules st) (vs ++ key (key_of held) (tag_of held) (own_of held)) log) found.stands found.before.kept.1 in
            subst (λ (vs : List (HeldKey Entry)). IsStep (at_head n m) p (key (key_of held) (tag_of held) (own_of held)) lives (f v) (entry v log) false (t.0, vs) own log) (sym found.stands)
            (steps v t own log found kept.0 (shown v p seen (key (key_of held) (tag_of held) (own_of held)) t log found))),
      )

  -- A read.

  in_turn_is : (x note k : ℕ) → is_due x note k ≡ true → (k ≡ x) ⊎ ((note ≤ x) × (x < k))
  in_turn_is x note k h = go (is_true (k == x)) h
    where
      past : (nat_le note x && nat_lt x k) ≡ true → (note ≤ x) × (x < k)
      past h = let both = and_true _ _ h in let a : nat_le note x ≡ true = both.0 in let b : nat_lt x k ≡ true = both.1 in (grind arith, grind arith)

      go : ((k == x) ≡ true) ⊎ ((k == x) ≡ false) → is_due x note k ≡ true → (k ≡ x) ⊎ ((note ≤ x) × (x < k))
      go (inl e) h = inl (eq_true k x e)
      go (inr d) h = inr (past (ap (λ (b : Bool). b || (nat_le note x && nat_lt x k)) (sym d) ∙ h))

  -- what the machine makes of it
  read_done : (size s : ℕ) (now : State) → reads (slot_at now s) m ≡ true → m < length now.slots → (d : State × Answer) × (next size now (ReadHead s m) ≡ Some d)
  read_done size s now may there = go (slot_at now s).call refl may
    where
      by_place : (place : Place) (queue : List ℕ) → Stands now s place queue → unwrap_or (reads_at m place queue) false ≡ true
          → (d : State × Answer) × (next size now (ReadHead s m) ≡ Some d)
      by_place (Mark x note marks) queue stands h = (_, next_of size now (ReadHead s m) _ (Step.marked s m x note marks queue stands there (in_turn_is x note m h)))
      by_place (Look b won k later) queue stands h =
          subst (λ (j : ℕ). (d : State × Answer) × (next size now (ReadHead s j) ≡ Some d)) (sym (eq_true m k h)) (_, next_of size now (ReadHead s k) _ (Step.looked_at s b won k later queue stands))
      by_place _ queue stands h = absurd (cc)

      go : (call : Option Progress) → (slot_at now s).call ≡ call → unwrap_or (of_call (reads_at m) call) false ≡ true
          → (d : State × Answer) × (next size now (ReadHead s m) ≡ Some d)
      go None e h = absurd (cc)
      go (Some call) e h = by_place call.place call.queue e h

  read_touches : (s : ℕ) → Touches s m (ReadHead s m)
  read_touches s = record { slot = λ k d. differ s k d; numbers = refl; head = λ k d. refl; link = λ k. refl; others = λ st k. (refl, refl); births = λ st. refl }

  pub may_read : (p size : ℕ) (seen : List Entry) (held : List (HeldKey Entry)) → is_one slots held ≡ true → reads (slot_at (after st (own_of held)) (key_of held)) m ≡ true → m < length (after st seen).slots
      → MayStep (at_head n m) p seen held [] [] (λ v. v) (λ v log. Made (record { pass = p; size = size; event = ReadHead (key_of held) m; life = 0; kepts = [] })) (λ v. false)
  unfolding MayStepAs
  may_read p size seen held one may there =
      may_step p seen held [] (λ v. v) (λ v log. Made (record { pass = p; size = size; event = ReadHead (key_of held) m; life = 0; kepts = [] })) one (λ v t own log found kept word.
      let s = key_of held in let le : length (after st seen).slots ≤ length (after st log).slots = slots_grow st seen log found.before.grows found.before.legal in
      let done = read_done size s (after st log) (ap (λ (x : Slot). reads x m) (sym kept.1.1) ∙ may) (omega (arith, le)) in
      let e : Deed = record { pass = p; size = size; event = ReadHead s m; life = 0; kepts = [] } in
      made p s (tag_of held) (own_of held) own t.0 log [] v e refl (read_touches s) done.0 done.1 tt (λ a i. absurd i) (word ∙ unchanged log e done.0 found.distinct found.before.legal done.1 refl))

  -- The slot becomes active.

  enter_touches : (s : ℕ) → s ≡ m → Touches s m (Enter s)
  enter_touches s is = record { slot = λ k d. differ s k d; numbers = refl; head = λ k d. differ s k (λ e. d (e ∙ is)); link = λ k. refl; others = λ st k. (refl, refl); births = λ st. refl }

  -- a slot with a call, or in use, is there, and so is its head
  head_there : (log : List Entry) (s : ℕ) → are_distinct (linked_values n.links) ≡ true → IsLegalList st log → (slot_at (after st log) s ≡ no_slot → ⊥) → s < length (after st log).heads
  head_there log s distinct legal there = let l : s < length (after st log).slots = in_use (after st log) s there in
      let same : length (after st log).heads ≡ length (after st log).slots = heads_length (after st log) (reached_after n log distinct legal) in omega (arith, l, same)

  set_word : (log : List Entry) (e : Deed) (d : State × Answer) (h : Head) (now : List Head) → IsLegalList st log → Does st log (Made e) d → d.0.heads ≡ set now m h → m < length now
      → head_at (after st (log ++ Made e ∷ [])) m ≡ h
  set_word log e d h now legal does is there =
      ap (λ (z : State). head_at z m) (after_push st log (Made e) d legal does) ∙ ap (λ (hs : List Head). get_or hs m Inactive) is ∙ get_or-set_same now m h Inactive there

  pub may_enter : (p size a : ℕ) (seen : List Entry) (held : List (HeldKey Entry)) → is_one slots held ≡ true → is_idle (slot_at (after st (own_of held)) (key_of held)) ≡ true
      → is_active (head_at (after st (own_of held)) (key_of held)) ≡ false → key_of held ≡ m
      → (lives : List ℕ) → MayStep (at_head n m) p seen held [] lives (λ v. 1) (λ v log. Made (record { pass = p; size = size; event = Enter (key_of held); life = a; kepts = [] })) (λ v. false)
  unfolding MayStepAs
  may_enter p size a seen held one idle off is lives =
      may_step p seen held lives (λ v. 1) (λ v log. Made (record { pass = p; size = size; event = Enter (key_of held); life = a; kepts = [] })) one (λ v t own log found kept word.
      let s = key_of held in let now : State = after st log in let e : Deed = record { pass = p; size = size; event = Enter s; life = a; kepts = [] } in
      let idle_now : is_idle (slot_at now s) ≡ true = ap is_idle (sym kept.1.1) ∙ idle in
      let d : State × Answer = (set_head now s (Active []), Done) in
      let does : Does st log (Made e) d = next_of size now (Enter s) d (Step.entered s idle_now (sym kept.1.2 ∙ off)) in
      let there : s < length now.heads = head_there log s found.distinct found.before.legal (λ x. let y : true ≡ false = sym idle_now ∙ ap is_idle x in cc) in
      let head = set_word log e d (Active []) now.heads found.before.legal does (ap (λ (k : ℕ). set now.heads k (Active [])) is) (subst (λ (k : ℕ). k < length now.heads) is there) in
      made p s (tag_of held) (own_of held) own t.0 log lives 1 e refl (enter_touches s is) d does tt (λ a i. absurd i) (sym (ap (word_of (λ b. block_for st (log ++ Made e ∷ []) b m)) head)))

  -- The slot leaves or refreshes.

  leave_touches : (s : ℕ) → s ≡ m → Touches s m (SwapOut s)
  leave_touches s is = record { slot = λ k d. differ s k d; numbers = refl; head = λ k d. differ s k (λ e. d (e ∙ is)); link = λ k. refl; others = λ st k. (refl, refl); births = λ st. refl }

  left_word : (stays : Bool) (block : ℕ → ℕ) → (if stays then 1 else 0) ≡ word_of block (if stays then Active [] else Inactive)
  left_word true block = refl
  left_word false block = refl

  pub may_leave : (p size a : ℕ) (stays : Bool) (queue seen_lives : List ℕ) (seen : List Entry) (held : List (HeldKey Entry)) → is_one slots held ≡ true
      → Stands (after st (own_of held)) (key_of held) (Out stays) queue → key_of held ≡ m → IsAmong seen_lives (life (key_of held) (own_of held))
      → MayStep (at_head n m) p seen held [] seen_lives (λ v. if stays then 1 else 0) (λ v log. Made (record { pass = p; size = size; event = SwapOut (key_of held); life = a; kepts = [] })) (λ v. false)
  unfolding MayStepAs
  may_leave p size a stays queue lives seen held one stands is among =
      may_step p seen held lives (λ v. if stays then 1 else 0) (λ v log. Made (record { pass = p; size = size; event = SwapOut (key_of held); life = a; kepts = [] })) one (λ v t own log found kept word.
      let s = key_of held in let now : State = after st log in let e : Deed = record { pass = p; size = size; event = SwapOut s; life = a; kepts = [] } in let h : Head = if stays then Active [] else Inactive in
      let stands_now : Stands now s (Out stays) queue = ap (λ (x : Slot). x.call) (sym kept.1.1) ∙ stands in
      let d : State × Answer = (go_on (set_head now s h) s (record { place = Rest [] (waiting_at (head_at now s)); queue = queue }), Done) in
      let does : Does st log (Made e) d = next_of size now (SwapOut s) d (Step.swapped_out s stays queue stands_now) in
      let there : s < length now.heads = head_there log s found.distinct found.before.legal (λ x. let y : Option.None ≡ (slot_at now s).call = sym (ap (λ (z : Slot). z.call) x) in let z : Option.None ≡ Some (record { place = Out stays; queue = queue }) = y ∙ stands_now in cc) in
      let head = set_word log e d h now.heads found.before.legal does (ap (λ (k : ℕ). set now.heads k h) is) (subst (λ (k : ℕ). k < length now.heads) is there) in
      let its : life s (own_of held) ≡ life s log = life_kept st s (own_of held) log kept in
      made p s (tag_of held) (own_of held) own t.0 log lives (if stays then 1 else 0) e refl (leave_touches s is) d does tt (λ b i. subst (IsAmong lives) (its ∙ only_that (life s log) b i) among)
      (left_word stays (λ b. block_for st (log ++ Made e ∷ []) b m) ∙ sym (ap (word_of (λ b. block_for st (log ++ Made e ∷ []) b m)) head)))
    where
      only_that : (x b : ℕ) → IsAmong (x ∷ []) b → x ≡ b
      only_that x b (inl e) = e
      only_that x b (inr t) = absurd t

  -- An insertion, won or lost.

  insert_touches : (s : ℕ) (end : Insertion) → Touches s m (Insert s m end)
  insert_touches s Won = record { slot = λ k d. differ s k d; numbers = refl; head = λ k d. differ m k d; link = λ k. refl; others = λ st k. (refl, refl); births = λ st. refl }
  insert_touches s Lost = record { slot = λ k d. differ s k d; numbers = refl; head = λ k d. refl; link = λ k. refl; others = λ st k. (refl, refl); births = λ st. refl }

  -- a head's word that is that of a list is an active head's
  word_active : (block : ℕ → ℕ) (h : Head) (x : ℕ) (bs : List ℕ) (other : ℕ → ℕ) → word_of block h ≡ list_word other bs → (waiting : List ℕ) × (h ≡ Active waiting)
  word_active block (Active waiting) x bs other e = (waiting, refl)
  word_active block Inactive x [] other e = absurd (omega (arith, e))
  word_active block Inactive x (b ∷ bs) other e = absurd (omega (arith, e))

  -- what a slot has written before it tries
  abbrev pub Wrote : ℕ → List Entry → ℕ → ℕ → Type 0
  Wrote s own next batch = insertion_fields (after st own) (plans st own) (field_value own) s ≡ Some (next, front_block (plans st own) batch)

  abbrev tried_batch : Place → ℕ
  tried_batch (Try b won k later saw) = b
  tried_batch _ = 0

  module _ (p size seen_word block : ℕ) (seen : List Entry) (held : List (HeldKey Entry)) (tries : IsTrying st (key_of held) (own_of held) m seen_word block)
      (wrote : Wrote (key_of held) (own_of held) seen_word tries.batch)
      (v : ℕ) (t : At) (own log : List Entry) (found : FoundAs (at_head n m) v p seen (key (key_of held) (tag_of held) (own_of held)) [] t log) (kept : HolderKnows st TheSlot (key_of held) (own_of held) log) (word : v ≡ head_word st log m) where
    abbrev s : ℕ
    s = key_of held

    abbrev then_own : List Entry
    then_own = own_of held

    abbrev now : State
    now = after st log

    abbrev inserts : Insertion → Deed
    inserts end = record { pass = p; size = size; event = Insert s m end; life = 0; kepts = [] }

    own_legal : IsLegalList st then_own
    own_legal = legal_prefix st then_own log kept.0 found.before.legal

    stands_own : Stands (after st then_own) s (Try tries.batch tries.won m tries.later tries.saw) tries.queue
    stands_own = tries.trying

    stands_now : Stands now s (Try tries.batch tries.won m tries.later tries.saw) tries.queue
    stands_now = ap (λ (x : Slot). x.call) (sym kept.1.1) ∙ tries.trying

    planned : (bs : List ℕ) → AllLess (length (after st then_own).batches) bs → AllLess (length (plans st then_own)) bs
    planned bs there = subst (λ (k : ℕ). AllLess k bs) (sym (plans_long n then_own own_legal)) there

    reached_own : IsReached (after st then_own)
    reached_own = reached_after n then_own found.distinct own_legal

    -- what the slot saw shows still what it showed then
    saw_word : seen_word ≡ list_word (λ b. block_for st log b m) tries.saw
    saw_word = tries.is_seen ∙ blocks_stay n then_own log m tries.saw kept.0 (planned tries.saw (saw_there (after st then_own) reached_own s tries.batch tries.won m tries.later tries.saw tries.queue stands_own))

    abbrev Step_ : ℕ → Insertion → Type 0
    Step_ w end = IsStep (at_head n m) p (key s (tag_of held) then_own) [] w (Made (record { pass = p; size = size; event = Insert s m end; life = 0; kepts = [] })) false (t.0, []) own log

    lost : v ≢ seen_word → Step_ v Lost
    lost differs =
        let d : State × Answer = (go_on now s (record { place = Look tries.batch tries.won m tries.later; queue = tries.queue }), Done) in
        let other : head_at now m ≢ Active tries.saw = λ x. differs (word ∙ ap (word_of (λ b. block_for st log b m)) x ∙ sym saw_word) in
        let does : Does st log (Made (inserts Lost)) d = next_of size now (Insert s m Lost) d (Step.lost s m tries.batch tries.won tries.later tries.saw tries.queue stands_now other) in
        made p s (tag_of held) then_own own t.0 log [] v (inserts Lost) refl (insert_touches s Lost) d does tt (λ a i. absurd i) (word ∙ unchanged log (inserts Lost) d found.distinct found.before.legal does refl)

    won : v ≡ seen_word → Step_ (block + 2) Won
    won same =
        let active = word_active (λ b. block_for st log b m) (head_at now m) v tries.saw (λ b. block_for st log b m) (sym word ∙ same ∙ saw_word) in let waiting : List ℕ = active.0 in let b : ℕ = tries.batch in
        let d : State × Answer = (go_on (set_head now m (Active (b ∷ waiting))) s (record { place = look b (tries.won + 1) tries.later; queue = tries.queue }), Done) in
        let does : Does st log (Made (inserts Won)) d = next_of size now (Insert s m Won) d (Step.inserted s m b tries.won tries.later tries.saw tries.queue waiting stands_now active.1) in
        let there : m < length now.heads = head_within waiting active.1 in
        let head = set_word log (inserts Won) d (Active (b ∷ waiting)) now.heads found.before.legal does refl there in
        let its : b < length (plans st then_own) = subst (λ (k : ℕ). b < k) (sym (plans_long n then_own own_legal)) (tried_there (after st then_own) s b tries.won m tries.later tries.saw tries.queue reached_own stands_own) in
        let stays = block_stays st then_own (log ++ Made (inserts Won) ∷ []) b m (prefix_trans then_own log (log ++ Made (inserts Won) ∷ []) kept.0 (prefix_push log (Made (inserts Won)))) its in
        made p s (tag_of held) then_own own t.0 log [] (block + 2) (inserts Won) refl (insert_touches s Won) d does (leads waiting active.1 (sym same ∙ word ∙ ap (word_of (λ c. block_for st log c m)) active.1)) (λ a i. absurd i)
        (ap (λ (k : ℕ). k + 2) (tries.is_block ∙ stays) ∙ sym (ap (word_of (λ b. block_for st (log ++ Made (inserts Won) ∷ []) b m)) head))
      where
        -- what the slot wrote is what waits there, and the block of the batch's front
        leads : (waiting : List ℕ) → head_at now m ≡ Active waiting → seen_word ≡ list_word (λ c. block_for st log c m) waiting → Leads now (plans st log) (field_value log) (Insert s m Won)
        leads waiting active seen_is c won later saw queue there stands head =
            let b = tries.batch in
            let same_call = some_is _ _ (sym stands_now ∙ stands) in
            let same_head : waiting ≡ there = ap waiting_at (sym active ∙ head) in
            let now_written : Some (field_value log (next_field (home_of (insertion_value (plans st log) b m))), field_value log (first_field (home_of (insertion_value (plans st log) b m)))) ≡ insertion_fields now (plans st log) (field_value log) s = ap (of_call (written_at (plans st log) (field_value log))) (sym stands_now) in
            let both = some_is _ _ (now_written ∙ sym kept.1.3 ∙ wrote) in
            let its : b < length (plans st then_own) = subst (λ (k : ℕ). b < k) (sym (plans_long n then_own own_legal)) (tried_there (after st then_own) s b tries.won m tries.later tries.saw tries.queue reached_own stands_own) in
            let goal : FieldsLeadOn (plans st log) (field_value log) m b waiting = (ap (λ (t : ℕ × ℕ). t.0) both ∙ seen_is, ap (λ (t : ℕ × ℕ). t.1) both ∙ ap (λ (plan : Plan). block_number (unwrap_or (first_or_none plan.values) 0)) (plan_stays st then_own log b kept.0 its)) in
            subst (λ (t : ℕ × List ℕ). FieldsLeadOn (plans st log) (field_value log) m t.0 t.1) (λ i. (tried_batch (same_call i).place, same_head i)) goal

        head_within : (waiting : List ℕ) → head_at now m ≡ Active waiting → m < length now.heads
        head_within waiting e = go (cases_lt m (length now.heads))
          where
            go : (m < length now.heads) ⊎ (length now.heads ≤ m) → m < length now.heads
            go (inl l) = l
            go (inr le) = absurd (let x : Inactive ≡ Active waiting = sym (get_or_past now.heads m Inactive le) ∙ e in cc)

    either_way : Step_ (after_exchange seen_word (block + 2) v) (found_end seen_word v)
    either_way = kit.exchanged v seen_word (block + 2) (λ x. Step_ x (found_end seen_word v))
        (λ same. subst (Step_ (block + 2)) (sym (ap (λ (c : Bool). if c then Won else Lost) (equal v seen_word same))) (won same))
        (λ differs. subst (Step_ v) (sym (ap (λ (c : Bool). if c then Won else Lost) (unequal v seen_word differs))) (lost differs))

  pub may_insert : (p size seen_word block : ℕ) (seen : List Entry) (held : List (HeldKey Entry)) → is_one slots held ≡ true → (tries : IsTrying st (key_of held) (own_of held) m seen_word block) → Wrote (key_of held) (own_of held) seen_word tries.batch
      → MayStep (at_head n m) p seen held [] [] (after_exchange seen_word (block + 2)) (λ v log. Made (record { pass = p; size = size; event = Insert (key_of held) m (found_end seen_word v); life = 0; kepts = [] })) (λ v. false)
  unfolding MayStepAs
  may_insert p size seen_word block seen held one tries wrote =
      may_step p seen held [] (after_exchange seen_word (block + 2)) (λ v log. Made (record { pass = p; size = size; event = Insert (key_of held) m (found_end seen_word v); life = 0; kepts = [] })) one
      (λ v t own log found kept word. either_way p size seen_word block seen held tries wrote v t own log found kept word)

  -- What the word held is what the list said of the head just before.
  pub found_word : (v p : ℕ) (seen : List Entry) (held : List (HeldKey Entry)) (t : At) (log : List Entry) → FoundAs (at_head n m) v p seen held [] t log → v ≡ head_word st log m
  found_word = shown
