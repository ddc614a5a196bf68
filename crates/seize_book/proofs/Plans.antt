-- Plans of batches: what is fixed when a batch is detached stays so, and a head's word follows from the list.
use Rattle.std.proofs.Common.{◌≡◌, ◌≢◌, ℕ, zero, suc, ◌+◌, ◌<◌, ◌≤◌, ℤ, pos, ◌+ℤ◌, ◌-ℤ◌, ◌==◌, nat_lt, if◌then◌else◌, Bool, true, false, ◌&&◌, replicate, List, [], ◌∷◌, ◌++◌, length, get_or, set, Option, Some, refl, sym, ◌∙◌, ap, subst, ◌⊎◌, inl, inr, arith, append_assoc}
use Rattle.std.proofs.lemmas.List.{get_or_past, get_or_append_left, get_or-set_same, get_or-set_other, length-set}
use Rattle.std.proofs.lemmas.Bool.{cases_lt}
use mathlib.Core.List.{IsPrefix}
use native.Mathlib.Decide.{ℕ_discrete}
use Rattle.seize_machine.specs.Machine.State.{State, Slot, Progress, Head, Inactive, Active, Mark, Try, Rest, no_batch, no_slot, slot_at, is_active, head_at, batch_at, waiting_at, linked_values, are_distinct, opening}
use Rattle.seize_machine.specs.Machine.Event.{Event, event_slot}
use Rattle.seize_machine.specs.Machine.Next.{next, look, looked, marked_place, taken_call}
use Rattle.seize_machine.specs.Machine.History.{IsReached, Timed, done_by}
use Rattle.seize_machine.specs.Machine.Frames.{batches_added, changes_head_of, changes_slot}
use Rattle.seize_machine.specs.declared.machine.event.Answer.{Answer}
use Rattle.seize_machine.proofs.Facts.{Step, Stands, counted, eq_true, slot_frame, some_is, step_of, batches_length, reached_holds, tries_tidy, head_frame, is_true, and_true}
use Rattle.seize_book.specs.Blocks.{Plan, no_plan, planned_by, plans, block_in, block_for, list_word, word_of, head_word}
use Rattle.seize_book.specs.Book.{HolderKnows, TheHead, IsLegalList, after}
use Rattle.seize_book.specs.Entry.{Entry, Made, Used, timed_deed}
use Rattle.seize_book.specs.Tokens.{Name, start}
use Rattle.seize_book.proofs.Lists.{reached_after, taken_either}
use Rattle.seize_book.proofs.Lives.{legal_first}

-- Each batch detached has its plan.

pub plans_append : (st : State) (a b : List Entry) → plans st (a ++ b) ≡ plans st a ++ plans (after st a) b
plans_append st [] b = refl
plans_append st (Used u ∷ a) b = plans_append st a b
plans_append st (Made e ∷ a) b =
    let now = (done_by next st (timed_deed e)).0 in
    ap (λ (ps : List Plan). planned_by st e.event ++ ps) (plans_append now a b) ∙ sym (append_assoc (planned_by st e.event) (plans now a) (plans (after now a) b))

pub planned_many : (st : State) (event : Event) → length (planned_by st event) ≡ batches_added event
planned_many st (Event.Detach s) = refl
planned_many st _ = refl

length_both : {X : Type 0} (xs ys : List X) → length (xs ++ ys) ≡ length xs + length ys
length_both [] ys = omega arith
length_both (x ∷ xs) ys = let rest : length (xs ++ ys) ≡ length xs + length ys = length_both xs ys in omega (arith, rest)

many_plans : (st : State) (log : List Entry) → IsLegalList st log → length st.batches + length (plans st log) ≡ length (after st log).batches
many_plans st [] l = omega arith
many_plans st (Used u ∷ log) l = many_plans st log l
many_plans st (Made e ∷ log) l =
    let w = legal_first st e log l in let now = (done_by next st (timed_deed e)).0 in
    let same : length now.batches ≡ length st.batches + length (planned_by st e.event) =
    ap (λ (d : State × Answer). length d.0.batches) w.2 ∙ batches_length e.size st e.event w.0 (step_of _ _ _ _ w.1) ∙ ap (λ (k : ℕ). length st.batches + k) (sym (planned_many st e.event)) in
    let rest : length now.batches + length (plans now log) ≡ length (after now log).batches = many_plans now log (subst (λ (d : State × Answer). IsLegalList d.0 log) (sym w.2) w.3) in
    let both : length (planned_by st e.event ++ plans now log) ≡ length (planned_by st e.event) + length (plans now log) = length_both (planned_by st e.event) (plans now log) in
    omega (arith, same, rest, both)

pub plans_long : (n : Name) (log : List Entry) → IsLegalList (start n) log → length (plans (start n) log) ≡ length (after (start n) log).batches
plans_long n log l = let m : 0 + length (plans (start n) log) ≡ length (after (start n) log).batches = many_plans (start n) log l in omega (arith, m)

-- and it stays
pub plan_stays : (st : State) (own log : List Entry) (b : ℕ) → IsPrefix own log → b < length (plans st own) → get_or (plans st own) b no_plan ≡ get_or (plans st log) b no_plan
plan_stays st own log b grows there =
    sym (get_or_append_left (plans st own) (plans (after st own) grows.0) no_plan b there) ∙ ap (λ (ps : List Plan). get_or ps b no_plan) (sym (plans_append st own grows.0) ∙ ap (plans st) grows.1)

pub block_stays : (st : State) (own log : List Entry) (b m : ℕ) → IsPrefix own log → b < length (plans st own) → block_for st own b m ≡ block_for st log b m
block_stays st own log b m grows there = ap (λ (p : Plan). block_in p m) (plan_stays st own log b grows there)

-- Batches that wait at a head were detached.

abbrev pub AllLess : ℕ → List ℕ → Type 0
AllLess n [] = Unit {0}
AllLess n (b ∷ bs) = (b < n) × AllLess n bs

more_less : (n k : ℕ) (bs : List ℕ) → n ≤ k → AllLess n bs → AllLess k bs
more_less n k [] le h = tt
more_less n k (b ∷ bs) le h = (omega (arith, h.0), more_less n k bs le h.1)

abbrev pub WaitingThere : State → Type 0
WaitingThere st = (m : ℕ) → AllLess (length st.batches) (waiting_at (head_at st m))

-- slot by slot, with other heads
heads_there : (n : ℕ) (heads : List Head) (s : ℕ) (h : Head) → ((m : ℕ) → AllLess n (waiting_at (get_or heads m Inactive))) → AllLess n (waiting_at h) → (m : ℕ) → AllLess n (waiting_at (get_or (set heads s h) m Inactive))
heads_there n heads s h old new m = go (ℕ_discrete m s)
  where
    within : (s < length heads) ⊎ (length heads ≤ s) → AllLess n (waiting_at (get_or (set heads s h) s Inactive))
    within (inl l) = subst (λ (x : Head). AllLess n (waiting_at x)) (sym (get_or-set_same heads s h Inactive l)) new
    within (inr le) = subst (λ (x : Head). AllLess n (waiting_at x)) (sym (get_or_past (set heads s h) s Inactive (subst (λ (k : ℕ). k ≤ s) (sym (length-set heads s h)) le))) tt

    go : Dec (m ≡ s) → AllLess n (waiting_at (get_or (set heads s h) m Inactive))
    go (yes e) = subst (λ (k : ℕ). AllLess n (waiting_at (get_or (set heads s h) k Inactive))) (sym e) (within (cases_lt s (length heads)))
    go (no d) = subst (λ (x : Head). AllLess n (waiting_at x)) (sym (get_or-set_other heads s m h Inactive d)) (old m)

-- a batch with values is one
pub has_values : (st : State) (b : ℕ) → 1 ≤ length (batch_at st b).values → b < length st.batches
has_values st b h = go (cases_lt b (length st.batches))
  where
    go : (b < length st.batches) ⊎ (length st.batches ≤ b) → b < length st.batches
    go (inl l) = l
    go (inr le) = let none : length (batch_at st b).values ≡ 0 = ap (λ x. length x.values) (get_or_past st.batches b no_batch le) in absurd (omega (arith, none))

pub tried_there : (st : State) (s b won m : ℕ) (later saw queue : List ℕ) → IsReached st → Stands st s (Try b won m later saw) queue → b < length st.batches
tried_there st s b won m later saw queue r stands = has_values st b (let t = (tries_tidy st s b won m later saw queue r stands).1 in omega (arith, t))

pub waiting_there : (st : State) → IsReached st → WaitingThere st
waiting_there = reached_holds WaitingThere begins goes
  where
    begins : (slots : ℕ) (links : List (Option ℕ)) → are_distinct (linked_values links) ≡ true → WaitingThere (opening slots links)
    begins slots links distinct m = subst (λ (h : Head). AllLess 0 (waiting_at h)) (sym (all_inactive slots m)) tt
      where
        all_inactive : (slots m : ℕ) → get_or (replicate slots Inactive) m Inactive ≡ Inactive
        all_inactive zero m = refl
        all_inactive (suc slots) zero = refl
        all_inactive (suc slots) (suc m) = all_inactive slots m

    -- where the event leaves the head
    kept : (st : State) (t : Timed) (d : State × Answer) (m : ℕ) → Step t.size st t.event d → changes_head_of m t.event ≡ false → WaitingThere st → AllLess (length d.0.batches) (waiting_at (head_at d.0 m))
    kept st t d m step same old =
        let many : length d.0.batches ≡ length st.batches + batches_added t.event = batches_length t.size st t.event d step in
        more_less (length st.batches) (length d.0.batches) (waiting_at (head_at d.0 m)) (omega (arith, many)) (subst (λ (h : Head). AllLess (length st.batches) (waiting_at h)) (sym (head_frame m t.size st t.event d step same)) (old m))

    changed : (size : ℕ) (st : State) (event : Event) (d : State × Answer) (m : ℕ) → IsReached st → Step size st event d → changes_head_of m event ≡ true → WaitingThere st → AllLess (length d.0.batches) (waiting_at (head_at d.0 m))
    changed size st event _ m r (Step.entered s idle off) c old = heads_there (length st.batches) st.heads s (Active []) old tt m
    changed size st event _ m r (Step.inserted s k b won later saw queue waiting e head_is) c old =
        heads_there (length st.batches) st.heads k (Active (b ∷ waiting)) old (tried_there st s b won k later saw queue r e, subst (λ (h : Head). AllLess (length st.batches) (waiting_at h)) head_is (old k)) m
    changed size st event _ m r (Step.swapped_out s true queue e) c old = heads_there (length st.batches) st.heads s (Active []) old tt m
    changed size st event _ m r (Step.swapped_out s false queue e) c old = heads_there (length st.batches) st.heads s Inactive old tt m
    changed size st event _ m r _ c old = absurd (cc)

    goes : (st : State) (t : Timed) (d : State × Answer) → IsReached st → Step t.size st t.event d → WaitingThere st → WaitingThere d.0
    goes st t d r step old m = go (is_true (changes_head_of m t.event))
      where
        go : (changes_head_of m t.event ≡ true) ⊎ (changes_head_of m t.event ≡ false) → AllLess (length d.0.batches) (waiting_at (head_at d.0 m))
        go (inl c) = changed t.size st t.event d m r step c old
        go (inr n) = kept st t d m step n old

-- And so were those that a call saw which is about to insert: it read them at a head.

abbrev pub SawThere : State → Type 0
SawThere st = (s b won m : ℕ) (later saw queue : List ℕ) → Stands st s (Try b won m later saw) queue → AllLess (length st.batches) saw

-- a slot's record after a write, where it has a call
written : (slots : List Slot) (s : ℕ) (x : Slot) (call : Progress) → (get_or (set slots s x) s no_slot).call ≡ Some call → x.call ≡ Some call
written slots s x call h = go (cases_lt s (length slots))
  where
    go : (s < length slots) ⊎ (length slots ≤ s) → x.call ≡ Some call
    go (inl l) = ap (λ (y : Slot). y.call) (sym (get_or-set_same slots s x no_slot l)) ∙ h
    go (inr le) = absurd (let none : Option.None ≡ Some call = ap (λ (y : Slot). y.call) (sym (get_or_past (set slots s x) s no_slot (subst (λ (k : ℕ). k ≤ s) (sym (length-set slots s x)) le))) ∙ h in cc)

-- this call is not under way at a slot that is added
added_none : (slots : List Slot) (x : Slot) (s : ℕ) (call : Progress) → x.call ≢ Some call → (get_or (slots ++ x ∷ []) s no_slot).call ≡ Some call → (get_or slots s no_slot).call ≡ Some call
added_none [] x zero call none h = absurd (none h)
added_none [] x (suc s) call none h = h
added_none (y ∷ slots) x zero call none h = h
added_none (y ∷ slots) x (suc s) call none h = added_none slots x s call none h

looked_saw : (n : ℕ) (h : Head) (b won k : ℕ) (later : List ℕ) (b' won' m' : ℕ) (later' saw : List ℕ) → AllLess n (waiting_at h) → looked h b won k later ≡ Try b' won' m' later' saw → AllLess n saw
looked_saw n Inactive b won k [] b' won' m' later' saw old e = absurd (cc)
looked_saw n Inactive b won k (j ∷ later) b' won' m' later' saw old e = absurd (cc)
looked_saw n (Active waiting) b won k later b' won' m' later' saw old e = let is : waiting ≡ saw = cc in subst (AllLess n) is old

-- a step on a slot leads to such a place only by a read of a head
module _ (size : ℕ) (st : State) (waiting : WaitingThere st) (old : SawThere st) (b won m : ℕ) (later saw queue : List ℕ) where
  abbrev tries : Progress
  tries = record { place = Try b won m later saw; queue = queue }

  abbrev Goal : Type 0
  Goal = AllLess (length st.batches) saw

  at_try : (x : Progress) → Some x ≡ Some tries → x.place ≡ Try b won m later saw
  at_try x e = ap (λ (y : Progress). y.place) (some_is _ _ e)

  not_marked : (active : Bool) (k note : ℕ) (marks batch q : List ℕ) → Some (record { place = marked_place active k note marks batch; queue = q }) ≡ Some tries → ⊥
  not_marked false k note marks batch q e = let p = at_try _ e in cc
  not_marked true k note marks batch q e = go (nat_lt (length marks) (length batch)) e
    where
      go : (c : Bool) → Some (record { place = (if c then Mark (k + 1) note (marks ++ k ∷ []) else Rest [] []); queue = q }) ≡ Some tries → ⊥
      go true e = let p = at_try _ e in cc
      go false e = let p = at_try _ e in cc

  not_taken : (slots : ℕ) (batch : List ℕ) → taken_call size slots batch ≢ Some tries
  not_taken slots batch = taken_either (λ (o : Option Progress). o ≢ Some tries) size slots batch (λ e. cc) (λ e. let p = at_try _ e in cc)

  not_looked : (c w : ℕ) (marks q : List ℕ) → Some (record { place = look c w marks; queue = q }) ≡ Some tries → ⊥
  not_looked c w [] q e = let p = at_try _ e in cc
  not_looked c w (k ∷ marks) q e = let p = at_try _ e in cc

  counted_rest : (s c : ℕ) (count : ℤ) (walk q : List ℕ) (d : State × Answer) → counted st s c count walk q ≡ Some d → Stands d.0 s (Try b won m later saw) queue → ⊥
  counted_rest s c count walk q d is h =
      let same = some_is _ _ is in let p = at_try _ (written st.slots s _ tries (ap (λ (x : State × Answer). (slot_at x.0 s).call) same ∙ h)) in cc

  saw_step : (event : Event) (d : State × Answer) → Step size st event d → Stands d.0 (event_slot event) (Try b won m later saw) queue → Goal
  saw_step event _ (Step.took_new s is free) h = old s b won m later saw queue (added_none st.slots _ s tries (not_taken (length st.slots + 1) st.rest) h)
  saw_step event _ (Step.took_old s there off free) h = absurd (not_taken (length st.slots) st.rest (written st.slots s _ tries h))
  saw_step event _ (Step.gave s idle off ends) h = absurd (let e = written st.slots s _ tries h in cc)
  saw_step event _ (Step.gathered s idle off alone some) h = absurd (let at = at_try _ (written st.slots s _ tries h) in cc)
  saw_step event _ (Step.entered s idle off) h = old s b won m later saw queue h
  saw_step event _ (Step.begun_retire s v idle may) h = absurd (let at = at_try _ (written st.slots s _ tries h) in cc)
  saw_step event _ (Step.begun_other s job place idle (inl p) may) h = absurd (let at = at_try _ (written st.slots s _ tries h) in cc)
  saw_step event _ (Step.begun_other s job place idle (inr (inl p)) may) h = absurd (let at = at_try _ (written st.slots s _ tries h) in cc)
  saw_step event _ (Step.begun_other s job place idle (inr (inr (inl p))) may) h = absurd (let at = at_try _ (written st.slots s _ tries h) in cc)
  saw_step event _ (Step.begun_other s job place idle (inr (inr (inr p))) may) h = absurd (let at = at_try _ (written st.slots s _ tries h) in cc)
  saw_step event _ (Step.put s v from before after_ place stands how (inl p) is) h = absurd (let at = at_try _ (written st.slots s _ tries h) in let e = p.0 in cc)
  saw_step event _ (Step.put s v from before after_ place stands how (inr p) is) h = absurd (let at = at_try _ (written st.slots s _ tries h) in cc)
  saw_step event _ (Step.marked s k x note marks q stands there turn) h = absurd (not_marked (is_active (head_at st k)) k note marks (slot_at st s).batch q (written st.slots s _ tries h))
  saw_step event _ (Step.looked_at s c w k rest q stands) h =
      let w' = written st.slots s _ tries h in looked_saw (length st.batches) (head_at st k) c w k rest b won m later saw (waiting k) (ap (λ (x : Progress). x.place) (some_is _ _ w'))
  saw_step event _ (Step.detached s x note marks q stands le) h = absurd (not_looked (length st.batches) 0 marks q (written st.slots s _ tries h))
  saw_step event _ (Step.inserted s k c w rest was q list stands head_is) h = absurd (not_looked c (w + 1) rest q (written st.slots s _ tries h))
  saw_step event _ (Step.lost s k c w rest was q stands other) h = absurd (let at = at_try _ (written st.slots s _ tries h) in cc)
  saw_step event _ (Step.added s c w q d stands is) h = absurd (counted_rest s c ((batch_at st c).count +ℤ pos w) [] q d is h)
  saw_step event _ (Step.subtracted s c walk q d stands is) h = absurd (counted_rest s c ((batch_at st c).count -ℤ pos 1) walk q d is h)
  saw_step event _ (Step.swapped_out s stays q stands) h = absurd (let at = at_try _ (written st.slots s _ tries h) in cc)
  saw_step event _ (Step.handed s v puts given_ walk q stands fresh) h = absurd (let at = at_try _ (written st.slots s _ tries h) in cc)
  saw_step event _ (Step.returned s stands) h = absurd (let e = written st.slots s _ tries h in cc)
  saw_step event _ (Step.read s l may) h = old s b won m later saw queue h
  saw_step event _ (Step.exchanged s l exchange new may fresh how) h = old s b won m later saw queue h
  saw_step event _ (Step.compared s l exchange may how) h = old s b won m later saw queue h

pub saw_there : (st : State) → IsReached st → SawThere st
saw_there = reached_holds SawThere begins goes
  where
    begins : (slots : ℕ) (links : List (Option ℕ)) → are_distinct (linked_values links) ≡ true → SawThere (opening slots links)
    begins slots links distinct s b won m later saw queue h = absurd (none slots s h)
      where
        none : (slots s : ℕ) → (get_or (replicate slots no_slot) s no_slot).call ≡ Some (record { place = Try b won m later saw; queue = queue }) → ⊥
        none zero s h = cc
        none (suc slots) zero h = cc
        none (suc slots) (suc s) h = none slots s h

    goes : (st : State) (t : Timed) (d : State × Answer) → IsReached st → Step t.size st t.event d → SawThere st → SawThere d.0
    goes st t d r step old s b won m later saw queue h = more_less (length st.batches) (length d.0.batches) saw many (go (is_true (event_slot t.event == s)))
      where
        many : length st.batches ≤ length d.0.batches
        many = let is : length d.0.batches ≡ length st.batches + batches_added t.event = batches_length t.size st t.event d step in omega (arith, is)

        go : ((event_slot t.event == s) ≡ true) ⊎ ((event_slot t.event == s) ≡ false) → AllLess (length st.batches) saw
        go (inl c) = saw_step t.size st (waiting_there st r) old b won m later saw queue t.event d step (subst (λ (k : ℕ). Stands d.0 k (Try b won m later saw) queue) (sym (eq_true (event_slot t.event) s c)) h)
        go (inr n) = old s b won m later saw queue (ap (λ (x : Slot). x.call) (sym (slot_frame s t.size st t.event d step (other t.event n))) ∙ h)
          where
            other : (event : Event) → (event_slot event == s) ≡ false → changes_slot s event ≡ false
            other (Event.ReadLink i l) n = refl
            other (Event.ExchangeLink i l exchange) n = refl
            other _ n = n

-- What a head's word shows stays while nothing changes the head.

pub blocks_stay : (n : Name) (own log : List Entry) (m : ℕ) (bs : List ℕ) → IsPrefix own log → AllLess (length (plans (start n) own)) bs
    → list_word (λ b. block_for (start n) own b m) bs ≡ list_word (λ b. block_for (start n) log b m) bs
blocks_stay n own log m [] grows there = refl
blocks_stay n own log m (b ∷ bs) grows there = ap (λ (k : ℕ). k + 2) (block_stays (start n) own log b m grows there.0)

words_stay : (n : Name) (own log : List Entry) (m : ℕ) (h : Head) → IsPrefix own log → AllLess (length (plans (start n) own)) (waiting_at h)
    → word_of (λ b. block_for (start n) own b m) h ≡ word_of (λ b. block_for (start n) log b m) h
words_stay n own log m Inactive grows there = refl
words_stay n own log m (Active waiting) grows there = blocks_stay n own log m waiting grows there

-- a beginning of a legal list is legal

both_true : (x y : Bool) → x ≡ true → y ≡ true → (x && y) ≡ true
both_true true y e f = f
both_true false y e f = absurd (cc)

legal_beginning : (st : State) (own more : List Entry) → IsLegalList st (own ++ more) → IsLegalList st own
legal_beginning st [] more l = refl
legal_beginning st (Used u ∷ own) more l = legal_beginning st own more l
legal_beginning st (Made e ∷ own) more l = let a = and_true _ _ l in both_true _ _ a.0 (legal_beginning (done_by next st (timed_deed e)).0 own more a.1)

pub legal_prefix : (st : State) (own log : List Entry) → IsPrefix own log → IsLegalList st log → IsLegalList st own
legal_prefix st own log grows l = legal_beginning st own grows.0 (subst (IsLegalList st) (sym grows.1) l)

pub head_stays : (n : Name) (m : ℕ) (since log : List Entry) → are_distinct (linked_values n.links) ≡ true → IsLegalList (start n) log → HolderKnows (start n) TheHead m since log → head_word (start n) since m ≡ head_word (start n) log m
head_stays n m since log distinct l kept =
    let own = legal_prefix (start n) since log kept.0 l in
    let there = subst (λ (k : ℕ). AllLess k (waiting_at (head_at (after (start n) since) m))) (sym (plans_long n since own)) (waiting_there (after (start n) since) (reached_after n since distinct own) m) in
    words_stay n since log m (head_at (after (start n) since) m) kept.0 there ∙ ap (word_of (λ b. block_for (start n) log b m)) kept.1
