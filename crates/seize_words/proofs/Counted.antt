-- What is known after a step on a count's word by a slot's holder.
use Rattle.std.proofs.Common.{◌≡◌, ℕ, zero, suc, ◌^◌, ◌<◌, arith, ℤ, pos, ◌+ℤ◌, ◌-ℤ◌, Bool, true, false, not, ◌==◌, if◌then◌else◌, List, [], ◌∷◌, ◌++◌, take, Some, refl, sym, ◌∙◌, ap, subst, ◌⊎◌, inl, inr}
use Rattle.std.specs.Prelude.{drop, slice_index_or}
use Rattle.std.specs.List.{Contains}
use Rattle.std.proofs.lemmas.List.{get_or-set_same}
use Rattle.seize_machine.specs.Machine.Frames.{changes_slot}
use Rattle.seize_machine.specs.Machine.State.{State, Slot, Add, Rest, has, no_slot, slot_at, head_at, batch_at, is_active}
use Rattle.seize_machine.specs.Machine.Event.{AddCount, Event, SubCount}
use Rattle.seize_machine.specs.Machine.History.{IsReached}
use Rattle.seize_machine.specs.Machine.Next.{is_zero, next}
use Rattle.seize_machine.specs.declared.machine.event.Answer.{Answer}
use Rattle.seize_machine.proofs.Facts.{Stands, adds_above_zero, batched_named, is_true, some_is}
use Rattle.seize_book.specs.Adding.{private}
use Rattle.seize_words.specs.Atomic.{deed, entries, minus, plus}
use Rattle.seize_book.specs.Blocks.{Plan, count_word, front_of, no_plan, plans}
use Rattle.seize_book.specs.Book.{IsLegalList, TheSlot, HolderKnows, after, counts, kind_of, rules, slots}
use Rattle.seize_words.specs.Counts.{Counts, GivesUp, IsAdding, IsWalking, values_in}
use Rattle.seize_book.specs.Deposits.{deposit}
use Rattle.seize_book.specs.Entry.{Deed, Entry}
use Rattle.seize_book.specs.Homes.{count_in}
use Rattle.seize_book.specs.Ledger.{HeldKey, HoldersKnow, with_list}
use Rattle.seize_book.specs.Others.{IsLastIn}
use Rattle.seize_book.specs.Passes.{IsSamePass}
use Rattle.seize_book.specs.Private.{is_one, key_of, own_of, AreKeysOf, are_of_blocks, labels_of}
use Rattle.seize_book.specs.Slots.{IsAfter, IsKeyOfBook, Moves, active_of, own_list, slot_number}
use Rattle.seize_words.specs.Stepping.{HasStepped, MayStep, held_then}
use Rattle.seize_book.specs.Tokens.{Name, start}
use Rattle.seize_words.specs.Words.{Site}
use Rattle.seize_book.specs.declared.book.pass.Pass.{Pass}
use Rattle.seize_book.specs.declared.book.slot_key.SlotKey.{SlotKey}
use mathlib.Core.List.{IsPrefix}
use Rattle.seize_book.specs.Kept.{AreToldIn}
use Rattle.seize_book.proofs.Facts.{all_told_later, all_told_renewed, count_added, count_alone, count_subtracted, word_zero, deposit_added, deposit_subtracted, held_values, after_push, equal, reached_after, unequal, moves, plan_stays, after_one, only, only_is, blocks_later, keys_later, labels_later, none_of, are_later, still_closed}
use Rattle.seize_words.proofs.Counting.{Counting, adding, at_count, come, deposited, kept_past, same, subtracting, told_then}
use Rattle.seize_book.specs.Linked.{are_joined, are_linked}

-- a count's word, named by the pass's book
pub is_at_count : (word : Site) (n : Name) → word.name ≡ n → word.kind ≡ counts → word ≡ at_count n word.number
is_at_count word n e k = ap (λ (t : Name × ℕ). record { name = t.0; kind = t.1; number = word.number }) (λ j. (e j, k j))

-- a call stands so in the pass's book too
abbrev pub adding_in : (m n : Name) (s : ℕ) (own : List Entry) (k won : ℕ) → m ≡ n → IsAdding (start m) s own k won → IsAdding (start n) s own k won
adding_in m n s own k won book a = record {
  batch = a.batch;
  front = a.front;
  queue = a.queue;
  adding = subst (λ (z : Name). (slot_at (after (start z) own) s).call ≡ Some (record { place = Add a.batch won; queue = a.queue })) book a.adding;
  its_front = subst (λ (z : Name). front_of (start z) own a.batch ≡ Some a.front) book a.its_front;
  its_home = a.its_home;
}

-- and a batch has its values there too
pub in_pass : (m n : Name) (own : List Entry) (b : ℕ) → m ≡ n → (slice_index_or (plans (start m) own) b no_plan).values ≡ (slice_index_or (plans (start n) own) b no_plan).values
in_pass m n own b book = ap (λ (z : Name). (slice_index_or (plans (start z) own) b no_plan).values) book

abbrev pub walking_in : (m n : Name) (s : ℕ) (own : List Entry) (k : ℕ) → m ≡ n → IsWalking (start m) s own k → IsWalking (start n) s own k
walking_in m n s own k book a = record {
  batch = a.batch;
  front = a.front;
  walk = a.walk;
  queue = a.queue;
  walking = subst (λ (z : Name). (slot_at (after (start z) own) s).call ≡ Some (record { place = Rest [] (a.batch ∷ a.walk); queue = a.queue })) book a.walking;
  its_front = subst (λ (z : Name). front_of (start z) own a.batch ≡ Some a.front) book a.its_front;
  its_home = a.its_home;
}

-- a step on a count's word by a slot's holder, who has other keys after the slot's
abbrev pub Steps : (k : ℕ) (key : SlotKey) (more held' : List (HeldKey Entry)) (pass pass' : Pass) (f : ℕ → ℕ) (v : ℕ) (event : Event) (trades : ℕ → Bool) → Type 0
Steps k key more held' pass pass' f v event trades = HasStepped (at_count pass.name k) pass.id pass.seen pass'.seen (key.keys.held ++ more) held' [] v (f v) (entries pass 0 (λ v log. event)) trades

module _ (k : ℕ) (key : SlotKey) (more held' : List (HeldKey Entry)) (pass pass' : Pass) (f : ℕ → ℕ) (v : ℕ) (event : Event) (trades : ℕ → Bool) (step : Steps k key more held' pass pass' f v event trades) where
  abbrev st : State
  st = start pass.name

  abbrev now : State
  now = after st step.log

  -- what the slot's key said just before
  kept_then : HolderKnows st TheSlot (slot_number key) (own_list key) step.log
  kept_then =
      kept_past (rules st) step.since.1 _ more step.log
      (subst (λ (hs : List (HeldKey Entry)). HoldersKnow (rules st) (step.since.1 ++ (hs ++ more)) step.log) (only_is slots key.keys.held key.one) step.found.before.kept.1)

  its_word : v ≡ count_word (count_in now k)
  its_word = same pass.name k v pass.id pass.seen (key.keys.held ++ more) step.since step.log step.found

  -- the keys that stood beside the count
  stood : AreKeysOf (deposit now k) step.since.1
  stood = deposited pass.name k v pass.id pass.seen (key.keys.held ++ more) step.since step.log step.found

  -- the slot's key comes first afterwards, and then those that stood beside the count, if they were traded
  slots_key : take 1 held' ≡ with_list key.keys.held pass'.seen
  slots_key = ap (take 1) step.keys ∙ either (trades v)
    where
      either : (b : Bool) → take 1 (with_list (held_then (kind_of counts) b step.since.1 (key.keys.held ++ more)) pass'.seen) ≡ with_list key.keys.held pass'.seen
      either b =
          subst (λ (hs : List (HeldKey Entry)). take 1 (with_list (held_then (kind_of counts) b step.since.1 (hs ++ more)) pass'.seen) ≡ with_list hs pass'.seen) (sym (only_is slots key.keys.held key.one)) (of_one b)
        where
          of_one : (b : Bool) → take 1 (with_list (held_then (kind_of counts) b step.since.1 (only slots key.keys.held ++ more)) pass'.seen) ≡ with_list (only slots key.keys.held) pass'.seen
          of_one true = refl
          of_one false = refl

  other_keys : drop 1 held' ≡ with_list (if trades v then step.since.1 else more) pass'.seen
  other_keys = ap (drop 1) step.keys ∙ either (trades v)
    where
      either : (b : Bool) → drop 1 (with_list (held_then (kind_of counts) b step.since.1 (key.keys.held ++ more)) pass'.seen) ≡ with_list (if b then step.since.1 else more) pass'.seen
      either b =
          subst (λ (hs : List (HeldKey Entry)). drop 1 (with_list (held_then (kind_of counts) b step.since.1 (hs ++ more)) pass'.seen) ≡ with_list (if b then step.since.1 else more) pass'.seen) (sym (only_is slots key.keys.held key.one)) (of_one b)
        where
          of_one : (b : Bool) → drop 1 (with_list (held_then (kind_of counts) b step.since.1 (only slots key.keys.held ++ more)) pass'.seen) ≡ with_list (if b then step.since.1 else more) pass'.seen
          of_one true = refl
          of_one false = refl

  -- the slot's holder added the event
  pub moved : (key' : SlotKey) → key'.keys.name ≡ key.keys.name → key'.keys.held ≡ take 1 held' → changes_slot (slot_number key) event ≡ true → IsKeyOfBook key pass → IsAfter key pass' key' × Moves key key' step.noted.before (private pass event) step.noted.later step.noted.answer
  moved key' name is its book =
      let noted = step.noted in let e : Deed = deed pass 0 (λ v log. event) v step.log in
      let one = after_one slots key.keys.held pass'.seen key.one in let all = is ∙ slots_key in
      let number = ap key_of all ∙ one.0 in let own = ap own_of all ∙ one.1 in
      let legal : IsLegalList st noted.before = subst (IsLegalList st) (sym step.is_log) step.found.before.legal in
      let kept = subst (HolderKnows st TheSlot (slot_number key) (own_list key)) (sym step.is_log) kept_then in (
        (name, number, own),
        moves key key' pass.name e noted.before (noted.later, noted.answer) book (name ∙ book) its legal noted.does kept number (own ∙ noted.appended),
      )

-- the step that adds to a count, and the one that counts it down
pub added : (k won : ℕ) (key : SlotKey) (more held' : List (HeldKey Entry)) (pass pass' : Pass) (v : ℕ) (trades : ℕ → Bool) (step : Steps k key more held' pass pass' (plus won) v (AddCount (slot_number key)) trades)
    → (a : IsAdding (start pass.name) (slot_number key) (own_list key) k won) → Counting pass.name k (slot_number key) (own_list key) step.log (private pass (AddCount (slot_number key))) (plus won) v a.batch [] a.queue
added k won key more held' pass pass' v trades step a =
    let found = step.found in let e = AddCount (slot_number key) in
    adding pass.name k (slot_number key) (own_list key) step.log found.distinct found.before.legal found.before.sound (kept_then k key more held' pass pass' (plus won) v e trades step)
    pass.id pass.size won v (its_word k key more held' pass pass' (plus won) v e trades step) a

pub subtracted : (k : ℕ) (key : SlotKey) (more held' : List (HeldKey Entry)) (pass pass' : Pass) (v : ℕ) (trades : ℕ → Bool) (step : Steps k key more held' pass pass' (minus 1) v (SubCount (slot_number key)) trades)
    → (a : IsWalking (start pass.name) (slot_number key) (own_list key) k) → Counting pass.name k (slot_number key) (own_list key) step.log (private pass (SubCount (slot_number key))) (minus 1) v a.batch a.walk a.queue
subtracted k key more held' pass pass' v trades step a =
    let found = step.found in let e = SubCount (slot_number key) in
    subtracting pass.name k (slot_number key) (own_list key) step.log found.distinct found.before.legal found.before.sound (kept_then k key more held' pass pass' (minus 1) v e trades step)
    pass.id pass.size v (its_word k key more held' pass pass' (minus 1) v e trades step) a

-- what was counted down to 0 was 1
pub was_one : (v : ℕ) → v < 2 ^ 64 → (v == 1) ≡ (minus 1 v == 0)
was_one zero fits = unequal zero 1 (λ e. omega (arith, e)) ∙ sym (unequal (minus 1 zero) 0 (λ e. omega (arith, e)))
was_one (suc zero) fits = sym (equal (minus 1 1) 0 (omega arith))
was_one (suc (suc v)) fits = unequal (suc (suc v)) 1 (λ e. omega (arith, e)) ∙ sym (unequal (minus 1 (suc (suc v))) 0 (λ e. omega (arith, fits, e)))

module _ (k : ℕ) (key key' : SlotKey) (more held' : List (HeldKey Entry)) (pass pass' : Pass) (f : ℕ → ℕ) (v : ℕ) (event : Event) (trades : ℕ → Bool) (b : ℕ) (walk queue : List ℕ)
    (step : Steps k key more held' pass pass' f v event trades) (same_pass : IsSamePass pass pass') (name : key'.keys.name ≡ key.keys.name) (is : key'.keys.held ≡ take 1 held') (book : IsKeyOfBook key pass)
    (c : Counting pass.name k (slot_number key) (own_list key) step.log (private pass event) f v b walk queue) where
  abbrev opens : State
  opens = start pass.name

  abbrev here : State
  here = after opens step.log

  -- what the machine made of it
  comes : (step.noted.later, step.noted.answer) ≡ come pass.name k here (slot_number key) b c.count walk queue
  comes = some_is _ _ (sym (subst (λ (l : List Entry). next pass.size (after opens l) event ≡ Some (step.noted.later, step.noted.answer)) step.is_log step.noted.does) ∙ c.does)

  -- whether the count is 0 then
  zero_is : (done : Bool) → done ≡ (f v == 0) → done ≡ is_zero c.count
  zero_is done e = e ∙ ap (λ (w : ℕ). w == 0) c.word ∙ word_zero c.count c.near

  parts : changes_slot (slot_number key) event ≡ true → IsAfter key pass' key' × Moves key key' step.noted.before (private pass event) step.noted.later step.noted.answer
  parts its = moved k key more held' pass pass' f v event trades step key' name is its book

  pub counts_so : changes_slot (slot_number key) event ≡ true → (done : Bool) → done ≡ (f v == 0) → Counts key pass key' pass' event done
  counts_so its done e = (
    (same_pass, (parts its).0, (step.noted, (parts its).1)),
    (c.count, ap (λ (d : State × Answer). d.1) comes, zero_is done e, c.near),
  )

  -- the values with which the batch was detached, as the slot's key knows
  pub values_known : (batch_at here b).values ≡ values_in key b
  values_known =
      let grows = (kept_then k key more held' pass pass' f v event trades step).0 in
      held_values pass.name step.log step.found.distinct step.found.before.legal b c.held
      ∙ ap (λ (p : Plan). p.values) (sym (plan_stays opens (own_list key) step.log b grows c.planned))
      ∙ ap (λ (n : Name). (slice_index_or (plans (start n) (own_list key)) b no_plan).values) (sym book)

  pub gives_so : changes_slot (slot_number key) event ≡ true → (done : Bool) → done ≡ (f v == 0) → GivesUp key key' b walk queue done
  gives_so its done e =
      let s : ℕ = slot_number key in
      let after_it : Slot = record (slot_at here s) { call = Some (record { place = Rest (if is_zero c.count then (batch_at here b).values else []) walk; queue = queue }) } in
      ap (λ (slot : Slot). slot.call) ((parts its).1.is ∙ ap (λ (d : State × Answer). slot_at d.0 s) comes ∙ get_or-set_same here.slots s after_it no_slot c.there)
      ∙ ap (λ (t : Bool × List ℕ). Some (record { place = Rest (if t.0 then t.1 else []) walk; queue = queue })) (λ j. (sym (zero_is done e) j, values_known j))

  -- all others that lay in the blocks of the batch's values were reclaimed
  pub all_last : (u : ℕ) → Contains (values_in key b) u → IsLastIn u (after opens pass'.seen)
  all_last u among w home other named = go (is_true (has w later.gone))
    where
      later : State
      later = after opens pass'.seen

      in_it : Contains (batch_at here b).values u
      in_it = subst (λ (values : List ℕ). Contains values u) (sym values_known) among

      leads : later ≡ (come pass.name k here (slot_number key) b c.count walk queue).0
      leads = ap (after opens) (step.noted.appended ∙ ap (λ (l : List Entry). l ++ entries pass 0 (λ v log. event) v step.log ∷ []) step.is_log)
          ∙ after_push opens step.log (entries pass 0 (λ v log. event) v step.log) (come pass.name k here (slot_number key) b c.count walk queue) step.found.before.legal c.does

      stays : (has u later.named ≡ true) × (has u later.gone ≡ false)
      stays =
          let was = batched_named here (reached_after pass.name step.log step.found.distinct step.found.before.legal) b u in_it in
          subst (λ (z : State). (has u z.named ≡ true) × (has u z.gone ≡ false)) (sym leads) was

      go : (has w later.gone ≡ true) ⊎ (has w later.gone ≡ false) → has w later.gone ≡ true
      go (inl gone) = gone
      go (inr not_gone) = absurd (other (step.noted.sound.one w u home named stays.0 not_gone stays.1))

-- the add of an active slot does not bring the count to 0
pub above_zero : (k won : ℕ) (key : SlotKey) (more held' : List (HeldKey Entry)) (pass pass' : Pass) (v : ℕ) (trades : ℕ → Bool) (step : Steps k key more held' pass pass' (plus won) v (AddCount (slot_number key)) trades)
    → (a : IsAdding (start pass.name) (slot_number key) (own_list key) k won) → IsKeyOfBook key pass → active_of key ≡ true → (plus won v == 0) ≡ false
above_zero k won key more held' pass pass' v trades step a book active =
    let s = slot_number key in let b = a.batch in let found = step.found in let now : State = after (start pass.name) step.log in
    let r : IsReached now = reached_after pass.name step.log found.distinct found.before.legal in
    let c : Counting pass.name k s (own_list key) step.log (private pass (AddCount s)) (plus won) v b [] a.queue = added k won key more held' pass pass' v trades step a in
    let kept = kept_then k key more held' pass pass' (plus won) v (AddCount s) trades step in
    let stands : Stands now s (Add b won) a.queue = ap (λ slot. slot.call) (sym kept.1.1) ∙ a.adding in
    let so = count_added pass.size now s b won a.queue _ k r found.before.sound.one stands c.does c.in_it in
    let count_is : c.count ≡ (batch_at now b).count +ℤ pos won = sym c.is_count ∙ so.1 ∙ ap (λ (x : ℤ). x +ℤ pos won) so.0 in
    let on : is_active (head_at now s) ≡ true = sym kept.1.2 ∙ ap (λ (n : Name). is_active (head_at (after (start n) (own_list key)) s)) (sym book) ∙ active in
    ap (λ (w : ℕ). w == 0) c.word ∙ word_zero c.count c.near ∙ ap is_zero count_is ∙ adds_above_zero now s b won a.queue r stands on

-- The keys of the batch's values.

-- after an add they stay with the holder where the count is 0, and none comes
pub left_with : (k won : ℕ) (key : SlotKey) (values : List (HeldKey Entry)) (held' : List (HeldKey Entry)) (pass pass' : Pass) (v : ℕ) (step : Steps k key values held' pass pass' (plus won) v (AddCount (slot_number key)) (λ v. not (plus won v == 0)))
    → (a : IsAdding (start pass.name) (slot_number key) (own_list key) k won) → drop 1 held' ≡ with_list (if plus won v == 0 then values else []) pass'.seen
left_with k won key values held' pass pass' v step a =
    other_keys k key values held' pass pass' (plus won) v e trades step ∙ ap (λ (hs : List (HeldKey Entry)). with_list hs pass'.seen) (either (plus won v == 0))
  where
    e : Event
    e = AddCount (slot_number key)

    trades : ℕ → Bool
    trades = λ v. not (plus won v == 0)

    none : step.since.1 ≡ []
    none =
        let found = step.found in let c = added k won key values held' pass pass' v trades step a in let r = reached_after pass.name step.log found.distinct found.before.legal in
        let stands : Stands (after (start pass.name) step.log) (slot_number key) (Add a.batch won) a.queue = ap (λ slot. slot.call) (sym (kept_then k key values held' pass pass' (plus won) v e trades step).1.1) ∙ a.adding in
        none_of step.since.1 ((stood k key values held' pass pass' (plus won) v e trades step).0 ∙ (deposit_added pass.size (after (start pass.name) step.log) (slot_number key) a.batch won a.queue _ k r found.before.sound.one stands c.does c.in_it).0)

    either : (z : Bool) → (if not z then step.since.1 else values) ≡ (if z then values else [])
    either true = refl
    either false = none

-- after the batch was counted down they come where the count is 0
module _ (k : ℕ) (key : SlotKey) (held' : List (HeldKey Entry)) (pass pass' : Pass) (v : ℕ) (step : Steps k key [] held' pass pass' (minus 1) v (SubCount (slot_number key)) (λ v. minus 1 v == 0))
    (a : IsWalking (start pass.name) (slot_number key) (own_list key) k) (book : IsKeyOfBook key pass) where
  abbrev before : State
  before = after (start pass.name) step.log

  abbrev c : Counting pass.name k (slot_number key) (own_list key) step.log (private pass (SubCount (slot_number key))) (minus 1) v a.batch a.walk a.queue
  c = subtracted k key [] held' pass pass' v (λ v. minus 1 v == 0) step a

  reached : IsReached before
  reached = reached_after pass.name step.log step.found.distinct step.found.before.legal

  pub others_are : drop 1 held' ≡ with_list (if minus 1 v == 0 then step.since.1 else []) pass'.seen
  others_are = other_keys k key [] held' pass pass' (minus 1) v (SubCount (slot_number key)) (λ v. minus 1 v == 0) step

  zero_so : (minus 1 v == 0) ≡ is_zero c.count
  zero_so = ap (λ (w : ℕ). w == 0) c.word ∙ word_zero c.count c.near

  -- where the count comes to 0, the keys that stood there are those of the batch's values
  at_zero : (minus 1 v == 0) ≡ true → deposit before k ≡ (batch_at before a.batch).values
  at_zero done =
      let stands : Stands before (slot_number key) (Rest [] (a.batch ∷ a.walk)) a.queue = ap (λ slot. slot.call) (sym (kept_then k key [] held' pass pass' (minus 1) v (SubCount (slot_number key)) (λ v. minus 1 v == 0) step).1.1) ∙ a.walking in
      let one = step.found.before.sound.one in
      let count_is : (batch_at before a.batch).count -ℤ pos 1 ≡ c.count = ap (λ (x : ℤ). x -ℤ pos 1) (sym (count_alone before reached one k a.batch c.in_it)) ∙ sym (count_subtracted pass.size before (slot_number key) a.batch a.walk a.queue _ k reached one stands c.does c.in_it).1 ∙ c.is_count in
      (deposit_subtracted pass.size before (slot_number key) a.batch a.walk a.queue _ k reached one stands c.does c.in_it).1 (ap is_zero count_is ∙ sym zero_so ∙ done)

  pub labels_are : labels_of (drop 1 held') ≡ (if minus 1 v == 0 then (batch_at before a.batch).values else [])
  labels_are = ap labels_of others_are ∙ either (minus 1 v == 0) refl
    where
      either : (z : Bool) → (minus 1 v == 0) ≡ z → labels_of (with_list (if z then step.since.1 else []) pass'.seen) ≡ (if z then (batch_at before a.batch).values else [])
      either true done = (keys_later _ step.since.1 pass'.seen (stood k key [] held' pass pass' (minus 1) v (SubCount (slot_number key)) (λ v. minus 1 v == 0) step)).0 ∙ at_zero done
      either false done = refl

  pub all_blocks : are_of_blocks (drop 1 held') ≡ true
  all_blocks = ap are_of_blocks others_are ∙ either (minus 1 v == 0)
    where
      either : (z : Bool) → are_of_blocks (with_list (if z then step.since.1 else []) pass'.seen) ≡ true
      either true = (keys_later _ step.since.1 pass'.seen (stood k key [] held' pass pass' (minus 1) v (SubCount (slot_number key)) (λ v. minus 1 v == 0) step)).1
      either false = refl

  pub all_linked : are_linked (drop 1 held') ≡ true
  all_linked = ap are_linked others_are ∙ either (minus 1 v == 0)
    where
      either : (z : Bool) → are_linked (with_list (if z then step.since.1 else []) pass'.seen) ≡ true
      either true = (keys_later _ step.since.1 pass'.seen (stood k key [] held' pass pass' (minus 1) v (SubCount (slot_number key)) (λ v. minus 1 v == 0) step)).2
      either false = refl

  pub all_closed : are_joined (drop 1 held') [] ≡ true
  all_closed = ap (λ (hs : List (HeldKey Entry)). are_joined hs []) others_are ∙ either (minus 1 v == 0)
    where
      either : (z : Bool) → are_joined (with_list (if z then step.since.1 else []) pass'.seen) [] ≡ true
      either true = (keys_later _ step.since.1 pass'.seen (stood k key [] held' pass pass' (minus 1) v (SubCount (slot_number key)) (λ v. minus 1 v == 0) step)).3
      either false = refl

  -- and of each the list says what is noted
  pub all_told : AreToldIn pass'.seen (drop 1 held')
  all_told =
      subst (AreToldIn pass'.seen) (sym others_are) (either (minus 1 v == 0))
    where
      grows : IsPrefix step.log pass'.seen
      grows =
          let e = entries pass 0 (λ v log. SubCount (slot_number key)) v step.log in
          (e ∷ [], ap (λ (l : List Entry). l ++ e ∷ []) (sym step.is_log) ∙ sym step.noted.appended)

      theirs : AreToldIn pass'.seen step.since.1
      theirs = all_told_later step.log pass'.seen step.since.1 grows (told_then pass.name k v pass.id pass.seen (key.keys.held ++ []) step.since step.log step.found)

      either : (z : Bool) → AreToldIn pass'.seen (with_list (if z then step.since.1 else []) pass'.seen)
      either true = all_told_renewed pass'.seen step.since.1 pass'.seen theirs
      either false = tt

-- The steps as the calls on a count take them: with the slot's key and others joined, and the word as it is.

first_of_both : (a b : List (HeldKey Entry)) → is_one slots a ≡ true → key_of (a ++ b) ≡ key_of a
first_of_both [] b one = absurd (cc)
first_of_both (x ∷ a) b one = refl

pub joined_may : (word : Site) (key : SlotKey) (more both : List (HeldKey Entry)) (pass : Pass) (f : ℕ → ℕ) (event : ℕ → Event) (trades : ℕ → Bool) → word.name ≡ pass.name → word.kind ≡ counts → both ≡ key.keys.held ++ more
    → MayStep (at_count pass.name word.number) pass.id pass.seen (key.keys.held ++ more) [] [] f (entries pass 0 (λ v log. event (slot_number key))) trades
    → MayStep word pass.id pass.seen both [] [] f (entries pass 0 (λ v log. event (key_of both))) trades
joined_may word key more both pass f event trades name kind joined may =
    let number : key_of both ≡ slot_number key = ap key_of joined ∙ first_of_both key.keys.held more key.one in
    subst (λ (t : Site × (List (HeldKey Entry) × ℕ)). MayStep t.0 pass.id pass.seen t.1.0 [] [] f (entries pass 0 (λ v log. event t.1.1)) trades)
    (λ i. (sym (is_at_count word pass.name name kind) i, (sym joined i, sym number i))) may

pub joined_step : (word : Site) (key : SlotKey) (more both held' : List (HeldKey Entry)) (pass pass' : Pass) (f : ℕ → ℕ) (v : ℕ) (event : ℕ → Event) (trades : ℕ → Bool) → word.name ≡ pass.name → word.kind ≡ counts → both ≡ key.keys.held ++ more
    → HasStepped word pass.id pass.seen pass'.seen both held' [] v (f v) (entries pass 0 (λ v log. event (key_of both))) trades → Steps word.number key more held' pass pass' f v (event (slot_number key)) trades
joined_step word key more both held' pass pass' f v event trades name kind joined step =
    let number : key_of both ≡ slot_number key = ap key_of joined ∙ first_of_both key.keys.held more key.one in
    subst (λ (t : Site × (List (HeldKey Entry) × ℕ)). HasStepped t.0 pass.id pass.seen pass'.seen t.1.0 held' [] v (f v) (entries pass 0 (λ v log. event t.1.1)) trades)
    (λ i. (is_at_count word pass.name name kind i, (joined i, number i))) step

-- keys that stay, or none, are of blocks, and lead on
pub still_blocks : (done : Bool) (vs : List (HeldKey Entry)) (log : List Entry) → are_of_blocks vs ≡ true → are_of_blocks (with_list (if done then vs else []) log) ≡ true
still_blocks true vs log are = blocks_later vs log ∙ are
still_blocks false vs log are = refl

pub still_linked : (done : Bool) (vs : List (HeldKey Entry)) (log : List Entry) → are_linked vs ≡ true → are_linked (with_list (if done then vs else []) log) ≡ true
still_linked true vs log are = are_later vs log ∙ are
still_linked false vs log are = refl

pub closed_still : (done : Bool) (vs : List (HeldKey Entry)) (log : List Entry) → are_joined vs [] ≡ true → are_joined (with_list (if done then vs else []) log) [] ≡ true
closed_still true vs log are = still_closed vs log ∙ are
closed_still false vs log are = refl

-- those that came out know all that was seen
pub renewed_twice : (done : Bool) (vs held : List (HeldKey Entry)) (log : List Entry) → held ≡ with_list (if done then vs else []) log → held ≡ with_list held log
renewed_twice done vs held log is = is ∙ sym (twice (if done then vs else [])) ∙ ap (λ (hs : List (HeldKey Entry)). with_list hs log) (sym is)
  where
    twice : (hs : List (HeldKey Entry)) → with_list (with_list hs log) log ≡ with_list hs log
    twice [] = refl
    twice (x ∷ hs) = ap (λ (rest : List (HeldKey Entry)). record { kind = x.kind; key = x.key; own = log; label = x.label; note = x.note } ∷ rest) (twice hs)

pub not_in_none : (u : ℕ) → Contains [] u → ⊥
not_in_none u found = let less : found.0 < 0 = found.1 in omega (arith, less)

-- what is so of all values of a batch is of those whose keys are at hand: all where the count is 0, and else none
pub of_those : (P : ℕ → Type 0) (values : List ℕ) (zero : Bool) (labels : List ℕ) → labels ≡ (if zero then values else []) → ((u : ℕ) → Contains values u → P u) → (u : ℕ) → Contains labels u → P u
of_those P values true labels are all u among = all u (subst (λ (ls : List ℕ). Contains ls u) are among)
of_those P values false labels are all u among = absurd (not_in_none u (subst (λ (ls : List ℕ). Contains ls u) are among))

pub labels_stay : (done : Bool) (vs : List (HeldKey Entry)) (values : List ℕ) (log : List Entry) → labels_of vs ≡ values → labels_of (with_list (if done then vs else []) log) ≡ (if done then values else [])
labels_stay true vs values log is = labels_later vs log ∙ is
labels_stay false vs values log is = refl
