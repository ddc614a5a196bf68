-- Which numbers are in use, by the slots that nobody has; and that the numbers behind the lock stay as they are to be.
use Rattle.std.proofs.Common.{◌≡◌, ◌⊎◌, inl, inr, ℕ, zero, suc, ◌+◌, ◌<◌, ◌≤◌, Bool, true, false, not, cond, nat_eq, nat_lt, ◌&&◌, List, [], ◌∷◌, ◌++◌, length, Option, Some, None, is_some, get_or, slice_set, refl, sym, ap, subst, ◌∙◌, arith}
use Rattle.std.specs.List.{count_by, list_all, list_any, position, position_or_len}
use Rattle.std.specs.Option.{is_none}
use Rattle.std.proofs.lemmas.List.{length-map, length-set, length_push, map-set}
use Rattle.std.proofs.lemmas.List.Quantifiers.{position-Some}
use Rattle.std.proofs.lemmas.Bool.{cases_lt}
use Rattle.std.proofs.lemmas.List.{get_or-set_other, get_or-set_same, get_or_past}
use Rattle.std.proofs.lemmas.List.Sums.{fails_before_first, position_or_len_is, sum_by-append, sum_by-cons, sum_by-set, count_by-le-length}
use native.Mathlib.Decide.{ℕ_discrete}
use Rattle.std.proofs.lemmas.List.Sums.{prefix_len-le-length}
use Rattle.seize_table.specs.Place.{all_numbers}
use Rattle.seize_machine.specs.Machine.Event.{Take}
use Rattle.seize_machine.specs.Machine.State.{State}
use Rattle.seize_machine.specs.declared.machine.event.Answer.{Answer}
use Rattle.seize_machine.proofs.Facts.{Step}
use Rattle.seize_book.specs.Adding.{private}
use Rattle.seize_book.specs.Book.{after}
use Rattle.seize_book.specs.Entry.{Entry}
use Rattle.seize_book.specs.Others.{AreNumbersOf, FollowsNumbers, MayTakeNumber, first_false, numbers_saw, others_used, rest_of, state_of, use_flags}
use Rattle.seize_book.specs.Kept.{AreToldIn}
use Rattle.seize_book.specs.Ledger.{HeldKey}
use Rattle.seize_book.specs.Private.{labels_of, own_of}
use Rattle.seize_book.specs.Values.{IsEmptyIn}
use Rattle.seize_book.specs.Tokens.{Name, start}
use Rattle.seize_book.specs.declared.book.numbers_key.NumbersKey.{NumbersKey}
use Rattle.seize_book.specs.declared.book.pass.Pass.{Pass}
use Rattle.seize_book.specs.declared.book.slot_key.SlotKey.{SlotKey}
use Rattle.seize_book.proofs.Facts.{after_one, free_by}
use Rattle.seize_words.specs.Named.{numbers_book}
use Rattle.seize_words.specs.Reserved.{IsSameNext, MakesNextSlot}
use Rattle.seize_words.specs.Totals.{IsFull, made_of}
use Rattle.seize_words.specs.declared.slots.next.NextSlot.{NextSlot}
use Rattle.seize_words.specs.Joined.{words_book}
use Rattle.seize_words.specs.declared.words.Words.{Words}
use Rattle.seize_calls.specs.Batches.{keys_in}
use Rattle.seize_calls.specs.Slots.{IsFreeSlotOf, IsOfList, IsRestIn, KeepsUse, SetsUse, SlotGives, SlotTakes, its_key, its_number}
use Rattle.seize_calls.specs.declared.batch.Batch.{Batch}
use Rattle.seize_calls.specs.declared.slot.Slot.{Slot}
use Rattle.seize_calls.proofs.Chains.{no_keys}
use Rattle.seize_calls.proofs.Slots.{may_take_slot}
use Rattle.seize_parts.proofs.Made.{step_added}
use Rattle.seize_parts.specs.Numbers.{AreEachAt, AreSlots, IsFreeAt, IsKeptAt, IsNextSlotOf, NoneBelow, flags_of}
use Rattle.seize_parts.specs.declared.numbers.Numbers.{Numbers}

-- Of numbers alone.

one_more : (a b m : ℕ) → m ≡ 1 + b → a ≤ b → nat_eq a m ≡ false
one_more a b m is small = grind arith

same_more : (a b m : ℕ) → m ≡ 1 + a → nat_eq m (suc b) ≡ nat_eq a b
same_more a b m is = grind arith

above : (a b m : ℕ) → m ≡ 1 + b → a ≤ b → true ≡ nat_lt a m
above a b m is small = grind arith

shifted : (b m : ℕ) → m ≡ 1 + b → nat_lt 0 b ≡ nat_lt 1 m
shifted b m is = grind arith

past_none : (n : ℕ) → nat_lt n 0 ≡ false
past_none n = grind arith

at_first : (k : ℕ) → nat_lt 0 (suc k) ≡ true
at_first k = grind arith

at_next : (n k : ℕ) → nat_lt (suc n) (suc k) ≡ nat_lt n k
at_next n k = grind arith

-- Places of a list where something may be.
module _ {X : Type 0} where
  free_as : (slots : List (Option X)) → first_false (flags_of slots) ≡ position_or_len is_some slots
  free_as [] = refl
  free_as (Some x ∷ slots) = refl
  free_as (None ∷ slots) = ap (λ (n : ℕ). 1 + n) (free_as slots)

  -- the first one is where it was found
  pub first_is : (slots : List (Option X)) (n : ℕ) → position is_some slots ≡ Some n → n ≡ first_false (flags_of slots)
  first_is slots n found = sym (free_as slots ∙ go (nat_lt (position_or_len is_some slots) (length slots)) found)
    where
      go : (b : Bool) → cond b (Some (position_or_len is_some slots)) None ≡ Some n → position_or_len is_some slots ≡ n
      go true is = cc
      go false is = absurd (cc)

  pub first_below : (slots : List (Option X)) (n : ℕ) → position is_some slots ≡ Some n → n < length slots
  first_below slots n found = (position-Some is_some slots n None found).0

  pub first_some : (slots : List (Option X)) (n : ℕ) → position is_some slots ≡ Some n → is_some (get_or slots n None) ≡ true
  first_some slots n found = (position-Some is_some slots n None found).1

  -- none lies before the first, and where none is found, none lies anywhere
  pub none_before : (slots : List (Option X)) (n : ℕ) → position is_some slots ≡ Some n → NoneBelow n slots
  none_before slots n found = (position-Some is_some slots n None found).2

  -- the first one that is met in a search from where none lies before
  pub first_met : (slots : List (Option X)) (n : ℕ) → NoneBelow n slots → n < length slots → is_some (get_or slots n None) ≡ true → position is_some slots ≡ Some n
  first_met slots n none below some =
      let is = position_or_len_is is_some slots n None (omega (arith, below)) none (λ _. some) in
      subst (λ (k : ℕ). cond (nat_lt k (length slots)) (Some k) None ≡ Some n) (sym is) (ap (λ (b : Bool). cond b (Some n) None) (lt_true n (length slots) below))
    where
      lt_true : (x y : ℕ) → x < y → nat_lt x y ≡ true
      lt_true x y less = grind arith

  -- and where none is met
  pub none_met : (slots : List (Option X)) → NoneBelow (length slots) slots → position is_some slots ≡ None
  none_met slots none =
      let is = position_or_len_is is_some slots (length slots) None (omega arith) none (λ less. absurd (omega (arith, less))) in
      subst (λ (k : ℕ). cond (nat_lt k (length slots)) (Some k) None ≡ None) (sym is) (ap (λ (b : Bool). cond b (Some (length slots)) None) (not_less (length slots)))
    where
      not_less : (x : ℕ) → nat_lt x x ≡ false
      not_less x = grind arith

  pub none_up_to : (slots : List (Option X)) (n : ℕ) → NoneBelow n slots → length slots ≤ n → NoneBelow (length slots) slots
  none_up_to slots n none past i less = none i (omega (arith, less, past))

  -- where none is found, the first is after all
  pub none_free : (slots : List (Option X)) → position is_some slots ≡ None → first_false (flags_of slots) ≡ length slots
  none_free slots none = free_as slots ∙ go (nat_lt (position_or_len is_some slots) (length slots)) refl none
    where
      not_below : (x y : ℕ) → x ≤ y → nat_lt x y ≡ false → x ≡ y
      not_below x y l h = grind arith

      go : (b : Bool) → nat_lt (position_or_len is_some slots) (length slots) ≡ b → cond b (Some (position_or_len is_some slots)) None ≡ None → position_or_len is_some slots ≡ length slots
      go true is h = absurd (cc)
      go false is h = not_below (position_or_len is_some slots) (length slots) (prefix_len-le-length (λ o. not (is_some o)) slots) is

  -- and so it is with one more place where there is nothing
  pub pushed_full : (slots : List (Option X)) → position is_some slots ≡ None → first_false (flags_of (slots ++ None ∷ [])) ≡ length (flags_of (slots ++ None ∷ []))
  pushed_full slots none = go slots (sym (free_as slots) ∙ none_free slots none)
    where
      go : (xs : List (Option X)) → position_or_len is_some xs ≡ length xs → first_false (flags_of (xs ++ None ∷ [])) ≡ length (flags_of (xs ++ None ∷ []))
      go [] h = refl
      go (Some x ∷ xs) h = absurd (let z : 0 ≡ suc (length xs) = h in omega (arith, z))
      go (None ∷ xs) h = let same = go xs (omega (arith, h)) in omega (arith, same)

  -- what lies where something was stored, or in another place
  pub at_set : (P : Option X → Type 0) (slots : List (Option X)) (i j : ℕ) (item : Option X) → (i ≡ j → P item) → P (get_or slots j None) → P (get_or (slice_set slots i item) j None)
  at_set P [] i j item put was = was
  at_set P (x ∷ slots) zero zero item put was = put refl
  at_set P (x ∷ slots) zero (suc j) item put was = was
  at_set P (x ∷ slots) (suc i) zero item put was = was
  at_set P (x ∷ slots) (suc i) (suc j) item put was = at_set P slots i j item (λ is. put (ap suc is)) was

  -- with nothing behind the last, nothing more lies anywhere
  pub at_push : (slots : List (Option X)) (i : ℕ) → get_or (slots ++ None ∷ []) i None ≡ get_or slots i None
  at_push [] zero = refl
  at_push [] (suc i) = refl
  at_push (x ∷ slots) zero = refl
  at_push (x ∷ slots) (suc i) = at_push slots i

  -- so none lies up to the first, once nothing lies in its place
  pub none_taken : (slots : List (Option X)) (n : ℕ) (item : Option X) → position is_some slots ≡ Some n → item ≡ None → NoneBelow (n + 1) (slice_set slots n item)
  none_taken slots n item found gone i less = go (ℕ_discrete n i)
    where
      before : (n ≡ i → ⊥) → (i < n) ⊎ (n ≤ i) → i < n
      before differs (inl lower) = lower
      before differs (inr higher) = absurd (differs (omega (arith, less, higher)))

      go : Dec (n ≡ i) → is_some (get_or (slice_set slots n item) i None) ≡ false
      go (yes same) = subst (λ (k : ℕ). is_some (get_or (slice_set slots n item) k None) ≡ false) same (ap is_some (get_or-set_same slots n item None (first_below slots n found) ∙ gone))
      go (no differs) = ap is_some (get_or-set_other slots n i item None (λ e. differs (sym e))) ∙ none_before slots n found i (before differs (cases_lt i n))

  -- where none is found, none lies anywhere, also with nothing behind the last
  pub nowhere : (slots : List (Option X)) → position is_some slots ≡ None → (i : ℕ) → is_some (get_or slots i None) ≡ false
  nowhere slots none i = go (cases_lt i (length slots))
    where
      all : position_or_len is_some slots ≡ length slots
      all = sym (free_as slots) ∙ none_free slots none

      go : (i < length slots) ⊎ (length slots ≤ i) → is_some (get_or slots i None) ≡ false
      go (inl less) = fails_before_first is_some slots i None (omega (arith, less, all))
      go (inr past) = ap is_some (get_or_past slots i None past)

  pub still_none : (slots slots' : List (Option X)) (n : ℕ) → NoneBelow n slots → slots' ≡ slots → NoneBelow n slots'
  still_none slots slots' n none same = subst (NoneBelow n) (sym same) none

  pub none_pushed : (slots : List (Option X)) (n : ℕ) → position is_some slots ≡ None → NoneBelow n (slots ++ None ∷ [])
  none_pushed slots n none i less = ap is_some (at_push slots i) ∙ nowhere slots none i

  pub none_added : (slots : List (Option X)) → NoneBelow (length slots) slots → NoneBelow (length (slots ++ None ∷ [])) (slots ++ None ∷ [])
  none_added slots none i less = ap is_some (at_push slots i) ∙ go (cases_lt i (length slots))
    where
      go : (i < length slots) ⊎ (length slots ≤ i) → is_some (get_or slots i None) ≡ false
      go (inl within) = none i within
      go (inr past) = ap is_some (get_or_past slots i None past)

  -- How many lie there, where one comes or goes.

  abbrev lies : Option X → ℕ
  lies o = cond (is_some o) 1 0

  abbrev lacks : Option X → ℕ
  lacks o = cond (is_none o) 1 0

  abbrev used_in : List (Option X) → ℕ
  used_in slots = count_by is_none slots

  at_place : (slots : List (Option X)) (n : ℕ) → is_some (get_or slots n None) ≡ true → n < length slots
  at_place [] zero some = absurd (cc)
  at_place [] (suc n) some = absurd (cc)
  at_place (x ∷ slots) zero some = omega arith
  at_place (x ∷ slots) (suc n) some = let less = at_place slots n some in omega (arith, less)

  pub count_taken : (slots : List (Option X)) (n : ℕ) → is_some (get_or slots n None) ≡ true → count_by is_some (slice_set slots n None) + 1 ≡ count_by is_some slots
  count_taken slots n some = omega (arith, sum_by-set lies slots n None None (at_place slots n some), ap {B = ℕ} (λ (b : Bool). cond b 1 0) some)

  pub count_laid : (slots : List (Option X)) (n : ℕ) (item : X) → n < length slots → is_some (get_or slots n None) ≡ false → count_by is_some (slice_set slots n (Some item)) ≡ count_by is_some slots + 1
  count_laid slots n item below none = omega (arith, sum_by-set lies slots n (Some item) None below, ap {B = ℕ} (λ (b : Bool). cond b 1 0) none)

  pub count_pushed : (slots : List (Option X)) → count_by is_some (slots ++ None ∷ []) ≡ count_by is_some slots
  count_pushed slots = omega (arith, sum_by-append lies slots (None ∷ []))

  pub few_lie : (slots : List (Option X)) → count_by is_some slots ≤ length slots
  few_lie slots = count_by-le-length is_some slots

  pub all_lie : (slots : List (Option X)) (m : ℕ) → m ≡ count_by is_some slots → nat_eq m (length slots) ≡ list_all is_some slots
  all_lie slots m is = ap (λ (k : ℕ). nat_eq k (length slots)) is ∙ go slots
    where
      go : (slots : List (Option X)) → nat_eq (count_by is_some slots) (length slots) ≡ list_all is_some slots
      go [] = refl
      go (Some x ∷ slots) = same_more (count_by is_some slots) (length slots) (count_by is_some (Some x ∷ slots)) (sum_by-cons lies (Some x) slots) ∙ go slots
      go (None ∷ slots) = one_more (count_by is_some (None ∷ slots)) (length slots) (length (None ∷ slots)) (omega arith) (omega (arith, sum_by-cons lies None slots, few_lie slots))

  -- Whether another number is in use, by how many lie there.

  abbrev own_use : List (Option X) → ℕ → ℕ
  own_use [] n = 0
  own_use (o ∷ slots) zero = lacks o
  own_use (o ∷ slots) (suc n) = own_use slots n

  own_less : (slots : List (Option X)) (n : ℕ) → own_use slots n ≤ used_in slots
  own_less [] n = omega arith
  own_less (o ∷ slots) zero = omega (arith, sum_by-cons lacks o slots)
  own_less (o ∷ slots) (suc n) = omega (arith, own_less slots n, sum_by-cons lacks o slots)

  used_all : (slots : List (Option X)) → used_in slots + count_by is_some slots ≡ length slots
  used_all [] = refl
  used_all (Some x ∷ slots) = omega (arith, used_all slots, sum_by-cons lacks (Some x) slots, sum_by-cons lies (Some x) slots)
  used_all (None ∷ slots) = omega (arith, used_all slots, sum_by-cons lacks None slots, sum_by-cons lies None slots)

  used_some : (x : X) (slots : List (Option X)) → used_in (Some x ∷ slots) ≡ used_in slots
  used_some x slots = omega (arith, sum_by-cons lacks (Some x) slots)

  any_used : (slots : List (Option X)) → list_any (λ u. u) (flags_of slots) ≡ nat_lt 0 (used_in slots)
  any_used [] = refl
  any_used (Some x ∷ slots) = any_used slots ∙ ap (nat_lt 0) (sym (used_some x slots))
  any_used (None ∷ slots) = above 0 (used_in slots) (used_in (None ∷ slots)) (sum_by-cons lacks None slots) (omega arith)

  more_used : (slots : List (Option X)) (n : ℕ) → others_used (flags_of slots) n ≡ nat_lt (own_use slots n) (used_in slots)
  more_used [] n = refl
  more_used (Some x ∷ slots) zero = any_used slots ∙ ap (nat_lt 0) (sym (used_some x slots))
  more_used (None ∷ slots) zero = any_used slots ∙ shifted (used_in slots) (used_in (None ∷ slots)) (sum_by-cons lacks None slots)
  more_used (Some x ∷ slots) (suc n) = more_used slots n ∙ ap (nat_lt (own_use slots n)) (sym (used_some x slots))
  more_used (None ∷ slots) (suc n) = above (own_use slots n) (used_in slots) (used_in (None ∷ slots)) (sum_by-cons lacks None slots) (own_less slots n)

  own_is : (slots : List (Option X)) (n : ℕ) (own : Bool) → own ≡ (nat_lt n (length slots) && is_none (get_or slots n None)) → own_use slots n ≡ cond own 1 0
  own_is [] n own is = ap {B = ℕ} (λ (b : Bool). cond b 1 0) (sym (is ∙ ap (λ (b : Bool). b && is_none (get_or {A = Option X} [] n None)) (past_none n)))
  own_is (o ∷ slots) zero own is = ap {B = ℕ} (λ (b : Bool). cond b 1 0) (sym (is ∙ ap (λ (b : Bool). b && is_none o) (at_first (length slots))))
  own_is (o ∷ slots) (suc n) own is = own_is slots n own (is ∙ ap (λ (b : Bool). b && is_none (get_or slots n None)) (at_next n (length slots)))

  pub others_so : (slots : List (Option X)) (n m : ℕ) (own : Bool) → m + count_by is_some slots ≡ length slots → own ≡ (nat_lt n (length slots) && is_none (get_or slots n None))
      → nat_lt (cond own 1 0) m ≡ others_used (flags_of slots) n
  others_so slots n m own many is =
      ap (λ (k : ℕ). nat_lt k m) (sym (own_is slots n own is)) ∙ ap (nat_lt (own_use slots n)) (let all = used_all slots in omega (arith, all, many)) ∙ sym (more_used slots n)

  same_either : (slots : List (Option X)) (n : ℕ) (o o' : Option X) → n < length slots → get_or slots n o ≡ get_or slots n o'
  same_either [] n o o' less = absurd (omega (arith, less))
  same_either (x ∷ slots) zero o o' less = refl
  same_either (x ∷ slots) (suc n) o o' less = same_either slots n o o' (omega (arith, less))

  -- whether one's own number is in use, by what lies in its place
  pub own_here : (slots : List (Option X)) (n : ℕ) (o : Option X) (own : Bool) → n < length slots → o ≡ get_or slots n o → is_some o ≡ not own → own ≡ (nat_lt n (length slots) && is_none (get_or slots n None))
  own_here slots n o own less is there = both own o (nat_lt n (length slots)) (lt_true n (length slots) less) there ∙ ap (λ (o : Option X). nat_lt n (length slots) && is_none o) (is ∙ same_either slots n o None less)
    where
      lt_true : (x y : ℕ) → x < y → nat_lt x y ≡ true
      lt_true x y less = grind arith

      both : (own : Bool) (o : Option X) (b : Bool) → b ≡ true → is_some o ≡ not own → own ≡ (b && is_none o)
      both true (Some x) b on is = absurd (cc)
      both true None b on is = cc
      both false (Some x) b on is = cc
      both false None b on is = absurd (cc)

  pub own_past : (slots : List (Option X)) (n : ℕ) (own : Bool) → length slots ≤ n → own ≡ nat_lt n (length slots) → own ≡ (nat_lt n (length slots) && is_none (get_or slots n None))
  own_past slots n own past is = is ∙ both (nat_lt n (length slots)) (is_none (get_or slots n None)) (lt_false n (length slots) past)
    where
      lt_false : (x y : ℕ) → y ≤ x → nat_lt x y ≡ false
      lt_false x y past = grind arith

      both : (a b : Bool) → a ≡ false → a ≡ (a && b)
      both false b off = refl
      both true b off = absurd (cc)

  -- the flag of a place, by what lies there
  pub flag_at : (slots : List (Option X)) (n : ℕ) → get_or (flags_of slots) n false ≡ true → (n < length slots) × (is_some (get_or slots n None) ≡ false)
  flag_at [] n on = absurd (no n on)
    where
      no : (n : ℕ) → get_or [] n false ≡ true → ⊥
      no zero on = cc
      no (suc n) on = cc
  flag_at (Some x ∷ slots) zero on = absurd (cc)
  flag_at (None ∷ slots) zero on = (omega arith, refl)
  flag_at (o ∷ slots) (suc n) on = let rest = flag_at slots n on in (omega (arith, rest.0), rest.1)

-- Lists of which nothing is false are the same where they are as long.
full_as : (us vs : List Bool) → first_false us ≡ length us → first_false vs ≡ length vs → length us ≡ length vs → us ≡ vs
full_as [] [] h k l = refl
full_as [] (v ∷ vs) h k l = absurd (cc)
full_as (u ∷ us) [] h k l = absurd (cc)
full_as (true ∷ us) (true ∷ vs) h k l = ap (λ (ws : List Bool). true ∷ ws) (full_as us vs (omega (arith, h)) (omega (arith, k)) (omega (arith, l)))
full_as (false ∷ us) (v ∷ vs) h k l = absurd (let z : 0 ≡ suc (length us) = h in omega (arith, z))
full_as (true ∷ us) (false ∷ vs) h k l = absurd (let z : 0 ≡ suc (length vs) = k in omega (arith, z))

pub some_same : {X : Type 0} (x y : X) → Some x ≡ Some y → x ≡ y
some_same x y is = cc

-- What the numbers' key knows.

pub made_flags : (numbers : NumbersKey) → made_of numbers ≡ length (use_flags numbers)
made_flags numbers = sym (length-map (state_of numbers.keys).slots (λ slot. slot.used))

pub own_followed : (numbers : NumbersKey) (pass' : Pass) (numbers' : NumbersKey) → FollowsNumbers numbers pass' numbers' → own_of numbers'.keys.held ≡ pass'.seen
own_followed numbers pass' numbers' follows = ap own_of follows.1 ∙ (after_one _ numbers.keys.held pass'.seen numbers.one).1

-- who takes a number takes all that was left
takes_all : (size s : ℕ) (st : State) (o : State × Answer) → Step size st (Take s) o → (o.0).rest ≡ []
takes_all size s st _ (Step.took_new _ _ _) = refl
takes_all size s st _ (Step.took_old _ _ _ _) = refl

pub nothing_after : {T : Type 0} (slot slot' : Slot T) (pass pass' : Pass) (numbers numbers' : NumbersKey) → AreNumbersOf numbers pass → SlotTakes slot pass slot' pass' → FollowsNumbers numbers pass' numbers' → rest_of numbers' ≡ []
nothing_after slot slot' pass pass' numbers numbers' of takes follows =
    let ready = takes.ready in let noted = takes.does.2.0 in let name = follows.0 ∙ of ∙ sym takes.prepares.same.0 in let own = own_followed numbers pass' numbers' follows in
    ap (λ (t : Name × List Entry). (after (start t.0) t.1).rest) (λ i. (name i, own i)) ∙ ap (λ (st : State). st.rest) noted.leads
    ∙ takes_all ready.size (its_number slot) (after (start ready.name) noted.before) (noted.later, noted.answer) (step_added ready pass' (private ready (Take (its_number slot))) noted)

-- a slot that has seen what the key knows is one of those that were made
pub there_known : {T : Type 0} (slot : Slot T) (numbers : NumbersKey) → slot.seen.name ≡ numbers_book numbers → slot.seen.seen ≡ own_of numbers.keys.held → its_number slot < length (use_flags numbers)
there_known slot numbers name own =
    subst (λ (k : ℕ). its_number slot < k) (ap (λ (t : Name × List Entry). length (after (start t.0) t.1).slots) (λ i. (name i, own i)) ∙ made_flags numbers) slot.together.there

-- there are fewer numbers than a list can have places
pub few : {T : Type 0} (numbers : Numbers T) (n : ℕ) → n ≤ length numbers.slots.items → n < all_numbers
few numbers n below = let ok = numbers.slots.ok in let small = numbers.slots.small in omega (arith, below, ok.0, ok.1, small)

module _ {T : Type 0} (numbers : Numbers T) (are : AreSlots numbers) where
  abbrev items : List (Option (Slot T))
  items = numbers.slots.items

  pub flags_length : length (use_flags numbers.key) ≡ length items
  flags_length = ap (λ (us : List Bool). length us) are.flags ∙ length-map items is_none

  -- the slot that nobody has and whose number is the least may be taken again
  module _ (n : ℕ) (found : position is_some items ≡ Some n) (slot : Slot T) (is : get_or items n None ≡ Some slot) where
    pub ended : IsFreeAt numbers.book.name n slot
    ended = are.slots n slot is

    pub may_take_first : MayTakeNumber numbers.key (its_key slot)
    may_take_first =
        let below = first_below items n found in let long = flags_length in let its = ended.number in
        may_take_slot numbers.key slot
        (its ∙ first_is items n found ∙ ap first_false (sym are.flags))
        (omega (arith, its, below, long))
        (subst (λ (k : ℕ). k < all_numbers) (sym its) (few numbers n (omega (arith, below))))

  -- and where no such slot is left, all numbers are in use
  pub is_full : position is_some items ≡ None → IsFull numbers.key
  is_full none =
      let made = made_flags numbers.key ∙ flags_length in (
        free_by (state_of numbers.key.keys).slots ∙ ap first_false are.flags ∙ none_free items none ∙ sym made,
        subst (λ (k : ℕ). k < all_numbers) (sym made) (few numbers (length items) (omega arith)),
      )

  -- The use of one number is set, and what lies in its place.
  module _ (numbers' : Numbers T) (pass' : Pass) (slot : Slot T) (used : Bool) (sets : SetsUse numbers.key pass' numbers'.key slot used) (n : ℕ) (its : its_number slot ≡ n) (item : Option (Slot T)) (is : is_none item ≡ used)
      (put : (s : Slot T) → item ≡ Some s → IsFreeAt numbers.book.name n s) (slots : numbers'.slots.items ≡ slice_set items n item) (free : numbers'.free ≡ count_by is_some (slice_set items n item))
      (kept : numbers'.kept ≡ numbers.kept) (rest : IsRestIn numbers.book.name numbers'.key numbers'.rest) (next : numbers'.next ≡ numbers.next) (book : numbers'.book ≡ numbers.book) where
    flags' : use_flags numbers'.key ≡ flags_of numbers'.slots.items
    flags' =
        sets.1 ∙ (λ i. slice_set (are.flags i) (its i) used) ∙ ap (slice_set (flags_of items) n) (sym is)
        ∙ sym (map-set is_none items n item) ∙ ap flags_of (sym slots)

    made' : made_of numbers'.key ≡ made_of numbers.key
    made' = made_flags numbers'.key ∙ ap (λ (us : List Bool). length us) sets.1 ∙ length-set (use_flags numbers.key) (its_number slot) used ∙ sym (made_flags numbers.key)

    slots' : AreEachAt (IsFreeAt numbers.book.name) (slice_set items n item)
    slots' i s = at_set (λ o. o ≡ Some s → IsFreeAt numbers.book.name i s) items n i item (λ same there. subst (λ (k : ℕ). IsFreeAt numbers.book.name k s) same (put s there)) (are.slots i s)

    pub slots_set : AreSlots numbers'
    slots_set = record {
      book = sets.0.0 ∙ are.book ∙ ap (λ seen. seen.name) (sym book);
      flags = flags';
      slots = subst (λ (t : Name × List (Option (Slot T))). AreEachAt (IsFreeAt t.0) t.1) (λ i. ((sym book i).name, sym slots i)) slots';
      free = free ∙ ap (count_by is_some) (sym slots);
      kept = subst (λ (t : Name × List (Option (Slot T))). AreEachAt (IsKeptAt t.0) t.1) (λ i. ((sym book i).name, (sym kept i).items)) are.kept;
      many = ap (λ l. length l.items) kept ∙ are.many ∙ sym (length-set items n item) ∙ ap (λ (l : List (Option (Slot T))). length l) (sym slots);
      rest = subst (λ (m : Name). IsRestIn m numbers'.key numbers'.rest) (λ i. (sym book i).name) rest;
      next = are.next;
      is_there = next ∙ are.is_there;
      comes = (are.comes.0 ∙ sym made', are.comes.1 ∙ sym sets.0.0);
    }

  -- The slot that comes next is the one that is there.
  pub next_is : (left : NextSlot) → numbers.next ≡ Some left → IsNextSlotOf numbers.key left
  next_is left there = subst (IsNextSlotOf numbers.key) (some_same are.next left (sym are.is_there ∙ there)) are.comes

  -- Nothing is changed but where things lie.
  pub slots_still : (numbers' : Numbers T) (left next' : NextSlot) → numbers.next ≡ Some left → IsSameNext left next' → numbers'.key ≡ numbers.key → numbers'.slots.items ≡ items → numbers'.free ≡ numbers.free → numbers'.kept.items ≡ numbers.kept.items
      → numbers'.rest ≡ numbers.rest → numbers'.next ≡ Some next' → numbers'.book ≡ numbers.book → AreSlots numbers'
  slots_still numbers' left next' there same key slots free kept rest is book =
      let comes = next_is left there in record {
        book = ap numbers_book key ∙ are.book ∙ ap (λ seen. seen.name) (sym book);
        flags = ap use_flags key ∙ are.flags ∙ ap flags_of (sym slots);
        slots = subst (λ (t : Name × List (Option (Slot T))). AreEachAt (IsFreeAt t.0) t.1) (λ i. ((sym book i).name, sym slots i)) are.slots;
        free = free ∙ are.free ∙ ap (count_by is_some) (sym slots);
        kept = subst (λ (t : Name × List (Option (Slot T))). AreEachAt (IsKeptAt t.0) t.1) (λ i. ((sym book i).name, sym kept i)) are.kept;
        many = ap (λ (l : List (Option (Slot T))). length l) kept ∙ are.many ∙ ap (λ (l : List (Option (Slot T))). length l) (sym slots);
        rest = subst (λ (t : Name × (NumbersKey × Batch)). IsRestIn t.0 t.1.0 t.1.1) (λ i. ((sym book i).name, (sym key i, sym rest i))) are.rest;
        next = next';
        is_there = is;
        comes = (same.0 ∙ comes.0 ∙ ap made_of (sym key), ap (λ (k : SlotKey). k.keys.name) same.1 ∙ comes.1 ∙ ap numbers_book (sym key));
      }

  -- What was left is with a slot, and the same numbers are in use.
  pub slots_gathered : (numbers' : Numbers T) (pass' : Pass) → KeepsUse numbers.key pass' numbers'.key → IsRestIn numbers.book.name numbers'.key numbers'.rest → numbers'.slots ≡ numbers.slots → numbers'.free ≡ numbers.free
      → numbers'.kept ≡ numbers.kept → numbers'.next ≡ numbers.next → numbers'.book ≡ numbers.book → AreSlots numbers'
  slots_gathered numbers' pass' keeps rest slots free kept next book =
      let made : made_of numbers'.key ≡ made_of numbers.key = made_flags numbers'.key ∙ ap (λ (us : List Bool). length us) keeps.1 ∙ sym (made_flags numbers.key) in record {
        book = keeps.0.0 ∙ are.book ∙ ap (λ seen. seen.name) (sym book);
        flags = keeps.1 ∙ are.flags ∙ ap (λ l. flags_of l.items) (sym slots);
        slots = subst (λ (t : Name × List (Option (Slot T))). AreEachAt (IsFreeAt t.0) t.1) (λ i. ((sym book i).name, (sym slots i).items)) are.slots;
        free = free ∙ are.free ∙ ap (λ l. count_by is_some l.items) (sym slots);
        kept = subst (λ (t : Name × List (Option (Slot T))). AreEachAt (IsKeptAt t.0) t.1) (λ i. ((sym book i).name, (sym kept i).items)) are.kept;
        many = ap (λ l. length l.items) kept ∙ are.many ∙ ap (λ l. length l.items) (sym slots);
        rest = subst (λ (m : Name). IsRestIn m numbers'.key numbers'.rest) (λ i. (sym book i).name) rest;
        next = are.next;
        is_there = next ∙ are.is_there;
        comes = (are.comes.0 ∙ sym made, are.comes.1 ∙ sym keeps.0.0);
      }

  -- One slot was made, and has its place. Nothing was left, and nothing is.
  module _ (none : position is_some items ≡ None) (numbers' : Numbers T) (pass pass' : Pass) (key : SlotKey) (left next' : NextSlot) (makes : MakesNextSlot numbers.key left pass numbers'.key key next' pass')
      (slots : numbers'.slots.items ≡ items ++ None ∷ []) (free : numbers'.free ≡ numbers.free) (kept : numbers'.kept.items ≡ numbers.kept.items ++ None ∷ []) (rest : numbers'.rest ≡ numbers.rest) (is : numbers'.next ≡ Some next')
      (book : numbers'.book ≡ numbers.book) where
    flags_made : use_flags numbers'.key ≡ flags_of (items ++ None ∷ [])
    flags_made =
        let made = made_flags numbers.key ∙ flags_length in let made' = made_flags numbers'.key in let next = makes.made.next in let more : length (items ++ None ∷ []) ≡ length items + 1 = length_push items None in
        let long = length-map (items ++ None ∷ []) is_none in
        full_as (use_flags numbers'.key) (flags_of (items ++ None ∷ []))
        (sym (free_by (state_of numbers'.key.keys).slots) ∙ next.1 ∙ made')
        (pushed_full items none)
        (omega (arith, made, made', next.0, more, long))

    empty : (keys_in numbers.rest).keys.held ≡ []
    empty = no_keys (keys_in numbers.rest).keys.held (are.rest.values ∙ makes.made.rest.0)

    rest_made : IsRestIn numbers.book.name numbers'.key numbers.rest
    rest_made = record {
      book = are.rest.book;
      values = are.rest.values ∙ makes.made.rest.0 ∙ sym makes.made.rest.1;
      told = subst (λ (held : List (HeldKey Entry)). AreToldIn (numbers_saw numbers'.key) held) (sym empty) tt;
    }

    pub slots_made : AreSlots numbers'
    slots_made = record {
      book = makes.made.follows.0 ∙ are.book ∙ ap (λ seen. seen.name) (sym book);
      flags = flags_made ∙ ap flags_of (sym slots);
      slots = subst (λ (t : Name × List (Option (Slot T))). AreEachAt (IsFreeAt t.0) t.1) (λ i. ((sym book i).name, sym slots i)) (λ i s there. are.slots i s (sym (at_push items i) ∙ there));
      free = free ∙ are.free ∙ sym (count_pushed items) ∙ ap (count_by is_some) (sym slots);
      kept = subst (λ (t : Name × List (Option (Slot T))). AreEachAt (IsKeptAt t.0) t.1) (λ i. ((sym book i).name, sym kept i)) (λ i s there. are.kept i s (sym (at_push numbers.kept.items i) ∙ there));
      many = ap (λ (l : List (Option (Slot T))). length l) kept ∙ length_push numbers.kept.items None ∙ ap (λ (k : ℕ). k + 1) are.many ∙ sym (length_push items None) ∙ ap (λ (l : List (Option (Slot T))). length l) (sym slots);
      rest = subst (λ (t : Name × Batch). IsRestIn t.0 numbers'.key t.1) (λ i. ((sym book i).name, sym rest i)) rest_made;
      next = next';
      is_there = is;
      comes = makes.comes;
    }

-- A new list has no slot.
pub slots_new : {T : Type 0} (numbers : Numbers T) (next : NextSlot) → numbers_book numbers.key ≡ numbers.book.name → made_of numbers.key ≡ 0 → rest_of numbers.key ≡ [] → numbers.slots.items ≡ [] → numbers.free ≡ 0 → numbers.kept.items ≡ []
    → IsEmptyIn numbers.book.name (keys_in numbers.rest) → numbers.next ≡ Some next → IsNextSlotOf numbers.key next → AreSlots numbers
slots_new numbers next book none nothing_left slots free kept rest is comes = record {
  book = book;
  flags = no_flags (use_flags numbers.key) (sym (made_flags numbers.key) ∙ none) ∙ ap flags_of (sym slots);
  slots = λ i s there. nothing i s (sym (ap (λ items. get_or items i None) slots) ∙ there);
  free = free ∙ ap (count_by is_some) (sym slots);
  kept = λ i s there. nothing i s (sym (ap (λ items. get_or items i None) kept) ∙ there);
  many = ap (λ items. length items) kept ∙ ap (λ items. length items) (sym slots);
  rest = record {
    book = rest.0;
    values = ap labels_of rest.1 ∙ sym nothing_left;
    told = subst (λ (held : List (HeldKey Entry)). AreToldIn (numbers_saw numbers.key) held) (sym rest.1) tt;
  };
  next = next;
  is_there = is;
  comes = comes;
}
  where
    no_flags : (us : List Bool) → length us ≡ 0 → us ≡ []
    no_flags [] h = refl
    no_flags (u ∷ us) h = absurd (omega (arith, h))

    nothing : {X Y : Type 0} (i : ℕ) (x : X) → get_or [] i None ≡ Some x → Y
    nothing zero x is = absurd (cc)
    nothing (suc i) x is = absurd (cc)

-- A slot whose number went back, when it lies in its place.
module _ {T : Type 0} (numbers : Numbers T) (are : AreSlots numbers) (slot slot' : Slot T) (pass pass' : Pass) (key' : NumbersKey) (gives : SlotGives slot pass slot' pass') (sets : SetsUse numbers.key pass' key' slot false)
    (was : get_or (use_flags numbers.key) (its_number slot) false ≡ true) where
  -- there is a place with its number, where nothing lay
  pub given_place : (its_number slot < length numbers.slots.items) × (is_some (get_or numbers.slots.items (its_number slot) None) ≡ false)
  given_place = flag_at numbers.slots.items (its_number slot) (ap (λ (us : List Bool). get_or us (its_number slot) false) (sym are.flags) ∙ was)

pub given_ended : {T : Type 0} (numbers : Numbers T) (words : Words T) (slot' : Slot T) → numbers.book.name ≡ words_book words → IsFreeSlotOf words slot' → IsFreeAt numbers.book.name (its_number slot') slot'
given_ended numbers words slot' of free = record {
  its = subst (λ (n : Name). IsOfList n slot') (sym of) free.0;
  number = refl;
  inactive = free.2;
  free = free.1;
}
