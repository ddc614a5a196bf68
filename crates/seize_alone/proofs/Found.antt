-- What numbers stand for, by lists of names and kinds. A number has one value and one kind, so lists agree where both say something.
--     Knows some all     what some lists say of a number, all say it
use Rattle.std.proofs.Common.{◌≡◌, ℕ, ◌==◌, Bool, true, false, if◌then◌else◌, List, [], ◌∷◌, ◌++◌, map, Option, Some, None, option_map, is_some, refl, sym, ap, subst, arith}
use mathlib.Core.List.{IsPrefix}
use base.Stored.{Coded}
use Rattle.seize_machine.specs.Machine.State as machine
use Rattle.seize_machine.specs.Machine.State.{are_distinct, linked_values}
use Rattle.seize_model.specs.Waiting.State as waiting
use Rattle.seize_model.specs.Agreement.Shows.{ShowsReclaimers, ShowsSlot, ShowsState, ShowsValues, StandFor, held_value}
use Rattle.seize_book.specs.Book.{IsLegalList}
use Rattle.seize_book.specs.Entry.{Entry}
use Rattle.seize_book.specs.Kept.{IsTold}
use Rattle.seize_book.specs.Loans.{place_of}
use Rattle.seize_book.specs.Tokens.{Name, start}
use Rattle.seize_words.proofs.Facts.{same_content, told_later, told_once}
use Rattle.seize_words.specs.Chunks.{IsLentAs}
use Rattle.seize_alone.specs.Holding.{AreLent, AreOfKinds, found, some_state, some_value}
use Rattle.seize_alone.proofs.Mapped.{retired_same, slot_same}

-- the number is among these
abbrev pub Has : {A : Type 0} → List (ℕ × A) → ℕ → Type 0
Has ps n = is_some (found ps n) ≡ true

abbrev pub Knows : {A : Type 0} → List (ℕ × A) → List (ℕ × A) → Type 0
Knows some all = (n : ℕ) → Has some n → Has all n

pub has_left : {A : Type 0} (ps qs : List (ℕ × A)) → Knows ps (ps ++ qs)
has_left [] qs n has = absurd (cc)
has_left (p ∷ ps) qs n has = by_case (p.0 == n) has (has_left ps qs n)
  where
    by_case : (b : Bool) → is_some (if b then Some p.1 else found ps n) ≡ true → (is_some (found ps n) ≡ true → is_some (found (ps ++ qs) n) ≡ true) → is_some (if b then Some p.1 else found (ps ++ qs) n) ≡ true
    by_case true has rest = refl
    by_case false has rest = rest has

pub has_right : {A : Type 0} (ps qs : List (ℕ × A)) → Knows qs (ps ++ qs)
has_right [] qs n has = has
has_right (p ∷ ps) qs n has = by_case (p.0 == n) (has_right ps qs n has)
  where
    by_case : (b : Bool) → is_some (found (ps ++ qs) n) ≡ true → is_some (if b then Some p.1 else found (ps ++ qs) n) ≡ true
    by_case true rest = refl
    by_case false rest = rest

equal : (a : ℕ) → (a == a) ≡ true
equal a = grind arith

pub has_first : {A : Type 0} (p : ℕ × A) (ps : List (ℕ × A)) → Has (p ∷ ps) p.0
has_first p ps = ap (λ (b : Bool). is_some (if b then Some p.1 else found ps p.0)) (equal p.0)

pub found_on : {A : Type 0} (ps qs : List (ℕ × A)) (n : ℕ) (a : A) → found ps n ≡ Some a → found (ps ++ qs) n ≡ Some a
found_on [] qs n a is = absurd (cc)
found_on (p ∷ ps) qs n a is = by_case (p.0 == n) is (found_on ps qs n a)
  where
    by_case : (b : Bool) → (if b then Some p.1 else found ps n) ≡ Some a → (found ps n ≡ Some a → found (ps ++ qs) n ≡ Some a) → (if b then Some p.1 else found (ps ++ qs) n) ≡ Some a
    by_case true is rest = is
    by_case false is rest = rest is

same_number : (a b : ℕ) → (a == b) ≡ true → a ≡ b
same_number a b e = grind arith

abbrev or_this : {A : Type 0} → A → Option A → A
or_this a None = a
or_this a (Some b) = b

pub same_some : {A : Type 0} (a b : A) → Some a ≡ Some b → a ≡ b
same_some a b e = ap (or_this a) e

-- what stands there is what is lent
module _ {T : Type 0} (c : Coded T) where
  pub one_lent : (n : ℕ) (v w : T) → IsLentAs n (c.code v) → IsLentAs n (c.code w) → v ≡ w
  one_lent n v w a b = c.inj v w (same_content n (place_of n) (place_of n) (c.code v) (c.code w) (refl, a) (refl, b)).1

  pub found_lent : (ps : List (ℕ × T)) → AreLent c.code ps → (n : ℕ) (v : T) → IsLentAs n (c.code v) → Has ps n → found ps n ≡ Some v
  found_lent [] lent n v is has = absurd (cc)
  found_lent (p ∷ ps) lent n v is has = by_case (p.0 == n) refl has (found_lent ps lent.1 n v is)
    where
      by_case : (b : Bool) → (p.0 == n) ≡ b → is_some (if b then Some p.1 else found ps n) ≡ true → (is_some (found ps n) ≡ true → found ps n ≡ Some v) → (if b then Some p.1 else found ps n) ≡ Some v
      by_case true e has rest = ap Some (one_lent n p.1 v (subst (λ (m : ℕ). IsLentAs m (c.code p.1)) (same_number p.0 n e) lent.0) is)
      by_case false e has rest = rest has

  -- and what a number stands for is lent with it
  pub lent_found : (ps : List (ℕ × T)) → AreLent c.code ps → (n : ℕ) (v : T) → found ps n ≡ Some v → IsLentAs n (c.code v)
  lent_found [] lent n v is = absurd (cc)
  lent_found (p ∷ ps) lent n v is = by_case (p.0 == n) refl is (lent_found ps lent.1 n v)
    where
      by_case : (b : Bool) → (p.0 == n) ≡ b → (if b then Some p.1 else found ps n) ≡ Some v → (found ps n ≡ Some v → IsLentAs n (c.code v)) → IsLentAs n (c.code v)
      by_case true e is rest = subst (λ (w : T). IsLentAs n (c.code w)) (same_some p.1 v is) (subst (λ (m : ℕ). IsLentAs m (c.code p.1)) (same_number p.0 n e) lent.0)
      by_case false e is rest = rest is

  pub lent_append : (ps qs : List (ℕ × T)) → AreLent c.code ps → AreLent c.code qs → AreLent c.code (ps ++ qs)
  lent_append [] qs a b = b
  lent_append (p ∷ ps) qs a b = (a.0, lent_append ps qs a.1 b)

-- and its kind is what is told
pub found_told : (n : Name) (log : List Entry) → are_distinct (linked_values n.links) ≡ true → IsLegalList (start n) log → (ps : List (ℕ × ℕ)) → AreOfKinds log ps → (v kind : ℕ) → IsTold log v kind → Has ps v → found ps v ≡ Some kind
found_told n log distinct legal [] told v kind is has = absurd (cc)
found_told n log distinct legal (p ∷ ps) told v kind is has = by_case (p.0 == v) refl has (found_told n log distinct legal ps told.1 v kind is)
  where
    by_case : (b : Bool) → (p.0 == v) ≡ b → is_some (if b then Some p.1 else found ps v) ≡ true → (is_some (found ps v) ≡ true → found ps v ≡ Some kind) → (if b then Some p.1 else found ps v) ≡ Some kind
    by_case true e has rest = ap Some (told_once n log v p.1 kind distinct legal (subst (λ (m : ℕ). IsTold log m p.1) (same_number p.0 v e) told.0) is)
    by_case false e has rest = rest has

pub told_append : (log : List Entry) (ps qs : List (ℕ × ℕ)) → AreOfKinds log ps → AreOfKinds log qs → AreOfKinds log (ps ++ qs)
told_append log [] qs a b = b
told_append log (p ∷ ps) qs a b = (a.0, told_append log ps qs a.1 b)

pub all_later : (log log' : List Entry) → IsPrefix log log' → (ps : List (ℕ × ℕ)) → AreOfKinds log ps → AreOfKinds log' ps
all_later log log' grows [] a = tt
all_later log log' grows (p ∷ ps) a = (told_later log log' p.0 p.1 grows a.0, all_later log log' grows ps a.1)

-- A state that is shown is shown by more numbers.

abbrev head_or : {A : Type 0} → A → List A → A
head_or a [] = a
head_or a (x ∷ xs) = x

abbrev rest_of : {A : Type 0} → List A → List A
rest_of [] = []
rest_of (x ∷ xs) = xs

module _ {T R : Type 0} where
  shows_values_on : (names more : List (ℕ × T)) (ns : List ℕ) (vs : List (T × R)) → ShowsValues {T = Option T} {R = Option R} (found names) ns (map some_value vs) → ShowsValues {T = Option T} {R = Option R} (found (names ++ more)) ns (map some_value vs)
  shows_values_on names more [] vs e = e
  shows_values_on names more (n ∷ ns) [] e = absurd (cc)
  shows_values_on names more (n ∷ ns) (v ∷ vs) e = λ i. found_on names more n v.0 (ap (head_or None) e) i ∷ shows_values_on names more ns vs (ap rest_of e) i

  stand_for_on : (names more : List (ℕ × T)) (kinds others : List (ℕ × R)) (ns : List ℕ) (vs : List (T × R)) → StandFor {T = Option T} {R = Option R} (found names) (found kinds) ns (map some_value vs)
      → StandFor {T = Option T} {R = Option R} (found (names ++ more)) (found (kinds ++ others)) ns (map some_value vs)
  stand_for_on names more kinds others [] vs e = e
  stand_for_on names more kinds others (n ∷ ns) [] e = absurd (cc)
  stand_for_on names more kinds others (n ∷ ns) (v ∷ vs) e =
      λ i. (found_on names more n v.0 (ap (λ (l : List (Option T × Option R)). (head_or (None, None) l).0) e) i, found_on kinds others n v.1 (ap (λ (l : List (Option T × Option R)). (head_or (None, None) l).1) e) i)
      ∷ stand_for_on names more kinds others ns vs (ap rest_of e) i

links_on : {T : Type 0} (names more : List (ℕ × T)) (ls : List (Option ℕ)) (vs : List (Option T)) → map (held_value (found names)) ls ≡ map (λ (o : Option T). option_map Some o) vs → map (held_value (found (names ++ more))) ls ≡ map (λ (o : Option T). option_map Some o) vs
links_on names more [] vs e = e
links_on names more (l ∷ ls) [] e = absurd (cc)
links_on {T} names more (l ∷ ls) (v ∷ vs) e = λ i. one l v (ap (head_or None) e) i ∷ links_on names more ls vs (ap rest_of e) i
  where
    one : (l : Option ℕ) (v : Option T) → held_value (found names) l ≡ option_map Some v → held_value (found (names ++ more)) l ≡ option_map Some v
    one None v e = e
    one (Some n) None e = absurd (cc)
    one (Some n) (Some v) e = ap Some (found_on names more n v (ap (or_this None) e))

module _ {T R : Type 0} (names more : List (ℕ × T)) (kinds others : List (ℕ × R)) (st : waiting.ModelState T R) (ms : machine.State) where
  pub shows_on : ShowsState (Option T) (Option R) (found names) (some_state st) ms → ShowsState (Option T) (Option R) (found (names ++ more)) (some_state st) ms
  shows_on a = record {
    numbers = a.numbers;
    slots = a.slots;
    slot = λ s.
        let own : ShowsSlot (Option T) (Option R) (found names) (waiting.model_slot (some_state st) s) (machine.slot_at ms s) = a.slot s in
        let e = ap (λ (slot : waiting.ModelSlot (Option T) (Option R)). slot.batch) (slot_same st s) in
        record {
          used = own.used;
          idle = own.idle;
          batch = subst (λ (vs : List (Option T × Option R)). ShowsValues (found (names ++ more)) (machine.slot_at ms s).batch vs) (sym e)
              (shows_values_on names more (machine.slot_at ms s).batch (waiting.model_slot st s).batch (subst (λ (vs : List (Option T × Option R)). ShowsValues (found names) (machine.slot_at ms s).batch vs) e own.batch));
          free = own.free;
          owned = own.owned;
          inactive = own.inactive;
          once = own.once;
        };
    heads = a.heads;
    retired = a.retired;
    values = λ b.
        subst (λ (vs : List (Option T × Option R)). ShowsValues (found (names ++ more)) (machine.batch_at ms b).values vs) (sym (retired_same st b))
        (shows_values_on names more (machine.batch_at ms b).values (waiting.retired_at st b) (subst (λ (vs : List (Option T × Option R)). ShowsValues (found names) (machine.batch_at ms b).values vs) (retired_same st b) (a.values b)));
    counts = a.counts;
    links = links_on names more ms.links st.links a.links;
    rest = shows_values_on names more ms.rest st.rest a.rest;
  }

  pub reclaimers_on : ShowsReclaimers (Option T) (Option R) (found names) (found kinds) (some_state st) ms → ShowsReclaimers (Option T) (Option R) (found (names ++ more)) (found (kinds ++ others)) (some_state st) ms
  reclaimers_on a = record {
    batches = λ s.
        let e = ap (λ (slot : waiting.ModelSlot (Option T) (Option R)). slot.batch) (slot_same st s) in
        subst (λ (vs : List (Option T × Option R)). StandFor (found (names ++ more)) (found (kinds ++ others)) (machine.slot_at ms s).batch vs) (sym e)
        (stand_for_on names more kinds others (machine.slot_at ms s).batch (waiting.model_slot st s).batch (subst (λ (vs : List (Option T × Option R)). StandFor (found names) (found kinds) (machine.slot_at ms s).batch vs) e (a.batches s)));
    retired = λ b.
        subst (λ (vs : List (Option T × Option R)). StandFor (found (names ++ more)) (found (kinds ++ others)) (machine.batch_at ms b).values vs) (sym (retired_same st b))
        (stand_for_on names more kinds others (machine.batch_at ms b).values (waiting.retired_at st b) (subst (λ (vs : List (Option T × Option R)). StandFor (found names) (found kinds) (machine.batch_at ms b).values vs) (retired_same st b) (a.retired b)));
    rest = stand_for_on names more kinds others ms.rest st.rest a.rest;
  }
