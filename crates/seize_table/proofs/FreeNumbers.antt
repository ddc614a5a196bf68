-- The set of the numbers in use, as its heap of free numbers changes.
use Rattle.std.proofs.Common.{◌≡◌, ℕ, zero, suc, ◌+◌, ◌<◌, ◌≤◌, Bool, true, false, not, ◌&&◌, ◌||◌, nat_eq, nat_lt, List, [], ◌∷◌, length, map, refl, sym, ◌∙◌, ap, subst, arith, inl, inr, cond, nat_cmp}
use Rattle.std.proofs.lemmas.Bool.{cases_eq, cases_lt, cases_order, or_cases, or_parts, eq-eqb, ne_eqb, eqb-true, lt-ltb, le-ltb, ltb-true, or_left, or_right, or_from, and_from, and_left, and_right, and_parts, not_from_true, not_from_false, not-true, both_ways}
use Rattle.std.proofs.lemmas.List.Sorted.{list_any-IsPermutation}
use Rattle.std.proofs.lemmas.Map.Keys.{IsDistinct-IsPermutation, IsDistinct-head, IsDistinct-tail, IsDistinct-cons}
use Rattle.std.proofs.lemmas.Map.Steps.{length-le_from_distinct_below}
use Rattle.std.specs.Cmp.{nat_cmp_total, unsigned_tied}
use Rattle.std.specs.Ordering.{is_lt, eq_by_cmp}
use Rattle.std.specs.declared.cmp.Ordering.TheVariants.{Less, Equal, Greater}
use Rattle.std.specs.List.{range_with_len, list_any, IsDistinct, AllByRecursion}
use Rattle.std.specs.List.Sorted.{IsPermutation}
use Rattle.std.specs.BinaryHeap.{IsUpperBound, IsHeap}
use Rattle.std.specs.declared.cmp.Reverse.{Reverse}
use Rattle.std.specs.FinSet as set
use Rattle.seize_table.specs.Free.{is_in_heap, in_use, IsRoomy, Least}

range_has : (a n q : ℕ) → a ≤ q → q < a + n → list_any (λ y. nat_eq y q) (range_with_len a n) ≡ true
range_has a zero q low high = absurd (omega arith)
range_has a (suc n) q low high =
    elim (cases_eq a q) [ inl e ↦ or_left (nat_eq a q) _ (eq-eqb a q e) | inr e ↦ or_right (nat_eq a q) _ (range_has (a + 1) n q (omega arith) (omega arith)) ]

range_lacks : (a n q : ℕ) → a + n ≤ q → list_any (λ y. nat_eq y q) (range_with_len a n) ≡ false
range_lacks a zero q h = refl
range_lacks a (suc n) q h = or_from (nat_eq a q) _ (ne_eqb a q (λ e. omega arith)) (range_lacks (a + 1) n q (omega arith))

range_is : (n q : ℕ) → list_any (λ y. nat_eq y q) (range_with_len 0 n) ≡ nat_lt q n
range_is n q =
    elim (cases_lt q n) [ inl h ↦ range_has 0 n q (omega arith) (omega arith) ∙ sym (lt-ltb q n h) | inr h ↦ range_lacks 0 n q (omega arith) ∙ sym (le-ltb q n h) ]

mapped : (free : List (Reverse ℕ)) (q : ℕ) → list_any (λ y. nat_eq y q) (map (λ (r : Reverse ℕ). r.0) free) ≡ is_in_heap free q
mapped [] q = refl
mapped (x ∷ xs) q = ap (λ (b : Bool). nat_eq x.0 q || b) (mapped xs q)

-- what the set has
pub contains-in_use : (made : ℕ) (free : List (Reverse ℕ)) (q : ℕ) → set.contains (in_use made free) q ≡ (nat_lt q made && not (is_in_heap free q))
contains-in_use made free q =
    set.contains-difference nat_cmp_total (set.from_list (range_with_len 0 made)) (set.from_list (map (λ (r : Reverse ℕ). r.0) free)) q
    ∙ ap (λ (b : Bool). b && not (set.contains (set.from_list {R = nat_cmp} (map (λ (r : Reverse ℕ). r.0) free)) q)) (set.contains-from_list_nat (range_with_len 0 made) q ∙ range_is made q)
    ∙ ap (λ (b : Bool). nat_lt q made && not b) (set.contains-from_list_nat (map (λ (r : Reverse ℕ). r.0) free) q ∙ mapped free q)

pub used : (made : ℕ) (free : List (Reverse ℕ)) (q : ℕ) → q < made → is_in_heap free q ≡ false → set.contains (in_use made free) q ≡ true
used made free q below none = contains-in_use made free q ∙ and_from (nat_lt q made) _ (lt-ltb q made below) (not_from_false (is_in_heap free q) none)

pub unused_above : (made : ℕ) (free : List (Reverse ℕ)) (q : ℕ) → made ≤ q → set.contains (in_use made free) q ≡ false
unused_above made free q above = contains-in_use made free q ∙ and_left (nat_lt q made) _ (le-ltb q made above)

pub unused_free : (made : ℕ) (free : List (Reverse ℕ)) (q : ℕ) → is_in_heap free q ≡ true → set.contains (in_use made free) q ≡ false
unused_free made free q here = contains-in_use made free q ∙ and_right (nat_lt q made) _ (not_from_true (is_in_heap free q) here)

pub is_used : (made : ℕ) (free : List (Reverse ℕ)) (q : ℕ) → set.contains (in_use made free) q ≡ true → (q < made) × (is_in_heap free q ≡ false)
is_used made free q h =
    let parts = and_parts (nat_lt q made) (not (is_in_heap free q)) (sym (contains-in_use made free q) ∙ h) in
    (ltb-true q made parts.0, not-true (is_in_heap free q) parts.1)

flips : (x y : Reverse ℕ) → nat_eq y.0 x.0 ≡ nat_eq x.0 y.0
flips x y = elim (cases_eq y.0 x.0) [ inl e ↦ eq-eqb y.0 x.0 e ∙ sym (eq-eqb x.0 y.0 (sym e)) | inr e ↦ ne_eqb y.0 x.0 e ∙ sym (ne_eqb x.0 y.0 (λ f. e (sym f))) ]

none_equal : (x : Reverse ℕ) (rest : List (Reverse ℕ)) → AllByRecursion (λ y. nat_eq y.0 x.0 ≡ false) rest → is_in_heap rest x.0 ≡ false
none_equal x [] h = refl
none_equal x (y ∷ ys) h = or_from (nat_eq y.0 x.0) _ h.0 (none_equal x ys h.1)

all_apart : (x : Reverse ℕ) (rest : List (Reverse ℕ)) → is_in_heap rest x.0 ≡ false → AllByRecursion (λ y. nat_eq y.0 x.0 ≡ false) rest
all_apart x [] h = tt
all_apart x (y ∷ ys) h = let parts = or_parts (nat_eq y.0 x.0) (is_in_heap ys x.0) h in (parts.0, all_apart x ys parts.1)

not_less : (a b : ℕ) → is_lt (nat_cmp a b) ≡ false → b ≤ a
not_less a b h =
    elim (cases_lt a b) [ inl less ↦ absurd (both_ways (is_lt (nat_cmp a b)) h (ap (λ (t : Bool). is_lt (cond t Less (cond (nat_eq a b) Equal Greater))) (lt-ltb a b less))) | inr above ↦ above ]

-- below the least there is none
none_below : (x : Reverse ℕ) (rest : List (Reverse ℕ)) → IsUpperBound (λ (u v : Reverse ℕ). nat_cmp v.0 u.0) x rest → (m : ℕ) → m < x.0 → is_in_heap rest m ≡ false
none_below x [] h m less = refl
none_below x (y ∷ ys) h m less =
    let above = not_less y.0 x.0 h.0 in
    or_from (nat_eq y.0 m) _ (ne_eqb y.0 m (λ e. omega arith)) (none_below x ys h.1 m less)

numbers_distinct : (free : List (Reverse ℕ)) → IsDistinct (λ (x y : Reverse ℕ). nat_eq y.0 x.0) free → IsDistinct nat_eq (map (λ (r : Reverse ℕ). r.0) free)
unfolding IsDistinct
numbers_distinct [] h = tt
numbers_distinct (x ∷ xs) h = (apart xs h.0, numbers_distinct xs h.1)
  where
    apart : (ys : List (Reverse ℕ)) → AllByRecursion (λ y. nat_eq y.0 x.0 ≡ false) ys → AllByRecursion (λ y. nat_eq x.0 y ≡ false) (map (λ (r : Reverse ℕ). r.0) ys)
    apart [] a = tt
    apart (y ∷ ys) a = (sym (flips x y) ∙ a.0, apart ys a.1)

pub members_flip : (free : List (Reverse ℕ)) (q : ℕ) → list_any (nat_eq q) (map (λ (r : Reverse ℕ). r.0) free) ≡ is_in_heap free q
members_flip [] q = refl
members_flip (x ∷ xs) q = ap (λ (b : Bool). b || list_any (nat_eq q) (map (λ (r : Reverse ℕ). r.0) xs)) (flips x record { 0 = q }) ∙ ap (λ (b : Bool). nat_eq x.0 q || b) (members_flip xs q)

pub length-numbers : (free : List (Reverse ℕ)) → length (map (λ (r : Reverse ℕ). r.0) free) ≡ length free
length-numbers [] = refl
length-numbers (x ∷ xs) = ap suc (length-numbers xs)

-- numbers that were made, each listed once, are no more than were made
no_more : (made : ℕ) (xs : List (Reverse ℕ)) → IsDistinct (λ (x y : Reverse ℕ). nat_eq y.0 x.0) xs → ((q : ℕ) → is_in_heap xs q ≡ true → q < made) → length xs ≤ made
no_more made xs once below =
    let few = length-le_from_distinct_below (map (λ (r : Reverse ℕ). r.0) xs) made (numbers_distinct xs once) (λ q h. below q (sym (members_flip xs q) ∙ h)) in
    let len = length-numbers xs in
    omega arith

one_more : (n : ℕ) (xs : List (Reverse ℕ)) → IsDistinct (λ (x y : Reverse ℕ). nat_eq y.0 x.0) xs → is_in_heap xs n ≡ false → IsDistinct (λ (x y : Reverse ℕ). nat_eq y.0 x.0) (record { 0 = n } ∷ xs)
one_more n xs once none = IsDistinct-cons (λ (x y : Reverse ℕ). nat_eq y.0 x.0) record { 0 = n } xs (all_apart record { 0 = n } xs none) once

one_more_below : (made n : ℕ) (xs : List (Reverse ℕ)) → ((q : ℕ) → is_in_heap xs q ≡ true → q < made) → n < made → (q : ℕ) → is_in_heap (record { 0 = n } ∷ xs) q ≡ true → q < made
one_more_below made n xs each below q h = elim (or_cases (nat_eq n q) (is_in_heap xs q) h) [ inl e ↦ subst (λ k. k < made) (eqb-true n q e) below | inr f ↦ each q f ]

-- the heap has no more numbers than were made
pub at_most : (made room : ℕ) (free : List (Reverse ℕ)) → IsRoomy made free room → length free ≤ made
at_most made room free roomy = no_more made free roomy.once roomy.below

-- it has fewer, while one that was made isn't in it
pub fewer : (made room : ℕ) (free : List (Reverse ℕ)) (n : ℕ) → IsRoomy made free room → n < made → is_in_heap free n ≡ false → length free < made
fewer made room free n roomy below none =
    let few = no_more made (record { 0 = n } ∷ free) (one_more n free roomy.once none) (one_more_below made n free roomy.below below) in
    omega arith

-- it has two fewer, while two that were made aren't in it
pub fewer_by_two : (made room : ℕ) (free : List (Reverse ℕ)) (m n : ℕ) → IsRoomy made free room → m < made → is_in_heap free m ≡ false → n < made → is_in_heap free n ≡ false → (m ≡ n → ⊥) → length free + 1 < made
fewer_by_two made room free m n roomy m_below no_m n_below no_n apart =
    let both : List (Reverse ℕ) = record { 0 = n } ∷ free in
    let none : is_in_heap both m ≡ false = or_from (nat_eq n m) (is_in_heap free m) (ne_eqb n m (λ e. apart (sym e))) no_m in
    let few = no_more made (record { 0 = m } ∷ both) (one_more m both (one_more n free roomy.once no_n) none) (one_more_below made m both (one_more_below made n free roomy.below n_below) m_below) in
    omega arith

module _ (made : ℕ) (free rest : List (Reverse ℕ)) (n : Reverse ℕ) (moved : IsPermutation free (n ∷ rest)) where
  is_free-moved : (q : ℕ) → is_in_heap free q ≡ (nat_eq n.0 q || is_in_heap rest q)
  is_free-moved q = list_any-IsPermutation (λ (r : Reverse ℕ). nat_eq r.0 q) free (n ∷ rest) moved

  rest_free : (q : ℕ) → is_in_heap rest q ≡ true → is_in_heap free q ≡ true
  rest_free q h = is_free-moved q ∙ or_right (nat_eq n.0 q) _ h

  other_free : (q : ℕ) → (n.0 ≡ q → ⊥) → is_in_heap free q ≡ is_in_heap rest q
  other_free q h = is_free-moved q ∙ ap (λ (b : Bool). b || is_in_heap rest q) (ne_eqb n.0 q h)

  top_free : is_in_heap free n.0 ≡ true
  top_free = is_free-moved n.0 ∙ or_left (nat_eq n.0 n.0) _ (eq-eqb n.0 n.0 refl)

  distinct : (room : ℕ) → IsRoomy made free room → IsDistinct (λ (x y : Reverse ℕ). nat_eq y.0 x.0) (n ∷ rest)
  distinct room roomy = IsDistinct-IsPermutation (λ (x y : Reverse ℕ). nat_eq y.0 x.0) flips free (n ∷ rest) moved roomy.once

  top_gone : (room : ℕ) → IsRoomy made free room → is_in_heap rest n.0 ≡ false
  top_gone room roomy = none_equal n rest (IsDistinct-head (λ (x y : Reverse ℕ). nat_eq y.0 x.0) n rest (distinct room roomy))

  -- what a `pop` of n leaves
  pub roomy-pop : (room : ℕ) → IsRoomy made free room → IsHeap (λ (x y : Reverse ℕ). nat_cmp y.0 x.0) rest → IsRoomy made rest room
  roomy-pop room roomy heap = record {
    ordered = heap;
    once = IsDistinct-tail (λ (x y : Reverse ℕ). nat_eq y.0 x.0) n rest (distinct room roomy);
    below = λ q h. roomy.below q (rest_free q h);
    room_for_all = roomy.room_for_all;
    in_table = roomy.in_table;
  }

  pub least-pop : (room : ℕ) → IsRoomy made free room → IsUpperBound (λ (x y : Reverse ℕ). nat_cmp y.0 x.0) n rest → Least (in_use made free) n.0
  least-pop room roomy bound = record {
    unused = unused_free made free n.0 top_free;
    least = λ m less. let below = roomy.below n.0 top_free in used made free m (omega arith) (other_free m (λ e. omega arith) ∙ none_below n rest bound m less);
  }

  pub in_table-pop : (room : ℕ) → IsRoomy made free room → n.0 < made
  in_table-pop room roomy = roomy.below n.0 top_free

  pub in_use-pop : (room : ℕ) → IsRoomy made free room → in_use made rest ≡ set.insert (in_use made free) n.0
  in_use-pop room roomy = set.same_set nat_cmp_total set.nat_cmp-IsAntisymmetric (in_use made rest) (set.insert (in_use made free) n.0) (λ q. has q ∙ sym (set.contains-insert nat_cmp_total (in_use made free) n.0 q))
    where
      has : (q : ℕ) → set.contains (in_use made rest) q ≡ (eq_by_cmp nat_cmp q n.0 || set.contains (in_use made free) q)
      has q = elim (cases_eq n.0 q) [
        | inl e ↦ subst (λ k. set.contains (in_use made rest) k ≡ true) e (used made rest n.0 (in_table-pop room roomy) (top_gone room roomy)) ∙ sym (or_left (eq_by_cmp nat_cmp q n.0) _ (unsigned_tied q n.0 ∙ eq-eqb q n.0 (sym e)))
        | inr e ↦ contains-in_use made rest q ∙ ap (λ (b : Bool). nat_lt q made && not b) (sym (other_free q e)) ∙ sym (contains-in_use made free q) ∙ ap (λ (b : Bool). b || set.contains (in_use made free) q) (sym (unsigned_tied q n.0 ∙ ne_eqb q n.0 (λ f. e (sym f))))
      ]

-- what a `push` of n leaves
module _ (made : ℕ) (free grown : List (Reverse ℕ)) (n : ℕ) (moved : IsPermutation (record { 0 = n } ∷ free) grown) where
  is_free-grown : (q : ℕ) → is_in_heap grown q ≡ (nat_eq n q || is_in_heap free q)
  is_free-grown q = sym (list_any-IsPermutation (λ (r : Reverse ℕ). nat_eq r.0 q) (record { 0 = n } ∷ free) grown moved)

  pub roomy-push : (room wider : ℕ) → IsRoomy made free room → room ≤ wider → IsHeap (λ (x y : Reverse ℕ). nat_cmp y.0 x.0) grown → n < made → is_in_heap free n ≡ false → IsRoomy made grown wider
  roomy-push room wider roomy wide heap below none = record {
    ordered = heap;
    once = IsDistinct-IsPermutation (λ (x y : Reverse ℕ). nat_eq y.0 x.0) flips (record { 0 = n } ∷ free) grown moved (IsDistinct-cons (λ (x y : Reverse ℕ). nat_eq y.0 x.0) record { 0 = n } free (all_apart record { 0 = n } free none) roomy.once);
    below = λ q h. elim (or_cases (nat_eq n q) (is_in_heap free q) (sym (is_free-grown q) ∙ h)) [ inl e ↦ subst (λ k. k < made) (eqb-true n q e) below | inr f ↦ roomy.below q f ];
    room_for_all = let r = roomy.room_for_all in omega arith;
    in_table = roomy.in_table;
  }

  pub in_use-push : in_use made grown ≡ set.remove (in_use made free) n
  in_use-push = set.same_set nat_cmp_total set.nat_cmp-IsAntisymmetric (in_use made grown) (set.remove (in_use made free) n) (λ q. has q ∙ sym (set.contains-remove nat_cmp_total (in_use made free) n q))
    where
      has : (q : ℕ) → set.contains (in_use made grown) q ≡ (not (eq_by_cmp nat_cmp q n) && set.contains (in_use made free) q)
      has q = elim (cases_eq n q) [
        | inl e ↦ unused_free made grown q (is_free-grown q ∙ or_left (nat_eq n q) _ (eq-eqb n q e)) ∙ sym (and_left (not (eq_by_cmp nat_cmp q n)) _ (not_from_true (eq_by_cmp nat_cmp q n) (unsigned_tied q n ∙ eq-eqb q n (sym e))))
        | inr e ↦ contains-in_use made grown q ∙ ap (λ (b : Bool). nat_lt q made && not b) (is_free-grown q ∙ ap (λ (b : Bool). b || is_in_heap free q) (ne_eqb n q e)) ∙ sym (contains-in_use made free q) ∙ ap (λ (b : Bool). not b && set.contains (in_use made free) q) (sym (unsigned_tied q n ∙ ne_eqb q n (λ f. e (sym f))))
      ]

pub none_free : (free : List (Reverse ℕ)) → length free ≡ 0 → (q : ℕ) → is_in_heap free q ≡ false
none_free [] e q = refl
none_free (x ∷ xs) e q = absurd (omega arith)

-- what one more number leaves
module _ (made : ℕ) (free : List (Reverse ℕ)) (none : (q : ℕ) → is_in_heap free q ≡ false) where
  pub least-made : Least (in_use made free) made
  least-made = record { unused = unused_above made free made (omega arith); least = λ m less. used made free m less (none m) }

  pub in_use-made : in_use (made + 1) free ≡ set.insert (in_use made free) made
  in_use-made = set.same_set nat_cmp_total set.nat_cmp-IsAntisymmetric (in_use (made + 1) free) (set.insert (in_use made free) made) (λ q. has q ∙ sym (set.contains-insert nat_cmp_total (in_use made free) made q))
    where
      has : (q : ℕ) → set.contains (in_use (made + 1) free) q ≡ (eq_by_cmp nat_cmp q made || set.contains (in_use made free) q)
      has q = elim (cases_order q made) [
        | inl e ↦ used (made + 1) free q (omega arith) (none q) ∙ sym (or_left (eq_by_cmp nat_cmp q made) _ (unsigned_tied q made ∙ eq-eqb q made e))
        | inr away ↦ elim away [
          | inl less ↦ used (made + 1) free q (omega arith) (none q) ∙ sym (or_right (eq_by_cmp nat_cmp q made) _ (used made free q less (none q)))
          | inr more ↦ unused_above (made + 1) free q (omega arith) ∙ sym (or_from (eq_by_cmp nat_cmp q made) _ (unsigned_tied q made ∙ ne_eqb q made (λ e. omega arith)) (unused_above made free q (omega arith)))
        ]
      ]

-- nothing was made
pub none_in_use : in_use 0 [] ≡ set.empty
none_in_use = set.same_set nat_cmp_total set.nat_cmp-IsAntisymmetric (in_use 0 []) set.empty (λ q. unused_above 0 [] q (omega arith) ∙ sym (set.contains-empty nat_cmp q))

pub roomy-new : (free : List (Reverse ℕ)) (room : ℕ) → free ≡ [] → IsHeap (λ (x y : Reverse ℕ). nat_cmp y.0 x.0) free → IsRoomy 0 free room
unfolding IsDistinct
roomy-new free room empty heap = record {
  ordered = heap;
  once = rw empty tt;
  below = λ n h. absurd (both_ways (is_in_heap free n) (ap (λ xs. is_in_heap xs n) empty) h);
  room_for_all = omega arith;
  in_table = omega arith;
}
