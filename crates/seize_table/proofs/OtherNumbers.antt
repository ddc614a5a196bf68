-- Whether a number other than n is in use, by how many were made and how many of them are free.
--     Other used n        a number other than n is in use
--     some_other          there is one where two or more are in use
--     another             there is one where any is in use, and n isn't
--     some_there          where there is one, some number is in use
--     two_there           and two or more are where n is
use Rattle.std.proofs.Common.{◌≡◌, ◌≢◌, ℕ, zero, suc, ◌+◌, ◌-◌, ◌<◌, Bool, true, false, not, ◌⊎◌, ◌↔◌, nat_eq, nat_lt, List, ◌∷◌, length, map, sym, ◌∙◌, subst, arith, inl, inr, nat_cmp}
use Rattle.std.proofs.lemmas.Bool.{cases_eq, cases_Bool, not-true, not_from_false, or_parts, eq-eqb, ltb-true, lt-ltb, both_ways}
use Rattle.std.proofs.lemmas.Map.Steps.{le-length_from_below}
use Rattle.std.specs.declared.cmp.Reverse.{Reverse}
use Rattle.std.specs.FinSet as set
use Rattle.seize_table.specs.Free.{is_in_heap, in_use, IsRoomy}
use Rattle.seize_table.proofs.FreeNumbers.{used, is_used, fewer, fewer_by_two, members_flip, length-numbers}

abbrev pub Other : set.FinSet nat_cmp → ℕ → Type 0
Other numbers n = (m : ℕ) × (m ≢ n) × (set.contains numbers m ≡ true)

first_lacking : (p : ℕ → Bool) (n : ℕ) → ((m : ℕ) × (m < n) × (p m ≡ false)) ⊎ ((q : ℕ) → q < n → p q ≡ true)
first_lacking p zero = inr (λ q h. absurd (omega arith))
first_lacking p (suc n) = elim (first_lacking p n) [
  | inl w ↦ inl (w.0, (let less = w.1 in omega arith), w.2)
  | inr all ↦ elim (cases_Bool (p n)) [
    | inl on ↦ inr (λ q h. elim (cases_eq q n) [ inl e ↦ subst (λ k. p k ≡ true) (sym e) on | inr e ↦ all q (omega arith) ])
    | inr lacks ↦ inl (n, omega arith, lacks)
  ]
]

-- a list shorter than n lacks a number below n
lacking : (n : ℕ) (xs : List (Reverse ℕ)) → length xs < n → (m : ℕ) × (m < n) × (is_in_heap xs m ≡ false)
lacking n xs short = elim (first_lacking (is_in_heap xs) n) [
  | inl w ↦ w
  | inr all ↦ absurd (let long = le-length_from_below (map (λ (r : Reverse ℕ). r.0) xs) n (λ q h. members_flip xs q ∙ all q h) in let len = length-numbers xs in omega arith)
]

module _ (made : ℕ) (free : List (Reverse ℕ)) (n : ℕ) where
  some_other : length free + 1 < made → Other (in_use made free) n
  some_other two =
      let w = lacking made (record { 0 = n } ∷ free) (omega (arith, two)) in
      let apart = or_parts (nat_eq n w.0) (is_in_heap free w.0) w.2 in
      (w.0, (λ e. both_ways (nat_eq n w.0) apart.0 (eq-eqb n w.0 (sym e))), used made free w.0 w.1 apart.1)

  another : length free < made → set.contains (in_use made free) n ≡ false → Other (in_use made free) n
  another some unused =
      let w = lacking made free some in
      let its = used made free w.0 w.1 w.2 in
      (w.0, (λ e. both_ways (set.contains (in_use made free) n) unused (subst (λ k. set.contains (in_use made free) k ≡ true) e its)), its)

  module _ (room : ℕ) (roomy : IsRoomy made free room) where
    some_there : Other (in_use made free) n → length free < made
    some_there there = let other = is_used made free there.0 there.2 in fewer made room free there.0 roomy other.0 other.1

    two_there : Other (in_use made free) n → set.contains (in_use made free) n ≡ true → length free + 1 < made
    two_there there h =
        let other = is_used made free there.0 there.2 in
        let own = is_used made free n h in
        fewer_by_two made room free there.0 n roomy other.0 other.1 own.0 own.1 there.1

    -- the answer where one number is in use
    pub others-one : (own : Bool) → length free + 1 ≡ made → own ≡ set.contains (in_use made free) n → (not own ≡ true) ↔ Other (in_use made free) n
    others-one own one is = (to, from)
      where
        to : not own ≡ true → Other (in_use made free) n
        to h = another (omega (arith, one)) (sym is ∙ not-true own h)

        from : Other (in_use made free) n → not own ≡ true
        from there = not_from_false own (elim (cases_Bool own) [ inl on ↦ absurd (let two = two_there there (sym is ∙ on) in omega (arith, one, two)) | inr off ↦ off ])

    -- and where none is, or several are
    pub others-counted : (count : ℕ) → count ≡ made - length free → (count ≡ 1 → ⊥) → (nat_lt 1 count ≡ true) ↔ Other (in_use made free) n
    others-counted count is away = (to, from)
      where
        to : nat_lt 1 count ≡ true → Other (in_use made free) n
        to h = some_other (let many = ltb-true 1 count h in omega (arith, many, is))

        from : Other (in_use made free) n → nat_lt 1 count ≡ true
        from there = lt-ltb 1 count (let some = some_there there in omega (arith, some, is, away))
