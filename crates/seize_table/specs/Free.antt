-- The numbers in use, as a set, and how they are kept: those below `made` that are not in the heap of free ones.
--     is_in_heap free n          n stands in the heap
--     in_use made free           the set
--     IsRoomy made free room     the heap has its least number first, no number twice and none that was not made, and room for all made
--     Least used n               n is the least number that is not in use
use Rattle.std.specs.Prelude.{◌≡◌, ℕ, ◌<◌, ◌≤◌, Bool, true, false, List, map, nat_eq}
use Rattle.std.specs.List.{range_with_len, list_any, IsDistinct}
use Rattle.std.specs.Ordering.{nat_cmp}
use Rattle.std.specs.BinaryHeap.{IsHeap}
use Rattle.std.specs.declared.cmp.Reverse.{Reverse}
use Rattle.std.specs.FinSet as set
use Rattle.seize_table.specs.Place.{all_numbers}

abbrev pub is_in_heap : List (Reverse ℕ) → ℕ → Bool
is_in_heap free n = list_any (λ r. nat_eq r.0 n) free

abbrev pub in_use : ℕ → List (Reverse ℕ) → set.FinSet nat_cmp
in_use made free = set.difference (set.from_list (range_with_len 0 made)) (set.from_list (map (λ r. r.0) free))

pub record IsRoomy (made : ℕ) (free : List (Reverse ℕ)) (room : ℕ) : Type 0 where
  pub ordered : IsHeap (λ x y. nat_cmp y.0 x.0) free
  pub once : IsDistinct (λ x y. nat_eq y.0 x.0) free
  pub below : (n : ℕ) → is_in_heap free n ≡ true → n < made
  pub room_for_all : made ≤ room
  pub in_table : made ≤ all_numbers

pub record Least (used : set.FinSet nat_cmp) (n : ℕ) : Type 0 where
  pub unused : set.contains used n ≡ false
  pub least : (m : ℕ) → m < n → set.contains used m ≡ true
