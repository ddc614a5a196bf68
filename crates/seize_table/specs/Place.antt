-- Where the numbers lie: bucket b has 2 ^ (b + 5) entries, and the places are counted from number 0 in the first entry of bucket 0.
--     all_numbers        how many numbers there are
--     IsPlace id b e     entry e of bucket b is the place of id
--     capacities n       how many entries each of the first n buckets has
--     OnePlace           no number has two places
--     OneNumber bs top   each entry of the first bs buckets is the place of one number, which is at most top
use Rattle.std.specs.Prelude.{◌≡◌, ℕ, ◌+◌, ◌-◌, ◌^◌, ◌<◌, ◌≤◌, List, map}
use Rattle.std.specs.List.{range_with_len}

abbrev pub all_numbers : ℕ
all_numbers = 2 ^ 64 - 32

pub record IsPlace (id bucket entry : ℕ) : Type 0 where
  pub place : 2 ^ (bucket + 5) + entry ≡ id + 32
  pub within : entry < 2 ^ (bucket + 5)

abbrev pub capacities : ℕ → List ℕ
capacities buckets = map (λ bucket. 2 ^ (bucket + 5)) (range_with_len 0 buckets)

abbrev pub OnePlace : Type 0
OnePlace = (id b e c f : ℕ) → IsPlace id b e → IsPlace id c f → (b ≡ c) × (e ≡ f)

abbrev pub OneNumber : ℕ → ℕ → Type 0
OneNumber buckets top =
    (b e : ℕ) → b < buckets → e < 2 ^ (b + 5) → (id : ℕ) × (id ≤ top) × IsPlace id b e × ((other : ℕ) → IsPlace other b e → other ≡ id)
