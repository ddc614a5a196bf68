-- What a slot's holder knows of the values of a batch by numbers.
--     starts_at n values, ends_at n values     n is the number of the first one's block, or of the last one's, where there are some
--     is_count_of n values     there are so many of them, or more than can be said
--     word_of_first values     the word that leads to the first one's block: its number and one more, or 0 where there is none
--     are_none values          whether there are none
use Rattle.std.specs.Prelude.{ℕ, suc, Bool, true, false, ◌==◌, ◌-◌, ◌^◌, min, List, [], ◌∷◌, length}
use Rattle.seize_book.specs.Blocks.{block_number}

abbrev pub starts_at : ℕ → List ℕ → Bool
starts_at n [] = true
starts_at n (v ∷ values) = n == block_number v

abbrev pub ends_at : ℕ → List ℕ → Bool
ends_at n [] = true
ends_at n (v ∷ []) = n == block_number v
ends_at n (v ∷ w ∷ values) = ends_at n (w ∷ values)

abbrev pub is_count_of : ℕ → List ℕ → Bool
is_count_of n values = n == min (length values) (2 ^ 64 - 1)

abbrev pub word_of_first : List ℕ → ℕ
word_of_first [] = 0
word_of_first (v ∷ values) = suc (block_number v)

abbrev pub are_none : List ℕ → Bool
are_none [] = true
are_none (v ∷ values) = false
