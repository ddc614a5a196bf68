-- Keys of several values that lead on: what is noted of each block says the next one, as a link's word would: its number and one more. So
-- who has the keys, and knows the first number, finds all blocks; and the last one says 0, where the keys are closed.
--     next_in g             the word that a note of this code says first
--     leads_first g held    it is that of the first of these, or 0 where there is none
--     are_linked held       each leads on to the next
--     are_joined a b        the last of the first leads on to the first of the others, or says 0 where there are none
use Rattle.std.specs.Prelude.{ℕ, suc, Bool, true, ◌==◌, ◌&&◌, List, [], ◌∷◌}
use base.Stored.{Gv, gnil, gnum, gcons}
use Rattle.seize_book.specs.Blocks.{block_number}
use Rattle.seize_book.specs.Entry.{Entry}
use Rattle.seize_book.specs.Ledger.{HeldKey}

abbrev pub next_in : Gv → ℕ
next_in gnil = 0
next_in (gnum n) = 0
next_in (gcons gnil g) = 0
next_in (gcons (gnum n) g) = n
next_in (gcons (gcons a b) g) = 0

abbrev pub leads_first : Gv → List (HeldKey Entry) → Bool
leads_first g [] = next_in g == 0
leads_first g (h ∷ held) = next_in g == suc (block_number h.label)

abbrev pub are_linked : List (HeldKey Entry) → Bool
are_linked [] = true
are_linked (h ∷ []) = true
are_linked (h ∷ k ∷ held) = leads_first h.note (k ∷ held) && are_linked (k ∷ held)

abbrev pub are_joined : List (HeldKey Entry) → List (HeldKey Entry) → Bool
are_joined [] b = true
are_joined (h ∷ []) b = leads_first h.note b
are_joined (h ∷ k ∷ a) b = are_joined (k ∷ a) b
