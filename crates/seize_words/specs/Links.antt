-- What a step on a link's word is, by whoever has an activation of a slot.
--     at_link n l        the word of link l of the book
--     IsWithin n s a since seen l   the slot was active, in the activation with lifetime a, when the list was `since`, which the pass has
--                        seen; and the link is one of the book's
--     IsNewIn n o vs     the keys are of this value, which was never named, as they know, and all that lay in its block before were
--                        reclaimed; and something is lent with it; or there is neither value nor key
--     value_in held, is_at_most_one held     the value that a key is labelled with, if there is one;  there is no other key
--     IsPairAllowed allowed p l held new   what such an exchange makes, which finds `held` and puts `new` in, is permitted
use Rattle.std.specs.Prelude.{◌≡◌, ℕ, zero, suc, ◌<◌, ◌==◌, Bool, true, false, ◌&&◌, List, [], ◌∷◌, length, Option, Some, None}
use mathlib.Core.List.{IsPrefix}
use Rattle.seize_machine.specs.Machine.State.{head_at, is_active, has}
use Rattle.seize_book.specs.Book.{after, blocks, links}
use Rattle.seize_book.specs.Entry.{Entry}
use Rattle.seize_book.specs.Homes.{IsVacant, home_of}
use Rattle.seize_book.specs.Laws.{life}
use Rattle.seize_book.specs.Ledger.{HeldKey}
use Rattle.seize_book.specs.Pairs.{AreCovered, unless_first, pair_if}
use Rattle.seize_book.specs.Private.{own_of}
use Rattle.seize_book.specs.Loans.{CarriesOne}
use Rattle.seize_book.specs.Tokens.{Name, start}
use Rattle.seize_words.specs.LinkSites.{LinkSite}
use Rattle.seize_words.specs.Words.{Site, IsKeyOf}

abbrev pub at_link : Name → ℕ → Site
at_link n l = record { name = n; kind = links; number = l }

pub record IsWithin (n : Name) (s a : ℕ) (since seen : List Entry) (l : ℕ) : Type 0 where
  pub active : is_active (head_at (after (start n) since) s) ≡ true
  pub its : life s since ≡ a
  pub known : IsPrefix since seen
  pub is_link : l < length n.links

-- the keys are those of the value o, which was never named, whose home is vacant, and with which something is lent
abbrev pub IsNewIn : Name → Option ℕ → List (HeldKey Entry) → Type 0
IsNewIn n None vs = IsKeyOf None vs
IsNewIn n (Some v) vs =
    IsKeyOf (Some v) vs × (has v (after (start n) (own_of vs)).named ≡ false) × IsVacant (after (start n) (own_of vs)) (home_of v)
    × CarriesOne v

abbrev pub IsLink : LinkSite → Type 0
IsLink word = word.kind ≡ links

-- the value that a key is labelled with, if there is one
abbrev pub value_in : List (HeldKey Entry) → Option ℕ
value_in [] = None
value_in (h ∷ held) = Some h.label

-- there is at most one key, and it is that of a value's block
abbrev pub is_at_most_one : List (HeldKey Entry) → Bool
is_at_most_one [] = true
is_at_most_one (h ∷ []) = (h.kind == blocks) && (h.key == home_of h.label)
is_at_most_one (h ∷ g ∷ held) = false

-- one of the permits with these numbers is for what an exchange of the link with this pass makes that finds `held` and puts `new` in
abbrev pub IsPairAllowed : List ℕ → ℕ → ℕ → Option ℕ → Option ℕ → Type 0
IsPairAllowed allowed p l held new = AreCovered allowed (unless_first p (pair_if true l held new))

-- a value with this word, or none
abbrev pub value_with : ℕ → Option ℕ
value_with zero = None
value_with (suc n) = Some n
