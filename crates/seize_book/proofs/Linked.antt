-- Keys that lead on from block to block.
use Rattle.std.proofs.Common.{◌≡◌, Bool, true, ◌&&◌, List, [], ◌∷◌, ◌++◌, refl, ◌∙◌, ap}
use base.Stored.{Gv}
use Rattle.seize_machine.proofs.Facts.{and_true}
use Rattle.seize_book.specs.Entry.{Entry}
use Rattle.seize_book.specs.Ledger.{HeldKey, with_list}
use Rattle.seize_book.specs.Book.{blocks}
use Rattle.seize_book.specs.Private.{is_one}
use Rattle.seize_book.specs.declared.book.value_key.ValueKey.{ValueKey}
use Rattle.seize_book.specs.Linked.{leads_first, are_linked, are_joined}

abbrev Keys : Type 0
Keys = List (HeldKey Entry)

both : (a b : Bool) → a ≡ true → b ≡ true → (a && b) ≡ true
both a b h k = ap (λ (c : Bool). c && b) h ∙ k

first_later : (g : Gv) (held : Keys) (log : List Entry) → leads_first g (with_list held log) ≡ leads_first g held
first_later g [] log = refl
first_later g (h ∷ held) log = refl

pub are_later : (held : Keys) (log : List Entry) → are_linked (with_list held log) ≡ are_linked held
are_later [] log = refl
are_later (h ∷ []) log = refl
are_later (h ∷ k ∷ held) log = λ j. first_later h.note (k ∷ held) log j && are_later (k ∷ held) log j

-- and closed keys stay so
pub still_closed : (held : Keys) (log : List Entry) → are_joined (with_list held log) [] ≡ are_joined held []
still_closed [] log = refl
still_closed (h ∷ []) log = refl
still_closed (h ∷ k ∷ held) log = still_closed (k ∷ held) log

pub append_linked : (a b : Keys) → are_linked a ≡ true → are_linked b ≡ true → are_joined a b ≡ true → are_linked (a ++ b) ≡ true
append_linked [] b la lb j = lb
append_linked (h ∷ []) [] la lb j = refl
append_linked (h ∷ []) (k ∷ b) la lb j = both (leads_first h.note (k ∷ b)) (are_linked (k ∷ b)) j lb
append_linked (h ∷ k ∷ a) b la lb j =
    let parts = and_true _ _ la in both (leads_first h.note (k ∷ a)) (are_linked ((k ∷ a) ++ b)) parts.0 (append_linked (k ∷ a) b parts.1 lb j)

-- and apart again
pub parted_linked : (a b : Keys) → are_linked (a ++ b) ≡ true → (are_linked a ≡ true) × (are_linked b ≡ true)
parted_linked [] b l = (refl, l)
parted_linked (h ∷ []) [] l = (refl, refl)
parted_linked (h ∷ []) (k ∷ b) l = (refl, (and_true _ _ l).1)
parted_linked (h ∷ k ∷ a) b l =
    let parts = and_true _ _ l in let rest = parted_linked (k ∷ a) b parts.1 in (both (leads_first h.note (k ∷ a)) (are_linked (k ∷ a)) parts.0 rest.0, rest.1)

pub parted_joined : (a : Keys) (k : HeldKey Entry) (b : Keys) → are_linked (a ++ k ∷ b) ≡ true → are_joined a (k ∷ b) ≡ true
parted_joined [] k b l = refl
parted_joined (h ∷ []) k b l = (and_true _ _ l).0
parted_joined (h ∷ g ∷ a) k b l = parted_joined (g ∷ a) k b (and_true _ _ l).1

-- closed keys, parted
pub closed_after : (a : Keys) (k : HeldKey Entry) (b : Keys) → are_joined (a ++ k ∷ b) [] ≡ are_joined (k ∷ b) []
closed_after [] k b = refl
closed_after (h ∷ []) k b = refl
closed_after (h ∷ g ∷ a) k b = closed_after (g ∷ a) k b

-- a key of one value
pub value_linked : (value : ValueKey) → are_linked value.keys.held ≡ true
value_linked value = go value.keys.held value.one
  where
    go : (held : Keys) → is_one blocks held ≡ true → are_linked held ≡ true
    go [] one = refl
    go (h ∷ []) one = refl
    go (h ∷ k ∷ held) one = absurd (cc)
