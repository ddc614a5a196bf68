-- The words in which the contracts of values' keys speak.
--     values_of keys                 the values whose keys they are, in order;  book_in keys     their book
--     AreOfBook keys pass            they are of the pass's book
--     IsEmptyIn n keys, IsEmpty keys pass     there are none, of book n, or of the pass's book
--     IsOfSameBook value keys        the value's key is of the same book
--     IsKeyOfOne value keys          it is the value's alone
--     Pushes keys value keys'        the value's key comes last
--     LeadsTo keys value, LeadsOn keys other    the last key leads on to this one, or to the first of the others
--     AreClosed keys    it leads on to none
--     Appends keys other keys' other'   the others come after its own, and none are left there
--     Nexts keys value keys'         the value's was the first, and the others are left
--     Pops keys value keys'          the value's was the last, and the others are left
--     AreStill keys keys'            they are the same, and know what they knew
--     LieApart values                no two of them lie in one block
--     AllNew n held, AreNew keys     each of the values was never named, and all that lay in its block before were reclaimed, as its key
--                                    knows; and something is lent with it
--     FollowsValues keys pass' keys'   they are the same keys, and know all that the pass has seen
--     AreSpent keys pass             each value was named, and no call may begin to retire it, as the pass has seen
--     AreLast keys pass              all others that lay in the blocks of these values were reclaimed, as the pass has seen
use Rattle.std.specs.Prelude.{◌≡◌, ℕ, true, false, map, List, [], ◌∷◌, ◌++◌}
use Rattle.std.specs.List.{Contains}
use Rattle.seize_machine.specs.Machine.State.{are_distinct, has}
use Rattle.seize_book.specs.Book.{after}
use Rattle.seize_book.specs.Entry.{Entry}
use Rattle.seize_book.specs.Homes.{IsVacant, home_of}
use Rattle.seize_book.specs.Ledger.{HeldKey, with_list}
use Rattle.seize_book.specs.Linked.{are_joined}
use Rattle.seize_book.specs.Others.{IsLastIn, IsSpent, book_of, value_of}
use Rattle.seize_book.specs.Loans.{CarriesOne}
use Rattle.seize_book.specs.Tokens.{Name, start}
use Rattle.seize_book.specs.Private.{labels_of}
use Rattle.seize_book.specs.declared.book.pass.Pass.{Pass}
use Rattle.seize_book.specs.declared.book.value_key.ValueKey.{ValueKey}
use Rattle.seize_book.specs.declared.book.value_keys.ValueKeys.{ValueKeys}

abbrev pub values_of : ValueKeys → List ℕ
values_of keys = labels_of keys.keys.held

abbrev pub book_in : ValueKeys → Name
book_in keys = keys.keys.name

abbrev pub AreOfBook : ValueKeys → Pass → Type 0
AreOfBook values pass = book_in values ≡ pass.name

abbrev pub IsEmptyIn : Name → ValueKeys → Type 0
IsEmptyIn n keys = (book_in keys ≡ n) × (keys.keys.held ≡ [])

abbrev pub IsEmpty : ValueKeys → Pass → Type 0
IsEmpty keys pass = IsEmptyIn pass.name keys

abbrev pub IsOfSameBook : ValueKey → ValueKeys → Type 0
IsOfSameBook value keys = book_of value ≡ book_in keys

abbrev pub IsKeyOfOne : ValueKey → ValueKeys → Type 0
IsKeyOfOne value keys = (keys.keys ≡ value.keys) × (values_of keys ≡ value_of value ∷ [])

abbrev pub Pushes : ValueKeys → ValueKey → ValueKeys → Type 0
Pushes keys value keys' =
    (book_in keys' ≡ book_in keys) × (values_of keys' ≡ values_of keys ++ value_of value ∷ [])
    × (keys'.keys.held ≡ keys.keys.held ++ value.keys.held)

-- what is noted of the last one's block says the number of this block
abbrev pub LeadsTo : ValueKeys → ValueKey → Type 0
LeadsTo keys value = are_joined keys.keys.held value.keys.held ≡ true

abbrev pub LeadsOn : ValueKeys → ValueKeys → Type 0
LeadsOn keys other = are_joined keys.keys.held other.keys.held ≡ true

-- what is noted of the last one's block says that none comes after it
abbrev pub AreClosed : ValueKeys → Type 0
AreClosed keys = are_joined keys.keys.held [] ≡ true

abbrev pub Appends : ValueKeys → ValueKeys → ValueKeys → ValueKeys → Type 0
Appends keys other keys' other' =
    (book_in keys' ≡ book_in keys) × (values_of keys' ≡ values_of keys ++ values_of other)
    × (keys'.keys.held ≡ keys.keys.held ++ other.keys.held) × (book_in other' ≡ book_in other) × (other'.keys.held ≡ [])

abbrev pub Nexts : ValueKeys → ValueKey → ValueKeys → Type 0
Nexts keys value keys' =
    (book_in keys' ≡ book_in keys) × (book_of value ≡ book_in keys) × (values_of keys ≡ value_of value ∷ values_of keys')
    × (keys.keys.held ≡ value.keys.held ++ keys'.keys.held)

abbrev pub AreStill : ValueKeys → ValueKeys → Type 0
AreStill keys keys' = keys'.keys ≡ keys.keys

abbrev pub LieApart : List ℕ → Type 0
LieApart values = are_distinct (map home_of values) ≡ true

abbrev pub Pops : ValueKeys → ValueKey → ValueKeys → Type 0
Pops keys value keys' =
    (book_in keys' ≡ book_in keys) × (book_of value ≡ book_in keys) × (values_of keys ≡ values_of keys' ++ value_of value ∷ [])
    × (keys.keys.held ≡ keys'.keys.held ++ value.keys.held)

-- as each key knows, of its own value
abbrev pub AllNew : Name → List (HeldKey Entry) → Type 0
AllNew n [] = Unit {0}
AllNew n (h ∷ held) =
    ((has h.label (after (start n) h.own).named ≡ false) × IsVacant (after (start n) h.own) (home_of h.label) × CarriesOne h.label)
    × AllNew n held

abbrev pub AreNew : ValueKeys → Type 0
AreNew keys = AllNew (book_in keys) keys.keys.held

abbrev pub FollowsValues : ValueKeys → Pass → ValueKeys → Type 0
FollowsValues keys pass' keys' =
    (book_in keys' ≡ book_in keys) × (values_of keys' ≡ values_of keys) × (keys'.keys.held ≡ with_list keys.keys.held pass'.seen)

abbrev pub AreSpent : ValueKeys → Pass → Type 0
AreSpent keys pass = (v : ℕ) → Contains (values_of keys) v → IsSpent v (after (start pass.name) pass.seen)

-- all others that lay in the blocks of these values were reclaimed, as the pass has seen
abbrev pub AreLast : ValueKeys → Pass → Type 0
AreLast values pass' = (v : ℕ) → Contains (values_of values) v → IsLastIn v (after (start pass'.name) pass'.seen)
