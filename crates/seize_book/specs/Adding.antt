-- The words in which the contracts of keys speak.
--     deed_with_words pass event kepts     the entry of an event that is made with the pass, begins no activation, and says these words of
--                                   the values that it retires or puts;  private pass event     it says none
--     Asks keys pass d              the holder of the keys may add it with the pass
--     AddsWithKeys keys pass keys' pass' d  it was added: see AddsEntryWith
--     MayLook keys pass             the holder of the keys may look at the list with the pass
--     LooksWithKeys keys pass keys' pass'     the pass has seen a legal list, as in Before, and nothing was made with it; the keys know all
--                                      of it; the links of the book's opening are distinct
--     JoinsKeys keys other keys' other'    the other's keys come after its own, and the other has none
--     Parts keys keys' other'          the other has all but the first;  PartsLast keys keys' other'    the other has the last
use Rattle.std.specs.Prelude.{◌≡◌, ℕ, suc, true, List, [], ◌∷◌, ◌++◌, take, drop}
use Rattle.seize_machine.specs.Machine.Event.{Event}
use Rattle.seize_machine.specs.Machine.State.{are_distinct, linked_values}
use Rattle.seize_book.specs.Entry.{Deed}
use Rattle.seize_book.specs.Ledger.{WithKinds, with_list}
use Rattle.seize_book.specs.Book.{kinds}
use Rattle.seize_book.specs.Fair.{Before, MayAdd, AddsEntryWith}
use Rattle.seize_book.specs.Passes.{IsSamePass}
use Rattle.seize_book.specs.declared.book.keys.Keys.{Keys}
use Rattle.seize_book.specs.declared.book.pass.Pass.{Pass}

abbrev pub deed_with_words : Pass → Event → List ℕ → Deed
deed_with_words pass event kepts = record { pass = pass.id; size = pass.size; event = event; life = 0; kepts = kepts }

abbrev pub private : Pass → Event → Deed
private pass event = deed_with_words pass event []

abbrev pub Asks : Keys → Pass → Deed → Type 0
Asks keys pass d = (keys.name ≡ pass.name) × MayAdd pass.name pass.id pass.seen keys.held d

abbrev pub AddsWithKeys : Keys → Pass → Keys → Pass → Deed → Type 0
AddsWithKeys keys pass keys' pass' d =
    IsSamePass pass pass' × (keys'.name ≡ keys.name) × AddsEntryWith pass.name pass.id pass.seen pass'.seen keys.held keys'.held d

abbrev pub MayLook : Keys → Pass → Type 0
MayLook keys pass = (keys.name ≡ pass.name) × WithKinds kinds keys.held

abbrev pub LooksWithKeys : Keys → Pass → Keys → Pass → Type 0
LooksWithKeys keys pass keys' pass' =
    IsSamePass pass pass' × ((keys'.name ≡ keys.name) × (keys'.held ≡ with_list keys.held pass'.seen))
    × Before pass.name pass.id pass.seen keys.held pass'.seen × (are_distinct (linked_values pass.name.links) ≡ true)

abbrev pub JoinsKeys : Keys → Keys → Keys → Keys → Type 0
JoinsKeys keys other keys' other' =
    (keys'.name ≡ keys.name) × (other'.name ≡ keys.name) × (keys'.held ≡ keys.held ++ other.held) × (other'.held ≡ [])

abbrev pub Parts : Keys → Keys → Keys → Type 0
Parts keys keys' other' =
    (keys'.name ≡ keys.name) × (other'.name ≡ keys.name) × (keys'.held ≡ take 1 keys.held) × (other'.held ≡ drop 1 keys.held)

-- how many there are before the last
abbrev pub before_last : {X : Type 0} → List X → ℕ
before_last [] = 0
before_last (x ∷ []) = 0
before_last (x ∷ y ∷ xs) = suc (before_last (y ∷ xs))

abbrev pub PartsLast : Keys → Keys → Keys → Type 0
PartsLast keys keys' other' =
    (keys'.name ≡ keys.name) × (other'.name ≡ keys.name) × (keys'.held ≡ take (before_last keys.held) keys.held)
    × (other'.held ≡ drop (before_last keys.held) keys.held)
