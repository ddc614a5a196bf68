-- What an entry has to be, so that the holder of a pass and of some keys may add it.
--     Before n p seen held log   what is known of the list just before the entry
--     Fair n held log e          the entry is legal then; the keys that it touches are held, and it changes no block but theirs; and it
--                                keeps what the list keeps beside being legal
--     NamesLabels before held later  each value that it names is one with which a held key of a block is labelled; and something is lent
--                                with it
--     MakesPlaced st held e      where it makes a slot, the slot's key is held, and is labelled 1: the slot's head lies in the table
--     MayAdd n p seen held e     it is fair whatever the list is by then, and it neither ends nor begins an activation, nor
--                                exchanges a link
--     AddsEntryWith n p seen seen' held held' e   it was added: see AddsEntry; the keys know of it, and its own keys were made
use Rattle.std.specs.Prelude.{◌≡◌, ℕ, ◌<◌, ◌≤◌, true, false, ◌⊎◌, List, [], ◌∷◌, ◌++◌, length}
use base.Stored.{gnil}
use mathlib.Core.List.{IsPrefix}
use Rattle.seize_machine.specs.Machine.State.{State, has}
use Rattle.seize_machine.specs.Machine.Event.{Event}
use Rattle.seize_machine.specs.declared.machine.event.Answer.{Answer}
use Rattle.seize_book.specs.Ledger.{HeldKey, Beside, IsThere, AllThere, HoldersKnow, WithKinds, with_list, keys_made}
use Rattle.seize_book.specs.Entry.{Entry, Made, Deed, maker}
use Rattle.seize_book.specs.Book.{after, IsLegalList, Does, mine, TheCount, TheBlock, TheField, TheTotal, kind_of, touches, IsKeyCount, rules, births, passes, slots, counts, blocks, fields, kinds}
use Rattle.seize_book.specs.Blocks.{block_number, plans}
use Rattle.seize_book.specs.Chains.{HasChains, IsLed, field_value}
use Rattle.seize_book.specs.Homes.{HasOne, IsSound, home_of}
use Rattle.seize_book.specs.Laws.{ended_by, starts}
use Rattle.seize_book.specs.Loans.{AllCarryOne, CarriesOne}
use Rattle.seize_book.specs.Pairs.{MakesNoPair}
use Rattle.seize_book.specs.Saying.{AllSay, SaysAll}
use Rattle.seize_book.specs.Tokens.{Name, start, IsSole, AddsEntry}

abbrev pub pass_key : ℕ → List Entry → HeldKey Entry
pass_key p own = record { kind = passes; key = p; own = own; label = 0; note = gnil }

-- values that lie in blocks of one number lie in one block, since a number leads to one chunk for good
abbrev pub HaveOneHome : List ℕ → Type 0
HaveOneHome vs = (v w : ℕ) → has v vs ≡ true → has w vs ≡ true → block_number v ≡ block_number w → home_of v ≡ home_of w

pub record Before (n : Name) (p : ℕ) (seen : List Entry) (held : List (HeldKey Entry)) (log : List Entry) : Type 0 where
  pub legal : IsLegalList (start n) log
  pub sound : IsSound (after (start n) log)
  pub chained : HasChains (after (start n) log) (plans (start n) log) (field_value log)
  pub say : AllSay log
  pub grows : IsPrefix seen log
  pub none_made : mine (start n) p log ≡ mine (start n) p seen
  pub kept : HoldersKnow (rules (start n)) held log
  pub alone : IsSole p → log ≡ seen
  pub lent : AllCarryOne (after (start n) log).named
  pub homes : HaveOneHome (after (start n) log).named

abbrev pub Covers : State → List (HeldKey Entry) → List Entry → Entry → Type 0
Covers st held log e = (r k : ℕ) → Beside held r k → IsThere (rules st) r k log → touches (after st log) e (kind_of r) k ≡ false

-- the pass has a key; and no entry is of the values, the count or a field of a block but those that have keys
abbrev pub NamesHeld : State → List (HeldKey Entry) → List Entry → Entry → Type 0
NamesHeld st held log e = (many : ℕ → ℕ) → ((r : ℕ) → IsKeyCount st (kind_of r) (many r) log) → AllThere many held
    → (maker e < many passes)
    × ((k : ℕ) → many counts ≤ k → touches (after st log) e TheCount k ≡ false)
    × ((k : ℕ) → many blocks ≤ k → touches (after st log) e TheBlock k ≡ false)
    × ((f : ℕ) → many fields ≤ f → touches (after st log) e TheField f ≡ false)

-- a key of a block's values is labelled with the value
abbrev pub IsLabel : List (HeldKey Entry) → ℕ → Type 0
IsLabel [] v = ⊥
IsLabel (h ∷ held) v = ((h.kind ≡ blocks) × (h.label ≡ v)) ⊎ IsLabel held v

abbrev pub NamesLabels : State → List (HeldKey Entry) → State → Type 0
NamesLabels before held later =
    (v : ℕ) → has v later.named ≡ true → (has v before.named ≡ true) ⊎ (IsLabel held v × CarriesOne v)

-- the slot's key is there, and labelled 1
abbrev pub HasPlace : List (HeldKey Entry) → ℕ → Type 0
HasPlace [] s = ⊥
HasPlace (h ∷ held) s = ((h.kind ≡ slots) × (h.key ≡ s) × (h.label ≡ 1)) ⊎ HasPlace held s

abbrev pub MakesPlaced : State → List (HeldKey Entry) → Entry → Type 0
MakesPlaced st held e = touches st e TheTotal 0 ≡ true → HasPlace held (length st.slots)

pub record Fair (n : Name) (held : List (HeldKey Entry)) (log : List Entry) (e : Entry) : Type 0 where
  pub done : State × Answer
  pub legal : Does (start n) log e done
  pub covers : Covers (start n) held log e
  pub names : NamesHeld (start n) held log e
  -- all earlier values of a home were reclaimed where it names one
  pub one : HasOne (after (start n) log) → HasOne done.0
  pub leads : IsLed (after (start n) log) (plans (start n) log) (field_value log) e
  pub says : SaysAll e
  pub labels : NamesLabels (after (start n) log) held done.0
  pub places : MakesPlaced (after (start n) log) held e

-- it neither ends nor begins an activation
abbrev pub EndsNone : Event → Type 0
EndsNone event = (lives : ℕ → ℕ) → ended_by lives event ≡ []

abbrev pub StartsNone : Event → Type 0
StartsNone event = (s : ℕ) → starts s event ≡ false

abbrev pub MayAdd : Name → ℕ → List Entry → List (HeldKey Entry) → Deed → Type 0
MayAdd n p seen held d =
    WithKinds kinds held × EndsNone d.event × (StartsNone d.event × MakesNoPair d.event)
    × ((own log : List Entry) → Before n p seen held log → Fair n (pass_key p own ∷ held) log (Made d))

pub record AddsEntryWith (n : Name) (p : ℕ) (seen seen' : List Entry) (held held' : List (HeldKey Entry)) (d : Deed) : Type 0 where
  pub noted : AddsEntry n p seen seen' (Made d)
  pub before : Before n p seen held noted.before
  pub keys : held' ≡ with_list held seen' ++ keys_made (births (after (start n) noted.before) d.event) seen'
