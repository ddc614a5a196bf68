-- A list that many append to, and keys: whoever holds a key knows what the list says of it, whatever others append. A key is a kind
-- and a number. The list and a quarter of each key stand in one invariant, which names no memory; the other three quarters are the
-- holder's, and with all four the key is set anew. Nothing here is of the machine.
--     HeldKey          a key, with what the list was when its holder last appended
--     Rules            which lists are legal, what the holder of a key knows of a later list, and how many keys of a kind there are
--     HoldsRows            what the invariant holds of the list and of each key
--     contents         what stands in the invariant
--     right, rights    what a holder has of a key, or of some;  reached   that the list was as long as this
--     Known            what the holders of some keys and of a beginning of the list know of the list
--     Goes             what an event has to be: legal, and it changes nothing of a key that its makers don't hold
use Rattle.core.specs.Prelude.{◌≡◌, ℕ, zero, suc, ◌+◌, ◌<◌, ◌==◌, if◌then◌else◌, List, [], ◌∷◌, ◌++◌, length, slice_get, slice_index_or}
use mathlib.Core.List.{IsPrefix}
use base.Fraction.{full_share}
use base.Share.{quarter, three_quarters}
use base.Stored.{Coded, Gv, coded_list, gnil}
use base.Algebra.{Algebra}
use base.SetCodes.{coded}
use base.Algebras.{both, shares, agreed}
use base.Growing.{Order, prefixes, latest, at_least}
use base.Fml.{Share, Fml, ftrue, fsep, fex}
use types.Keyed.{entry, entries_from}
use Rattle.core.specs.declared.option.Option.TheVariants.{Some}
pub use Rattle.seize_content.specs.Contents.{fact}

pub record HeldKey (E : Type 0) : Type 0 where
  pub kind : ℕ
  pub key : ℕ
  pub own : List E
  -- what its holder calls it: no part of the right, which is to the kind and number alone
  pub label : ℕ
  -- and what its holder notes beside it, which is no part of the right either
  pub note : Gv

-- the keys of the kinds, a row each: those past the last are empty
abbrev pub first_row : {X : Type 0} → List (List X) → List X
first_row [] = []
first_row (xs ∷ rows) = xs

abbrev pub rest : {X : Type 0} → List (List X) → List (List X)
rest [] = []
rest (xs ∷ rows) = rows

abbrev pub row : {X : Type 0} → List (List X) → ℕ → List X
row rows zero = first_row rows
row rows (suc r) = row (rest rows) r

module _ {E : Type 0} (c : Coded E) where
  abbrev pub logs : Order (List E)
  logs = prefixes c

  abbrev pub halved : Algebra
  halved = both shares (agreed (coded (coded_list c)))

  abbrev pub piece : ℕ → ℕ → Share → List E → Fml
  piece δ k q own = entry halved δ k (q, own)

  -- the invariant's quarters, of the keys of one kind from the k-th on
  abbrev pub roster : ℕ → ℕ → List (List E) → Fml
  roster δ k [] = entries_from halved δ k (λ _. (full_share, []))
  roster δ k (own ∷ owns) = fsep (piece δ k quarter own) (roster δ (suc k) owns)

  -- of all kinds, each with a name of its own
  abbrev pub rosters : List ℕ → List (List (List E)) → Fml
  rosters [] rows = ftrue
  rosters (δ ∷ δs) rows = fsep (roster δ 0 (first_row rows)) (rosters δs (rest rows))

  abbrev pub right : List ℕ → ℕ → ℕ → List E → Fml
  right δs r k own = piece (slice_index_or δs r 0) k three_quarters own

  abbrev pub rights : List ℕ → List (HeldKey E) → Fml
  rights δs [] = ftrue
  rights δs (h ∷ hs) = fsep (right δs h.kind h.key h.own) (rights δs hs)

  abbrev pub reached : ℕ → List E → Fml
  reached η log = at_least logs η log

pub record Rules (E : Type 0) : Type 1 where
  pub Legal : List E → Type 0
  pub Knows : ℕ → ℕ → List E → List E → Type 0
  pub Sized : ℕ → ℕ → List E → Type 0

pub record HoldsRows {E : Type 0} (rules : Rules E) (rows : List (List (List E))) (log : List E) : Type 0 where
  pub legal : rules.Legal log
  pub kept : (r k : ℕ) (own : List E) → slice_get (row rows r) k ≡ Some own → rules.Knows r k own log
  pub sized : (r : ℕ) → rules.Sized r (length (row rows r)) log

module _ {E : Type 0} (c : Coded E) (rules : Rules E) (extra : List E → Fml) (η : ℕ) (δs : List ℕ) where
  abbrev pub standing : List (List (List E)) × List E → Fml
  standing s = fsep (rosters c δs s.0) (fsep (latest (logs c) full_share η s.1) (fsep (extra s.1) (fact (HoldsRows rules s.0 s.1))))

  abbrev pub contents : Fml
  contents = fex (List (List (List E)) × List E) standing

-- What an event has to be. It may be picked by the list as it is when it is appended.

-- not one of the keys that are held
abbrev pub Beside : {E : Type 0} → List (HeldKey E) → ℕ → ℕ → Type 0
Beside [] r k = Unit {0}
Beside (h ∷ hs) r k = (¬ ((r ≡ h.kind) × (k ≡ h.key))) × Beside hs r k

-- no two of them are one
abbrev pub AllApart : {E : Type 0} → List (HeldKey E) → Type 0
AllApart [] = Unit {0}
AllApart (h ∷ hs) = Beside hs h.kind h.key × AllApart hs

abbrev pub WithKinds : {E : Type 0} → ℕ → List (HeldKey E) → Type 0
WithKinds n [] = Unit {0}
WithKinds n (h ∷ hs) = (h.kind < n) × WithKinds n hs

abbrev pub with_list : {E : Type 0} → List (HeldKey E) → List E → List (HeldKey E)
with_list [] log = []
with_list (h ∷ hs) log = record { kind = h.kind; key = h.key; own = log; label = h.label; note = h.note } ∷ with_list hs log

-- the keys that an event makes, each by its kind and number

abbrev pub AllBelow : ℕ → List (ℕ × ℕ) → Type 0
AllBelow n [] = Unit {0}
AllBelow n (b ∷ births) = (b.0 < n) × AllBelow n births

abbrev pub keys_made : {E : Type 0} → List (ℕ × ℕ) → List E → List (HeldKey E)
keys_made [] own = []
keys_made (b ∷ births) own = record { kind = b.0; key = b.1; own = own; label = 0; note = gnil } ∷ keys_made births own

-- how many there are of each kind, with one more of kind b
abbrev pub more_of : ℕ → (ℕ → ℕ) → ℕ → ℕ
more_of b many r = if r == b then many r + 1 else many r

-- each is the next number of its kind
abbrev pub AreNextNumbers : (ℕ → ℕ) → List (ℕ × ℕ) → Type 0
AreNextNumbers many [] = Unit {0}
AreNextNumbers many (b ∷ births) = (many b.0 ≡ b.1) × AreNextNumbers (more_of b.0 many) births

abbrev pub more_by : List (ℕ × ℕ) → (ℕ → ℕ) → ℕ → ℕ
more_by [] many = many
more_by (b ∷ births) many = more_by births (more_of b.0 many)

-- each key that is held is one of those
abbrev pub AllThere : {E : Type 0} → (ℕ → ℕ) → List (HeldKey E) → Type 0
AllThere many [] = Unit {0}
AllThere many (h ∷ hs) = (h.key < many h.kind) × AllThere many hs

module _ {E : Type 0} (rules : Rules E) where
  abbrev pub HoldersKnow : List (HeldKey E) → List E → Type 0
  HoldersKnow [] log = Unit {0}
  HoldersKnow (h ∷ hs) log = rules.Knows h.kind h.key h.own log × HoldersKnow hs log

  abbrev pub Known : List (HeldKey E) → List E → List E → Type 0
  Known held seen log = rules.Legal log × IsPrefix seen log × HoldersKnow held log

  -- the key is there
  abbrev pub IsThere : ℕ → ℕ → List E → Type 0
  IsThere r k log = (j : ℕ) × rules.Sized r j log × (k < j)

  -- the numbers of the keys that are made, and of how many there are then
  abbrev pub MakesKeys : List (HeldKey E) → List (ℕ × ℕ) → List E → List E → Type 0
  MakesKeys held births log log' =
      (many : ℕ → ℕ) → ((r : ℕ) → rules.Sized r (many r) log) → AllThere many held
      → AreNextNumbers many births × ((r : ℕ) → rules.Sized r (more_by births many r) log')

  -- whatever the list is, and whatever the maker tells of it
  abbrev pub Goes : List (HeldKey E) → List E → (List E → E) → (List E → List (ℕ × ℕ)) → (List E → Type 0) → Type 0
  Goes held seen ev births Told = (log : List E) → Known held seen log → Told log
      → rules.Legal (log ++ ev log ∷ [])
      × ((r k : ℕ) (own : List E) → Beside held r k → IsThere r k log → rules.Knows r k own log → rules.Knows r k own (log ++ ev log ∷ []))
      × MakesKeys held (births log) log (log ++ ev log ∷ [])
