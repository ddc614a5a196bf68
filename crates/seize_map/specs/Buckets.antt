-- What lies in a bucket. `is` tells whether a key is the one that is asked for.
--     entries_of arcs           the entries that are counted
--     entries_in bucket         those of a bucket, or none where there is no bucket
--     entry_under is es         the first entry of that key;  other_entries is es     the entries of the other keys
--     value_of entry            the entry's value, if there is an entry
--     value_in eq bucket key     what the bucket has under the key, if anything
--     IsReplaced eq key new x y     y is the bucket x with this entry, or none, in the place of that of the key
--     Replaces eq key new before made     such a bucket was made, and with it comes the entry that was there
--     AnyEntry, SomeEntry, NoEntry     whether a key has an entry, or either
--     Leaves Where eq key before why     for want of memory, or since the entry under the key is none `Where` it is to be changed
--     MakesBucket Where eq key new b made     what a function makes of the bucket b. Where the entry under the key is so, such a bucket was
--                               made. Else b is left as it is, and that entry comes with it
--     MayReplace eq key new keeps owners store i     whatever bucket i holds, such a one may follow, by the rule of links, and has no
--                               blocks of another store
--     Settles answer result     the call answers what the alteration came to: an entry that stays is answered as one that was there
use Rattle.std.specs.Prelude.{◌≡◌, ◌++◌, ℕ, Bool, true, not, filter, map, List, [], Option, None, Some, IfErr, IfOk, IfSome, is_some}
use Rattle.std.specs.Prelude.{option_copied, option_map, option_to_list}
use Rattle.std.specs.List.{find}
use denote.Bor.{Bor}
use Rattle.core.specs.declared.result.Result.{Result}
use Rattle.core.specs.declared.result.Result.TheVariants.{Err, Ok}
use Rattle.std_alloc.specs.Arc.{arc_value}
use Rattle.std_alloc.specs.declared.arc.Arc.{Arc}
use Rattle.seize.specs.Blocks.{HoldsOnly}
use Rattle.seize_atomic.specs.declared.cells.NotAltered.{NotAltered}
use Rattle.seize_atomic.specs.declared.cells.NotAltered.TheVariants as not_altered
use Rattle.seize_atomic.specs.declared.cells.NotAltered.TheVariants.{Contended, Refused}
use Rattle.seize_map.specs.declared.bucket.Bucket.{Bucket}
use Rattle.seize_map.specs.declared.bucket.Entry.{Entry}
use Rattle.seize_map.specs.declared.bucket.Unchanged.{Unchanged}
use Rattle.seize_map.specs.declared.bucket.Unchanged.TheVariants.{NoMemory, Stays}
use Rattle.seize_map.specs.declared.settled.NotChanged.{NotChanged}
use Rattle.seize_map.specs.declared.settled.NotChanged.TheVariants as not_changed

module _ {K V : Type 0} where
  abbrev pub entries_of : {Z : Type 0} → List (Arc (Entry K V) Z) → List (Entry K V)
  entries_of arcs = map arc_value arcs

  abbrev pub entry_under : (K → Bool) → List (Entry K V) → Option (Entry K V)
  entry_under is es = find (λ e. is e.key) es

  abbrev pub other_entries : (K → Bool) → List (Entry K V) → List (Entry K V)
  other_entries is es = filter (λ e. not (is e.key)) es

  abbrev pub entries_in : Option (Bucket K V) → List (Entry K V)
  entries_in (Some bucket) = entries_of bucket.entries.items
  entries_in None = []

  abbrev pub IsReplaced : (K → K → Bool) → K → Option (Entry K V) → Option (Bucket K V) → Option (Bucket K V) → Type 0
  IsReplaced eq key new x y = entries_in y ≡ other_entries (eq key) (entries_in x) ++ option_to_list new

  abbrev pub Replaces : {Z : Type 0} → (K → K → Bool) → K → Option (Entry K V) → Option (Bucket K V)
      → Option (Bucket K V) × Option (Arc (Entry K V) Z) → Type 0
  Replaces eq key new before made =
      IsReplaced eq key new before made.0 × (option_map arc_value made.1 ≡ entry_under (eq key) (entries_in before))

  abbrev pub AnyEntry : Option (Entry K V) → Type 0
  AnyEntry entry = Unit {0}

  abbrev pub SomeEntry : Option (Entry K V) → Type 0
  SomeEntry entry = is_some entry ≡ true

  abbrev pub NoEntry : Option (Entry K V) → Type 0
  NoEntry entry = entry ≡ None

  module _ (Where : Option (Entry K V) → Type 0) (eq : K → K → Bool) (key : K) where
    abbrev pub Leaves : Option (Bucket K V) → Unchanged K V → Type 0
    Leaves before NoMemory = Unit {0}
    Leaves before (Stays was) = let entry = entry_under (eq key) (entries_in before) in ¬ (Where entry) × (option_map arc_value was ≡ entry)

    abbrev pub MakesBucket : {Z : Type 0} → Option (Entry K V) → Option (Bor (Bucket K V))
        → Result (Option (Bucket K V) × Option (Arc (Entry K V) Z)) (Unchanged K V) → Type 0
    MakesBucket new b made =
        let before = option_copied b in
        IfOk made (λ m. Where (entry_under (eq key) (entries_in before)) × Replaces eq key new before m)
        × IfErr made (Leaves before)

  abbrev pub MayReplace : (K → K → Bool) → K → Option (Entry K V) → (ℕ → Option (Bucket K V) → Option (Bucket K V) → Type 0)
      → (Bucket K V → List (List ℕ)) → List ℕ → ℕ → Type 0
  MayReplace eq key new keeps owners store i =
      (x y : Option (Bucket K V)) → IsReplaced eq key new x y → keeps i x y × IfSome y (HoldsOnly owners store)

  abbrev pub value_of : Option (Entry K V) → Option V
  value_of entry = option_map (λ (e : Entry K V). e.value) entry

  abbrev pub value_in : (K → K → Bool) → Option (Bucket K V) → K → Option V
  value_in eq bucket key = value_of (entry_under (eq key) (entries_in bucket))

module _ {K V Z : Type 0} where
  abbrev pub Settles : Result (Option (Arc (Entry K V) Z)) (NotAltered (Unchanged K V)) → Result (Option (Arc (Entry K V) Z)) NotChanged
      → Type 0
  Settles (Ok was) (Ok given) = given ≡ was
  Settles (Err (Refused (Stays was))) (Ok given) = option_map arc_value given ≡ option_map arc_value was
  Settles (Err (Refused NoMemory)) (Err why) = why ≡ not_changed.NoMemory
  Settles (Err not_altered.NoMemory) (Err why) = why ≡ not_changed.NoMemory
  Settles (Err Contended) (Err why) = why ≡ not_changed.Contended
  Settles _ _ = ⊥
