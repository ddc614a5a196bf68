-- The map that the links of a collector show, in a state of the list of all events. `code` is the code of a bucket.
--     map_home map, map_hasher map     its collector and its hasher;  map_words map     the words of the collector
--     map_kind map              the kind as of which it retires
--     IsForMap map words pass     these are the words of its collector, and the pass is one of it
--     place_of map key          the bucket in which the key lies: the low 32 bits of its hash, modulo the number of buckets
--     Has map code st key y     in this state the map has y under the key, or nothing
--     LooksUp map code s pass pass' m key y     it is a moment, of those that the pass has seen since, at which slot s reads the key's
--                               bucket, or makes an exchange of it that changes no link. The map has y under the key there
--     ReadsMap map code s pass pass' key y     slot s read the key's bucket, by one event, and looked it up at the moment of a read that
--                               found the same
--     ReadsBucket map code s i pass pass' entries     slot s read bucket i, by one event; and at such a moment its entries are these
--     Changes map code st st' key y     the keys equal to this one have y there, or nothing, and each other key what it had before
--     IsOfKey key was           the key of this entry, if there is one, is equal to this one
--     ChangesAt map code s pass pass' key y was     at a moment, of those that the pass has seen since, slot s exchanges the key's bucket.
--                               Before it the map has the value of `was` under the key, whose own key is equal to this one. After it the
--                               map has y there, and under each other key what it had
--     StaysAt map code s pass pass' key was     slot s looked the key up at a moment, and the map has this entry's value there, or nothing
--     RemovesAt, PutsNewAt      where there was an entry, or none, it is such a change, by which the key has nothing, or y; else it stays
--     AltersMap map code s Where key new tries pass pass' result     slot s altered the key's bucket (AltersCell), by a function that puts
--                               this entry, or none, in the place of that of the key, where that is so
--     MakesEntry Alters pass pass' result     it did so, or memory for the entry was refused first, and nothing was made
use Rattle.std.specs.Prelude.{◌≡◌, ◌⊎◌, ◌%◌, ◌^◌, ℕ, true, cond, List, Option, None, Some, IfSome, option_map}
use Rattle.std.specs.List.{fold}
use base.Stored.{Gv}
use Rattle.core.specs.declared.cmp.PartialEq as eq
use Rattle.core.specs.declared.hash.Hash as hash
use Rattle.core.specs.declared.hash.Hasher as hasher
use Rattle.core.specs.declared.hash.build.BuildHasher as builder
use Rattle.core.specs.declared.result.Result.{Result}
use Rattle.core.specs.declared.result.Result.TheVariants.{Err}
use Rattle.std_alloc.specs.Arc.{arc_value}
use Rattle.std_alloc.specs.declared.arc.Arc.{Arc}
use Rattle.seize.specs.Answer.TheVariants.{Link}
use Rattle.seize.specs.Collectors.{IsPassOf, its_links}
use Rattle.seize.specs.Machine.Event.{ReadLink}
use Rattle.seize.specs.Machine.History.{Moment}
use Rattle.seize.specs.Machine.State.{State, link_at}
use Rattle.seize.specs.Makes.{MakesOne}
use Rattle.seize.specs.Moments.{ExchangesOnly, LooksOnly, StandsSince}
use Rattle.seize.specs.Rules.{Says}
use Rattle.seize_book.specs.declared.book.pass.Pass.{Pass}
use Rattle.seize_guards.specs.declared.parts.Home as home
use Rattle.seize_words.specs.declared.words.Words.{Words}
use Rattle.seize_atomic.specs.Alters.{AltersCell}
use Rattle.seize_atomic.specs.Cells.{cells_home, cells_kind}
use Rattle.seize_atomic.specs.declared.cells.NotAltered.{NotAltered}
use Rattle.seize_map.specs.Buckets.{MakesBucket, Settles, entries_in, value_in, value_of}
use Rattle.seize_map.specs.declared.bucket.Bucket.{Bucket}
use Rattle.seize_map.specs.declared.bucket.Entry.{Entry}
use Rattle.seize_map.specs.declared.bucket.Unchanged.{Unchanged}
use Rattle.seize_map.specs.declared.map.HashMap.{HashMap}
use Rattle.seize_map.specs.declared.settled.NotChanged.{NotChanged}
use Rattle.seize_map.specs.declared.settled.NotChanged.TheVariants.{NoMemory}

module _ {K V S C H : Type 0} {k : hash.Ghosts K} {e : eq.Ghosts K} {b : builder.Ghosts S H} {h : hasher.Ghosts H}
    {c : home.Ghosts C (Bucket K V)} (map : HashMap K V S C H k e b h c) where
  abbrev pub map_home : C
  map_home = cells_home map.cells

  abbrev pub map_hasher : S
  map_hasher = map.hasher

  abbrev pub map_kind : ℕ
  map_kind = cells_kind map.cells

  abbrev pub map_words : Words (Bucket K V)
  map_words = c.its_words map_home

  abbrev pub IsForMap : Words (Bucket K V) → Pass → Type 0
  IsForMap words pass = (words ≡ map_words) × IsPassOf words pass

  abbrev pub place_of : K → ℕ
  place_of key = (h.finish (fold h.write (b.build_hasher map_hasher) (k.hash_input key)) % 2 ^ 32) % its_links map_words

  module _ (code : Bucket K V → Gv) where
    abbrev pub Has : State → K → Option V → Type 0
    Has st key y = (bucket : Option (Bucket K V)) × Says code (link_at st (place_of key)) bucket × (value_in e.eq bucket key ≡ y)

    abbrev pub LooksUp : ℕ → Pass → Pass → Moment → K → Option V → Type 0
    LooksUp s pass pass' m key y = StandsSince pass pass' m × LooksOnly s (place_of key) m × Has m.before key y

    abbrev pub ReadsMap : ℕ → Pass → Pass → K → Option V → Type 0
    ReadsMap s pass pass' key y =
        (held : Option ℕ) × MakesOne pass pass' (ReadLink s (place_of key)) (Link held)
        × ((m : Moment) × (link_at m.before (place_of key) ≡ held) × LooksUp s pass pass' m key y)

    abbrev pub ReadsBucket : ℕ → ℕ → Pass → Pass → List (Entry K V) → Type 0
    ReadsBucket s i pass pass' entries =
        (held : Option ℕ) × MakesOne pass pass' (ReadLink s i) (Link held)
        × ((m : Moment) × (link_at m.before i ≡ held) × StandsSince pass pass' m × LooksOnly s i m
        × ((bucket : Option (Bucket K V)) × Says code held bucket × (entries_in bucket ≡ entries)))

    abbrev pub Changes : State → State → K → Option V → Type 0
    Changes st st' key y = (q : K) (z : Option V) → Has st q z → Has st' q (cond (e.eq key q) y z)

    module _ {Z : Type 0} where
      abbrev pub IsOfKey : K → Option (Arc (Entry K V) Z) → Type 0
      IsOfKey key was = IfSome was (λ a. e.eq key (arc_value a).key ≡ true)

      abbrev pub ChangesAt : ℕ → Pass → Pass → K → Option V → Option (Arc (Entry K V) Z) → Type 0
      ChangesAt s pass pass' key y was =
          (m : Moment) × StandsSince pass pass' m × ExchangesOnly s (place_of key) m
          × Has m.before key (value_of (option_map arc_value was)) × IsOfKey key was × Changes m.before m.after key y

      abbrev pub StaysAt : ℕ → Pass → Pass → K → Option (Arc (Entry K V) Z) → Type 0
      StaysAt s pass pass' key was =
          (m : Moment) × LooksUp s pass pass' m key (value_of (option_map arc_value was)) × IsOfKey key was

      abbrev pub RemovesAt : ℕ → Pass → Pass → K → Option (Arc (Entry K V) Z) → Type 0
      RemovesAt s pass pass' key (Some a) = ChangesAt s pass pass' key None (Some a)
      RemovesAt s pass pass' key None = StaysAt s pass pass' key None

      abbrev pub PutsNewAt : ℕ → Pass → Pass → K → V → Option (Arc (Entry K V) Z) → Type 0
      PutsNewAt s pass pass' key y (Some a) = StaysAt s pass pass' key (Some a)
      PutsNewAt s pass pass' key y None = ChangesAt s pass pass' key (Some y) None

      abbrev pub AltersMap : ℕ → (Option (Entry K V) → Type 0) → K → Option (Entry K V) → ℕ → Pass → Pass
          → Result (Option (Arc (Entry K V) Z)) NotChanged → Type 0
      AltersMap s Where key new tries pass pass' result =
          (answer : Result (Option (Arc (Entry K V) Z)) (NotAltered (Unchanged K V)))
          × AltersCell (MakesBucket Where e.eq key new) code s (place_of key) map_kind tries pass pass' answer × Settles answer result

abbrev pub MakesEntry : {A : Type 0} → (Pass → Pass → Result A NotChanged → Type 0) → Pass → Pass → Result A NotChanged → Type 0
MakesEntry Alters pass pass' result = ((pass' ≡ pass) × (result ≡ Err NoMemory)) ⊎ Alters pass pass' result
