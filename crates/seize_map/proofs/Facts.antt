-- What other crates may build on.
--     has_once                  a state says one thing of a key
--     has_entries               what a bucket has of a key that lies there, the map has
--     has_still                 and where the key's link holds what it held, it says that still
use Rattle.std.proofs.Common.{◌≡◌, ℕ, List, Option, ap, sym, ◌∙◌, subst}
use base.Stored.{Coded}
use Rattle.core.specs.declared.cmp.PartialEq as eq
use Rattle.core.specs.declared.hash.Hash as hash
use Rattle.core.specs.declared.hash.Hasher as hasher
use Rattle.core.specs.declared.hash.build.BuildHasher as builder
use Rattle.seize.specs.Machine.State.{State, link_at}
use Rattle.seize.specs.Rules.{Says}
use Rattle.seize.proofs.Facts.{says_once}
use Rattle.seize_guards.specs.declared.parts.Home as home
use Rattle.seize_book.specs.declared.book.pass.Pass.{Pass}
use Rattle.seize_map.specs.Buckets.{entry_under, value_in, value_of}
use Rattle.seize_map.specs.Maps.{Has, ReadsBucket, place_of}
use Rattle.seize_map.specs.declared.bucket.Bucket.{Bucket}
use Rattle.seize_map.specs.declared.bucket.Entry.{Entry}
use Rattle.seize_map.specs.declared.map.HashMap.{HashMap}

module _ {K V S C H : Type 0} {k : hash.Ghosts K} {e : eq.Ghosts K} {b : builder.Ghosts S H} {h : hasher.Ghosts H} {c : home.Ghosts C (Bucket K V)} (map : HashMap K V S C H k e b h c) (coded : Coded (Bucket K V)) (key : K) where
  pub has_once : (st : State) (y z : Option V) → Has map coded.code st key y → Has map coded.code st key z → y ≡ z
  has_once st y z one two =
      let same = says_once coded (link_at st (place_of map key)) one.0 two.0 one.1 two.1 in
      sym one.2 ∙ (ap (λ (bucket : Option (Bucket K V)). value_in e.eq bucket key) same ∙ two.2)

  pub has_still : (st st' : State) (y : Option V) → link_at st' (place_of map key) ≡ link_at st (place_of map key) → Has map coded.code st key y → Has map coded.code st' key y
  has_still st st' y same has = (has.0, subst (λ (o : Option ℕ). Says coded.code o has.0) (sym same) has.1, has.2)

  pub has_entries : (s i : ℕ) (pass pass' : Pass) (es : List (Entry K V)) (reads : ReadsBucket map coded.code s i pass pass' es) → place_of map key ≡ i
      → Has map coded.code reads.2.0.before key (value_of (entry_under (e.eq key) es))
  has_entries s i pass pass' es reads at =
      let m = reads.2.0 in let bucket = reads.2.4 in
      (bucket.0, subst (λ (o : Option ℕ). Says coded.code o bucket.0) (sym (ap (link_at m.before) at ∙ reads.2.1)) bucket.1, ap (λ (xs : List (Entry K V)). value_of (entry_under (e.eq key) xs)) bucket.2)
