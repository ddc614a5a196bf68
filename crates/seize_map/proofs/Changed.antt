-- What the map has when a bucket is read, and after a bucket took the place of another: under the key what was put there, and else what it had.
use Rattle.std.proofs.Common.{◌≡◌, ◌==◌, ◌≢◌, ◌%◌, ◌^◌, ◌⊎◌, inl, inr, ℕ, List, [], ◌∷◌, Bool, true, false, cond, IfOk, IfSome, Option, None, Some, option_map, refl, ap, sym, ◌∙◌, subst}
use Rattle.std.proofs.lemmas.Bool.{eq-eqb, eqb-true}
use denote.Bor.{Bor}
use base.Stored.{Coded, Gv}
use Rattle.std_alloc.specs.Arc.{arc_value}
use Rattle.std_alloc.specs.declared.arc.Arc.{Arc}
use Rattle.core.specs.Cmp.{IsEquivalence}
use Rattle.core.specs.declared.result.Result.{Result}
use Rattle.core.specs.declared.result.Result.TheVariants.{Err, Ok}
use Rattle.core.specs.List.{fold}
use Rattle.core.specs.declared.cmp.PartialEq as eq
use Rattle.core.specs.declared.hash.Hash as hash
use Rattle.core.specs.declared.hash.Hasher as hasher
use Rattle.core.specs.declared.hash.build.BuildHasher as builder
use Rattle.seize.specs.Collectors.{its_links}
use Rattle.seize.specs.Answer.TheVariants.{Link}
use Rattle.seize.specs.Links.{Shows, shared_value}
use Rattle.seize.specs.Machine.Event.{ReadLink}
use Rattle.seize.specs.Machine.History.{Moment}
use Rattle.seize.specs.Machine.State.{State, link_at}
use Rattle.seize.specs.Makes.{MakesOne}
use Rattle.seize.specs.Moments.{ExchangesOnly, LooksOnly, StandsSince}
use Rattle.seize.specs.Rules.{Says}
use Rattle.seize.proofs.Facts.{says_once}
use Rattle.seize_book.specs.declared.book.pass.Pass.{Pass}
use Rattle.seize_guards.specs.declared.block.shared.Shared.{Shared}
use Rattle.seize_guards.specs.declared.parts.Home as home
use Rattle.seize_words.specs.declared.words.Words.{Words}
use Rattle.seize_atomic.specs.Alters.{AltersCell}
use Rattle.seize_atomic.specs.Cells.{cells_kind}
use Rattle.seize_atomic.specs.declared.cells.NotAltered.{NotAltered}
use Rattle.seize_atomic.specs.declared.cells.NotAltered.TheVariants as not_altered
use Rattle.seize_atomic.specs.declared.cells.NotAltered.TheVariants.{Contended, Refused}
use Rattle.seize_atomic.proofs.Facts.{altered, alters_less, refused, was_read}
use Rattle.seize_map.specs.Buckets.{Leaves, MakesBucket, NoEntry, Replaces, Settles, SomeEntry, entries_in, entry_under, value_in, value_of}
use Rattle.seize_map.specs.Maps.{AltersMap, Changes, ChangesAt, Has, PutsNewAt, ReadsBucket, ReadsMap, RemovesAt, StaysAt, map_words, place_of}
use Rattle.seize_map.specs.declared.bucket.Bucket.{Bucket}
use Rattle.seize_map.specs.declared.bucket.Entry.{Entry}
use Rattle.seize_map.specs.declared.bucket.Unchanged.{Unchanged}
use Rattle.seize_map.specs.declared.bucket.Unchanged.TheVariants.{NoMemory, Stays}
use Rattle.seize_map.specs.declared.map.HashMap.{HashMap}
use Rattle.seize_map.specs.declared.settled.NotChanged.{NotChanged}
use Rattle.seize_map.proofs.Lookups.{changed}

cases_eq : (a b : ℕ) → (a ≡ b) ⊎ (a ≢ b)
cases_eq a b = go (a == b) refl
  where
    go : (c : Bool) → (a == b) ≡ c → (a ≡ b) ⊎ (a ≢ b)
    go true is = inl (eqb-true a b is)
    go false differs = inr (λ same. absurd (let no : true ≡ false = sym (eq-eqb a b same) ∙ differs in cc))

module _ {K V : Type 0} where
  -- what is found passes
  passes : (is : K → Bool) (es : List (Entry K V)) (x : Entry K V) → entry_under is es ≡ Some x → is x.key ≡ true
  passes is [] x found = absurd (cc)
  passes is (y ∷ es) x found = go (is y.key) refl found (passes is es x)
    where
      go : (b : Bool) → is y.key ≡ b → cond b (Some y) (entry_under is es) ≡ Some x → (entry_under is es ≡ Some x → is x.key ≡ true) → is x.key ≡ true
      go true passed same later = subst (λ (z : Entry K V). is z.key ≡ true) (let both : y ≡ x = cc in both) passed
      go false passed same later = later same

  through_cond : (b : Bool) (new found : Option (Entry K V)) → option_map (λ e. e.value) (cond b new found) ≡ cond b (option_map (λ e. e.value) new) (option_map (λ e. e.value) found)
  through_cond true new found = refl
  through_cond false new found = refl

-- **What a read found, the map has at the moment of the read.**
pub reads_map : {K V S C H : Type 0} {k : hash.Ghosts K} {e : eq.Ghosts K} {b : builder.Ghosts S H} {h : hasher.Ghosts H} {c : home.Ghosts C (Bucket K V)} (map : HashMap K V S C H k e b h c) (words : Words (Bucket K V))
    (code : Bucket K V → Gv) (s l : ℕ) (key : K) (y : Option V) (held : Option ℕ) (found : Option (Shared (Bucket K V))) {p q : Pass} → MakesOne p q (ReadLink s l) (Link held) → Shows words code held found
    → l ≡ place_of map key → value_in e.eq (option_map shared_value found) key ≡ y → ReadsMap map code s p q key y
reads_map map words code s l key y held found {p} {q} reads shows at is =
    let there = was_read words code s l held found reads shows in let m = there.0 in (
      held,
      subst (λ (n : ℕ). MakesOne p q (ReadLink s n) (Link held)) at reads,
      (
        m,
        subst (λ (n : ℕ). link_at m.before n ≡ held) at there.3,
        (there.1, subst (λ (n : ℕ). LooksOnly s n m) at there.2, (option_map shared_value found, subst (λ (n : ℕ). Says code (link_at m.before n) (option_map shared_value found)) at there.4, is)),
      ),
    )

-- And a bucket's entries are those that were found.
pub reads_bucket : {K V S C H : Type 0} {k : hash.Ghosts K} {e : eq.Ghosts K} {b : builder.Ghosts S H} {h : hasher.Ghosts H} {c : home.Ghosts C (Bucket K V)} (map : HashMap K V S C H k e b h c) (words : Words (Bucket K V))
    (code : Bucket K V → Gv) (s i : ℕ) (entries : List (Entry K V)) (held : Option ℕ) (found : Option (Shared (Bucket K V))) {p q : Pass} → MakesOne p q (ReadLink s i) (Link held) → Shows words code held found
    → entries_in (option_map shared_value found) ≡ entries → ReadsBucket map code s i p q entries
reads_bucket map words code s i entries held found {p} {q} reads shows is =
    let there = was_read words code s i held found reads shows in
    (held, reads, (there.0, there.3, there.1, there.2, (option_map shared_value found, subst (λ (o : Option ℕ). Says code o (option_map shared_value found)) there.3 there.4, is)))

module _ {K V S C H : Type 0} {k : hash.Ghosts K} {e : eq.Ghosts K} {b : builder.Ghosts S H} {h : hasher.Ghosts H} {c : home.Ghosts C (Bucket K V)} (map : HashMap K V S C H k e b h c) (laws : IsEquivalence e.eq)
    (alike : (x y : K) → e.eq x y ≡ true → k.hash_input x ≡ k.hash_input y) (coded : Coded (Bucket K V)) (key : K) (new : Option (Entry K V)) (its : (x : Entry K V) → new ≡ Some x → x.key ≡ key) where
  abbrev place : K → ℕ
  place = place_of map

  abbrev put : Option V
  put = option_map (λ (x : Entry K V). x.value) new

  module _ {Z : Type 0} (before : Option (Bucket K V)) (made : Option (Bucket K V) × Option (Arc (Entry K V) Z)) (replaces : Replaces e.eq key new before made) where
    -- what the new bucket has under a key
    in_made : (q : K) → value_in e.eq made.0 q ≡ cond (e.eq key q) put (value_in e.eq before q)
    in_made q = ap (option_map (λ (x : Entry K V). x.value)) (changed e.eq laws key new (entries_in before) (entries_in made.0) its replaces.0 q) ∙ through_cond (e.eq key q) new (entry_under (e.eq q) (entries_in before))

    -- what the old one had under the key came out
    was_there : value_in e.eq before key ≡ value_of (option_map arc_value made.1)
    was_there = ap value_of (sym replaces.1)

    found_key : (o : Option (Arc (Entry K V) Z)) (x : List (Entry K V)) → option_map arc_value o ≡ entry_under (e.eq key) x → IfSome o (λ (a : Arc (Entry K V) Z). e.eq key (arc_value a).key ≡ true)
    found_key None x is = tt
    found_key (Some a) x is = passes (e.eq key) x (arc_value a) (sym is)

    -- a key that lies elsewhere is another one
    same_place : (q : K) → e.eq key q ≡ true → place key ≡ place q
    same_place q same = ap (λ (w : List (List ℕ)). (h.finish (fold h.write (b.build_hasher map.hasher) w) % 2 ^ 32) % its_links (map_words map)) (alike key q same)

    elsewhere : (q : K) → place q ≢ place key → (same : Bool) → e.eq key q ≡ same → same ≡ false
    elsewhere q other true is = absurd (other (sym (same_place q is)))
    elsewhere q other false is = refl

    changes : (st st' : State) → Says coded.code (link_at st (place key)) before → Says coded.code (link_at st' (place key)) made.0 → ((l : ℕ) → l ≢ place key → link_at st' l ≡ link_at st l)
        → Changes map coded.code st st' key put
    changes st st' was is others q z has = go (cases_eq (place q) (place key))
      where
        go : (place q ≡ place key) ⊎ (place q ≢ place key) → Has map coded.code st' q (cond (e.eq key q) put z)
        go (inl at) =
            let old : has.0 ≡ before = says_once coded (link_at st (place key)) has.0 before (subst (λ (l : ℕ). Says coded.code (link_at st l) has.0) at has.1) was in (
              made.0,
              subst (λ (l : ℕ). Says coded.code (link_at st' l) made.0) (sym at) is,
              in_made q ∙ ap (λ (o : Option V). cond (e.eq key q) put o) (ap (λ (x : Option (Bucket K V)). value_in e.eq x q) (sym old) ∙ has.2),
            )
        go (inr other) = (
          has.0,
          subst (λ (o : Option ℕ). Says coded.code o has.0) (sym (others (place q) other)) has.1,
          has.2 ∙ sym (ap (λ (same : Bool). cond same put z) (elsewhere q other (e.eq key q) refl)),
        )

    -- **So an alteration of the bucket is a change of the map at its moment.**
    changed_at : (s : ℕ) (pass pass' : Pass) (m : Moment) → StandsSince pass pass' m → Says coded.code (link_at m.before (place key)) before → Says coded.code (link_at m.after (place key)) made.0
        → ExchangesOnly s (place key) m → ChangesAt map coded.code s pass pass' key put made.1
    changed_at s pass pass' m since was is only = (m, since, only, (before, was, was_there), found_key made.1 (entries_in before) replaces.1, changes m.before m.after was is only.1)

    altered_at : (l s : ℕ) (pass pass' : Pass) (m : Moment) → l ≡ place key → StandsSince pass pass' m → Says coded.code (link_at m.before l) before → Says coded.code (link_at m.after l) made.0
        → ExchangesOnly s l m → ChangesAt map coded.code s pass pass' key put made.1
    altered_at l s pass pass' m at since was is only =
        changed_at s pass pass' m since (subst (λ (n : ℕ). Says coded.code (link_at m.before n) before) at was) (subst (λ (n : ℕ). Says coded.code (link_at m.after n) made.0) at is)
        (subst (λ (n : ℕ). ExchangesOnly s n m) at only)

  at_ok : {A E : Type 0} (P : A → Type 0) (result : Result A E) → IfOk result P → (a : A) → result ≡ Ok a → P a
  at_ok P (Ok a) holds b is = subst P (let same : a ≡ b = cc in same) holds
  at_ok P (Err e) holds b is = absurd (cc)

  module _ {Z : Type 0} (Where : Option (Entry K V) → Type 0) (post : Option (Bor (Bucket K V)) → Result (Option (Bucket K V) × Option (Arc (Entry K V) Z)) (Unchanged K V) → Type 0)
      (gives : (x : Option (Bor (Bucket K V))) (made : Result (Option (Bucket K V) × Option (Arc (Entry K V) Z)) (Unchanged K V)) → post x made → MakesBucket Where e.eq key new x made)
      (l s kind tries : ℕ) (at : l ≡ place key) (pass pass' : Pass) (answer : Result (Option (Arc (Entry K V) Z)) (NotAltered (Unchanged K V))) (alters : AltersCell post coded.code s l kind tries pass pass' answer) where
    abbrev was_of : Option (Arc (Entry K V) Z) → Option (Entry K V)
    was_of = option_map arc_value

    -- an alteration that was made
    alters_map : (a : Option (Arc (Entry K V) Z)) → answer ≡ Ok a → ChangesAt map coded.code s pass pass' key put a × Where (was_of a)
    alters_map a is =
        let t = at_ok _ answer (altered post coded.code s l kind tries pass pass' answer alters) a is in
        let x = t.2.0 in let y = t.2.1 in let answers = t.2.2 in
        let made = (gives answers.0 (Ok (y, a)) answers.2).0 in
        let replaces : Replaces e.eq key new x (y, a) = subst (λ (b : Option (Bucket K V)). Replaces e.eq key new b (y, a)) answers.1 made.1 in
        (altered_at x (y, a) replaces l s pass pass' t.0 at t.1 t.2.3 t.2.4 t.3, subst Where (sym made.1.1) made.0)

    -- and one that left the bucket as it was
    stays_map : (a : Option (Arc (Entry K V) Z)) (why : Unchanged K V) → answer ≡ Err (Refused why) → ((x : Option (Bucket K V)) → Leaves Where e.eq key x why → ¬ (Where (was_of a)) × (was_of a ≡ entry_under (e.eq key) (entries_in x)))
        → StaysAt map coded.code s pass pass' key a × ¬ (Where (was_of a))
    stays_map a why is says =
        let t = refused post coded.code s l kind tries pass pass' why (subst (AltersCell post coded.code s l kind tries pass pass') is alters) in
        let m = t.0 in let x = t.3.0 in let answers = t.3.2 in
        let left = says x (subst (λ (b : Option (Bucket K V)). Leaves Where e.eq key b why) answers.1 (gives answers.0 (Err why) answers.2).1) in (
          (m, (t.1, subst (λ (n : ℕ). LooksOnly s n m) at t.2, (x, subst (λ (n : ℕ). Says coded.code (link_at m.before n) x) at t.3.1, ap value_of (sym left.1))), key_found a (entries_in x) left.1),
          left.0,
        )
      where
        key_found : (o : Option (Arc (Entry K V) Z)) (es : List (Entry K V)) → was_of o ≡ entry_under (e.eq key) es → IfSome o (λ (b : Arc (Entry K V) Z). e.eq key (arc_value b).key ≡ true)
        key_found None es is = tt
        key_found (Some b) es is = passes (e.eq key) es (arc_value b) (sym is)

    -- **So each alteration is one of the map,**
    pub alters_as : kind ≡ cells_kind map.cells → (result : Result (Option (Arc (Entry K V) Z)) NotChanged) → Settles answer result → AltersMap map coded.code s Where key new tries pass pass' result
    alters_as same result settles = (
      answer,
      subst (λ (t : ℕ × ℕ). AltersCell (MakesBucket Where e.eq key new) coded.code s t.0 t.1 tries pass pass' answer) (λ j. (at j, same j)) (alters_less post (MakesBucket Where e.eq key new) gives coded.code s l kind tries pass pass' answer alters),
      settles,
    )

    -- **and what a call answers was there before a change, or stays.**
    pub settles_at : (P : Option (Arc (Entry K V) Z) → Type 0) → ((a : Option (Arc (Entry K V) Z)) → ChangesAt map coded.code s pass pass' key put a → Where (was_of a) → P a)
        → ((a : Option (Arc (Entry K V) Z)) → StaysAt map coded.code s pass pass' key a → ¬ (Where (was_of a)) → P a) → (result : Result (Option (Arc (Entry K V) Z)) NotChanged) → Settles answer result → IfOk result P
    settles_at P on_change on_stay (Err why) settles = tt
    settles_at P on_change on_stay (Ok given) settles = go answer refl settles
      where
        go : (r : Result (Option (Arc (Entry K V) Z)) (NotAltered (Unchanged K V))) → answer ≡ r → Settles r (Ok given) → P given
        go (Ok was) is same = let c = alters_map was is in subst P (sym same) (on_change was c.0 c.1)
        go (Err (Refused (Stays was))) is same = let c = stays_map given (Stays was) is (λ x left. (λ where_so. left.0 (subst Where (same ∙ left.1) where_so), same ∙ left.1)) in on_stay given c.0 c.1
        go (Err (Refused NoMemory)) is never = absurd never
        go (Err not_altered.NoMemory) is never = absurd never
        go (Err Contended) is never = absurd never

-- What a removal answers, and an insertion where there was none.
module _ {K V S C H Z : Type 0} {k : hash.Ghosts K} {e : eq.Ghosts K} {b : builder.Ghosts S H} {h : hasher.Ghosts H} {c : home.Ghosts C (Bucket K V)} (map : HashMap K V S C H k e b h c) (coded : Coded (Bucket K V)) (key : K) (s : ℕ) (p q : Pass) where
  pub removes : (a : Option (Arc (Entry K V) Z)) → ChangesAt map coded.code s p q key None a → SomeEntry (option_map arc_value a) → RemovesAt map coded.code s p q key a
  removes (Some a) changed some = changed
  removes None changed some = absurd (cc)

  pub removes_none : (a : Option (Arc (Entry K V) Z)) → StaysAt map coded.code s p q key a → ¬ (SomeEntry (option_map arc_value a)) → RemovesAt map coded.code s p q key a
  removes_none (Some a) stays none = absurd (none refl)
  removes_none None stays none = stays

  pub puts_new : (y : V) (a : Option (Arc (Entry K V) Z)) → ChangesAt map coded.code s p q key (Some y) a → NoEntry (option_map arc_value a) → PutsNewAt map coded.code s p q key y a
  puts_new y (Some a) changed none = absurd (cc)
  puts_new y None changed none = changed

  pub stays_new : (y : V) (a : Option (Arc (Entry K V) Z)) → StaysAt map coded.code s p q key a → ¬ (NoEntry (option_map arc_value a)) → PutsNewAt map coded.code s p q key y a
  stays_new y (Some a) stays some = stays
  stays_new y None stays some = absurd (some refl)
