-- The machine's laws, said of the book where a value goes to its reclaimer.
use Rattle.std.proofs.Common.{◌≡◌, ℕ, zero, suc, ◌<◌, true, List, [], ◌∷◌, ◌++◌, length, map, take, slice_get, Option, Some, refl, sym, ◌∙◌, ap, arith}
use Rattle.std.proofs.lemmas.Option.{slice_get_within}
use Rattle.seize_machine.specs.Machine.State.{State, linked_values, are_distinct, opening}
use Rattle.seize_machine.specs.Machine.Next.{next}
use Rattle.seize_machine.specs.Machine.History.{Moment, end_of, history, done_by, or_illegal, handed_value, Reclaimed, HasParted}
use Rattle.seize_machine.specs.declared.machine.event.Answer.{Answer}
use Rattle.seize_machine.proofs.Facts.{law_after, law_at_most_once, law_protection, some_is}
use Rattle.seize_book.specs.Entry.{Entry, Made, Used, Deed, deeds, timed_deed, events_of}
use Rattle.seize_book.specs.Book.{moments, after, IsLegalList, Does}
use Rattle.seize_book.specs.Laws.{AllLeft, AllParted, NotHanded, WasRetired}
use Rattle.seize_book.proofs.Lists.{as_legal, legal_push}

-- entry i of a list, as a moment
abbrev pub moment : State → Deed → Moment
moment st e = let done = done_by next st (timed_deed e) in record { before = st; timed = timed_deed e; answer = done.1; after = done.0 }

pub moments_push : (st : State) (log : List Entry) (e : Deed) → moments st (log ++ Made e ∷ []) ≡ moments st log ++ moment (after st log) e ∷ []
moments_push st [] e = refl
moments_push st (Made x ∷ log) e = ap (λ (ms : List Moment). moment st x ∷ ms) (moments_push (done_by next st (timed_deed x)).0 log e)
moments_push st (Used u ∷ log) e = moments_push st log e

-- the moments of events in order, and the state after them
abbrev pub moments_of : State → List Deed → List Moment
moments_of st ds = history next st (map timed_deed ds)

abbrev pub state_of : State → List Deed → State
state_of st ds = end_of st (moments_of st ds)

pub moments_length : (st : State) (ds : List Deed) → length (moments_of st ds) ≡ length ds
moments_length st [] = refl
moments_length st (e ∷ ds) = ap suc (moments_length (done_by next st (timed_deed e)).0 ds)

-- each moment is that of an event, after the events before it
pub entry_of : (st : State) (ds : List Deed) (i : ℕ) (m : Moment) → slice_get (moments_of st ds) i ≡ Some m
    → (e : Deed) × (slice_get ds i ≡ Some e) × (m ≡ moment (state_of st (take i ds)) e)
entry_of st [] i m h = absurd (cc)
entry_of st (x ∷ ds) zero m h = (x, refl, sym (some_is _ _ h))
entry_of st (x ∷ ds) (suc i) m h = entry_of (done_by next st (timed_deed x)).0 ds i m h

-- a list, and one more
get_left : {X : Type 0} (xs : List X) (y : X) (i : ℕ) (x : X) → slice_get xs i ≡ Some x → slice_get (xs ++ y ∷ []) i ≡ Some x
get_left [] y i x h = absurd (cc)
get_left (z ∷ xs) y zero x h = h
get_left (z ∷ xs) y (suc i) x h = get_left xs y i x h

get_inside : {X : Type 0} (xs : List X) (y : X) (i : ℕ) (x : X) → i < length xs → slice_get (xs ++ y ∷ []) i ≡ Some x → slice_get xs i ≡ Some x
get_inside [] y i x l h = absurd (omega arith)
get_inside (z ∷ xs) y zero x l h = h
get_inside (z ∷ xs) y (suc i) x l h = get_inside xs y i x (omega arith) h

pub get_last : {X : Type 0} (xs : List X) (y : X) → slice_get (xs ++ y ∷ []) (length xs) ≡ Some y
get_last [] y = refl
get_last (z ∷ xs) y = get_last xs y

module _ (slots : ℕ) (links : List (Option ℕ)) (distinct : are_distinct (linked_values links) ≡ true) (log : List Entry) (e : Deed) (d : State × Answer) (v : ℕ)
    (legal : IsLegalList (opening slots links) log) (does : Does (opening slots links) log (Made e) d) (hands : handed_value d.1 ≡ Some v) where
  abbrev st : State
  st = opening slots links

  abbrev now : List Entry
  now = log ++ Made e ∷ []

  all : IsLegalList st now
  all = legal_push st log (Made e) d legal does

  stays : (i : ℕ) (m : Moment) → slice_get (moments st log) i ≡ Some m → slice_get (moments st now) i ≡ Some m
  stays i m h = ap (λ (ms : List Moment). slice_get ms i) (moments_push st log e) ∙ get_left (moments st log) _ i m h

  last : Reclaimed (moments st now) v (length (deeds log))
  last = (
    moment (after st log) e,
    ap (λ (ms : List Moment). slice_get ms (length (deeds log))) (moments_push st log e)
        ∙ (ap (λ (n : ℕ). slice_get (moments st log ++ moment (after st log) e ∷ []) n) (sym (moments_length st (deeds log))) ∙ get_last (moments st log) (moment (after st log) e)),
    ap (λ o. handed_value (or_illegal (after st log) o).1) does ∙ hands,
  )

  -- v was not handed before
  pub not_handed : NotHanded st log v
  not_handed c h =
      let same : c ≡ length (deeds log) = law_at_most_once slots links (events_of now) _ _ distinct (as_legal st now all) v c (length (deeds log)) (h.0, stays c h.0 h.1, h.2) last in
      let below : c < length (moments st log) = slice_get_within (moments st log) c h.0 h.1 in
      let n : length (moments st log) ≡ length (deeds log) = moments_length st (deeds log) in absurd (omega arith)

  -- what is said of the list by now, and of an event before the last, is said of the list before
  inside : (i : ℕ) (m : Moment) → i < length (deeds log) → slice_get (moments st now) i ≡ Some m → slice_get (moments st log) i ≡ Some m
  inside i m below h =
      let n : length (moments st log) ≡ length (deeds log) = moments_length st (deeds log) in
      get_inside (moments st log) _ i m (omega arith) (ap (λ (ms : List Moment). slice_get ms i) (sym (moments_push st log e)) ∙ h)

  parted_inside : (s i : ℕ) → HasParted (moments st now) s i (length (deeds log)) → HasParted (moments st log) s i (length (deeds log))
  parted_inside s i p = let m = p.3 in (p.0, p.1, p.2, (m.0, inside p.0 m.0 p.2 m.1, m.2))

  -- v was retired before, and each slot that was active then parted since
  pub retired_and_left : (r : WasRetired st log v) × AllLeft st log r.0
  retired_and_left =
      let a = law_after slots links (events_of now) _ _ distinct (as_legal st now all) v (length (deeds log)) last in let m = a.2 in (
        (a.0, (m.0, inside a.0 m.0 a.1 m.1, m.2)),
        (λ s active. parted_inside s a.0 (a.4 s (active.0, stays a.0 active.0 active.1, active.2))),
      )

  -- each slot that found v parted since
  pub all_parted : AllParted st log v
  all_parted s i f =
      parted_inside s i (law_protection slots links (events_of now) _ _ distinct (as_legal st now all) s v i (length (deeds log)) (f.0, stays i f.0 f.1, f.2, f.3) last).1
