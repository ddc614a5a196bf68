-- What was made with a pass stands among the moments that it has seen. So the laws, which speak of these, speak of a user's own calls.
use Rattle.std.proofs.Common.{◌≡◌, ℕ, zero, suc, ◌≤◌, Bool, true, false, arith, cond, ◌==◌, List, [], ◌∷◌, ◌++◌, filter, length, map, Some, inl, inr, refl, sym, ap, subst, ◌∙◌}
use Rattle.std.specs.Prelude.{slice_get}
use mathlib.Core.List.{IsPrefix}
use Rattle.seize_machine.specs.Machine.State.{State}
use Rattle.seize_machine.specs.Machine.Event.{Event, ReadLink}
use Rattle.seize_machine.specs.Machine.History.{Found, Moment, Reclaimed, Retired, is_link_event, linked_value, or_illegal}
use Rattle.seize_machine.specs.declared.machine.event.Answer.{Answer}
use Rattle.seize_machine.specs.declared.machine.event.Answer.TheVariants.{Done, Link}
use Rattle.seize_book.specs.Book.{moments, outcome, with_answers}
use Rattle.seize_book.specs.Entry.{Deed, Entry, Made, Used, maker}
use Rattle.seize_book.specs.Passes.{events_in}
use Rattle.seize_book.specs.Tokens.{Name, start}
use Rattle.seize_book.specs.declared.book.pass.Pass.{Pass}
use Rattle.seize_parts.specs.Laws.{moments_seen}
use Rattle.seize_parts.specs.Makes.{Makes, WasMade, made_with}
use Rattle.seize_book.proofs.Facts.{equal}
use Rattle.seize_parts.proofs.Made.{as_made}
use Rattle.seize_parts.proofs.Moments.{moment_still}

-- the moment e is this event, with this answer
abbrev pub StandsAt : List Moment → Event × Answer → ℕ → Type 0
StandsAt ms x e = (m : Moment) × (slice_get ms e ≡ Some m) × (m.timed.event ≡ x.0) × (m.answer ≡ x.1)

-- what is picked from some entries is among them
kept : (x : Event × Answer) (e : Entry × Answer) (some all : List (Entry × Answer)) (b : Bool) → (WasMade x (map as_made (events_in some)) → WasMade x (map as_made (events_in all)))
    → WasMade x (map as_made (events_in (cond b (e ∷ some) some))) → WasMade x (map as_made (events_in (e ∷ all)))
kept x (Made d, answer) some all true more (inl same) = inl same
kept x (Made d, answer) some all true more (inr among) = inr (more among)
kept x (Made d, answer) some all false more among = inr (more among)
kept x (Used u, answer) some all true more among = more among
kept x (Used u, answer) some all false more among = more among

pub picked : (test : Entry × Answer → Bool) (es : List (Entry × Answer)) (x : Event × Answer) → WasMade x (map as_made (events_in (filter test es))) → WasMade x (map as_made (events_in es))
picked test [] x among = among
picked test (e ∷ es) x among = kept x e (filter test es) es (test e) (picked test es x) among

-- and an entry of a list is a moment of it
stands : (st : State) (log : List Entry) (x : Event × Answer) → WasMade x (map as_made (events_in (with_answers st log))) → (e : ℕ) × StandsAt (moments st log) x e
stands st [] x among = absurd among
stands st (Made d ∷ log) x (inl same) = (zero, (_, refl, ap (λ (y : Event × Answer). y.0) same, ap (λ (y : Event × Answer). y.1) same))
stands st (Made d ∷ log) x (inr more) = let there = stands (or_illegal st (outcome st (Made d))).0 log x more in (suc there.0, there.1)
stands st (Used u ∷ log) x more = stands st log x more

-- what is picked of a list, beyond what is picked of its beginning, stands after that
abbrev picks : (Entry × Answer → Bool) → State → List Entry → List (Event × Answer)
picks test st log = map as_made (events_in (filter test (with_answers st log)))

abbrev StandsAfter : State → List Entry → List Entry → Event × Answer → Type 0
StandsAfter st a b x = (e : ℕ) × (length (moments st a) ≤ e) × StandsAt (moments st (a ++ b)) x e

abbrev pub rest_of : {A : Type 0} → List A → List A
rest_of [] = []
rest_of (y ∷ ys) = ys

one_on : (st : State) (d : Deed) (a b : List Entry) (x : Event × Answer) → StandsAfter (or_illegal st (outcome st (Made d))).0 a b x → StandsAfter st (Made d ∷ a) b x
one_on st d a b x there = (suc there.0, omega (arith, there.1), there.2)

-- the first entry of the beginning is picked on both sides, or on neither
dropped : (e : Entry × Answer) (some more : List (Entry × Answer)) (es : List (Event × Answer)) (b : Bool)
    → map as_made (events_in (cond b (e ∷ some) some)) ≡ map as_made (events_in (cond b (e ∷ more) more)) ++ es → map as_made (events_in some) ≡ map as_made (events_in more) ++ es
dropped (Made d, answer) some more es true is = ap rest_of is
dropped (Made d, answer) some more es false is = is
dropped (Used u, answer) some more es true is = is
dropped (Used u, answer) some more es false is = is

stands_after : (test : Entry × Answer → Bool) (st : State) (a b : List Entry) (es : List (Event × Answer)) (x : Event × Answer) → picks test st (a ++ b) ≡ picks test st a ++ es → WasMade x es → StandsAfter st a b x
stands_after test st [] b es x is made = let there = stands st b x (picked test (with_answers st b) x (subst (WasMade x) (sym is) made)) in (there.0, omega arith, there.1)
stands_after test st (Made d ∷ a) b es x is made =
    let done = or_illegal st (outcome st (Made d)) in
    one_on st d a b x (stands_after test done.0 a b es x (dropped (Made d, done.1) (filter test (with_answers done.0 (a ++ b))) (filter test (with_answers done.0 a)) es (test (Made d, done.1)) is) made)
stands_after test st (Used u ∷ a) b es x is made =
    stands_after test st a b es x (dropped (Used u, Done) (filter test (with_answers st (a ++ b))) (filter test (with_answers st a)) es (test (Used u, Done)) is) made

-- **What calls made with a pass stands among the moments that it has seen since**, after all that it had seen before.
pub made_since : (x : Event × Answer) {p q : Pass} {es : List (Event × Answer)} → Makes p q es → WasMade x es → (e : ℕ) × (length (moments_seen p) ≤ e) × StandsAt (moments_seen q) x e
made_since x {p} {q} {es} makes made =
    let test : ℕ → Entry × Answer → Bool = λ id a. maker a.0 == id in
    let same : (p.name ≡ q.name) × (p.id ≡ q.id) = (sym makes.same.0, sym makes.same.1) in
    let is : picks (test q.id) (start q.name) (p.seen ++ makes.grows.0) ≡ picks (test q.id) (start q.name) p.seen ++ es =
    subst (λ (seen : List Entry). picks (test q.id) (start q.name) seen ≡ picks (test q.id) (start q.name) p.seen ++ es) (sym makes.grows.1)
    (subst (λ (t : Name × ℕ). made_with q ≡ picks (test t.1) (start t.0) p.seen ++ es) (λ j. (same.0 j, same.1 j)) makes.made) in
    let there = stands_after (test q.id) (start q.name) p.seen makes.grows.0 es x is made in (
      there.0,
      subst (λ (n : Name). length (moments (start n) p.seen) ≤ there.0) (sym same.0) there.1,
      subst (λ (seen : List Entry). StandsAt (moments (start q.name) seen) x there.0) (makes.grows.1) there.2,
    )

pub made_after : (x : Event × Answer) (es fs : List (Event × Answer)) → WasMade x fs → WasMade x (es ++ fs)
made_after x [] fs among = among
made_after x (e ∷ es) fs among = inr (made_after x es fs among)

-- What was read in a link with a pass is found there, as the laws say it, after all that the pass had seen before.
pub read_found : (s l v : ℕ) {p q : Pass} {es : List (Event × Answer)} → Makes p q es → WasMade (ReadLink s l, Link (Some v)) es → (e : ℕ) × (length (moments_seen p) ≤ e) × Found (moments_seen q) s v e
read_found s l v makes made = let there = made_since (ReadLink s l, Link (Some v)) makes made in
    (there.0, there.1, (there.2.0, there.2.1, ap (is_link_event s) there.2.2 ∙ equal s s refl, ap linked_value there.2.3))

-- What was retired in a list was retired in each that goes on from it, and what was reclaimed was.

pub retired_still : (st : State) (a b : List Entry) (v q : ℕ) → IsPrefix a b → Retired (moments st a) v q → Retired (moments st b) v q
retired_still st a b v q grows r = (r.0, moment_still st a b q r.0 grows r.1, r.2)

pub reclaimed_still : (st : State) (a b : List Entry) (v c : ℕ) → IsPrefix a b → Reclaimed (moments st a) v c → Reclaimed (moments st b) v c
reclaimed_still st a b v c grows r = (r.0, moment_still st a b c r.0 grows r.1, r.2)
