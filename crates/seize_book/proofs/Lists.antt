-- The book, with one entry more.
use Rattle.std.proofs.Common.{◌≢◌, arith, ◌≡◌, ℕ, Bool, true, false, cond, ◌==◌, if◌then◌else◌, nat_le, max, List, [], ◌∷◌, ◌++◌, length, filter, map, Option, Some, None, refl, sym, ◌∙◌, ap, subst, append_assoc, append-nil}
use mathlib.Core.List.{IsPrefix, append_cancel_left, cons≢nil}
use Rattle.std.proofs.lemmas.List.{map-append}
use Rattle.std.proofs.lemmas.List.Elements.{filter-append}
use Rattle.seize_machine.specs.Machine.State.{State, Progress, Mark, linked_values, are_distinct}
use Rattle.seize_machine.specs.Machine.Next.{next, taken_call}
use Rattle.seize_machine.specs.Machine.History.{Timed, IsReached, done_by, or_illegal, Legal, answers_of, are_legal, end_of, history}
use Rattle.seize_machine.specs.declared.machine.event.Answer.{Answer}
use Rattle.seize_machine.specs.declared.machine.event.Answer.TheVariants.{Done}
use Rattle.seize_machine.proofs.Facts.{one_more, opening_reached, reached_by, some_is, taken_apart}
use Rattle.seize_book.specs.Entry.{Entry, Made, Used, Deed, Use, deeds, maker, timed_deed, events_of}
use Rattle.seize_book.specs.Book.{moments, after, IsLegalList, outcome, Does, with_answers, mine}
use Rattle.seize_book.specs.Tokens.{Name, start}

pub deeds_append : (a b : List Entry) → deeds (a ++ b) ≡ deeds a ++ deeds b
deeds_append [] b = refl
deeds_append (Made d ∷ a) b = ap (λ (ds : List Deed). d ∷ ds) (deeds_append a b)
deeds_append (Used u ∷ a) b = deeds_append a b

-- a use of a field is no event
pub deeds_used : (log : List Entry) (u : Use) → deeds (log ++ Used u ∷ []) ≡ deeds log
deeds_used log u = deeds_append log (Used u ∷ []) ∙ append-nil (deeds log)

pub deeds_prefix : (a b : List Entry) → IsPrefix a b → IsPrefix (deeds a) (deeds b)
deeds_prefix a b p = (deeds p.0, sym (deeds_append a p.0) ∙ ap deeds p.1)

events_push : (log : List Entry) (d : Deed) → events_of (log ++ Made d ∷ []) ≡ events_of log ++ timed_deed d ∷ []
events_push log d = ap (map timed_deed) (deeds_append log (Made d ∷ [])) ∙ map-append timed_deed (deeds log) (d ∷ [])

pub as_legal : (st : State) (log : List Entry) → IsLegalList st log → Legal next st (events_of log) (answers_of (moments st log)) (after st log)
as_legal st log l = record { legal = l; answers_are = refl; end_is = refl }

longer : (st : State) (log : List Entry) (x : Deed) (d : State × Answer) → IsLegalList st log → Does st log (Made x) d
    → Legal next st (events_of (log ++ Made x ∷ [])) (answers_of (moments st log) ++ d.1 ∷ []) d.0
longer st log x d l h =
    subst (λ (ts : List Timed). Legal next st ts (answers_of (moments st log) ++ d.1 ∷ []) d.0) (sym (events_push log x))
    (one_more st (after st log) d.0 (events_of log) (answers_of (moments st log)) (timed_deed x) d.1 (as_legal st log l) h)

pub legal_push : (st : State) (log : List Entry) (e : Entry) (d : State × Answer) → IsLegalList st log → Does st log e d → IsLegalList st (log ++ e ∷ [])
legal_push st log (Made x) d l h = (longer st log x d l h).legal
legal_push st log (Used u) d l h = subst (λ (ds : List Deed). are_legal (history next st (map timed_deed ds)) ≡ true) (sym (deeds_used log u)) l

pub after_used : (st : State) (log : List Entry) (u : Use) → after st (log ++ Used u ∷ []) ≡ after st log
after_used st log u = ap (λ (ds : List Deed). end_of st (history next st (map timed_deed ds))) (deeds_used log u)

pub after_push : (st : State) (log : List Entry) (e : Entry) (d : State × Answer) → IsLegalList st log → Does st log e d → after st (log ++ e ∷ []) ≡ d.0
after_push st log (Made x) d l h = (longer st log x d l h).end_is
after_push st log (Used u) d l h = after_used st log u ∙ ap (λ (x : State × Answer). x.0) (some_is _ _ h)

-- it leads to a state that the machine reaches
pub reached_after : (n : Name) (log : List Entry) → are_distinct (linked_values n.links) ≡ true → IsLegalList (start n) log → IsReached (after (start n) log)
reached_after n log distinct l = reached_by (events_of log) (start n) (after (start n) log) (answers_of (moments (start n) log)) (opening_reached n.slots n.links distinct) (as_legal (start n) log l)

-- what holds of a slot's call that takes its number: it has none, or reads the heads for a full batch
pub taken_either : (P : Option Progress → Type 0) (size slots : ℕ) (batch : List ℕ) → P None → P (Some (record { place = Mark 0 slots []; queue = [] })) → P (taken_call size slots batch)
taken_either P size slots batch none full = go (nat_le (max 1 size) (length batch))
  where
    go : (b : Bool) → P (if b then Some (record { place = Mark 0 slots []; queue = [] }) else None)
    go true = full
    go false = none

-- a legal list is legal without its last entry
pub legal_front : (st : State) (log : List Entry) (e : Entry) → IsLegalList st (log ++ e ∷ []) → IsLegalList st log
legal_front st log (Made x) l =
    (taken_apart st (after st (log ++ Made x ∷ [])) (events_of log) (timed_deed x ∷ []) (answers_of (moments st (log ++ Made x ∷ [])))
    (subst (λ (ts : List Timed). Legal next st ts (answers_of (moments st (log ++ Made x ∷ []))) (after st (log ++ Made x ∷ []))) (events_push log x) (as_legal st (log ++ Made x ∷ []) l))).1.legal
legal_front st log (Used u) l = subst (λ (ds : List Deed). are_legal (history next st (map timed_deed ds)) ≡ true) (deeds_used log u) l

answered_any : (st : State) (log : List Entry) (e : Entry) → with_answers st (log ++ e ∷ []) ≡ with_answers st log ++ (e, (or_illegal (after st log) (outcome (after st log) e)).1) ∷ []
answered_any st [] e = refl
answered_any st (Made x ∷ log) e = ap (λ (more : List (Entry × Answer)). (Made x, (done_by next st (timed_deed x)).1) ∷ more) (answered_any (done_by next st (timed_deed x)).0 log e)
answered_any st (Used u ∷ log) e = ap (λ (more : List (Entry × Answer)). (Used u, Done) ∷ more) (answered_any st log e)

answered_push : (st : State) (log : List Entry) (e : Entry) (d : State × Answer) → Does st log e d → with_answers st (log ++ e ∷ []) ≡ with_answers st log ++ (e, d.1) ∷ []
answered_push st log e d h = answered_any st log e ∙ ap (λ o. with_answers st log ++ (e, (or_illegal (after st log) o).1) ∷ []) h

filter_out : {X : Type 0} (test : X → Bool) (xs : List X) (x : X) → test x ≡ false → filter test (xs ++ x ∷ []) ≡ filter test xs
filter_out test xs x h = filter-append test xs (x ∷ []) ∙ ap (λ (b : Bool). filter test xs ++ cond b (x ∷ []) []) h ∙ append-nil (filter test xs)

filter_in : {X : Type 0} (test : X → Bool) (xs : List X) (x : X) → test x ≡ true → filter test (xs ++ x ∷ []) ≡ filter test xs ++ x ∷ []
filter_in test xs x h = filter-append test xs (x ∷ []) ∙ ap (λ (b : Bool). filter test xs ++ cond b (x ∷ []) []) h

-- an event that does not pass the test, and one that does
pub selected_out : (test : Entry × Answer → Bool) (st : State) (log : List Entry) (e : Entry) (d : State × Answer) → Does st log e d → test (e, d.1) ≡ false
    → filter test (with_answers st (log ++ e ∷ [])) ≡ filter test (with_answers st log)
selected_out test st log e d h out = ap (filter test) (answered_push st log e d h) ∙ filter_out test (with_answers st log) (e, d.1) out

pub selected_in : (test : Entry × Answer → Bool) (st : State) (log : List Entry) (e : Entry) (d : State × Answer) → Does st log e d → test (e, d.1) ≡ true
    → filter test (with_answers st (log ++ e ∷ [])) ≡ filter test (with_answers st log) ++ (e, d.1) ∷ []
selected_in test st log e d h is = ap (filter test) (answered_push st log e d h) ∙ filter_in test (with_answers st log) (e, d.1) is

-- a list that goes on
answered_append : (st : State) (a b : List Entry) → with_answers st (a ++ b) ≡ with_answers st a ++ with_answers (after st a) b
answered_append st [] b = refl
answered_append st (Made x ∷ a) b = ap (λ (more : List (Entry × Answer)). (Made x, (done_by next st (timed_deed x)).1) ∷ more) (answered_append (done_by next st (timed_deed x)).0 a b)
answered_append st (Used u ∷ a) b = ap (λ (more : List (Entry × Answer)). (Used u, Done) ∷ more) (answered_append st a b)

mine_append : (st : State) (p : ℕ) (a b : List Entry) → mine st p (a ++ b) ≡ mine st p a ++ mine (after st a) p b
mine_append st p a b = ap (filter (λ t. maker t.0 == p)) (answered_append st a b) ∙ filter-append (λ t. maker t.0 == p) (with_answers st a) (with_answers (after st a) b)

no_front : {X : Type 0} (xs ys : List X) → xs ++ ys ≡ [] → xs ≡ []
no_front [] ys e = refl
no_front (x ∷ xs) ys e = absurd (cons≢nil e)

-- where nothing was made with a pass between the shortest and the longest of three beginnings, nothing was up to the one between
pub between : (st : State) (p : ℕ) (a b c : List Entry) → IsPrefix a b → IsPrefix b c → mine st p a ≡ mine st p c → mine st p b ≡ mine st p a
between st p a b c h k e =
    let x = mine (after st a) p h.0 in let y = mine (after st b) p k.0 in
    let more : mine st p b ≡ mine st p a ++ x = ap (mine st p) (sym h.1) ∙ mine_append st p a h.0 in
    let all : mine st p c ≡ mine st p a ++ (x ++ y) =
    ap (mine st p) (sym k.1) ∙ mine_append st p b k.0 ∙ ap (λ (l : List (Entry × Answer)). l ++ y) more ∙ append_assoc (mine st p a) x y in
    let none : x ≡ [] = no_front x y (append_cancel_left (mine st p a) (x ++ y) [] (sym all ∙ sym e ∙ sym (append-nil (mine st p a)))) in
    more ∙ ap (λ (l : List (Entry × Answer)). mine st p a ++ l) none ∙ append-nil (mine st p a)

-- Equality of numbers as a test.

pub equal : (x y : ℕ) → x ≡ y → (x == y) ≡ true
equal x y e = grind arith

pub unequal : (x y : ℕ) → x ≢ y → (x == y) ≡ false
unequal x y n = grind arith
