-- How legal lists are made and taken apart, and what a law of their moments is shown by.
use Rattle.std.proofs.Common.{◌≡◌, ℕ, zero, suc, Bool, true, ◌&&◌, List, [], ◌∷◌, ◌++◌, length, take, drop, Option, Some, None, refl, sym, ◌∙◌, ap, subst, arith}
use Rattle.std.specs.List.{list_all, slice_get}
use Rattle.std.proofs.lemmas.List.{map-append}
use Rattle.std.proofs.lemmas.List.Folds.{list_all-append}
use Rattle.seize_machine.specs.Machine.State.{State, linked_values, are_distinct, opening}
use Rattle.seize_machine.specs.Machine.Next.{Outcome, Transition, next}
use Rattle.seize_machine.specs.Machine.History.{Timed, Moment, or_illegal, done_by, history, answers_of, end_of, is_legal, are_legal, Legal}
use Rattle.seize_machine.specs.Machine.Laws.{HoldsOfAll}
use Rattle.seize_machine.specs.Machine.Event.{Event}
use Rattle.seize_machine.specs.declared.machine.event.Answer.{Answer}
use Rattle.seize_machine.proofs.Steps.Relation.{Step, step_of, some_is, and_true}
use Rattle.seize_machine.proofs.Lists.Histories.{run, run_is, moment_of}

-- a history that goes on
pub end_of-append : (ms more : List Moment) (st : State) → end_of st (ms ++ more) ≡ end_of (end_of st ms) more
end_of-append [] more st = refl
end_of-append (m ∷ ms) more st = end_of-append ms more m.after

pub history-append : (transition : Transition) (ts more : List Timed) (st : State)
    → history transition st (ts ++ more) ≡ history transition st ts ++ history transition (end_of st (history transition st ts)) more
history-append transition [] more st = refl
history-append transition (t ∷ ts) more st =
    let d : State × Answer = done_by transition st t in
    ap (λ (ms : List Moment). moment_of st t d ∷ ms) (history-append transition ts more d.0)

pub length-answers : (transition : Transition) (ts : List Timed) (st : State) → length (answers_of (history transition st ts)) ≡ length ts
length-answers transition [] st = refl
length-answers transition (t ∷ ts) st = omega (arith, length-answers transition ts (done_by transition st t).0)

both_true : (a b : Bool) → a ≡ true → b ≡ true → (a && b) ≡ true
both_true a b h k = rw h k

pub no_event : (st : State) → Legal next st [] [] st
no_event st = record { legal = refl; answers_are = refl; end_is = refl }

pub joined : (st now later : State) (events more : List Timed) (answers told : List Answer)
    → Legal next st events answers now → Legal next now more told later → Legal next st (events ++ more) (answers ++ told) later
joined st now later events more answers told a b =
    let all : history next st (events ++ more) ≡ history next st events ++ history next now more =
    history-append next events more st ∙ ap (λ (now : State). history next st events ++ history next now more) a.end_is in
    record {
      legal = ap are_legal all ∙ list_all-append _ (history next st events) (history next now more) ∙ both_true _ _ a.legal b.legal;
      answers_are =
          ap answers_of all ∙ map-append _ (history next st events) (history next now more)
          ∙ ap (λ (told : List Answer). answers_of (history next st events) ++ told) b.answers_are ∙ ap (λ (answers : List Answer). answers ++ told) a.answers_are;
      end_is =
          ap (end_of st) all ∙ end_of-append (history next st events) (history next now more) st
          ∙ ap (λ (now2 : State). end_of now2 (history next now more)) a.end_is ∙ b.end_is;
    }

-- no legal event is answered as an illegal one
pub legal_answer : (size : ℕ) (st : State) (event : Event) (d : State × Answer) → Step size st event d → is_legal d.1 ≡ true
legal_answer size st event _ (Step.added s b won queue d e h) = subst (λ (d : State × Answer). is_legal d.1 ≡ true) (some_is _ _ h) refl
legal_answer size st event _ (Step.subtracted s b walk queue d e h) = subst (λ (d : State × Answer). is_legal d.1 ≡ true) (some_is _ _ h) refl
legal_answer size st event _ _ = refl

pub one_event : (now later : State) (t : Timed) (answer : Answer) → next t.size now t.event ≡ Some (later, answer) → Legal next now (t ∷ []) (answer ∷ []) later
one_event now later t answer e =
    record {
      legal = ap (λ (o : Outcome). is_legal (or_illegal now o).1 && true) e ∙ both_true _ _ (legal_answer t.size now t.event (later, answer) (step_of t.size now t.event (later, answer) e)) refl;
      answers_are = ap (λ (o : Outcome). (or_illegal now o).1 ∷ []) e;
      end_is = ap (λ (o : Outcome). (or_illegal now o).0) e;
    }

pub one_more : (st now later : State) (events : List Timed) (answers : List Answer) (t : Timed) (answer : Answer)
    → Legal next st events answers now → next t.size now t.event ≡ Some (later, answer)
    → Legal next st (events ++ t ∷ []) (answers ++ answer ∷ []) later
one_more st now later events answers t answer legal e = joined st now later events (t ∷ []) answers (answer ∷ []) legal (one_event now later t answer e)

take_all : {X : Type 0} (xs ys : List X) (n : ℕ) → length xs ≡ n → take n (xs ++ ys) ≡ xs
take_all [] ys n e = rw (← e) refl
take_all (x ∷ xs) ys zero e = absurd (omega arith)
take_all (x ∷ xs) ys (suc n) e = ap (λ (l : List _). x ∷ l) (take_all xs ys n (omega arith))

drop_all : {X : Type 0} (xs ys : List X) (n : ℕ) → length xs ≡ n → drop n (xs ++ ys) ≡ ys
drop_all [] ys n e = rw (← e) refl
drop_all (x ∷ xs) ys zero e = absurd (omega arith)
drop_all (x ∷ xs) ys (suc n) e = drop_all xs ys n (omega arith)

pub taken_apart : (st later : State) (events more : List Timed) (answers : List Answer) → Legal next st (events ++ more) answers later
    → (now : State) × Legal next st events (take (length events) answers) now × Legal next now more (drop (length events) answers) later
taken_apart st later events more answers l = (
  now,
  record { legal = both.0; answers_are = sym (ap (take (length events)) split ∙ take_all first last (length events) same); end_is = refl },
  record {
    legal = both.1;
    answers_are = sym (ap (drop (length events)) split ∙ drop_all first last (length events) same);
    end_is = sym (end_of-append (history next st events) (history next now more) st) ∙ ap (end_of st) (sym all) ∙ l.end_is;
  },
)
  where
    now : State
    now = end_of st (history next st events)

    all : history next st (events ++ more) ≡ history next st events ++ history next now more
    all = history-append next events more st

    first : List Answer
    first = answers_of (history next st events)

    last : List Answer
    last = answers_of (history next now more)

    same : length first ≡ length events
    same = length-answers next events st

    split : answers ≡ first ++ last
    split = sym l.answers_are ∙ ap answers_of all ∙ map-append _ (history next st events) (history next now more)

    both : (are_legal (history next st events) ≡ true) × (are_legal (history next now more) ≡ true)
    both = and_true _ _ (sym (list_all-append _ (history next st events) (history next now more)) ∙ ap are_legal (sym all) ∙ l.legal)

-- a legal list from its first event on
abbrev pub First : State → Timed → List Timed → List Answer → State → Type 0
First st t more answers later =
    (now : State) × (answer : Answer) × (rest : List Answer)
    × (answers ≡ answer ∷ rest) × (next t.size st t.event ≡ Some (now, answer)) × Legal next now more rest later

pub first_event : (st later : State) (t : Timed) (more : List Timed) (answers : List Answer) → Legal next st (t ∷ more) answers later → First st t more answers later
first_event st later t more answers l = go (next t.size st t.event) refl l.legal l.answers_are l.end_is
  where
    go : (o : Outcome) → next t.size st t.event ≡ o
        → (is_legal (or_illegal st o).1 && are_legal (history next (or_illegal st o).0 more)) ≡ true
        → (or_illegal st o).1 ∷ answers_of (history next (or_illegal st o).0 more) ≡ answers
        → end_of (or_illegal st o).0 (history next (or_illegal st o).0 more) ≡ later → First st t more answers later
    go None e h a k = absurd (cc)
    go (Some d) e h a k =
        (d.0, d.1, answers_of (history next d.0 more), sym a, e, record { legal = (and_true _ _ h).1; answers_are = refl; end_is = k })

-- legal answers
pub are_legal-answers : (ms : List Moment) → are_legal ms ≡ list_all is_legal (answers_of ms)
are_legal-answers [] = refl
are_legal-answers (m ∷ ms) = ap (λ (b : Bool). is_legal m.answer && b) (are_legal-answers ms)

-- a law holds of all legal lists that holds of the moments before the first illegal event
pub of_all : (law : State → List Moment → Type 0)
    → ((slots : ℕ) (links : List (Option ℕ)) (ts : List Timed) → are_distinct (linked_values links) ≡ true → law (opening slots links) (run (opening slots links) ts)) → HoldsOfAll law
of_all law holds slots links events answers end distinct legal =
    subst (law (opening slots links)) (sym (run_is events (opening slots links) legal.legal)) (holds slots links events distinct)

-- the same events have the same answers and the same end
pub legal_unique : (st now later : State) (events : List Timed) (answers told : List Answer) → Legal next st events answers now → Legal next st events told later → (answers ≡ told) × (now ≡ later)
legal_unique st now later events answers told a b = (sym a.answers_are ∙ b.answers_are, sym a.end_is ∙ b.end_is)

-- an event of a legal list stands among its moments
pub moment_of_event : (st now after : State) (events more : List Timed) (answers : List Answer) (t : Timed) (answer : Answer) → Legal next st events answers now → next t.size now t.event ≡ Some (after, answer)
    → slice_get (history next st (events ++ t ∷ more)) (length events) ≡ Some (moment_of now t (after, answer))
moment_of_event st now after events more answers t answer a e =
    ap (λ (ms : List Moment). slice_get ms (length events)) (history-append next events (t ∷ more) st)
    ∙ at_end (history next st events) (length events) (sym (length-moments events st))
    ∙ ap (λ (now : State). Some (moment_of now t (done_by next now t))) a.end_is
    ∙ ap (λ (o : Outcome). Some (moment_of now t (or_illegal now o))) e
  where
    tail : List Moment
    tail = history next (end_of st (history next st events)) (t ∷ more)

    length-moments : (ts : List Timed) (st : State) → length (history next st ts) ≡ length ts
    length-moments [] st = refl
    length-moments (t ∷ ts) st = omega (arith, length-moments ts (done_by next st t).0)

    at_end : (ms : List Moment) (n : ℕ) → n ≡ length ms → slice_get (ms ++ tail) n ≡ slice_get tail zero
    at_end [] n same = ap (slice_get tail) same
    at_end (m ∷ ms) zero same = absurd (omega arith)
    at_end (m ∷ ms) (suc n) same = at_end ms n (omega arith)
