-- The moments of a legal list. Each is a step of the machine, begins where the one before ended, and leaves each link as it was or won an
-- exchange of it. So what each of them carries on from the state before it to the state after it holds of each later state.
use Rattle.std.proofs.Common.{◌≡◌, ℕ, zero, suc, ◌≤◌, ◌==◌, Bool, true, false, List, [], ◌∷◌, ◌++◌, length, slice_get, option_to_list, Option, Some, None, ◌⊎◌, inl, inr, refl, sym, ◌≢◌, ◌∙◌, ap, subst, arith}
use Rattle.std.proofs.lemmas.List.{get_or-set_other, get_or-set_same}
use mathlib.Core.List.{IsPrefix}
use Rattle.seize_machine.specs.Machine.State.{State, has, link_at}
use Rattle.seize_machine.specs.Machine.Event.{Event}
use Rattle.seize_machine.specs.Machine.History.{Moment, Timed, done_by, end_of, history}
use Rattle.seize_machine.specs.Machine.Frames.{changes_link}
use Rattle.seize_machine.specs.Machine.Next.{is_stored, new_link, next}
use Rattle.seize_machine.specs.declared.machine.event.Answer.{Answer}
use Rattle.seize_machine.specs.declared.machine.event.Exchange.{Exchange}
use Rattle.seize_machine.specs.declared.machine.event.Answer.TheVariants.{Link}
use Rattle.seize_machine.proofs.Facts.{Step, and_true, eq_true, link_frame, lt_true, some_is, step_of, swapped}
use Rattle.seize_book.specs.Book.{IsLegalList, after, moments}
use Rattle.seize_book.specs.Entry.{Entry, Made, Used, timed_deed}
use Rattle.seize_book.proofs.Facts.{has_last}
use Rattle.seize_book.proofs.Lives.{legal_first}
use Rattle.seize_parts.specs.Rules.{IsWon}

-- **Each moment of a legal list is a step.**
pub is_step : (st : State) (log : List Entry) (e : ℕ) (m : Moment) → IsLegalList st log → slice_get (moments st log) e ≡ Some m → Step m.timed.size m.before m.timed.event (m.after, m.answer)
is_step st [] e m legal is = absurd (cc)
is_step st (Used u ∷ log) e m legal is = is_step st log e m legal is
is_step st (Made d ∷ log) zero m legal is =
    let w = legal_first st d log legal in
    subst (λ (n : Moment). Step n.timed.size n.before n.timed.event (n.after, n.answer)) (some_is _ _ is) (subst (Step d.size st d.event) (sym w.2) (step_of _ _ _ _ w.1))
is_step st (Made d ∷ log) (suc e) m legal is =
    let w = legal_first st d log legal in
    is_step (done_by next st (timed_deed d)).0 log e m (subst (λ (x : State × Answer). IsLegalList x.0 log) (sym w.2) w.3) is

-- A list that goes on has no fewer moments, and those that it had still.

longer : (st : State) (a b : List Entry) → length (moments st a) ≤ length (moments st (a ++ b))
longer st [] b = omega arith
longer st (Used u ∷ a) b = longer st a b
longer st (Made d ∷ a) b = let more = longer (done_by next st (timed_deed d)).0 a b in omega (arith, more)

still : (st : State) (a b : List Entry) (e : ℕ) (m : Moment) → slice_get (moments st a) e ≡ Some m → slice_get (moments st (a ++ b)) e ≡ Some m
still st [] b e m is = absurd (cc)
still st (Used u ∷ a) b e m is = still st a b e m is
still st (Made d ∷ a) b zero m is = is
still st (Made d ∷ a) b (suc e) m is = still (done_by next st (timed_deed d)).0 a b e m is

pub no_fewer : (st : State) (a b : List Entry) → IsPrefix a b → length (moments st a) ≤ length (moments st b)
no_fewer st a b grows = subst (λ (log : List Entry). length (moments st a) ≤ length (moments st log)) grows.1 (longer st a grows.0)

pub moment_still : (st : State) (a b : List Entry) (e : ℕ) (m : Moment) → IsPrefix a b → slice_get (moments st a) e ≡ Some m → slice_get (moments st b) e ≡ Some m
moment_still st a b e m grows is = subst (λ (log : List Entry). slice_get (moments st log) e ≡ Some m) grows.1 (still st a grows.0 e m is)

-- The state before moment e, or the last one where there is no such moment.

abbrev pub state_before : State → List Moment → ℕ → State
state_before st ms zero = st
state_before st [] (suc e) = st
state_before st (m ∷ ms) (suc e) = state_before m.after ms e

pub before_is : (st : State) (ts : List Timed) (e : ℕ) (m : Moment) → slice_get (history next st ts) e ≡ Some m → state_before st (history next st ts) e ≡ m.before
before_is st [] e m is = absurd (cc)
before_is st (t ∷ ts) zero m is = ap (λ (n : Moment). n.before) (some_is _ _ is)
before_is st (t ∷ ts) (suc e) m is = before_is (done_by next st t).0 ts e m is

pub after_is : (st : State) (ts : List Timed) (e : ℕ) (m : Moment) → slice_get (history next st ts) e ≡ Some m → state_before st (history next st ts) (suc e) ≡ m.after
after_is st [] e m is = absurd (cc)
after_is st (t ∷ ts) zero m is = ap (λ (n : Moment). n.after) (some_is _ _ is)
after_is st (t ∷ ts) (suc e) m is = after_is (done_by next st t).0 ts e m is

pub goes_on : (st : State) (ts : List Timed) (e : ℕ) (m n : Moment) → slice_get (history next st ts) e ≡ Some m → slice_get (history next st ts) (suc e) ≡ Some n → n.before ≡ m.after
goes_on st ts e m n one two = sym (before_is st ts (suc e) n two) ∙ after_is st ts e m one

pub end_is : (st : State) (ms : List Moment) → state_before st ms (length ms) ≡ end_of st ms
end_is st [] = refl
end_is st (m ∷ ms) = end_is m.after ms

front : (st : State) (a b : List Entry) → state_before st (moments st (a ++ b)) (length (moments st a)) ≡ after st a
front st [] b = refl
front st (Used u ∷ a) b = front st a b
front st (Made d ∷ a) b = front (done_by next st (timed_deed d)).0 a b

pub front_is : (st : State) (a b : List Entry) → IsPrefix a b → state_before st (moments st b) (length (moments st a)) ≡ after st a
front_is st a b grows = subst (λ (log : List Entry). state_before st (moments st log) (length (moments st a)) ≡ after st a) grows.1 (front st a grows.0)

pub within : (ms : List Moment) (e : ℕ) (m : Moment) → slice_get ms e ≡ Some m → suc e ≤ length ms
within [] e m is = absurd (cc)
within (n ∷ ms) zero m is = omega arith
within (n ∷ ms) (suc e) m is = let more = within ms e m is in omega (arith, more)

-- **What each moment from e on carries on holds before each later one, if it did before e.**
module _ (P : State → Type 0) where
  abbrev pub AllCarry : ℕ → List Moment → Type 0
  AllCarry e ms = (f : ℕ) (m : Moment) → e ≤ f → slice_get ms f ≡ Some m → P m.before → P m.after

  pub carried : (st : State) (ts : List Timed) (e f : ℕ) → AllCarry e (history next st ts) → e ≤ f → P (state_before st (history next st ts) e) → P (state_before st (history next st ts) f)
  carried st ts zero zero all le p = p
  carried st ts (suc e) zero all le p = absurd (omega (arith, le))
  carried st [] zero (suc f) all le p = p
  carried st [] (suc e) (suc f) all le p = p
  carried st (t ∷ ts) zero (suc f) all le p =
      let m : Moment = record { before = st; timed = t; answer = (done_by next st t).1; after = (done_by next st t).0 } in
      carried m.after ts zero f (λ g n more is. all (suc g) n (omega arith) is) (omega arith) (all zero m (omega arith) refl p)
  carried st (t ∷ ts) (suc e) (suc f) all le p =
      carried (done_by next st t).0 ts e f (λ g n more is. all (suc g) n (omega (arith, more)) is) (omega (arith, le)) p

-- What a moment does to a link.

abbrev Wins : ℕ → State → Event → Type 0
Wins l st event = (s : ℕ) × (x : Exchange) × (event ≡ Event.ExchangeLink s l x) × (is_stored (link_at st l) x ≡ true)

at_link : (l k s : ℕ) (x : Exchange) (st st' : State) → is_stored (link_at st k) x ≡ true → (changes_link l (Event.ExchangeLink s k x) ≡ false → link_at st' l ≡ link_at st l)
    → (b : Bool) → (k == l) ≡ b → Wins l st (Event.ExchangeLink s k x) ⊎ (link_at st' l ≡ link_at st l)
at_link l k s x st st' won other true is =
    let same : k ≡ l = eq_true k l is in
    inl (s, x, ap (λ (j : ℕ). Event.ExchangeLink s j x) same, subst (λ (j : ℕ). is_stored (link_at st j) x ≡ true) same won)
at_link l k s x st st' won other false is = inr (other is)

by_step : (l size : ℕ) (st : State) (event : Event) (d : State × Answer) → Step size st event d → Wins l st event ⊎ (link_at d.0 l ≡ link_at st l)
by_step l size st _ _ (Step.exchanged s k x new can fresh exact) =
    at_link l k s x st (swapped st k new) exact.1 (link_frame l size st (Event.ExchangeLink s k x) (swapped st k new, Link (link_at st k)) (Step.exchanged s k x new can fresh exact)) (k == l) refl
by_step l size st _ _ (Step.compared s k x can exact) = inr refl
by_step l size st event d step = inr (link_frame l size st event d step refl)

-- **It leaves the link as it was, or won an exchange of it.**
pub won_or_same : (st : State) (log : List Entry) (e l : ℕ) (m : Moment) → IsLegalList st log → slice_get (moments st log) e ≡ Some m → IsWon l m ⊎ (link_at m.after l ≡ link_at m.before l)
won_or_same st log e l m legal is = by_step l m.timed.size m.before m.timed.event (m.after, m.answer) (is_step st log e m legal is)

-- An exchange leaves the other links as they were.
pub others_stay : (s l size : ℕ) (x : Exchange) (st : State) (d : State × Answer) → Step size st (Event.ExchangeLink s l x) d → (k : ℕ) → k ≢ l → link_at d.0 k ≡ link_at st k
others_stay s l size x st _ (Step.exchanged _ _ _ new can fresh exact) k other = get_or-set_other st.links l k new None other
others_stay s l size x st _ (Step.compared _ _ _ can lost) k other = refl

-- A won exchange puts the new value there, which is named then.
pub won_puts : (s l size : ℕ) (x : Exchange) (st : State) (d : State × Answer) → Step size st (Event.ExchangeLink s l x) d → is_stored (link_at st l) x ≡ true
    → (link_at d.0 l ≡ new_link x) × ((v : ℕ) → new_link x ≡ Some v → has v (d.0).named ≡ true)
won_puts s l size x st _ (Step.exchanged _ _ _ new can fresh exact) won = (
  get_or-set_same st.links l new None (lt_true l (length st.links) (and_true _ _ can).1) ∙ exact.0,
  λ v is. subst (λ (o : Option ℕ). has v (st.named ++ option_to_list o) ≡ true) (sym (exact.0 ∙ is)) (has_last v st.named),
)
won_puts s l size x st _ (Step.compared _ _ _ can lost) won = absurd (let no : false ≡ true = sym lost.1 ∙ won in cc)
