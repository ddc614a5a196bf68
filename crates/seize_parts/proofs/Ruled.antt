-- The rule of links in what a pass has seen: how it is drawn from permits for pairs, and what is drawn from it. What the rule carries on
-- from each content to those that may follow it holds of a link's content from then on.
use Rattle.std.proofs.Common.{◌≡◌, ℕ, suc, ◌<◌, ◌≤◌, true, List, ◌++◌, length, slice_get, Option, Some, None, ◌⊎◌, inl, inr, refl, sym, ap, subst, arith}
use base.Stored.{Coded, Gv}
use mathlib.Core.List.{IsPrefix}
use Rattle.seize_machine.specs.Machine.State.{State, has, link_at}
use Rattle.seize_machine.specs.Machine.Event.{Event}
use Rattle.seize_machine.specs.Machine.History.{Moment, Timed}
use Rattle.seize_machine.specs.Machine.Next.{new_link}
use Rattle.seize_machine.specs.declared.machine.event.Exchange.{Exchange}
use Rattle.seize_machine.proofs.Facts.{Step, named_grows}
use Rattle.seize_book.specs.Book.{IsLegalList, after, mine, moments}
use Rattle.seize_book.specs.Entry.{Entry, events_of}
use Rattle.seize_book.specs.Homesteads.{state_seen}
use Rattle.seize_book.specs.Loans.{AllCarryOne, CarriesOne, place_of}
use Rattle.seize_book.specs.Pairs.{AllKeep, content_number, pairs_in}
use Rattle.seize_book.specs.Tokens.{Name, start}
use Rattle.seize_book.specs.declared.book.pass.Pass.{Pass}
use Rattle.seize_book.proofs.Facts.{legal_prefix}
use Rattle.seize_book.proofs.Pairs.{meet_since}
use Rattle.seize_words.proofs.Facts.{same_content}
use Rattle.seize_parts.specs.Laws.{moments_seen, opening_of}
use Rattle.seize_parts.specs.Rules.{MayFollow, HoldsOf, IsWon, KeepsNumbers, KeepsSince, Says, number_if}
use Rattle.seize_parts.proofs.Moments.{AllCarry, after_is, before_is, carried, end_is, front_is, is_step, moment_still, no_fewer, state_before, within, won_or_same, won_puts}

-- A name says one content: `coded` is `T.row.coded`.
pub says_once : {T : Type 0} (coded : Coded T) (o : Option ℕ) (x y : Option T) → Says coded.code o x → Says coded.code o y → x ≡ y
says_once coded (Some v) (Some x) (Some y) one two = ap Option.Some (coded.inj x y (same_content v (place_of v) (place_of v) (coded.code x) (coded.code y) (refl, one) (refl, two)).1)
says_once coded (Some v) (Some x) None one two = absurd two
says_once coded (Some v) None y one two = absurd one
says_once coded None (Some x) y one two = absurd one
says_once coded None None (Some y) one two = absurd two
says_once coded None None None one two = refl

-- So what holds of its content holds of each that it is known to say.
pub holds_said : {T : Type 0} (coded : Coded T) (Q : Option T → Type 0) (o : Option ℕ) (x : Option T) → HoldsOf coded.code Q o → Says coded.code o x → Q x
holds_said coded Q o x holds says = subst Q (says_once coded o holds.0 x holds.1 says) holds.2

-- What came after all that a pass had seen came after each beginning of that.
pub since_seen : (from : List Entry) (pass pass' : Pass) (e : ℕ) → pass'.name ≡ pass.name → IsPrefix from pass.seen → length (moments_seen pass) ≤ e → length (moments (opening_of pass') from) ≤ e
since_seen from pass pass' e name grows since =
    let fewer = no_fewer (opening_of pass) from pass.seen grows in subst (λ (n : Name). length (moments (start n) from) ≤ e) (sym name) (omega (arith, fewer, since))

-- The number of the code that is lent with a name tells what it says.

pub number_said : {T : Type 0} (code : T → Gv) (o : Option ℕ) (x : Option T) → Says code o x → content_number o ≡ number_if code x
number_said code (Some v) (Some x) says = says
number_said code (Some v) None says = absurd says
number_said code None (Some x) says = absurd says
number_said code None None says = refl

said_by : {T : Type 0} (code : T → Gv) (o : Option ℕ) (x : Option T) → ((v : ℕ) → o ≡ Some v → CarriesOne v) → content_number o ≡ number_if code x → Says code o x
said_by code (Some v) (Some x) lent is = is
said_by code (Some v) None lent is = absurd (lent v refl is)
said_by code None (Some x) lent is = absurd (omega (arith, is))
said_by code None None lent is = tt

-- what a won exchange put into a link is named still where the list ends
named_still : (st : State) (log : List Entry) (e v : ℕ) (m : Moment) → IsLegalList st log → slice_get (moments st log) e ≡ Some m → has v m.after.named ≡ true → has v (after st log).named ≡ true
named_still st log e v m legal is named =
    let ms : List Moment = moments st log in let Is : State → Type 0 = λ s. has v s.named ≡ true in
    let all : AllCarry Is (suc e) ms = λ f n later there. named_grows v n.timed.size n.before n.timed.event (n.after, n.answer) (is_step st log f n legal there) in
    subst Is (end_is st ms) (carried Is st (events_of log) (suc e) (length ms) all (within ms e m is) (subst Is (sym (after_is st (events_of log) e m is)) named))

module _ {T : Type 0} (code : T → Gv) (keeps : ℕ → Option T → Option T → Type 0) where
  abbrev IsRuled : State → List Entry → List Entry → Type 0
  IsRuled st from log =
      mine st 0 log ≡ mine st 0 from → IsLegalList st log → AllCarryOne (after st log).named → AllKeep (KeepsNumbers code keeps) (pairs_in st log)
      → (e : ℕ) (m : Moment) (l : ℕ) → length (moments st from) ≤ e → slice_get (moments st log) e ≡ Some m → IsWon l m → MayFollow code keeps l m.before m.after

  ruled : (st : State) (from more : List Entry) → IsRuled st from (from ++ more)
  ruled st from more none legal lent all e m l since is won x says =
      let log : List Entry = from ++ more in let exchange : Exchange = won.1 in
      let step : Step m.timed.size m.before (Event.ExchangeLink won.0 l exchange) (m.after, m.answer) =
      subst (λ (event : Event). Step m.timed.size m.before event (m.after, m.answer)) won.2 (is_step st log e m legal is) in
      let puts = won_puts won.0 l m.timed.size exchange m.before (m.after, m.answer) step won.3 in
      let y = meet_since (KeepsNumbers code keeps) st from more none all e m since is won.0 l exchange won.2 won.3 x (number_said code (link_at m.before l) x says) in
      let carries : (v : ℕ) → new_link exchange ≡ Some v → CarriesOne v = λ v new. lent v (named_still st log e v m legal is (puts.1 v new)) in
      (y.0, subst (λ (o : Option ℕ). Says code o y.0) (sym puts.0) (said_by code (new_link exchange) y.0 carries y.1), y.2)

  -- **Where the first pass made nothing since, and each pair meets the rule, each exchange that was won since does.**
  pub kept_since : (from : List Entry) (pass : Pass) → IsPrefix from pass.seen → mine (opening_of pass) 0 pass.seen ≡ mine (opening_of pass) 0 from
      → IsLegalList (opening_of pass) pass.seen → AllCarryOne (state_seen pass).named → AllKeep (KeepsNumbers code keeps) (pairs_in (opening_of pass) pass.seen) → KeepsSince code keeps from pass
  kept_since from pass grows none legal lent all =
      record { legal = legal; goes_on = grows; follows = subst (IsRuled (opening_of pass) from) grows.1 (ruled (opening_of pass) from grows.0) none legal lent all }

-- **What is drawn from the rule.**
module _ {T : Type 0} {code : T → Gv} {keeps : ℕ → Option T → Option T → Type 0} {from : List Entry} {pass : Pass} (kept : KeepsSince code keeps from pass) where
  abbrev st : State
  st = opening_of pass

  abbrev ts : List Timed
  ts = events_of pass.seen

  abbrev ms : List Moment
  ms = moments_seen pass

  abbrev begin : ℕ
  begin = length (moments st from)

  -- it holds from a later beginning, and up to an earlier end
  pub kept_within : (from' : List Entry) (pass' : Pass) → pass'.name ≡ pass.name → IsPrefix from from' → IsPrefix from' pass'.seen → IsPrefix pass'.seen pass.seen → KeepsSince code keeps from' pass'
  kept_within from' pass' name later within_ earlier = record {
    legal = subst (λ (n : Name). IsLegalList (start n) pass'.seen) (sym name) (legal_prefix st pass'.seen pass.seen earlier kept.legal);
    goes_on = within_;
    follows = λ e m l since is won.
        let since' : length (moments st from') ≤ e = subst (λ (n : Name). length (moments (start n) from') ≤ e) name since in
        let is' : slice_get (moments st pass'.seen) e ≡ Some m = subst (λ (n : Name). slice_get (moments (start n) pass'.seen) e ≡ Some m) name is in
        let more = no_fewer st from from' later in
        kept.follows e m l (omega (arith, more, since')) (moment_still st pass'.seen pass.seen e m earlier is') won;
  }

  -- What the rule carries on of the content of a link holds of it from then on: after a moment, before each later one, and at the end.
  module _ (l : ℕ) (Q : Option T → Type 0) (carries : (x y : Option T) → Q x → keeps l x y → Q y) where
    abbrev Holds : State → Type 0
    Holds now = HoldsOf code Q (link_at now l)

    pub held_through : (e : ℕ) (m : Moment) → begin ≤ e → slice_get ms e ≡ Some m → Holds m.before → Holds m.after
    held_through e m since is holds = go (won_or_same st pass.seen e l m kept.legal is)
      where
        go : IsWon l m ⊎ (link_at m.after l ≡ link_at m.before l) → HoldsOf code Q (link_at m.after l)
        go (inl won) = let then_ = kept.follows e m l since is won holds.0 holds.1 in (then_.0, then_.1, carries holds.0 then_.0 holds.2 then_.2)
        go (inr same) = subst (HoldsOf code Q) (sym same) holds

    onwards : (e f : ℕ) → begin ≤ e → e ≤ f → Holds (state_before st ms e) → Holds (state_before st ms f)
    onwards e f since le holds = carried Holds st ts e f (λ g m more is. held_through g m (omega (arith, since, more)) is) le holds

    pub held_between : (e f : ℕ) (m n : Moment) → begin ≤ e → e ≤ f → slice_get ms e ≡ Some m → slice_get ms f ≡ Some n → Holds m.before → Holds n.before
    held_between e f m n since le one two holds =
        subst Holds (before_is st ts f n two) (onwards e f since le (subst Holds (sym (before_is st ts e m one)) holds))

    pub held_after : (e f : ℕ) (m n : Moment) → begin ≤ e → e < f → slice_get ms e ≡ Some m → slice_get ms f ≡ Some n → Holds m.after → Holds n.before
    held_after e f m n since less one two holds =
        subst Holds (before_is st ts f n two) (onwards (suc e) f (omega (arith, since)) (omega (arith, less)) (subst Holds (sym (after_is st ts e m one)) holds))

    pub held_at_last : (e : ℕ) (m : Moment) → begin ≤ e → slice_get ms e ≡ Some m → Holds m.after → Holds (state_seen pass)
    held_at_last e m since is holds =
        subst Holds (end_is st ms) (onwards (suc e) (length ms) (omega (arith, since)) (within ms e m is) (subst Holds (sym (after_is st ts e m is)) holds))

    -- and from the beginning
    pub held_from : (f : ℕ) (n : Moment) → begin ≤ f → slice_get ms f ≡ Some n → Holds (after st from) → Holds n.before
    held_from f n since is holds =
        subst Holds (before_is st ts f n is) (onwards begin f (omega arith) since (subst Holds (sym (front_is st from pass.seen kept.goes_on)) holds))

    pub held_throughout : Holds (after st from) → Holds (state_seen pass)
    held_throughout holds =
        subst Holds (end_is st ms) (onwards begin (length ms) (omega arith) (no_fewer st from pass.seen kept.goes_on) (subst Holds (sym (front_is st from pass.seen kept.goes_on)) holds))

  -- Where the rule lets each content follow itself, and what may follow one that may follow, a link's content follows each earlier one.
  pub follows_between : (l : ℕ) → ((x : Option T) → keeps l x x) → ((x y z : Option T) → keeps l x y → keeps l y z → keeps l x z) → (e f : ℕ) (m n : Moment)
      → begin ≤ e → e ≤ f → slice_get ms e ≡ Some m → slice_get ms f ≡ Some n → MayFollow code keeps l m.before n.before
  follows_between l itself on e f m n since le one two x says = held_between l (keeps l x) (on x) e f m n since le one two (x, says, itself x)
