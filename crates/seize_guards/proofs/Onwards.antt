-- Reads and won exchanges of links among the moments that a pass has seen, and what the rule of links carries on from them.
use Rattle.std.proofs.Common.{◌≡◌, ◌≢◌, ℕ, ◌≤◌, true, List, length, slice_get, Option, Some, None, [], inl, inr, refl, sym, ap, subst, ◌∙◌, append-nil, arith}
use Rattle.std.proofs.lemmas.Option.{slice_get_within}
use base.Growing.{prefix_trans}
use base.Stored.{Coded, Gv}
use mathlib.Core.List.{IsPrefix}
use Rattle.seize_machine.specs.Machine.State.{State, link_at}
use Rattle.seize_machine.specs.Machine.Event.{Event, ExchangeLink, ReadLink}
use Rattle.seize_machine.specs.Machine.History.{Moment}
use Rattle.seize_machine.specs.Machine.Next.{is_stored, same_link}
use Rattle.seize_machine.specs.declared.machine.event.Answer.{Answer}
use Rattle.seize_machine.specs.declared.machine.event.Answer.TheVariants.{Link}
use Rattle.seize_machine.specs.declared.machine.event.Exchange.{Exchange}
use Rattle.seize_machine.specs.declared.machine.event.Exchange.TheVariants.{Compare}
use Rattle.seize_machine.proofs.Facts.{Step, eq_true}
use Rattle.seize_book.specs.Book.{after, moments}
use Rattle.seize_book.specs.Entry.{Entry}
use Rattle.seize_book.specs.Homesteads.{state_seen}
use Rattle.seize_book.specs.Tokens.{Name, start}
use Rattle.seize_book.specs.declared.book.pass.Pass.{Pass}
use Rattle.seize_parts.specs.Blocks.{IsNamed, content_of}
use Rattle.seize_parts.specs.Laws.{moments_seen}
use Rattle.seize_parts.specs.Makes.{Makes, MakesNone, MakesOne}
use Rattle.seize_parts.specs.Rules.{HoldsOf, KeepsSince, Says}
use Rattle.seize_parts.specs.declared.block.owned.Owned.{Owned}
use Rattle.seize_parts.proofs.Made.{makes_then}
use Rattle.seize_parts.proofs.Moments.{is_step, moment_still, no_fewer, others_stay, won_puts}
use Rattle.seize_parts.proofs.Ruled.{held_at_last, held_between, held_from, held_through, holds_said, kept_within, since_seen}
use Rattle.seize_parts.proofs.Stands.{made_since}
use Rattle.seize_guards.specs.Moments.{ExchangesOnly, LooksOnly, StandsSince}

-- A read answers what the link holds, and so does an exchange.

link_same : (o p : Option ℕ) → Link o ≡ Link p → o ≡ p
link_same o p is = cc

read_step : (size s l : ℕ) (st : State) (d : State × Answer) (held : Option ℕ) → Step size st (ReadLink s l) d → d.1 ≡ Link held → link_at st l ≡ held
read_step size s l st _ held (Step.read _ _ can) is = link_same (link_at st l) held is

exchange_step : (size s l : ℕ) (x : Exchange) (st : State) (d : State × Answer) (held : Option ℕ) → Step size st (ExchangeLink s l x) d → d.1 ≡ Link held → link_at st l ≡ held
exchange_step size s l x st _ held (Step.exchanged _ _ _ new can fresh stored) is = link_same (link_at st l) held is
exchange_step size s l x st _ held (Step.compared _ _ _ can lost) is = link_same (link_at st l) held is

same_linked : (o : Option ℕ) → same_link o o ≡ true
same_linked (Some v) = grind arith
same_linked None = refl

linked_same : (o p : Option ℕ) → same_link o p ≡ true → o ≡ p
linked_same (Some v) (Some w) is = ap Some (eq_true v w is)
linked_same None None is = refl
linked_same (Some v) None is = absurd (cc)
linked_same None (Some w) is = absurd (cc)

-- Neither a read nor a lost exchange changes anything.

read_keeps : (size s l : ℕ) (st : State) (d : State × Answer) → Step size st (ReadLink s l) d → d.0 ≡ st
read_keeps size s l st _ (Step.read _ _ can) = refl

lost_keeps : (size s l : ℕ) (x : Exchange) (st : State) (d : State × Answer) → Step size st (ExchangeLink s l x) d → ¬ (is_stored (link_at st l) x ≡ true) → d.0 ≡ st
lost_keeps size s l x st _ (Step.exchanged _ _ _ new can fresh stored) lost = absurd (lost stored.1)
lost_keeps size s l x st _ (Step.compared _ _ _ can differs) lost = refl

-- **A read that was made with a pass stands at a moment that it has seen since, before which the link holds what was read.**
pub read_there : (s l : ℕ) (held : Option ℕ) {p q : Pass} → MakesOne p q (ReadLink s l) (Link held) → (m : Moment) × StandsSince p q m × (link_at m.before l ≡ held) × LooksOnly s l m
read_there s l held {p} {q} makes =
    let there = made_since (ReadLink s l, Link held) makes (inl refl) in let m = there.2.0 in
    let step : Step m.timed.size m.before (ReadLink s l) (m.after, m.answer) =
    subst (λ (e : Event). Step m.timed.size m.before e (m.after, m.answer)) there.2.2 (is_step (start q.name) q.seen there.0 m makes.legal there.2.1) in
    let same : m.after ≡ m.before = read_keeps m.timed.size s l m.before (m.after, m.answer) step in
    (m, (there.0, there.1, there.2.1), read_step m.timed.size s l m.before (m.after, m.answer) held step there.2.3, (inl there.2.2, λ k. ap (λ (st : State). link_at st k) same))

-- **So does a lost exchange, before which the link holds what it answered.**
pub lost_there : (s l : ℕ) (held found put : Option ℕ) {p q : Pass} → found ≢ held → MakesOne p q (ExchangeLink s l (Compare found put)) (Link held)
    → (m : Moment) × StandsSince p q m × (link_at m.before l ≡ held) × LooksOnly s l m
lost_there s l held found put {p} {q} differs makes =
    let x : Exchange = Compare found put in
    let there = made_since (ExchangeLink s l x, Link held) makes (inl refl) in let m = there.2.0 in
    let step : Step m.timed.size m.before (ExchangeLink s l x) (m.after, m.answer) =
    subst (λ (e : Event). Step m.timed.size m.before e (m.after, m.answer)) there.2.2 (is_step (start q.name) q.seen there.0 m makes.legal there.2.1) in
    let was : link_at m.before l ≡ held = exchange_step m.timed.size s l x m.before (m.after, m.answer) held step there.2.3 in
    let same : m.after ≡ m.before = lost_keeps m.timed.size s l x m.before (m.after, m.answer) step (λ won. differs (sym (linked_same (link_at m.before l) found won) ∙ was)) in
    (m, (there.0, there.1, there.2.1), was, (inr (x, there.2.2), λ k. ap (λ (st : State). link_at st k) same))

-- **So does a won exchange, before which it holds what was taken to be there, and after which the link holds what was put there, and each other link what it held.**
pub won_there : (s l : ℕ) (held put : Option ℕ) {p q : Pass} → MakesOne p q (ExchangeLink s l (Compare held put)) (Link held)
    → (m : Moment) × StandsSince p q m × (link_at m.before l ≡ held) × (link_at m.after l ≡ put) × ExchangesOnly s l m
won_there s l held put {p} {q} makes =
    let x : Exchange = Compare held put in
    let there = made_since (ExchangeLink s l x, Link held) makes (inl refl) in let m = there.2.0 in
    let step : Step m.timed.size m.before (ExchangeLink s l x) (m.after, m.answer) =
    subst (λ (e : Event). Step m.timed.size m.before e (m.after, m.answer)) there.2.2 (is_step (start q.name) q.seen there.0 m makes.legal there.2.1) in
    let was : link_at m.before l ≡ held = exchange_step m.timed.size s l x m.before (m.after, m.answer) held step there.2.3 in
    let won : is_stored (link_at m.before l) x ≡ true = subst (λ (o : Option ℕ). same_link o held ≡ true) (sym was) (same_linked held) in
    (m, (there.0, there.1, there.2.1), was, (won_puts s l m.timed.size x m.before (m.after, m.answer) step won).0, ((x, there.2.2), others_stay s l m.timed.size x m.before (m.after, m.answer) step))

-- It stands there still as the pass sees more,
pub still_at : {q r : Pass} {es : List (Event × Answer)} (e : ℕ) (m : Moment) → Makes q r es → slice_get (moments_seen q) e ≡ Some m → slice_get (moments_seen r) e ≡ Some m
still_at {q} {r} e m makes is = subst (λ (n : Name). slice_get (moments (start n) r.seen) e ≡ Some m) (sym makes.same.0) (moment_still (start q.name) q.seen r.seen e m makes.grows is)

pub still_since : (p : Pass) {q r : Pass} {es : List (Event × Answer)} (m : Moment) → StandsSince p q m → Makes q r es → StandsSince p r m
still_since p m since makes = (since.0, since.1, still_at since.0 m makes since.2)

-- and since each pass that had seen less
pub earlier_since : {p q : Pass} (r : Pass) {es : List (Event × Answer)} (m : Moment) → Makes p q es → StandsSince q r m → StandsSince p r m
earlier_since {p} {q} r m makes since =
    let fewer = no_fewer (start p.name) p.seen q.seen makes.grows in
    let later : length (moments (start p.name) q.seen) ≤ since.0 = subst (λ (n : Name). length (moments (start n) q.seen) ≤ since.0) makes.same.0 since.1 in
    (since.0, omega (arith, fewer, later), since.2)

-- What a block is named says its content.
pub named_says : {T : Type 0} (code : T → Gv) (block : Option (Owned T)) (o : Option ℕ) → IsNamed code block o → Says code o (content_of block)
named_says code (Some owned) (Some v) named = named
named_says code None None named = tt
named_says code (Some owned) None named = absurd named
named_says code None (Some v) named = absurd named

-- **What the rule carries on**, where it is known since a pass p had seen what it had. `Q` says what is carried on of a link's content.
module _ {T : Type 0} (coded : Coded T) {keeps : ℕ → Option T → Option T → Type 0} {from : List Entry} {r : Pass} (kept : KeepsSince coded.code keeps from r)
    (l : ℕ) (Q : Option T → Type 0) (carries : (x y : Option T) → Q x → keeps l x y → Q y) where
  abbrev pub HoldsIn : State → Type 0
  HoldsIn st = HoldsOf coded.code Q (link_at st l)

  -- from a read to what the link holds in the end
  pub read_onwards : (s : ℕ) (held : Option ℕ) (x : Option T) {p q : Pass} → IsPrefix from p.seen → MakesOne p q (ReadLink s l) (Link held) → MakesNone q r → Says coded.code held x → Q x → HoldsIn (state_seen r)
  read_onwards s held x {p} {q} known reads none says holds =
      let there = read_there s l held reads in let m = there.0 in let since = still_since p m there.1 none in
      let begun = since_seen from p r since.0 (none.same.0 ∙ reads.same.0) known since.1 in
      held_at_last kept l Q carries since.0 m begun since.2 (held_through kept l Q carries since.0 m begun since.2 (subst (HoldsOf coded.code Q) (sym there.2) (x, says, holds)))

  -- from a won exchange to what the link holds in the end
  pub won_onwards : (s : ℕ) (held put : Option ℕ) (x : Option T) {p q : Pass} {es : List (Event × Answer)} → IsPrefix from p.seen → MakesOne p q (ExchangeLink s l (Compare held put)) (Link held) → Makes q r es
      → Says coded.code put x → Q x → HoldsIn (state_seen r)
  won_onwards s held put x {p} {q} known wins more says holds =
      let there = won_there s l held put wins in let m = there.0 in let since = still_since p m there.1 more in
      held_at_last kept l Q carries since.0 m (since_seen from p r since.0 (more.same.0 ∙ wins.same.0) known since.1) since.2 (subst (HoldsOf coded.code Q) (sym there.3) (x, says, holds))

  -- from what the link held in the end to a read
  pub end_onwards : (s : ℕ) (held : Option ℕ) (x : Option T) {p q : Pass} → IsPrefix from p.seen → HoldsIn (state_seen p) → MakesOne p q (ReadLink s l) (Link held) → MakesNone q r → Says coded.code held x → Q x
  end_onwards s held x {p} {q} known holds reads none says =
      let there = read_there s l held reads in let m = there.0 in let since = still_since p m there.1 none in let name = none.same.0 ∙ reads.same.0 in
      let later = kept_within kept p.seen r refl known (prefix_trans p.seen q.seen r.seen reads.grows none.grows) ([], append-nil r.seen) in
      let begun : HoldsIn (after (start r.name) p.seen) = subst (λ (n : Name). HoldsIn (after (start n) p.seen)) (sym name) holds in
      let begins : length (moments (start r.name) p.seen) ≤ since.0 = subst (λ (n : Name). length (moments (start n) p.seen) ≤ since.0) (sym name) since.1 in
      holds_said coded Q held x (subst (HoldsOf coded.code Q) there.2 (held_from later l Q carries since.0 m begins since.2 begun)) says

  -- from a read to the moment of a later one, of any link
  pub read_till_read : (s t k : ℕ) (held later : Option ℕ) (x : Option T) {p q q' : Pass} → IsPrefix from p.seen → MakesOne p q (ReadLink s l) (Link held) → MakesOne q q' (ReadLink t k) (Link later) → MakesNone q' r
      → Says coded.code held x → Q x → (n : Moment) × StandsSince q r n × HoldsIn n.before × (link_at n.before k ≡ later)
  read_till_read s t k held later x {p} {q} {q'} known one other none says holds =
      let first = read_there s l held one in let m = first.0 in let e = first.1.0 in
      let second = read_there t k later other in let n = second.0 in let f = second.1.0 in
      let before : e ≤ f = omega (arith, slice_get_within (moments_seen q) e m first.1.2, second.1.1) in
      let begun = since_seen from p r e (none.same.0 ∙ other.same.0 ∙ one.same.0) known first.1.1 in
      let e_is = still_at e m (makes_then other none) first.1.2 in let f_is = still_at f n none second.1.2 in
      (n, (f, second.1.1, f_is), held_between kept l Q carries e f m n begun before e_is f_is (subst (HoldsOf coded.code Q) (sym first.2) (x, says, holds)), second.2)
