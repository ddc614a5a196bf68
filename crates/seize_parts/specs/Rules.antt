-- The rule of a collector's links, which its reclaimer's type says (`Puts::keeps`): which content may follow which in a link. None is the
-- content of an empty link. `code` is the code of the collector's element type.
--     Says code o x             what the list calls o is a block with the content x, or there is neither
--     HoldsOf code Q o          o says a content, or none, of which Q holds
--     MayFollow code keeps l st st'     by the rule, what link l holds in the second state may follow what it holds in the first
--     IsWon l m                 the event exchanges what link l holds, and wins
--     KeepsSince code keeps from pass     the pass has seen a legal list that goes on from this one, and each exchange that was won since
--                               meets the rule
--     number_if code x          the number of the code that is lent with this content, or 0 where there is none
--     KeepsNumbers code keeps l a b     the rule, by these numbers
use Rattle.std.specs.Prelude.{◌≡◌, ℕ, ◌≤◌, true, List, length, Option, Some, None, slice_get}
use base.Stored.{Gv}
use mathlib.Core.List.{IsPrefix}
use Rattle.seize_machine.specs.Machine.State.{State, link_at}
use Rattle.seize_machine.specs.Machine.Event.{ExchangeLink}
use Rattle.seize_machine.specs.Machine.History.{Moment}
use Rattle.seize_machine.specs.Machine.Next.{is_stored}
use Rattle.seize_machine.specs.declared.machine.event.Exchange.{Exchange}
use Rattle.seize_book.specs.Book.{IsLegalList, moments}
use Rattle.seize_book.specs.Entry.{Entry}
use Rattle.seize_book.specs.Loans.{loan_number}
use Rattle.seize_book.specs.declared.book.pass.Pass.{Pass}
use Rattle.seize_parts.specs.Blocks.{HasContent}
use Rattle.seize_parts.specs.Laws.{moments_seen, opening_of}

abbrev pub Says : {T : Type 0} → (T → Gv) → Option ℕ → Option T → Type 0
Says code (Some v) (Some x) = HasContent code v x
Says code None None = Unit {0}
Says code _ _ = ⊥

abbrev pub HoldsOf : {T : Type 0} → (T → Gv) → (Option T → Type 0) → Option ℕ → Type 0
HoldsOf {T} code Q o = (x : Option T) × Says code o x × Q x

abbrev pub MayFollow : {T : Type 0} → (T → Gv) → (ℕ → Option T → Option T → Type 0) → ℕ → State → State → Type 0
MayFollow {T} code keeps l st st' = (x : Option T) → Says code (link_at st l) x → HoldsOf code (keeps l x) (link_at st' l)

abbrev pub IsWon : ℕ → Moment → Type 0
IsWon l m = (s : ℕ) × (exchange : Exchange) × (m.timed.event ≡ ExchangeLink s l exchange) × (is_stored (link_at m.before l) exchange ≡ true)

pub record KeepsSince {T : Type 0} (code : T → Gv) (keeps : ℕ → Option T → Option T → Type 0) (from : List Entry) (pass : Pass)
    : Type 0 where
  pub legal : IsLegalList (opening_of pass) pass.seen
  pub goes_on : IsPrefix from pass.seen
  pub follows : (e : ℕ) (m : Moment) (l : ℕ) → length (moments (opening_of pass) from) ≤ e → slice_get (moments_seen pass) e ≡ Some m
      → IsWon l m → MayFollow code keeps l m.before m.after

abbrev pub number_if : {T : Type 0} → (T → Gv) → Option T → ℕ
number_if code (Some x) = loan_number (code x)
number_if code None = 0

abbrev pub KeepsNumbers : {T : Type 0} → (T → Gv) → (ℕ → Option T → Option T → Type 0) → ℕ → ℕ → ℕ → Type 0
KeepsNumbers {T} code keeps l a b = (x : Option T) → a ≡ number_if code x → (y : Option T) × (b ≡ number_if code y) × keeps l x y
