-- A collector in one caller's hands: what stays so after a call, and what lies in the place of a slot.
use Rattle.std.proofs.Common.{arith, ◌≡◌, ℕ, ◌==◌, ◌<◌, ◌++◌, true, not, if◌then◌else◌, List, [], ◌∷◌, length, Option, None, Some, option_map, Bool, refl, sym, ap, subst, ◌∙◌}
use base.Growing.{prefix_trans}
use base.Stored.{Gv}
use mathlib.Core.List.{IsPrefix}
use Rattle.seize_machine.specs.Machine.Event.{Event}
use Rattle.seize_machine.specs.Machine.State.{are_distinct, linked_values}
use Rattle.seize_machine.specs.declared.machine.event.Answer.{Answer}
use Rattle.seize_model.specs.Waiting.State.{ModelState, has_guard, model_slot}
use Rattle.seize_book.specs.Book.{IsLegalList}
use Rattle.seize_book.specs.Entry.{Entry, Made}
use Rattle.seize_book.specs.Passes.{IsSamePass}
use Rattle.seize_book.specs.Porters.{GoesOnTo}
use Rattle.seize_book.specs.Tokens.{IsSole, Name, start}
use Rattle.seize_book.specs.declared.book.pass.Pass.{Pass}
use Rattle.seize_words.specs.Joined.{words_book}
use Rattle.seize_words.specs.declared.words.Words.{Words}
use Rattle.seize_calls.specs.Slots.{its_number}
use Rattle.seize_alone.specs.Events.{MakesAlone}
use Rattle.seize_alone.specs.Holding.{Holds}
use Rattle.seize.specs.Alones.{AreNumbersFor, AsListed, IsAlone, View}
use Rattle.seize.specs.Stillness.{LinksHold}
use Rattle.seize_parts.specs.Aparts.{MayGo}
use Rattle.seize_parts.specs.Places.{HasUnit, LiesThen, MayCall}
use Rattle.seize_parts.specs.Placing.{ArePlaces, Lies, held_in, lying_in, unit_in}
use Rattle.seize.specs.declared.alone.hands.Hands.{Hands}
use Rattle.seize_parts.specs.declared.alone.place.Place.{Place}
use Rattle.seize_parts.specs.declared.alone.place.Unit.{Unit as Held}
use Rattle.seize_parts.specs.declared.ender.Ender.{Ender}
use Rattle.seize_parts.specs.declared.numbers.Numbers.{Numbers}
use Rattle.seize_parts.proofs.Called.{only_there, unit_there}

-- one event made the list longer
pub made_grows : {pass pass' : Pass} {event : Event} {answer : Answer} → MakesAlone pass pass' event answer → IsPrefix pass.seen pass'.seen
made_grows {pass} {pass'} makes =
    let e = makes.noted in subst (IsPrefix pass.seen) (sym e.appended) (prefix_trans pass.seen e.before (e.before ++ Made makes.deed ∷ []) e.grows (Made makes.deed ∷ [], refl))

-- the unit of the activation lies in the place of a slot with guards
pub unit_held : (n : Name) (s : ℕ) (unit : Option Held) (on : Bool) → option_map unit_in unit ≡ (if on then Some (s, n) else None) → on ≡ true → (held : Held) × (unit ≡ Some held) × (held.number ≡ s) × (held.seen.name ≡ n)
unit_held n s (Some held) on is active =
    let same : (held.number, held.seen.name) ≡ (s, n) = one (is ∙ ap (λ (b : Bool). if b then Some (s, n) else None) active) in (held, refl, λ j. (same j).0, λ j. (same j).1)
  where
    one : {a b : ℕ × Name} → Some a ≡ Some b → a ≡ b
    one e = cc
unit_held n s None on is active = absurd (let both : None ≡ Some (s, n) = is ∙ ap (λ (b : Bool). if b then Some (s, n) else None) active in cc)

pub held_place : {T : Type 0} (o : Option (Place T)) (unit : Held) → held_in o ≡ Some unit → (place : Place T) × (o ≡ Some place) × (place.unit ≡ Some unit)
held_place (Some place) unit is = (place, refl, is)
held_place None unit is = absurd (cc)

-- a slot with guards is active
pub some_guards : (n : ℕ) → 0 < n → not (n == 0) ≡ true
some_guards n some = grind arith

module _ {T R : Type 0} {code : T → Gv} {words : Words T} {pass : Pass} {numbers : Numbers T} {places : List (Option (Place T))} {made : ℕ} {ender : Ender T R} {hands : Hands T} (a : IsAlone code words pass numbers places made ender hands) where
  pub sized : hands.state.size ≡ words.size
  sized = a.knows.size ∙ sym a.knows.for.1

  -- the invariant after a call
  pub alone_again : {pass' : Pass} {numbers' : Numbers T} → IsSamePass pass pass' → AreNumbersFor words numbers' → (hands' : Hands T) (places' : List (Option (Place T))) (made' : ℕ) → made' ≡ length hands'.state.slots → hands'.state.size ≡ hands.state.size
      → hands'.state.links ≡ hands.state.links → ArePlaces (words_book words) hands'.state places' → Holds code hands'.state hands'.names hands'.kinds pass'.name pass'.seen → hands'.held ≡ hands.held → IsAlone code words pass' numbers' places' made' ender hands'
  alone_again {pass'} same numbered hands' places' made' counted size links placed holds held = record {
    knows = record {
      for = (a.knows.for.0 ∙ sym same.0, a.knows.for.1 ∙ sym same.2);
      sole = subst IsSole (sym same.1) a.knows.sole;
      size = size ∙ a.knows.size ∙ sym same.2;
      distinct = ap (λ (n : Name). are_distinct (linked_values n.links)) same.0 ∙ a.knows.distinct;
      holds = holds;
    };
    numbered = numbered;
    ends = a.ends;
    counted = counted;
    linked = ap length links ∙ a.linked;
    named = ap length held ∙ a.named;
    stand = subst (λ (t : List (Option ℕ) × List (Option T)). LinksHold code words.links t.0 t.1) (λ j. (sym held j, sym links j)) a.stand;
    placed = placed;
  }

  -- all may be reclaimed
  pub may_go : MayGo pass places hands.state
  may_go = ((a.knows.size, a.knows.distinct), subst (λ (n : Name). ArePlaces n hands.state places) a.knows.for.0 a.placed)

  -- What lies in the place of a slot in use.
  module _ (s : ℕ) (place : Place T) (is : LiesThen place (lying_in (words_book words) (model_slot hands.state s) s)) where
    pub may_call : MayCall words place pass × (its_number place.reservation.slot ≡ s)
    may_call = let there = only_there words s pass place.reservation (ap (λ (t : Lies). t.1.1.0) is.0) a.knows.for a.knows.sole in ((is.1, there.0), there.1)

    pub has_unit : has_guard (model_slot hands.state s) ≡ true → HasUnit words place
    has_unit on =
        let unit = unit_held (words_book words) s place.unit (has_guard (model_slot hands.state s)) (ap (λ (t : Lies). t.1.1.1.0) is.0) on in
        (unit.0, unit.1, unit_there (words_book words) s (its_number place.reservation.slot) unit.0 unit.3 unit.2 may_call.1)

-- a list that goes on twice
pub goes_then : {n : Name} {seen later last : List Entry} → GoesOnTo n seen later → GoesOnTo n later last → GoesOnTo n seen last
goes_then {seen = seen} {later = later} {last = last} one two = record { grows = prefix_trans seen later last one.grows two.grows; legal = two.legal; sound = two.sound; lent = two.lent; distinct = two.distinct }

-- what the list says of the state
pub as_listed : {T : Type 0} {code : T → Gv} (v : View T) (names : List (ℕ × T)) (kinds : List (ℕ × ℕ)) → IsLegalList (start v.book) v.seen → Holds code v.state names kinds v.book v.seen → AsListed code v
as_listed v names kinds legal holds = record { legal = legal; quiet = λ s. (holds.all.shows.slot s).idle; names = names; kinds = kinds; holds = holds }
