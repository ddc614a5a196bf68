-- What contracts see of a collector in one caller's hands.
--     View T            the name of its list of events, its batch size, the greatest that it ever had, its id, how many links it has, its
--                       state, as of waiting sets (`seize_model`), the names of what links hold, and the events of the list
--     name_at a l       what the list calls the value that link l holds, if it holds one
--     view_coded        the code of views, by that of values
--     resized a n       it has this batch size, the greatest is no less, and else it is the same
--     opening_in a      the state in which its list of events begins
--     moments_in a      the events of its list, each with the states before and after it
--     IsSame a a'       it is the same collector: by its list, its batch size, its id, how many links it has, and the greatest batch size
--                       that it ever had
--     IsLinkedSame a a'   it is, and each link holds the block that it held
--     ListGrows a a'    the list goes on: what was there is its beginning
--     AsListed code a   the list is legal, where it ends no call is under way, and it leads to a machine that shows the state, in which
--                       numbers stand for values by their names, and for kinds as the list says (`Holds`)
--     ShowsHands code words hands pass     the pass is of these words, and alone, and what it has seen shows the state that the
--                       hands hold, with its batch size. The links of the list begin with values that differ
--     AreNumbersFor words numbers     these are the numbers of the slots of these words
--     IsAlone code words pass numbers places made ender hands     what is so of its parts: all are of one list, which the pass knows. So
--                       many slots were made. The links stand still, and hold what the state says, and what lies in the places is what it
--                       says of the slots
use Rattle.std.specs.Prelude.{◌≡◌, ℕ, max, List, Option, None, length, slice_index_or, true}
use mathlib.Core.List.{IsPrefix}
use mathlib.Core.Path.{refl}
use base.Stored.{Coded, Gv, coded×, coded_list, coded_ℕ}
use Rattle.std.specs.Coded.{code_by, coded_option}
use Rattle.seize_machine.specs.Machine.History.{Moment}
use Rattle.seize_machine.specs.Machine.State as machine
use Rattle.seize_machine.specs.Machine.State.{are_distinct, linked_values}
use Rattle.seize_model.specs.Waiting.State.{ModelState}
use Rattle.seize_book.specs.Book.{IsLegalList, after, moments}
use Rattle.seize_book.specs.Entry.{Entry, entry_coded}
use Rattle.seize_book.specs.Tokens.{IsSole, Name, name_coded, start}
use Rattle.seize_book.specs.declared.book.pass.Pass.{Pass}
use Rattle.seize_words.specs.Joined.{words_book}
use Rattle.seize_words.specs.declared.words.Words.{Words}
use Rattle.seize_calls.specs.Slots.{IsPassOf}
use Rattle.seize_alone.specs.Holding.{Holds}
use Rattle.seize_parts.specs.Enders.{IsEnderOf}
use Rattle.seize_parts.specs.Numbers.{AreNumbers, KnowsLeast}
use Rattle.seize_parts.specs.Placing.{ArePlaces}
use Rattle.seize.specs.States.{state_coded}
use Rattle.seize.specs.Stillness.{LinksHold}
use Rattle.seize.specs.declared.alone.hands.Hands.{Hands}
use Rattle.seize_parts.specs.declared.alone.place.Place.{Place}
use Rattle.seize_parts.specs.declared.ender.Ender.{Ender}
use Rattle.seize_parts.specs.declared.numbers.Numbers.{Numbers}

pub record View (T : Type 0) : Type 0 where
  pub book : Name
  pub size : ℕ
  pub most : ℕ
  pub id : ℕ
  pub links : ℕ
  pub state : ModelState T ℕ
  pub held : List (Option ℕ)
  pub seen : List Entry

abbrev pub view_coded : {T : Type 0} → Coded T → Coded (View T)
view_coded {T} c =
    code_by (Name × (ℕ × (ℕ × (ℕ × (ℕ × (ModelState T ℕ × (List (Option ℕ) × List Entry)))))))
    (coded× name_coded (coded× coded_ℕ (coded× coded_ℕ (coded× coded_ℕ (coded× coded_ℕ (coded× (state_coded c coded_ℕ)
    (coded× (coded_list (coded_option coded_ℕ)) (coded_list entry_coded))))))))
    (λ a. (a.book, (a.size, (a.most, (a.id, (a.links, (a.state, (a.held, a.seen))))))))
    (λ x. record {
      book = x.0;
      size = x.1.0;
      most = x.1.1.0;
      id = x.1.1.1.0;
      links = x.1.1.1.1.0;
      state = x.1.1.1.1.1.0;
      held = x.1.1.1.1.1.1.0;
      seen = x.1.1.1.1.1.1.1;
    }) (λ _. refl)

abbrev pub name_at : {T : Type 0} → View T → ℕ → Option ℕ
name_at a l = slice_index_or a.held l None

abbrev pub resized : {T : Type 0} → View T → ℕ → View T
resized a n = record a { size = n; most = max a.most n; state = record a.state { size = n } }

abbrev pub opening_in : {T : Type 0} → View T → machine.State
opening_in a = start a.book

abbrev pub moments_in : {T : Type 0} → View T → List Moment
moments_in a = moments (opening_in a) a.seen

abbrev pub IsSame : {T : Type 0} → View T → View T → Type 0
IsSame a a' = (a'.book ≡ a.book) × (a'.size ≡ a.size) × (a'.id ≡ a.id) × (a'.links ≡ a.links) × (a'.most ≡ a.most)

abbrev pub IsLinkedSame : {T : Type 0} → View T → View T → Type 0
IsLinkedSame a a' =
    (a'.book ≡ a.book) × (a'.size ≡ a.size) × (a'.id ≡ a.id) × (a'.links ≡ a.links) × (a'.held ≡ a.held) × (a'.most ≡ a.most)

abbrev pub ListGrows : {T : Type 0} → View T → View T → Type 0
ListGrows a a' = IsPrefix a.seen a'.seen

pub record AsListed {T : Type 0} (code : T → Gv) (a : View T) : Type 0 where
  pub legal : IsLegalList (start a.book) a.seen
  pub quiet : (s : ℕ) → (machine.slot_at (after (start a.book) a.seen) s).call ≡ None
  pub names : List (ℕ × T)
  pub kinds : List (ℕ × ℕ)
  pub holds : Holds code a.state names kinds a.book a.seen

pub record ShowsHands {T : Type 0} (code : T → Gv) (words : Words T) (hands : Hands T) (pass : Pass) : Type 0 where
  pub for : IsPassOf words pass
  pub sole : IsSole pass.id
  pub size : hands.state.size ≡ pass.size
  pub distinct : are_distinct (linked_values pass.name.links) ≡ true
  pub holds : Holds code hands.state hands.names hands.kinds pass.name pass.seen

abbrev pub AreNumbersFor : {T : Type 0} → Words T → Numbers T → Type 0
AreNumbersFor words numbers = AreNumbers numbers × (numbers.book.name ≡ words_book words) × KnowsLeast numbers

pub record IsAlone {T R : Type 0} (code : T → Gv) (words : Words T) (pass : Pass) (numbers : Numbers T) (places : List (Option (Place T)))
    (made : ℕ) (ender : Ender T R) (hands : Hands T) : Type 0 where
  pub knows : ShowsHands code words hands pass
  pub numbered : AreNumbersFor words numbers
  pub ends : IsEnderOf words ender
  pub counted : made ≡ length hands.state.slots
  pub linked : length hands.state.links ≡ length (words_book words).links
  pub named : length hands.held ≡ length (words_book words).links
  pub stand : LinksHold code words.links hands.held hands.state.links
  pub placed : ArePlaces (words_book words) hands.state places
