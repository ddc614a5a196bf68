-- What the list that threads share consists of, and a code for it.
--     Deed         an event of the machine that was made
--     Use          this was stored in a field of a block's header (see `Chains`), which is no event of the machine
--     Entry        either
--     maker e      the pass that it was made with
--     deeds log, events_of log     the events of a list, in order
use Rattle.std.specs.Prelude.{◌≡◌, ℕ, List, [], ◌∷◌, ◌⊎◌, map}
use Rattle.std.specs.Coded.{Coded, code_by, coded_ℕ, coded_list, coded×, coded⊎}
use mathlib.Core.Path.{refl}
use mathlib.Core.Logic.{inl, inr}
use Rattle.seize_machine.specs.Machine.Event.{Event, Take, Give, Enter, Begin, Put, ReadHead, Detach, Insert, AddCount, SwapOut, SubCount, Hand, Return, ReadLink, ExchangeLink}
use Rattle.seize_machine.specs.Machine.Code.{event_of}
use Rattle.seize_machine.specs.Machine.History.{Timed}
use Rattle.seize_machine.specs.declared.machine.event.Event.{Event as Written}
use Rattle.seize_machine.specs.declared.machine.event.Event.TheVariants.{Take as WTake, Give as WGive, Enter as WEnter, Begin as WBegin, Put as WPut, ReadHead as WReadHead, Detach as WDetach, Insert as WInsert, AddCount as WAddCount, SwapOut as WSwapOut, SubCount as WSubCount, Return as WReturn, ReadLink as WReadLink, ExchangeLink as WExchangeLink}
use Rattle.seize_machine.specs.contracts.machine.event.Event.{the_row}

-- an event with the size at it, the pass that it was made with, where it begins an activation, the lifetime of that, and where it retires
-- values, or puts them, the words that are kept of these
pub record Deed : Type 0 where
  pub pass : ℕ
  pub size : ℕ
  pub event : Event
  pub life : ℕ
  pub kepts : List ℕ

-- by this slot, with this pass
pub record Use : Type 0 where
  pub pass : ℕ
  pub slot : ℕ
  pub field : ℕ
  pub value : ℕ

pub data Entry : Type 0 where
  Made : Deed → Entry
  Used : Use → Entry

abbrev pub maker : Entry → ℕ
maker (Made d) = d.pass
maker (Used u) = u.pass

abbrev pub deeds : List Entry → List Deed
deeds [] = []
deeds (Made d ∷ log) = d ∷ deeds log
deeds (Used u ∷ log) = deeds log

abbrev pub timed_deed : Deed → Timed
timed_deed d = record { size = d.size; event = d.event }

abbrev pub events_of : List Entry → List Timed
events_of log = map timed_deed (deeds log)

-- The code: that of the event as programs write it, but for a Hand, whose list programs have elsewhere.

abbrev pub written_event : Event → Written ⊎ (ℕ × List ℕ)
written_event (Take s) = inl (WTake s)
written_event (Give s) = inl (WGive s)
written_event (Enter s) = inl (WEnter s)
written_event (Begin s job) = inl (WBegin s job)
written_event (Put s) = inl (WPut s)
written_event (ReadHead s n) = inl (WReadHead s n)
written_event (Detach s) = inl (WDetach s)
written_event (Insert s m ends) = inl (WInsert s m ends)
written_event (AddCount s) = inl (WAddCount s)
written_event (SwapOut s) = inl (WSwapOut s)
written_event (SubCount s) = inl (WSubCount s)
written_event (Hand s puts) = inr (s, puts)
written_event (Return s) = inl (WReturn s)
written_event (ReadLink s l) = inl (WReadLink s l)
written_event (ExchangeLink s l exchange) = inl (WExchangeLink s l exchange)

abbrev pub read_back : Written ⊎ (ℕ × List ℕ) → Event
read_back (inl event) = event_of event
read_back (inr hand) = Hand hand.0 hand.1

pub back : (event : Event) → read_back (written_event event) ≡ event
back (Take s) = refl
back (Give s) = refl
back (Enter s) = refl
back (Begin s job) = refl
back (Put s) = refl
back (ReadHead s n) = refl
back (Detach s) = refl
back (Insert s m ends) = refl
back (AddCount s) = refl
back (SwapOut s) = refl
back (SubCount s) = refl
back (Hand s puts) = refl
back (Return s) = refl
back (ReadLink s l) = refl
back (ExchangeLink s l exchange) = refl

abbrev pub event_coded : Coded Event
event_coded = code_by (Written ⊎ (ℕ × List ℕ)) (coded⊎ the_row.coded (coded× coded_ℕ (coded_list coded_ℕ))) written_event read_back back

abbrev pub deed_coded : Coded Deed
deed_coded =
    code_by (ℕ × (ℕ × (ℕ × (List ℕ × Event)))) (coded× coded_ℕ (coded× coded_ℕ (coded× coded_ℕ (coded× (coded_list coded_ℕ) event_coded))))
    (λ d. (d.pass, (d.size, (d.life, (d.kepts, d.event)))))
    (λ t. record { pass = t.0; size = t.1.0; event = t.1.1.1.1; life = t.1.1.0; kepts = t.1.1.1.0 })
    (λ _. refl)

abbrev pub use_coded : Coded Use
use_coded = code_by (ℕ × (ℕ × (ℕ × ℕ))) (coded× coded_ℕ (coded× coded_ℕ (coded× coded_ℕ coded_ℕ)))
    (λ u. (u.pass, (u.slot, (u.field, u.value))))
    (λ t. record { pass = t.0; slot = t.1.0; field = t.1.1.0; value = t.1.1.1 })
    (λ _. refl)

abbrev pub of_either : Deed ⊎ Use → Entry
of_either (inl d) = Made d
of_either (inr u) = Used u

abbrev pub as_either : Entry → Deed ⊎ Use
as_either (Made d) = inl d
as_either (Used u) = inr u

pub either_back : (e : Entry) → of_either (as_either e) ≡ e
either_back (Made d) = refl
either_back (Used u) = refl

abbrev pub entry_coded : Coded Entry
entry_coded = code_by (Deed ⊎ Use) (coded⊎ deed_coded use_coded) as_either of_either either_back
