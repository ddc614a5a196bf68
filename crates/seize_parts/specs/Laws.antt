-- The laws of the machine, of a list of events, and of that which a pass has seen.
--     opening_of pass         the state in which the list begins: that of a new collector
--     moments_seen pass       the events of the list, each with the states before and after it
--     LawsOf st ms            each law of `machine::laws` holds of these events, from this opening state
--     LawsHold most pass      so it is with those that the pass has seen; and each of them that may fill a batch has at most this size. So
--                             what `Quiet` says of batches and of the rest, it says of the bound of this size
--     WaitsBelow most st v    the value stands in a slot's batch, which is below the bound of this size, or in the rest, which is below
--                             that times the number of slots ever made
--     HaveContents code pass  the name of each value that was ever named there says a content of the type whose code this is
use Rattle.std.specs.List.{Contains}
use Rattle.std.specs.Prelude.{◌≡◌, ◌⊎◌, ℕ, ◌*◌, ◌<◌, true, List, length}
use base.Stored.{Gv}
use Rattle.seize_machine.specs.Machine.History.{Moment}
use Rattle.seize_machine.specs.Machine.Laws.{After, AtMostOnce, FillsWithin, Gone, Holders, NoLaterHolders, Protection, Quiet, Tries, UnderGuard, Unused, Whereabouts, bound}
use Rattle.seize_machine.specs.Machine.State.{State, has, slot_at}
use Rattle.seize_book.specs.Book.{moments}
use Rattle.seize_book.specs.Homesteads.{state_seen}
use Rattle.seize_book.specs.Tokens.{start}
use Rattle.seize_book.specs.declared.book.pass.Pass.{Pass}
use Rattle.seize_words.specs.Chunks.{IsLentAs}

abbrev pub opening_of : Pass → State
opening_of pass = start pass.name

abbrev pub moments_seen : Pass → List Moment
moments_seen pass = moments (opening_of pass) pass.seen

pub record LawsOf (st : State) (ms : List Moment) : Type 0 where
  pub at_most_once : AtMostOnce st ms
  pub after : After st ms
  pub quiet : Quiet st ms
  pub unused : Unused st ms
  pub protection : Protection st ms
  pub whereabouts : Whereabouts st ms
  pub gone : Gone st ms
  pub holders : Holders st ms
  pub no_later_holders : NoLaterHolders st ms
  pub under_guard : UnderGuard st ms
  pub tries : Tries st ms

abbrev pub LawsHold : ℕ → Pass → Type 0
LawsHold most pass = LawsOf (opening_of pass) (moments_seen pass) × FillsWithin most (moments_seen pass)

abbrev pub WaitsBelow : ℕ → State → ℕ → Type 0
WaitsBelow most st v =
    ((s : ℕ) × Contains (slot_at st s).batch v × (length (slot_at st s).batch < bound most st))
    ⊎ (Contains st.rest v × (length st.rest < bound most st * length st.slots))

abbrev pub HaveContents : {T : Type 0} → (T → Gv) → Pass → Type 0
HaveContents {T} code pass = (v : ℕ) → has v (state_seen pass).named ≡ true → (x : T) × IsLentAs v (code x)
