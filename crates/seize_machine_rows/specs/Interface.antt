-- What the tests of the machine's facts say.
use Rattle.std.specs.Prelude.{◌≡◌, ◌≢◌, ◌⊎◌, ◌↔◌, ℕ, ◌+◌, ◌<◌, ◌≤◌, pos, neg_ℤ, ◌+ℤ◌, ◌≤ℤ◌, Bool, true, false, not, List, [], ◌∷◌, length, Some, Option}
use Rattle.std.specs.List.{Contains, list_any}
use Rattle.seize_machine.specs.Machine.State.{State, Place, Active, Append, Mark, Look, Try, Add, Out, no_slot, slot_at, is_idle, head_at, link_at, batch_at, is_active, has, are_distinct, opening}
use Rattle.seize_machine.specs.Machine.Event.{Event, Begin, Put, Insert, AddCount, ExchangeLink, event_slot}
use Rattle.seize_machine.specs.Machine.Next.{next, can_link, is_none_or_fresh, is_zero, new_link, is_stored}
use Rattle.seize_machine.specs.declared.machine.event.Answer.{Answer}
use Rattle.seize_machine.specs.declared.machine.event.Answer.TheVariants.{Done, Count, Handed, Link}
use Rattle.seize_machine.specs.declared.machine.event.Exchange.{Exchange}
use Rattle.seize_machine.specs.declared.machine.event.Try.TheVariants.{Lost}
use Rattle.seize_machine.specs.declared.machine.event.Job.TheVariants.{Leave}
use Rattle.seize_machine.specs.Machine.History.{Timed, history, Legal, is_link_event}
use Rattle.seize_machine.specs.Machine.Laws.{AtMostOnce, After, Quiet, Protection, places, Whereabouts, Gone, Holders, NoLaterHolders, UnderGuard, Tries, Unused, detached_by, Lists, Walks, IsHeld}
use Rattle.seize_machine.specs.Machine.Frames.{changes_slot, used, changes_numbers, changes_used, changes_head_of, changes_link, changes_batch, changes_value, slots_added, batches_added, begins_retiring}

-- what an event leaves as it was
pub record Unmoved (st : State) (event : Event) (later : State) : Type 0 where
  pub slot : (k : ℕ) → changes_slot k event ≡ false
      → (slot_at later k ≡ slot_at st k) × (is_active (head_at later k) ≡ is_active (head_at st k))
  pub head : (m : ℕ) → changes_head_of m event ≡ false → head_at later m ≡ head_at st m
  pub batch : (b : ℕ) → b < length st.batches → changes_batch st b event ≡ false → batch_at later b ≡ batch_at st b
  pub values : (b : ℕ) → b < length st.batches
      → ((batch_at later b).values ≡ (batch_at st b).values) ⊎ ((batch_at later b).values ≡ [])
  pub link : (l : ℕ) → changes_link l event ≡ false → link_at later l ≡ link_at st l
  pub numbers : changes_used event ≡ false → used later ≡ used st
  pub rest : changes_numbers event ≡ false → later.rest ≡ st.rest
  pub value : (v : ℕ) → changes_value st v event ≡ false → (has v later.named ≡ has v st.named) × (has v later.loose ≡ has v st.loose)
  pub named : (v : ℕ) → has v st.named ≡ true → has v later.named ≡ true
  pub gone : (v : ℕ) → has v st.gone ≡ true → has v later.gone ≡ true
  pub loose : (v : ℕ) → begins_retiring v event ≡ false → has v st.loose ≡ true → has v later.loose ≡ true
  pub slots : length later.slots ≡ length st.slots + slots_added st event
  pub batches : length later.batches ≡ length st.batches + batches_added event
  pub links : length later.links ≡ length st.links

-- slot s has a call under way that stands there
abbrev pub StandsAt : State → ℕ → Place → List ℕ → Type 0
StandsAt st s place queue = (slot_at st s).call ≡ Some (record { place = place; queue = queue })

-- the event is legal, with this answer
abbrev pub IsLegal : ℕ → State → Event → Answer → Type 0
IsLegal size st event answer = (later : State) × (next size st event ≡ Some (later, answer))

-- what holds of calls and counts
pub record CallsTidy (st : State) : Type 0 where
  pub heads : length st.heads ≡ length st.slots
  pub free : (t : ℕ) → (slot_at st t).used ≡ false → (slot_at st t ≡ no_slot) × (is_active (head_at st t) ≡ false)
  pub rest : list_any (λ u. not u) (used st) ≡ false → st.rest ≡ []
  pub out : (s : ℕ) (stays : Bool) (queue : List ℕ) → StandsAt st s (Out stays) queue → is_active (head_at st s) ≡ true
  pub marks : (s next note : ℕ) (marks queue : List ℕ) → StandsAt st s (Mark next note marks) queue
      → (are_distinct marks ≡ true) × ((v : ℕ) → Contains marks v → v < next) × (length marks ≤ length (slot_at st s).batch)
  pub full : (s next note : ℕ) (marks queue : List ℕ) → StandsAt st s (Mark next note marks) queue → 1 ≤ length (slot_at st s).batch
  pub note : (s next note : ℕ) (marks queue : List ℕ) → StandsAt st s (Mark next note marks) queue → note ≤ length st.slots
  pub looks : (s b won m : ℕ) (later queue : List ℕ) → StandsAt st s (Look b won m later) queue
      → (are_distinct (m ∷ later) ≡ true) × (won + length (m ∷ later) ≤ length (batch_at st b).values)
  pub tries : (s b won m : ℕ) (later saw queue : List ℕ) → StandsAt st s (Try b won m later saw) queue
      → (are_distinct (m ∷ later) ≡ true) × (won + length (m ∷ later) ≤ length (batch_at st b).values)
  pub adds : (s b won : ℕ) (queue : List ℕ) → StandsAt st s (Add b won) queue → won ≤ length (batch_at st b).values
  pub above_zero : (s b won : ℕ) (queue : List ℕ) → StandsAt st s (Add b won) queue → is_active (head_at st s) ≡ true
      → is_zero ((batch_at st b).count +ℤ pos won) ≡ false
  pub counts : (b : ℕ) → (neg_ℤ (pos (length st.slots)) ≤ℤ (batch_at st b).count) × ((batch_at st b).count ≤ℤ pos (length st.slots))
  pub owners : (b i s : ℕ) → detached_by (slot_at st i).call ≡ Some b → detached_by (slot_at st s).call ≡ Some b → i ≡ s
  pub unheld : (b : ℕ) → (batch_at st b).count ≡ pos 0 → ((s : ℕ) → detached_by (slot_at st s).call ≢ Some b)
      → (s : ℕ) → ¬ (Lists st s b) × ¬ (Walks st s b)

-- where values stand
pub record ValuesStand (st : State) : Type 0 where
  pub distinct : are_distinct (places st) ≡ true
  pub named : (v : ℕ) → Contains (places st) v ↔ (has v st.named ≡ true)
  pub held : (b : ℕ) → IsHeld st b → 1 ≤ length (batch_at st b).values
  pub empty : (b : ℕ) → (batch_at st b).values ≡ [] → (batch_at st b).count ≡ pos 0
  pub batched : (b v : ℕ) → Contains (batch_at st b).values v → (has v st.named ≡ true) × (has v st.gone ≡ false)
  pub in_one : (b c v : ℕ) → Contains (batch_at st b).values v → Contains (batch_at st c).values v → b ≡ c
  pub linked : (l v : ℕ) → link_at st l ≡ Some v → (has v st.named ≡ true) × (has v st.gone ≡ false) × (has v st.loose ≡ false)
  pub loose : (v : ℕ) → has v st.loose ≡ true → (has v st.named ≡ true) × (has v st.gone ≡ false)
  pub gone : (v : ℕ) → has v st.gone ≡ true → has v st.named ≡ true

-- what a call under way does next, and what is legal for it
pub record UnderWay (size : ℕ) (st : State) : Type 0 where
  -- a call that has still to add does nothing else, links aside
  pub forced : (s b won : ℕ) (queue : List ℕ) (event : Event) (d : State × Answer) → (slot_at st s).used ≡ true
      → StandsAt st s (Add b won) queue → next size st event ≡ Some d → event_slot event ≡ s → is_link_event s event ≡ false
      → event ≡ AddCount s
  pub begins : (s : ℕ) → is_idle (slot_at st s) ≡ true → is_active (head_at st s) ≡ true → IsLegal size st (Begin s Leave) Done
  pub put : (s v : ℕ) (queue : List ℕ) → StandsAt st s (Append v) queue → IsLegal size st (Put s) Done
  pub lost : (s m b won : ℕ) (later saw queue : List ℕ) → StandsAt st s (Try b won m later saw) queue → head_at st m ≢ Active saw
      → IsLegal size st (Insert s m Lost) Done
  pub added : (s b won : ℕ) (queue : List ℕ) → StandsAt st s (Add b won) queue
      → IsLegal size st (AddCount s) (Count ((batch_at st b).count +ℤ pos won))
  pub exchanged : (s l : ℕ) (exchange : Exchange) → can_link st s l ≡ true → is_none_or_fresh st (new_link exchange) ≡ true
      → is_stored (link_at st l) exchange ≡ true → IsLegal size st (ExchangeLink s l exchange) (Link (link_at st l))
  pub one_outcome : (event : Event) (d other : State × Answer) → next size st event ≡ Some d → next size st event ≡ Some other → d ≡ other

-- every law of these events
pub record Obeys (st : State) (events : List Timed) : Type 0 where
  pub at_most_once : AtMostOnce st (history next st events)
  pub after : After st (history next st events)
  pub quiet : Quiet st (history next st events)
  pub protection : Protection st (history next st events)
  pub whereabouts : Whereabouts st (history next st events)
  pub gone : Gone st (history next st events)
  pub holders : Holders st (history next st events)
  pub no_later_holders : NoLaterHolders st (history next st events)
  pub under_guard : UnderGuard st (history next st events)
  pub tries : Tries st (history next st events)
  pub unused : Unused st (history next st events)

-- after these events, from an opening, the event hands v
pub record Handing (slots : ℕ) (links : List (Option ℕ)) (v : ℕ) (events : List Timed) (t : Timed) : Type 0 where
  pub now : State
  pub later : State
  pub answers : List Answer
  pub begins : Legal next (opening slots links) events answers now
  pub hands : next t.size now t.event ≡ Some (later, Handed v)
