-- What other crates may build on: the facts of the machine, each with its statement. The definitions that the statements cite are in
-- `specs/Machine`, but for the steps: `Step` and what is brought in beside it here stand in `proofs/Steps`, `Relation` and `Forced`,
-- and are part of this page. All else in `proofs` is no interface, and may change.
pub use Rattle.seize_machine.proofs.Steps.Relation.{Step, Stands, go_on, counted, swapped, beginning, after_put}
pub use Rattle.seize_machine.proofs.Steps.Forced.{Forced}
-- on tests, and on how often a value stands in a list
pub use Rattle.seize_machine.proofs.Steps.Relation.{if_some, and_true, not_true, is_true, eq_true, lt_true, some_is}
pub use Rattle.seize_machine.proofs.Counting.Sums.{one, occ, has_none, has_some, distinct_once}
use Rattle.std.proofs.Common.{◌≡◌, ◌≢◌, ℕ, ◌+◌, ◌<◌, ◌≤◌, pos, neg_ℤ, ◌+ℤ◌, ◌≤ℤ◌, Bool, true, false, not, List, [], ◌∷◌, ◌++◌, length, take, drop, Option, None, Some, ◌⊎◌, arith, subst}
use Rattle.std.specs.Prelude.{◌↔◌}
use Rattle.std.specs.List.{Contains, list_any, slice_get, sum_by}
use Rattle.seize_machine.specs.Machine.State.{State, no_slot, Head, Mark, Look, Try, Add, Out, slot_at, head_at, link_at, batch_at, is_active, waiting_at, has, linked_values, are_distinct, opening, Place, Append, Rest}
use Rattle.seize_machine.specs.Machine.Event.{Event, Put, SwapOut, event_slot}
use Rattle.seize_machine.specs.Machine.Next.{next, slot_set, can_link, is_zero}
use Rattle.seize_machine.specs.Machine.History.{Timed, is_legal, Legal, IsReached, handed_value, is_link_event, history}
use Rattle.seize_machine.specs.Machine.Laws.{HoldsOfAll, AtMostOnce, After, Quiet, Unused, Protection, places, Whereabouts, Gone, Holders, NoLaterHolders, UnderGuard, Tries, detached_by, Lists, Walks, IsHeld}
use Rattle.seize_machine.specs.Machine.Frames.{changes_slot, used, changes_used, changes_numbers, changes_head_of, changes_link, changes_batch, changes_value, slots_added, batches_added, begins_retiring}
use Rattle.seize_machine.specs.Machine.Kept.{KeptIn}
use Rattle.seize_machine.specs.declared.machine.event.Answer.{Answer}
use Rattle.seize_machine.specs.declared.machine.event.Answer.TheVariants.{Done, Count}
use Rattle.seize_machine.proofs.Steps.Exactness as exactness
use Rattle.seize_machine.proofs.Steps.Relation as steps
use Rattle.seize_machine.proofs.Steps.Forced as forcing
use Rattle.seize_machine.proofs.Steps.Frames as frames
use Rattle.seize_machine.proofs.Lists.LegalLists as lists
use Rattle.seize_machine.proofs.Invariants.Reached as reached
use Rattle.seize_machine.proofs.Invariants.States as states
use Rattle.seize_machine.proofs.Invariants.Always as invariants
use Rattle.seize_machine.proofs.Invariants.Kept as kept
use Rattle.seize_machine.proofs.Invariants.Live as live
use Rattle.seize_machine.proofs.Invariants.Tried as tried
use Rattle.seize_machine.proofs.Invariants.Noted as noted
use Rattle.seize_machine.proofs.Invariants.Listed as lists_once
use Rattle.seize_machine.proofs.Invariants.Unused as unused
pub use Rattle.seize_machine.proofs.Invariants.Listed.{IsSettled}
use Rattle.seize_machine.proofs.Laws.AtMostOnce as at_most_once
use Rattle.seize_machine.proofs.Laws.After as after
use Rattle.seize_machine.proofs.Laws.Protection as protection
use Rattle.seize_machine.proofs.Laws.Quiet as quiet
use Rattle.seize_machine.proofs.Laws.Whereabouts as whereabouts
use Rattle.seize_machine.proofs.Laws.Gone as gone
use Rattle.seize_machine.proofs.Laws.Holders as holders
use Rattle.seize_machine.proofs.Laws.LaterHolders as later_holders
use Rattle.seize_machine.proofs.Laws.UnderGuard as under_guard
use Rattle.seize_machine.proofs.Laws.Tries as tries

-- Steps. `Step size st event d` has one constructor for each row of the table, with all that the row asks: these are exactly the
-- legal events.

-- a legal event is a step
pub step_of : (size : ℕ) (st : State) (event : Event) (d : State × Answer) → next size st event ≡ Some d → Step size st event d
step_of = steps.step_of

-- and a step is a legal event
pub next_of : (size : ℕ) (st : State) (event : Event) (d : State × Answer) → Step size st event d → next size st event ≡ Some d
next_of = exactness.next_of

-- a put as it is computed
pub step_put : (size : ℕ) (st : State) (s v : ℕ) (from : Place) (before after : List ℕ) → Stands st s from before
    → ((from ≡ Append v) × (before ≡ after)) ⊎ ((from ≡ Rest [] []) × (before ≡ v ∷ after))
    → Step size st (Put s) (slot_set st s (record { used = (slot_at st s).used; batch = (slot_at st s).batch ++ v ∷ []; call = Some (record { place = after_put size (length st.slots) ((slot_at st s).batch ++ v ∷ []); queue = after }) }), Done)
step_put = steps.step_put_from

-- where a call of a slot is under way, its place tells the next event of that slot, links aside
pub forced : (size : ℕ) (st : State) (s : ℕ) (place : Place) (queue : List ℕ) (e : Event) (d : State × Answer) → Step size st e d → event_slot e ≡ s → is_link_event s e ≡ false
    → (slot_at st s).used ≡ true → Stands st s place queue → Forced st s place queue e
forced = forcing.forced

-- Legal lists: nothing, one event, one event more at the end, a list that goes on; and a list taken apart after a beginning or
-- after its first event.

-- no legal event is answered as an illegal one
pub legal_answer : (size : ℕ) (st : State) (event : Event) (d : State × Answer) → Step size st event d → is_legal d.1 ≡ true
legal_answer = lists.legal_answer

-- no event at all
pub no_event : (st : State) → Legal next st [] [] st
no_event = lists.no_event

-- one event
pub one_event : (st later : State) (t : Timed) (answer : Answer) → next t.size st t.event ≡ Some (later, answer) → Legal next st (t ∷ []) (answer ∷ []) later
one_event = lists.one_event

-- one event more at the end
pub one_more : (st now later : State) (events : List Timed) (answers : List Answer) (t : Timed) (answer : Answer)
    → Legal next st events answers now → next t.size now t.event ≡ Some (later, answer) → Legal next st (events ++ t ∷ []) (answers ++ answer ∷ []) later
one_more = lists.one_more

-- one list after another
pub joined : (st now later : State) (events more : List Timed) (answers told : List Answer)
    → Legal next st events answers now → Legal next now more told later → Legal next st (events ++ more) (answers ++ told) later
joined = lists.joined

-- a beginning of a legal list, and what follows it
pub taken_apart : (st later : State) (events more : List Timed) (answers : List Answer) → Legal next st (events ++ more) answers later
    → (now : State) × Legal next st events (take (length events) answers) now × Legal next now more (drop (length events) answers) later
taken_apart = lists.taken_apart

-- its first event, and the rest
pub first_event : (st later : State) (t : Timed) (more : List Timed) (answers : List Answer) → Legal next st (t ∷ more) answers later
    → (now : State) × (answer : Answer) × (rest : List Answer)
    × (answers ≡ answer ∷ rest) × (next t.size st t.event ≡ Some (now, answer)) × Legal next now more rest later
first_event = lists.first_event

-- the same events have the same answers and the same end
pub legal_unique : (st now later : State) (events : List Timed) (answers told : List Answer) → Legal next st events answers now → Legal next st events told later → (answers ≡ told) × (now ≡ later)
legal_unique = lists.legal_unique

-- an event of a list stands among its moments, of which the laws speak, at its position
pub moment_of_event : (st now after : State) (events more : List Timed) (answers : List Answer) (t : Timed) (answer : Answer) → Legal next st events answers now → next t.size now t.event ≡ Some (after, answer)
    → slice_get (history next st (events ++ t ∷ more)) (length events) ≡ Some (record { before = now; timed = t; answer = answer; after = after })
moment_of_event = lists.moment_of_event

-- Reached states: each opening is one, a legal event leads to another, and what holds of each opening and is kept by each legal event
-- from a reached state holds of all of them.

pub opening_reached : (slots : ℕ) (links : List (Option ℕ)) → are_distinct (linked_values links) ≡ true → IsReached (opening slots links)
opening_reached slots links distinct =
    record { slots = slots; links = links; events = []; answers = []; distinct = distinct; leads = lists.no_event (opening slots links) }

pub reached_next : (st : State) (t : Timed) (d : State × Answer) → IsReached st → next t.size st t.event ≡ Some d → IsReached d.0
reached_next = reached.reached_next

-- a legal list from a reached state ends in one
pub reached_by : (events : List Timed) (st end : State) (answers : List Answer) → IsReached st → Legal next st events answers end → IsReached end
reached_by [] st end answers r legal = subst IsReached legal.end_is r
reached_by (t ∷ events) st end answers r legal =
    let first = lists.first_event st end t events answers legal in
    reached_by events first.0 end first.2 (reached.reached_next st t (first.0, first.1) r first.4) first.5

pub reached_holds : (P : State → Type 0) → ((slots : ℕ) (links : List (Option ℕ)) → are_distinct (linked_values links) ≡ true → P (opening slots links))
    → ((st : State) (t : Timed) (d : State × Answer) → IsReached st → Step t.size st t.event d → P st → P d.0) → (st : State) → IsReached st → P st
reached_holds = states.reached_holds

-- The laws, of every legal list from every opening.

pub law_at_most_once : HoldsOfAll AtMostOnce
law_at_most_once = lists.of_all AtMostOnce at_most_once.law_at_most_once

pub law_after : HoldsOfAll After
law_after = lists.of_all After after.law_after

pub law_quiet : HoldsOfAll Quiet
law_quiet = lists.of_all Quiet quiet.law_quiet

pub law_unused : HoldsOfAll Unused
law_unused = lists.of_all Unused quiet.law_unused

pub law_protection : HoldsOfAll Protection
law_protection = lists.of_all Protection protection.law_protection

pub law_whereabouts : HoldsOfAll Whereabouts
law_whereabouts = lists.of_all Whereabouts whereabouts.law_whereabouts

pub law_gone : HoldsOfAll Gone
law_gone = lists.of_all Gone gone.law_gone

pub law_holders : HoldsOfAll Holders
law_holders = lists.of_all Holders holders.law_holders

pub law_no_later_holders : HoldsOfAll NoLaterHolders
law_no_later_holders = lists.of_all NoLaterHolders later_holders.law_no_later_holders

pub law_under_guard : HoldsOfAll UnderGuard
law_under_guard = lists.of_all UnderGuard under_guard.law_under_guard

pub law_tries : HoldsOfAll Tries
law_tries = lists.of_all Tries tries.law_tries

-- Frames: what an event leaves as it was.

-- the record of another slot, and whether another slot is active
pub slot_frame : (k size : ℕ) (st : State) (event : Event) (d : State × Answer) → Step size st event d → changes_slot k event ≡ false → slot_at d.0 k ≡ slot_at st k
slot_frame = frames.slot_frame

pub active_frame : (k size : ℕ) (st : State) (event : Event) (d : State × Answer) → Step size st event d → changes_slot k event ≡ false → is_active (head_at d.0 k) ≡ is_active (head_at st k)
active_frame = frames.active_frame

-- all heads but the one that an event enters, swaps out or inserts at
pub head_frame : (m size : ℕ) (st : State) (event : Event) (d : State × Answer) → Step size st event d → changes_head_of m event ≡ false → head_at d.0 m ≡ head_at st m
head_frame = frames.head_frame

-- all retired batches but the one that is counted up or down
pub batch_frame : (b size : ℕ) (st : State) (event : Event) (d : State × Answer) → Step size st event d → b < length st.batches → changes_batch st b event ≡ false → batch_at d.0 b ≡ batch_at st b
batch_frame = frames.batch_frame

-- and the values of each, unless it is given up: then all leave it
pub values_kept : (b size : ℕ) (st : State) (event : Event) (d : State × Answer) → Step size st event d → b < length st.batches
    → ((batch_at d.0 b).values ≡ (batch_at st b).values) ⊎ ((batch_at d.0 b).values ≡ [])
values_kept = live.values_kept

-- all links but the one that is exchanged
pub link_frame : (l size : ℕ) (st : State) (event : Event) (d : State × Answer) → Step size st event d → changes_link l event ≡ false → link_at d.0 l ≡ link_at st l
link_frame = frames.link_frame

-- which numbers are in use
pub used_frame : (size : ℕ) (st : State) (event : Event) (d : State × Answer) → Step size st event d → changes_used event ≡ false → used d.0 ≡ used st
used_frame = frames.used_frame

-- whether a value was ever named, and whether it is between a link and its retirement
pub value_frame : (v size : ℕ) (st : State) (event : Event) (d : State × Answer) → Step size st event d → changes_value st v event ≡ false
    → (has v (d.0).named ≡ has v st.named) × (has v (d.0).loose ≡ has v st.loose)
value_frame = frames.value_frame

-- slots made, retired batches and named values only grow, links stay as many
pub slots_length : (size : ℕ) (st : State) (event : Event) (d : State × Answer) → Step size st event d → length (d.0).slots ≡ length st.slots + slots_added st event
slots_length = frames.slots_length

pub heads_length : (st : State) → IsReached st → length st.heads ≡ length st.slots
heads_length st r = (reached.reached_inv st r).sound.lengths

pub batches_length : (size : ℕ) (st : State) (event : Event) (d : State × Answer) → Step size st event d → length (d.0).batches ≡ length st.batches + batches_added event
batches_length = frames.batches_length

pub links_length : (size : ℕ) (st : State) (event : Event) (d : State × Answer) → Step size st event d → length (d.0).links ≡ length st.links
links_length = frames.links_length

pub named_grows : (v size : ℕ) (st : State) (event : Event) (d : State × Answer) → Step size st event d → has v st.named ≡ true → has v (d.0).named ≡ true
named_grows = frames.named_grows

-- what was reclaimed stays so
pub gone_grows : (v size : ℕ) (st : State) (event : Event) (d : State × Answer) → Step size st event d → has v st.gone ≡ true → has v (d.0).gone ≡ true
gone_grows = live.gone_grows

-- a value that came out of a link stays so until a call begins to retire it
pub loose_stays : (v size : ℕ) (st : State) (event : Event) (d : State × Answer) → Step size st event d → begins_retiring v event ≡ false → has v st.loose ≡ true → has v (d.0).loose ≡ true
loose_stays = frames.loose_stays

-- Calls in a reached state.

-- a call that is about to swap its head out is one of an active slot
pub out_active : (st : State) (s : ℕ) (stays : Bool) (queue : List ℕ) → IsReached st → Stands st s (Out stays) queue → is_active (head_at st s) ≡ true
out_active = states.out_active

-- the slots marked are distinct, below the next number to read, and no more than the values of the batch
pub marks_tidy : (st : State) (s next note : ℕ) (marks queue : List ℕ) → IsReached st → Stands st s (Mark next note marks) queue
    → (are_distinct marks ≡ true) × ((v : ℕ) → Contains marks v → v < next) × (length marks ≤ length (slot_at st s).batch)
marks_tidy = states.marks_tidy

-- a call that reads the heads has a batch that is not empty
pub marking_full : (st : State) (s next note : ℕ) (marks queue : List ℕ) → IsReached st → Stands st s (Mark next note marks) queue → 1 ≤ length (slot_at st s).batch
marking_full = live.marking_full

-- and its note is no greater than the number of slots
pub note_within : (st : State) → IsReached st → (s next note : ℕ) (marks queue : List ℕ) → (slot_at st s).call ≡ Some (record { place = Mark next note marks; queue = queue }) → note ≤ length st.slots
note_within st r s next note marks queue e = noted.note_within st s next note marks queue r e

-- the slots where a call has still to insert its batch are distinct, and with the insertions won they are no more than its values
pub looks_tidy : (st : State) (s b won m : ℕ) (later queue : List ℕ) → IsReached st → Stands st s (Look b won m later) queue
    → (are_distinct (m ∷ later) ≡ true) × (won + length (m ∷ later) ≤ length (batch_at st b).values)
looks_tidy = states.looks_tidy

pub tries_tidy : (st : State) (s b won m : ℕ) (later saw queue : List ℕ) → IsReached st → Stands st s (Try b won m later saw) queue
    → (are_distinct (m ∷ later) ≡ true) × (won + length (m ∷ later) ≤ length (batch_at st b).values)
tries_tidy = states.tries_tidy

pub adds_tidy : (st : State) (s b won : ℕ) (queue : List ℕ) → IsReached st → Stands st s (Add b won) queue → won ≤ length (batch_at st b).values
adds_tidy = states.adds_tidy

-- where a call is about to insert its batch at a slot, that slot neither lists nor walks the batch
pub tried_unheld : (st : State) (s b won m : ℕ) (later saw queue : List ℕ) → IsReached st → Stands st s (Try b won m later saw) queue → (Lists st m b → ⊥) × (Walks st m b → ⊥)
tried_unheld = tried.tried_unheld

-- Counts in a reached state.

-- the add of an active slot does not bring the count of its batch to 0
pub adds_above_zero : (st : State) (s b won : ℕ) (queue : List ℕ) → IsReached st → Stands st s (Add b won) queue → is_active (head_at st s) ≡ true → is_zero ((batch_at st b).count +ℤ pos won) ≡ false
adds_above_zero = under_guard.reached_above_zero

-- each lies between minus and plus the number of slots
pub counts_near : (st : State) → IsReached st → (b : ℕ) → (neg_ℤ (pos (length st.slots)) ≤ℤ (batch_at st b).count) × ((batch_at st b).count ≤ℤ pos (length st.slots))
counts_near = states.counts_near

-- at most one call has detached a batch and has still to add to it
pub one_owner : (b i s : ℕ) (st : State) → IsReached st → detached_by (slot_at st i).call ≡ Some b → detached_by (slot_at st s).call ≡ Some b → i ≡ s
one_owner = states.one_owner

-- a batch whose count is 0 is held by nobody, unless a call has still to add to it
pub zero_unheld : (st : State) → IsReached st → (b : ℕ) → (batch_at st b).count ≡ pos 0 → ((s : ℕ) → detached_by (slot_at st s).call ≢ Some b) → (s : ℕ) → (Lists st s b → ⊥) × (Walks st s b → ⊥)
zero_unheld = states.zero_unheld

-- and where an event brings a count to 0, nobody holds the batch, and no call has still to add to it
pub arrives_unheld : (size : ℕ) (st : State) (event : Event) (d : State × Answer) (b : ℕ) → IsReached st → Step size st event d → d.1 ≡ Count (pos 0) → changes_batch st b event ≡ true
    → (s : ℕ) → (Lists d.0 s b → ⊥) × (Walks d.0 s b → ⊥) × (detached_by (slot_at d.0 s).call ≢ Some b)
arrives_unheld = states.arrives_unheld

-- a head lists a batch at most once
pub listed_once : (st : State) → IsReached st → (m : ℕ) → are_distinct (waiting_at (head_at st m)) ≡ true
listed_once = lists_once.listed_once

-- where no call is under way, the count of a batch is how often heads list it
pub count_listed : (st : State) → IsReached st → ((s : ℕ) → (slot_at st s).call ≡ None) → (b : ℕ) → (batch_at st b).count ≡ pos (sum_by (λ (head : Head). occ b (waiting_at head)) st.heads)
count_listed = lists_once.count_listed

-- the count of a batch with no values is 0
pub empty_zero : (st : State) → IsReached st → (b : ℕ) → (batch_at st b).values ≡ [] → (batch_at st b).count ≡ pos 0
empty_zero = live.empty_zero

-- Numbers that are not in use, and the rest.

-- the slot of a number that is not in use has no values and no call, and is inactive
pub free_empty : (st : State) → IsReached st → (s : ℕ) → (slot_at st s).used ≡ false → (slot_at st s ≡ no_slot) × (is_active (head_at st s) ≡ false)
free_empty = unused.free_empty

-- where every number is in use the rest is empty
pub no_rest : (st : State) → IsReached st → list_any (λ u. not u) (used st) ≡ false → st.rest ≡ []
no_rest = unused.no_rest

-- the rest, which only takes, gives and gatherings change
pub rest_frame : (size : ℕ) (st : State) (event : Event) (d : State × Answer) → Step size st event d → changes_numbers event ≡ false → (d.0).rest ≡ st.rest
rest_frame = frames.rest_frame

-- Values in a reached state.

-- the places of a value have just the named ones, each once
pub named_placed : (st : State) → IsReached st → (are_distinct (places st) ≡ true) × ((v : ℕ) → Contains (places st) v ↔ (has v st.named ≡ true))
named_placed = whereabouts.named_placed

-- a value that waits in a slot's batch or in the rest, or is in a retired batch, was named, and is neither out of a link nor in one
pub waiting_settled : (st : State) → IsReached st → (s v : ℕ) → Contains (slot_at st s).batch v → IsSettled v st
waiting_settled = lists_once.waiting_settled

pub batched_settled : (st : State) → IsReached st → (b v : ℕ) → Contains (batch_at st b).values v → IsSettled v st
batched_settled = lists_once.batched_settled

pub rest_settled : (st : State) → IsReached st → (v : ℕ) → Contains st.rest v → IsSettled v st
rest_settled = lists_once.rest_settled

-- a batch that is held has values
pub held_full : (st : State) → IsReached st → (b : ℕ) → IsHeld st b → 1 ≤ length (batch_at st b).values
held_full = live.held_full

-- a value of a retired batch was named and is not gone
pub batched_named : (st : State) → IsReached st → (b v : ℕ) → Contains (batch_at st b).values v → (has v st.named ≡ true) × (has v st.gone ≡ false)
batched_named = live.batched_named

-- and it is in no other retired batch
pub batched_once : (st : State) → IsReached st → (b c v : ℕ) → Contains (batch_at st b).values v → Contains (batch_at st c).values v → b ≡ c
batched_once = live.batched_once

-- nor twice in its batch
pub batch_distinct : (st : State) → IsReached st → (b : ℕ) → are_distinct (batch_at st b).values ≡ true
batch_distinct = tried.batch_distinct

-- a value in a link was named and is not gone
pub linked_named : (st : State) → IsReached st → (l v : ℕ) → link_at st l ≡ Some v → (has v st.named ≡ true) × (has v st.gone ≡ false)
linked_named = live.linked_named

-- and it is not loose
pub linked_not_loose : (st : State) → IsReached st → (l v : ℕ) → link_at st l ≡ Some v → has v st.loose ≡ false
linked_not_loose = live.linked_not_loose

-- a value that came out of a link and that no call began to retire was named and is not gone
pub loose_named : (st : State) → IsReached st → (v : ℕ) → has v st.loose ≡ true → (has v st.named ≡ true) × (has v st.gone ≡ false)
loose_named = live.loose_named

-- a value that is gone was named
pub gone_named : (st : State) → IsReached st → (v : ℕ) → has v st.gone ≡ true → has v st.named ≡ true
gone_named = live.gone_named

-- Keeping back: `KeptIn s v st` holds from a link read on, every event but the slot's own swap keeps it, and while it holds v isn't
-- handed.

pub kept_from_link : (s v l : ℕ) (st : State) → IsReached st → can_link st s l ≡ true → link_at st l ≡ Some v → KeptIn s v st
kept_from_link s v l st r may found =
    let sees : protection.Sees s v st = protection.seen s v st s l may (grind arith) found in
    let once = (reached.reached_inv st r).once v in
    after.keeps_new s v st (omega (arith, once.once, protection.unretired v st, sees.1)) sees.0

pub kept_step : (s v size : ℕ) (st : State) (event : Event) (d : State × Answer) → IsReached st → Step size st event d → event ≢ SwapOut s → KeptIn s v st → KeptIn s v d.0
kept_step s v size st event d r step stays k = kept.kept_step s v size st event d step stays (reached.reached_inv st r).sound k

pub kept_not_handed : (s v size : ℕ) (st : State) (event : Event) (d : State × Answer) → Step size st event d → KeptIn s v st → handed_value d.1 ≢ Some v
kept_not_handed s v size st event d step k h = omega (arith, invariants.handed_given v size st event d step h, k.not_given)
