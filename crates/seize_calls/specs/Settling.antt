-- What a slot's call does with its slot's batch, and with the further values in its queue.
--     CallState              where a call stands: the slot's key, its pass, the keys of the slot's batch and of the queue, and what the
--                            reclaimer had so far;  call_state holder pass queue had     by what its caller holds
--     HasBatch key pass values    these are the keys of the values of the slot's batch, and of each the list says what is kept of it
--     IsToMark key queue     the slot's call is to read the first head, and has these values in its queue
--     HasQueue key queue     it has nothing else to do but with these
--     MarksFrom least key queue     it is to mark where its slot's batch has `least` values or more, and else it has its queue alone
--     MayPut key v queue     it is to put v, which it retires, or which is the first of its queue; then it has these
--     Stays least a b        the batch stays: the heads were read, and one slot more was active than it has values; or none was read, and
--                            it has fewer values than `least`. The keys are as they were, with all that is noted but the slots, and the
--                            reclaimer had nothing more
--     RetiresBatch a b       the batch was retired: an attempt with these events, and each value of the batch handed if the count came
--                            to 0, which the reclaimer had, each with what was kept of it (HasHad), as the list says; what was put came
--                            to the queue, last. Where the slot is active none was handed
--     Settles least a b retired    one or the other: it was attempted, if it has `least` values or more
--     PutsValue key pass v key' pass'     the call put v to the slot's batch
--     DrainsOne a v kept b retired   it put v, of which this is kept, and then it settled with v as the last: a full batch was attempted,
--                            which has as many values as the batch size of the pass, and one at least
--     Drains a b             rounds with the values of its queue: as often as they came, with the first of them each time
--     DrainsAll a b          so it went on until none was left
use Rattle.std.specs.Prelude.{◌≡◌, ◌⊎◌, ℕ, ℤ, suc, ◌<◌, ◌≤◌, max, Bool, true, false, if◌then◌else◌, List, [], ◌∷◌, ◌++◌, length, Some}
use Rattle.seize_machine.specs.Machine.Event.{AddCount, Detach, Event, Put}
use Rattle.seize_machine.specs.Machine.Next.{is_zero}
use Rattle.seize_machine.specs.Machine.State.{Append, Place, Rest}
use Rattle.seize_machine.specs.declared.machine.event.Answer.{Answer}
use Rattle.seize_machine.specs.declared.machine.event.Answer.TheVariants.{Count, Done}
use Rattle.seize_book.specs.Adding.{private}
use Rattle.seize_book.specs.Entry.{Deed}
use Rattle.seize_book.specs.Passes.{events_by}
use Rattle.seize_book.specs.Slots.{active_of, slot_number, slot_of}
use Rattle.seize_book.specs.Values.{AreOfBook, IsEmpty, values_of}
use Rattle.seize_book.specs.declared.book.pass.Pass.{Pass}
use Rattle.seize_book.specs.declared.book.slot_key.SlotKey.{SlotKey}
use Rattle.seize_book.specs.declared.book.value_keys.ValueKeys.{ValueKeys}
use Rattle.seize_calls.specs.Alone.{Onward}
use Rattle.seize_book.specs.Kept.{AllTold, AreTold, kepts_of}
use Rattle.seize_calls.specs.Batches.{AreRemarked, IsPushed, keys_in}
use Rattle.seize_calls.specs.Furthers.{further_in}
use Rattle.seize_calls.specs.Handing.{Had, Handings, HasHad, Queues, TakesFirst, values_handed, values_put, words_put}
use Rattle.seize_calls.specs.Inserts.{InsertTries, all_insert_events}
use Rattle.seize_calls.specs.Marks.{BeginsToMark, actives, readings}
use Rattle.seize_calls.specs.Walking.{hands}
use Rattle.seize_calls.specs.declared.further.Further.{Further}
use Rattle.seize_calls.specs.declared.holder.Holder.{Holder}

pub record CallState : Type 0 where
  pub key : SlotKey
  pub pass : Pass
  pub batch : ValueKeys
  pub queue : ValueKeys
  pub had : Had

abbrev pub call_state : {T : Type 0} → Holder T → Pass → Further → Had → CallState
call_state holder pass queue had =
    record { key = holder.key; pass = pass; batch = keys_in holder.batch; queue = further_in queue; had = had }

abbrev pub HasBatch : SlotKey → Pass → ValueKeys → Type 0
HasBatch key pass values = AreOfBook values pass × (values_of values ≡ (slot_of key).batch) × AreTold values pass

abbrev pub IsToMark : SlotKey → ValueKeys → Type 0
IsToMark key queue = (at : BeginsToMark key) × (at.queue ≡ values_of queue)

abbrev pub HasQueue : SlotKey → ValueKeys → Type 0
HasQueue key queue = (slot_of key).call ≡ Some (record { place = Rest [] []; queue = values_of queue })

abbrev pub MarksFrom : ℕ → SlotKey → ValueKeys → Type 0
MarksFrom least key queue =
    let many = length (slot_of key).batch in
    (least ≤ many → IsToMark key queue) × (many < max 1 least → HasQueue key queue)

abbrev pub MayPut : SlotKey → ℕ → ValueKeys → Type 0
MayPut key v queue =
    (from : Place) × (before : List ℕ) × ((slot_of key).call ≡ Some (record { place = from; queue = before }))
    × (((from ≡ Append v) × (before ≡ values_of queue)) ⊎ ((from ≡ Rest [] []) × (before ≡ v ∷ values_of queue)))

-- an event by itself, with its answer
abbrev pub done_event : Pass → Event → List (Deed × Answer)
done_event pass event = (private pass event, Done) ∷ []

pub record Stays (least : ℕ) (a b : CallState) : Type 0 where
  pub on : Onward a.key a.pass b.key b.pass
  pub batch : (slot_of b.key).batch ≡ (slot_of a.key).batch
  pub rests : HasQueue b.key b.queue
  pub finds : List Bool
  pub made : events_by b.pass ≡ events_by a.pass ++ readings a.pass (slot_number a.key) 0 finds
  pub too_few : let many = length (slot_of a.key).batch in
      ((finds ≡ []) × (many < least)) ⊎ (length (actives 0 finds) ≡ suc many)
  pub keys : AreRemarked a.batch b.batch
  pub queued : Queues a.queue [] [] b.queue
  pub had_none : b.had ≡ a.had

pub record RetiresBatch (a b : CallState) : Type 0 where
  pub on : Onward a.key a.pass b.key b.pass
  pub batch : (slot_of b.key).batch ≡ []
  pub rests : HasQueue b.key b.queue
  pub finds : List Bool
  pub turns : List InsertTries
  pub each : length turns ≡ length (actives 0 finds)
  pub count : ℤ
  pub handed : Handings
  pub which : values_handed handed ≡ (if is_zero count then (slot_of a.key).batch else [])
  pub under_guard : active_of a.key ≡ true → handed ≡ []
  pub made : let s = slot_number a.key in let before = events_by a.pass in
      events_by b.pass
      ≡ ((((before ++ readings a.pass s 0 finds) ++ done_event a.pass (Detach s)) ++ all_insert_events a.pass s (actives 0 finds) turns)
      ++ (private a.pass (AddCount s), Count count) ∷ []) ++ hands a.pass s handed
  pub none : IsEmpty b.batch b.pass
  pub queued : Queues a.queue (values_put handed) (words_put handed) b.queue
  pub has_had : HasHad handed (if is_zero count then kepts_of a.batch else []) a.had b.had
  pub told : AllTold b.pass.seen (values_handed handed) (if is_zero count then kepts_of a.batch else [])

-- a batch that is not attempted stays as well, and then no head was read
abbrev pub Settles : ℕ → CallState → CallState → Bool → Type 0
Settles least a b false = Stays least a b
Settles least a b true = RetiresBatch a b

pub record PutsValue (key : SlotKey) (pass : Pass) (v : ℕ) (key' : SlotKey) (pass' : Pass) : Type 0 where
  pub on : Onward key pass key' pass'
  pub batch : (slot_of key').batch ≡ (slot_of key).batch ++ v ∷ []
  pub made : events_by pass' ≡ events_by pass ++ done_event pass (Put (slot_number key))

pub record DrainsOne (a : CallState) (v kept : ℕ) (b : CallState) (retired : Bool) : Type 0 where
  pub full : CallState
  pub puts : PutsValue a.key a.pass v full.key full.pass
  pub pushed : IsPushed a.batch v kept full.batch
  pub same : (full.queue ≡ a.queue) × (full.had ≡ a.had)
  pub settles : Settles (max 1 a.pass.size) full b retired

pub data Drains (a : CallState) : CallState → Type 0 where
  over : Drains a a
  goes_on : (b c : CallState) (queue : ValueKeys) (v kept : ℕ) (retired : Bool) → Drains a b → TakesFirst b.queue v kept queue
      → DrainsOne (record { key = b.key; pass = b.pass; batch = b.batch; queue = queue; had = b.had }) v kept c retired → Drains a c

pub record DrainsAll (a b : CallState) : Type 0 where
  pub on : Onward a.key a.pass b.key b.pass
  pub drains : Drains a b
  pub rests : HasQueue b.key b.queue
  pub none : values_of b.queue ≡ []
