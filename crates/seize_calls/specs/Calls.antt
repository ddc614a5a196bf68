-- Whole calls of a slot, from where they begin to where no call is under way.
--     IsInside key           no call of the slot is under way, and it is active
--     HasBegun a pass        the activation has begun, as the pass has seen: its slot was active with what it began with
--     Begins key pass job kepts key' pass'     the call began with this job, and said these words of what it retires
--     BeginsSo key pass job kepts values had a     and stands there, with nothing in its queue
--     Returns a key' pass' values had     the call returned, with nothing in its queue
--     Ends a key' pass' values had     the call drained its queue (DrainsAll), and returned
--     Rests key pass key' pass' values'   no call of the slot is under way then, and these are the keys of its batch; whether it is in use
--                        is as before. The pass has seen what it had seen (`grows`), and what was added is as AddsAlone and AddsOwn say.
--                        The key has seen all that the pass has (`sees`). So where the pass had seen what the key knew, the events of
--                        the call are all that the slot made since, but for steps on links
--     Flushes key pass values had key' pass' values' had' retired     a flush: it began, settled a batch that wasn't empty, and ended
--     RetiresOne key pass v kept values had key' pass' values' had' retired     a retirement: it began, v was put, of which this is
--                        kept, and then it settled with v as the last, drained its queue, and returned (DrainsOne, Ends)
--     BeginsToAttempt key    the slot's call is to read the first head, with nothing in its queue
--     Resumes key pass values had key' pass' values' had'     so a call stood that a take or a gathering began: it attempted the batch
--                        (Settles), drained its queue, and returned
--     job_of stays, life_when stays life     the job of a slot that swaps its head out, and stays active or not;  the lifetime that begins
--                        then, and none where the slot leaves
--     SwapsOut job swap s pass out walk     `out` is the pass after the swap and before the first count: a call of slot s began with this
--                        job, the head was swapped out by this entry, and the call is about to walk these batches, which came out
--     Leaves job stays swap key pass values had key' pass' values' had'     a leave or a refresh: it began, the head was swapped out by
--                        this entry, and as many batches as came out were counted down (`each`); each such event takes the next one.
--                        What was given up was handed before the next. Then the call had its queue alone, and the slot's batch as it was
--                        (`stands`, `kept`); it drained the queue, and returned. The slot is active afterwards or not. The reclaimer had
--                        what was handed (HasHad), each value with the word that the list says is kept of it
use Rattle.std.specs.Prelude.{◌≡◌, ℕ, ℤ, Bool, true, false, List, [], ◌∷◌, ◌++◌, None, Some, length}
use mathlib.Core.List.{IsPrefix}
use Rattle.seize_machine.specs.Machine.Event.{Begin, Return}
use Rattle.seize_machine.specs.Machine.State.{Rest, head_at, is_active, is_idle, slot_at}
use Rattle.seize_machine.specs.declared.machine.event.Answer.TheVariants.{Done}
use Rattle.seize_machine.specs.declared.machine.event.Job.{Job}
use Rattle.seize_machine.specs.declared.machine.event.Job.TheVariants.{Flush, Leave, Refresh, Retire}
use Rattle.seize_book.specs.Book.{after}
use Rattle.seize_book.specs.Adding.{deed_with_words}
use Rattle.seize_book.specs.Entry.{Deed}
use Rattle.seize_book.specs.Homesteads.{state_seen}
use Rattle.seize_book.specs.Kept.{AllTold, kepts_of}
use Rattle.seize_book.specs.Laws.{life}
use Rattle.seize_book.specs.Tokens.{start}
use Rattle.seize_words.specs.Named.{slot_book}
use Rattle.seize_book.specs.Passes.{IsSamePass, events_by}
use Rattle.seize_book.specs.Slots.{active_of, life_of, own_list, slot_number, slot_of}
use Rattle.seize_book.specs.Values.{values_of}
use Rattle.seize_book.specs.declared.book.pass.Pass.{Pass}
use Rattle.seize_words.specs.declared.activation.Activation.{Activation}
use Rattle.seize_book.specs.declared.book.slot_key.SlotKey.{SlotKey}
use Rattle.seize_book.specs.declared.book.value_keys.ValueKeys.{ValueKeys}
use Rattle.seize_calls.specs.Alone.{AddsAlone, AddsOwn}
use Rattle.seize_calls.specs.Handing.{Had, Handings, HasHad, values_handed, values_put, words_put}
use Rattle.seize_calls.specs.Inserts.{Continues}
use Rattle.seize_calls.specs.Marks.{BeginsToMark}
use Rattle.seize_calls.specs.Settling.{CallState, DrainsAll, DrainsOne, HasBatch, HasQueue, Settles, done_event}
use Rattle.seize_calls.specs.Walking.{handed_in, steps}

abbrev pub IsInside : SlotKey → Type 0
IsInside key = (is_idle (slot_of key) ≡ true) × (active_of key ≡ true)

pub record HasBegun (a : Activation) (pass : Pass) : Type 0 where
  pub book : a.name ≡ pass.name
  pub active : is_active (head_at (after (start a.name) a.since) a.slot) ≡ true
  pub its : life a.slot a.since ≡ a.life
  pub known : IsPrefix a.since pass.seen

pub record Begins (key : SlotKey) (pass : Pass) (job : Job) (kepts : List ℕ) (key' : SlotKey) (pass' : Pass) : Type 0 where
  pub keeps : Continues key pass key' pass'
  pub made : events_by pass' ≡ events_by pass ++ (deed_with_words pass (Begin (slot_number key) job) kepts, Done) ∷ []

pub record BeginsSo (key : SlotKey) (pass : Pass) (job : Job) (kepts : List ℕ) (values : ValueKeys) (had : Had)
    (a : CallState) : Type 0 where
  pub begins : Begins key pass job kepts a.key a.pass
  pub batch : a.batch ≡ values
  pub none : values_of a.queue ≡ []
  pub had_none : a.had ≡ had

pub record Returns (a : CallState) (key' : SlotKey) (pass' : Pass) (values : ValueKeys) (had : Had) : Type 0 where
  pub keeps : Continues a.key a.pass key' pass'
  pub made : events_by pass' ≡ events_by a.pass ++ done_event a.pass (Return (slot_number a.key))
  pub batch : values ≡ a.batch
  pub none : values_of a.queue ≡ []
  pub had_none : had ≡ a.had

pub record Ends (a : CallState) (key' : SlotKey) (pass' : Pass) (values : ValueKeys) (had : Had) : Type 0 where
  pub drained : CallState
  pub drains : DrainsAll a drained
  pub returns : Returns drained key' pass' values had
  pub call : (slot_of key').call ≡ None
  pub sees : own_list key' ≡ pass'.seen

pub record Rests (key : SlotKey) (pass : Pass) (key' : SlotKey) (pass' : Pass) (values' : ValueKeys) : Type 0 where
  pub same : IsSamePass pass pass'
  pub grows : IsPrefix pass.seen pass'.seen
  pub alone : AddsAlone pass pass'
  pub own : AddsOwn key pass key'
  pub sees : own_list key' ≡ pass'.seen
  pub its : (slot_book key' ≡ slot_book key) × (slot_number key' ≡ slot_number key)
  pub call : (slot_of key').call ≡ None
  pub used : (slot_of key').used ≡ (slot_of key).used
  pub batch : HasBatch key' pass' values'

pub record Flushes (key : SlotKey) (pass : Pass) (values : ValueKeys) (had : Had) (key' : SlotKey) (pass' : Pass) (values' : ValueKeys)
    (had' : Had) (retired : Bool) : Type 0 where
  pub begun : CallState
  pub begins : BeginsSo key pass Flush [] values had begun
  pub settled : CallState
  pub settles : Settles 1 begun settled retired
  pub ends : Ends settled key' pass' values' had'
  pub rests : Rests key pass key' pass' values'
  pub active : active_of key' ≡ active_of key
  pub life : life_of key' ≡ life_of key

pub record RetiresOne (key : SlotKey) (pass : Pass) (v kept : ℕ) (values : ValueKeys) (had : Had) (key' : SlotKey) (pass' : Pass)
    (values' : ValueKeys) (had' : Had) (retired : Bool) : Type 0 where
  pub begun : CallState
  pub begins : BeginsSo key pass (Retire v) (kept ∷ []) values had begun
  pub settled : CallState
  pub drains_one : DrainsOne begun v kept settled retired
  pub ends : Ends settled key' pass' values' had'
  pub rests : Rests key pass key' pass' values'
  pub active : active_of key' ≡ active_of key
  pub life : life_of key' ≡ life_of key

abbrev pub BeginsToAttempt : SlotKey → Type 0
BeginsToAttempt key = (at : BeginsToMark key) × (at.queue ≡ [])

pub record Resumes (key : SlotKey) (pass : Pass) (values : ValueKeys) (had : Had) (key' : SlotKey) (pass' : Pass) (values' : ValueKeys)
    (had' : Had) : Type 0 where
  pub queue : ValueKeys
  pub none : values_of queue ≡ []
  pub settled : CallState
  pub retired : Bool
  pub settles : Settles 0 (record { key = key; pass = pass; batch = values; queue = queue; had = had }) settled retired
  pub ends : Ends settled key' pass' values' had'
  pub rests : Rests key pass key' pass' values'
  pub active : active_of key' ≡ active_of key
  pub life : life_of key' ≡ life_of key

abbrev pub job_of : Bool → Job
job_of true = Refresh
job_of false = Leave

abbrev pub life_when : Bool → ℕ → ℕ
life_when true life = life
life_when false _ = 0

pub record SwapsOut (job : Job) (swap : Deed) (s : ℕ) (pass out : Pass) (walk : List ℕ) : Type 0 where
  pub same : IsSamePass pass out
  pub grows : IsPrefix pass.seen out.seen
  pub made : events_by out ≡ (events_by pass ++ done_event pass (Begin s job)) ++ (swap, Done) ∷ []
  pub stands : (slot_at (state_seen out) s).call ≡ Some (record { place = Rest [] walk; queue = [] })

pub record Leaves (job : Job) (stays : Bool) (swap : Deed) (key : SlotKey) (pass : Pass) (values : ValueKeys) (had : Had)
    (key' : SlotKey) (pass' : Pass) (values' : ValueKeys) (had' : Had) : Type 0 where
  pub walk : List ℕ
  pub out : Pass
  pub swaps_out : SwapsOut job swap (slot_number key) pass out walk
  pub walked : List (ℤ × Handings)
  pub each : length walked ≡ length walk
  pub kepts : List ℕ
  pub behind : CallState
  pub grows : IsPrefix out.seen behind.pass.seen
  pub its : (slot_book behind.key ≡ slot_book key) × (slot_number behind.key ≡ slot_number key)
  pub stands : HasQueue behind.key behind.queue
  pub kept : (slot_of behind.key).batch ≡ (slot_of key).batch
  pub made : events_by behind.pass ≡ events_by out ++ steps pass (slot_number key) walked
  pub has_had : HasHad (handed_in walked) kepts had behind.had
  pub told : AllTold behind.pass.seen (values_handed (handed_in walked)) kepts
  pub queued : let handed = handed_in walked in
      (values_of behind.queue ≡ values_put handed) × (kepts_of behind.queue ≡ words_put handed)
  pub batch : behind.batch ≡ values
  pub ends : Ends behind key' pass' values' had'
  pub rests : Rests key pass key' pass' values'
  pub active : active_of key' ≡ stays
