-- How a call inserts the batch that it detached, at the slots that it marked, one after the other.
--     InsertTries            what a call did at one slot: the insertions lost there, and whether one was won or the slot was skipped
--     insert_events pass s m turn   its events, with the pass: before each try slot s read the head of slot m; last it won, or found m
--                            inactive
--     all_insert_events pass s ms turns   those of a turn at each of these slots, in order;  won_in turns     how many insertions were won
--     plan_in key b          how batch b was detached, as the slot's key knows
--     Continues key pass key' pass'  it goes on (Onward), the slot's batch is as it was, and the pass has seen no fewer slots
--     IsAtTry key head header seen block front     the slot's call is about to insert its batch at this head, where it saw this word, with
--                            the block of this number and header; and this is the number of the batch's first block
--     TriesOnce at pass key' pass' won   it tried once, and won or lost
--     IsAtSlot key m block front     the slot's call is about to read the head of slot m again, to insert its batch there with this block
--     IsAtHead key pass head header block front     so it is at this head, whose slot was seen, and this is the block's header
--     IsAtNext key pass round front     so it is at the slot that is noted of the next block of the round, with this block
--     GoesPast next round'       the round went past it
--     InsertsAtSlot at pass key' pass' won   it took a turn there, and is at the next slot
--     IsInserting key pass marks front values   the slot's call is about to do so at these slots, each with its block, with the batch of
--                            these values
--     InsertsAtEach at pass key' pass' won   it took a turn at each, and is about to add this many insertions
use Rattle.std.specs.Prelude.{◌≡◌, ℕ, zero, suc, ◌+◌, ◌<◌, ◌≤◌, ◌^◌, Bool, true, false, if◌then◌else◌, List, [], ◌∷◌, ◌++◌, length, Some, slice_index_or}
use Rattle.seize_machine.specs.Machine.Event.{Insert}
use Rattle.seize_machine.specs.Machine.Next.{look}
use Rattle.seize_machine.specs.Machine.State.{Add, Look, has}
use Rattle.seize_machine.specs.declared.machine.event.Answer.{Answer}
use Rattle.seize_machine.specs.declared.machine.event.Answer.TheVariants.{Done}
use Rattle.seize_machine.specs.declared.machine.event.Try.{Try as Insertion}
use Rattle.seize_machine.specs.declared.machine.event.Try.TheVariants.{Won, Lost}
use Rattle.seize_book.specs.Adding.{private}
use Rattle.seize_book.specs.Blocks.{Plan, block_in, block_number, no_plan, plan_value, plans}
use Rattle.seize_words.specs.Chunks.{header_home}
use Rattle.seize_book.specs.Entry.{Deed, Entry}
use Rattle.seize_words.specs.Counts.{values_in}
use Rattle.seize_words.specs.Headers.{IsFrontBlock}
use Rattle.seize_words.specs.Heads.{IsTrying}
use Rattle.seize_book.specs.Homes.{home_of}
use Rattle.seize_book.specs.Homesteads.{state_seen}
use Rattle.seize_book.specs.Ledger.{HeldKey}
use Rattle.seize_book.specs.Passes.{events_by}
use Rattle.seize_words.specs.Reservations.{slot}
use Rattle.seize_book.specs.Slots.{own_list, slot_number, slot_of, start_of}
use Rattle.seize_words.specs.Totals.{slots_seen}
use Rattle.seize_book.specs.declared.book.pass.Pass.{Pass}
use Rattle.seize_book.specs.declared.book.slot_key.SlotKey.{SlotKey}
use Rattle.seize_words.specs.declared.chunk.Header.{Header}
use Rattle.seize_words.specs.declared.reservation.Head.{Head}
use Rattle.seize_calls.specs.Alone.{Onward}
use Rattle.seize_calls.specs.Batches.{SlotMark, marked_slots, slot_in}
use Rattle.seize_calls.specs.Marks.{reading}
use Rattle.seize_calls.specs.Rounds.{book_at, done_in, rest_in}
use Rattle.seize_calls.specs.declared.round.Round.{Round}

-- Events.

pub record InsertTries : Type 0 where
  pub lost : ℕ
  pub won : Bool

abbrev pub trying : Pass → ℕ → ℕ → Insertion → Deed × Answer
trying pass s m ends = (private pass (Insert s m ends), Done)

abbrev pub losses : Pass → ℕ → ℕ → ℕ → List (Deed × Answer)
losses pass s m zero = []
losses pass s m (suc lost) = losses pass s m lost ++ reading pass s m true ∷ trying pass s m Lost ∷ []

abbrev pub last_at : Pass → ℕ → ℕ → Bool → List (Deed × Answer)
last_at pass s m true = reading pass s m true ∷ trying pass s m Won ∷ []
last_at pass s m false = reading pass s m false ∷ []

abbrev pub insert_events : Pass → ℕ → ℕ → InsertTries → List (Deed × Answer)
insert_events pass s m turn = losses pass s m turn.lost ++ last_at pass s m turn.won

abbrev pub all_insert_events : Pass → ℕ → List ℕ → List InsertTries → List (Deed × Answer)
all_insert_events pass s (m ∷ ms) (turn ∷ turns) = insert_events pass s m turn ++ all_insert_events pass s ms turns
all_insert_events pass s _ _ = []

abbrev pub won_in : List InsertTries → ℕ
won_in [] = 0
won_in (turn ∷ turns) = (if turn.won then 1 else 0) + won_in turns

-- Where the call stands.

abbrev pub plan_in : SlotKey → ℕ → Plan
plan_in key b = slice_index_or (plans (start_of key) (own_list key)) b no_plan

pub record Continues (key : SlotKey) (pass : Pass) (key' : SlotKey) (pass' : Pass) : Type 0 where
  pub on : Onward key pass key' pass'
  pub batch : (slot_of key').batch ≡ (slot_of key).batch
  pub seen : slots_seen pass ≤ slots_seen pass'

pub record IsAtTry (key : SlotKey) (head : Head) (header : Header) (seen block front : ℕ) : Type 0 where
  pub tries : IsTrying (start_of key) (slot_number key) (own_list key) (slot head) seen block
  pub fits : block + 2 < 2 ^ 64
  pub its_home : home_of (let plan = plan_in key tries.batch in plan_value (slot head) plan.slots plan.values) ≡ header_home header
  pub its_front : IsFrontBlock key tries.batch front

pub record TriesOnce {key : SlotKey} {head : Head} {header : Header} {seen block front : ℕ} (at : IsAtTry key head header seen block front)
    (pass : Pass) (key' : SlotKey) (pass' : Pass) (won : Bool) : Type 0 where
  pub keeps : Continues key pass key' pass'
  pub made : events_by pass' ≡ events_by pass ++ trying pass (slot_number key) (slot head) (if won then Won else Lost) ∷ []
  pub planned : plan_in key' at.tries.batch ≡ plan_in key at.tries.batch
  pub stands : let t = at.tries in
      let place = if won then look t.batch (t.won + 1) t.later else Look t.batch t.won (slot head) t.later in
      (slot_of key').call ≡ Some (record { place = place; queue = t.queue })

pub record IsAtSlot (key : SlotKey) (m block front : ℕ) : Type 0 where
  pub batch : ℕ
  pub won : ℕ
  pub later : List ℕ
  pub queue : List ℕ
  pub looking : (slot_of key).call ≡ Some (record { place = Look batch won m later; queue = queue })
  pub its_block : block ≡ block_in (plan_in key batch) m
  pub its_front : IsFrontBlock key batch front

pub record IsAtHead (key : SlotKey) (pass : Pass) (head : Head) (header : Header) (block front : ℕ) : Type 0 where
  pub at : IsAtSlot key (slot head) block front
  pub home : home_of (let plan = plan_in key at.batch in plan_value (slot head) plan.slots plan.values) ≡ header_home header
  pub fits : block + 2 < 2 ^ 64
  pub seen : slot head < slots_seen pass

pub record InsertsAtSlot {key : SlotKey} {m block front : ℕ} (at : IsAtSlot key m block front) (pass : Pass) (key' : SlotKey) (pass' : Pass)
    (won : Bool) : Type 0 where
  pub keeps : Continues key pass key' pass'
  pub lost : ℕ
  pub made : events_by pass' ≡ events_by pass ++ insert_events pass (slot_number key) m (record { lost = lost; won = won })
  pub planned : plan_in key' at.batch ≡ plan_in key at.batch
  pub stands : (slot_of key').call ≡ Some (record { place = look at.batch (if won then at.won + 1 else at.won) at.later; queue = at.queue })

-- It is about to do so at the slot that is noted of the next block of the round.
pub record IsAtNext (key : SlotKey) (pass : Pass) (round : Round) (front : ℕ) : Type 0 where
  pub first : HeldKey Entry
  pub others : List (HeldKey Entry)
  pub is_first : rest_in round ≡ first ∷ others
  pub at : IsAtSlot key (slot_in first.note) (block_number first.label) front
  pub seen : slot_in first.note < slots_seen pass
  pub named : has first.label (state_seen pass).named ≡ true

abbrev pub GoesPast : {key : SlotKey} {pass : Pass} {round : Round} {front : ℕ} → IsAtNext key pass round front → Round → Type 0
GoesPast {round = round} next round' =
    (book_at round' ≡ book_at round) × (done_in round' ≡ done_in round ++ next.first ∷ []) × (rest_in round' ≡ next.others)

-- each slot is noted of the block for it, and was seen
abbrev pub ArePlanned : Plan → ℕ → List SlotMark → Type 0
ArePlanned plan seen [] = Unit {0}
ArePlanned plan seen (mark ∷ marks) =
    ((mark.block ≡ block_in plan mark.slot) × (mark.slot < seen)) × ArePlanned plan seen marks

pub record IsInserting (key : SlotKey) (pass : Pass) (marks : List SlotMark) (front : ℕ) (values : List ℕ) : Type 0 where
  pub batch : ℕ
  pub won : ℕ
  pub queue : List ℕ
  pub stands : (slot_of key).call ≡ Some (record { place = look batch won (marked_slots marks); queue = queue })
  pub planned : ArePlanned (plan_in key batch) (slots_seen pass) marks
  pub its_front : IsFrontBlock key batch front
  pub its_values : values ≡ values_in key batch

pub record InsertsAtEach {key : SlotKey} {pass : Pass} {marks : List SlotMark} {front : ℕ} {values : List ℕ}
    (at : IsInserting key pass marks front values) (key' : SlotKey) (pass' : Pass) (won : ℕ) : Type 0 where
  pub keeps : Continues key pass key' pass'
  pub turns : List InsertTries
  pub each : length turns ≡ length marks
  pub made : events_by pass' ≡ events_by pass ++ all_insert_events pass (slot_number key) (marked_slots marks) turns
  pub many : won ≡ won_in turns
  pub planned : plan_in key' at.batch ≡ plan_in key at.batch
  pub stands : (slot_of key').call ≡ Some (record { place = Add at.batch (at.won + won); queue = at.queue })
