-- What each event does: `next`, the one transition function, which is total and computes.
use Rattle.std.specs.Prelude.{ℕ, ◌+◌, ℤ, pos, negsuc, ◌+ℤ◌, ◌-ℤ◌, Bool, true, false, not, ◌&&◌, ◌||◌, ◌==◌, if◌then◌else◌, nat_lt, nat_le, max, List, [], ◌∷◌, ◌++◌, length, slice_set, Option, Some, None, option_to_list, unwrap_or}
use Rattle.std.specs.List.{list_all, list_any, position_or_len, filter}
use Rattle.seize_table.specs.Place.{all_numbers}
use Rattle.seize_machine.specs.Machine.State.{no_slot, State, Slot, Progress, Head, Inactive, Active, Place, Append, Mark, Look, Try, Add, Out, Rest, slot_at, head_at, batch_at, link_at, is_active, waiting_at, is_idle, has, are_distinct}
use Rattle.seize_machine.specs.Machine.Event.{Event, Take, Give, Enter, Begin, Put, ReadHead, Detach, Insert, AddCount, SwapOut, SubCount, Hand, Return, ReadLink, ExchangeLink}
use Rattle.seize_machine.specs.declared.machine.event.Job.{Job}
use Rattle.seize_machine.specs.declared.machine.event.Job.TheVariants.{Retire, Flush, Leave, Refresh, Gather}
use Rattle.seize_machine.specs.declared.machine.event.Try.TheVariants.{Won, Lost}
use Rattle.seize_machine.specs.declared.machine.event.Exchange.{Exchange}
use Rattle.seize_machine.specs.declared.machine.event.Exchange.TheVariants.{Swap, Compare}
use Rattle.seize_machine.specs.declared.machine.event.Answer.{Answer}
use Rattle.seize_machine.specs.declared.machine.event.Answer.TheVariants.{Done, Head as HeadRead, Count, Handed, Link}

-- the new state and the answer, or none where the event is illegal
abbrev pub Outcome : Type 0
Outcome = Option (State × Answer)

-- a transition function, as `next`: from the size, a state and an event to the outcome
abbrev pub Transition : Type 0
Transition = ℕ → State → Event → Outcome

-- **The scheme**: the choices that a counterexample makes wrong, one at a time. The table below leaves them open, and `scheme` has
-- the right ones. What else the table says decides as well whether the laws hold.
pub record Scheme : Type 0 where
  -- whether the value may be retired
  pub may_retire : State → ℕ → Bool
  -- where the retirement of the value begins
  pub retiring_at : ℕ → Place
  -- what a slot is that takes a number: the size, how many slots there are then, and the rest
  pub taken : (size slots : ℕ) → List ℕ → Slot
  -- whether a slot may end: whether another one is in use, its batch, and the rest
  pub may_end : Bool → List ℕ → List ℕ → Bool
  -- the slot becomes active
  pub entered : State → ℕ → State
  -- where there are so many slots and the batch is as long as the size: the slot's batch, and where its call goes on
  pub filled : ℕ → List ℕ → List ℕ × Place
  -- after the numbers below `next`, with this note: whether number n may be read
  pub may_read : (next note n : ℕ) → Bool
  -- where a call goes on that read head n: whether the head is active, n, the note, the slots marked so far, the slot's batch
  pub marked : Bool → ℕ → ℕ → List ℕ → List ℕ → Place
  -- where a call goes on that read the head of marked slot m again: the head, the batch, the insertions won, m, the slots after m
  pub looked : Head → ℕ → ℕ → ℕ → List ℕ → Place
  -- whether an insertion at this head may be lost that was read as this list
  pub may_lose : Head → List ℕ → Bool
  -- of the values of a batch that has come to this count, those given up and those that stay
  pub settled : State → ℤ → List ℕ → List ℕ × List ℕ
  -- what becomes of a head that is swapped out, to stay active or not: the new head, and the list to walk
  pub left_by : Head → Bool → Head × List ℕ
  -- what a link holds in which a value, or none, is exchanged for another
  pub stored : (old new : Option ℕ) → Option ℕ
  -- the values out of links, and what comes out of one more
  pub let_out : List ℕ → Option ℕ → List ℕ
  -- the values reclaimed, and one more
  pub recorded : List ℕ → ℕ → List ℕ

-- The call under way of a slot.

-- what it answers by its place and its queue
abbrev pub of_call : {A : Type 0} → (Place → List ℕ → Option A) → Option Progress → Option A
of_call f None = None
of_call f (Some call) = f call.place call.queue

-- it goes on at a place that follows from the one where it stood
abbrev pub moved_call : (Place → Place) → Option Progress → Option Progress
moved_call f None = None
moved_call f (Some call) = Some (record { place = f call.place; queue = call.queue })

abbrev pub moved : (Place → Place) → Slot → Slot
moved f slot = record { used = slot.used; batch = slot.batch; call = moved_call f slot.call }

-- it begins
abbrev pub begun_at : Slot → Place → Slot
begun_at slot place = record { used = slot.used; batch = slot.batch; call = Some (record { place = place; queue = [] }) }

abbrev pub slot_set : State → ℕ → Slot → State
slot_set st s slot = record st { slots = slice_set st.slots s slot }

abbrev pub set_head : State → ℕ → Head → State
set_head st s head = record st { heads = slice_set st.heads s head }

-- an event that changes its own slot alone
abbrev pub own : State → ℕ → Answer → Option Slot → Outcome
own st s answer None = None
own st s answer (Some slot) = Some (slot_set st s slot, answer)

-- Take: the least number that is not in use; a new slot is inactive. Whoever takes a number has the rest as its batch

abbrev pub first_free : List Slot → ℕ
first_free slots = position_or_len (λ slot. not slot.used) slots

abbrev pub after_take : Scheme → ℕ → State → ℕ → State
after_take scheme size st s =
    if s == length st.slots
    then record st {
      slots = st.slots ++ scheme.taken size (length st.slots + 1) st.rest ∷ [];
      heads = st.heads ++ Inactive ∷ [];
      rest = [];
    }
    else record st { slots = slice_set st.slots s (scheme.taken size (length st.slots) st.rest); rest = [] }

-- Give, Enter: a slot in use, with no call under way and not active

abbrev pub is_outside : State → ℕ → Bool
is_outside st s = is_idle (slot_at st s) && not (is_active (head_at st s))

-- Give: the slot's batch joins the rest, behind what is there

-- another slot is in use
abbrev pub has_others : State → ℕ → Bool
has_others st s = list_any (λ slot. slot.used) (slice_set st.slots s no_slot)

abbrev pub after_give : State → ℕ → State
after_give st s = record st { slots = slice_set st.slots s no_slot; rest = st.rest ++ (slot_at st s).batch }

-- Begin

abbrev pub is_empty : List ℕ → Bool
is_empty [] = true
is_empty (x ∷ xs) = false

-- a slot that gathered this batch: where there are so many slots, the heads are read
abbrev pub gathered_slot : ℕ → List ℕ → Slot
gathered_slot slots batch = record { used = true; batch = batch; call = Some (record { place = Mark 0 slots []; queue = [] }) }

-- the rest comes before the slot's batch
abbrev pub after_gather : State → ℕ → State
after_gather st s =
    record st { slots = slice_set st.slots s (gathered_slot (length st.slots) (st.rest ++ (slot_at st s).batch)); rest = [] }

-- a slot that may not end yet gathers
abbrev pub can_gather : Scheme → State → ℕ → Bool
can_gather scheme st s = is_outside st s && not (scheme.may_end (has_others st s) (slot_at st s).batch st.rest)

abbrev pub begun : State → ℕ → Place → State
begun st s place = slot_set st s (begun_at (slot_at st s) place)

abbrev pub with_named : List ℕ → ℕ → List ℕ
with_named named v = if has v named then named else named ++ v ∷ []

-- v is about to be retired: it is named, and no longer between a link and its retirement
abbrev pub retiring : State → ℕ → State
retiring st v =
    record st {
      loose = filter (λ x. not (x == v)) st.loose;
      named = with_named st.named v;
    }

-- where a flush begins: at the first head, if the slot has a batch
abbrev pub flushing_at : ℕ → List ℕ → Place
flushing_at slots batch = if is_empty batch then Rest [] [] else Mark 0 slots []

-- a call that only an active slot begins
abbrev pub begin_active : State → ℕ → Place → Outcome
begin_active st s place = if is_idle (slot_at st s) && is_active (head_at st s) then Some (begun st s place, Done) else None

abbrev pub begin : Scheme → State → ℕ → Job → Outcome
begin scheme st s (Retire v) =
    if is_idle (slot_at st s) && scheme.may_retire st v then Some (begun (retiring st v) s (scheme.retiring_at v), Done) else None
begin scheme st s Flush = begin_active st s (flushing_at (length st.slots) (slot_at st s).batch)
begin scheme st s Leave = begin_active st s (Out false)
begin scheme st s Refresh = begin_active st s (Out true)
begin scheme st s Gather = if can_gather scheme st s then Some (after_gather st s, Done) else None

-- Put: v is retired into the batch of a slot, where there are so many slots

abbrev pub put_into : Scheme → ℕ → ℕ → Slot → ℕ → List ℕ → Option Slot
put_into scheme size slots slot v queue =
    let batch = slot.batch ++ v ∷ [] in
    let after = if nat_le (max 1 size) (length batch) then scheme.filled slots batch else (batch, Rest [] []) in
    Some (record { used = slot.used; batch = after.0; call = Some (record { place = after.1; queue = queue }) })

abbrev pub put_first : Scheme → ℕ → ℕ → Slot → List ℕ → Option Slot
put_first scheme size slots slot [] = None
put_first scheme size slots slot (v ∷ queue) = put_into scheme size slots slot v queue

abbrev pub put_at : Scheme → ℕ → ℕ → Slot → Place → List ℕ → Option Slot
put_at scheme size slots slot (Append v) queue = put_into scheme size slots slot v queue
put_at scheme size slots slot (Rest [] []) queue = put_first scheme size slots slot queue
put_at scheme size slots slot _ queue = None

abbrev pub slot_put : Scheme → ℕ → ℕ → Slot → Option Slot
slot_put scheme size slots slot = of_call (put_at scheme size slots slot) slot.call

-- ReadHead, while marking: the head of n is active or not

abbrev pub mark_at : Scheme → ℕ → ℕ → Bool → Slot → Place → List ℕ → Option Slot
mark_at scheme slots n active slot (Mark next note marks) queue =
    if nat_lt n slots && scheme.may_read next note n
    then Some (record slot { call = Some (record { place = scheme.marked active n note marks slot.batch; queue = queue }) })
    else None
mark_at scheme slots n active slot _ queue = None

abbrev pub slot_mark : Scheme → ℕ → ℕ → Bool → Slot → Option Slot
slot_mark scheme slots n active slot = of_call (mark_at scheme slots n active slot) slot.call

-- and before an insertion: the marked slot whose head is read, and where the call goes on

abbrev pub looking_at : Place → List ℕ → Option ℕ
looking_at (Look b won m later) queue = Some m
looking_at _ queue = None

abbrev pub looked_on : Scheme → Head → Place → Place
looked_on scheme head (Look b won m later) = scheme.looked head b won m later
looked_on scheme head place = place

abbrev pub slot_read : Scheme → State → ℕ → Slot → Option ℕ → Option Slot
slot_read scheme st n slot (Some m) = if n == m then Some (moved (looked_on scheme (head_at st n)) slot) else None
slot_read scheme st n slot None = slot_mark scheme (length st.slots) n (is_active (head_at st n)) slot

-- Detach: the batch becomes retired batch b with count 0

-- where the call looks next
abbrev pub look : (b won : ℕ) → List ℕ → Place
look b won [] = Add b won
look b won (m ∷ later) = Look b won m later

abbrev pub can_detach_at : Place → List ℕ → Option Bool
can_detach_at (Mark next note marks) queue = Some (nat_le note next)
can_detach_at _ queue = None

abbrev pub can_detach : Slot → Bool
can_detach slot = unwrap_or (of_call can_detach_at slot.call) false

abbrev pub detached_on : ℕ → Place → Place
detached_on b (Mark next note marks) = look b 0 marks
detached_on b place = place

abbrev pub after_detach : ℕ → Slot → Slot
after_detach b slot = record { used = slot.used; batch = []; call = moved_call (detached_on b) slot.call }

abbrev pub detach : State → ℕ → Outcome
detach st s =
    if can_detach (slot_at st s)
    then Some (
      record st {
        slots = slice_set st.slots s (after_detach (length st.batches) (slot_at st s));
        batches = st.batches ++ record { values = (slot_at st s).batch; count = pos 0 } ∷ [];
      },
      Done,
    )
    else None

-- Insert: won where the slot is active, whatever was read, since the number of a batch that has ended may be used again

-- the batch and the slot of the insertion that is about to be tried
abbrev pub trying_at : Place → List ℕ → Option (ℕ × ℕ)
trying_at (Try b won m later saw) queue = Some (b, m)
trying_at _ queue = None

abbrev pub won_on : Place → Place
won_on (Try b won m later saw) = look b (won + 1) later
won_on place = place

abbrev pub insert_into : State → ℕ → ℕ → ℕ → Head → Outcome
insert_into st s m b Inactive = None
insert_into st s m b (Active waiting) =
    Some (slot_set (set_head st m (Active (b ∷ waiting))) s (moved won_on (slot_at st s)), Done)

abbrev pub insert : State → ℕ → ℕ → Option (ℕ × ℕ) → Outcome
insert st s n None = None
insert st s n (Some at) = if n == at.1 then insert_into st s n at.0 (head_at st n) else None

-- lost where the head of n is not what was read

abbrev pub can_lose_at : Scheme → ℕ → Head → Place → List ℕ → Option Bool
can_lose_at scheme n head (Try b won m later saw) queue = Some ((n == m) && scheme.may_lose head saw)
can_lose_at scheme n head _ queue = None

abbrev pub lost_on : Place → Place
lost_on (Try b won m later saw) = Look b won m later
lost_on place = place

abbrev pub slot_lost : Scheme → ℕ → Head → Slot → Option Slot
slot_lost scheme n head slot =
    if unwrap_or (of_call (can_lose_at scheme n head) slot.call) false then Some (moved lost_on slot) else None

-- AddCount, SubCount: the batch comes to this count, and what it gives up goes to the slot that counted

abbrev pub after_count : Scheme → State → ℕ → ℕ → ℤ → (List ℕ → Place → Place) → Outcome
after_count scheme st s b count goes_on =
    let parts = scheme.settled st count (batch_at st b).values in
    Some (
      record st {
        slots = slice_set st.slots s (moved (goes_on parts.0) (slot_at st s));
        batches = slice_set st.batches b (record { values = parts.1; count = count });
      },
      Count count,
    )

-- the batch and the insertions won that are about to be added
abbrev pub adding_at : Place → List ℕ → Option (ℕ × ℕ)
adding_at (Add b won) queue = Some (b, won)
adding_at _ queue = None

abbrev pub add_count : Scheme → State → ℕ → Option (ℕ × ℕ) → Outcome
add_count scheme st s None = None
add_count scheme st s (Some add) =
    after_count scheme st s add.0 ((batch_at st add.0).count +ℤ pos add.1) (λ given place. Rest given [])

-- the batch that is counted down next, with nothing given up that has still to be handed
abbrev pub walking_at : Place → List ℕ → Option ℕ
walking_at (Rest [] (b ∷ walk)) queue = Some b
walking_at _ queue = None

abbrev pub tail : List ℕ → List ℕ
tail [] = []
tail (x ∷ xs) = xs

abbrev pub walked_on : List ℕ → Place → Place
walked_on given (Rest old walk) = Rest given (tail walk)
walked_on given place = place

abbrev pub sub_count : Scheme → State → ℕ → Option ℕ → Outcome
sub_count scheme st s None = None
sub_count scheme st s (Some b) = after_count scheme st s b ((batch_at st b).count -ℤ pos 1) walked_on

-- SwapOut: the list that comes out is walked

abbrev pub leaving_at : Place → List ℕ → Option Bool
leaving_at (Out stays) queue = Some stays
leaving_at _ queue = None

abbrev pub swap_out : Scheme → State → ℕ → Option Bool → Outcome
swap_out scheme st s None = None
swap_out scheme st s (Some stays) =
    let left = scheme.left_by (head_at st s) stays in
    Some (slot_set (set_head st s left.0) s (moved (λ place. Rest [] left.1) (slot_at st s)), Done)

-- Hand: the first given-up value is reclaimed, and what its reclaimer puts joins the queue

abbrev pub handing_at : Place → List ℕ → Option ℕ
handing_at (Rest (v ∷ given) walk) queue = Some v
handing_at _ queue = None

abbrev pub handed_on : Place → Place
handed_on (Rest given walk) = Rest (tail given) walk
handed_on place = place

abbrev pub handed_call : List ℕ → Option Progress → Option Progress
handed_call puts None = None
handed_call puts (Some call) = Some (record { place = handed_on call.place; queue = call.queue ++ puts })

abbrev pub slot_handed : List ℕ → Slot → Slot
slot_handed puts slot = record { used = slot.used; batch = slot.batch; call = handed_call puts slot.call }

-- values that were never named, each once
abbrev pub are_fresh : List ℕ → List ℕ → Bool
are_fresh named values = list_all (λ v. not (has v named)) values && are_distinct values

abbrev pub hand : Scheme → State → ℕ → List ℕ → Option ℕ → Outcome
hand scheme st s puts None = None
hand scheme st s puts (Some v) =
    if are_fresh st.named puts
    then Some (
      record st {
        slots = slice_set st.slots s (slot_handed puts (slot_at st s));
        gone = scheme.recorded st.gone v;
        named = st.named ++ puts;
      },
      Handed v,
    )
    else None

-- Return

abbrev pub return_at : Slot → Place → List ℕ → Option Slot
return_at slot (Rest [] []) [] = Some (record { used = slot.used; batch = slot.batch; call = None })
return_at slot _ _ = None

abbrev pub slot_return : Slot → Option Slot
slot_return slot = of_call (return_at slot) slot.call

-- ReadLink, ExchangeLink: also while a call of the slot is under way, since threads may share a guard

abbrev pub can_link : State → ℕ → ℕ → Bool
can_link st s l = is_active (head_at st s) && nat_lt l (length st.links)

abbrev pub is_none_or_fresh : State → Option ℕ → Bool
is_none_or_fresh st None = true
is_none_or_fresh st (Some v) = not (has v st.named)

abbrev pub same_link : Option ℕ → Option ℕ → Bool
same_link None None = true
same_link (Some v) (Some w) = v == w
same_link _ _ = false

-- the new value of an exchange, and whether it is stored where the link holds this
abbrev pub new_link : Exchange → Option ℕ
new_link (Swap new) = new
new_link (Compare current new) = new

abbrev pub is_stored : Option ℕ → Exchange → Bool
is_stored held (Swap new) = true
is_stored held (Compare current new) = same_link held current

abbrev pub swapped : Scheme → State → ℕ → Option ℕ → State
swapped scheme st l new =
    record st {
      links = slice_set st.links l (scheme.stored (link_at st l) new);
      loose = scheme.let_out st.loose (link_at st l);
      named = st.named ++ option_to_list new;
    }

abbrev pub exchange_link : Scheme → State → ℕ → ℕ → Exchange → Outcome
exchange_link scheme st s l exchange =
    if can_link st s l && is_none_or_fresh st (new_link exchange)
    then Some (
      if is_stored (link_at st l) exchange then swapped scheme st l (new_link exchange) else st,
      Link (link_at st l),
    )
    else None

-- The table.

abbrev pub next_by : Scheme → Transition
next_by scheme size st (Take s) =
    if (s == first_free st.slots) && nat_lt s all_numbers then Some (after_take scheme size st s, Done) else None
next_by scheme size st (Give s) =
    if is_outside st s && scheme.may_end (has_others st s) (slot_at st s).batch st.rest then Some (after_give st s, Done) else None
next_by scheme size st (Enter s) = if is_outside st s then Some (scheme.entered st s, Done) else None
next_by scheme size st (Begin s job) = begin scheme st s job
next_by scheme size st (Put s) = own st s Done (slot_put scheme size (length st.slots) (slot_at st s))
next_by scheme size st (ReadHead s n) =
    own st s (HeadRead (is_active (head_at st n))) (slot_read scheme st n (slot_at st s) (of_call looking_at (slot_at st s).call))
next_by scheme size st (Detach s) = detach st s
next_by scheme size st (Insert s n Won) = insert st s n (of_call trying_at (slot_at st s).call)
next_by scheme size st (Insert s n Lost) = own st s Done (slot_lost scheme n (head_at st n) (slot_at st s))
next_by scheme size st (AddCount s) = add_count scheme st s (of_call adding_at (slot_at st s).call)
next_by scheme size st (SwapOut s) = swap_out scheme st s (of_call leaving_at (slot_at st s).call)
next_by scheme size st (SubCount s) = sub_count scheme st s (of_call walking_at (slot_at st s).call)
next_by scheme size st (Hand s puts) = hand scheme st s puts (of_call handing_at (slot_at st s).call)
next_by scheme size st (Return s) = own st s Done (slot_return (slot_at st s))
next_by scheme size st (ReadLink s l) = if can_link st s l then Some (st, Link (link_at st l)) else None
next_by scheme size st (ExchangeLink s l exchange) = exchange_link scheme st s l exchange

-- The right scheme.

-- a full batch stays, and the call reads the heads from the first on: the note is the number of slots at this retirement
abbrev pub marking : ℕ → List ℕ → List ℕ × Place
marking slots batch = (batch, Mark 0 slots [])

-- the rest becomes the batch, and a full one is attempted
abbrev pub taken_call : (size slots : ℕ) → List ℕ → Option Progress
taken_call size slots rest =
    if nat_le (max 1 size) (length rest) then Some (record { place = Mark 0 slots []; queue = [] }) else None

abbrev pub taken_slot : (size slots : ℕ) → List ℕ → Slot
taken_slot size slots rest = record { used = true; batch = rest; call = taken_call size slots rest }

-- while another slot is in use, or there is nothing to leave
abbrev pub ends_now : Bool → List ℕ → List ℕ → Bool
ends_now others batch rest = others || (is_empty batch && is_empty rest)

-- the next number, or from the note on also a later one
abbrev pub is_due : (next note n : ℕ) → Bool
is_due next note n = (n == next) || (nat_le note next && nat_lt next n)

-- an active slot is marked while there are values for it, and else the batch stays
abbrev pub marked_place : Bool → ℕ → ℕ → List ℕ → List ℕ → Place
marked_place active n note marks batch =
    if active
    then (if nat_lt (length marks) (length batch) then Mark (n + 1) note (marks ++ n ∷ []) else Rest [] [])
    else Mark (n + 1) note marks

-- an inactive slot is skipped
abbrev pub looked : Head → ℕ → ℕ → ℕ → List ℕ → Place
looked Inactive b won m later = look b won later
looked (Active waiting) b won m later = Try b won m later waiting

abbrev pub same_list : List ℕ → List ℕ → Bool
same_list [] [] = true
same_list (x ∷ xs) (y ∷ ys) = (x == y) && same_list xs ys
same_list _ _ = false

abbrev pub is_changed : Head → List ℕ → Bool
is_changed head saw = not (is_active head && same_list (waiting_at head) saw)

abbrev pub is_zero : ℤ → Bool
is_zero (pos n) = n == 0
is_zero (negsuc n) = false

-- of these values, all are given up and none, or the other way round
abbrev pub all_if : Bool → List ℕ → List ℕ × List ℕ
all_if gives_up values = (if gives_up then values else [], if gives_up then [] else values)

-- the head is empty or inactive, and the whole list comes out
abbrev pub swapped_head : Head → Bool → Head × List ℕ
swapped_head head stays = (if stays then Active [] else Inactive, waiting_at head)

abbrev pub scheme : Scheme
scheme =
    record {
      -- it was never named, or it was taken out of a link and no call began to retire it
      may_retire = λ st v. not (has v st.named) || has v st.loose;
      retiring_at = λ v. Append v;
      taken = taken_slot;
      may_end = ends_now;
      entered = λ st s. set_head st s (Active []);
      filled = marking;
      may_read = is_due;
      marked = marked_place;
      looked = looked;
      may_lose = is_changed;
      -- at 0, and there alone, all values are given up
      settled = λ st count values. all_if (is_zero count) values;
      left_by = swapped_head;
      stored = λ old new. new;
      let_out = λ loose held. loose ++ option_to_list held;
      recorded = λ gone v. gone ++ v ∷ [];
    }

abbrev pub next : Transition
next = next_by scheme
