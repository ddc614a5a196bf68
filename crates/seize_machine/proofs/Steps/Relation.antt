-- The steps of the machine: each legal event is one of them, and each of them is a legal event.
use Rattle.std.proofs.Common.{◌≡◌, ◌≢◌, ℕ, ◌+◌, ◌-◌, ◌^◌, ◌<◌, ◌≤◌, ℤ, pos, ◌+ℤ◌, ◌-ℤ◌, Bool, true, false, not, ◌&&◌, ◌||◌, ◌==◌, if◌then◌else◌, nat_lt, nat_le, max, List, [], ◌∷◌, ◌++◌, length, slice_set, option_to_list, unwrap_or, Option, Some, None, refl, sym, ◌∙◌, ap, subst, ◌⊎◌, inl, inr, arith}
use Rattle.std.proofs.lemmas.Bool.{or_parts}
use Rattle.std.proofs.lemmas.List.Sums.{prefix_len-le-length, passes_at_first}
use Rattle.seize_machine.specs.Machine.State.{no_slot, State, Slot, Progress, Head, Inactive, Active, Place, Append, Mark, Look, Try, Add, Out, Rest, slot_at, head_at, batch_at, link_at, is_active, waiting_at, has, is_idle}
use Rattle.seize_machine.specs.Machine.Event.{Event, Take, Give, Enter, Begin, Put, ReadHead, Detach, Insert, AddCount, SwapOut, SubCount, Hand, Return, ReadLink, ExchangeLink}
use Rattle.seize_machine.specs.Machine.Next.{Outcome, scheme, next, taken_slot, taken_call, ends_now, has_others, after_give, after_gather, of_call, moved, moved_call, own, first_free, is_outside, is_empty, slot_set, set_head, begun, retiring, flushing_at, begin_active, begin, put_into, put_at, slot_put, marking, mark_at, slot_mark, looking_at, looked_on, slot_read, look, marked_place, looked, can_detach_at, can_detach, detached_on, detach, trying_at, won_on, insert_into, insert, is_changed, can_lose_at, lost_on, slot_lost, same_list, is_zero, adding_at, add_count, walking_at, walked_on, sub_count, leaving_at, swap_out, are_fresh, handing_at, handed_on, hand, return_at, slot_return, can_link, is_none_or_fresh, new_link, is_stored, exchange_link}
use Rattle.seize_machine.specs.declared.machine.event.Job.{Job}
use Rattle.seize_machine.specs.declared.machine.event.Job.TheVariants.{Retire, Flush, Leave, Refresh, Gather}
use Rattle.seize_machine.specs.declared.machine.event.Try.TheVariants.{Won, Lost}
use Rattle.seize_machine.specs.declared.machine.event.Exchange.{Exchange}
use Rattle.seize_machine.specs.declared.machine.event.Answer.{Answer}
use Rattle.seize_machine.specs.declared.machine.event.Answer.TheVariants.{Done, Head as HeadRead, Count, Handed, Link}

-- the call of slot s goes on so
abbrev pub go_on : State → ℕ → Progress → State
go_on st s call = slot_set st s (record (slot_at st s) { call = Some call })

-- batch b comes to this count, and at 0 slot s gives its values up and goes on with this walk and this queue
abbrev pub counted : State → ℕ → ℕ → ℤ → List ℕ → List ℕ → Outcome
counted st s b count walk queue =
    let gives_up = is_zero count in
    let values = (batch_at st b).values in
    Some (
      record st {
        slots = slice_set st.slots s (record (slot_at st s) { call = Some (record { place = Rest (if gives_up then values else []) walk; queue = queue }) });
        batches = slice_set st.batches b (record { values = if gives_up then [] else values; count = count });
      },
      Count count,
    )

-- link l holds another value, or none, and what it held is out
abbrev pub swapped : State → ℕ → Option ℕ → State
swapped st l new =
    record st {
      links = slice_set st.links l new;
      loose = st.loose ++ option_to_list (link_at st l);
      named = st.named ++ option_to_list new;
    }

-- where a call begins that only an active slot begins
abbrev pub beginning : State → ℕ → Job → Option Place
beginning st s (Retire v) = None
beginning st s Flush = Some (flushing_at (length st.slots) (slot_at st s).batch)
beginning st s Leave = Some (Out false)
beginning st s Refresh = Some (Out true)
beginning st s Gather = None

-- where a call goes on that has put a value in this batch, where there are so many slots
abbrev pub after_put : ℕ → ℕ → List ℕ → Place
after_put size slots batch = if nat_le (max 1 size) (length batch) then Mark 0 slots [] else Rest [] []

-- what holds of a slot that takes a number: it has no call, or reads the heads for a full batch
pub taken : (P : Option Progress → Type 0) (size n : ℕ) (rest : List ℕ) → (length rest < max 1 size → P None)
    → (max 1 size ≤ length rest → P (Some (record { place = Mark 0 n []; queue = [] }))) → P (taken_call size n rest)
taken P size n rest none full = go (nat_le (max 1 size) (length rest)) refl
  where
    go : (b : Bool) → nat_le (max 1 size) (length rest) ≡ b → P (if b then Some (record { place = Mark 0 n []; queue = [] }) else None)
    go true e = full (grind arith)
    go false e = none (grind arith)

-- slot s has a call under way that stands so
abbrev pub Stands : State → ℕ → Place → List ℕ → Type 0
Stands st s place queue = (slot_at st s).call ≡ Some (record { place = place; queue = queue })

pub data Step (size : ℕ) (st : State) : Event → State × Answer → Type 0 where
  took_new : (s : ℕ) → s ≡ length st.slots → (s ≡ first_free st.slots) × (s < 2 ^ 64 - 32)
      → Step size st (Take s) (record st { slots = st.slots ++ taken_slot size (length st.slots + 1) st.rest ∷ []; heads = st.heads ++ Inactive ∷ []; rest = [] }, Done)
  took_old : (s : ℕ) → s < length st.slots → (slot_at st s).used ≡ false → (s ≡ first_free st.slots) × (s < 2 ^ 64 - 32)
      → Step size st (Take s) (record st { slots = slice_set st.slots s (taken_slot size (length st.slots) st.rest); rest = [] }, Done)
  gave : (s : ℕ) → is_idle (slot_at st s) ≡ true → is_active (head_at st s) ≡ false → ends_now (has_others st s) (slot_at st s).batch st.rest ≡ true
      → Step size st (Give s) (after_give st s, Done)
  gathered : (s : ℕ) → is_idle (slot_at st s) ≡ true → is_active (head_at st s) ≡ false → has_others st s ≡ false
      → (is_empty (slot_at st s).batch && is_empty st.rest) ≡ false → Step size st (Begin s Gather) (after_gather st s, Done)
  entered : (s : ℕ) → is_idle (slot_at st s) ≡ true → is_active (head_at st s) ≡ false
      → Step size st (Enter s) (set_head st s (Active []), Done)
  begun_retire : (s v : ℕ) → is_idle (slot_at st s) ≡ true → (has v st.named ≡ false) ⊎ (has v st.loose ≡ true)
      → Step size st (Begin s (Retire v)) (begun (retiring st v) s (Append v), Done)
  begun_other : (s : ℕ) (job : Job) (place : Place) → is_idle (slot_at st s) ≡ true
      → (place ≡ Rest [] []) ⊎ (place ≡ Mark 0 (length st.slots) []) ⊎ (place ≡ Out true) ⊎ (place ≡ Out false)
      → (is_active (head_at st s) ≡ true) × (beginning st s job ≡ Some place)
      → Step size st (Begin s job) (begun st s place, Done)
  put : (s v : ℕ) (from : Place) (before after : List ℕ) (place : Place) → Stands st s from before
      → ((from ≡ Append v) × (before ≡ after)) ⊎ ((from ≡ Rest [] []) × (before ≡ v ∷ after))
      → ((place ≡ Rest [] []) × (length ((slot_at st s).batch ++ v ∷ []) < max 1 size)) ⊎ (place ≡ Mark 0 (length st.slots) [])
      → place ≡ after_put size (length st.slots) ((slot_at st s).batch ++ v ∷ [])
      → Step size st (Put s) (slot_set st s (record { used = (slot_at st s).used; batch = (slot_at st s).batch ++ v ∷ []; call = Some (record { place = place; queue = after }) }), Done)
  marked : (s n next note : ℕ) (marks queue : List ℕ) → Stands st s (Mark next note marks) queue → n < length st.slots → (n ≡ next) ⊎ ((note ≤ next) × (next < n))
      → Step size st (ReadHead s n) (go_on st s (record { place = marked_place (is_active (head_at st n)) n note marks (slot_at st s).batch; queue = queue }), HeadRead (is_active (head_at st n)))
  looked_at : (s b won m : ℕ) (later queue : List ℕ) → Stands st s (Look b won m later) queue
      → Step size st (ReadHead s m) (go_on st s (record { place = looked (head_at st m) b won m later; queue = queue }), HeadRead (is_active (head_at st m)))
  detached : (s next note : ℕ) (marks queue : List ℕ) → Stands st s (Mark next note marks) queue → note ≤ next
      → Step size st (Detach s) (
        record st {
          slots = slice_set st.slots s (record { used = (slot_at st s).used; batch = []; call = Some (record { place = look (length st.batches) 0 marks; queue = queue }) });
          batches = st.batches ++ record { values = (slot_at st s).batch; count = pos 0 } ∷ [];
        },
        Done,
      )
  inserted : (s m b won : ℕ) (later saw queue waiting : List ℕ) → Stands st s (Try b won m later saw) queue → head_at st m ≡ Active waiting
      → Step size st (Insert s m Won) (go_on (set_head st m (Active (b ∷ waiting))) s (record { place = look b (won + 1) later; queue = queue }), Done)
  lost : (s m b won : ℕ) (later saw queue : List ℕ) → Stands st s (Try b won m later saw) queue → head_at st m ≢ Active saw
      → Step size st (Insert s m Lost) (go_on st s (record { place = Look b won m later; queue = queue }), Done)
  added : (s b won : ℕ) (queue : List ℕ) (d : State × Answer) → Stands st s (Add b won) queue → counted st s b ((batch_at st b).count +ℤ pos won) [] queue ≡ Some d
      → Step size st (AddCount s) d
  subtracted : (s b : ℕ) (walk queue : List ℕ) (d : State × Answer) → Stands st s (Rest [] (b ∷ walk)) queue → counted st s b ((batch_at st b).count -ℤ pos 1) walk queue ≡ Some d
      → Step size st (SubCount s) d
  swapped_out : (s : ℕ) (stays : Bool) (queue : List ℕ) → Stands st s (Out stays) queue
      → Step size st (SwapOut s) (go_on (set_head st s (if stays then Active [] else Inactive)) s (record { place = Rest [] (waiting_at (head_at st s)); queue = queue }), Done)
  handed : (s v : ℕ) (puts given walk queue : List ℕ) → Stands st s (Rest (v ∷ given) walk) queue → are_fresh st.named puts ≡ true
      → Step size st (Hand s puts) (
        record st {
          slots = slice_set st.slots s (record (slot_at st s) { call = Some (record { place = Rest given walk; queue = queue ++ puts }) });
          gone = st.gone ++ v ∷ [];
          named = st.named ++ puts;
        },
        Handed v,
      )
  returned : (s : ℕ) → Stands st s (Rest [] []) []
      → Step size st (Return s) (slot_set st s (record (slot_at st s) { call = None }), Done)
  read : (s l : ℕ) → can_link st s l ≡ true → Step size st (ReadLink s l) (st, Link (link_at st l))
  exchanged : (s l : ℕ) (exchange : Exchange) (new : Option ℕ) → can_link st s l ≡ true → is_none_or_fresh st new ≡ true
      → (new ≡ new_link exchange) × (is_stored (link_at st l) exchange ≡ true)
      → Step size st (ExchangeLink s l exchange) (swapped st l new, Link (link_at st l))
  compared : (s l : ℕ) (exchange : Exchange) → can_link st s l ≡ true
      → (is_none_or_fresh st (new_link exchange) ≡ true) × (is_stored (link_at st l) exchange ≡ false)
      → Step size st (ExchangeLink s l exchange) (st, Link (link_at st l))

-- an outcome under a test
pub if_some : {A : Type 0} (b : Bool) (x d : A) → (if b then Some x else None) ≡ Some d → (b ≡ true) × (x ≡ d)
if_some true x d h = (refl, grind arith)
if_some false x d h = absurd (cc)

pub and_true : (a b : Bool) → (a && b) ≡ true → (a ≡ true) × (b ≡ true)
and_true true b h = (refl, h)
and_true false b h = absurd (cc)

pub or_true : (a b : Bool) → (a || b) ≡ true → (a ≡ true) ⊎ (b ≡ true)
or_true true b h = inl refl
or_true false b h = inr h

pub not_true : (a : Bool) → not a ≡ true → a ≡ false
not_true false h = refl
not_true true h = absurd (cc)

pub is_true : (a : Bool) → (a ≡ true) ⊎ (a ≡ false)
is_true true = inl refl
is_true false = inr refl

pub eq_true : (a b : ℕ) → (a == b) ≡ true → a ≡ b
eq_true a b h = grind arith

pub lt_true : (a b : ℕ) → nat_lt a b ≡ true → a < b
lt_true a b h = grind arith

pub le_true : (a b : ℕ) → nat_le a b ≡ true → a ≤ b
le_true a b h = grind arith

pub some_is : {A : Type 0} (x d : A) → Option.Some x ≡ Some d → x ≡ d
some_is x d h = cc

pub same_list-refl : (xs : List ℕ) → same_list xs xs ≡ true
same_list-refl [] = refl
same_list-refl (x ∷ xs) = grind (arith, same_list-refl xs)

-- Each legal event is a step.

-- what a call answers, it answers at its place
called : {A : Type 0} (st : State) (s : ℕ) (f : Place → List ℕ → Option A) (x : A) → of_call f (slot_at st s).call ≡ Some x
    → (place : Place) × (queue : List ℕ) × Stands st s place queue × (f place queue ≡ Some x)
called {A} st s f x h = go (slot_at st s).call refl h
  where
    go : (o : Option Progress) → (slot_at st s).call ≡ o → of_call f o ≡ Some x → (place : Place) × (queue : List ℕ) × Stands st s place queue × (f place queue ≡ Some x)
    go None e h = absurd (cc)
    go (Some call) e h = (call.place, call.queue, e, h)

-- an event that changes its own slot alone
from_own : (P : State × Answer → Type 0) (st : State) (s : ℕ) (answer : Answer) (o : Option Slot) (d : State × Answer)
    → own st s answer o ≡ Some d → ((slot : Slot) → o ≡ Some slot → P (slot_set st s slot, answer)) → P d
from_own P st s answer None d h k = absurd (cc)
from_own P st s answer (Some slot) d h k = subst P (some_is _ _ h) (k slot refl)

-- an event that reads something of the call
from_read : {A : Type 0} (P : State × Answer → Type 0) (o : Option A) (f : Option A → Outcome) (d : State × Answer) → f None ≡ None
    → f o ≡ Some d → ((x : A) → o ≡ Some x → f (Some x) ≡ Some d → P d) → P d
from_read P None f d none h k = absurd (let e : Option.None ≡ Some d = sym none ∙ h in cc)
from_read P (Some x) f d none h k = k x refl h

pub moved_to : (st : State) (s : ℕ) (f : Place → Place) (place : Place) (queue : List ℕ) → Stands st s place queue
    → moved f (slot_at st s) ≡ record (slot_at st s) { call = Some (record { place = f place; queue = queue }) }
moved_to st s f place queue e = ap (λ (o : Option Progress). record (slot_at st s) { call = moved_call f o }) e

step_take : (size : ℕ) (st : State) (s : ℕ) (d : State × Answer) → next size st (Take s) ≡ Some d → Step size st (Take s) d
step_take size st s d h =
    let w : ((s == first_free st.slots) && nat_lt s (2 ^ 64 - 32) ≡ true) × _ = if_some _ _ _ h in
    let t : ((s == first_free st.slots) ≡ true) × (nat_lt s (2 ^ 64 - 32) ≡ true) = and_true _ _ w.0 in
    subst (λ d. Step size st (Take s) d) w.1 (go (eq_true _ _ t.0) (lt_true _ _ t.1) (s == length st.slots) refl)
  where
    go : s ≡ first_free st.slots → s < 2 ^ 64 - 32 → (b : Bool) → (s == length st.slots) ≡ b
        → Step size st (Take s) ((if b then record st { slots = st.slots ++ taken_slot size (length st.slots + 1) st.rest ∷ []; heads = st.heads ++ Inactive ∷ []; rest = [] } else record st { slots = slice_set st.slots s (taken_slot size (length st.slots) st.rest); rest = [] }), Done)
    go s_is few true e = took_new s (eq_true _ _ e) (s_is, few)
    go s_is few false e =
        let below : first_free st.slots ≤ length st.slots = prefix_len-le-length _ st.slots in
        let within : s < length st.slots = grind arith in
        took_old s within (not_true _ (rw (← s_is) at (passes_at_first (λ slot. not slot.used) st.slots no_slot (rw s_is at within)))) (s_is, few)

outside : (st : State) (s : ℕ) → is_outside st s ≡ true → (is_idle (slot_at st s) ≡ true) × (is_active (head_at st s) ≡ false)
outside st s h = let t : (is_idle (slot_at st s) ≡ true) × (not (is_active (head_at st s)) ≡ true) = and_true _ _ h in (t.0, not_true _ t.1)

step_begin_active : (size : ℕ) (st : State) (s : ℕ) (job : Job) (place : Place) (d : State × Answer) → begin_active st s place ≡ Some d
    → (place ≡ Rest [] []) ⊎ (place ≡ Mark 0 (length st.slots) []) ⊎ (place ≡ Out true) ⊎ (place ≡ Out false) → beginning st s job ≡ Some place → Step size st (Begin s job) d
step_begin_active size st s job place d h which from =
    let w : ((is_idle (slot_at st s) && is_active (head_at st s)) ≡ true) × _ = if_some _ _ _ h in
    let t : (is_idle (slot_at st s) ≡ true) × (is_active (head_at st s) ≡ true) = and_true _ _ w.0 in
    subst (λ d. Step size st (Begin s job) d) w.1 (begun_other s job place t.0 which (t.1, from))

step_begin : (size : ℕ) (st : State) (s : ℕ) (job : Job) (d : State × Answer) → begin scheme st s job ≡ Some d → Step size st (Begin s job) d
step_begin size st s (Retire v) d h =
    let w : (is_idle (slot_at st s) && (not (has v st.named) || has v st.loose) ≡ true) × _ = if_some _ _ _ h in
    let t : (is_idle (slot_at st s) ≡ true) × ((not (has v st.named) || has v st.loose) ≡ true) = and_true _ _ w.0 in
    let k : (has v st.named ≡ false) ⊎ (has v st.loose ≡ true) = new_or (has v st.named) (has v st.loose) t.1 in
    subst (λ d. Step size st (Begin s (Retire v)) d) w.1 (begun_retire s v t.0 k)
  where
    new_or : (a b : Bool) → (not a || b) ≡ true → (a ≡ false) ⊎ (b ≡ true)
    new_or true b h = inr h
    new_or false b h = inl refl
step_begin size st s Flush d h = step_begin_active size st s Flush _ d h (which (is_empty (slot_at st s).batch)) refl
  where
    which : (b : Bool) → ((if b then Rest [] [] else Mark 0 (length st.slots) []) ≡ Rest [] []) ⊎ ((if b then Rest [] [] else Mark 0 (length st.slots) []) ≡ Mark 0 (length st.slots) []) ⊎ ((if b then Rest [] [] else Mark 0 (length st.slots) []) ≡ Out true) ⊎ ((if b then Rest [] [] else Mark 0 (length st.slots) []) ≡ Out false)
    which true = grind arith
    which false = grind arith
step_begin size st s Leave d h = step_begin_active size st s Leave _ d h (inr (inr (inr refl))) refl
step_begin size st s Refresh d h = step_begin_active size st s Refresh _ d h (inr (inr (inl refl))) refl
step_begin size st s Gather d h =
    let w : ((is_outside st s && not (ends_now (has_others st s) (slot_at st s).batch st.rest)) ≡ true) × _ = if_some _ _ _ h in
    let a : (is_outside st s ≡ true) × (not (ends_now (has_others st s) (slot_at st s).batch st.rest) ≡ true) = and_true _ _ w.0 in
    let b : (has_others st s ≡ false) × _ = or_parts _ _ (not_true _ a.1) in
    let t : (is_idle (slot_at st s) ≡ true) × (is_active (head_at st s) ≡ false) = outside st s a.0 in
    subst (λ d. Step size st (Begin s Gather) d) w.1 (gathered s t.0 t.1 b.0 b.1)

put_place : (k n : ℕ) (batch : List ℕ) → (((if nat_le k (length batch) then Mark 0 n [] else Rest [] []) ≡ Rest [] []) × (length batch < k)) ⊎ ((if nat_le k (length batch) then Mark 0 n [] else Rest [] []) ≡ Mark 0 n [])
put_place k n batch = go (nat_le k (length batch)) refl
  where
    go : (b : Bool) → nat_le k (length batch) ≡ b → (((if b then Mark 0 n [] else Rest [] []) ≡ Rest [] []) × (length batch < k)) ⊎ ((if b then Mark 0 n [] else Rest [] []) ≡ Mark 0 n [])
    go true e = inr refl
    go false e = inl (refl, grind arith)

pub put_is : (size n : ℕ) (slot : Slot) (v : ℕ) (queue : List ℕ)
    → put_into scheme size n slot v queue ≡ Some (record { used = slot.used; batch = slot.batch ++ v ∷ []; call = Some (record { place = after_put size n (slot.batch ++ v ∷ []); queue = queue }) })
put_is size n slot v queue = go (slot.batch ++ v ∷ []) (nat_le (max 1 size) (length (slot.batch ++ v ∷ [])))
  where
    after : Bool → List ℕ → List ℕ × Place
    after b batch = if b then marking n batch else (batch, Rest [] [])

    just : Slot → Option Slot
    just slot = Some slot

    go : (batch : List ℕ) (b : Bool) → just (record { used = slot.used; batch = (after b batch).0; call = Some (record { place = (after b batch).1; queue = queue }) })
        ≡ Some (record { used = slot.used; batch = batch; call = Some (record { place = if b then Mark 0 n [] else Rest [] []; queue = queue }) })
    go batch true = refl
    go batch false = refl

step_put : (size : ℕ) (st : State) (s : ℕ) (slot : Slot) → slot_put scheme size (length st.slots) (slot_at st s) ≡ Some slot → Step size st (Put s) (slot_set st s slot, Done)
step_put size st s slot h =
    let c : (place : Place) × (queue : List ℕ) × Stands st s place queue × (put_at scheme size (length st.slots) (slot_at st s) place queue ≡ Some slot) = called st s (put_at scheme size (length st.slots) (slot_at st s)) slot h in
    at c.0 c.1 c.2 c.3
  where
    puts : (v : ℕ) (from : Place) (before after : List ℕ) → Stands st s from before → ((from ≡ Append v) × (before ≡ after)) ⊎ ((from ≡ Rest [] []) × (before ≡ v ∷ after))
        → put_into scheme size (length st.slots) (slot_at st s) v after ≡ Some slot → Step size st (Put s) (slot_set st s slot, Done)
    puts v from before after e which h =
        let slot_is : _ ≡ slot = some_is _ _ (sym (put_is size (length st.slots) (slot_at st s) v after) ∙ h) in
        subst (λ slot. Step size st (Put s) (slot_set st s slot, Done)) slot_is (put s v from before after _ e which (put_place (max 1 size) (length st.slots) ((slot_at st s).batch ++ v ∷ [])) refl)

    at : (place : Place) (queue : List ℕ) → Stands st s place queue → put_at scheme size (length st.slots) (slot_at st s) place queue ≡ Some slot → Step size st (Put s) (slot_set st s slot, Done)
    at (Append v) queue e h = puts v (Append v) queue queue e (inl (refl, refl)) h
    at (Rest [] []) (v ∷ queue) e h = puts v (Rest [] []) (v ∷ queue) queue e (inr (refl, refl)) h
    at _ queue e h = absurd (cc)

-- a put, from the value about to be appended or from the queue
pub step_put_from : (size : ℕ) (st : State) (s v : ℕ) (from : Place) (before after : List ℕ) → Stands st s from before → ((from ≡ Append v) × (before ≡ after)) ⊎ ((from ≡ Rest [] []) × (before ≡ v ∷ after))
    → Step size st (Put s) (slot_set st s (record { used = (slot_at st s).used; batch = (slot_at st s).batch ++ v ∷ []; call = Some (record { place = after_put size (length st.slots) ((slot_at st s).batch ++ v ∷ []); queue = after }) }), Done)
step_put_from size st s v from before after e which = put s v from before after _ e which (put_place (max 1 size) (length st.slots) ((slot_at st s).batch ++ v ∷ [])) refl

step_mark : (size : ℕ) (st : State) (s n : ℕ) (slot : Slot) → slot_mark scheme (length st.slots) n (is_active (head_at st n)) (slot_at st s) ≡ Some slot
    → Step size st (ReadHead s n) (slot_set st s slot, HeadRead (is_active (head_at st n)))
step_mark size st s n slot h =
    let c : (place : Place) × (queue : List ℕ) × Stands st s place queue × (mark_at scheme (length st.slots) n (is_active (head_at st n)) (slot_at st s) place queue ≡ Some slot) = called st s (mark_at scheme (length st.slots) n (is_active (head_at st n)) (slot_at st s)) slot h in
    at c.0 c.1 c.2 c.3
  where
    at : (place : Place) (queue : List ℕ) → Stands st s place queue → mark_at scheme (length st.slots) n (is_active (head_at st n)) (slot_at st s) place queue ≡ Some slot
        → Step size st (ReadHead s n) (slot_set st s slot, HeadRead (is_active (head_at st n)))
    at (Mark next note marks) queue e h =
        let w : (nat_lt n (length st.slots) && ((n == next) || (nat_le note next && nat_lt next n)) ≡ true) × _ = if_some _ _ _ h in
        let t : (nat_lt n (length st.slots) ≡ true) × (((n == next) || (nat_le note next && nat_lt next n)) ≡ true) = and_true _ _ w.0 in
        let o : ((n == next) ≡ true) ⊎ ((nat_le note next && nat_lt next n) ≡ true) = or_true _ _ t.1 in
        let k : (n ≡ next) ⊎ ((note ≤ next) × (next < n)) = grind arith in
        subst (λ slot. Step size st (ReadHead s n) (slot_set st s slot, HeadRead (is_active (head_at st n)))) w.1 (marked s n next note marks queue e (lt_true _ _ t.0) k)
    at _ queue e h = absurd (cc)

step_look : (size : ℕ) (st : State) (s n m : ℕ) (slot : Slot) → of_call looking_at (slot_at st s).call ≡ Some m
    → (if n == m then Some (moved (looked_on scheme (head_at st n)) (slot_at st s)) else None) ≡ Some slot
    → Step size st (ReadHead s n) (slot_set st s slot, HeadRead (is_active (head_at st n)))
step_look size st s n m slot c h =
    let w : ((n == m) ≡ true) × (moved (looked_on scheme (head_at st n)) (slot_at st s) ≡ slot) = if_some _ _ _ h in
    let k : (place : Place) × (queue : List ℕ) × Stands st s place queue × (looking_at place queue ≡ Some m) = called st s looking_at m c in
    at k.0 k.1 k.2 k.3 (eq_true _ _ w.0) w.1
  where
    at : (place : Place) (queue : List ℕ) → Stands st s place queue → looking_at place queue ≡ Some m → n ≡ m → moved (looked_on scheme (head_at st n)) (slot_at st s) ≡ slot
        → Step size st (ReadHead s n) (slot_set st s slot, HeadRead (is_active (head_at st n)))
    at (Look b won k later) queue e c n_is moves =
        let k_is : k ≡ n = some_is _ _ c ∙ sym n_is in
        let e2 : Stands st s (Look b won n later) queue = subst (λ k. Stands st s (Look b won k later) queue) k_is e in
        subst (λ slot. Step size st (ReadHead s n) (slot_set st s slot, HeadRead (is_active (head_at st n)))) (sym (moved_to st s (looked_on scheme (head_at st n)) (Look b won n later) queue e2) ∙ moves) (looked_at s b won n later queue e2)
    at _ queue e c n_is moves = absurd (cc)

step_read : (size : ℕ) (st : State) (s n : ℕ) (o : Option ℕ) → of_call looking_at (slot_at st s).call ≡ o → (slot : Slot) → slot_read scheme st n (slot_at st s) o ≡ Some slot
    → Step size st (ReadHead s n) (slot_set st s slot, HeadRead (is_active (head_at st n)))
step_read size st s n None e slot h = step_mark size st s n slot h
step_read size st s n (Some m) e slot h = step_look size st s n m slot e h

can : (st : State) (s : ℕ) (f : Place → List ℕ → Option Bool) → unwrap_or (of_call f (slot_at st s).call) false ≡ true → of_call f (slot_at st s).call ≡ Some true
can st s f h = go (of_call f (slot_at st s).call) h
  where
    go : (o : Option Bool) → unwrap_or o false ≡ true → o ≡ Some true
    go None h = absurd (cc)
    go (Some b) h = ap (λ b. Some b) h

step_detach : (size : ℕ) (st : State) (s : ℕ) (d : State × Answer) → detach st s ≡ Some d → Step size st (Detach s) d
step_detach size st s d h =
    let w : (can_detach (slot_at st s) ≡ true) × _ = if_some _ _ _ h in
    let k : (place : Place) × (queue : List ℕ) × Stands st s place queue × (can_detach_at place queue ≡ Some true) = called st s can_detach_at true (can st s can_detach_at w.0) in
    subst (λ d. Step size st (Detach s) d) w.1 (at k.0 k.1 k.2 k.3)
  where
    after : Option Progress → State × Answer
    after call = (
      record st {
        slots = slice_set st.slots s (record { used = (slot_at st s).used; batch = []; call = moved_call (detached_on (length st.batches)) call });
        batches = st.batches ++ record { values = (slot_at st s).batch; count = pos 0 } ∷ [];
      },
      Done,
    )

    at : (place : Place) (queue : List ℕ) → Stands st s place queue → can_detach_at place queue ≡ Some true → Step size st (Detach s) (after (slot_at st s).call)
    at (Mark next note marks) queue e c =
        subst (λ o. Step size st (Detach s) (after o)) (sym e) (detached s next note marks queue e (le_true _ _ (some_is _ _ c)))
    at _ queue e c = absurd (cc)

not_seen : (head : Head) (saw : List ℕ) → is_changed head saw ≡ true → head ≢ Active saw
not_seen Inactive saw h = λ e. cc
not_seen (Active waiting) saw h = λ e. grind (arith, same_list-refl saw)

step_won : (size : ℕ) (st : State) (s n : ℕ) (d : State × Answer) (at : ℕ × ℕ) → of_call trying_at (slot_at st s).call ≡ Some at
    → (if n == at.1 then insert_into st s n at.0 (head_at st n) else None) ≡ Some d → Step size st (Insert s n Won) d
step_won size st s n d at c h =
    let k : (place : Place) × (queue : List ℕ) × Stands st s place queue × (trying_at place queue ≡ Some at) = called st s trying_at at c in
    let w : (n ≡ at.1) × (insert_into st s n at.0 (head_at st n) ≡ Some d) = into (n == at.1) refl h in
    here k.0 k.1 k.2 k.3 w.0 (head_at st n) refl w.1
  where
    into : (t : Bool) → (n == at.1) ≡ t → (if t then insert_into st s n at.0 (head_at st n) else None) ≡ Some d → (n ≡ at.1) × (insert_into st s n at.0 (head_at st n) ≡ Some d)
    into true n_is h = (eq_true _ _ n_is, h)
    into false n_is h = absurd (cc)

    here : (place : Place) (queue : List ℕ) → Stands st s place queue → trying_at place queue ≡ Some at → n ≡ at.1 → (head : Head) → head_at st n ≡ head → insert_into st s n at.0 head ≡ Some d → Step size st (Insert s n Won) d
    here (Try b won m later saw) queue e c n_is (Active waiting) head_is h =
        let at_is : (b, m) ≡ at = some_is _ _ c in
        let m_is : m ≡ n = ap (λ (x : ℕ × ℕ). x.1) at_is ∙ sym n_is in
        let e2 : Stands st s (Try b won n later saw) queue = subst (λ m. Stands st s (Try b won m later saw) queue) m_is e in
        let ends : insert_into st s n b (Active waiting) ≡ Some d = subst (λ (x : ℕ). insert_into st s n x (Active waiting) ≡ Some d) (sym (ap (λ (x : ℕ × ℕ). x.0) at_is)) h in
        subst (λ d. Step size st (Insert s n Won) d) (ap (λ (slot : Slot). (slot_set (set_head st n (Active (b ∷ waiting))) s slot, Done)) (sym (moved_to st s won_on (Try b won n later saw) queue e2)) ∙ some_is _ _ ends)
        (inserted s n b won later saw queue waiting e2 head_is)
    here (Try b won m later saw) queue e c n_is Inactive head_is h = absurd (cc)
    here _ queue e c n_is head head_is h = absurd (cc)

step_lost : (size : ℕ) (st : State) (s n : ℕ) (slot : Slot) → slot_lost scheme n (head_at st n) (slot_at st s) ≡ Some slot → Step size st (Insert s n Lost) (slot_set st s slot, Done)
step_lost size st s n slot h =
    let w : (unwrap_or (of_call (can_lose_at scheme n (head_at st n)) (slot_at st s).call) false ≡ true) × (moved lost_on (slot_at st s) ≡ slot) = if_some _ _ _ h in
    let k : (place : Place) × (queue : List ℕ) × Stands st s place queue × (can_lose_at scheme n (head_at st n) place queue ≡ Some true) = called st s (can_lose_at scheme n (head_at st n)) true (can st s (can_lose_at scheme n (head_at st n)) w.0) in
    at k.0 k.1 k.2 k.3 w.1
  where
    at : (place : Place) (queue : List ℕ) → Stands st s place queue → can_lose_at scheme n (head_at st n) place queue ≡ Some true → moved lost_on (slot_at st s) ≡ slot → Step size st (Insert s n Lost) (slot_set st s slot, Done)
    at (Try b won m later saw) queue e c moves =
        let t : ((n == m) ≡ true) × (is_changed (head_at st n) saw ≡ true) = and_true _ _ (some_is _ _ c) in
        let m_is : m ≡ n = sym (eq_true _ _ t.0) in
        let e2 : Stands st s (Try b won n later saw) queue = subst (λ m. Stands st s (Try b won m later saw) queue) m_is e in
        subst (λ slot. Step size st (Insert s n Lost) (slot_set st s slot, Done)) (sym (moved_to st s lost_on (Try b won n later saw) queue e2) ∙ moves) (lost s n b won later saw queue e2 (not_seen _ _ t.1))
    at _ queue e c moves = absurd (cc)

-- a count with the call's place told
abbrev pub counted_call : State → ℕ → ℕ → ℤ → Option Progress → Outcome
counted_call st s b count call =
    Some (
      record st {
        slots = slice_set st.slots s (record (slot_at st s) { call = call });
        batches = slice_set st.batches b (record { values = if is_zero count then [] else (batch_at st b).values; count = count });
      },
      Count count,
    )

step_add : (size : ℕ) (st : State) (s : ℕ) (d : State × Answer) (a : ℕ × ℕ) → of_call adding_at (slot_at st s).call ≡ Some a → add_count scheme st s (Some a) ≡ Some d → Step size st (AddCount s) d
step_add size st s d a c h =
    let k : (place : Place) × (queue : List ℕ) × Stands st s place queue × (adding_at place queue ≡ Some a) = called st s adding_at a c in
    here k.0 k.1 k.2 k.3
  where
    here : (place : Place) (queue : List ℕ) → Stands st s place queue → adding_at place queue ≡ Some a → Step size st (AddCount s) d
    here (Add b won) queue e c =
        let a_is : a ≡ (b, won) = sym (some_is _ _ c) in
        let count : ℤ = (batch_at st b).count +ℤ pos won in
        let given : List ℕ = if is_zero count then (batch_at st b).values else [] in
        let h2 : add_count scheme st s (Some (b, won)) ≡ Some d = subst (λ (a : ℕ × ℕ). add_count scheme st s (Some a) ≡ Some d) a_is h in
        added s b won queue d e (ap (λ (o : Option Progress). counted_call st s b count (moved_call (λ place. Rest given []) o)) (sym e) ∙ h2)
    here _ queue e c = absurd (cc)

step_sub : (size : ℕ) (st : State) (s : ℕ) (d : State × Answer) (b : ℕ) → of_call walking_at (slot_at st s).call ≡ Some b → sub_count scheme st s (Some b) ≡ Some d → Step size st (SubCount s) d
step_sub size st s d b c h =
    let k : (place : Place) × (queue : List ℕ) × Stands st s place queue × (walking_at place queue ≡ Some b) = called st s walking_at b c in
    here k.0 k.1 k.2 k.3
  where
    here : (place : Place) (queue : List ℕ) → Stands st s place queue → walking_at place queue ≡ Some b → Step size st (SubCount s) d
    here (Rest [] (a ∷ walk)) queue e c =
        let a_is : a ≡ b = some_is _ _ c in
        let e2 : Stands st s (Rest [] (b ∷ walk)) queue = subst (λ a. Stands st s (Rest [] (a ∷ walk)) queue) a_is e in
        let count : ℤ = (batch_at st b).count -ℤ pos 1 in
        let given : List ℕ = if is_zero count then (batch_at st b).values else [] in
        subtracted s b walk queue d e2 (ap (λ (o : Option Progress). counted_call st s b count (moved_call (walked_on given) o)) (sym e2) ∙ h)
    here _ queue e c = absurd (cc)

step_swap_out : (size : ℕ) (st : State) (s : ℕ) (d : State × Answer) (stays : Bool) → of_call leaving_at (slot_at st s).call ≡ Some stays → swap_out scheme st s (Some stays) ≡ Some d → Step size st (SwapOut s) d
step_swap_out size st s d stays c h =
    let k : (place : Place) × (queue : List ℕ) × Stands st s place queue × (leaving_at place queue ≡ Some stays) = called st s leaving_at stays c in
    here k.0 k.1 k.2 k.3
  where
    here : (place : Place) (queue : List ℕ) → Stands st s place queue → leaving_at place queue ≡ Some stays → Step size st (SwapOut s) d
    here (Out more) queue e c =
        let e2 : Stands st s (Out stays) queue = subst (λ more. Stands st s (Out more) queue) (some_is _ _ c) e in
        let walk : List ℕ = waiting_at (head_at st s) in
        subst (λ d. Step size st (SwapOut s) d)
        (ap (λ (slot : Slot). (slot_set (set_head st s (if stays then Active [] else Inactive)) s slot, Done)) (sym (moved_to st s (λ place. Rest [] walk) (Out stays) queue e2)) ∙ some_is _ _ h)
        (swapped_out s stays queue e2)
    here _ queue e c = absurd (cc)

step_hand : (size : ℕ) (st : State) (s : ℕ) (puts : List ℕ) (d : State × Answer) (v : ℕ) → of_call handing_at (slot_at st s).call ≡ Some v → hand scheme st s puts (Some v) ≡ Some d → Step size st (Hand s puts) d
step_hand size st s puts d v c h =
    let k : (place : Place) × (queue : List ℕ) × Stands st s place queue × (handing_at place queue ≡ Some v) = called st s handing_at v c in
    here k.0 k.1 k.2 k.3 (if_some _ _ _ h)
  where
    after : Option Progress → State × Answer
    after call = (
      record st {
        slots = slice_set st.slots s (record (slot_at st s) { call = handed_to call });
        gone = st.gone ++ v ∷ [];
        named = st.named ++ puts;
      },
      Handed v,
    )
      where
        handed_to : Option Progress → Option Progress
        handed_to None = None
        handed_to (Some call) = Some (record { place = handed_on call.place; queue = call.queue ++ puts })

    here : (place : Place) (queue : List ℕ) → Stands st s place queue → handing_at place queue ≡ Some v → (are_fresh st.named puts ≡ true) × (after (slot_at st s).call ≡ d) → Step size st (Hand s puts) d
    here (Rest (u ∷ given) walk) queue e c w =
        let e2 : Stands st s (Rest (v ∷ given) walk) queue = subst (λ u. Stands st s (Rest (u ∷ given) walk) queue) (some_is _ _ c) e in
        subst (λ d. Step size st (Hand s puts) d) (ap (λ (o : Option Progress). after o) (sym e2) ∙ w.1) (handed s v puts given walk queue e2 w.0)
    here _ queue e c w = absurd (cc)

step_return : (size : ℕ) (st : State) (s : ℕ) (slot : Slot) → slot_return (slot_at st s) ≡ Some slot → Step size st (Return s) (slot_set st s slot, Done)
step_return size st s slot h =
    let k : (place : Place) × (queue : List ℕ) × Stands st s place queue × (return_at (slot_at st s) place queue ≡ Some slot) = called st s (return_at (slot_at st s)) slot h in
    at k.0 k.1 k.2 k.3
  where
    at : (place : Place) (queue : List ℕ) → Stands st s place queue → return_at (slot_at st s) place queue ≡ Some slot → Step size st (Return s) (slot_set st s slot, Done)
    at (Rest [] []) [] e h = subst (λ slot. Step size st (Return s) (slot_set st s slot, Done)) (some_is _ _ h) (returned s e)
    at _ queue e h = absurd (cc)

step_link : (size : ℕ) (st : State) (s l : ℕ) (exchange : Exchange) (d : State × Answer) → exchange_link scheme st s l exchange ≡ Some d → Step size st (ExchangeLink s l exchange) d
step_link size st s l exchange d h =
    let w : ((can_link st s l && is_none_or_fresh st (new_link exchange)) ≡ true) × _ = if_some _ _ _ h in
    let t : (can_link st s l ≡ true) × (is_none_or_fresh st (new_link exchange) ≡ true) = and_true _ _ w.0 in
    subst (λ d. Step size st (ExchangeLink s l exchange) d) w.1 (which (is_stored (link_at st l) exchange) refl t)
  where
    which : (b : Bool) → is_stored (link_at st l) exchange ≡ b → (can_link st s l ≡ true) × (is_none_or_fresh st (new_link exchange) ≡ true)
        → Step size st (ExchangeLink s l exchange) ((if b then swapped st l (new_link exchange) else st), Link (link_at st l))
    which true e t = exchanged s l exchange (new_link exchange) t.0 t.1 (refl, e)
    which false e t = compared s l exchange t.0 (t.1, e)

pub step_of : (size : ℕ) (st : State) (event : Event) (d : State × Answer) → next size st event ≡ Some d → Step size st event d
step_of size st (Take s) d h = step_take size st s d h
step_of size st (Give s) d h =
    let w : ((is_outside st s && ends_now (has_others st s) (slot_at st s).batch st.rest) ≡ true) × _ = if_some _ _ _ h in
    let a : (is_outside st s ≡ true) × (ends_now (has_others st s) (slot_at st s).batch st.rest ≡ true) = and_true _ _ w.0 in
    let t : (is_idle (slot_at st s) ≡ true) × (is_active (head_at st s) ≡ false) = outside st s a.0 in
    subst (λ d. Step size st (Give s) d) w.1 (gave s t.0 t.1 a.1)
step_of size st (Enter s) d h =
    let w : (is_outside st s ≡ true) × _ = if_some _ _ _ h in
    let t : (is_idle (slot_at st s) ≡ true) × (is_active (head_at st s) ≡ false) = outside st s w.0 in
    subst (λ d. Step size st (Enter s) d) w.1 (entered s t.0 t.1)
step_of size st (Begin s job) d h = step_begin size st s job d h
step_of size st (Put s) d h = from_own (Step size st (Put s)) st s Done _ d h (step_put size st s)
step_of size st (ReadHead s n) d h = from_own (Step size st (ReadHead s n)) st s _ _ d h (step_read size st s n _ refl)
step_of size st (Detach s) d h = step_detach size st s d h
step_of size st (Insert s n Won) d h = from_read (Step size st (Insert s n Won)) _ (insert st s n) d refl h (step_won size st s n d)
step_of size st (Insert s n Lost) d h = from_own (Step size st (Insert s n Lost)) st s Done _ d h (step_lost size st s n)
step_of size st (AddCount s) d h = from_read (Step size st (AddCount s)) _ (add_count scheme st s) d refl h (step_add size st s d)
step_of size st (SwapOut s) d h = from_read (Step size st (SwapOut s)) _ (swap_out scheme st s) d refl h (step_swap_out size st s d)
step_of size st (SubCount s) d h = from_read (Step size st (SubCount s)) _ (sub_count scheme st s) d refl h (step_sub size st s d)
step_of size st (Hand s puts) d h = from_read (Step size st (Hand s puts)) _ (hand scheme st s puts) d refl h (step_hand size st s puts d)
step_of size st (Return s) d h = from_own (Step size st (Return s)) st s Done _ d h (step_return size st s)
step_of size st (ReadLink s l) d h =
    let w : (can_link st s l ≡ true) × _ = if_some _ _ _ h in
    subst (λ d. Step size st (ReadLink s l) d) w.1 (read s l w.0)
step_of size st (ExchangeLink s l exchange) d h = step_link size st s l exchange d h
