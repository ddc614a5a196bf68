-- What each event does to a slot whose call is under way.
use Rattle.std.proofs.Common.{◌≡◌, ℕ, ◌+◌, ◌<◌, ◌≤◌, ℤ, pos, ◌+ℤ◌, ◌-ℤ◌, Bool, true, ◌==◌, if◌then◌else◌, nat_lt, List, [], ◌∷◌, ◌++◌, length, set, Some, None, refl, ◌∙◌, ap, ◌⊎◌, inl, inr, arith}
use Rattle.std.proofs.lemmas.List.{get_or-set_same, length-set}
use Rattle.seize_machine.specs.Machine.State.{State, Slot, Inactive, Active, Place, Append, Mark, Look, Try, Add, Out, Rest, slot_at, head_at, batch_at, is_active, waiting_at, no_slot}
use Rattle.seize_machine.specs.Machine.Event.{Put, ReadHead, Detach, Insert, AddCount, SwapOut, SubCount, Hand, Return}
use Rattle.seize_machine.specs.Machine.Next.{Outcome, next, slot_set, set_head, look, marked_place, looked, is_zero, are_fresh}
use Rattle.seize_machine.specs.declared.machine.event.Try.TheVariants.{Won}
use Rattle.seize_machine.specs.declared.machine.event.Answer.{Answer}
use Rattle.seize_machine.specs.declared.machine.event.Answer.TheVariants.{Done, Head as HeadRead, Count, Handed}
use Rattle.seize_machine.proofs.Facts.{Step, Stands, next_of, step_put as put_of, after_put, counted}
use Rattle.seize_model.proofs.Counts.{set_twice}

-- slot s has this batch, and its call stands so; all else is as in base
abbrev pub busy_slot : List ℕ → Place → List ℕ → Slot
busy_slot batch place queue = record { used = true; batch = batch; call = Some (record { place = place; queue = queue }) }

abbrev pub busy : State → ℕ → List ℕ → Place → List ℕ → State
busy base s batch place queue = slot_set base s (busy_slot batch place queue)

-- the same with no call under way
abbrev pub at_rest : State → ℕ → List ℕ → State
at_rest base s batch = slot_set base s (record { used = true; batch = batch; call = None })

pub same : (n : ℕ) → (n == n) ≡ true
same n = grind arith

pub lt_yes : (a b : ℕ) → a < b → nat_lt a b ≡ true
lt_yes a b h = grind arith

pub there : (base : State) (s : ℕ) (slot : Slot) → s < length base.slots → slot_at (slot_set base s slot) s ≡ slot
there base s slot h = get_or-set_same base.slots s slot no_slot h

pub twice : (base : State) (s : ℕ) (a b : Slot) → slot_set (slot_set base s a) s b ≡ slot_set base s b
twice base s a b = ap (λ (l : List Slot). record base { slots = l }) (set_twice base.slots s a b)

pub stands : (base : State) (s : ℕ) (batch : List ℕ) (place : Place) (queue : List ℕ) → s < length base.slots → Stands (busy base s batch place queue) s place queue
stands base s batch place queue h = ap (λ (slot : Slot). slot.call) (there base s (busy_slot batch place queue) h)

-- what a step does to the slot's record, where the rest is as told
abbrev outcome : State → Answer → Outcome
outcome st answer = Some (st, answer)

goes : (base now : State) (s : ℕ) (batch : List ℕ) (place : Place) (queue : List ℕ) (answer : Answer) (new : Slot → Slot) → s < length base.slots
    → outcome (slot_set (record now { slots = (busy base s batch place queue).slots }) s (new (slot_at (busy base s batch place queue) s))) answer
    ≡ outcome (record now { slots = set base.slots s (new (busy_slot batch place queue)) }) answer
goes base now s batch place queue answer new h =
    ap (λ (slot : Slot). Some (slot_set (record now { slots = (busy base s batch place queue).slots }) s (new slot), answer)) (there base s (busy_slot batch place queue) h)
    ∙ ap (λ (l : List Slot). Some (record now { slots = l }, answer)) (set_twice base.slots s (busy_slot batch place queue) (new (busy_slot batch place queue)))

-- a call that goes on
abbrev on : Place → List ℕ → Slot → Slot
on place queue slot = record slot { call = Some (record { place = place; queue = queue }) }

puts : (size : ℕ) (base : State) (s v : ℕ) (batch : List ℕ) (place : Place) (before after : List ℕ) → s < length base.slots
    → ((place ≡ Append v) × (before ≡ after)) ⊎ ((place ≡ Rest [] []) × (before ≡ v ∷ after))
    → next size (busy base s batch place before) (Put s) ≡ Some (busy base s (batch ++ v ∷ []) (after_put size (length base.slots) (batch ++ v ∷ [])) after, Done)
puts size base s v batch place before after h which =
    let st : State = busy base s batch place before in
    next_of size st (Put s) _ (put_of size st s v place before after (stands base s batch place before h) which)
    ∙ goes base base s batch place before Done (λ slot. record { used = slot.used; batch = slot.batch ++ v ∷ []; call = Some (record { place = after_put size (length st.slots) (slot.batch ++ v ∷ []); queue = after }) }) h
    ∙ ap (λ (n : ℕ). Some (slot_set base s (busy_slot (batch ++ v ∷ []) (after_put size n (batch ++ v ∷ [])) after), Done)) (length-set base.slots s (busy_slot batch place before))

pub put_step : (size : ℕ) (base : State) (s v : ℕ) (batch queue : List ℕ) → s < length base.slots
    → next size (busy base s batch (Append v) queue) (Put s) ≡ Some (busy base s (batch ++ v ∷ []) (after_put size (length base.slots) (batch ++ v ∷ [])) queue, Done)
put_step size base s v batch queue h = puts size base s v batch (Append v) queue queue h (inl (refl, refl))

pub put_next_step : (size : ℕ) (base : State) (s v : ℕ) (batch queue : List ℕ) → s < length base.slots
    → next size (busy base s batch (Rest [] []) (v ∷ queue)) (Put s) ≡ Some (busy base s (batch ++ v ∷ []) (after_put size (length base.slots) (batch ++ v ∷ [])) queue, Done)
put_next_step size base s v batch queue h = puts size base s v batch (Rest [] []) (v ∷ queue) queue h (inr (refl, refl))

pub mark_step : (size : ℕ) (base : State) (s n note : ℕ) (batch marked queue : List ℕ) → s < length base.slots → n < length base.slots
    → next size (busy base s batch (Mark n note marked) queue) (ReadHead s n)
    ≡ Some (busy base s batch (marked_place (is_active (head_at base n)) n note marked batch) queue, HeadRead (is_active (head_at base n)))
mark_step size base s n note batch marked queue h k =
    let st : State = busy base s batch (Mark n note marked) queue in
    let slots : length st.slots ≡ length base.slots = length-set base.slots s _ in
    let within : n < length st.slots = omega (arith, slots) in
    next_of size st (ReadHead s n) _ (Step.marked s n n note marked queue (stands base s batch (Mark n note marked) queue h) within (inl refl))
    ∙ goes base base s batch (Mark n note marked) queue (HeadRead (is_active (head_at base n))) (λ slot. on (marked_place (is_active (head_at base n)) n note marked slot.batch) queue slot) h

-- the batch becomes a retired batch
abbrev pub with_batch : State → List ℕ → State
with_batch base batch = record base { batches = base.batches ++ record { values = batch; count = pos 0 } ∷ [] }

pub detach_step : (size : ℕ) (base : State) (s n note : ℕ) (batch marked queue : List ℕ) → s < length base.slots → note ≤ n
    → next size (busy base s batch (Mark n note marked) queue) (Detach s) ≡ Some (busy (with_batch base batch) s [] (look (length base.batches) 0 marked) queue, Done)
detach_step size base s n note batch marked queue h k =
    let st : State = busy base s batch (Mark n note marked) queue in
    next_of size st (Detach s) _ (Step.detached s n note marked queue (stands base s batch (Mark n note marked) queue h) k)
    ∙ ap (λ (slot : Slot). Some (record st { slots = set st.slots s (record { used = slot.used; batch = []; call = Some (record { place = look (length st.batches) 0 marked; queue = queue }) }); batches = st.batches ++ record { values = slot.batch; count = pos 0 } ∷ [] }, Done)) (there base s (busy_slot batch (Mark n note marked) queue) h)
    ∙ ap (λ (k : State). Some (k, Done)) (twice (with_batch base batch) s _ _)

pub look_step : (size : ℕ) (base : State) (s b won m : ℕ) (batch later queue : List ℕ) → s < length base.slots
    → next size (busy base s batch (Look b won m later) queue) (ReadHead s m) ≡ Some (busy base s batch (looked (head_at base m) b won m later) queue, HeadRead (is_active (head_at base m)))
look_step size base s b won m batch later queue h =
    next_of size (busy base s batch (Look b won m later) queue) (ReadHead s m) _ (Step.looked_at s b won m later queue (stands base s batch (Look b won m later) queue h))
    ∙ goes base base s batch (Look b won m later) queue (HeadRead (is_active (head_at base m))) (on (looked (head_at base m) b won m later) queue) h

pub insert_step : (size : ℕ) (base : State) (s b won m : ℕ) (batch later saw queue waiting : List ℕ) → s < length base.slots → head_at base m ≡ Active waiting
    → next size (busy base s batch (Try b won m later saw) queue) (Insert s m Won) ≡ Some (busy (set_head base m (Active (b ∷ waiting))) s batch (look b (won + 1) later) queue, Done)
insert_step size base s b won m batch later saw queue waiting h active =
    next_of size (busy base s batch (Try b won m later saw) queue) (Insert s m Won) _ (Step.inserted s m b won later saw queue waiting (stands base s batch (Try b won m later saw) queue h) active)
    ∙ goes base (set_head base m (Active (b ∷ waiting))) s batch (Try b won m later saw) queue Done (on (look b (won + 1) later) queue) h

-- batch b has this count, and has given its values up if that is 0
abbrev pub with_count : State → ℕ → ℤ → State
with_count base b count = record base { batches = set base.batches b (record { values = if is_zero count then [] else (batch_at base b).values; count = count }) }

abbrev pub counted_place : State → ℕ → ℤ → List ℕ → Place
counted_place base b count walk = Rest (if is_zero count then (batch_at base b).values else []) walk

pub add_step : (size : ℕ) (base : State) (s b won : ℕ) (batch queue : List ℕ) (count : ℤ) → s < length base.slots → (batch_at base b).count +ℤ pos won ≡ count
    → next size (busy base s batch (Add b won) queue) (AddCount s) ≡ Some (busy (with_count base b count) s batch (counted_place base b count []) queue, Count count)
add_step size base s b won batch queue count h e =
    next_of size (busy base s batch (Add b won) queue) (AddCount s) _ (Step.added s b won queue _ (stands base s batch (Add b won) queue h) refl)
    ∙ ap (λ (c : ℤ). counted (busy base s batch (Add b won) queue) s b c [] queue) e
    ∙ goes base (with_count base b count) s batch (Add b won) queue (Count count) (on (counted_place base b count []) queue) h

pub sub_step : (size : ℕ) (base : State) (s b : ℕ) (batch walk queue : List ℕ) (count : ℤ) → s < length base.slots → (batch_at base b).count -ℤ pos 1 ≡ count
    → next size (busy base s batch (Rest [] (b ∷ walk)) queue) (SubCount s) ≡ Some (busy (with_count base b count) s batch (counted_place base b count walk) queue, Count count)
sub_step size base s b batch walk queue count h e =
    next_of size (busy base s batch (Rest [] (b ∷ walk)) queue) (SubCount s) _ (Step.subtracted s b walk queue _ (stands base s batch (Rest [] (b ∷ walk)) queue h) refl)
    ∙ ap (λ (c : ℤ). counted (busy base s batch (Rest [] (b ∷ walk)) queue) s b c walk queue) e
    ∙ goes base (with_count base b count) s batch (Rest [] (b ∷ walk)) queue (Count count) (on (counted_place base b count walk) queue) h

pub out_step : (size : ℕ) (base : State) (s : ℕ) (stays : Bool) (batch queue : List ℕ) → s < length base.slots
    → next size (busy base s batch (Out stays) queue) (SwapOut s) ≡ Some (busy (set_head base s (if stays then Active [] else Inactive)) s batch (Rest [] (waiting_at (head_at base s))) queue, Done)
out_step size base s stays batch queue h =
    next_of size (busy base s batch (Out stays) queue) (SwapOut s) _ (Step.swapped_out s stays queue (stands base s batch (Out stays) queue h))
    ∙ goes base (set_head base s (if stays then Active [] else Inactive)) s batch (Out stays) queue Done (on (Rest [] (waiting_at (head_at base s))) queue) h

-- value v is reclaimed, and these are named
abbrev pub with_gone : State → ℕ → List ℕ → State
with_gone base v puts = record base { gone = base.gone ++ v ∷ []; named = base.named ++ puts }

pub hand_step : (size : ℕ) (base : State) (s v : ℕ) (puts batch given walk queue : List ℕ) → s < length base.slots → are_fresh base.named puts ≡ true
    → next size (busy base s batch (Rest (v ∷ given) walk) queue) (Hand s puts) ≡ Some (busy (with_gone base v puts) s batch (Rest given walk) (queue ++ puts), Handed v)
hand_step size base s v puts batch given walk queue h fresh =
    next_of size (busy base s batch (Rest (v ∷ given) walk) queue) (Hand s puts) _ (Step.handed s v puts given walk queue (stands base s batch (Rest (v ∷ given) walk) queue h) fresh)
    ∙ goes base (with_gone base v puts) s batch (Rest (v ∷ given) walk) queue (Handed v) (on (Rest given walk) (queue ++ puts)) h

pub return_step : (size : ℕ) (base : State) (s : ℕ) (batch : List ℕ) → s < length base.slots
    → next size (busy base s batch (Rest [] []) []) (Return s) ≡ Some (at_rest base s batch, Done)
return_step size base s batch h =
    next_of size (busy base s batch (Rest [] []) []) (Return s) _ (Step.returned s (stands base s batch (Rest [] []) [] h))
    ∙ goes base base s batch (Rest [] []) [] Done (λ slot. record slot { call = None }) h
