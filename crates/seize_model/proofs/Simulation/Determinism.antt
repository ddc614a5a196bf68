-- Where a call of a slot is under way and no other, the next event of that slot is forced, but for the numbers that a reclaimer puts.
use Rattle.std.proofs.Common.{◌≡◌, ℕ, ◌<◌, ◌≤◌, Bool, true, false, List, [], ◌∷◌, length, Some, ◌∙◌, ap, ◌⊎◌, inl, inr, arith}
use Rattle.std.proofs.lemmas.List.{length-set}
use Rattle.seize_machine.specs.Machine.State.{State, Slot, Active, Place, Append, Mark, Look, Try, Add, Out, Rest, head_at}
use Rattle.seize_machine.specs.Machine.Event.{Event, Put, ReadHead, Detach, Insert, AddCount, SwapOut, SubCount, Hand, Return, event_slot}
use Rattle.seize_machine.specs.Machine.Next.{next, are_fresh}
use Rattle.seize_machine.specs.Machine.History.{is_link_event}
use Rattle.seize_machine.specs.declared.machine.event.Try.TheVariants.{Won}
use Rattle.seize_machine.specs.declared.machine.event.Answer.{Answer}
use Rattle.seize_machine.proofs.Facts.{step_of, Forced, forced}
use Rattle.seize_model.proofs.Simulation.Events.{busy, busy_slot, there, stands}

-- no event of slot s but this one, and but those of links, is legal
abbrev pub Only : ℕ → ℕ → State → Event → Type 0
Only size s st e = (other : Event) (d : State × Answer) → event_slot other ≡ s → is_link_event s other ≡ false → next size st other ≡ Some d → other ≡ e

-- what is forced where the call of s stands so
at : (size : ℕ) (base : State) (s : ℕ) (batch : List ℕ) (place : Place) (queue : List ℕ) → s < length base.slots → (e : Event) (d : State × Answer)
    → event_slot e ≡ s → is_link_event s e ≡ false → next size (busy base s batch place queue) e ≡ Some d → Forced (busy base s batch place queue) s place queue e
at size base s batch place queue h e d own apart legal =
    let st : State = busy base s batch place queue in
    forced size st s place queue e d (step_of size st e d legal) own apart (ap (λ (slot : Slot). slot.used) (there base s (busy_slot batch place queue) h)) (stands base s batch place queue h)

pub only_append : (size : ℕ) (base : State) (s : ℕ) (v : ℕ) (batch queue : List ℕ) → s < length base.slots
    → Only size s (busy base s batch (Append v) queue) (Put s)
only_append size base s v batch queue h other d own apart legal = at size base s batch (Append v) queue h other d own apart legal

pub only_add : (size : ℕ) (base : State) (s : ℕ) (b won : ℕ) (batch queue : List ℕ) → s < length base.slots
    → Only size s (busy base s batch (Add b won) queue) (AddCount s)
only_add size base s b won batch queue h other d own apart legal = at size base s batch (Add b won) queue h other d own apart legal

pub only_out : (size : ℕ) (base : State) (s : ℕ) (stays : Bool) (batch queue : List ℕ) → s < length base.slots
    → Only size s (busy base s batch (Out stays) queue) (SwapOut s)
only_out size base s stays batch queue h other d own apart legal = at size base s batch (Out stays) queue h other d own apart legal

pub only_sub : (size : ℕ) (base : State) (s : ℕ) (b : ℕ) (batch walk queue : List ℕ) → s < length base.slots
    → Only size s (busy base s batch (Rest [] (b ∷ walk)) queue) (SubCount s)
only_sub size base s b batch walk queue h other d own apart legal = at size base s batch (Rest [] (b ∷ walk)) queue h other d own apart legal

pub only_queue : (size : ℕ) (base : State) (s : ℕ) (v : ℕ) (batch queue : List ℕ) → s < length base.slots
    → Only size s (busy base s batch (Rest [] []) (v ∷ queue)) (Put s)
only_queue size base s v batch queue h other d own apart legal = at size base s batch (Rest [] []) (v ∷ queue) h other d own apart legal

pub only_return : (size : ℕ) (base : State) (s : ℕ) (batch : List ℕ) → s < length base.slots
    → Only size s (busy base s batch (Rest [] []) []) (Return s)
only_return size base s batch h other d own apart legal = at size base s batch (Rest [] []) [] h other d own apart legal

pub only_look : (size : ℕ) (base : State) (s : ℕ) (b won m : ℕ) (batch later queue : List ℕ) → s < length base.slots
    → Only size s (busy base s batch (Look b won m later) queue) (ReadHead s m)
only_look size base s b won m batch later queue h other d own apart legal = at size base s batch (Look b won m later) queue h other d own apart legal

-- Below the note the next number is read, and no other.
pub only_mark : (size : ℕ) (base : State) (s : ℕ) (n note : ℕ) (batch marked queue : List ℕ) → s < length base.slots → n < note
    → Only size s (busy base s batch (Mark n note marked) queue) (ReadHead s n)
only_mark size base s n note batch marked queue h below other d own apart legal = go (at size base s batch (Mark n note marked) queue h other d own apart legal)
  where
    first : (k : ℕ) → (k ≡ n) ⊎ ((note ≤ n) × (n < k)) → k ≡ n
    first k (inl e) = e
    first k (inr w) = absurd (omega (arith, w.0))

    go : Forced (busy base s batch (Mark n note marked) queue) s (Mark n note marked) queue other → other ≡ ReadHead s n
    go (inl r) = r.1 ∙ ap (λ (k : ℕ). ReadHead s k) (first r.0 r.3)
    go (inr r) = absurd (omega (arith, r.1))

-- Once every head was read, the batch is detached.
pub only_detach : (size : ℕ) (base : State) (s : ℕ) (n note : ℕ) (batch marked queue : List ℕ) → s < length base.slots → length base.slots ≤ n
    → Only size s (busy base s batch (Mark n note marked) queue) (Detach s)
only_detach size base s n note batch marked queue h past other d own apart legal = go (at size base s batch (Mark n note marked) queue h other d own apart legal)
  where
    none : (k : ℕ) → k < length (busy base s batch (Mark n note marked) queue).slots → (k ≡ n) ⊎ ((note ≤ n) × (n < k)) → other ≡ Detach s
    none k r (inl e) = absurd (omega (arith, length-set base.slots s (busy_slot batch (Mark n note marked) queue)))
    none k r (inr w) = absurd (omega (arith, w.1, length-set base.slots s (busy_slot batch (Mark n note marked) queue)))

    go : Forced (busy base s batch (Mark n note marked) queue) s (Mark n note marked) queue other → other ≡ Detach s
    go (inl r) = none r.0 r.2 r.3
    go (inr r) = r.0

-- An insertion is won, since nobody changes the head that was read.
pub only_insert : (size : ℕ) (base : State) (s : ℕ) (b won m : ℕ) (batch later saw queue : List ℕ) → s < length base.slots → head_at base m ≡ Active saw
    → Only size s (busy base s batch (Try b won m later saw) queue) (Insert s m Won)
only_insert size base s b won m batch later saw queue h head_is other d own apart legal = go (at size base s batch (Try b won m later saw) queue h other d own apart legal)
  where
    go : Forced (busy base s batch (Try b won m later saw) queue) s (Try b won m later saw) queue other → other ≡ Insert s m Won
    go (inl e) = e
    go (inr w) = absurd (w.1 head_is)

-- A value that was given up is handed, with what its reclaimer puts.
pub only_hand : (size : ℕ) (base : State) (s v : ℕ) (batch given walk queue : List ℕ) → s < length base.slots
    → (other : Event) (d : State × Answer) → event_slot other ≡ s → is_link_event s other ≡ false → next size (busy base s batch (Rest (v ∷ given) walk) queue) other ≡ Some d
    → (ns : List ℕ) × (other ≡ Hand s ns) × (are_fresh base.named ns ≡ true)
only_hand size base s v batch given walk queue h other d own apart legal = at size base s batch (Rest (v ∷ given) walk) queue h other d own apart legal
