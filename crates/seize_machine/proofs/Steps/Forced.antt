-- Where a call of a slot is under way, its place tells the next event of that slot, links aside.
use Rattle.std.proofs.Common.{◌≡◌, ◌≢◌, ℕ, ◌<◌, ◌≤◌, true, false, ◌==◌, List, [], ◌∷◌, length, Option, Some, None, refl, sym, ◌∙◌, ap, subst, ◌⊎◌, inl, inr, arith}
use Rattle.std.proofs.lemmas.List.{get_or_past}
use Rattle.seize_machine.specs.Machine.State.{no_slot, State, Slot, Progress, Active, Place, Append, Mark, Look, Try, Add, Out, Rest, slot_at, head_at}
use Rattle.seize_machine.specs.Machine.Event.{Event, Put, ReadHead, Detach, Insert, AddCount, SwapOut, SubCount, Hand, Return, event_slot}
use Rattle.seize_machine.specs.Machine.Next.{are_fresh}
use Rattle.seize_machine.specs.Machine.History.{is_link_event}
use Rattle.seize_machine.specs.declared.machine.event.Try.TheVariants.{Won, Lost}
use Rattle.seize_machine.specs.declared.machine.event.Answer.{Answer}
use Rattle.seize_machine.proofs.Steps.Relation.{Step, Stands, some_is}
use Rattle.seize_machine.proofs.Invariants.Counts.{idle_call}

-- the events of slot s that are legal where its call stands so
abbrev pub Forced : State → ℕ → Place → List ℕ → Event → Type 0
Forced st s (Append v) queue e = e ≡ Put s
Forced st s (Mark next note marks) queue e =
    ((n : ℕ) × (e ≡ ReadHead s n) × (n < length st.slots) × ((n ≡ next) ⊎ ((note ≤ next) × (next < n)))) ⊎ ((e ≡ Detach s) × (note ≤ next))
Forced st s (Look b won m later) queue e = e ≡ ReadHead s m
Forced st s (Try b won m later saw) queue e = (e ≡ Insert s m Won) ⊎ ((e ≡ Insert s m Lost) × (head_at st m ≢ Active saw))
Forced st s (Add b won) queue e = e ≡ AddCount s
Forced st s (Out stays) queue e = e ≡ SwapOut s
Forced st s (Rest (v ∷ given) walk) queue e = (puts : List ℕ) × (e ≡ Hand s puts) × (are_fresh st.named puts ≡ true)
Forced st s (Rest [] (b ∷ walk)) queue e = e ≡ SubCount s
Forced st s (Rest [] []) (v ∷ queue) e = e ≡ Put s
Forced st s (Rest [] []) [] e = e ≡ Return s

-- what a step says of its own place it says of the place where the call stands
here : (st : State) (i s : ℕ) (from place : Place) (before queue : List ℕ) (e : Event) → i ≡ s → Stands st i from before → Stands st s place queue
    → Forced st i from before e → Forced st s place queue e
here st i s from place before queue e same stands now f =
    let call_is : record { place = from; queue = before } ≡ record { place = place; queue = queue } = some_is _ _ (sym stands ∙ ap (λ (k : ℕ). (slot_at st k).call) same ∙ now) in
    subst (λ (k : ℕ). Forced st k place queue e) same (subst (λ (call : Progress). Forced st i call.place call.queue e) call_is f)

-- no call is under way
none : {A : Type 0} (st : State) (i s : ℕ) (place : Place) (queue : List ℕ) → i ≡ s → (slot_at st i).call ≡ None → Stands st s place queue → A
none st i s place queue same off now = absurd (let k : Option.None ≡ Some (record { place = place; queue = queue }) = sym off ∙ ap (λ (k : ℕ). (slot_at st k).call) same ∙ now in cc)

put_forced : (st : State) (s v : ℕ) (from : Place) (before after : List ℕ) → ((from ≡ Append v) × (before ≡ after)) ⊎ ((from ≡ Rest [] []) × (before ≡ v ∷ after)) → Forced st s from before (Put s)
put_forced st s v from before after (inl w) = subst (λ (p : Place). Forced st s p before (Put s)) (sym w.0) refl
put_forced st s v from before after (inr w) = subst (λ (p : Place). Forced st s p before (Put s)) (sym w.0) (subst (λ (q : List ℕ). Forced st s (Rest [] []) q (Put s)) (sym w.1) refl)

unlinked : {A : Type 0} (i s : ℕ) → i ≡ s → (i == s) ≡ false → A
unlinked i s same n = absurd (let t : (i == s) ≡ true = grind arith in let c : true ≡ false = sym t ∙ n in cc)

pub forced : (size : ℕ) (st : State) (s : ℕ) (place : Place) (queue : List ℕ) (e : Event) (d : State × Answer) → Step size st e d → event_slot e ≡ s → is_link_event s e ≡ false
    → (slot_at st s).used ≡ true → Stands st s place queue → Forced st s place queue e
forced size st s place queue e _ (Step.took_new i at least) same apart used now = none st i s place queue same (ap (λ (slot : Slot). slot.call) (get_or_past st.slots i no_slot (omega (arith, at)))) now
forced size st s place queue e _ (Step.took_old i r free least) same apart used now = absurd (let k : false ≡ true = sym free ∙ ap (λ (k : ℕ). (slot_at st k).used) same ∙ used in cc)
forced size st s place queue e _ (Step.gave i idle off ends) same apart used now = none st i s place queue same (idle_call (slot_at st i) idle) now
forced size st s place queue e _ (Step.gathered i idle off alone some) same apart used now = none st i s place queue same (idle_call (slot_at st i) idle) now
forced size st s place queue e _ (Step.entered i idle off) same apart used now = none st i s place queue same (idle_call (slot_at st i) idle) now
forced size st s place queue e _ (Step.begun_retire i v idle new) same apart used now = none st i s place queue same (idle_call (slot_at st i) idle) now
forced size st s place queue e _ (Step.begun_other i job to idle which exact) same apart used now = none st i s place queue same (idle_call (slot_at st i) idle) now
forced size st s place queue e _ (Step.put i v from before after to stands which goes after_is) same apart used now = here st i s from place before queue e same stands now (put_forced st i v from before after which)
forced size st s place queue e _ (Step.marked i n next note marks before stands r k) same apart used now = here st i s (Mark next note marks) place before queue e same stands now (inl (n, refl, r, k))
forced size st s place queue e _ (Step.looked_at i b won m later before stands) same apart used now = here st i s (Look b won m later) place before queue e same stands now refl
forced size st s place queue e _ (Step.detached i next note marks before stands le) same apart used now = here st i s (Mark next note marks) place before queue e same stands now (inr (refl, le))
forced size st s place queue e _ (Step.inserted i m b won later saw before waiting stands head_is) same apart used now = here st i s (Try b won m later saw) place before queue e same stands now (inl refl)
forced size st s place queue e _ (Step.lost i m b won later saw before stands differs) same apart used now = here st i s (Try b won m later saw) place before queue e same stands now (inr (refl, differs))
forced size st s place queue e _ (Step.added i b won before d stands h) same apart used now = here st i s (Add b won) place before queue e same stands now refl
forced size st s place queue e _ (Step.subtracted i b walk before d stands h) same apart used now = here st i s (Rest [] (b ∷ walk)) place before queue e same stands now refl
forced size st s place queue e _ (Step.swapped_out i stays before stands) same apart used now = here st i s (Out stays) place before queue e same stands now refl
forced size st s place queue e _ (Step.handed i v puts given walk before stands new) same apart used now = here st i s (Rest (v ∷ given) walk) place before queue e same stands now (puts, refl, new)
forced size st s place queue e _ (Step.returned i stands) same apart used now = here st i s (Rest [] []) place [] queue e same stands now refl
forced size st s place queue e _ (Step.read i l can) same apart used now = unlinked i s same apart
forced size st s place queue e _ (Step.exchanged i l exchange new can fresh exact) same apart used now = unlinked i s same apart
forced size st s place queue e _ (Step.compared i l exchange can exact) same apart used now = unlinked i s same apart
