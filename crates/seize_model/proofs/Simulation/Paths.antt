-- The events of a call that goes on alone: paths of forced events, and what is carried along them to the call's end.
use Rattle.std.proofs.Common.{◌≡◌, ℕ, ◌<◌, false, List, [], ◌∷◌, ◌++◌, length, Some, None, subst}
use Rattle.std.specs.List.{AllByRecursion}
use Rattle.seize_machine.specs.Machine.State.{State, Rest}
use Rattle.seize_machine.specs.Machine.Event.{Event, event_slot}
use Rattle.seize_machine.specs.Machine.Next.{next}
use Rattle.seize_machine.specs.Machine.History.{handed_value, is_link_event}
use Rattle.seize_machine.specs.declared.machine.event.Answer.{Answer}
use Rattle.seize_model.specs.Waiting.Further.{put_by}
use Rattle.seize_model.specs.Agreement.Events.{is_return}
use Rattle.seize_model.proofs.Simulation.Events.{busy, with_gone}
use Rattle.seize_model.proofs.Simulation.Determinism.{Only}
use Rattle.seize_model.proofs.Simulation.Coupling.{Naming, Denote}

-- an event of s within a call
abbrev pub IsOwn : ℕ → Event → Type 0
IsOwn s e = (event_slot e ≡ s) × (is_link_event s e ≡ false) × (is_return e ≡ false)

-- forced events that hand nothing
pub data Path (size s : ℕ) : State → State → Type 0 where
  stays : (st : State) → Path size s st st
  goes : (st : State) (e : Event) (later end : State) (answer : Answer) → next size st e ≡ Some (later, answer) → handed_value answer ≡ None → IsOwn s e → Only size s st e
      → Path size s later end → Path size s st end

pub and_then : (size s : ℕ) (a b c : State) → Path size s a b → Path size s b c → Path size s a c
and_then size s a b c (Path.stays st) p = p
and_then size s a b c (Path.goes st e later end answer n h own only more) p = Path.goes st e later c answer n h own only (and_then size s later b c more p)

pub same_state : (size s : ℕ) (a b : State) → a ≡ b → Path size s a b
same_state size s a b e = subst (λ (st : State). Path size s a st) e (Path.stays a)

-- What holds of a state and of the values handed so far, and is carried along the events of a call of s: a forced event carries it on,
-- and so does a hand of a value that was given up, for some numbers that stand for what its reclaimer puts.
pub record Carried {T R X : Type 0} (puts : R → T → List T) (of : Naming T R X) (P : T × R → Type 0) (s size : ℕ) (K : State → List ℕ → Type 0) : Type 0 where
  pub closed : (v : T × R) → P v → AllByRecursion P (put_by puts v)
  pub forced : (st later : State) (e : Event) (answer : Answer) (hs : List ℕ) → next size st e ≡ Some (later, answer) → handed_value answer ≡ None → IsOwn s e → Only size s st e → K st hs → K later hs
  pub hands : (base : State) (v : ℕ) (x : T × R) (batch given walk queue hs : List ℕ) → s < length base.slots → of.name v ≡ of.view x → P x → K (busy base s batch (Rest (v ∷ given) walk) queue) hs
      → (ns : List ℕ) × Denote of ns (put_by puts x) × K (busy (with_gone base v ns) s batch (Rest given walk) (queue ++ ns)) (hs ++ v ∷ [])

-- to the end of a path
pub along : {T R X : Type 0} (puts : R → T → List T) (of : Naming T R X) (P : T × R → Type 0) (s size : ℕ) (K : State → List ℕ → Type 0) → Carried puts of P s size K
    → (a b : State) (hs : List ℕ) → Path size s a b → K a hs → K b hs
along puts of P s size K carried a b hs (Path.stays st) k = k
along puts of P s size K carried a b hs (Path.goes st e later end answer n h own only more) k =
    along puts of P s size K carried later b hs more (carried.forced st later e answer hs n h own only k)
