-- Lists of calls: each call gives its reply, and the whole list its replies, the state after it and the values gone.
use Rattle.std.specs.Prelude.{◌≡◌, ◌⊎◌, ℕ, Bool, true, false, if◌then◌else◌, List, [], ◌∷◌, Option, Some, None, Result, Ok, Err, is_some}
use Rattle.std.specs.List.{list_any}
use Rattle.seize_model.specs.declared.kind.Kind.TheVariants.{Registered, Owned}
use Rattle.seize_table.specs.declared.refusal.Refusal.{Refusal}
use Rattle.seize_table.specs.declared.refusal.Refusal.TheVariants.{NoMemory}
use Rattle.seize_model.specs.Waiting.State.{ModelState}
use Rattle.seize_model.specs.Waiting.Attempt.{StateAndGone, with_gone}
use Rattle.seize_model.specs.Waiting.Calls.{Response, take_number, enter, leave, end_slot, refresh, flush, retire, protect, swap}

-- one call of a list, with its slot
pub data Call (T R : Type 0) : Type 0 where
  Register : Call T R
  EnterOwned : Call T R
  Enter : (slot : ℕ) → Call T R
  Leave : (slot : ℕ) → Call T R
  End : (slot : ℕ) → Call T R
  Refresh : (slot : ℕ) → Call T R
  Flush : (slot : ℕ) → Call T R
  Retire : (slot : ℕ) → (value : T) → (reclaim : R) → Call T R
  Protect : (slot link : ℕ) → Call T R
  -- the link holds the new value, and what it held is retired by the slot
  Swap : (slot link : ℕ) → (new : Option T) → (reclaim : R) → Call T R

pub data Reply (T : Type 0) : Type 0 where
  Done : Reply T
  -- the number that was taken
  Number : (number : ℕ) → Reply T
  -- the number was not given back
  Kept : Reply T
  -- whether the link holds a value
  Found : (found : Bool) → Reply T
  -- the call was refused, and the value that was given comes back
  Refused : (refusal : Refusal) → (back : Option T) → Reply T

-- what a call does: its reply, and its outcome
abbrev pub Effect : (T R : Type 0) → Type 0
Effect T R = Reply T × StateAndGone T R

-- the reply to an answer; a refusal gives this value back
abbrev pub reply_to : {A T : Type 0} → (A → Reply T) → Option T → Result A Refusal → Reply T
reply_to f back (Ok a) = f a
reply_to f back (Err r) = Refused r back

abbrev pub reply : {A T R : Type 0} → (A → Reply T) → Option T → Response A T R → Effect T R
reply f back a = (reply_to f back a.0, a.1)

abbrev pub done_reply : {A T : Type 0} → A → Reply T
done_reply _ = Done

abbrev pub end_reply : {T : Type 0} → Bool → Reply T
end_reply given = if given then Done else Kept

-- what a swap took out is retired
abbrev pub retire_old : {T R : Type 0} → (R → T → List T) → (T → ℕ) → ℕ → Option T → R → Result (Option T) Refusal → StateAndGone T R
    → Effect T R
retire_old puts weight s new reclaim (Err r) o = (Refused r new, o)
retire_old puts weight s new reclaim (Ok None) o = (Done, o)
retire_old puts weight s new reclaim (Ok (Some v)) o = reply done_reply (Some v) (retire puts weight o.0 s v reclaim)

-- **One call.**
abbrev pub step : {T R : Type 0} → (R → T → List T) → (T → ℕ) → ModelState T R → Call T R → Effect T R
step puts weight st Register = reply Number None (take_number puts weight st Registered 0)
step puts weight st EnterOwned = reply Number None (take_number puts weight st Owned 1)
step puts weight st (Enter s) = reply done_reply None (enter st s)
step puts weight st (Leave s) = reply done_reply None (leave puts weight st s)
step puts weight st (End s) = reply end_reply None (end_slot puts weight st s)
step puts weight st (Refresh s) = reply done_reply None (refresh puts weight st s)
step puts weight st (Flush s) = reply done_reply None (flush puts weight st s)
step puts weight st (Retire s v r) = reply done_reply (Some v) (retire puts weight st s v r)
step puts weight st (Protect s l) = reply (λ found. Found (is_some found)) None (protect st s l)
step puts weight st (Swap s l new r) = let a = swap st s l new in retire_old puts weight s new r a.0 a.1

-- **A list of calls.**
abbrev pub run : {T R : Type 0} → (R → T → List T) → (T → ℕ) → ModelState T R → List (Call T R) → List (Reply T) × StateAndGone T R
run puts weight st [] = ([], (st, []))
run puts weight st (c ∷ cs) =
    let a = step puts weight st c in
    let r = run puts weight a.1.0 cs in
    (a.0 ∷ r.0, with_gone a.1.1 r.1)

-- the call takes a number
abbrev pub takes_number : {T R : Type 0} → Call T R → Bool
takes_number Register = true
takes_number EnterOwned = true
takes_number _ = false

-- one call where memory may be refused: a call that takes a number then does nothing
abbrev pub Answered : {T R : Type 0} → (R → T → List T) → (T → ℕ) → ModelState T R → Call T R → Reply T → StateAndGone T R → Type 0
Answered puts weight st call answer o =
    ((answer ≡ (step puts weight st call).0) × (o ≡ (step puts weight st call).1))
    ⊎ ((takes_number call ≡ true) × (answer ≡ Refused NoMemory None) × (o ≡ (st, [])))

-- **A list of calls where memory may be refused**: these calls were made one after another, with these replies and this outcome.
pub data Replied {T R : Type 0} (puts : R → T → List T) (weight : T → ℕ)
    : ModelState T R → List (Call T R) → List (Reply T) → StateAndGone T R → Type 0 where
  no_call : (st : ModelState T R) → Replied puts weight st [] [] (st, [])
  first_call : (st : ModelState T R) (call : Call T R) (answer : Reply T) (o : StateAndGone T R)
      (calls : List (Call T R)) (answers : List (Reply T)) (rest : StateAndGone T R)
      → Answered puts weight st call answer o
      → Replied puts weight o.0 calls answers rest
      → Replied puts weight st (call ∷ calls) (answer ∷ answers) (with_gone o.1 rest)

-- the reply is that memory was refused
abbrev pub wants_memory : {T : Type 0} → Reply T → Bool
wants_memory (Refused NoMemory back) = true
wants_memory _ = false

-- Where no reply is that memory was refused, the calls did what `run` says.
abbrev pub AmpleLaw : {T R : Type 0} → (R → T → List T) → (T → ℕ) → Type 0
AmpleLaw {T} {R} puts weight =
    (st : ModelState T R) (calls : List (Call T R)) (answers : List (Reply T)) (o : StateAndGone T R)
    → Replied puts weight st calls answers o
    → list_any wants_memory answers ≡ false
    → (answers, o) ≡ run puts weight st calls
