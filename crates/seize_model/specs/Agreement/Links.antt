-- A link's read, and its exchange without the retirement of what it held, on both models.
use Rattle.std.specs.Prelude.{◌≡◌, ℕ, ◌<◌, List, [], ◌∷◌, length, Option, Some, Result, Ok, Err}
use Rattle.seize_table.specs.declared.refusal.Refusal.{Refusal}
use Rattle.seize_machine.specs.Machine.State as machine
use Rattle.seize_machine.specs.Machine.Event.{Event, ReadLink, ExchangeLink}
use Rattle.seize_machine.specs.declared.machine.event.Exchange.TheVariants.{Swap as SwapLink}
use Rattle.seize_machine.specs.declared.machine.event.Answer.{Answer}
use Rattle.seize_machine.specs.declared.machine.event.Answer.TheVariants.{Link}
use Rattle.seize_model.specs.Waiting.State as waiting
use Rattle.seize_model.specs.Waiting.Calls as calls
use Rattle.seize_model.specs.Agreement.Shows.{held_value, ShowsState, ShowsReclaimers}
use Rattle.seize_model.specs.Agreement.Play.{play}

-- the number that was found in the link stands for what it held
abbrev pub IsFoundInLink : {T : Type 0} → (ℕ → T) → Result (Option T) Refusal → List Answer → Type 0
IsFoundInLink of (Ok found) answers = (n : Option ℕ) × (answers ≡ Link n ∷ []) × (held_value of n ≡ found)
IsFoundInLink of (Err r) answers = answers ≡ []

-- the one event of a read, or none where it is refused
abbrev pub read_events : {A : Type 0} → Result A Refusal → ℕ → ℕ → List Event
read_events (Ok found) s l = ReadLink s l ∷ []
read_events (Err r) s l = []

-- **The models agree on reads.** A read is legal, changes nothing, and finds the number of what the link holds.
abbrev pub ReadAgreement : {T : Type 0} → (R : Type 0) → (ℕ → T) → Type 0
ReadAgreement {T} R of =
    (st : waiting.ModelState T R) (before : machine.State) (s l : ℕ) → l < length st.links → ShowsState T R of st before
    → (answers : List Answer) × (play st.size before (read_events (calls.protect st s l).0 s l) ≡ Some (before, answers))
    × IsFoundInLink of (calls.protect st s l).0 answers

-- the one event of an exchange, or none where it is refused
abbrev pub exchange_events : {A : Type 0} → Result A Refusal → ℕ → ℕ → Option ℕ → List Event
exchange_events (Ok found) s l n = ExchangeLink s l (SwapLink n) ∷ []
exchange_events (Err r) s l n = []

-- these answers and this state after them are those of the exchange
pub record IsExchanged (T R : Type 0) (of : ℕ → T) (told : calls.Response (Option T) T R)
    (answers : List Answer) (later : machine.State) : Type 0 where
  pub shows : ShowsState T R of told.1.0 later
  pub found : IsFoundInLink of told.0 answers

-- an exchange for number n
pub record IsExchange (T R : Type 0) (of : ℕ → T) (st : waiting.ModelState T R) (before : machine.State)
    (s l : ℕ) (new : Option T) : Type 0 where
  pub number : Option ℕ
  pub answers : List Answer
  pub later : machine.State
  pub names : held_value of number ≡ new
  pub legal : play st.size before (exchange_events (calls.swap st s l new).0 s l number) ≡ Some (later, answers)
  pub exchanged : IsExchanged T R of (calls.swap st s l new) answers later

-- **The models agree on exchanges.** There is such an exchange, where there is always a fresh number for a value,
abbrev pub ExchangeAgreement : {T : Type 0} → (R : Type 0) → (ℕ → T) → Type 0
ExchangeAgreement {T} R of =
    (st : waiting.ModelState T R) (before : machine.State) (s l : ℕ) (new : Option T) → l < length st.links → ShowsState T R of st before
    → IsExchange T R of st before s l new

-- and each that is legal does what the exchange does
abbrev pub ExchangeOnLists : (T R : Type 0) → Type 0
ExchangeOnLists T R =
    (of : ℕ → T) (by : ℕ → R) (st : waiting.ModelState T R) (before later : machine.State) (s l : ℕ) (new : Option T) (n : Option ℕ)
    (answers : List Answer) → l < length st.links → ShowsState T R of st before → ShowsReclaimers T R of by st before
    → held_value of n ≡ new
    → play st.size before (exchange_events (calls.swap st s l new).0 s l n) ≡ Some (later, answers)
    → IsExchanged T R of (calls.swap st s l new) answers later × ShowsReclaimers T R of by (calls.swap st s l new).1.0 later
