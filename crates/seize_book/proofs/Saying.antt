-- Entries that say of each value that they retire or put what is kept of it: those whose events retire and put none do, and so does a list to
-- which such an entry is added.
use Rattle.std.proofs.Common.{◌≡◌, ℕ, ◌≤◌, Bool, true, false, ◌||◌, ◌==◌, List, [], ◌∷◌, ◌++◌, length, refl, arith}
use Rattle.seize_machine.specs.Machine.State.{State}
use Rattle.seize_machine.specs.Machine.Event.{Event, Begin, Hand}
use Rattle.seize_machine.specs.declared.machine.event.Job.{Job}
use Rattle.seize_machine.specs.declared.machine.event.Job.TheVariants.{Retire}
use Rattle.seize_book.specs.Entry.{Deed, Entry, Made}
use Rattle.seize_book.specs.Homes.{changes_home, home_of}
use Rattle.seize_book.specs.Saying.{AllSay, SaysAll, retires_by}
use Rattle.seize_book.proofs.Lists.{equal}

pub all_say : (log : List Entry) (e : Entry) → AllSay log → SaysAll e → AllSay (log ++ e ∷ [])
all_say [] e say says = (says, tt)
all_say (x ∷ log) e say says = (say.0, all_say log e say.1 says)

-- an event that changes no value
pub says_none : (st : State) (d : Deed) → ((k : ℕ) → changes_home st k d.event ≡ false) → SaysAll (Made d)
says_none st d none = go d.event none
  where
    of_job : (s : ℕ) (job : Job) → ((k : ℕ) → changes_home st k (Begin s job) ≡ false) → length (retires_by (Begin s job)) ≤ length d.kepts
    of_job s (Retire v) none = absurd (let x : (home_of v == home_of v) ≡ false = none (home_of v) in grind arith)
    of_job s _ none = omega arith

    of_puts : (s : ℕ) (puts : List ℕ) → ((k : ℕ) → changes_home st k (Hand s puts) ≡ false) → length puts ≤ length d.kepts
    of_puts s [] none = omega arith
    of_puts s (v ∷ vs) none = absurd (differs (home_of v == home_of v) _ (none (home_of v)) (equal (home_of v) (home_of v) refl))
      where
        differs : (a b : Bool) → (a || b) ≡ false → a ≡ true → ⊥
        differs true b h is = cc
        differs false b h is = cc

    go : (event : Event) → ((k : ℕ) → changes_home st k event ≡ false) → length (retires_by event) ≤ length d.kepts
    go (Begin s job) none = of_job s job none
    go (Hand s puts) none = of_puts s puts none
    go _ none = omega arith
