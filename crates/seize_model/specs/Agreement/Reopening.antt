-- Reclaiming all, on both models.
use Rattle.std.specs.Prelude.{ℕ, List, length}
use Rattle.seize_machine.specs.Machine.State as machine
use Rattle.seize_machine.specs.Machine.State.{opening}
use Rattle.seize_model.specs.Waiting.State as waiting
use Rattle.seize_model.specs.Waiting.Calls.{reclaim_all}
use Rattle.seize_model.specs.Agreement.Shows.{ShowsReclaimers, ShowsState}

-- **Reclaiming all** leads to a state that a machine just opened shows, with as many slots and the links as they were.
abbrev pub ReopenedLaw : {T R : Type 0} → (R → T → List T) → (T → ℕ) → Type 0
ReopenedLaw {T} {R} puts weight =
    (of : ℕ → T) (by : ℕ → R) (st : waiting.ModelState T R) (before : machine.State) → ShowsState T R of st before
    → ShowsState T R of (reclaim_all puts weight st).0 (opening (length st.slots) before.links)
    × ShowsReclaimers T R of by (reclaim_all puts weight st).0 (opening (length st.slots) before.links)
