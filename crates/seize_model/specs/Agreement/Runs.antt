-- The worked runs of waiting sets on both models.
use Rattle.std.specs.Prelude.{ℕ, List, [], ◌∷◌, ◌++◌, map, replicate, Option, Some, None}
use Rattle.seize_machine.specs.Machine.State.{Head, opening}
use Rattle.seize_model.specs.Waiting.State.{new}
use Rattle.seize_model.specs.Waiting.Lists.{Call, run}
use Rattle.seize_model.specs.Waiting.Runs.{puts, weight, Group, Calls, All}
use Rattle.seize_model.specs.Agreement.Shows.{head_of}
use Rattle.seize_model.specs.Agreement.Driver.{machine_after}

-- the calls of a run, up to its first reclaim all
abbrev pub calls_of : List Group → List (Call ℕ (Unit {0}))
calls_of [] = []
calls_of (Calls calls ∷ groups) = calls ++ calls_of groups
calls_of (All ∷ groups) = []

-- the heads after these calls and the values handed, in order, by the events of the machine: none where one is illegal
abbrev pub by_events : ℕ → ℕ → List Group → Option (List Head × List ℕ)
by_events size links groups =
    elim (machine_after puts weight (puts tt) (new size links) (opening 0 (replicate links None)) (calls_of groups)) [
      | None ↦ None
      | Some d ↦ Some (d.0.heads, d.1)
    ]

-- the same by waiting sets
abbrev pub by_sets : ℕ → ℕ → List Group → Option (List Head × List ℕ)
by_sets size links groups =
    let r = run puts weight (new size links) (calls_of groups) in
    Some (map head_of r.1.0.slots, map (λ v. v.0) r.1.1)
