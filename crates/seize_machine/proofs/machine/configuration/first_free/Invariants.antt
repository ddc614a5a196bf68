use Rattle.std.proofs.Common.{◌≡◌, ℕ, ◌<◌, true, get_or}
use Rattle.seize_machine.specs.Machine.State.{no_slot}
use Rattle.seize_machine.proofs.machine.configuration.first_free.Given as goal

abbrev pub invariant-loop-n : goal.invariant-loop-n
invariant-loop-n l = (k : ℕ) → k < l.n → (get_or l.slots k no_slot).used ≡ true
