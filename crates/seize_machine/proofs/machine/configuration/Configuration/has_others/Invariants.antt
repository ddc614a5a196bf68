use Rattle.std.proofs.Common.{◌≡◌, ◌≢◌, ℕ, ◌<◌, false, get_or}
use Rattle.seize_machine.specs.Machine.State.{no_slot}
use Rattle.seize_machine.proofs.machine.configuration.Configuration.has_others.Given as goal

abbrev pub invariant-loop-n : goal.invariant-loop-n
invariant-loop-n l = (k : ℕ) → k < l.n → k ≢ l.s → (get_or l.slot-items k no_slot).used ≡ false
