-- The status that the program ends with: 0, or that of a failure.
use Rattle.std.specs.Prelude.{◌≡◌, ◌⊎◌, ℕ}
use Rattle.seize_script.specs.declared.failure.Failure.{Failure}
use Rattle.seize_script.specs.declared.failure.Failure.TheVariants.{Usage, NoRow, TooLong, BadLine, NoMemory, CannotRead, CannotWrite}

abbrev pub status_of : Failure → ℕ
status_of Usage = 2
status_of (NoRow name) = 2
status_of TooLong = 2
status_of (BadLine line) = 2
status_of NoMemory = 3
status_of CannotRead = 4
status_of CannotWrite = 5

abbrev pub IsStatus : ℕ → Type 0
IsStatus n = (n ≡ 0) ⊎ ((failure : Failure) × (n ≡ status_of failure))
