-- The numbers of the refusals, which a program prints.
use Rattle.std.specs.Prelude.{ℕ}
use Rattle.seize_table.specs.declared.refusal.Refusal.{Refusal}
use Rattle.seize_table.specs.declared.refusal.Refusal.TheVariants.{NoMemory, NoNumbers, TooManyGuards, TooManyProcessors, NotInUse, NotActive, WrongKind}

abbrev pub refusal_number : Refusal → ℕ
refusal_number NoMemory = 1
refusal_number NoNumbers = 2
refusal_number TooManyGuards = 3
refusal_number TooManyProcessors = 4
refusal_number NotInUse = 5
refusal_number NotActive = 6
refusal_number WrongKind = 7
