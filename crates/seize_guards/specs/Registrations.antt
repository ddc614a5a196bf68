-- What contracts see of a registration.
--     registered_in r, registered_slot r     the words of its collector, and its slot's number;  registered_home r     the collector
use Rattle.std.specs.Prelude.{ℕ}
use Rattle.seize_words.specs.declared.words.Words.{Words}
use Rattle.seize_guards.specs.declared.parts.Home.{Ghosts}
use Rattle.seize_guards.specs.declared.registration.Registration.{Registration}

abbrev pub registered_in : {T R C : Type 0} {H : Ghosts C T} → Registration T R C H → Words T
registered_in registration = registration.parts.now.words

abbrev pub registered_slot : {T R C : Type 0} {H : Ghosts C T} → Registration T R C H → ℕ
registered_slot registration = registration.number

abbrev pub registered_home : {T R C : Type 0} {H : Ghosts C T} → Registration T R C H → C
registered_home registration = registration.home.now
