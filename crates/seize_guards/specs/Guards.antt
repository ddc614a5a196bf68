-- What contracts see of guards.
--     core_collector c, core_slot c     the words of the collector of a guard's core, and its slot's number;  core_home c     the collector
--     core_activation c        its part of the slot's activation, of another one after a refresh
--     guard_core g             the core of a guard of a registration;  guard_collector g, guard_slot g, guard_home g     what it has
--     owned_core g             the core of an owned guard;  owned_collector g, owned_slot g, owned_home g     what it has
--     IsGuardOf r g            the guard is of this registration
use Rattle.std.specs.Prelude.{◌≡◌, ℕ}
use Rattle.seize_words.specs.declared.activation.Activation.{Activation}
use Rattle.seize_words.specs.declared.words.Words.{Words}
use Rattle.seize_guards.specs.Registrations.{registered_home, registered_in, registered_slot}
use Rattle.seize_guards.specs.declared.guard.common.GuardCore.{GuardCore}
use Rattle.seize_guards.specs.declared.guard.local.LocalGuard.{LocalGuard}
use Rattle.seize_guards.specs.declared.guard.owned.OwnedGuard.{OwnedGuard}
use Rattle.seize_guards.specs.declared.parts.Home.{Ghosts}
use Rattle.seize_guards.specs.declared.registration.Registration.{Registration}

abbrev pub core_collector : {T R C : Type 0} {H : Ghosts C T} → GuardCore T R C H → Words T
core_collector core = core.parts.now.words

abbrev pub core_slot : {T R C : Type 0} {H : Ghosts C T} → GuardCore T R C H → ℕ
core_slot core = core.number

abbrev pub core_activation : {T R C : Type 0} {H : Ghosts C T} → GuardCore T R C H → Activation
core_activation core = core.unit

abbrev pub core_home : {T R C : Type 0} {H : Ghosts C T} → GuardCore T R C H → C
core_home core = core.home.now

abbrev pub guard_core : {T R C : Type 0} {H : Ghosts C T} → LocalGuard T R C H → GuardCore T R C H
guard_core guard = guard.core

abbrev pub guard_collector : {T R C : Type 0} {H : Ghosts C T} → LocalGuard T R C H → Words T
guard_collector guard = core_collector (guard_core guard)

abbrev pub guard_slot : {T R C : Type 0} {H : Ghosts C T} → LocalGuard T R C H → ℕ
guard_slot guard = core_slot (guard_core guard)

abbrev pub guard_home : {T R C : Type 0} {H : Ghosts C T} → LocalGuard T R C H → C
guard_home guard = core_home (guard_core guard)

abbrev pub IsGuardOf : {T R C : Type 0} {H : Ghosts C T} → Registration T R C H → LocalGuard T R C H → Type 0
IsGuardOf registration guard =
    (guard_collector guard ≡ registered_in registration) × (guard_slot guard ≡ registered_slot registration)
    × (guard_home guard ≡ registered_home registration)

abbrev pub owned_core : {T R C : Type 0} {H : Ghosts C T} → OwnedGuard T R C H → GuardCore T R C H
owned_core guard = guard.core

abbrev pub owned_collector : {T R C : Type 0} {H : Ghosts C T} → OwnedGuard T R C H → Words T
owned_collector guard = core_collector (owned_core guard)

abbrev pub owned_slot : {T R C : Type 0} {H : Ghosts C T} → OwnedGuard T R C H → ℕ
owned_slot guard = core_slot (owned_core guard)

abbrev pub owned_home : {T R C : Type 0} {H : Ghosts C T} → OwnedGuard T R C H → C
owned_home guard = core_home (owned_core guard)
