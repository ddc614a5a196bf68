use Rattle.std.proofs.Common.{◌≡◌, ℕ, ◌⊎◌, ◌-◌, ◌^◌, inl, inr, subst, sym, ◌∙◌}
use Rattle.seize_machine.specs.declared.machine.event.Job.TheVariants.{Refresh}
use Rattle.seize_book.specs.declared.book.pass.Pass.{Pass}
use Rattle.seize_words.specs.declared.activation.Activation.{Activation}
use Rattle.seize_calls.specs.Slots.{IsPassOf, its_number}
use Rattle.seize_words.specs.Joined.{words_book}
use Rattle.seize_guards.specs.Guards.{guard_collector, guard_slot}
use Rattle.seize_parts.specs.Puts.{PutBy}
use Rattle.seize_parts.specs.Makes.{MakesCall, StaysActive}
use Rattle.seize_parts.specs.Reservations.{IsUnit}
use Rattle.seize_parts.proofs.Placed.{unit_as}
use Rattle.seize_parts.proofs.Places.{head_for, in_place, one_of_two}
use Rattle.seize_guards.proofs.Guarded.{guard_head, guard_place}
use Rattle.seize_guards.proofs.guard.local.LocalGuardGuard.refresh.Goals as goal

-- others may stand beside a local guard
with_others : {X Y Z : Type 0} → X ⊎ (Y × Z) → X ⊎ (Unit {0} × Y × Z)
with_others (inl x) = inl x
with_others (inr y) = inr (tt, y.0, y.1)

pub with-unit-requires : goal.with-unit-requires
with-unit-requires g c =
    let guard = c.args.self.now in let collector = guard_collector guard in let n = words_book collector in let s = guard_slot guard in let core = guard.core in
    λ r keeps. let at = in_place n s (2 ^ 64 - 1) r (keeps.0 ∙ guard_place guard) in
    (at.0, subst (IsPassOf collector) (sym c.with-spare.ensures.gives) c.requires.of, unit_as n s (its_number r.slot) core.unit c.replace-unit.result core.seen at.1 c.replace-unit.ensures.value (core.its, core.known), head_for n s (its_number r.slot) guard.registration.now.head.now (guard_head guard) at.1, c.ender.ensures)

pub invariant_of-core : goal.invariant_of-core
invariant_of-core g c =
    let guard = c.args.self.now in let n = words_book (guard_collector guard) in
    let at = in_place n (guard_slot guard) (2 ^ 64 - 1) c.with-unit.ensures.before (c.with-unit.ensures.was.0 ∙ guard_place guard) in
    let unit = subst (λ (s : ℕ). IsUnit n s c.with-unit.result.0 c.with-unit.result.1) at.1 c.with-unit.ensures.gives.1 in record { homed = guard.core.homed; its = unit.0; known = unit.1 }

pub returns-clause-refreshes : goal.returns-clause-refreshes
returns-clause-refreshes g c =
    let guard = c.args.self.now in let gives = c.with-unit.ensures.gives in let pass = c.args.pass.now in let pass' = c.with-unit.new.with in
    let at = in_place (words_book (guard_collector guard)) (guard_slot guard) (2 ^ 64 - 1) c.with-unit.ensures.before (c.with-unit.ensures.was.0 ∙ guard_place guard) in
    let same : c.replace-unit.result ≡ guard.core.unit = c.replace-unit.ensures.value in
    with_others (subst (λ (t : ℕ × Pass × Activation). MakesCall (PutBy g.row.T.coded.code g.R.Puts.puts) t.0 Refresh t.1 pass' ⊎ (StaysActive t.0 t.1 pass' × (c.with-unit.result.0 ≡ t.2)))
    (λ j. (at.1 j, c.with-spare.ensures.gives j, same j)) (one_of_two gives.0))
