use Rattle.std.proofs.Common.{ℕ, ◌-◌, ◌^◌, refl, subst, ◌∙◌}
use Rattle.seize_machine.specs.declared.machine.event.Job.TheVariants.{Flush}
use Rattle.seize_calls.specs.Slots.{its_number}
use Rattle.seize_words.specs.Joined.{words_book}
use Rattle.seize_guards.specs.Guards.{guard_collector, guard_slot}
use Rattle.seize_parts.specs.Makes.{Defers}
use Rattle.seize_parts.proofs.Placed.{unit_as}
use Rattle.seize_parts.proofs.Places.{in_place}
use Rattle.seize_guards.proofs.Guarded.{guard_place}
use Rattle.seize_guards.proofs.guard.local.LocalGuardGuard.flush.Goals as goal

pub with-requires : goal.with-requires
with-requires g c =
    let guard = c.args.self.now in let n = words_book (guard_collector guard) in let s = guard_slot guard in let core = guard.core in
    λ r keeps. let at = in_place n s (2 ^ 64 - 1) r (keeps.0 ∙ guard_place guard) in
    (at.0, c.requires.of, unit_as n s (its_number r.slot) core.unit core.unit core.seen at.1 refl (core.its, core.known), c.ender.ensures)

pub returns : goal.returns
returns g c =
    let guard = c.args.self.now in let at = in_place (words_book (guard_collector guard)) (guard_slot guard) (2 ^ 64 - 1) c.with.ensures.before (c.with.ensures.was.0 ∙ guard_place guard) in
    subst (λ (s : ℕ). Defers s Flush c.args.pass.now c.with.new.with) at.1 c.with.ensures.gives
