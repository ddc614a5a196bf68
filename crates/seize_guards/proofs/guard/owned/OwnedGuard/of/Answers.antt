use Rattle.std.proofs.Common.{ℕ, arith, sym, subst, ◌∙◌}
use Rattle.seize_machine.specs.Machine.Event.{Enter}
use Rattle.seize_machine.specs.declared.machine.event.Answer.TheVariants.{Done}
use Rattle.seize_words.specs.Joined.{words_book}
use Rattle.seize_calls.specs.Slots.{its_number}
use Rattle.seize_parts.specs.Makes.{MakesOne}
use Rattle.seize_parts.specs.Reservations.{IsUnit}
use Rattle.seize_parts.proofs.Made.{none_prepared, none_then}
use Rattle.seize_parts.proofs.Placed.{still_for}
use Rattle.seize_parts.proofs.Places.{in_place}
use Rattle.seize_guards.proofs.guard.owned.OwnedGuard.of.Goals as goal

pub enter-unit-requires : goal.enter-unit-requires
enter-unit-requires g c =
    let words = c.args.parts.now.words in let made = c.new-reservation.ensures in let at = in_place (words_book words) (its_number c.args.slot) 1 c.new-reservation.result made.1 in
    let head = c.head-head.ensures.head in let for = still_for words c.args.pass.now c.head-head.new.pass c.requires.pass c.head-head.ensures.pass.same in
    (omega arith, ((made.0, at.0, for), ((head.0 ∙ c.requires.slot.0.0.book, head.1 ∙ sym at.1), (made.2, omega (arith, at.2)))))

pub invariant_of-result : goal.invariant_of-result
invariant_of-result g c =
    let n = words_book c.args.parts.now.words in let made = c.new-reservation.ensures in let at = in_place n (its_number c.args.slot) 1 c.new-reservation.result made.1 in
    let unit = subst (λ (s : ℕ). IsUnit n s c.enter-unit.result.0 c.enter-unit.result.1) (at.1 ∙ sym c.number-number.ensures) c.enter-unit.ensures.unit in
    record { homed = c.requires.home; its = unit.0; known = unit.1 }

-- the look for the head makes nothing
pub returns-clause-enters : goal.returns-clause-enters
returns-clause-enters g c =
    let at = in_place (words_book c.args.parts.now.words) (its_number c.args.slot) 1 c.new-reservation.result c.new-reservation.ensures.1 in
    none_then (none_prepared c.args.slot c.args.pass.now c.head-head.new.pass c.head-head.ensures.pass)
    (subst (λ (s : ℕ). MakesOne c.head-head.new.pass c.enter-unit.new.pass (Enter s) Done) at.1 c.enter-unit.ensures.enters)
