use Rattle.std.proofs.Common.{◌≡◌, ℕ, ◌+◌, ◌-◌, ◌^◌, subst, ◌∙◌}
use Rattle.core.specs.Result.{IfOk}
use Rattle.core.specs.declared.result.Result.{Result}
use Rattle.seize_table.specs.declared.refusal.Refusal.{Refusal}
use Rattle.seize_book.specs.declared.book.seen.Seen.{Seen}
use Rattle.seize_words.specs.declared.activation.Activation.{Activation}
use Rattle.seize_calls.specs.Slots.{its_number}
use Rattle.seize_words.specs.Joined.{words_book}
use Rattle.seize_parts.specs.Makes.{Enters}
use Rattle.seize_parts.specs.Reservations.{IsUnit}
use Rattle.seize_parts.proofs.Places.{head_for, in_place}
use Rattle.seize_guards.proofs.registration.Registration.enter.Goals as goal

pub try_with-requires : goal.try_with-requires
try_with-requires g c =
    let self = c.args.self.now in
    let n = words_book self.parts.now.words in
    λ r keeps. let at = in_place n self.number (2 ^ 64 - 1) r (keeps.0 ∙ self.at) in (at.0, c.requires.pass, head_for n self.number (its_number r.slot) self.head.now self.headed at.1)

pub invariant_of-core : goal.invariant_of-core
invariant_of-core g c =
    let self = c.args.self.now in let n = words_book self.parts.now.words in let had = c.in-Ok-Ok.ensures.done in let t = its_number had.before.slot in
    let at = in_place n self.number (2 ^ 64 - 1) had.before (had.was.0 ∙ self.at) in
    let made = subst (λ (e : Result (Activation × Seen) Refusal). IfOk e (λ made. Enters t c.args.pass.now c.try_with.new.with × IsUnit n t made.0 made.1 × (had.after.guards ≡ had.before.guards + 1))) c.in-Ok-Ok.field-0-is had.gives.0 in
    let unit = subst (λ (s : ℕ). IsUnit n s c.in-Ok-Ok.unit c.in-Ok-Ok.seen) at.1 made.1 in record { homed = self.homed; its = unit.0; known = unit.1 }
