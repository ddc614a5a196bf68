use Rattle.std.proofs.Common.{ℕ, ◌-◌, ◌^◌, IfNone, refl, subst, ◌∙◌}
use Rattle.seize_calls.specs.Slots.{its_number}
use Rattle.seize_words.specs.Joined.{words_book}
use Rattle.seize_parts.specs.Makes.{StaysActive}
use Rattle.seize_parts.proofs.Placed.{unit_as}
use Rattle.seize_parts.proofs.Places.{in_place}
use Rattle.seize_guards.proofs.registration.Registration.leave_beside.Goals as goal

pub try_with-requires : goal.try_with-requires
try_with-requires g c =
    let self = c.args.self.now in let n = words_book self.parts.now.words in
    λ r keeps. let at = in_place n self.number (2 ^ 64 - 1) r (keeps.0 ∙ self.at) in
    (at.0, c.requires.pass, unit_as n self.number (its_number r.slot) c.args.unit c.args.unit c.args.seen at.1 refl c.requires.unit)

pub returns-in-Ok-clause-left : goal.returns-in-Ok-clause-left
returns-in-Ok-clause-left g c =
    let self = c.args.self.now in let had = c.in-Ok.ensures.done in let at = in_place (words_book self.parts.now.words) self.number (2 ^ 64 - 1) had.before (had.was.0 ∙ self.at) in
    subst (λ (s : ℕ). IfNone c.in-Ok.back (StaysActive s c.args.pass.now c.try_with.new.with)) at.1 had.gives.0
