use Rattle.std.proofs.Common.{ℕ, refl, subst, ◌∙◌}
use Rattle.seize_machine.specs.declared.machine.event.Job.TheVariants.{Flush}
use Rattle.seize_calls.specs.Slots.{its_number}
use Rattle.seize_words.specs.Joined.{words_book}
use Rattle.seize_parts.specs.Makes.{Defers}
use Rattle.seize_parts.proofs.Placed.{unit_as}
use Rattle.seize_parts.proofs.Places.{in_place}
use Rattle.seize_guards.proofs.guard.owned.OwnedGuardGuard.flush.Goals as goal

pub with-requires : goal.with-requires
with-requires g c =
    let self = c.args.self.now in let core = self.core in let n = words_book core.parts.now.words in
    λ r keeps. let at = in_place n core.number 1 r (keeps.0 ∙ self.at) in
    (at.0, c.requires.of, unit_as n core.number (its_number r.slot) core.unit core.unit core.seen at.1 refl (core.its, core.known), c.ender.ensures)

pub returns : goal.returns
returns g c =
    let self = c.args.self.now in let at = in_place (words_book self.core.parts.now.words) self.core.number 1 c.with.ensures.before (c.with.ensures.was.0 ∙ self.at) in
    subst (λ (s : ℕ). Defers s Flush c.args.pass.now c.with.new.with) at.1 c.with.ensures.gives
