use Rattle.std.proofs.Common.{ℕ, subst, sym, ◌∙◌}
use Rattle.seize_machine.specs.declared.machine.event.Job.TheVariants.{Refresh}
use Rattle.seize_book.specs.declared.book.pass.Pass.{Pass}
use Rattle.seize_calls.specs.Slots.{IsPassOf, its_number}
use Rattle.seize_words.specs.Joined.{words_book}
use Rattle.seize_parts.specs.Puts.{PutBy}
use Rattle.seize_parts.specs.Makes.{MakesCall}
use Rattle.seize_parts.specs.Reservations.{IsUnit}
use Rattle.seize_parts.proofs.Placed.{unit_as}
use Rattle.seize_parts.proofs.Places.{first_of_two, head_for, in_place}
use Rattle.seize_guards.proofs.guard.owned.OwnedGuard.refresh.Goals as goal

pub with-unit-requires : goal.with-unit-requires
with-unit-requires g c =
    let self = c.args.self.now in let core = self.core in let collector = core.parts.now.words in let n = words_book collector in
    λ r keeps. let at = in_place n core.number 1 r (keeps.0 ∙ self.at) in
    (at.0, subst (IsPassOf collector) (sym c.with-spare.ensures.gives) c.requires.of, unit_as n core.number (its_number r.slot) core.unit c.replace-unit.result core.seen at.1 c.replace-unit.ensures.value (core.its, core.known), head_for n core.number (its_number r.slot) self.head.now self.headed at.1, c.ender.ensures)

pub invariant_of-core : goal.invariant_of-core
invariant_of-core g c =
    let self = c.args.self.now in let n = words_book self.core.parts.now.words in let at = in_place n self.core.number 1 c.with-unit.ensures.before (c.with-unit.ensures.was.0 ∙ self.at) in
    let unit = subst (λ (s : ℕ). IsUnit n s c.with-unit.result.0 c.with-unit.result.1) at.1 c.with-unit.ensures.gives.1 in record { homed = self.core.homed; its = unit.0; known = unit.1 }

pub returns-clause-refreshes : goal.returns-clause-refreshes
returns-clause-refreshes g c =
    let self = c.args.self.now in let with = c.with-unit.ensures in let pass' = c.with-unit.new.with in
    let at = in_place (words_book self.core.parts.now.words) self.core.number 1 with.before (with.was.0 ∙ self.at) in
    subst (λ (t : ℕ × Pass). MakesCall (PutBy g.row.T.coded.code g.R.Puts.puts) t.0 Refresh t.1 pass') (λ j. (at.1 j, c.with-spare.ensures.gives j)) (first_of_two with.before.guards with.before.most with.was.1.fits at.2 with.gives.0)
