use Rattle.std.proofs.Common.{ℕ, ◌-◌, ◌^◌, IfOk, subst, ◌∙◌}
use Rattle.seize_machine.specs.declared.machine.event.Job.TheVariants.{Retire}
use Rattle.seize_calls.specs.Slots.{its_value}
use Rattle.seize_words.specs.Joined.{words_book}
use Rattle.seize_parts.specs.Makes.{Defers, IsOfKind}
use Rattle.seize_parts.proofs.Places.{in_place}
use Rattle.seize_guards.proofs.registration.Registration.retire_short.Goals as goal

pub try_with-requires : goal.try_with-requires
try_with-requires g c =
    let self = c.args.self.now in λ r keeps. ((in_place (words_book self.parts.now.words) self.number (2 ^ 64 - 1) r (keeps.0 ∙ self.at)).0, c.requires.pass, c.requires.loose)

pub returns-in-Ok-clause-retired : goal.returns-in-Ok-clause-retired
returns-in-Ok-clause-retired g c =
    let self = c.args.self.now in let v = its_value c.args.loose in let had = c.in-Ok.ensures.done in let at = in_place (words_book self.parts.now.words) self.number (2 ^ 64 - 1) had.before (had.was.0 ∙ self.at) in
    subst (λ (s : ℕ). IfOk c.in-Ok.retired (λ _. Defers s (Retire v) c.args.pass.now c.try_with.new.with × IsOfKind v c.args.kind c.try_with.new.with)) at.1 had.gives.0
